-- The beginnings of `program-add` and `program-del`, and the reply to `program-list`: the server
-- keeps programs under names. They are this server's own.
use Rattle.std.specs.Prelude.{ℕ, not, List, length, is_some}
use Rattle.std.specs.Prelude.{Result, Ok}
use Rattle.serde_json.specs.Data.{Data}
use Rattle.wq_base.specs.Fault.{unless_fault}
use Rattle.wq_code.specs.declared.raw.Raw.{Raw}
use Rattle.wq_registry.specs.Limit.{max_programs}
use Rattle.wq_registry.specs.ByName.{has_no_place, names, under}
use Rattle.wq_registry.specs.Shelf.{with_program, without_program}
use Rattle.wq_session.specs.Out.{replies}
use Rattle.wq_ask.specs.declared.refusal.Refusal.{Refusal}
use Rattle.wq_ask.specs.declared.refusal.Refusal.TheVariants.{ShelfFull}
use Rattle.wq_ask.specs.Program.{added_data, programs_data, deleted_data}
use Rattle.wq_session.specs.At.{ShelfNow}
use Rattle.wq_session.specs.Work.{BegunData, says}

-- the beginning of `program-add`
abbrev pub begun_add : List ℕ → Raw → ShelfNow → Result BegunData Refusal
begun_add name program shelf =
    unless_fault ShelfFull (not (has_no_place max_programs name shelf.programs)) (
    Ok (record {
      work = says (replies
          (added_data name (length program.code) (is_some (under name shelf.programs))));
      shelf = with_program name program shelf;
    }))

-- the reply to `program-list`
abbrev pub programs_on : ShelfNow → Data
programs_on shelf = programs_data (names shelf.programs)

-- the beginning of `program-del`
abbrev pub begun_delete : List ℕ → ShelfNow → Result BegunData Refusal
begun_delete name shelf =
    Ok (record {
      work = says (replies (deleted_data name (is_some (under name shelf.programs))));
      shelf = without_program name shelf;
    })
