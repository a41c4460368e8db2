-- A pass over a root that has a view, as it differs from the view. No public document defines it.
use Rattle.std.specs.Prelude.{ℤ, IsTrue, List, refl}
use Rattle.std.specs.Coded.{Coded, code_by, coded×}
use Rattle.std.specs.List.{list_all}
use Rattle.wq_record.specs.RecordData.{RecordData}
use Rattle.wq_record.specs.Seen.{is_lawful_row}
use Rattle.wq_view.specs.Listing.{PassData, listing_of, pass_code}
use Rattle.wq_view.specs.Patch.{patched}
use Rattle.wq_view.specs.Patching.{ArePatches}
use Rattle.wq_view.specs.View.{ViewData, view_code}
use Rattle.wq_view.specs.declared.patch.Patch.{Patch}

-- a view, and a pass over its root
pub record ChangeData : Type 0 where
  pub base : ViewData
  pub pass : PassData

-- a change as the pair of its parts
abbrev pub change_code : Coded ChangeData
change_code =
    code_by (ViewData × PassData) (coded× view_code pass_code)
    (λ change. (change.base, change.pass))
    (λ (base, pass). record { base = base; pass = pass }) (λ _. refl)

-- the pass that differs by patches from these records
abbrev pub pass_by : List RecordData → List Patch → ℤ → PassData
pass_by records patches second = listing_of (patched records patches) second

-- patches that fit these records, and with which all rows are lawful
pub record MakePass (records : List RecordData) (patches : List Patch) : Type 0 where
  pub fit : ArePatches records patches
  pub lawful : IsTrue (list_all is_lawful_row (patched records patches))
