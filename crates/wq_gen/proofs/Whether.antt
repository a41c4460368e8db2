-- The candidates if there is a generator, and if there is none.
use Rattle.std.proofs.Common.{◌≡◌, true, false, not, ◌||◌, List, ap, sym}
use Rattle.wq_record.specs.RecordData.{RecordData}
use Rattle.wq_view.specs.Position.{all_positions, positions_of}
use Rattle.wq_term.specs.declared.generators.Generators.{Generators}
use Rattle.wq_gen.specs.Candidate.{is_any_there, is_candidate, is_given}
use Rattle.wq_gen.proofs.Positions.{all_pass}

-- if there is a generator, the candidates are the records that are given
pub some_there : (generators : Generators) (rs : List RecordData) → is_any_there generators ≡ true → positions_of (is_given generators) rs ≡ positions_of (is_candidate generators) rs
some_there generators rs there =
    ap (λ b. positions_of (λ r. not b || is_given generators r) rs) (sym there)

-- if there is none, the candidates are all records
pub none_there : (generators : Generators) (rs : List RecordData) → is_any_there generators ≡ false → all_positions rs ≡ positions_of (is_candidate generators) rs
none_there generators rs none =
    sym (all_pass (is_candidate generators) rs (λ r. ap (λ b. not b || is_given generators r) none))
