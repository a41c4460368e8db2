-- A program of the first version does what it did.
use Rattle.std.proofs.Common.{◌≡◌, ℕ, zero, suc, ◌+◌, List, Option, Some, None, refl, ap, ◌∙◌}
use Rattle.std.specs.Prelude.{slice_get}
use Rattle.std.specs.Option.{option_map_or}
use Rattle.wq_code.specs.Item.{Item}
use Rattle.wq_code.specs.Flow.{flow}
use Rattle.wq_code.specs.First.{FirstRaw, migrate}
use Rattle.wq_code.specs.FirstMachine.{first_cells_after, first_charge, first_step, first_advance, first_after}
use Rattle.wq_code.specs.Law.{FirstRunsStay}
use Rattle.wq_code.specs.Machine.{Cell, Outcome, Running, Answered, Trapped, cells_after, charge, go_on, step, advance, after}
use Rattle.wq_code.specs.declared.operation.Op.{Op}
use Rattle.wq_code.specs.declared.operation.Op.TheVariants.{AnyMatch}

-- an empty table has nothing at any place
same_cells : (raw : FirstRaw) (item : Item) (op : Op) (cells : List Cell)
    → cells_after (migrate raw) item op cells ≡ first_cells_after raw item op cells
unfolding cells_after first_cells_after
same_cells raw item (AnyMatch zero) cells = refl
same_cells raw item (AnyMatch (suc n)) cells = refl
same_cells raw item op cells = refl

same_charge : (raw : FirstRaw) (op : Op) (cells : List Cell) → charge (migrate raw) op cells ≡ first_charge raw op cells
same_charge raw (AnyMatch zero) cells = refl
same_charge raw (AnyMatch (suc n)) cells = refl
same_charge raw op cells = refl

same_done : (raw : FirstRaw) (item : Item) (place : ℕ) (cells : List Cell) (steps : ℕ) (found : Option Op)
    → option_map_or (λ op. go_on (flow op) place (cells_after (migrate raw) item op cells) (steps + charge (migrate raw) op cells)) found Trapped
    ≡ option_map_or (λ op. go_on (flow op) place (first_cells_after raw item op cells) (steps + first_charge raw op cells)) found Trapped
same_done raw item place cells steps None = refl
same_done raw item place cells steps (Some op) = rw (same_cells raw item op cells, same_charge raw op cells) refl

same_step : (raw : FirstRaw) (item : Item) (place : ℕ) (cells : List Cell) (steps : ℕ)
    → step (migrate raw) item place cells steps ≡ first_step raw item place cells steps
unfolding step first_step
same_step raw item place cells steps = same_done raw item place cells steps (slice_get raw.code place)

same_advance : (raw : FirstRaw) (item : Item) (outcome : Outcome) → advance (migrate raw) item outcome ≡ first_advance raw item outcome
same_advance raw item (Running place cells steps) = same_step raw item place cells steps
same_advance raw item (Answered answer steps) = refl
same_advance raw item Trapped = refl

-- after each number of steps the outcome is what it was
pub first_runs_stay : FirstRunsStay
unfolding after first_after
first_runs_stay raw item zero = refl
first_runs_stay raw item (suc k) =
    ap (λ (o : Outcome). advance (migrate raw) item o) (first_runs_stay raw item k) ∙ same_advance raw item (first_after raw item k)
