-- `not; ret` keeps every rule but the number of cells, and has no answer.
use Rattle.std.proofs.Common.{◌≡◌, ℕ, zero, suc, ◌<◌, ◌⊎◌, inl, inr, [], ◌∷◌, length, Bool, Some, None, refl, sym, ap, subst, arith, lit<}
use Rattle.std.specs.Prelude.{IsTrue}
use Rattle.std.proofs.lemmas.Bool.{eqb-true}
use Rattle.wq_code.specs.Fits.{raw_fits_in, raw_fits}
use Rattle.wq_code.specs.Flow.{flow}
use Rattle.wq_code.specs.Item.{Item}
use Rattle.wq_code.specs.Machine.{Running, Answered, Trapped, advance, after, step, cells_after}
use Rattle.wq_code.specs.declared.operation.CellKind.TheVariants as cell
use Rattle.wq_code.specs.declared.operation.Op.{Op}
use Rattle.wq_code.specs.declared.operation.Op.TheVariants.{Not, Return}
use Rattle.wq_code.specs.declared.raw.Raw.{Raw}
use Rattle.wq_verify.specs.Kinds.{Kinds, KnownKinds, leads}
use Rattle.wq_verify.specs.Law.{OperandsAreNeeded}
use Rattle.wq_verify.specs.Typing.{IsNext, LeadsTo}
use Rattle.wq_verify.specs.Short.{IsWellOrShort, IsValidOrShort}

-- `not; ret`
abbrev short : Raw
short = record { nums = []; texts = []; lists = []; patterns = []; sets = []; code = Not ∷ Return ∷ [] }

abbrev kinds_at : KnownKinds
kinds_at zero = Some []
kinds_at (suc zero) = Some (cell.Flag ∷ [])
kinds_at (suc (suc place)) = None

next_of_not : (place : ℕ) → IsTrue (leads (flow Not) 0 place) → IsNext short kinds_at 0 (cell.Flag ∷ []) place
next_of_not place is =
    subst (IsNext short kinds_at 0 (cell.Flag ∷ [])) (sym (eqb-true place 1 is))
    (record { later = lit< tt; within = lit< tt; known = refl })

next_of_return : (place : ℕ) → IsTrue (leads (flow Return) 1 place) → IsNext short kinds_at 1 [] place
next_of_return place is = absurd cc

each_place : (at : ℕ) → at < length short.code → (op : Op) × (kinds : Kinds) × IsWellOrShort short kinds_at at op kinds
each_place zero lt = (
  Not,
  [],
  record {
    there = refl;
    reached = refl;
    right = refl;
    alone = λ e. absurd cc;
    named = refl;
    low = omega arith;
    next = next_of_not;
  },
)
each_place (suc zero) lt = (
  Return,
  cell.Flag ∷ [],
  record {
    there = refl;
    reached = refl;
    right = refl;
    alone = λ e. refl;
    named = refl;
    low = omega arith;
    next = next_of_return;
  },
)
each_place (suc (suc at)) lt = absurd (omega (arith, lt))

only_these : (place : ℕ) (kinds : Kinds) → kinds_at place ≡ Some kinds
    → (place ≡ 0) ⊎ ((at : ℕ) × (at < length short.code) × LeadsTo short at place)
only_these zero kinds e = inl refl
only_these (suc zero) kinds e = inr (0, lit< tt, (Not, refl, refl))
only_these (suc (suc place)) kinds e = absurd cc

fits : IsTrue (raw_fits short)
unfolding raw_fits_in
fits = refl

might_run : IsValidOrShort short
might_run = record {
  limits = fits;
  some = lit< tt;
  typed = (kinds_at, record { start = refl; each = each_place; only = only_these });
}

traps : (item : Item) (k : ℕ) → after short item (suc k) ≡ Trapped
unfolding after step cells_after
traps item zero = refl
traps item (suc k) = ap (advance short item) (traps item k)

starts : (item : Item) → after short item 0 ≡ Running 0 [] 0
unfolding after
starts item = refl

no_answer : (item : Item) (answer : Bool) (steps k : ℕ) → after short item k ≡ Answered answer steps → ⊥
no_answer item answer steps zero e = let s = starts item in absurd cc
no_answer item answer steps (suc k) e = let t = traps item k in absurd cc

-- the number of cells that instructions take cannot be left out
pub operands_are_needed : OperandsAreNeeded
operands_are_needed = (short, might_run, λ item answer steps is. no_answer item answer steps is.0 is.1)
