-- The programs that might run if nobody looked at how many cells an instruction takes. They show
-- the facts that rest on that number. This server's own rules.
use Rattle.std.specs.Prelude.{◌≡◌, ℕ, ◌<◌, ◌≤◌, ◌⊎◌, IsTrue, [], ◌∷◌, length, Some, slice_get}
use Rattle.wq_code.specs.Constant.{constant, has_constant}
use Rattle.wq_code.specs.Fits.{raw_fits}
use Rattle.wq_code.specs.Flow.{flow}
use Rattle.wq_code.specs.Signature.{signature}
use Rattle.wq_code.specs.declared.flow.Flow.TheVariants.{Stop}
use Rattle.wq_code.specs.declared.operation.CellKind.TheVariants as cell
use Rattle.wq_code.specs.declared.operation.Op.{Op}
use Rattle.wq_code.specs.declared.raw.Raw.{Raw}
use Rattle.wq_verify.specs.Limit.{max_cells}
use Rattle.wq_verify.specs.Kinds.{Kinds, KnownKinds, all_meet, kinds_after, leads}
use Rattle.wq_verify.specs.Typing.{IsNext, LeadsTo}

-- an instruction keeps the rules, but for the number of cells that it takes: those that are there
-- are of the right kinds
pub record IsWellOrShort (raw : Raw) (lists : KnownKinds) (at : ℕ) (op : Op) (kinds : Kinds)
    : Type 0 where
  pub there : slice_get raw.code at ≡ Some op
  pub reached : lists at ≡ Some kinds
  pub right : IsTrue (all_meet (signature op).needs kinds)
  pub alone : flow op ≡ Stop → kinds ≡ cell.Flag ∷ []
  pub named : IsTrue (has_constant raw (constant op))
  pub low : length (kinds_after op kinds) ≤ max_cells
  pub next : (place : ℕ) → IsTrue (leads (flow op) at place)
      → IsNext raw lists at (kinds_after op kinds) place

-- a typing of a whole program, but for these numbers
pub record IsTypingOrShort (raw : Raw) (lists : KnownKinds) : Type 0 where
  pub start : lists 0 ≡ Some []
  pub each : (at : ℕ) → at < length raw.code
      → (op : Op) × (kinds : Kinds) × IsWellOrShort raw lists at op kinds
  pub only : (place : ℕ) (kinds : Kinds) → lists place ≡ Some kinds
      → (place ≡ 0) ⊎ ((at : ℕ) × (at < length raw.code) × LeadsTo raw at place)

-- a program might run, if nobody looked at these numbers
pub record IsValidOrShort (raw : Raw) : Type 0 where
  pub limits : IsTrue (raw_fits raw)
  pub some : 0 < length raw.code
  pub typed : (lists : KnownKinds) × IsTypingOrShort raw lists
