-- The rules of programs while there was one version of program files, and their greatest cost. No
-- code runs these definitions: laws compare today's with them, so they are never changed. This
-- server's own.
use Rattle.std.specs.Prelude.{◌≡◌, ℕ, ◌+◌, ◌<◌, ◌≤◌, ◌⊎◌, Bool, true, false, ◌&&◌, nat_le, nat_lt, max, IsTrue, List, [], length, Some, slice_get, sum_by}
use Rattle.std.specs.List.{list_all}
use Rattle.std.specs.Option.{option_map_or}
use Rattle.wq_code.specs.Constant.{Constant, no_constant, in_numbers, in_texts, in_lists, in_patterns, in_sets, constant}
use Rattle.wq_code.specs.First.{FirstRaw}
use Rattle.wq_code.specs.Fits.{is_short_text, is_pattern}
use Rattle.wq_code.specs.Flow.{flow}
use Rattle.wq_code.specs.declared.operation.Op.{Op}
use Rattle.wq_code.specs.declared.operation.Op.TheVariants.{OneOf, Match}
use Rattle.wq_verify.specs.Budget.{longest_len, most_pattern_cost}
use Rattle.wq_verify.specs.Limit.{max_cells}
use Rattle.wq_verify.specs.Kinds.{Kinds, KnownKinds, kinds_after, leads}
use Rattle.wq_verify.specs.Typing.{HasOperands}

-- a list had at most 65,535 entries
abbrev pub is_first_list : List (List ℕ) → Bool
is_first_list entries = nat_le (length entries) 65535 && list_all is_short_text entries

-- the limits of a file
unfoldable pub first_fits : FirstRaw → Bool
first_fits raw =
    nat_le (length raw.nums) 4096
    && (nat_le (length raw.texts) 4096 && list_all is_short_text raw.texts)
    && (nat_le (length raw.lists) 4096 && list_all is_first_list raw.lists)
    && (nat_le (length raw.patterns) 4096 && list_all is_pattern raw.patterns)
    && nat_le (length raw.code) 4096

-- the program has this constant
abbrev pub first_has_constant : FirstRaw → Constant → Bool
first_has_constant raw no_constant = true
first_has_constant raw (in_numbers place) = nat_lt place (length raw.nums)
first_has_constant raw (in_texts place) = nat_lt place (length raw.texts)
first_has_constant raw (in_lists place) = nat_lt place (length raw.lists)
first_has_constant raw (in_patterns place) = nat_lt place (length raw.patterns)
first_has_constant raw (in_sets place) = false

-- a successor is a later place of the code, and is known with these kinds
pub record IsFirstNext (raw : FirstRaw) (lists : KnownKinds) (at : ℕ) (after : Kinds) (place : ℕ)
    : Type 0 where
  pub later : at < place
  pub within : place < length raw.code
  pub known : lists place ≡ Some after

-- an instruction keeps the rules at a place that is reached with these kinds
pub record IsFirstWell (raw : FirstRaw) (lists : KnownKinds) (at : ℕ) (op : Op) (kinds : Kinds)
    : Type 0 where
  pub there : slice_get raw.code at ≡ Some op
  pub reached : lists at ≡ Some kinds
  pub operands : HasOperands op kinds
  pub named : IsTrue (first_has_constant raw (constant op))
  pub low : length (kinds_after op kinds) ≤ max_cells
  pub next : (place : ℕ) → IsTrue (leads (flow op) at place)
      → IsFirstNext raw lists at (kinds_after op kinds) place

-- the instruction at a place keeps the rules, with the kinds that are known there
abbrev pub KeepsFirstRules : FirstRaw → KnownKinds → ℕ → Type 0
KeepsFirstRules raw lists at = (op : Op) × (kinds : Kinds) × IsFirstWell raw lists at op kinds

-- an instruction leads to a place
abbrev pub FirstLeadsTo : FirstRaw → ℕ → ℕ → Type 0
FirstLeadsTo raw at place =
    (op : Op) × (slice_get raw.code at ≡ Some op) × IsTrue (leads (flow op) at place)

-- a typing of a whole program
pub record IsFirstTyping (raw : FirstRaw) (lists : KnownKinds) : Type 0 where
  pub start : lists 0 ≡ Some []
  pub each : (at : ℕ) → at < length raw.code → KeepsFirstRules raw lists at
  pub only : (place : ℕ) (kinds : Kinds) → lists place ≡ Some kinds
      → (place ≡ 0) ⊎ ((at : ℕ) × (at < length raw.code) × FirstLeadsTo raw at place)

-- a program might run
pub record IsFirstValid (raw : FirstRaw) : Type 0 where
  pub limits : IsTrue (first_fits raw)
  pub some : 0 < length raw.code
  pub typed : (lists : KnownKinds) × IsFirstTyping raw lists

-- the most that an instruction could cost with texts of this width
abbrev pub first_cost : FirstRaw → ℕ → Op → ℕ
first_cost raw width (Match place) =
    1 + option_map_or (most_pattern_cost width) (slice_get raw.patterns place) 0
first_cost raw width (OneOf _ place) = 1 + option_map_or length (slice_get raw.lists place) 0
first_cost raw width _ = 1

-- the costs of all instructions together
unfoldable pub first_budget_of : FirstRaw → ℕ → ℕ
first_budget_of raw name_len =
    sum_by (first_cost raw (max name_len (longest_len raw.texts))) raw.code
