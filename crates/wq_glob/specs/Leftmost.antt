-- The way of a compiled pattern over a text from left to right: each `*` ends at the first place
-- at which the steps after it go on. This library's own.
use Rattle.std.specs.Prelude.{◌≡◌, ℕ, ◌+◌, ◌<◌, ◌≤◌, Bool, true, false, not, ◌&&◌, ◌||◌, ◌⊎◌}
use Rattle.std.specs.Prelude.{◌==◌, List, ◌∷◌, length, drop, slice_index}
use Rattle.std.specs.List.{list_all}
use Rattle.wq_base.specs.Byte.{is_slash}
use Rattle.wq_glob.specs.Byte.{lower_if}
use Rattle.wq_glob.specs.Mark.{Mark}
use Rattle.wq_glob.specs.Fits.{has_no_hidden_dot, is_wild}
use Rattle.wq_glob.specs.FitsTest.{directories}
use Rattle.wq_glob.specs.Step.{step_admits, step_reach}
use Rattle.wq_glob.specs.Cell.{mark_at, marks_at, may_be_empty, step_fits}
use Rattle.wq_glob.specs.declared.leftmost.Turn.{Turn}
use Rattle.wq_glob.specs.declared.leftmost.Turn.TheVariants.{Fits, Differs, Star, Directories, Rest}
use Rattle.wq_glob.specs.declared.rules.Rules.{Rules}
use Rattle.wq_glob.specs.declared.step.Step.{Step}
use Rattle.wq_glob.specs.declared.step.Step.TheVariants.{Byte, AnyByte, Set, Stars, Below, Tail}
use Rattle.wq_glob.specs.declared.step.Step.TheVariants.{Never}

-- the steps from `k` on fit the text from a place on
abbrev pub fits_from : Rules → List Step → List ℕ → ℕ → ℕ → Bool
fits_from f steps text k at = step_fits f (drop k steps) (marks_at f text at)

-- the step takes one byte, and may take this one
abbrev pub single_takes : Rules → Step → Mark → Bool
single_takes f step x = not (may_be_empty (step_reach step)) && step_admits f step x

-- the first step takes one byte, and may take the first of the text
abbrev pub first_takes : Rules → List Step → List Mark → Bool
first_takes f (step ∷ _) (x ∷ _) = single_takes f step x
first_takes f _ _ = false

-- the first step is `*`
abbrev pub begins_stars : List Step → Bool
begins_stars (Stars ∷ _) = true
begins_stars _ = false

-- the first step is `**/`
abbrev pub begins_below : List Step → Bool
begins_below (Below ∷ _) = true
begins_below _ = false

-- the first step is a last `**`
abbrev pub begins_tail : List Step → Bool
begins_tail (Tail ∷ _) = true
begins_tail _ = false

-- So many steps from `k` on take one byte each, and take those from a place on. At whatever place
-- the steps from `k` on fit, each of them takes its byte there, and those after it fit the rest.
pub record AreTaken (f : Rules) (steps : List Step) (text : List ℕ) (k at n : ℕ) : Type 0 where
  pub enough_steps : k + n ≤ length steps
  pub enough_text : at + n ≤ length text
  pub same : fits_from f steps text k at ≡ fits_from f steps text (k + n) (at + n)
  pub later : (i j : ℕ) → i ≤ n → fits_from f steps text k j ≡ true
      → fits_from f steps text (k + i) (j + i) ≡ true
  pub takes : (i j : ℕ) → i < n → fits_from f steps text k j ≡ true
      → first_takes f (drop (k + i) steps) (marks_at f text (j + i)) ≡ true

-- neither `*` nor one of so many steps from `k` on takes the byte at a place
pub record IsKeptOff (f : Rules) (steps : List Step) (text : List ℕ) (k n at : ℕ) : Type 0 where
  pub inside : at < length text
  pub not_wild : is_wild f.flags (mark_at f text at) ≡ false
  pub not_taken : (i : ℕ) → i < n
      → first_takes f (drop (k + i) steps) (marks_at f text at) ≡ false

-- `*` may take the bytes from a place on up to the end of the text, or up to one that neither it
-- nor one of so many steps from `k` on takes
pub record IsSettled (f : Rules) (steps : List Step) (text : List ℕ) (k n at : ℕ) : Type 0 where
  pub end : ℕ
  pub from : at ≤ end
  pub wild : (i : ℕ) → at ≤ i → i < end → is_wild f.flags (mark_at f text i) ≡ true
  pub stop : (end ≡ length text) ⊎ IsKeptOff f steps text k n end

-- the text has the byte, as it is compared, at a place
abbrev pub has_byte_at : Rules → List ℕ → ℕ → ℕ → Bool
has_byte_at f text b at = lower_if f.flags.fold (slice_index text at) == b

-- from a place on there is a byte that `*` may not take, and the byte that is looked for is neither
-- there nor before it
pub record IsCutOff (f : Rules) (text : List ℕ) (b from : ℕ) : Type 0 where
  pub end : ℕ
  pub after : from ≤ end
  pub inside : end < length text
  pub wild : (i : ℕ) → from ≤ i → i < end → is_wild f.flags (mark_at f text i) ≡ true
  pub other : (i : ℕ) → from ≤ i → i ≤ end → has_byte_at f text b i ≡ false
  pub stop : is_wild f.flags (mark_at f text end) ≡ false

-- from a place on the byte is nowhere, or `*` cannot go to it
abbrev pub IsNowhere : Rules → List ℕ → ℕ → ℕ → Type 0
IsNowhere f text b from =
    ((i : ℕ) → from ≤ i → i < length text → has_byte_at f text b i ≡ false)
    ⊎ IsCutOff f text b from

-- from a place on, the byte is first at another, and `*` may take all before it
pub record IsFirstWild (f : Rules) (text : List ℕ) (b from place : ℕ) : Type 0 where
  pub after : from ≤ place
  pub within : place ≤ length text
  pub wild : (i : ℕ) → from ≤ i → i < place → is_wild f.flags (mark_at f text i) ≡ true
  pub other : (i : ℕ) → from ≤ i → i < place → has_byte_at f text b i ≡ false

-- a name begins at a place, and `**/` goes from another place to it, or further on
abbrev pub IsNextName : Rules → List ℕ → ℕ → ℕ → Type 0
IsNextName f text at next = (fit : List Mark → Bool)
    → directories has_no_hidden_dot fit (marks_at f text at)
    ≡ (fit (marks_at f text next) || directories has_no_hidden_dot fit (marks_at f text next))

-- `**/` takes nothing from a place on
abbrev pub HasNoName : Rules → List ℕ → ℕ → Type 0
HasNoName f text at = (fit : List Mark → Bool)
    → directories has_no_hidden_dot fit (marks_at f text at) ≡ false

-- no dot from a place on is hidden
abbrev pub are_shown : Rules → List ℕ → ℕ → Bool
are_shown f text at = list_all has_no_hidden_dot (marks_at f text at)

-- the step takes no slash
abbrev pub stays_in_name : Rules → Step → Bool
stays_in_name f (Byte b) = not (is_slash b)
stays_in_name f AnyByte = f.flags.wholename
stays_in_name f (Set _) = f.flags.wholename
stays_in_name f Stars = f.flags.wholename
stays_in_name f Below = false
stays_in_name f Tail = false
stays_in_name f Never = true

-- none of the steps takes a slash
abbrev pub all_stay : Rules → List Step → Bool
all_stay f steps = list_all (stays_in_name f) steps

-- what a turn says of the steps that are left, and of whether they fit
abbrev pub IsTurn : Turn → Bool → List Step → Type 0
IsTurn Fits fits steps = fits ≡ true
IsTurn Differs fits steps = fits ≡ false
IsTurn Star fits steps = begins_stars steps ≡ true
IsTurn Directories fits steps = begins_below steps ≡ true
IsTurn Rest fits steps = begins_tail steps ≡ true
