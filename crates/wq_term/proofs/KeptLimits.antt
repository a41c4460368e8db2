-- An expression that a value writes keeps the limits of expressions.
use Rattle.std.proofs.Common.{◌≡◌, ℕ, ◌≤◌, ℤ, pos, Bool, true, false, Option, List, length, [], ◌∷◌, Some, refl, sym, subst, arith, length-append}
use Rattle.std.specs.Prelude.{◌&&◌, int_le, nat_le, codes, if◌then◌else◌}
use Rattle.std.specs.List.{list_all, repeat}
use Rattle.std.proofs.lemmas.Bool.{and_from, le-leb}
use Rattle.serde_json.specs.Data.{Data, string, array, number, Items, no_items, item}
use Rattle.std.proofs.lemmas.Option.{same_Some}
use Rattle.wq_base.specs.Limit.{max_number}
use Rattle.wq_clock.specs.Instance.{InstanceData}
use Rattle.wq_clock.specs.ClockSpec.{SpecData, clock_id, old_clock_id, named_cursor}
use Rattle.wq_clock.specs.Bound.{bound_of}
use Rattle.wq_clock.specs.Law.{TextsSayWhatTheySpell}
use Rattle.wq_clock.specs.Spelling.{IsClockSpelling}
use Rattle.wq_clock.specs.declared.bound.Bound.{Bound}
use Rattle.wq_clock.specs.declared.bound.Bound.TheVariants.{Fresh, Tick, Second}
use Rattle.wq_base.specs.declared.compare.Relation.{Relation}
use Rattle.wq_term.specs.declared.expr.Depth.{Depth}
use Rattle.wq_term.specs.declared.expr.Depth.TheVariants.{Any, Is}
use Rattle.wq_term.specs.declared.expr.Since.{Since as SinceData}
use Rattle.wq_term.specs.declared.expr.Since.TheVariants.{Observed, Created, Modified}
use Rattle.wq_term.specs.declared.head.Head.{Head}
use Rattle.wq_term.specs.declared.head.Head.TheVariants.{Suffix, Size, Since, Not, AllOf, AnyOf}
use Rattle.wq_term.specs.ArgumentGrammar.{AreListed, AreTexts, IsBetween, IsComparison}
use Rattle.wq_term.specs.ArgumentGrammar.{IsDirectory, IsDepth, IsBound, IsPattern}
use Rattle.wq_glob.specs.Limit.{max_pattern_length}
use Rattle.wq_glob.specs.Pattern.{PatternData}
use Rattle.wq_term.specs.Expr.{ExprData, always, never, exists, empty, kind_is, name_is, matches}
use Rattle.wq_term.specs.Expr.{suffix_is, size_is, since, below, negation, all_of, any_of}
use Rattle.wq_term.specs.Expr.{ExprsData, no_terms, term}
use Rattle.wq_term.specs.Fits.{is_text, is_whole, bound_fits, depth_fits, since_fits, keeps_limits}
use Rattle.wq_term.specs.Fits.{all_keep_limits, expr_fits}
use Rattle.wq_term.specs.Grammar.{IsTerm, IsOnly, IsOneOrTwo, IsSince, IsWrittenBy, AreWrittenBy}
use Rattle.wq_term.specs.Law.{ReadExpressionsFit}
use Rattle.wq_term.specs.Limit.{max_depth}
use Rattle.wq_term.proofs.ArgumentGrammar.{holds_true}
use Rattle.wq_term.proofs.Grammar.{found}
use Rattle.wq_term.proofs.TermGrammar.{IsNames, IsBelow}

-- a term has its arguments
arguments : (head : Head) (Arguments : Items → Type 0) (d : Data) → IsTerm head Arguments d
    → (ds : Items) × Arguments ds
arguments head Arguments (string s) h = (no_items, h.1)
arguments head Arguments (array (item (string s) ds)) h = (ds, h.1)
arguments head Arguments _ h = absurd h

-- the first of one or two
first : (First : Data → Type 0) (IsDefault : Type 0) (Other : Data → Type 0) (ds : Items)
    → IsOneOrTwo First IsDefault Other ds → (d : Data) × First d
first First IsDefault Other (item d no_items) h = (d, h.0)
first First IsDefault Other (item d (item e no_items)) h = (d, h.0)
first First IsDefault Other _ h = absurd h

-- a single one
only : (First : Data → Type 0) (ds : Items) → IsOnly First ds → (d : Data) × First d
only First (item d no_items) h = (d, h)
only First _ h = absurd h

-- texts that are written are short
listed-fit : (texts : List (List ℕ)) (ds : Items) → AreListed texts ds
    → list_all is_text texts ≡ true
listed-fit [] ds h = refl
listed-fit (text ∷ texts) (item d ds) h =
    and_from _ _ (le-leb _ _ h.0.1) (listed-fit texts ds h.1)
listed-fit (text ∷ texts) no_items h = absurd h

texts-fit : (texts : List (List ℕ)) (d : Data) → AreTexts texts d → list_all is_text texts ≡ true
texts-fit texts (array ds) h = listed-fit texts ds h
texts-fit (text ∷ []) (string s) h = and_from _ _ (le-leb _ _ h.1) refl
texts-fit (text ∷ []) _ h = and_from _ _ (le-leb _ _ h.1) refl
texts-fit _ _ h = absurd h

-- so is a directory
directory-fits : (dir : List ℕ) (d : Data) → IsDirectory dir d → is_text dir ≡ true
directory-fits dir d h =
    let long = length-append dir (repeat h.1.0 (codes "/")) in
    let short = h.1.1.1 in
    le-leb _ _ (omega (arith, long, short))

-- a number that is written lies between its limits
between-fits : (low high z : ℤ) (d : Data) → IsBetween low high z d
    → (int_le low z && int_le z high) ≡ true
between-fits low high z (number n) h =
    and_from _ _ (holds_true _ (h.1).le) (holds_true _ (h.2).le)
between-fits low high z _ h = absurd h

-- the number of a comparison
comparison-fits : (relation : Relation) (n : ℤ) (ds : Items) → IsComparison relation n ds
    → is_whole n ≡ true
comparison-fits relation n (item d (item e no_items)) h = between-fits _ _ n e h.1
comparison-fits relation n _ h = absurd h

-- the number of a depth
depth-fits : (depth : Depth) (d : Data) → IsDepth depth d → depth_fits depth ≡ true
depth-fits (Is relation n) (array (item word ds)) h = comparison-fits relation n ds h.1
depth-fits Any d h = refl
depth-fits _ _ h = absurd h

-- a tick that is spelled is in range
ticks-fit : (test : Bool) (tick : ℕ) (bound : Bound) → tick ≤ max_number
    → ◌≡◌ {A = Option Bound} (if test then Some (Tick tick) else Some Fresh) (Some bound)
    → bound_fits bound ≡ true
ticks-fit true tick bound le e =
    subst (λ b. bound_fits b ≡ true) (same_Some (Tick tick) bound e) (le-leb _ _ le)
ticks-fit false tick bound le e = subst (λ b. bound_fits b ≡ true) (same_Some Fresh bound e) refl

-- so is a bound of a clock spec
spec-fits : (spec : SpecData) (text : List ℕ) (instance : InstanceData) (bound : Bound)
    → IsClockSpelling spec text → bound_of spec instance ≡ Some bound → bound_fits bound ≡ true
spec-fits (clock_id other tick) text instance bound h e = ticks-fit _ tick bound h.1 e
spec-fits old_clock_id text instance bound h e =
    subst (λ b. bound_fits b ≡ true) (same_Some Fresh bound e) refl
spec-fits (named_cursor name) text instance bound h e = cc

-- and each bound that a value writes
bound-fits : (instance : InstanceData) (bound : Bound) (d : Data) → IsBound instance bound d
    → bound_fits bound ≡ true
bound-fits instance bound (string text) h = spec-fits h.0 text instance bound h.1.0 h.1.1
bound-fits instance (Second second) d h = between-fits (pos 0) (pos max_number) second d h
bound-fits instance _ _ h = absurd h

-- the point of `since`
point-fits : (instance : InstanceData) (point : SinceData) (ds : Items) → IsSince instance point ds
    → since_fits point ≡ true
point-fits instance (Observed bound) ds h =
    let f = first _ _ _ ds h in bound-fits instance bound f.0 f.1
point-fits instance (Created bound) ds h =
    let f = first _ _ _ ds h in bound-fits instance bound f.0 f.1
point-fits instance (Modified second) ds h =
    let f = first _ _ _ ds h in between-fits _ _ second f.0 f.1

-- a directory and its depth
below-fits : (dir : List ℕ) (depth : Depth) (ds : Items) → IsBelow dir depth ds
    → (is_text dir && depth_fits depth) ≡ true
below-fits dir depth (item d no_items) h =
    and_from _ _ (directory-fits dir d h.0) (subst (λ x. depth_fits x ≡ true) (sym h.1) refl)
below-fits dir depth (item d (item e no_items)) h =
    and_from _ _ (directory-fits dir d h.0) (depth-fits depth e h.1)
below-fits dir depth _ h = absurd h

-- the text of a pattern
pattern-fits : (pattern : PatternData) (ds : Items) → IsPattern pattern ds
    → nat_le (length pattern.text) max_pattern_length ≡ true
pattern-fits pattern (item d no_items) h = le-leb _ _ h.0.1
pattern-fits pattern (item d (item e no_items)) h = le-leb _ _ h.0.1
pattern-fits pattern (item d (item e (item f no_items))) h = le-leb _ _ h.0.1
pattern-fits pattern _ h = absurd h

-- the first term, and the others
all-keep-both : (instance : InstanceData) (t : ExprData) (ts : ExprsData) (ds : Items)
    → ((d : Data) → IsWrittenBy instance t d → keeps_limits t ≡ true)
    → ((es : Items) → AreWrittenBy instance ts es → all_keep_limits ts ≡ true)
    → AreWrittenBy instance (term t ts) ds → (keeps_limits t && all_keep_limits ts) ≡ true
all-keep-both instance t ts no_items one rest h = absurd h
all-keep-both instance t ts (item d ds) one rest h = and_from _ _ (one d h.0) (rest ds h.1)

mutual
  -- a term that a value writes keeps the limits
  keeps : (instance : InstanceData) (t : ExprData) (d : Data) → IsWrittenBy instance t d
      → keeps_limits t ≡ true
  keeps instance always d h = refl
  keeps instance never d h = refl
  keeps instance exists d h = refl
  keeps instance empty d h = refl
  keeps instance (kind_is kind) d h = refl
  keeps instance (name_is case scope texts) d h =
      let a = arguments _ (IsNames scope texts) d h in
      let f = first _ _ _ a.0 a.1 in texts-fit texts f.0 f.1
  keeps instance (matches pattern) d h =
      let a = arguments _ (IsPattern pattern) d h in pattern-fits pattern a.0 a.1
  keeps instance (suffix_is texts) d h =
      let a = arguments Suffix (IsOnly (AreTexts texts)) d h in
      let f = only (AreTexts texts) a.0 a.1 in texts-fit texts f.0 f.1
  keeps instance (size_is relation n) d h =
      let a = arguments Size (IsComparison relation n) d h in comparison-fits relation n a.0 a.1
  keeps instance (since point) d h =
      let a = arguments Since (IsSince instance point) d h in point-fits instance point a.0 a.1
  keeps instance (below case dir depth) d h =
      let a = arguments _ (IsBelow dir depth) d h in below-fits dir depth a.0 a.1
  keeps instance (negation t) d h =
      let a = arguments Not (IsOnly (IsWrittenBy instance t)) d h in
      let f = only (IsWrittenBy instance t) a.0 a.1 in keeps instance t f.0 f.1
  keeps instance (all_of ts) d h =
      let a = arguments AllOf (AreWrittenBy instance ts) d h in all-keep instance ts a.0 a.1
  keeps instance (any_of ts) d h =
      let a = arguments AnyOf (AreWrittenBy instance ts) d h in all-keep instance ts a.0 a.1

  all-keep : (instance : InstanceData) (ts : ExprsData) (ds : Items) → AreWrittenBy instance ts ds
      → all_keep_limits ts ≡ true
  all-keep instance no_terms ds h = refl
  all-keep instance (term t ts) ds h = all-keep-both instance t ts ds (keeps instance t) (all-keep instance ts) h

-- so a term that is read keeps them, and is no deeper than it may be
pub read_fit : TextsSayWhatTheySpell → ReadExpressionsFit
unfolding expr_fits
read_fit law instance t d e =
    let h = found law instance max_depth d t e in
    and_from _ _ (le-leb _ _ h.1) (keeps instance t d h.0)
