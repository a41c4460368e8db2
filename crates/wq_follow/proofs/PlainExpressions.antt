-- A value that writes an expression is plain: it is no deeper than the expression, but for one list, and has no float.
use Rattle.std.proofs.Common.{◌≡◌, ℕ, suc, true, false, not, max, List, [], ◌∷◌, refl, ap, arith}
use Rattle.std.proofs.Math.Nat.{le-max_left, le-max_right}
use Rattle.std.specs.Prelude.{ℤ, Some}
use Rattle.serde_json.specs.Data.{Data, null, boolean, number, string, array, object, Items, no_items, item, Members, no_members, member, Num, unsigned, negative, float}
use Rattle.serde_json.specs.Find.{as_integer, is_float}
use Rattle.wq_base.specs.declared.compare.Relation.{Relation}
use Rattle.wq_clock.specs.Instance.{InstanceData}
use Rattle.wq_clock.specs.declared.bound.Bound.{Bound}
use Rattle.wq_clock.specs.declared.bound.Bound.TheVariants.{Second, Fresh, Tick}
use Rattle.wq_record.specs.declared.kind.Kind.{Kind}
use Rattle.wq_term.specs.declared.expr.Depth.{Depth}
use Rattle.wq_term.specs.declared.expr.Depth.TheVariants.{Is, Any}
use Rattle.wq_term.specs.declared.expr.Since.{Since as SinceData}
use Rattle.wq_term.specs.declared.expr.Since.TheVariants.{Observed, Created, Modified}
use Rattle.wq_term.specs.ArgumentGrammar.{IsWord, IsText, AreListed, AreTexts, IsBetween, IsSecond, IsKind, IsComparison, IsDepth, IsDirectory, IsBound, AreFlagMembers, AreFlags, IsPattern}
use Rattle.wq_term.specs.Expr.{depth_of, greatest_depth, ExprData, always, never, exists, empty, kind_is, name_is, matches, suffix_is, size_is, since, below, negation, all_of, any_of, ExprsData, no_terms, term}
use Rattle.wq_term.specs.Grammar.{IsNothing, IsOnly, IsOneOrTwo, IsSince, IsWrittenBy, AreWrittenBy}
use Rattle.wq_follow.proofs.PlainValues.{is_plain, items-more, items_are_plain, members_are_plain, plain-more}

-- a text is plain
flat : (n : ℕ) (d : Data) (text : List ℕ) → d ≡ string text → is_plain d n ≡ true
flat n d text e = ap (λ d. is_plain d n) e

-- a term whose head has such a name
abbrev Term : (List ℕ → Type 0) → (Items → Type 0) → Data → Type 0
Term Name Arguments (string name) = Name name × Arguments no_items
Term Name Arguments (array (item (string name) ds)) = Name name × Arguments ds
Term Name Arguments _ = ⊥

-- a term is as plain as its arguments
in_term : (Name : List ℕ → Type 0) (Arguments : Items → Type 0) (n : ℕ)
    → ((ds : Items) → Arguments ds → items_are_plain ds n ≡ true)
    → (d : Data) → Term Name Arguments d → is_plain d (suc n) ≡ true
in_term Name Arguments n each null h = refl
in_term Name Arguments n each (boolean b) h = refl
in_term Name Arguments n each (number x) h = absurd h
in_term Name Arguments n each (string name) h = refl
in_term Name Arguments n each (array no_items) h = refl
in_term Name Arguments n each (array (item null ds)) h = absurd h
in_term Name Arguments n each (array (item (boolean b) ds)) h = absurd h
in_term Name Arguments n each (array (item (number x) ds)) h = absurd h
in_term Name Arguments n each (array (item (string name) ds)) h = each ds h.1
in_term Name Arguments n each (array (item (array xs) ds)) h = absurd h
in_term Name Arguments n each (array (item (object ms) ds)) h = absurd h
in_term Name Arguments n each (object ms) h = absurd h

-- no arguments
nothing : (n : ℕ) (ds : Items) → IsNothing ds → items_are_plain ds n ≡ true
nothing n no_items h = refl
nothing n (item d ds) h = absurd h

-- one argument
only : (First : Data → Type 0) (n : ℕ) → ((d : Data) → First d → is_plain d n ≡ true)
    → (ds : Items) → IsOnly First ds → items_are_plain ds n ≡ true
only First n each no_items h = refl
only First n each (item d no_items) h = rw (each d h) refl
only First n each (item d (item e ds)) h = absurd h

-- one argument, or two
one_or_two : (First : Data → Type 0) (IsDefault : Type 0) (Other : Data → Type 0) (n : ℕ)
    → ((d : Data) → First d → is_plain d n ≡ true) → ((d : Data) → Other d → is_plain d n ≡ true)
    → (ds : Items) → IsOneOrTwo First IsDefault Other ds → items_are_plain ds n ≡ true
one_or_two First IsDefault Other n first second no_items h = refl
one_or_two First IsDefault Other n first second (item d no_items) h = rw (first d h.0) refl
one_or_two First IsDefault Other n first second (item d (item e no_items)) h = rw (first d h.0, second e h.1) refl
one_or_two First IsDefault Other n first second (item d (item e (item f ds))) h = absurd h

-- a word
word : (n : ℕ) (w : List ℕ) (d : Data) → IsWord w d → is_plain d n ≡ true
word n w d h = flat n d w h

-- a text
text : (n : ℕ) (t : List ℕ) (d : Data) → IsText t d → is_plain d n ≡ true
text n t d h = flat n d t h.0

-- texts in a list
listed : (n : ℕ) (ts : List (List ℕ)) (ds : Items) → AreListed ts ds → items_are_plain ds n ≡ true
listed n ts no_items h = refl
listed n [] (item d ds) h = absurd h
listed n (t ∷ ts) (item d ds) h = rw (text n t d h.0) (listed n ts ds h.1)

-- texts
texts : (n : ℕ) (ts : List (List ℕ)) (d : Data) → AreTexts ts d → is_plain d (suc n) ≡ true
texts n ts null h = refl
texts n ts (boolean b) h = refl
texts n ts (string s) h = refl
texts n ts (array ds) h = listed n ts ds h
texts n [] (number x) h = absurd h
texts n [] (object ms) h = absurd h
texts n (t ∷ []) (number x) h = text (suc n) t (number x) h
texts n (t ∷ []) (object ms) h = text (suc n) t (object ms) h
texts n (t ∷ u ∷ ts) (number x) h = absurd h
texts n (t ∷ u ∷ ts) (object ms) h = absurd h

-- an integer
whole : (n : Num) (z : ℤ) → as_integer n ≡ Some z → is_float n ≡ false
whole (unsigned n) z is = refl
whole (negative z') z is = refl
whole (float x) z is = cc

between : (n : ℕ) (low high z : ℤ) (d : Data) → IsBetween low high z d → is_plain d n ≡ true
between n low high z null h = refl
between n low high z (boolean b) h = refl
between n low high z (number x) h = ap not (whole x z h.0)
between n low high z (string s) h = refl
between n low high z (array ds) h = absurd h
between n low high z (object ms) h = absurd h

-- a relation and a number
comparison : (n : ℕ) (relation : Relation) (z : ℤ) (ds : Items) → IsComparison relation z ds
    → items_are_plain ds n ≡ true
comparison n relation z no_items h = refl
comparison n relation z (item d no_items) h = absurd h
comparison n relation z (item d (item e no_items)) h = rw (flat n d _ h.0, between n _ _ z e h.1) refl
comparison n relation z (item d (item e (item f ds))) h = absurd h

-- a depth
a_depth : (n : ℕ) (limit : Depth) (d : Data) → IsDepth limit d → is_plain d (suc n) ≡ true
a_depth n Any d h = absurd h
a_depth n (Is relation z) null h = refl
a_depth n (Is relation z) (boolean b) h = refl
a_depth n (Is relation z) (number x) h = absurd h
a_depth n (Is relation z) (string s) h = refl
a_depth n (Is relation z) (array no_items) h = refl
a_depth n (Is relation z) (array (item d ds)) h = rw (flat n d _ h.0) (comparison n relation z ds h.1)
a_depth n (Is relation z) (object ms) h = absurd h

-- a clock spec
bound : (n : ℕ) (instance : InstanceData) (b : Bound) (d : Data) → IsBound instance b d → is_plain d n ≡ true
bound n instance b null h = refl
bound n instance b (boolean x) h = refl
bound n instance b (string s) h = refl
bound n instance (Second second) (number x) h = between n _ _ second (number x) h
bound n instance (Second second) (array ds) h = absurd h
bound n instance (Second second) (object ms) h = absurd h
bound n instance Fresh (number x) h = absurd h
bound n instance Fresh (array ds) h = absurd h
bound n instance Fresh (object ms) h = absurd h
bound n instance (Tick t) (number x) h = absurd h
bound n instance (Tick t) (array ds) h = absurd h
bound n instance (Tick t) (object ms) h = absurd h

-- flags
flag_members : (n : ℕ) (ms : Members) → AreFlagMembers ms → members_are_plain ms n ≡ true
flag_members n no_members h = refl
flag_members n (member k null ms) h = absurd h
flag_members n (member k (boolean b) ms) h = flag_members n ms h.1
flag_members n (member k (number x) ms) h = absurd h
flag_members n (member k (string s) ms) h = absurd h
flag_members n (member k (array ds) ms) h = absurd h
flag_members n (member k (object ns) ms) h = absurd h

-- an object of flags
flags : (n : ℕ) (f : _) (d : Data) → AreFlags f d → is_plain d (suc n) ≡ true
flags n f null h = refl
flags n f (boolean b) h = refl
flags n f (number x) h = absurd h
flags n f (string s) h = refl
flags n f (array ds) h = absurd h
flags n f (object ms) h = flag_members n ms h.0

-- a pattern and the values after it
pattern : (n : ℕ) (p : _) (ds : Items) → IsPattern p ds → items_are_plain ds (suc n) ≡ true
pattern n p no_items h = refl
pattern n p (item d no_items) h = rw (flat (suc n) d _ (h.0).0) refl
pattern n p (item d (item e no_items)) h = rw (flat (suc n) d _ (h.0).0, flat (suc n) e _ h.1) refl
pattern n p (item d (item e (item f no_items))) h =
    rw (flat (suc n) d _ (h.0).0, flat (suc n) e _ h.1, flags n p.flags f h.2) refl
pattern n p (item d (item e (item f (item g ds)))) h = absurd h

-- a second
a_second : (n : ℕ) (second : ℤ) (d : Data) → IsSecond second d → is_plain d n ≡ true
a_second n second d h = between n _ _ second d h

-- a clock spec and its field
a_since : (n : ℕ) (instance : InstanceData) (point : SinceData) (ds : Items) → IsSince instance point ds
    → items_are_plain ds n ≡ true
a_since n instance (Observed b) ds h = one_or_two _ _ _ n (bound n instance b) (word n _) ds h
a_since n instance (Created b) ds h = one_or_two _ _ _ n (bound n instance b) (word n _) ds h
a_since n instance (Modified second) ds h = one_or_two _ _ _ n (a_second n second) (word n _) ds h

-- a directory
directory : (n : ℕ) (dir : List ℕ) (d : Data) → IsDirectory dir d → is_plain d n ≡ true
directory n dir d h = text n _ d (h.1).1

-- a kind
a_kind : (n : ℕ) (kind : Kind) (d : Data) → IsKind kind d → is_plain d n ≡ true
a_kind n kind d h = flat n d _ h.0

-- a value that writes a term is plain
mutual
  pub written : (instance : InstanceData) (t : ExprData) (d : Data) → IsWrittenBy instance t d
      → is_plain d (suc (depth_of t)) ≡ true
  written instance always d h = in_term _ _ 1 (nothing 1) d h
  written instance never d h = in_term _ _ 1 (nothing 1) d h
  written instance exists d h = in_term _ _ 1 (nothing 1) d h
  written instance empty d h = in_term _ _ 1 (nothing 1) d h
  written instance (kind_is kind) d h = in_term _ _ 1 (only _ 1 (a_kind 1 kind)) d h
  written instance (name_is case scope ts) d h = in_term _ _ 1 (one_or_two _ _ _ 1 (texts 0 ts) (word 1 _)) d h
  written instance (matches p) d h = in_term _ _ 1 (pattern 0 p) d h
  written instance (suffix_is ts) d h = in_term _ _ 1 (only _ 1 (texts 0 ts)) d h
  written instance (size_is relation z) d h = in_term _ _ 1 (comparison 1 relation z) d h
  written instance (since point) d h = in_term _ _ 1 (a_since 1 instance point) d h
  written instance (below case dir limit) d h = in_term _ _ 1 (one_or_two _ _ _ 1 (directory 1 dir) (a_depth 0 limit)) d h
  written instance (negation t) d h = in_term _ _ (suc (depth_of t)) (only _ (suc (depth_of t)) (written instance t)) d h
  written instance (all_of ts) d h = in_term _ _ (suc (greatest_depth ts)) (all_written instance ts) d h
  written instance (any_of ts) d h = in_term _ _ (suc (greatest_depth ts)) (all_written instance ts) d h

  all_written : (instance : InstanceData) (ts : ExprsData) (ds : Items) → AreWrittenBy instance ts ds
      → items_are_plain ds (suc (greatest_depth ts)) ≡ true
  all_written instance no_terms no_items h = refl
  all_written instance no_terms (item d ds) h = absurd h
  all_written instance (term t ts) no_items h = absurd h
  all_written instance (term t ts) (item d ds) h =
      let most = suc (max (depth_of t) (greatest_depth ts)) in
      rw (plain-more d (suc (depth_of t)) most (omega (arith, le-max_left (depth_of t) (greatest_depth ts))) (written instance t d h.0))
      (items-more ds (suc (greatest_depth ts)) most (omega (arith, le-max_right (depth_of t) (greatest_depth ts))) (all_written instance ts ds h.1))
