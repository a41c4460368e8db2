-- A value that says an expression is not nested deeply, so its text reads back to it.
use Rattle.std.proofs.Common.{◌≡◌, ℕ, suc, ◌≤◌, List, [], ◌∷◌, arith, sym, subst}
use Rattle.std.specs.Prelude.{ℤ, Ok}
use Rattle.serde_json.specs.Data.{Data, null, boolean, number, string, array, object, Items, no_items, item, Members, no_members, member, depth, items_depth, members_depth}
use Rattle.wq_base.specs.declared.compare.Relation.{Relation}
use Rattle.wq_clock.specs.Instance.{InstanceData}
use Rattle.wq_clock.specs.declared.bound.Bound.{Bound}
use Rattle.wq_clock.specs.declared.bound.Bound.TheVariants.{Second, Fresh, Tick}
use Rattle.wq_record.specs.declared.kind.Kind.{Kind}
use Rattle.wq_glob.specs.Pattern.{PatternData}
use Rattle.wq_term.specs.declared.expr.Depth.{Depth}
use Rattle.wq_term.specs.declared.expr.Depth.TheVariants.{Is, Any}
use Rattle.wq_term.specs.declared.expr.Since.{Since as SinceData}
use Rattle.wq_term.specs.declared.expr.Since.TheVariants.{Observed, Created, Modified}
use Rattle.wq_term.specs.ArgumentGrammar.{IsWord, IsText, AreListed, AreTexts, IsBetween, IsSecond, IsKind, IsComparison, IsDepth, IsDirectory, IsBound, AreFlagMembers, AreFlags, IsPattern}
use Rattle.wq_term.specs.Expr.{ExprData, always, never, exists, empty, kind_is, name_is, matches, suffix_is, size_is, since, below, negation, all_of, any_of, ExprsData, no_terms, term, depth_of, greatest_depth}
use Rattle.wq_term.specs.Grammar.{IsNothing, IsOnly, IsOneOrTwo, IsSince, IsWrittenBy, AreWrittenBy}
use Rattle.wq_term.specs.Law.{ValuesSayWhatTheyWrite}
use Rattle.wq_term.specs.Limit.{max_depth}
use Rattle.wq_term.specs.Reading.{reads_as}

-- a text is not nested
flat : (d : Data) (text : List ℕ) → d ≡ string text → depth d ≤ 0
flat d text e = subst (λ d. depth d ≤ 0) (sym e) (omega arith)

-- a term whose head has such a name
abbrev Term : (List ℕ → Type 0) → (Items → Type 0) → Data → Type 0
Term Name Arguments (string name) = Name name × Arguments no_items
Term Name Arguments (array (item (string name) ds)) = Name name × Arguments ds
Term Name Arguments _ = ⊥

-- a term is nested once more than its arguments
in_term : (Name : List ℕ → Type 0) (Arguments : Items → Type 0) (n : ℕ) → ((ds : Items) → Arguments ds → items_depth ds ≤ n) → (d : Data) → Term Name Arguments d → depth d ≤ suc n
in_term Name Arguments n each null h = absurd h
in_term Name Arguments n each (boolean b) h = absurd h
in_term Name Arguments n each (number x) h = absurd h
in_term Name Arguments n each (string name) h = omega arith
in_term Name Arguments n each (array no_items) h = absurd h
in_term Name Arguments n each (array (item null ds)) h = absurd h
in_term Name Arguments n each (array (item (boolean b) ds)) h = absurd h
in_term Name Arguments n each (array (item (number x) ds)) h = absurd h
in_term Name Arguments n each (array (item (string name) ds)) h = omega (arith, each ds h.1)
in_term Name Arguments n each (array (item (array xs) ds)) h = absurd h
in_term Name Arguments n each (array (item (object ms) ds)) h = absurd h
in_term Name Arguments n each (object ms) h = absurd h

-- no arguments are not nested
nothing : (ds : Items) → IsNothing ds → items_depth ds ≤ 1
nothing no_items h = omega arith
nothing (item d ds) h = absurd h

-- one argument is nested as it is
only : (First : Data → Type 0) (n : ℕ) → ((d : Data) → First d → depth d ≤ n) → (ds : Items) → IsOnly First ds → items_depth ds ≤ n
only First n each no_items h = absurd h
only First n each (item d no_items) h = omega (arith, each d h)
only First n each (item d (item e ds)) h = absurd h

-- one argument, or two
one_or_two : (First : Data → Type 0) (IsDefault : Type 0) (Other : Data → Type 0) → ((d : Data) → First d → depth d ≤ 1) → ((d : Data) → Other d → depth d ≤ 1) → (ds : Items) → IsOneOrTwo First IsDefault Other ds → items_depth ds ≤ 1
one_or_two First IsDefault Other first second no_items h = absurd h
one_or_two First IsDefault Other first second (item d no_items) h = omega (arith, first d h.0)
one_or_two First IsDefault Other first second (item d (item e no_items)) h = omega (arith, first d h.0, second e h.1)
one_or_two First IsDefault Other first second (item d (item e (item f ds))) h = absurd h

-- a word
word : (w : List ℕ) (d : Data) → IsWord w d → depth d ≤ 1
word w d h = omega (arith, flat d w h)

-- a text
text : (t : List ℕ) (d : Data) → IsText t d → depth d ≤ 0
text t d h = flat d t h.0

-- texts in a list
listed : (ts : List (List ℕ)) (ds : Items) → AreListed ts ds → items_depth ds ≤ 0
listed [] no_items h = omega arith
listed [] (item d ds) h = absurd h
listed (t ∷ ts) no_items h = absurd h
listed (t ∷ ts) (item d ds) h = omega (arith, text t d h.0, listed ts ds h.1)

-- a text that may be in a list
one_text : (t : List ℕ) (d : Data) → IsText t d → depth d ≤ 1
one_text t d h = omega (arith, text t d h)

-- texts
texts : (ts : List (List ℕ)) (d : Data) → AreTexts ts d → depth d ≤ 1
texts ts (array ds) h = omega (arith, listed ts ds h)
texts [] null h = absurd h
texts [] (boolean b) h = absurd h
texts [] (number x) h = absurd h
texts [] (string s) h = absurd h
texts [] (object ms) h = absurd h
texts (t ∷ []) null h = one_text t null h
texts (t ∷ []) (boolean b) h = one_text t (boolean b) h
texts (t ∷ []) (number x) h = one_text t (number x) h
texts (t ∷ []) (string s) h = one_text t (string s) h
texts (t ∷ []) (object ms) h = one_text t (object ms) h
texts (t ∷ u ∷ ts) null h = absurd h
texts (t ∷ u ∷ ts) (boolean b) h = absurd h
texts (t ∷ u ∷ ts) (number x) h = absurd h
texts (t ∷ u ∷ ts) (string s) h = absurd h
texts (t ∷ u ∷ ts) (object ms) h = absurd h

-- an integer
between : (low high z : ℤ) (d : Data) → IsBetween low high z d → depth d ≤ 0
between low high z null h = absurd h
between low high z (boolean b) h = absurd h
between low high z (number x) h = omega arith
between low high z (string s) h = absurd h
between low high z (array ds) h = absurd h
between low high z (object ms) h = absurd h

-- a relation and a number
comparison : (relation : Relation) (n : ℤ) (ds : Items) → IsComparison relation n ds → items_depth ds ≤ 0
comparison relation n no_items h = absurd h
comparison relation n (item d no_items) h = absurd h
comparison relation n (item d (item e no_items)) h = omega (arith, flat d _ h.0, between _ _ n e h.1)
comparison relation n (item d (item e (item f ds))) h = absurd h

-- a depth
a_depth : (limit : Depth) (d : Data) → IsDepth limit d → depth d ≤ 1
a_depth Any d h = absurd h
a_depth (Is relation n) null h = absurd h
a_depth (Is relation n) (boolean b) h = absurd h
a_depth (Is relation n) (number x) h = absurd h
a_depth (Is relation n) (string s) h = absurd h
a_depth (Is relation n) (array no_items) h = absurd h
a_depth (Is relation n) (array (item d ds)) h = omega (arith, flat d _ h.0, comparison relation n ds h.1)
a_depth (Is relation n) (object ms) h = absurd h

-- a clock spec
bound : (instance : InstanceData) (b : Bound) (d : Data) → IsBound instance b d → depth d ≤ 1
bound instance b (string s) h = omega arith
bound instance (Second second) null h = absurd h
bound instance (Second second) (boolean b) h = absurd h
bound instance (Second second) (number x) h = omega arith
bound instance (Second second) (array ds) h = absurd h
bound instance (Second second) (object ms) h = absurd h
bound instance Fresh null h = absurd h
bound instance Fresh (boolean b) h = absurd h
bound instance Fresh (number x) h = absurd h
bound instance Fresh (array ds) h = absurd h
bound instance Fresh (object ms) h = absurd h
bound instance (Tick n) null h = absurd h
bound instance (Tick n) (boolean b) h = absurd h
bound instance (Tick n) (number x) h = absurd h
bound instance (Tick n) (array ds) h = absurd h
bound instance (Tick n) (object ms) h = absurd h

-- flags
flag_members : (ms : Members) → AreFlagMembers ms → members_depth ms ≤ 0
flag_members no_members h = omega arith
flag_members (member k null ms) h = absurd h
flag_members (member k (boolean b) ms) h = omega (arith, flag_members ms h.1)
flag_members (member k (number x) ms) h = absurd h
flag_members (member k (string s) ms) h = absurd h
flag_members (member k (array ds) ms) h = absurd h
flag_members (member k (object ns) ms) h = absurd h

-- an object of flags
flags : (f : _) (d : Data) → AreFlags f d → depth d ≤ 1
flags f null h = absurd h
flags f (boolean b) h = absurd h
flags f (number x) h = absurd h
flags f (string s) h = absurd h
flags f (array ds) h = absurd h
flags f (object ms) h = omega (arith, flag_members ms h.0)

-- a pattern and the values after it
pattern : (p : PatternData) (ds : Items) → IsPattern p ds → items_depth ds ≤ 1
pattern p no_items h = absurd h
pattern p (item d no_items) h = omega (arith, flat d _ (h.0).0)
pattern p (item d (item e no_items)) h = omega (arith, flat d _ (h.0).0, flat e _ h.1)
pattern p (item d (item e (item f no_items))) h = omega (arith, flat d _ (h.0).0, flat e _ h.1, flags p.flags f h.2)
pattern p (item d (item e (item f (item g ds)))) h = absurd h

-- a second
a_second : (second : ℤ) (d : Data) → IsSecond second d → depth d ≤ 1
a_second second d h = omega (arith, between _ _ second d h)

-- a clock spec and its field
a_since : (instance : InstanceData) (point : SinceData) (ds : Items) → IsSince instance point ds → items_depth ds ≤ 1
a_since instance (Observed b) ds h = one_or_two _ _ _ (bound instance b) (word _) ds h
a_since instance (Created b) ds h = one_or_two _ _ _ (bound instance b) (word _) ds h
a_since instance (Modified second) ds h = one_or_two _ _ _ (a_second second) (word _) ds h

-- a size
a_size : (relation : Relation) (n : ℤ) (ds : Items) → IsComparison relation n ds → items_depth ds ≤ 1
a_size relation n ds h = omega (arith, comparison relation n ds h)

-- a directory
directory : (dir : List ℕ) (d : Data) → IsDirectory dir d → depth d ≤ 1
directory dir d h = one_text _ d (h.1).1

-- a kind
a_kind : (kind : Kind) (d : Data) → IsKind kind d → depth d ≤ 1
a_kind kind d h = omega (arith, flat d _ h.0)

-- a value is nested once more than the terms that it says
mutual
  written : (instance : InstanceData) (t : ExprData) (d : Data) → IsWrittenBy instance t d → depth d ≤ suc (depth_of t)
  written instance always d h = in_term _ _ 1 nothing d h
  written instance never d h = in_term _ _ 1 nothing d h
  written instance exists d h = in_term _ _ 1 nothing d h
  written instance empty d h = in_term _ _ 1 nothing d h
  written instance (kind_is kind) d h = in_term _ _ 1 (only _ 1 (a_kind kind)) d h
  written instance (name_is case scope ts) d h = in_term _ _ 1 (one_or_two _ _ _ (texts ts) (word _)) d h
  written instance (matches p) d h = in_term _ _ 1 (pattern p) d h
  written instance (suffix_is ts) d h = in_term _ _ 1 (only _ 1 (texts ts)) d h
  written instance (size_is relation n) d h = in_term _ _ 1 (a_size relation n) d h
  written instance (since point) d h = in_term _ _ 1 (a_since instance point) d h
  written instance (below case dir limit) d h = in_term _ _ 1 (one_or_two _ _ _ (directory dir) (a_depth limit)) d h
  written instance (negation t) d h = in_term _ _ (suc (depth_of t)) (only _ _ (written instance t)) d h
  written instance (all_of ts) d h = in_term _ _ (suc (greatest_depth ts)) (all_written instance ts) d h
  written instance (any_of ts) d h = in_term _ _ (suc (greatest_depth ts)) (all_written instance ts) d h

  all_written : (instance : InstanceData) (ts : ExprsData) (ds : Items) → AreWrittenBy instance ts ds → items_depth ds ≤ suc (greatest_depth ts)
  all_written instance no_terms no_items h = omega arith
  all_written instance no_terms (item d ds) h = absurd h
  all_written instance (term t ts) no_items h = absurd h
  all_written instance (term t ts) (item d ds) h = omega (arith, written instance t d h.0, all_written instance ts ds h.1)

-- a value that is read as an expression is nested less than 127 deep
pub shallow : ValuesSayWhatTheyWrite → (instance : InstanceData) (t : ExprData) (d : Data) → reads_as instance max_depth d ≡ Ok t → depth d ≤ 127
shallow law instance t d h =
    let is = (law instance t d).0 h in
    omega (arith, written instance t d is.0, is.1)
