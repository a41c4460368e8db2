-- A value says exactly the expression that the grammar has written by it.
use Rattle.std.proofs.Common.{◌≡◌, ℕ, zero, suc, ◌≤◌, Bool, true, false, List, Option, Some, Ok}
use Rattle.std.proofs.Common.{refl, sym, ap, subst, ◌∙◌, arith}
use Rattle.std.specs.Prelude.{if◌then◌else◌}
use Rattle.std.proofs.lemmas.Option.{same_Some}
use Rattle.serde_json.specs.Data.{Data, string, array, Items, no_items, item}
use Rattle.wq_base.specs.Fault.{or_fault, or_own_fault}
use Rattle.wq_base.proofs.Fault.{or_fault-ok, or_own_fault-ok}
use Rattle.wq_base.proofs.Named.{named-name}
use Rattle.wq_clock.specs.Instance.{InstanceData}
use Rattle.wq_clock.specs.Law.{TextsSayWhatTheySpell}
use Rattle.wq_glob.specs.Pattern.{PatternData}
use Rattle.wq_base.specs.declared.compare.Case.{Case}
use Rattle.wq_base.specs.declared.compare.Case.TheVariants.{Exact, Folded}
use Rattle.wq_base.proofs.Facts.{same_Ok}
use Rattle.wq_term.specs.declared.fault.TermFault.TheVariants.{UnknownTerm, WrongArguments}
use Rattle.wq_term.specs.declared.head.Head.{Head}
use Rattle.wq_term.specs.declared.head.Head.TheVariants.{True, False, Exists, Empty, KindIs, Name}
use Rattle.wq_term.specs.declared.head.Head.TheVariants.{Iname, Match, Imatch, Suffix, Size, Since}
use Rattle.wq_term.specs.declared.head.Head.TheVariants.{Dirname, Idirname, Not, AllOf, AnyOf}
use Rattle.wq_term.specs.Argument.{term_parts}
use Rattle.wq_term.specs.Expr.{ExprData, always, never, exists, empty, kind_is, name_is, matches}
use Rattle.wq_term.specs.Expr.{suffix_is, size_is, since, below, negation, all_of, any_of}
use Rattle.wq_term.specs.Expr.{ExprsData, no_terms, term, depth_of, greatest_depth}
use Rattle.wq_term.specs.Head.{head_name, heads, head_named}
use Rattle.wq_term.specs.PatternArgument.{is_folded}
use Rattle.wq_term.specs.Reading.{Answer, read_plain, read_name, read_dirname, read_negation}
use Rattle.wq_term.specs.Reading.{read_all, read_named, reads_as}
use Rattle.wq_term.specs.ArgumentGrammar.{AreTexts, IsKind, IsComparison, IsPattern}
use Rattle.wq_term.specs.Grammar.{IsTerm, IsNothing, IsOnly, IsSince, in_case, IsWrittenBy}
use Rattle.wq_term.specs.Grammar.{AreWrittenBy}
use Rattle.wq_term.specs.Law.{ValuesSayWhatTheyWrite, ReadExpressionsAreShallow}
use Rattle.wq_term.specs.Law.{BoundsSayWhatTheyWrite, NumbersSayWhatTheyWrite}
use Rattle.wq_term.specs.Limit.{max_depth}
use Rattle.wq_term.proofs.ArgumentGrammar.{bound-found, bound-reads, between-found}
use Rattle.wq_term.proofs.ArgumentGrammar.{between-reads}
use Rattle.wq_term.proofs.TermGrammar.{plain-found, plain_term-reads, type-found, type-reads}
use Rattle.wq_term.proofs.TermGrammar.{suffix-found, suffix-reads, size-found, size-reads, IsNames}
use Rattle.wq_term.proofs.TermGrammar.{name-found, name-reads, IsBelow, dirname-found}
use Rattle.wq_term.proofs.TermGrammar.{dirname-reads, since-found, since-reads, match-found}
use Rattle.wq_term.proofs.TermGrammar.{match-reads}

-- a name names its term
head-reads : (head : Head) → head_named (head_name head) ≡ Some head
unfolding head_named
head-reads True = refl
head-reads False = refl
head-reads Exists = refl
head-reads Empty = refl
head-reads KindIs = refl
head-reads Name = refl
head-reads Iname = refl
head-reads Match = refl
head-reads Imatch = refl
head-reads Suffix = refl
head-reads Size = refl
head-reads Since = refl
head-reads Dirname = refl
head-reads Idirname = refl
head-reads Not = refl
head-reads AllOf = refl
head-reads AnyOf = refl

head-found : (text : List ℕ) (head : Head) → head_named text ≡ Some head → text ≡ head_name head
unfolding head_named
head-found text head e = named-name head_name heads text head e

-- a name with arguments is a term of them
parts-found : (head : Head) (Arguments : Items → Type 0) (d : Data) (p : List ℕ × Items)
    → ◌≡◌ {A = Option (List ℕ × Items)} (term_parts d) (Some p)
    → p.0 ≡ head_name head → Arguments p.1 → IsTerm head Arguments d
parts-found head Arguments (string s) p e named h =
    let is = same_Some {A = List ℕ × Items} (s, no_items) p e in
    (ap (λ q. q.0) is ∙ named, subst Arguments (sym (ap (λ q. q.1) is)) h)
parts-found head Arguments (array (item (string s) ds)) p e named h =
    let is = same_Some {A = List ℕ × Items} (s, ds) p e in
    (ap (λ q. q.0) is ∙ named, subst Arguments (sym (ap (λ q. q.1) is)) h)
parts-found head Arguments _ p e named h = cc

-- a value is a writing of a term if it has its name and arguments, and the term is this deep
abbrev pub Writes : InstanceData → ℕ → Head → Items → ExprData → Type 0
Writes instance levels head ds t =
    ((d : Data) → IsTerm head (λ es. es ≡ ds) d → IsWrittenBy instance t d) × (depth_of t ≤ suc levels)

-- a value with this name and these arguments
filled : (head : Head) (ds : Items) (Arguments : Items → Type 0) (d : Data)
    → IsTerm head (λ es. es ≡ ds) d
    → Arguments ds → IsTerm head Arguments d
filled head ds Arguments (string s) has h = (has.0, subst Arguments (sym has.1) h)
filled head ds Arguments (array (item (string s) es)) has h = (has.0, subst Arguments (sym has.1) h)
filled head ds Arguments _ has h = absurd has

-- the head of `match` for patterns that fold letters, or not
fold_head : (case : Case) (fold : Bool) → is_folded case ≡ fold
    → in_case case Match Imatch ≡ (if fold then Imatch else Match)
fold_head Exact fold e = subst (λ b. Match ≡ (if b then Imatch else Match)) e refl
fold_head Folded fold e = subst (λ b. Imatch ≡ (if b then Imatch else Match)) e refl

-- a term without arguments
plain : (instance : InstanceData) (levels : ℕ) (head : Head) (u : ExprData) (ds : Items) (t : ExprData)
    → read_plain u ds ≡ Ok t → depth_of u ≡ 1
    → ((d : Data) → IsTerm head IsNothing d → IsWrittenBy instance u d)
    → Writes instance levels head ds t
plain instance levels head u ds t e one writes =
    let p = plain-found u ds t e in
    subst (Writes instance levels head ds) p.1 ((λ d has. writes d (filled head ds IsNothing d has p.0)), omega (arith, one))

-- the terms of a list
all-found : (instance : InstanceData) (levels : ℕ) (read : Data → Answer)
    → ((d : Data) (t : ExprData) → read d ≡ Ok t → IsWrittenBy instance t d × (depth_of t ≤ levels))
    → (ds : Items) (ts : ExprsData) → read_all read ds ≡ Ok ts
    → AreWrittenBy instance ts ds × (greatest_depth ts ≤ levels)
all-found instance levels read one no_items ts e =
    subst (λ us. AreWrittenBy instance us no_items × (greatest_depth us ≤ levels)) (same_Ok no_terms ts e) (tt, omega arith)
all-found instance levels read one (item d ds) ts e =
    or_own_fault-ok (read d) (λ t. or_own_fault (read_all read ds) (λ us. Ok (term t us))) ts e (λ t first e'.
    or_own_fault-ok (read_all read ds) (λ us. Ok (term t us)) ts e' (λ us rest is.
    let h = one d t first in
    let hs = all-found instance levels read one ds us rest in
    let h1 = h.1 in
    let hs1 = hs.1 in
    subst (λ vs. AreWrittenBy instance vs (item d ds) × (greatest_depth vs ≤ levels)) (same_Ok (term t us) ts is)
    ((h.0, hs.0), omega (arith, h1, hs1))))

-- a head and arguments write the term that is read from them
named-found : TextsSayWhatTheySpell → (instance : InstanceData) (levels : ℕ) (read : Data → Answer)
    → ((d : Data) (t : ExprData) → read d ≡ Ok t → IsWrittenBy instance t d × (depth_of t ≤ levels))
    → (head : Head) (ds : Items) (t : ExprData) → read_named instance read head ds ≡ Ok t
    → Writes instance levels head ds t
named-found law instance levels read one True ds t e =
    plain instance levels True always ds t e refl (λ d h. h)
named-found law instance levels read one False ds t e =
    plain instance levels False never ds t e refl (λ d h. h)
named-found law instance levels read one Exists ds t e =
    plain instance levels Exists exists ds t e refl (λ d h. h)
named-found law instance levels read one Empty ds t e =
    plain instance levels Empty empty ds t e refl (λ d h. h)
named-found law instance levels read one KindIs ds t e = type-found ds t e (λ kind is h.
    subst (Writes instance levels KindIs ds) is ((λ d has. filled KindIs ds (IsOnly (IsKind kind)) d has h), omega arith))
named-found law instance levels read one Name ds t e = name-found Exact ds t e (λ scope texts is h.
    subst (Writes instance levels Name ds) is ((λ d has. filled Name ds (IsNames scope texts) d has h), omega arith))
named-found law instance levels read one Iname ds t e =
    name-found Folded ds t e (λ scope texts is h.
    subst (Writes instance levels Iname ds) is ((λ d has. filled Iname ds (IsNames scope texts) d has h), omega arith))
named-found law instance levels read one Match ds t e =
    match-found Exact ds t e (λ pattern is fold h.
    subst (Writes instance levels Match ds) is
    ((λ d has. subst (λ head. IsTerm head (IsPattern pattern) d) (fold_head Exact _ fold) (filled Match ds (IsPattern pattern) d has h)), omega arith))
named-found law instance levels read one Imatch ds t e =
    match-found Folded ds t e (λ pattern is fold h.
    subst (Writes instance levels Imatch ds) is
    ((λ d has. subst (λ head. IsTerm head (IsPattern pattern) d) (fold_head Folded _ fold) (filled Imatch ds (IsPattern pattern) d has h)), omega arith))
named-found law instance levels read one Suffix ds t e = suffix-found ds t e (λ texts is h.
    subst (Writes instance levels Suffix ds) is ((λ d has. filled Suffix ds (IsOnly (AreTexts texts)) d has h), omega arith))
named-found law instance levels read one Size ds t e = size-found ds t e (λ relation n is h.
    subst (Writes instance levels Size ds) is ((λ d has. filled Size ds (IsComparison relation n) d has h), omega arith))
named-found law instance levels read one Since ds t e =
    since-found law instance ds t e (λ point is h.
    subst (Writes instance levels Since ds) is ((λ d has. filled Since ds (IsSince instance point) d has h), omega arith))
named-found law instance levels read one Dirname ds t e =
    dirname-found Exact ds t e (λ dir depth is h.
    subst (Writes instance levels Dirname ds) is ((λ d has. filled Dirname ds (IsBelow dir depth) d has h), omega arith))
named-found law instance levels read one Idirname ds t e =
    dirname-found Folded ds t e (λ dir depth is h.
    subst (Writes instance levels Idirname ds) is ((λ d has. filled Idirname ds (IsBelow dir depth) d has h), omega arith))
named-found law instance levels read one Not (item x no_items) t e =
    or_own_fault-ok (read x) (λ u. Ok (negation u)) t e (λ u some is.
    let h = one x u some in
    let h1 = h.1 in
    subst (Writes instance levels Not (item x no_items)) (same_Ok (negation u) t is)
    ((λ d has. filled Not (item x no_items) (IsOnly (IsWrittenBy instance u)) d has h.0), omega (arith, h1)))
named-found law instance levels read one Not _ t e = cc
named-found law instance levels read one AllOf ds t e =
    or_own_fault-ok (read_all read ds) (λ us. Ok (all_of us)) t e (λ us some is.
    let h = all-found instance levels read one ds us some in
    let h1 = h.1 in
    subst (Writes instance levels AllOf ds) (same_Ok (all_of us) t is)
    ((λ d has. filled AllOf ds (AreWrittenBy instance us) d has h.0), omega (arith, h1)))
named-found law instance levels read one AnyOf ds t e =
    or_own_fault-ok (read_all read ds) (λ us. Ok (any_of us)) t e (λ us some is.
    let h = all-found instance levels read one ds us some in
    let h1 = h.1 in
    subst (Writes instance levels AnyOf ds) (same_Ok (any_of us) t is)
    ((λ d has. filled AnyOf ds (AreWrittenBy instance us) d has h.0), omega (arith, h1)))

-- a term that is read is written, and is no deeper than it may be
pub found : TextsSayWhatTheySpell → (instance : InstanceData) (levels : ℕ) (d : Data) (t : ExprData)
    → reads_as instance levels d ≡ Ok t → IsWrittenBy instance t d × (depth_of t ≤ levels)
unfolding reads_as
found law instance zero d t e = cc
found law instance (suc levels) d t e =
    or_fault-ok WrongArguments (term_parts d) (λ (p : List ℕ × Items). or_fault UnknownTerm (head_named p.0) (λ head. read_named instance (reads_as instance levels) head p.1)) t e (λ p parts e'.
    or_fault-ok UnknownTerm (head_named p.0) (λ head. read_named instance (reads_as instance levels) head p.1) t e' (λ head named e''.
    let h = named-found law instance levels (reads_as instance levels) (found law instance levels) head p.1 t e'' in
    (h.0 d (parts-found head (λ es. es ≡ p.1) d p parts (head-found p.0 head named) refl), h.1)))

-- a term is read if its arguments are
term-reads : (instance : InstanceData) (head : Head) (Arguments : Items → Type 0) (t : ExprData) (levels : ℕ) (d : Data)
    → 1 ≤ levels → IsTerm head Arguments d
    → ((k : ℕ) (ds : Items) → suc k ≡ levels → Arguments ds → read_named instance (reads_as instance k) head ds ≡ Ok t)
    → reads_as instance levels d ≡ Ok t
unfolding reads_as
term-reads instance head Arguments t zero d le h reads = absurd (omega (arith, le))
term-reads instance head Arguments t (suc k) (string s) le h reads =
    rw (h.0, head-reads head) (reads k no_items refl h.1)
term-reads instance head Arguments t (suc k) (array (item (string s) ds)) le h reads =
    rw (h.0, head-reads head) (reads k ds refl h.1)
term-reads instance head Arguments t (suc k) _ le h reads = absurd h

names-read : (instance : InstanceData) (read : Data → Answer) (case : Case) (ds : Items)
    → read_named instance read (in_case case Name Iname) ds ≡ read_name case ds
names-read instance read Exact ds = refl
names-read instance read Folded ds = refl

below-read : (instance : InstanceData) (read : Data → Answer) (case : Case) (ds : Items)
    → read_named instance read (in_case case Dirname Idirname) ds ≡ read_dirname case ds
below-read instance read Exact ds = refl
below-read instance read Folded ds = refl

pattern-read : (instance : InstanceData) (read : Data → Answer) (ds : Items) (pattern : PatternData)
    → IsPattern pattern ds
    → read_named instance read (if (pattern.flags).fold then Imatch else Match) ds ≡ Ok (matches pattern)
pattern-read instance read ds pattern h = at (pattern.flags).fold refl
  where
    at : (b : Bool) → (pattern.flags).fold ≡ b
        → read_named instance read (if b then Imatch else Match) ds ≡ Ok (matches pattern)
    at true e = match-reads Folded ds pattern (sym e) h
    at false e = match-reads Exact ds pattern (sym e) h

-- `not` of a term that is read
negation-reads : (instance : InstanceData) (read : Data → Answer) (t : ExprData) (ds : Items)
    → ((d : Data) → IsWrittenBy instance t d → read d ≡ Ok t) → IsOnly (IsWrittenBy instance t) ds
    → read_negation read ds ≡ Ok (negation t)
negation-reads instance read t (item d no_items) one h = rw (one d h) refl
negation-reads instance read t _ one h = absurd h

nothing-reads : (instance : InstanceData) (levels : ℕ) (ds : Items)
    → AreWrittenBy instance no_terms ds
    → read_all (reads_as instance levels) ds ≡ Ok no_terms
nothing-reads instance levels no_items h = refl
nothing-reads instance levels (item d ds) h = absurd h

both-reads : (instance : InstanceData) (levels : ℕ) (t : ExprData) (ts : ExprsData) (ds : Items)
    → ((d : Data) → IsWrittenBy instance t d → reads_as instance levels d ≡ Ok t)
    → ((es : Items) → AreWrittenBy instance ts es → read_all (reads_as instance levels) es ≡ Ok ts)
    → AreWrittenBy instance (term t ts) ds → read_all (reads_as instance levels) ds ≡ Ok (term t ts)
both-reads instance levels t ts no_items one rest h = absurd h
both-reads instance levels t ts (item d ds) one rest h = rw (one d h.0, rest ds h.1) refl

mutual
  -- a value that is written is read, if it is not too deep
  pub reads : TextsSayWhatTheySpell
      → (instance : InstanceData) (t : ExprData) (levels : ℕ) (d : Data)
      → IsWrittenBy instance t d → depth_of t ≤ levels → reads_as instance levels d ≡ Ok t
  reads law instance always levels d h le =
      term-reads instance True IsNothing always levels d le h (λ k ds is a. plain_term-reads always ds a)
  reads law instance never levels d h le =
      term-reads instance False IsNothing never levels d le h (λ k ds is a. plain_term-reads never ds a)
  reads law instance exists levels d h le =
      term-reads instance Exists IsNothing exists levels d le h (λ k ds is a. plain_term-reads exists ds a)
  reads law instance empty levels d h le =
      term-reads instance Empty IsNothing empty levels d le h (λ k ds is a. plain_term-reads empty ds a)
  reads law instance (kind_is kind) levels d h le =
      term-reads instance KindIs (IsOnly (IsKind kind)) (kind_is kind) levels d le h (λ k ds is a. type-reads ds kind a)
  reads law instance (name_is case scope texts) levels d h le =
      term-reads instance (in_case case Name Iname) (IsNames scope texts) (name_is case scope texts) levels d le h
      (λ k ds is a. names-read instance (reads_as instance k) case ds ∙ name-reads case ds scope texts a)
  reads law instance (matches pattern) levels d h le =
      term-reads instance (if (pattern.flags).fold then Imatch else Match) (IsPattern pattern) (matches pattern) levels d le h
      (λ k ds is a. pattern-read instance (reads_as instance k) ds pattern a)
  reads law instance (suffix_is texts) levels d h le =
      term-reads instance Suffix (IsOnly (AreTexts texts)) (suffix_is texts) levels d le h (λ k ds is a. suffix-reads ds texts a)
  reads law instance (size_is relation n) levels d h le =
      term-reads instance Size (IsComparison relation n) (size_is relation n) levels d le h (λ k ds is a. size-reads ds relation n a)
  reads law instance (since point) levels d h le =
      term-reads instance Since (IsSince instance point) (since point) levels d le h (λ k ds is a. since-reads law instance ds point a)
  reads law instance (below case dir depth) levels d h le =
      term-reads instance (in_case case Dirname Idirname) (IsBelow dir depth) (below case dir depth) levels d le h
      (λ k ds is a. below-read instance (reads_as instance k) case ds ∙ dirname-reads case ds dir depth a)
  reads law instance (negation t) levels d h le =
      term-reads instance Not (IsOnly (IsWrittenBy instance t)) (negation t) levels d (omega (arith, le)) h
      (λ k ds is a. negation-reads instance (reads_as instance k) t ds (λ x w. reads law instance t k x w (omega (arith, le, is))) a)
  reads law instance (all_of ts) levels d h le =
      term-reads instance AllOf (AreWrittenBy instance ts) (all_of ts) levels d (omega (arith, le)) h
      (λ k ds is a. ap (λ r. or_own_fault r (λ us. Ok (all_of us))) (all-reads law instance ts k ds a (omega (arith, le, is))))
  reads law instance (any_of ts) levels d h le =
      term-reads instance AnyOf (AreWrittenBy instance ts) (any_of ts) levels d (omega (arith, le)) h
      (λ k ds is a. ap (λ r. or_own_fault r (λ us. Ok (any_of us))) (all-reads law instance ts k ds a (omega (arith, le, is))))

  all-reads : TextsSayWhatTheySpell
      → (instance : InstanceData) (ts : ExprsData) (levels : ℕ) (ds : Items)
      → AreWrittenBy instance ts ds → greatest_depth ts ≤ levels
      → read_all (reads_as instance levels) ds ≡ Ok ts
  all-reads law instance no_terms levels ds h le = nothing-reads instance levels ds h
  all-reads law instance (term t ts) levels ds h le =
      both-reads instance levels t ts ds
      (λ d w. reads law instance t levels d w (omega (arith, le)))
      (λ es w. all-reads law instance ts levels es w (omega (arith, le))) h

-- both ways
pub values_say : TextsSayWhatTheySpell → ValuesSayWhatTheyWrite
values_say law instance t d =
    (found law instance max_depth d t, λ h. reads law instance t max_depth d h.0 h.1)

-- so a term that is read is shallow
pub are_shallow : TextsSayWhatTheySpell → ReadExpressionsAreShallow
are_shallow law instance t d e = (found law instance max_depth d t e).1

-- the same of a bound
pub bounds_say : TextsSayWhatTheySpell → BoundsSayWhatTheyWrite
bounds_say law instance bound d =
    (bound-found law instance d bound, bound-reads law instance bound d)

-- and of a whole number
pub numbers_say : NumbersSayWhatTheyWrite
numbers_say n d = (between-found _ _ n d, between-reads _ n d)
