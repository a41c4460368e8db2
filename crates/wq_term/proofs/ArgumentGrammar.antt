-- A value is read as an argument exactly if the grammar writes it so.
use Rattle.std.proofs.Common.{◌≡◌, ◌≢◌, ℕ, ℤ, pos, ◌≤◌, ◌<◌, ◌^◌, ◌≤ℤ◌, T, Bool, true, false, cond}
use Rattle.std.proofs.Common.{◌&&◌, List, [], ◌∷◌, length}
use Rattle.std.proofs.Common.{Option, Some, None, option_map, option_and_then, Ok, refl}
use Rattle.std.proofs.Common.{sym, ap, subst, ◌∙◌, arith}
use Rattle.std.specs.Prelude.{codes, nat_le, int_le, neg_ℤ, bytes_eq}
use lib.Signed.{le_z_yes}
use Rattle.std.specs.Option.{option_zip}
use Rattle.std.proofs.lemmas.Bool.{and_parts, and_from, le-leb, leb-true, lt-ltb, cond-true}
use Rattle.std.proofs.lemmas.Option.{cond_some, none-some, same_Some, option_and_then_some}
use Rattle.std.proofs.lemmas.Option.{some_pair_parts}
use Rattle.std.proofs.lemmas.Slice.Eq.{bytes_eq-Decides}
use Rattle.serde_json.specs.Data.{Data, number, string, array}
use Rattle.serde_json.specs.Data.{Num, unsigned, negative, float, Items, no_items, item}
use Rattle.serde_json.specs.Find.{as_i64, as_integer}
use Rattle.wq_base.specs.Limit.{max_number}
use Rattle.wq_base.specs.Fault.{or_fault}
use Rattle.wq_base.proofs.Fault.{or_fault-ok, with_first-some}
use Rattle.wq_base.proofs.Named.{named-name}
use Rattle.wq_clock.specs.Instance.{InstanceData}
use Rattle.wq_clock.specs.ClockSpec.{clock_spec_of}
use Rattle.wq_clock.specs.Bound.{bound_of}
use Rattle.wq_clock.specs.Law.{TextsSayWhatTheySpell}
use Rattle.wq_clock.specs.declared.bound.Bound.{Bound}
use Rattle.wq_clock.specs.declared.bound.Bound.TheVariants.{Second}
use Rattle.wq_record.specs.declared.kind.Kind.{Kind}
use Rattle.wq_record.specs.declared.kind.Kind.TheVariants.{File, Dir, Link, Block, Char, Fifo, Socket}
use Rattle.wq_record.specs.declared.kind.Kind.TheVariants.{Door, Unknown}
use Rattle.wq_base.specs.declared.compare.Relation.{Relation}
use Rattle.wq_base.specs.declared.compare.Relation.TheVariants.{Eq, Ne, Gt, Ge, Lt, Le}
use Rattle.wq_base.proofs.Facts.{same_Ok}
use Rattle.wq_term.specs.declared.expr.Scope.{Scope}
use Rattle.wq_term.specs.declared.expr.Scope.TheVariants.{Basename, Wholename}
use Rattle.wq_term.specs.declared.expr.Depth.{Depth}
use Rattle.wq_term.specs.declared.expr.Depth.TheVariants.{Is}
use Rattle.wq_term.specs.declared.parser.word.SinceField.{SinceField}
use Rattle.wq_term.specs.declared.parser.word.SinceField.TheVariants.{Oclock, Cclock, Mtime}
use Rattle.wq_term.specs.declared.fault.TermFault.TheVariants.{BadClockSpec, CursorInTerm}
use Rattle.wq_term.specs.Limit.{max_term_text}
use Rattle.wq_term.specs.Word.{kind_name, kinds, kind_named, scope_name, scopes, scope_named}
use Rattle.wq_term.specs.Word.{relation_name, relations, relation_named, since_field_name, since_fields}
use Rattle.wq_term.specs.Word.{since_field_named}
use Rattle.wq_term.specs.Argument.{text_of, all_texts_of, texts_of, integer_between}
use Rattle.wq_term.specs.Argument.{whole_number_of, epoch_second, kind_of_letter, scope_of, since_field_of}
use Rattle.wq_term.specs.Argument.{relation_of, comparison_of, depth_argument, bound_in}
use Rattle.wq_term.specs.ArgumentGrammar.{IsText, AreListed, AreTexts, IsBetween, IsKind}
use Rattle.wq_term.specs.ArgumentGrammar.{IsComparison, IsDepth, IsBound}

-- a test that is taken
pub holds_true : (b : Bool) → T b → b ≡ true
holds_true true t = refl
holds_true false t = absurd t

-- a value that is there under a test has passed it
pub cond_then : {A : Type 0} (b : Bool) (o : Option A) (y : A) → cond b o None ≡ Some y
    → (b ≡ true) × (o ≡ Some y)
cond_then true o y e = (refl, e)
cond_then false o y e = cc

-- a value that a map gives is that of something
pub mapped : {A B P : Type 0} (f : A → B) (o : Option A) (y : B) → option_map f o ≡ Some y
    → ((x : A) → o ≡ Some x → f x ≡ y → P) → P
mapped f None y e goal = cc
mapped f (Some x) y e goal = goal x refl (same_Some (f x) y e)

-- a text
pub text-found : (d : Data) (text : List ℕ) → text_of d ≡ Some text → IsText text d
text-found (string s) text e =
    let p = cond_some _ _ _ e in
    (ap string p.1, subst (λ t. length t ≤ max_term_text) p.1 (leb-true _ _ p.0))
text-found _ text e = cc

-- and a text written so is read
pub text-reads : (d : Data) (text : List ℕ) → IsText text d → text_of d ≡ Some text
text-reads d text h =
    subst (λ x. text_of x ≡ Some text) (sym h.0) (cond-true _ _ _ (le-leb _ _ h.1))

-- the texts of a list
all-found : (ds : Items) (texts : List (List ℕ)) → all_texts_of ds ≡ Some texts → AreListed texts ds
all-found no_items texts e = subst (λ ts. AreListed ts no_items) (same_Some [] texts e) tt
all-found (item d ds) texts e =
    with_first-some (text_of d) (all_texts_of ds) texts e (λ t ts first rest is.
    subst (λ x. AreListed x (item d ds)) is (text-found d t first, all-found ds ts rest))

all-reads : (ds : Items) (texts : List (List ℕ)) → AreListed texts ds → all_texts_of ds ≡ Some texts
all-reads no_items [] h = refl
all-reads (item d ds) (t ∷ ts) h = rw (text-reads d t h.0, all-reads ds ts h.1) refl
all-reads no_items (t ∷ ts) h = absurd h
all-reads (item d ds) [] h = absurd h

-- a list of texts, or one
pub texts-found : (d : Data) (texts : List (List ℕ)) → texts_of d ≡ Some texts → AreTexts texts d
texts-found (array ds) texts e = all-found ds texts e
texts-found (string s) texts e =
    mapped (λ (text : List ℕ). text ∷ []) (text_of (string s)) texts e (λ t some is.
    subst (λ ts. AreTexts ts (string s)) is (text-found (string s) t some))
texts-found _ texts e = cc

-- and texts written so are read
pub texts-reads : (d : Data) (texts : List (List ℕ)) → AreTexts texts d → texts_of d ≡ Some texts
texts-reads (array ds) texts h = all-reads ds texts h
texts-reads (string s) (t ∷ []) h =
    ap (option_map (λ (text : List ℕ). text ∷ [])) (text-reads (string s) t h)
texts-reads _ (t ∷ []) h = let e = h.0 in cc
texts-reads _ _ h = absurd h

-- a number of 64 bits is an integer
word_integer : (n : Num) (z : ℤ) → as_i64 n ≡ Some z → as_integer n ≡ Some z
word_integer (unsigned k) z e = ap Some (cond_some _ _ _ e).1
word_integer (negative y) z e = e
word_integer (float x) z e = cc

-- an integer up to 2^62 is such a number
integer_word : (n : Num) (z : ℤ) → as_integer n ≡ Some z → z ≤ℤ pos max_number → as_i64 n ≡ Some z
integer_word (unsigned k) z e h =
    let is : pos k ≡ z = same_Some (pos k) z e in
    let low : T (nat_le k max_number) = subst (λ y. T (int_le y (pos max_number))) (sym is) h.le in
    let small : k ≤ max_number = leb-true k max_number (holds_true _ low) in
    let fits : k < 2 ^ 63 = omega (arith, small) in
    cond-true _ _ _ (lt-ltb k (2 ^ 63) fits) ∙ e
integer_word (negative y) z e h = e
integer_word (float x) z e h = cc

-- an integer between two others
pub between-found : (low high z : ℤ) (d : Data) → integer_between low high d ≡ Some z
    → IsBetween low high z d
between-found low high z (number n) e =
    option_and_then_some (λ (y : ℤ). cond (int_le low y && int_le y high) (Some y) None) (as_i64 n) z e (λ y some is.
    let p = cond_some _ _ _ is in
    let parts = and_parts _ _ p.0 in
    subst (λ x. IsBetween low high x (number n)) p.1
    (word_integer n y some, le_z_yes (subst T (sym parts.0) tt), le_z_yes (subst T (sym parts.1) tt)))
between-found low high z _ e = cc

-- and an integer written so is read
pub between-reads : (low z : ℤ) (d : Data) → IsBetween low (pos max_number) z d
    → integer_between low (pos max_number) d ≡ Some z
between-reads low z (number n) h =
    let test : (int_le low z && int_le z (pos max_number)) ≡ true =
    and_from _ _ (holds_true _ (h.1).le) (holds_true _ (h.2).le) in
    ap (option_and_then (λ (y : ℤ). cond (int_le low y && int_le y (pos max_number)) (Some y) None)) (integer_word n z h.0 h.2)
    ∙ cond-true _ _ _ test
between-reads low z _ h = absurd h

-- a scope
pub scope-found : (d : Data) (scope : Scope) → scope_of d ≡ Some scope
    → d ≡ string (scope_name scope)
unfolding scope_named
scope-found (string w) scope e = ap string (named-name scope_name scopes w scope e)
scope-found _ scope e = cc

-- and a scope written so is read
pub scope-reads : (scope : Scope) → scope_of (string (scope_name scope)) ≡ Some scope
unfolding scope_named
scope-reads Basename = refl
scope-reads Wholename = refl

-- a field of `since`
pub field-found : (d : Data) (field : SinceField) → since_field_of d ≡ Some field
    → d ≡ string (since_field_name field)
unfolding since_field_named
field-found (string w) field e = ap string (named-name since_field_name since_fields w field e)
field-found _ field e = cc

-- and a field written so is read
pub field-reads : (field : SinceField) → since_field_of (string (since_field_name field)) ≡ Some field
unfolding since_field_named
field-reads Oclock = refl
field-reads Cclock = refl
field-reads Mtime = refl

-- a relation
pub relation-found : (d : Data) (relation : Relation) → relation_of d ≡ Some relation
    → d ≡ string (relation_name relation)
unfolding relation_named
relation-found (string w) relation e = ap string (named-name relation_name relations w relation e)
relation-found _ relation e = cc

-- and a relation written so is read
pub relation-reads : (relation : Relation)
    → relation_of (string (relation_name relation)) ≡ Some relation
unfolding relation_named
relation-reads Eq = refl
relation-reads Ne = refl
relation-reads Gt = refl
relation-reads Ge = refl
relation-reads Lt = refl
relation-reads Le = refl

-- a kind
pub kind-found : (d : Data) (kind : Kind) → kind_of_letter d ≡ Some kind → IsKind kind d
unfolding kind_named
kind-found (string w) kind e =
    let is : w ≡ kind_name kind = named-name kind_name kinds w kind e in (
      ap string is,
      λ unknown.
          let none : None ≡ Some Unknown = subst (λ k. kind_named (kind_name k) ≡ Some k) unknown (subst (λ x. kind_named x ≡ Some kind) is e) in
          none-some Unknown none,
    )
kind-found _ kind e = cc

known_kind : (kind : Kind) → kind ≢ Unknown → kind_named (kind_name kind) ≡ Some kind
unfolding kind_named
known_kind File e = refl
known_kind Dir e = refl
known_kind Link e = refl
known_kind Block e = refl
known_kind Char e = refl
known_kind Fifo e = refl
known_kind Socket e = refl
known_kind Door e = refl
known_kind Unknown e = absurd (e refl)

-- and a kind written so is read
pub kind-reads : (kind : Kind) (d : Data) → IsKind kind d → kind_of_letter d ≡ Some kind
kind-reads kind d h = subst (λ x. kind_of_letter x ≡ Some kind) (sym h.0) (known_kind kind h.1)

-- both of a pair
both_some : {A B : Type 0} (a : Option A) (b : Option B) (x : A) (y : B)
    → ◌≡◌ {A = Option (A × B)} (option_zip a b) (Some (x, y)) → (a ≡ Some x) × (b ≡ Some y)
both_some None b x y e = cc
both_some (Some a) None x y e = cc
both_some (Some a) (Some b) x y e = let p = some_pair_parts a x b y e in (ap Some p.0, ap Some p.1)

-- a comparison
pub comparison-found : (ds : Items) (relation : Relation) (n : ℤ)
    → ◌≡◌ {A = Option (Relation × ℤ)} (comparison_of ds) (Some (relation, n))
    → IsComparison relation n ds
comparison-found (item d (item e no_items)) relation n is =
    let p = both_some (relation_of d) (whole_number_of e) relation n is in
    (relation-found d relation p.0, between-found _ _ n e p.1)
comparison-found _ relation n is = cc

-- and a comparison written so is read
pub comparison-reads : (ds : Items) (relation : Relation) (n : ℤ) → IsComparison relation n ds
    → ◌≡◌ {A = Option (Relation × ℤ)} (comparison_of ds) (Some (relation, n))
comparison-reads (item d (item e no_items)) relation n h =
    ap (λ o. option_zip o (whole_number_of e)) (ap relation_of h.0 ∙ relation-reads relation)
    ∙ ap (λ o. option_zip (Some relation) o) (between-reads (neg_ℤ (pos max_number)) n e h.1)
comparison-reads _ relation n h = absurd h

-- a depth
pub depth-found : (d : Data) (depth : Depth) → depth_argument d ≡ Some depth → IsDepth depth d
depth-found (array (item (string w) ds)) depth e =
    let p = cond_then (bytes_eq w (codes "depth")) (option_map (λ (c : Relation × ℤ). Is c.0 c.1) (comparison_of ds)) depth e in
    mapped (λ (c : Relation × ℤ). Is c.0 c.1) (comparison_of ds) depth p.1 (λ c some is.
    subst (λ x. IsDepth x (array (item (string w) ds))) is
    (ap string ((bytes_eq-Decides w (codes "depth")).0 p.0), comparison-found ds c.0 c.1 some))
depth-found _ depth e = cc

-- and a depth written so is read
pub depth-reads : (depth : Depth) (d : Data) → IsDepth depth d → depth_argument d ≡ Some depth
depth-reads (Is relation n) (array (item d ds)) h =
    subst (λ x. depth_argument (array (item x ds)) ≡ Some (Is relation n)) (sym h.0)
    (ap (option_map (λ (c : Relation × ℤ). Is c.0 c.1)) (comparison-reads ds relation n h.1))
depth-reads _ _ h = absurd h

-- a bound
pub bound-found : TextsSayWhatTheySpell → (instance : InstanceData) (d : Data) (bound : Bound)
    → bound_in instance d ≡ Ok bound → IsBound instance bound d
bound-found law instance (string text) bound e =
    or_fault-ok BadClockSpec (clock_spec_of text) (λ spec. or_fault CursorInTerm (bound_of spec instance) (λ b. Ok b)) bound e (λ spec says e'.
    or_fault-ok CursorInTerm (bound_of spec instance) (λ b. Ok b) bound e' (λ b sets is.
    (spec, ((law text spec).0 says, sets ∙ ap Some (same_Ok b bound is)))))
bound-found law instance (number n) bound e =
    or_fault-ok BadClockSpec (epoch_second (number n)) (λ second. Ok (Second second)) bound e (λ second some is.
    subst (λ b. IsBound instance b (number n)) (same_Ok (Second second) bound is) (between-found _ _ second (number n) some))
bound-found law instance _ bound e = cc

-- and a bound written so is read
pub bound-reads : TextsSayWhatTheySpell → (instance : InstanceData) (bound : Bound) (d : Data)
    → IsBound instance bound d → bound_in instance d ≡ Ok bound
bound-reads law instance (Second second) (number n) h =
    ap (λ o. or_fault BadClockSpec o (λ s. Ok (Second s))) (between-reads (pos 0) second (number n) h)
bound-reads law instance bound (string text) h = rw ((law text h.0).1 h.1.0, h.1.1) refl
bound-reads law instance _ _ h = absurd h
