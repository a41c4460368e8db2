-- Values are read as the arguments of a term exactly if the grammar writes them so.
use Rattle.std.proofs.Common.{◌≡◌, ℕ, ℤ, List, ◌++◌, Some, Ok, refl, sym, ap, subst, ◌∙◌}
use Rattle.std.specs.Prelude.{pos}
use Rattle.serde_json.specs.Data.{Data, string, Items, no_items, item}
use Rattle.wq_base.specs.Fault.{or_fault}
use Rattle.wq_base.proofs.Fault.{or_fault-ok, or_own_fault-ok}
use Rattle.wq_clock.specs.Instance.{InstanceData}
use Rattle.wq_clock.specs.Law.{TextsSayWhatTheySpell}
use Rattle.wq_glob.specs.Pattern.{PatternData}
use Rattle.wq_record.specs.declared.kind.Kind.{Kind}
use Rattle.wq_base.specs.declared.compare.Case.{Case}
use Rattle.wq_term.specs.declared.expr.Depth.{Depth}
use Rattle.wq_term.specs.declared.expr.Depth.TheVariants.{Any}
use Rattle.wq_base.specs.declared.compare.Relation.{Relation}
use Rattle.wq_base.proofs.Facts.{same_Ok}
use Rattle.wq_term.specs.declared.expr.Scope.{Scope}
use Rattle.wq_term.specs.declared.expr.Scope.TheVariants.{Basename}
use Rattle.wq_term.specs.declared.expr.Since.{Since as SinceData}
use Rattle.wq_term.specs.declared.expr.Since.TheVariants.{Observed, Created, Modified}
use Rattle.wq_term.specs.declared.fault.TermFault.TheVariants.{WrongArguments, BadClockSpec}
use Rattle.wq_term.specs.declared.parser.word.SinceField.{SinceField}
use Rattle.wq_term.specs.declared.parser.word.SinceField.TheVariants.{Oclock, Cclock, Mtime}
use Rattle.wq_term.specs.Argument.{text_of, texts_of, kind_of_letter, scope_of, since_field_of, comparison_of}
use Rattle.wq_term.specs.Argument.{depth_argument, bound_in, epoch_second}
use Rattle.wq_term.specs.PatternArgument.{plain_flags, flags_of, is_folded}
use Rattle.wq_term.specs.NameFit.{scope_with}
use Rattle.wq_term.specs.Text.{without_end_slashes}
use Rattle.wq_term.specs.Word.{scope_name, since_field_name}
use Rattle.wq_term.specs.Expr.{ExprData, kind_is, name_is, matches, suffix_is, size_is, since}
use Rattle.wq_term.specs.Expr.{below}
use Rattle.wq_term.specs.Reading.{read_plain, read_kind, name_in, read_name, match_with, read_match}
use Rattle.wq_term.specs.Reading.{read_suffix, read_size, below_at, read_dirname, since_by}
use Rattle.wq_term.specs.Reading.{read_since}
use Rattle.wq_term.specs.ArgumentGrammar.{IsWord, IsText, AreTexts, IsSecond, IsKind, IsComparison}
use Rattle.wq_term.specs.ArgumentGrammar.{IsDepth, IsDirectory, IsBound, IsPattern, AreFlags}
use Rattle.wq_term.specs.Grammar.{IsNothing, IsOnly, IsOneOrTwo, IsSinceBy, IsSince}
use Rattle.wq_term.proofs.Slashes.{slashes, drops, dropped}
use Rattle.wq_term.proofs.ArgumentGrammar.{text-found, text-reads, texts-found}
use Rattle.wq_term.proofs.ArgumentGrammar.{texts-reads, kind-found, kind-reads, scope-found}
use Rattle.wq_term.proofs.ArgumentGrammar.{scope-reads, field-found, field-reads, comparison-found}
use Rattle.wq_term.proofs.ArgumentGrammar.{comparison-reads, depth-found, depth-reads, bound-found}
use Rattle.wq_term.proofs.ArgumentGrammar.{bound-reads, between-found, between-reads}
use Rattle.wq_term.proofs.PatternGrammar.{IsOf, scope_plain, flags-found, flags-reads, plain-reads}
use Rattle.wq_term.proofs.PatternGrammar.{pattern-found, pattern-reads}

-- a term without arguments
pub plain-found : (u : ExprData) (ds : Items) (t : ExprData) → read_plain u ds ≡ Ok t
    → IsNothing ds × (u ≡ t)
plain-found u no_items t e = (tt, same_Ok u t e)
plain-found u (item d ds) t e = cc

-- and no arguments are read as it
pub plain_term-reads : (u : ExprData) (ds : Items) → IsNothing ds → read_plain u ds ≡ Ok u
plain_term-reads u no_items h = refl
plain_term-reads u (item d ds) h = absurd h

-- `type`
pub type-found : {P : Type 0} (ds : Items) (t : ExprData) → read_kind ds ≡ Ok t
    → ((kind : Kind) → kind_is kind ≡ t → IsOnly (IsKind kind) ds → P) → P
type-found (item d no_items) t e goal =
    or_fault-ok WrongArguments (kind_of_letter d) (λ kind. Ok (kind_is kind)) t e (λ kind some is.
    goal kind (same_Ok _ t is) (kind-found d kind some))
type-found _ t e goal = cc

-- and a kind written so is read
pub type-reads : (ds : Items) (kind : Kind) → IsOnly (IsKind kind) ds
    → read_kind ds ≡ Ok (kind_is kind)
type-reads (item d no_items) kind h = rw (kind-reads kind d h) refl
type-reads _ kind h = absurd h

-- `suffix`
pub suffix-found : {P : Type 0} (ds : Items) (t : ExprData) → read_suffix ds ≡ Ok t
    → ((texts : List (List ℕ)) → suffix_is texts ≡ t → IsOnly (AreTexts texts) ds → P) → P
suffix-found (item d no_items) t e goal =
    or_fault-ok WrongArguments (texts_of d) (λ texts. Ok (suffix_is texts)) t e (λ texts some is.
    goal texts (same_Ok _ t is) (texts-found d texts some))
suffix-found _ t e goal = cc

-- and texts written so are read
pub suffix-reads : (ds : Items) (texts : List (List ℕ)) → IsOnly (AreTexts texts) ds
    → read_suffix ds ≡ Ok (suffix_is texts)
suffix-reads (item d no_items) texts h = rw (texts-reads d texts h) refl
suffix-reads _ texts h = absurd h

-- `size`
pub size-found : {P : Type 0} (ds : Items) (t : ExprData) → read_size ds ≡ Ok t
    → ((relation : Relation) (n : ℤ) → size_is relation n ≡ t → IsComparison relation n ds → P) → P
size-found ds t e goal =
    or_fault-ok WrongArguments (comparison_of ds) (λ (c : Relation × ℤ). Ok (size_is c.0 c.1)) t e (λ c some is.
    goal c.0 c.1 (same_Ok _ t is) (comparison-found ds c.0 c.1 some))

-- and a comparison written so is read
pub size-reads : (ds : Items) (relation : Relation) (n : ℤ) → IsComparison relation n ds
    → read_size ds ≡ Ok (size_is relation n)
size-reads ds relation n h =
    ap (λ o. or_fault WrongArguments o (λ (c : Relation × ℤ). Ok (size_is c.0 c.1))) (comparison-reads ds relation n h)

-- the arguments of `name` and `iname`
abbrev pub IsNames : Scope → List (List ℕ) → Items → Type 0
IsNames scope texts ds =
    IsOneOrTwo (AreTexts texts) (scope ≡ Basename) (IsWord (scope_name scope)) ds

-- the reader of `name` and `iname`
pub name-found : {P : Type 0} (case : Case) (ds : Items) (t : ExprData) → read_name case ds ≡ Ok t
    → ((scope : Scope) (texts : List (List ℕ)) → name_is case scope texts ≡ t → IsNames scope texts ds → P)
    → P
name-found case (item d no_items) t e goal =
    or_fault-ok WrongArguments (texts_of d) (λ texts. Ok (name_is case Basename texts)) t e (λ texts some is.
    goal Basename texts (same_Ok _ t is) (texts-found d texts some, refl))
name-found case (item d (item f no_items)) t e goal =
    or_fault-ok WrongArguments (scope_of f) (λ scope. name_in case scope d) t e (λ scope named e'.
    or_fault-ok WrongArguments (texts_of d) (λ texts. Ok (name_is case scope texts)) t e' (λ texts some is.
    goal scope texts (same_Ok _ t is) (texts-found d texts some, scope-found f scope named)))
name-found case _ t e goal = cc

-- and texts and a scope written so is read
pub name-reads : (case : Case) (ds : Items) (scope : Scope) (texts : List (List ℕ))
    → IsNames scope texts ds
    → read_name case ds ≡ Ok (name_is case scope texts)
name-reads case (item d no_items) scope texts h =
    subst (λ s. name_in case Basename d ≡ Ok (name_is case s texts)) (sym h.1) (rw (texts-reads d texts h.0) refl)
name-reads case (item d (item f no_items)) scope texts h =
    rw (h.1, scope-reads scope, texts-reads d texts h.0) refl
name-reads case _ scope texts h = absurd h

-- a directory
pub dir-found : (d : Data) (text : List ℕ) → text_of d ≡ Some text
    → IsDirectory (without_end_slashes text) d
dir-found d text some =
    let p = dropped text (without_end_slashes text) refl in
    (p.0, (p.1.0, subst (λ x. IsText x d) p.1.1 (text-found d text some)))

dir-reads : (d : Data) (dir : List ℕ) (case : Case) (depth : Depth) → IsDirectory dir d
    → below_at case depth d ≡ Ok (below case dir depth)
dir-reads d dir case depth h =
    rw (text-reads d (dir ++ slashes h.1.0) h.1.1, drops dir h.1.0 h.0) refl

-- the arguments of `dirname` and `idirname`
abbrev pub IsBelow : List ℕ → Depth → Items → Type 0
IsBelow dir depth ds = IsOneOrTwo (IsDirectory dir) (depth ≡ Any) (IsDepth depth) ds

-- the reader of `dirname` and `idirname`
pub dirname-found : {P : Type 0} (case : Case) (ds : Items) (t : ExprData)
    → read_dirname case ds ≡ Ok t
    → ((dir : List ℕ) (depth : Depth) → below case dir depth ≡ t → IsBelow dir depth ds → P) → P
dirname-found case (item d no_items) t e goal =
    or_fault-ok WrongArguments (text_of d) (λ text. Ok (below case (without_end_slashes text) Any)) t e (λ text some is.
    goal (without_end_slashes text) Any (same_Ok _ t is) (dir-found d text some, refl))
dirname-found case (item d (item f no_items)) t e goal =
    or_fault-ok WrongArguments (depth_argument f) (λ depth. below_at case depth d) t e (λ depth named e'.
    or_fault-ok WrongArguments (text_of d) (λ text. Ok (below case (without_end_slashes text) depth)) t e' (λ text some is.
    goal (without_end_slashes text) depth (same_Ok _ t is) (dir-found d text some, depth-found f depth named)))
dirname-found case _ t e goal = cc

-- and a directory and a depth written so is read
pub dirname-reads : (case : Case) (ds : Items) (dir : List ℕ) (depth : Depth) → IsBelow dir depth ds
    → read_dirname case ds ≡ Ok (below case dir depth)
dirname-reads case (item d no_items) dir depth h =
    subst (λ x. below_at case Any d ≡ Ok (below case dir x)) (sym h.1) (dir-reads d dir case Any h.0)
dirname-reads case (item d (item f no_items)) dir depth h =
    ap (λ o. or_fault WrongArguments o (λ x. below_at case x d)) (depth-reads depth f h.1) ∙ dir-reads d dir case depth h.0
dirname-reads case _ dir depth h = absurd h

-- a point that is the first argument
placed : (field : SinceField) (Point : Data → Type 0) (d : Data) → Point d → (ds : Items)
    → IsOneOrTwo (λ x. x ≡ d) (field ≡ Oclock) (IsWord (since_field_name field)) ds
    → IsSinceBy field Point ds
placed field Point d point (item x no_items) h = (subst Point (sym h.0) point, h.1)
placed field Point d point (item x (item f no_items)) h = (subst Point (sym h.0) point, h.1)
placed field Point d point _ h = absurd h

-- the reading of `since` by its field
by-found : {P : Type 0} → TextsSayWhatTheySpell
    → (instance : InstanceData) (d : Data) (field : SinceField) (t : ExprData)
    → since_by instance d field ≡ Ok t
    → ((point : SinceData) → since point ≡ t
    → ((ds : Items) → IsOneOrTwo (λ x. x ≡ d) (field ≡ Oclock) (IsWord (since_field_name field)) ds → IsSince instance point ds)
    → P) → P
by-found law instance d Oclock t e goal =
    or_own_fault-ok (bound_in instance d) (λ bound. Ok (since (Observed bound))) t e (λ bound some is.
    goal (Observed bound) (same_Ok _ t is) (placed Oclock (IsBound instance bound) d (bound-found law instance d bound some)))
by-found law instance d Cclock t e goal =
    or_own_fault-ok (bound_in instance d) (λ bound. Ok (since (Created bound))) t e (λ bound some is.
    goal (Created bound) (same_Ok _ t is) (placed Cclock (IsBound instance bound) d (bound-found law instance d bound some)))
by-found law instance d Mtime t e goal =
    or_fault-ok BadClockSpec (epoch_second d) (λ second. Ok (since (Modified second))) t e (λ second some is.
    goal (Modified second) (same_Ok _ t is) (placed Mtime (IsSecond second) d (between-found _ _ second d some)))

-- `since`
pub since-found : {P : Type 0} → TextsSayWhatTheySpell
    → (instance : InstanceData) (ds : Items) (t : ExprData)
    → read_since instance ds ≡ Ok t
    → ((point : SinceData) → since point ≡ t → IsSince instance point ds → P) → P
since-found law instance (item d no_items) t e goal =
    by-found law instance d Oclock t e (λ point is at. goal point is (at (item d no_items) (refl, refl)))
since-found law instance (item d (item f no_items)) t e goal =
    or_fault-ok WrongArguments (since_field_of f) (λ field. since_by instance d field) t e (λ field named e'.
    by-found law instance d field t e' (λ point is at.
    goal point is (at (item d (item f no_items)) (refl, field-found f field named))))
since-found law instance _ t e goal = cc

-- a field and its bound
by-reads : (instance : InstanceData) (Point : Data → Type 0) (field : SinceField) (t : ExprData) (ds : Items)
    → ((d : Data) → Point d → since_by instance d field ≡ Ok t) → IsSinceBy field Point ds
    → read_since instance ds ≡ Ok t
by-reads instance Point field t (item d no_items) says h =
    subst (λ f. since_by instance d f ≡ Ok t) h.1 (says d h.0)
by-reads instance Point field t (item d (item f no_items)) says h =
    rw (h.1, field-reads field) (says d h.0)
by-reads instance Point field t _ says h = absurd h

-- and a point and a field written so is read
pub since-reads : TextsSayWhatTheySpell → (instance : InstanceData) (ds : Items) (point : SinceData)
    → IsSince instance point ds → read_since instance ds ≡ Ok (since point)
since-reads law instance ds (Observed bound) h =
    by-reads instance (IsBound instance bound) Oclock (since (Observed bound)) ds
    (λ d b. rw (bound-reads law instance bound d b) refl) h
since-reads law instance ds (Created bound) h =
    by-reads instance (IsBound instance bound) Cclock (since (Created bound)) ds
    (λ d b. rw (bound-reads law instance bound d b) refl) h
since-reads law instance ds (Modified second) h =
    by-reads instance (IsSecond second) Mtime (since (Modified second)) ds
    (λ d s. ap (λ o. or_fault BadClockSpec o (λ z. Ok (since (Modified z)))) (between-reads (pos 0) second d s)) h

-- `match` and `imatch`
pub match-found : {P : Type 0} (case : Case) (ds : Items) (t : ExprData) → read_match case ds ≡ Ok t
    → ((pattern : PatternData) → matches pattern ≡ t → is_folded case ≡ (pattern.flags).fold → IsPattern pattern ds → P)
    → P
match-found case (item d no_items) t e goal =
    pattern-found d (plain_flags case Basename) t e (λ pattern is flags text.
    goal pattern (sym is) (ap (λ f. f.fold) (sym flags))
    (text, ap scope_with flags, (ap (λ f. f.dotfiles) flags, ap (λ f. f.noescape) flags)))
match-found case (item d (item f no_items)) t e goal =
    or_fault-ok WrongArguments (scope_of f) (λ scope. match_with d (plain_flags case scope)) t e (λ scope named e'.
    pattern-found d (plain_flags case scope) t e' (λ pattern is flags text.
    goal pattern (sym is) (ap (λ f. f.fold) (sym flags)) (
      text,
      scope-found f scope named ∙ ap (λ s. string (scope_name s)) (sym (ap scope_with flags ∙ scope_plain case scope)),
      (ap (λ f. f.dotfiles) flags, ap (λ f. f.noescape) flags),
    )))
match-found case (item d (item f (item g no_items))) t e goal =
    or_fault-ok WrongArguments (scope_of f) (λ scope. or_fault WrongArguments (flags_of (plain_flags case scope) g) (λ flags. match_with d flags)) t e (λ scope named e'.
    or_fault-ok WrongArguments (flags_of (plain_flags case scope) g) (λ flags. match_with d flags) t e' (λ flags set e''.
    pattern-found d flags t e'' (λ pattern is same text.
    let said = subst (λ x. IsOf case scope x × AreFlags x g) (sym same) (flags-found case scope g flags set) in
    goal pattern (sym is) said.0.1
    (text, scope-found f scope named ∙ ap (λ s. string (scope_name s)) (sym said.0.0), said.1))))
match-found case _ t e goal = cc

-- and a pattern written so is read
pub match-reads : (case : Case) (ds : Items) (pattern : PatternData)
    → is_folded case ≡ (pattern.flags).fold
    → IsPattern pattern ds → read_match case ds ≡ Ok (matches pattern)
match-reads case (item d no_items) pattern fold h =
    rw (plain-reads case Basename pattern.flags (h.1, fold) h.2) (pattern-reads d pattern h.0)
match-reads case (item d (item f no_items)) pattern fold h =
    rw (h.1, scope-reads (scope_with pattern.flags), plain-reads case (scope_with pattern.flags) pattern.flags (refl, fold) h.2)
    (pattern-reads d pattern h.0)
match-reads case (item d (item f (item g no_items))) pattern fold h =
    rw (h.1, scope-reads (scope_with pattern.flags), flags-reads case (scope_with pattern.flags) g pattern.flags (refl, fold) h.2)
    (pattern-reads d pattern h.0)
match-reads case _ pattern fold h = absurd h
