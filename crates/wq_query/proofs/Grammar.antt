-- A value asks exactly the query that the grammar has written by it.
use Rattle.std.proofs.Common.{◌≡◌, ℕ, ℤ, Bool, true, false, not, ◌&&◌, ◌||◌, List, [], ◌∷◌, codes, Option}
use Rattle.std.specs.Prelude.{◌⊎◌, if◌then◌else◌}
use Rattle.std.proofs.Common.{Some, None, option_map, Result, Ok, Err, refl, sym, ap, subst, ◌∙◌, inl, inr}
use Rattle.std.specs.Option.{MatchOption, is_some, option_and_then}
use Rattle.std.specs.Result.{result_ok}
use Rattle.std.specs.List.{AllByRecursion}
use Rattle.std.proofs.lemmas.Option.{same_Some}
use Rattle.serde_json.specs.Data.{Data, boolean, string, array, Items, no_items, item}
use Rattle.serde_json.specs.Find.{get, as_bool}
use Rattle.wq_base.specs.Fault.{is_true}
use Rattle.wq_base.proofs.Fault.{or_fault-ok, or_its_fault-ok, or_own_fault-ok, unless_fault-ok, with_first-some}
use Rattle.wq_base.proofs.Named.{named-name}
use Rattle.wq_base.proofs.Facts.{same_Ok}
use Rattle.wq_clock.specs.Instance.{InstanceData}
use Rattle.wq_clock.specs.ClockSpec.{SpecData, clock_id, old_clock_id, named_cursor, clock_spec_of}
use Rattle.wq_clock.specs.Spelling.{IsClockSpelling}
use Rattle.wq_clock.specs.Law.{TextsSayWhatTheySpell}
use Rattle.wq_clock.specs.declared.bound.Bound.{Bound}
use Rattle.wq_clock.specs.declared.bound.Bound.TheVariants.{Fresh}
use Rattle.wq_term.specs.declared.generators.PathGen.{PathGen}
use Rattle.wq_term.specs.Argument.{bound_in, texts_of, whole_number_of}
use Rattle.wq_term.proofs.ArgumentGrammar.{mapped, texts-found, texts-reads}
use Rattle.wq_term.specs.Expr.{ExprData, always}
use Rattle.wq_term.specs.Law.{BoundsSayWhatTheyWrite, NumbersSayWhatTheyWrite}
use Rattle.wq_term.specs.Law.{ValuesSayWhatTheyWrite}
use Rattle.wq_term.specs.ArgumentGrammar.{IsWhole}
use Rattle.wq_query.specs.declared.field.Field.{Field}
use Rattle.wq_query.specs.declared.field.Field.TheVariants.{Name}
use Rattle.wq_query.specs.Field.{field_name, field_named, fields, default_fields}
use Rattle.wq_query.specs.Query.{QueryData, SinceData, at_bound, at_cursor}
use Rattle.wq_query.specs.Reading.{asks, left_out_keys, has_key_of, has_left_out_key, is_plain_case}
use Rattle.wq_query.specs.Reading.{expression_of, field_of, fields_in, fields_of, since_of, flag_of}
use Rattle.wq_query.specs.declared.fault.QueryFault.TheVariants.{LeftOutKey, ExpressionAndProgram, Expression}
use Rattle.wq_query.specs.declared.fault.QueryFault.TheVariants.{UnknownField, BadGenerator}
use Rattle.wq_query.specs.declared.fault.QueryFault.TheVariants.{BadClockSpec, WrongValue}
use Rattle.wq_query.specs.declared.options.Options.{Options}
use Rattle.wq_query.specs.Reading.{is_flag_or_absent, is_whole_or_absent, options_of, with_flag, has_both, cursor_in, spec_cursor, since_from, program_name}
use Rattle.wq_query.specs.Generator.{suffixes_of, paths_in, paths_of}
use Rattle.wq_query.specs.Glob.{glob_flags, globs_of}
use Rattle.wq_query.specs.Grammar.{IsExpression, AreNamed, AreFields, AreSuffixes, ArePaths, IsCursor}
use Rattle.wq_query.specs.Grammar.{IsSinceKey, IsProgram, IsWrittenBy}
use Rattle.wq_query.proofs.Paths.{paths-found, paths-read}
use Rattle.wq_query.proofs.Globs.{glob-found, glob-reads, dotfiles-found, dotfiles-reads}
use Rattle.wq_query.specs.Law.{ValuesAskWhatTheyWrite}

-- keys that are not there
none-found : (keys : List (List ℕ)) (d : Data) → has_key_of keys d ≡ false
    → AllByRecursion (λ key. get key d ≡ None) keys
none-found [] d e = tt
none-found (key ∷ keys) d e = at (get key d) (none-found keys d) e
  where
    at : (o : Option Data)
        → (has_key_of keys d ≡ false → AllByRecursion (λ key. get key d ≡ None) keys)
        → (is_some o || has_key_of keys d) ≡ false
        → (o ≡ None) × AllByRecursion (λ key. get key d ≡ None) keys
    at None rest e = (refl, rest e)
    at (Some v) rest e = cc

none-reads : (keys : List (List ℕ)) (d : Data) → AllByRecursion (λ key. get key d ≡ None) keys
    → has_key_of keys d ≡ false
none-reads [] d h = refl
none-reads (key ∷ keys) d h = rw h.0 (none-reads keys d h.1)

-- `case_sensitive`
plain-found : (o : Option Data) → is_plain_case o ≡ true
    → MatchOption o (Unit {0}) (λ value. value ≡ boolean true)
plain-found None e = tt
plain-found (Some (boolean true)) e = refl
plain-found (Some _) e = cc

plain-reads : (o : Option Data) → MatchOption o (Unit {0}) (λ value. value ≡ boolean true)
    → is_plain_case o ≡ true
plain-reads None h = refl
plain-reads (Some d) h = ap (λ v. is_true (as_bool v)) h

-- both of them
neither : (a b : Bool) → not (a || not b) ≡ true → (a ≡ false) × (b ≡ true)
neither false true e = (refl, refl)
neither false false e = cc
neither true b e = cc

-- of an expression and a program one is missing
one-found : (a b : Option Data) → not (is_some a && is_some b) ≡ true → (a ≡ None) ⊎ (b ≡ None)
one-found None b e = inl refl
one-found (Some d) None e = inr refl
one-found (Some d) (Some e) f = cc

one-reads : (a b : Option Data) → (a ≡ None) ⊎ (b ≡ None) → (is_some a && is_some b) ≡ false
one-reads None b h = refl
one-reads (Some d) None h = refl
one-reads (Some d) (Some e) (inl h) = cc
one-reads (Some d) (Some e) (inr h) = cc

-- the expression
expression-found : ValuesSayWhatTheyWrite
    → (instance : InstanceData) (o : Option Data) (t : ExprData)
    → expression_of instance o ≡ Ok t → MatchOption o (t ≡ always) (IsExpression instance t)
expression-found law instance None t e = sym (same_Ok always t e)
expression-found law instance (Some d) t e = (law instance t d).0 e

expression-reads : ValuesSayWhatTheyWrite
    → (instance : InstanceData) (o : Option Data) (t : ExprData)
    → MatchOption o (t ≡ always) (IsExpression instance t) → expression_of instance o ≡ Ok t
expression-reads law instance None t h = ap Ok (sym h)
expression-reads law instance (Some d) t h = (law instance t d).1 h

-- a field
field-found : (d : Data) (field : Field) → field_of d ≡ Some field → d ≡ string (field_name field)
unfolding field_named
field-found (string w) field e = ap string (named-name field_name fields w field e)
field-found _ field e = cc

pub field-reads : (field : Field) → field_of (string (field_name field)) ≡ Some field
unfolding field_named
field-reads Name = refl
field-reads _ = refl

-- the fields of a list
named-found : (ds : Items) (fs : List Field) → fields_in ds ≡ Some fs → AreNamed fs ds
named-found no_items fs e = subst (λ gs. AreNamed gs no_items) (same_Some [] fs e) tt
named-found (item d ds) fs e =
    with_first-some (field_of d) (fields_in ds) fs e (λ g gs first rest is.
    subst (λ hs. AreNamed hs (item d ds)) is (field-found d g first, named-found ds gs rest))

named-reads : (ds : Items) (fs : List Field) → AreNamed fs ds → fields_in ds ≡ Some fs
named-reads no_items [] h = refl
named-reads (item d ds) (f ∷ fs) h = rw (h.0, field-reads f, named-reads ds fs h.1) refl
named-reads no_items (f ∷ fs) h = absurd h
named-reads (item d ds) [] h = absurd h

-- the fields
some-found : (d : Data) (ds : Items) (fs : List Field) → AreNamed fs (item d ds)
    → AreFields fs (array (item d ds))
some-found d ds [] h = absurd h
some-found d ds (f ∷ fs) h = h

some-reads : (fs : List Field) (d : Data) → AreFields fs d → fields_of (Some d) ≡ Some fs
some-reads (f ∷ fs) (array (item d ds)) h = named-reads (item d ds) (f ∷ fs) h
some-reads _ _ h = absurd h

fields-found : (o : Option Data) (fs : List Field) → fields_of o ≡ Some fs
    → MatchOption o (fs ≡ default_fields) (AreFields fs)
fields-found None fs e = sym (same_Some default_fields fs e)
fields-found (Some (array (item d ds))) fs e = some-found d ds fs (named-found (item d ds) fs e)
fields-found (Some _) fs e = cc

fields-reads : (o : Option Data) (fs : List Field)
    → MatchOption o (fs ≡ default_fields) (AreFields fs) → fields_of o ≡ Some fs
fields-reads None fs h = ap Some (sym h)
fields-reads (Some d) fs h = some-reads fs d h

-- `suffix`
suffix-found : (o : Option Data) (suffix : Option (List (List ℕ))) → suffixes_of o ≡ Some suffix
    → MatchOption o (suffix ≡ None) (AreSuffixes suffix)
suffix-found None suffix e = sym (same_Some None suffix e)
suffix-found (Some d) suffix e =
    mapped Some (texts_of d) suffix e (λ texts some is.
    subst (λ s. AreSuffixes s d) is (texts-found d texts some))

suffix-reads : (o : Option Data) (suffix : Option (List (List ℕ)))
    → MatchOption o (suffix ≡ None) (AreSuffixes suffix) → suffixes_of o ≡ Some suffix
suffix-reads None suffix h = ap Some (sym h)
suffix-reads (Some d) (Some texts) h = ap (option_map Some) (texts-reads d texts h)
suffix-reads (Some d) None h = absurd h

-- `path`
path-found : (o : Option Data) (path : Option (List PathGen)) → paths_of o ≡ Some path
    → MatchOption o (path ≡ None) (ArePaths path)
path-found None path e = sym (same_Some None path e)
path-found (Some (array ds)) path e =
    mapped Some (paths_in ds) path e (λ paths some is.
    subst (λ p. ArePaths p (array ds)) is (paths-found ds paths some))
path-found (Some _) path e = cc

some-paths : (path : Option (List PathGen)) (d : Data) → ArePaths path d → paths_of (Some d) ≡ Some path
some-paths (Some paths) (array ds) h = ap (option_map Some) (paths-read ds paths h)
some-paths _ _ h = absurd h

path-reads : (o : Option Data) (path : Option (List PathGen))
    → MatchOption o (path ≡ None) (ArePaths path) → paths_of o ≡ Some path
path-reads None path h = ap Some (sym h)
path-reads (Some d) path h = some-paths path d h

-- `since`
right : {A E : Type 0} (r : Result A E) (a : A) → result_ok r ≡ Some a → r ≡ Ok a
right (Ok x) a e = ap Ok (same_Some x a e)
right (Err fault) a e = cc

-- nothing is not something
none_or_some : {A : Type 0} (a : A) → ◌≡◌ {A = Option A} None (Some a) → ⊥
none_or_some a e = cc

-- no text of a cursor says a bound
bound-no-cursor : (instance : InstanceData) (d : Data) (bound : Bound) → bound_in instance d ≡ Ok bound
    → cursor_in d ≡ None
bound-no-cursor instance (string text) bound e = at (clock_spec_of text) refl
  where
    at : (o : Option SpecData) → clock_spec_of text ≡ o → cursor_in (string text) ≡ None
    at None is = ap (option_and_then spec_cursor) is
    at (Some (clock_id other tick)) is = ap (option_and_then spec_cursor) is
    at (Some old_clock_id) is = ap (option_and_then spec_cursor) is
    at (Some (named_cursor name)) is = cc
bound-no-cursor instance _ bound e = refl

-- a text that is a cursor
cursor-found : TextsSayWhatTheySpell → (d : Data) (name : List ℕ) → cursor_in d ≡ Some name → IsCursor name d
cursor-found law (string text) name e = at (clock_spec_of text) refl
  where
    at : (o : Option SpecData) → clock_spec_of text ≡ o → IsClockSpelling (named_cursor name) text
    at (Some (named_cursor other)) is =
        subst (λ n. IsClockSpelling (named_cursor n) text)
        (same_Some other name (sym (ap (option_and_then spec_cursor) is) ∙ e)) ((law text (named_cursor other)).0 is)
    at (Some (clock_id other tick)) is = absurd (none_or_some name (sym (ap (option_and_then spec_cursor) is) ∙ e))
    at (Some old_clock_id) is = absurd (none_or_some name (sym (ap (option_and_then spec_cursor) is) ∙ e))
    at None is = absurd (none_or_some name (sym (ap (option_and_then spec_cursor) is) ∙ e))
cursor-found law _ name e = cc

pub cursor-reads : TextsSayWhatTheySpell → (d : Data) (name : List ℕ) → IsCursor name d → cursor_in d ≡ Some name
cursor-reads law (string text) name h = ap (option_and_then spec_cursor) ((law text (named_cursor name)).1 h)
cursor-reads law _ name h = absurd h

since-found : BoundsSayWhatTheyWrite → TextsSayWhatTheySpell
    → (instance : InstanceData) (o : Option Data) (since : SinceData)
    → since_of instance o ≡ Some since → MatchOption o (since ≡ at_bound Fresh) (IsSinceKey instance since)
since-found bounds texts instance None since e = sym (same_Some (at_bound Fresh) since e)
since-found bounds texts instance (Some d) since e = at (cursor_in d) refl e
  where
    at : (o : Option (List ℕ)) → cursor_in d ≡ o → since_from o (result_ok (bound_in instance d)) ≡ Some since
        → IsSinceKey instance since d
    at (Some name) is f =
        subst (λ s. IsSinceKey instance s d) (same_Some (at_cursor name) since f) (cursor-found texts d name is)
    at None is f = mapped at_bound (result_ok (bound_in instance d)) since f (λ bound some same.
        subst (λ s. IsSinceKey instance s d) same
        ((bounds instance bound d).0 (right (bound_in instance d) bound some)))

since-reads : BoundsSayWhatTheyWrite → TextsSayWhatTheySpell
    → (instance : InstanceData) (o : Option Data) (since : SinceData)
    → MatchOption o (since ≡ at_bound Fresh) (IsSinceKey instance since) → since_of instance o ≡ Some since
since-reads bounds texts instance None since h = ap Some (sym h)
since-reads bounds texts instance (Some d) (at_bound bound) h =
    let is = (bounds instance bound d).1 h in
    ap (λ o. since_from o (result_ok (bound_in instance d))) (bound-no-cursor instance d bound is)
    ∙ ap (λ r. option_map at_bound (result_ok r)) is
since-reads bounds texts instance (Some d) (at_cursor name) h =
    ap (λ o. since_from o (result_ok (bound_in instance d))) (cursor-reads texts d name h)

-- `program`
program-found : (o : Option Data) (program : Option (List ℕ)) → program_name o ≡ Some program
    → MatchOption o (program ≡ None) (IsProgram program)
program-found None program e = sym (same_Some None program e)
program-found (Some (string name)) program e =
    subst (λ p. IsProgram p (string name)) (same_Some (Some name) program e) refl
program-found (Some _) program e = cc

program-reads : (o : Option Data) (program : Option (List ℕ))
    → MatchOption o (program ≡ None) (IsProgram program) → program_name o ≡ Some program
program-reads None program h = ap Some (sym h)
program-reads (Some d) (Some name) h = ap (λ v. program_name (Some v)) h
program-reads (Some d) None h = absurd h

-- `empty_on_fresh_instance`
flag-found : (o : Option Data) (b : Bool) → flag_of o ≡ Some b
    → MatchOption o (b ≡ false) (λ value. value ≡ boolean b)
flag-found None b e = sym (same_Some false b e)
flag-found (Some (boolean a)) b e = ap boolean (same_Some a b e)
flag-found (Some _) b e = cc

flag-reads : (o : Option Data) (b : Bool) → MatchOption o (b ≡ false) (λ value. value ≡ boolean b)
    → flag_of o ≡ Some b
flag-reads None b h = ap Some (sym h)
flag-reads (Some d) b h = ap as_bool h

-- `sync_timeout`
whole-found : NumbersSayWhatTheyWrite → (o : Option Data) → is_whole_or_absent o ≡ true
    → MatchOption o (Unit {0}) (λ value. (n : ℤ) × IsWhole n value)
whole-found law None e = tt
whole-found law (Some d) e = at (whole_number_of d) refl e
  where
    at : (n : Option ℤ) → whole_number_of d ≡ n → is_some n ≡ true → (n : ℤ) × IsWhole n d
    at None is e = cc
    at (Some n) is e = (n, (law n d).0 is)

whole-reads : NumbersSayWhatTheyWrite → (o : Option Data)
    → MatchOption o (Unit {0}) (λ value. (n : ℤ) × IsWhole n value) → is_whole_or_absent o ≡ true
whole-reads law None h = refl
whole-reads law (Some d) h = ap is_some ((law h.0 d).1 h.1)

-- options that are read, by the values of their keys
options-found : {P : Type 0} (d : Data) (options : Options) → options_of d ≡ Some options
    → ((flag : Bool) → flag_of (get (codes "empty_on_fresh_instance") d) ≡ Some flag
    → is_flag_or_absent (get (codes "glob_includedotfiles") d) ≡ true
    → is_whole_or_absent (get (codes "sync_timeout") d) ≡ true → flag ≡ options.empty_on_fresh_instance → P) → P
options-found {P} d options e goal =
    by (is_flag_or_absent (get (codes "glob_includedotfiles") d)) (is_whole_or_absent (get (codes "sync_timeout") d))
    (flag_of (get (codes "empty_on_fresh_instance") d)) refl refl refl e
  where
    by : (dotted whole : Bool) (on : Option Bool) → is_flag_or_absent (get (codes "glob_includedotfiles") d) ≡ dotted
        → is_whole_or_absent (get (codes "sync_timeout") d) ≡ whole
        → flag_of (get (codes "empty_on_fresh_instance") d) ≡ on
        → (if dotted && whole then option_map with_flag on else None) ≡ Some options → P
    by true true (Some flag) dots times on h =
        goal flag on dots times (ap (λ o. o.empty_on_fresh_instance) (same_Some (with_flag flag) options h))
    by true true None dots times on h = absurd (none_or_some options h)
    by true false on dots times said h = absurd (none_or_some options h)
    by false whole on dots times said h = absurd (none_or_some options h)

-- a query that is asked is written
found : ValuesSayWhatTheyWrite → BoundsSayWhatTheyWrite → TextsSayWhatTheySpell → NumbersSayWhatTheyWrite
    → (instance : InstanceData) (query : QueryData) (d : Data) → asks instance d ≡ Ok query
    → IsWrittenBy instance query d
found values bounds texts numbers instance query d e =
    unless_fault-ok _ _ _ query e (λ none e0.
    unless_fault-ok _ _ _ query e0 (λ one e1.
    or_its_fault-ok _ _ _ query e1 (λ t said e2.
    or_fault-ok _ _ _ query e2 (λ fs named e3.
    or_fault-ok _ _ _ query e3 (λ suffix ends e4.
    or_fault-ok _ _ _ query e4 (λ path stands e5.
    or_own_fault-ok _ _ query e5 (λ glob fits e6.
    or_fault-ok _ _ _ query e6 (λ since sets e7.
    or_fault-ok _ _ _ query e7 (λ program called e8.
    or_fault-ok _ _ _ query e8 (λ options wishes is.
    options-found d options wishes (λ flag on dotted whole same.
    let parts = neither (has_key_of left_out_keys d) (is_plain_case (get (codes "case_sensitive") d)) none in
    subst (λ q. IsWrittenBy instance q d) (same_Ok _ query is) (record {
      none_left_out = none-found left_out_keys d parts.0;
      case_sensitive = plain-found (get (codes "case_sensitive") d) parts.1;
      one_at_most = one-found (get (codes "expression") d) (get (codes "program") d) one;
      expression = expression-found values instance (get (codes "expression") d) t said;
      program = program-found (get (codes "program") d) program called;
      fields = fields-found (get (codes "fields") d) fs named;
      suffix = suffix-found (get (codes "suffix") d) suffix ends;
      path = path-found (get (codes "path") d) path stands;
      glob = glob-found (glob_flags (get (codes "glob_includedotfiles") d)) (get (codes "glob") d) glob fits;
      since = since-found bounds texts instance (get (codes "since") d) since sets;
      empty_on_fresh_instance = flag-found (get (codes "empty_on_fresh_instance") d) options.empty_on_fresh_instance (on ∙ ap Some same);
      glob_includedotfiles = dotfiles-found (get (codes "glob_includedotfiles") d) dotted;
      sync_timeout = whole-found numbers (get (codes "sync_timeout") d) whole;
    }))))))))))))

-- a query has the expression that its object says
pub expression_asked : (instance : InstanceData) (d : Data) (query : QueryData) → asks instance d ≡ Ok query
    → expression_of instance (get (codes "expression") d) ≡ Ok query.expression
expression_asked instance d query e =
    unless_fault-ok LeftOutKey (not (has_left_out_key d)) _ query e (λ none e0.
    unless_fault-ok ExpressionAndProgram (not (has_both d)) _ query e0 (λ one e1.
    or_its_fault-ok Expression (expression_of instance (get (codes "expression") d)) _ query e1 (λ t said e2.
    or_fault-ok UnknownField (fields_of (get (codes "fields") d)) _ query e2 (λ fs named e3.
    or_fault-ok BadGenerator (suffixes_of (get (codes "suffix") d)) _ query e3 (λ suffix ends e4.
    or_fault-ok BadGenerator (paths_of (get (codes "path") d)) _ query e4 (λ path stands e5.
    or_own_fault-ok (globs_of (glob_flags (get (codes "glob_includedotfiles") d)) (get (codes "glob") d)) _ query e5 (λ glob fits e6.
    or_fault-ok BadClockSpec (since_of instance (get (codes "since") d)) _ query e6 (λ since sets e7.
    or_fault-ok WrongValue (program_name (get (codes "program") d)) _ query e7 (λ program called e8.
    or_fault-ok WrongValue (options_of d) _ query e8 (λ options wishes is.
    said ∙ ap (λ q. Ok q.expression) (same_Ok _ query is)))))))))))

-- a query that is written is asked
reads : ValuesSayWhatTheyWrite → BoundsSayWhatTheyWrite → TextsSayWhatTheySpell → NumbersSayWhatTheyWrite
    → (instance : InstanceData) (query : QueryData) (d : Data) → IsWrittenBy instance query d
    → asks instance d ≡ Ok query
reads values bounds texts numbers instance query d h =
    let none = none-reads left_out_keys d h.none_left_out in
    let plain = plain-reads (get (codes "case_sensitive") d) h.case_sensitive in
    let one : has_both d ≡ false = one-reads (get (codes "expression") d) (get (codes "program") d) h.one_at_most in
    let said = expression-reads values instance (get (codes "expression") d) query.expression h.expression in
    let called = program-reads (get (codes "program") d) query.program h.program in
    let named = fields-reads (get (codes "fields") d) query.fields h.fields in
    let ends = suffix-reads (get (codes "suffix") d) query.suffix h.suffix in
    let stands = path-reads (get (codes "path") d) query.path h.path in
    let fits = glob-reads (glob_flags (get (codes "glob_includedotfiles") d)) (get (codes "glob") d) query.glob h.glob in
    let sets = since-reads bounds texts instance (get (codes "since") d) query.since h.since in
    let on = flag-reads (get (codes "empty_on_fresh_instance") d) (query.options).empty_on_fresh_instance h.empty_on_fresh_instance in
    let dotted = dotfiles-reads (get (codes "glob_includedotfiles") d) h.glob_includedotfiles in
    let whole = whole-reads numbers (get (codes "sync_timeout") d) h.sync_timeout in
    let allowed : has_left_out_key d ≡ false =
    ap (λ b. b || not (is_plain_case (get (codes "case_sensitive") d))) none ∙ ap not plain in
    rw (allowed, one, said, named, ends, stands, fits, sets, called, on, dotted, whole) refl

-- both ways
pub values_ask : ValuesSayWhatTheyWrite → BoundsSayWhatTheyWrite → TextsSayWhatTheySpell
    → NumbersSayWhatTheyWrite → ValuesAskWhatTheyWrite
values_ask values bounds texts numbers instance query d =
    (found values bounds texts numbers instance query d, reads values bounds texts numbers instance query d)
