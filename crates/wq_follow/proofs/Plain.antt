-- The object of a definition is plain: each of its values is.
use Rattle.std.proofs.Common.{◌≡◌, ◌≤◌, suc, [], Bool, true, false, not, List, codes, ℕ, Option, Some, None, Ok, Ordering, Less, Equal, Greater, nat_cmp, bytes_eq, refl, sym, ap, subst, ◌∙◌, arith}
use Rattle.std.proofs.lemmas.Bool.{and_parts}
use Rattle.std.proofs.lemmas.Bool.Decides.{not_from_Decides}
use Rattle.std.proofs.lemmas.Slice.Eq.{bytes_eq-Decides}
use Rattle.std.specs.Cmp.Lexicographic.{slice_cmp}
use Rattle.std.specs.Option.{MatchOption, option_and_then, unwrap_or}
use Rattle.std.specs.Ordering.{match_ordering}
use Rattle.serde_json.specs.Data.{Num, Data, depth, null, boolean, number, unsigned, negative, float, string, array, object, Items, no_items, item, Members, no_members, member, put}
use Rattle.serde_json.specs.Find.{as_bool, get, get_member}
use Rattle.serde_json.specs.Written.{has_float}
use Rattle.serde_json.proofs.Views.{get_member-put, get_member-put_other}
use Rattle.serde_json.specs.Read as text
use Rattle.wq_base.proofs.Fault.{or_fault-ok, or_its_fault-ok, or_own_fault-ok, unless_fault-ok, with_first-some}
use Rattle.wq_base.proofs.Facts.{same_Ok}
use Rattle.wq_clock.specs.Instance.{InstanceData}
use Rattle.wq_query.specs.declared.field.Field.{Field}
use Rattle.wq_query.specs.Query.{QueryData}
use Rattle.wq_query.specs.Grammar.{IsExpression, IsWrittenBy}
use Rattle.wq_query.specs.Law.{ValuesAskWhatTheyWrite}
use Rattle.wq_query.specs.Reading.{asks, field_of, fields_in, flag_of}
use Rattle.wq_query.proofs.Names.{ReadsEach}
use Rattle.wq_term.specs.Expr.{always, depth_of}
use Rattle.wq_term.specs.Limit.{max_depth}
use Rattle.wq_follow.specs.Start.{InputData}
use Rattle.wq_follow.specs.Definition.{DefinitionData, ShapeData, argument_of, arguments_in, command_of, has_bad_length, has_left_out_trigger_key, input_of, is_text_or_absent, defines, known_part, limit_of, list_input, shape_of, trigger_name_of, with_key, with_program}
use Rattle.wq_follow.specs.Kept.{command_in}
use Rattle.wq_follow.specs.Plain.{DefinitionsAreShallow, DefinitionsHaveNoFloat}
use Rattle.wq_follow.specs.declared.fault.TriggerFault.TheVariants.{BadName, BadShape, Query}
use Rattle.wq_follow.proofs.PlainExpressions.{written}
use Rattle.wq_follow.proofs.PlainValues.{is_plain, items_are_plain, members_are_plain, plain-depth, plain-float, plain-more}

-- whether a value that may be there is plain
abbrev may_be_plain : Option Data → ℕ → Bool
may_be_plain None n = true
may_be_plain (Some d) n = is_plain d n

-- a value that is read, if no number, list or object is
plain_scalar : (n : ℕ) {A : Type 0} (read : Data → Option A) → ((x : Num) → read (number x) ≡ None)
    → ((ds : Items) → read (array ds) ≡ None) → ((ms : Members) → read (object ms) ≡ None)
    → (d : Data) (x : A) → read d ≡ Some x → is_plain d n ≡ true
plain_scalar n read numbers lists objects null x is = refl
plain_scalar n read numbers lists objects (boolean b) x is = refl
plain_scalar n read numbers lists objects (number y) x is = cc (numbers y)
plain_scalar n read numbers lists objects (string s) x is = refl
plain_scalar n read numbers lists objects (array ds) x is = cc (lists ds)
plain_scalar n read numbers lists objects (object ms) x is = cc (objects ms)

-- the name
plain_name : (n : ℕ) (o : Option Data) (name : List ℕ) → trigger_name_of o ≡ Some name
    → may_be_plain o n ≡ true
plain_name n None name is = refl
plain_name n (Some d) name is =
    plain_scalar n (λ d. trigger_name_of (Some d)) (λ x. refl) (λ ds. refl) (λ ms. refl) d name is

-- the program
plain_program : (n : ℕ) (o : Option Data) → is_text_or_absent o ≡ true → may_be_plain o n ≡ true
plain_program n None is = refl
plain_program n (Some null) is = refl
plain_program n (Some (boolean b)) is = refl
plain_program n (Some (number x)) is = cc
plain_program n (Some (string s)) is = refl
plain_program n (Some (array ds)) is = cc
plain_program n (Some (object ms)) is = cc

-- a flag
plain_flag : (n : ℕ) (o : Option Data) (b : Bool) → flag_of o ≡ Some b → may_be_plain o n ≡ true
plain_flag n None b is = refl
plain_flag n (Some d) b is = plain_scalar n as_bool (λ x. refl) (λ ds. refl) (λ ms. refl) d b is

-- a count
plain_limit : (n : ℕ) (o : Option Data) (limit : Option ℕ) → limit_of o ≡ Some limit
    → may_be_plain o n ≡ true
plain_limit n None limit is = refl
plain_limit n (Some null) limit is = refl
plain_limit n (Some (boolean b)) limit is = refl
plain_limit n (Some (number (unsigned x))) limit is = refl
plain_limit n (Some (number (negative z))) limit is = refl
plain_limit n (Some (number (float x))) limit is = cc
plain_limit n (Some (string s)) limit is = refl
plain_limit n (Some (array ds)) limit is = cc
plain_limit n (Some (object ms)) limit is = cc

-- items that are read one by one
plain_items : (n : ℕ) {A : Type 0} (one : Data → Option A) (all : Items → Option (List A))
    → ReadsEach one all → ((d : Data) (x : A) → one d ≡ Some x → is_plain d n ≡ true)
    → (ds : Items) (xs : List A) → all ds ≡ Some xs → items_are_plain ds n ≡ true
plain_items n one all each plain no_items xs is = refl
plain_items n one all each plain (item d ds) xs is =
    with_first-some (one d) (all ds) xs (sym (each d ds) ∙ is) (λ x rest first others whole.
    rw (plain d x first) (plain_items n one all each plain ds rest others))

-- an argument of the command
plain_argument : (n : ℕ) (d : Data) (text : List ℕ) → argument_of d ≡ Some text → is_plain d n ≡ true
plain_argument n = plain_scalar n argument_of (λ x. refl) (λ ds. refl) (λ ms. refl)

-- the command
plain_command : (n : ℕ) (o : Option Data) (texts : List (List ℕ)) → command_of o ≡ Some texts
    → may_be_plain o (suc n) ≡ true
plain_command n None texts is = refl
plain_command n (Some null) texts is = refl
plain_command n (Some (boolean b)) texts is = refl
plain_command n (Some (number x)) texts is = cc
plain_command n (Some (string s)) texts is = refl
plain_command n (Some (array ds)) texts is = by (arguments_in ds) refl is
  where
    by : (o : Option (List (List ℕ))) → arguments_in ds ≡ o → option_and_then with_program o ≡ Some texts
        → items_are_plain ds n ≡ true
    by None e is = cc
    by (Some xs) e is = plain_items n argument_of arguments_in (λ d ds. refl) (plain_argument n) ds xs e
plain_command n (Some (object ms)) texts is = cc

-- a value that says a command is not deep
pub shallow_command : (d : Data) (texts : List (List ℕ)) → command_of (Some d) ≡ Some texts → depth d ≤ text.max_depth
shallow_command d texts is = omega (arith, plain-depth d 1 (plain_command 0 (Some d) texts is))

-- the text of such a value says the command
said_command : (d : Data) (texts : List (List ℕ)) (kept : List ℕ) → Some texts ≡ command_of (Some d)
    → (depth d ≤ text.max_depth → text.read kept ≡ Some d) → command_of (text.read kept) ≡ Some texts
said_command d texts kept is reads = ap command_of (reads (shallow_command d texts (sym is))) ∙ sym is

-- so the text is that of a command
pub kept_command : (d : Data) (texts : List (List ℕ)) (kept : List ℕ) → Some texts ≡ command_of (Some d)
    → (depth d ≤ text.max_depth → text.read kept ≡ Some d) → command_of (text.read kept) ≡ Some (command_in kept)
kept_command d texts kept is reads =
    let said = said_command d texts kept is reads in
    said ∙ ap (λ o. Some (unwrap_or o [])) (sym said)

-- which is the one that the value says
pub kept_words : (d : Data) (texts : List (List ℕ)) (kept : List ℕ) → Some texts ≡ command_of (Some d)
    → (depth d ≤ text.max_depth → text.read kept ≡ Some d) → Some (command_in kept) ≡ command_of (Some d)
kept_words d texts kept is reads =
    sym (kept_command d texts kept is reads) ∙ said_command d texts kept is reads ∙ is

-- the name of a field
plain_field : (n : ℕ) (d : Data) (field : Field) → field_of d ≡ Some field → is_plain d n ≡ true
plain_field n = plain_scalar n field_of (λ x. refl) (λ ds. refl) (λ ms. refl)

-- the input
plain_input : (n : ℕ) (o : Option Data) (input : InputData) → input_of o ≡ Some input
    → may_be_plain o (suc n) ≡ true
plain_input n None input is = refl
plain_input n (Some null) input is = refl
plain_input n (Some (boolean b)) input is = refl
plain_input n (Some (number x)) input is = cc
plain_input n (Some (string s)) input is = refl
plain_input n (Some (array no_items)) input is = refl
plain_input n (Some (array (item d ds))) input is = by (fields_in (item d ds)) refl is
  where
    by : (o : Option (List Field)) → fields_in (item d ds) ≡ o
        → list_input (array (item d ds)) ≡ Some input → items_are_plain (item d ds) n ≡ true
    by None e is = cc
    by (Some fields) e is =
        plain_items n field_of fields_in (λ d ds. refl) (plain_field n) (item d ds) fields e
plain_input n (Some (object ms)) input is = cc

-- a member that is put among others
plain_put : (n : ℕ) (key : List ℕ) (d : Data) (ms : Members) → is_plain d n ≡ true
    → members_are_plain ms n ≡ true → members_are_plain (put key d ms) n ≡ true
plain_put n key d no_members one all = rw one refl
plain_put n key d (member l e ms) one all =
    let parts = and_parts (is_plain e n) (members_are_plain ms n) all in
    at (slice_cmp nat_cmp key l) parts.0 parts.1 (plain_put n key d ms one parts.1)
  where
    at : (o : Ordering) → is_plain e n ≡ true → members_are_plain ms n ≡ true
        → members_are_plain (put key d ms) n ≡ true
        → members_are_plain (match_ordering o (member key d (member l e ms)) (member l d ms) (member l e (put key d ms))) n ≡ true
    at Less first rest later = rw (one, first) rest
    at Equal first rest later = rw one rest
    at Greater first rest later = rw first later

-- a member that may be there among others
plain_with : (n : ℕ) (key : List ℕ) (o : Option Data) (ms : Members) → may_be_plain o n ≡ true
    → members_are_plain ms n ≡ true → members_are_plain (with_key key o ms) n ≡ true
plain_with n key None ms one all = all
plain_with n key (Some d) ms one all = plain_put n key d ms one all

-- a member of another key changes nothing
found_past : (q key : List ℕ) (o : Option Data) (ms : Members) → bytes_eq q key ≡ false
    → get_member q (with_key key o ms) ≡ get_member q ms
found_past q key None ms other = refl
found_past q key (Some d) ms other =
    get_member-put_other q key d ms (not_from_Decides (bytes_eq q key) (bytes_eq-Decides q key) other)

-- the members that are put before the expression
abbrev first_members : Data → Members
first_members d =
    with_key (codes "command") (get (codes "command") d)
    (with_key (codes "append_files") (get (codes "append_files") d) no_members)

-- the known part has the expression of the object
found_expression : (d e : Data) → get (codes "expression") d ≡ Some e
    → get (codes "expression") (known_part d) ≡ Some e
found_expression d e is =
    found_past (codes "expression") (codes "stdin") (get (codes "stdin") d) _ refl
    ∙ found_past (codes "expression") (codes "program") (get (codes "program") d) _ refl
    ∙ found_past (codes "expression") (codes "name") (get (codes "name") d) _ refl
    ∙ found_past (codes "expression") (codes "max_files_stdin") (get (codes "max_files_stdin") d) _ refl
    ∙ ap (λ o. get_member (codes "expression") (with_key (codes "expression") o (first_members d))) is
    ∙ get_member-put (codes "expression") e (first_members d)

-- how many lists and objects may be inside one another in a value of the object
abbrev most : ℕ
most = suc max_depth

-- the expression
plain_expression : (instance : InstanceData) (query : QueryData) (d : Data) (o : Option Data)
    → get (codes "expression") d ≡ o → IsWrittenBy instance query (known_part d)
    → may_be_plain o most ≡ true
plain_expression instance query d None is h = refl
plain_expression instance query d (Some e) is h =
    let said = subst (λ o. MatchOption o (query.expression ≡ always) (IsExpression instance query.expression)) (found_expression d e is) h.expression in
    plain-more e (suc (depth_of query.expression)) most (omega (arith, said.1)) (written instance query.expression e said.0)

-- the known part
plain_part : (d : Data) (shape : ShapeData) → shape_of d ≡ Ok shape
    → may_be_plain (get (codes "expression") d) most ≡ true → is_plain (known_part d) (suc most) ≡ true
plain_part d shape is expression =
    unless_fault-ok BadShape (not (has_left_out_trigger_key d)) _ shape is (λ none e0.
    unless_fault-ok BadShape (is_text_or_absent (get (codes "program") d)) _ shape e0 (λ program e1.
    or_fault-ok BadShape (trigger_name_of (get (codes "name") d)) _ shape e1 (λ name named e2.
    or_fault-ok BadShape (flag_of (get (codes "append_files") d)) _ shape e2 (λ appends on e3.
    or_fault-ok BadShape (limit_of (get (codes "max_files_stdin") d)) _ shape e3 (λ limit counted e4.
    or_fault-ok BadShape (command_of (get (codes "command") d)) _ shape e4 (λ command started e5.
    or_fault-ok BadShape (input_of (get (codes "stdin") d)) _ shape e5 (λ input given e6.
    plain_with most (codes "stdin") (get (codes "stdin") d) _ (plain_input max_depth (get (codes "stdin") d) input given)
    (plain_with most (codes "program") (get (codes "program") d) _ (plain_program most (get (codes "program") d) program)
    (plain_with most (codes "name") (get (codes "name") d) _ (plain_name most (get (codes "name") d) name named)
    (plain_with most (codes "max_files_stdin") (get (codes "max_files_stdin") d) _ (plain_limit most (get (codes "max_files_stdin") d) limit counted)
    (plain_with most (codes "expression") (get (codes "expression") d) _ expression
    (plain_with most (codes "command") (get (codes "command") d) _ (plain_command max_depth (get (codes "command") d) command started)
    (plain_with most (codes "append_files") (get (codes "append_files") d) no_members (plain_flag most (get (codes "append_files") d) appends on) refl
    )))))))))))))

-- the object of a definition is plain
plain_object : ValuesAskWhatTheyWrite → (instance : InstanceData) (d : Data) (definition : DefinitionData)
    → defines instance d ≡ Ok definition → is_plain definition.object (suc most) ≡ true
plain_object law instance d definition is =
    unless_fault-ok BadName (not (has_bad_length (get (codes "name") d))) _ definition is (λ fits e0.
    or_own_fault-ok (shape_of d) _ definition e0 (λ shape shaped e1.
    or_its_fault-ok Query (asks instance (known_part d)) _ definition e1 (λ query asked e2.
    subst (λ kept. is_plain kept.object (suc most) ≡ true) (same_Ok _ definition e2)
    (plain_part d shape shaped (plain_expression instance query d (get (codes "expression") d) refl ((law instance query (known_part d)).0 asked))))))

-- the law of floats
pub definitions_have_no_float : ValuesAskWhatTheyWrite → DefinitionsHaveNoFloat
definitions_have_no_float law instance d definition is =
    plain-float definition.object (suc most) (plain_object law instance d definition is)

-- the law of depth
pub definitions_are_shallow : ValuesAskWhatTheyWrite → DefinitionsAreShallow
definitions_are_shallow law instance d definition is =
    omega (arith, plain-depth definition.object (suc most) (plain_object law instance d definition is))

-- the definition of an object that is read to its end
read_whole : (instance : InstanceData) (d part : Data) (shape : ShapeData) (query : QueryData)
    → has_bad_length (get (codes "name") d) ≡ false → shape_of d ≡ Ok shape
    → part ≡ known_part d → asks instance part ≡ Ok query
    → defines instance d ≡ Ok (record { shape = shape; query = query; object = known_part d })
read_whole instance d part shape query fits shaped kept asked =
    let said : asks instance (known_part d) ≡ Ok query = ap (asks instance) (sym kept) ∙ asked in
    rw (fits, shaped, said) refl

-- an object that is read to its end defines something, so the part that is kept has no float
pub plain_read : DefinitionsHaveNoFloat → (instance : InstanceData) (d part : Data) (shape : ShapeData)
    (query : QueryData) → has_bad_length (get (codes "name") d) ≡ false → shape_of d ≡ Ok shape
    → part ≡ known_part d → asks instance part ≡ Ok query → has_float part ≡ false
plain_read law instance d part shape query fits shaped kept asked =
    ap has_float kept ∙ law instance d _ (read_whole instance d part shape query fits shaped kept asked)

-- and it is not deep
pub shallow_read : DefinitionsAreShallow → (instance : InstanceData) (d part : Data) (shape : ShapeData)
    (query : QueryData) → has_bad_length (get (codes "name") d) ≡ false → shape_of d ≡ Ok shape
    → part ≡ known_part d → asks instance part ≡ Ok query → depth part ≤ text.max_depth
shallow_read law instance d part shape query fits shaped kept asked =
    subst (λ d. depth d ≤ text.max_depth) (sym kept) (law instance d _ (read_whole instance d part shape query fits shaped kept asked))
