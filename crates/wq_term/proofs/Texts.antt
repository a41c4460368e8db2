-- Texts that are compared byte by byte, and lists of texts that are read from the front.
use Rattle.std.proofs.Common.{◌≡◌, ◌≤◌, ℕ, ◌-◌, ◌++◌, not, IsTrue, List, [], ◌∷◌, length, Vec}
use Rattle.std.proofs.Common.{Option, Some, None, ok_or, Ok, Err, refl, sym, ap, ◌∙◌, arith}
use Rattle.std.proofs.Common.{length-drop}
use Rattle.std.specs.List.{suffix_len}
use Rattle.std.proofs.lemmas.Bool.{and_parts}
use Rattle.std.proofs.lemmas.Bool.Decides.{nat_tests}
use Rattle.std.specs.declared.alloc.Global.{Global}
use Rattle.serde_json.specs.Data.{Data, Items, item}
use Rattle.wq_record.specs.declared.name.TheConstants.{MAX_NAME}
use Rattle.wq_base.specs.Byte.{is_slash}
use Rattle.wq_record.specs.Name.{is_valid_name}
use Rattle.wq_term.specs.declared.expr.Scope.{Scope}
use Rattle.wq_term.specs.declared.expr.Scope.TheVariants.{Basename, Wholename}
use Rattle.wq_term.specs.Text.{scope_part}
use Rattle.wq_term.specs.declared.fault.TermFault.{TermFault}
use Rattle.wq_base.specs.Fault.{with_first}
use Rattle.wq_base.proofs.Fault.{before, before-push, before-none}
use Rattle.wq_term.specs.Argument.{text_of, all_texts_of}
use Rattle.wq_term.specs.Expr.{texts_in}

-- a valid name has at most 4,096 bytes
pub name_is_short : (name : List ℕ) → IsTrue (is_valid_name name) → length name ≤ MAX_NAME
unfolding is_valid_name
name_is_short name h = grind (arith, nat_tests, and_parts)

-- and so has each part of it that a scope asks for
pub part_is_short : (scope : Scope) (name : List ℕ) → IsTrue (is_valid_name name)
    → length (scope_part scope name) ≤ MAX_NAME
part_is_short Wholename name h = name_is_short name h
part_is_short Basename name h =
    let short = name_is_short name h in
    let rest = length-drop (length name - suffix_len (λ b. not (is_slash b)) name) name in
    omega (arith, short, rest)

-- a value is right, if it is there
pub was_some : {A E : Type 0} (o : Option A) (fault : E) (x : A) → ok_or o fault ≡ Ok x → o ≡ Some x
was_some None fault x e = cc
was_some (Some y) fault x e = cc

-- one more text is read
pub text_more : (ts : List (List ℕ)) (d : Data) (ds : Items) (t : List ℕ) (all : Option (List (List ℕ)))
    → text_of d ≡ Some t → before ts (all_texts_of (item d ds)) ≡ all
    → before (ts ++ t ∷ []) (all_texts_of ds) ≡ all
text_more ts d ds t all is so_far =
    before-push ts t (all_texts_of ds) ∙ ap (λ o. before ts (with_first o (all_texts_of ds))) (sym is) ∙ so_far

-- one more item is no text
pub text_none : (ts : List (List ℕ)) (d : Data) (ds : Items) (all : Option (List (List ℕ)))
    → text_of d ≡ None → before ts (all_texts_of (item d ds)) ≡ all → all ≡ None
text_none ts d ds all is so_far =
    sym so_far ∙ ap (λ o. before ts (with_first o (all_texts_of ds))) is ∙ before-none ts

-- the texts of vectors, with one more
pub texts_in-push : (vs : List (Vec ℕ Global)) (v : Vec ℕ Global)
    → texts_in (vs ++ v ∷ []) ≡ texts_in vs ++ v.items ∷ []
texts_in-push [] v = refl
texts_in-push (u ∷ vs) v = ap (λ ts. u.items ∷ ts) (texts_in-push vs v)

-- a part that is missing makes the whole missing, with one fault
pub none_fault : {A B : Type 0} (one : Option A) (all : Option B) (wrong fault : TermFault)
    → ok_or one wrong ≡ Err fault → (one ≡ None → all ≡ None) → ok_or all wrong ≡ Err fault
none_fault None all wrong fault is next = ap (λ o. ok_or o wrong) (next refl) ∙ let e : wrong ≡ fault = cc in ap Err e
none_fault (Some x) all wrong fault is next = cc
