-- Reading a list of terms from the front: the terms that were read, and the rest.
use Rattle.std.proofs.Common.{◌≡◌, map, ℕ, suc, ◌+◌, ◌<◌, List, [], ◌∷◌, ◌++◌, length, drop, get_or}
use Rattle.std.proofs.Common.{Result, Ok, Err, refl, sym, ap, ◌∙◌, add-one}
use Rattle.std.proofs.Math.Seq.{drop-cons}
use Rattle.serde_json.specs.Data.{Data, Items, item}
use Rattle.serde_json.specs.View.{view as data_of, items_view}
use Rattle.serde_json.specs.declared.value.Value.{Value}
use Rattle.wq_base.specs.Fault.{or_own_fault}
use Rattle.wq_term.specs.declared.fault.TermFault.{TermFault}
use Rattle.wq_term.specs.declared.fault.TermFault.TheVariants.{UnknownTerm, WrongArguments, TooDeep}
use Rattle.wq_term.specs.declared.fault.TermFault.TheVariants.{BadClockSpec, CursorInTerm}
use Rattle.wq_term.specs.declared.fault.TermFault.TheVariants.{PatternTooLong, NoMemory}
use Rattle.wq_term.specs.Expr.{ExprData, ExprsData, no_terms, term, term_of, terms_of}
use Rattle.wq_term.specs.declared.expr.Expr.{Expr}
use Rattle.wq_term.specs.Outcome.{GivesAs}
use Rattle.wq_term.specs.Reading.{Answer, read_all}

-- a term before others, unless they have a fault
abbrev pub with_term : ExprData → Result ExprsData TermFault → Result ExprsData TermFault
with_term t rest = or_own_fault rest (λ ts. Ok (term t ts))

-- the answer of a list whose first terms are read
abbrev pub prefixed : List ExprData → Result ExprsData TermFault → Result ExprsData TermFault
prefixed [] rest = rest
prefixed (t ∷ ts) rest = with_term t (prefixed ts rest)

-- one more term comes before the rest
pub prefixed-push : (ts : List ExprData) (t : ExprData) (rest : Result ExprsData TermFault)
    → prefixed (ts ++ t ∷ []) rest ≡ prefixed ts (with_term t rest)
prefixed-push [] t rest = refl
prefixed-push (u ∷ ts) t rest = ap (with_term u) (prefixed-push ts t rest)

-- at the end the terms are those read
pub prefixed-end : (ts : List ExprData) → prefixed ts (Ok no_terms) ≡ Ok (terms_of ts)
prefixed-end [] = refl
prefixed-end (t ∷ ts) = ap (with_term t) (prefixed-end ts)

-- a fault is that of the whole list
pub prefixed-fault : (ts : List ExprData) (fault : TermFault) → prefixed ts (Err fault) ≡ Err fault
prefixed-fault [] fault = refl
prefixed-fault (t ∷ ts) fault = ap (with_term t) (prefixed-fault ts fault)

-- one more term is read
pub read_more : (read : Data → Answer) (ts : List ExprData) (d : Data) (ds : Items) (t : ExprData)
    (all : Result ExprsData TermFault) → read d ≡ Ok t
    → prefixed ts (read_all read (item d ds)) ≡ all
    → prefixed (ts ++ t ∷ []) (read_all read ds) ≡ all
read_more read ts d ds t all is so_far =
    prefixed-push ts t (read_all read ds)
    ∙ ap (λ r. prefixed ts (or_own_fault r (λ u. with_term u (read_all read ds)))) (sym is) ∙ so_far

-- one more term has a fault
pub read_fault : (read : Data → Answer) (ts : List ExprData) (d : Data) (ds : Items) (fault : TermFault)
    (all : Result ExprsData TermFault) → read d ≡ Err fault
    → prefixed ts (read_all read (item d ds)) ≡ all → all ≡ Err fault
read_fault read ts d ds fault all is so_far =
    sym so_far ∙ ap (λ r. prefixed ts (or_own_fault r (λ u. with_term u (read_all read ds)))) is
    ∙ prefixed-fault ts fault

-- the items from a place on are the item there and those after it
pub items_from : (values : List Value) (i : ℕ) (v : Value) → i < length values
    → v ≡ get_or values i v
    → items_view (drop i values) ≡ item (data_of v) (items_view (drop (i + 1) values))
items_from values i v h is =
    ap items_view (drop-cons values i v h)
    ∙ ap (λ (x : Value). item (data_of x) (items_view (drop (suc i) values))) (sym is)
    ∙ ap (λ n. item (data_of v) (items_view (drop n values))) (sym (add-one i))

-- the terms of read expressions, with one more
pub terms-push : (es : List Expr) (e : Expr)
    → map term_of (es ++ e ∷ []) ≡ map term_of es ++ term_of e ∷ []
terms-push [] e = refl
terms-push (x ∷ es) e = ap (λ ts. term_of x ∷ ts) (terms-push es e)

-- a refusal inside is a refusal of the whole
pub all_refused : {A B C D : Type 0} (see : A → B) (see_all : C → D) (fault : TermFault)
    (answer : Result B TermFault) (all : Result D TermFault) → GivesAs see (Err fault) answer
    → (answer ≡ Err fault → all ≡ Err fault) → GivesAs see_all (Err fault) all
all_refused see see_all UnknownTerm answer all inside next = next inside
all_refused see see_all WrongArguments answer all inside next = next inside
all_refused see see_all TooDeep answer all inside next = next inside
all_refused see see_all BadClockSpec answer all inside next = next inside
all_refused see see_all CursorInTerm answer all inside next = next inside
all_refused see see_all PatternTooLong answer all inside next = next inside
all_refused see see_all NoMemory answer all inside next = tt
