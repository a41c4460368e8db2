-- The results of reading expressions in the code, for which memory may run out. No public document
-- defines it.
use Rattle.std.specs.Prelude.{◌≡◌, ℕ, List, map, Option, Result, Ok, Err, ok_or, Vec}
use Rattle.std.specs.declared.alloc.Global.{Global}
use Rattle.wq_term.specs.declared.expr.Expr.{Expr}
use Rattle.wq_term.specs.declared.fault.TermFault.{TermFault}
use Rattle.wq_term.specs.declared.fault.TermFault.TheVariants.{WrongArguments, NoMemory}
use Rattle.wq_term.specs.Expr.{ExprsData, term_of, terms_of, texts_in}
use Rattle.wq_term.specs.Reading.{Answer}

-- the result of the code, seen in this way, is that answer, or the memory ran out
abbrev pub GivesAs : {A B : Type 0} → (A → B) → Result A TermFault → Result B TermFault → Type 0
GivesAs see (Ok a) answer = answer ≡ Ok (see a)
GivesAs see (Err NoMemory) answer = Unit {0}
GivesAs see (Err fault) answer = answer ≡ Err fault

-- the same of an expression
abbrev pub GivesExpr : Result Expr TermFault → Answer → Type 0
GivesExpr = GivesAs term_of

-- the same of a list of expressions
abbrev pub GivesAll : Result (Vec Expr Global) TermFault → Result ExprsData TermFault → Type 0
GivesAll = GivesAs (λ es. terms_of (map term_of es.items))

-- the same of texts, which are wrong arguments if there are none
abbrev pub GivesTexts : Result (Vec (Vec ℕ Global) Global) TermFault → Option (List (List ℕ))
    → Type 0
GivesTexts result texts = GivesAs (λ ts. texts_in ts.items) result (ok_or texts WrongArguments)
