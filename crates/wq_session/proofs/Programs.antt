-- The program of a query that was read answers what its expression means within its measure.
use Rattle.std.proofs.Common.{◌≡◌, Option, Some, None, IfSome, sym, subst}
use Rattle.std.specs.declared.alloc.Global.{Global}
use Rattle.std.specs.declared.sync.Arc.{Arc}
use Rattle.wq_code.specs.declared.raw.Raw.{Raw}
use Rattle.wq_reply.specs.Meaning.{AnswersWithin}
use Rattle.wq_registry.proofs.Keeping.{stood_for}
use Rattle.wq_registry.specs.CacheKey.{CacheKeyData, Says}
use Rattle.wq_term.specs.Expr.{ExprData}
use Rattle.wq_session.specs.Prepared.{IsFoundFor, IsLookup}
use Rattle.wq_session.specs.declared.lookup.Lookup.{Lookup}

-- a program that was found does
pub found_answers : (t : ExprData) (key : Option CacheKeyData) (program : Arc Raw Global) → IfSome key (λ key. Says key t)
    → IsFoundFor key (Some program) → AnswersWithin program.value t
found_answers t (Some key) program says stands =
    let stood = stood_for key t program.value says stands in
    (stood.0, stood.2)
found_answers t None program says stands = elim stands [ ]

-- one that is there does
pub there_answers : (t : ExprData) (lookup : Lookup) (program : Arc Raw Global) → IsLookup t lookup → lookup.program ≡ Some program
    → AnswersWithin program.value t
there_answers t lookup program is there =
    subst (λ (p : Option (Arc Raw Global)). IfSome p (λ program. AnswersWithin program.value t)) there is.2

-- the same program in another form does
pub kept_answers : (t : ExprData) (program kept : Raw) → kept ≡ program → AnswersWithin program t → AnswersWithin kept t
kept_answers t program kept same = subst (λ (raw : Raw). AnswersWithin raw t) (sym same)
