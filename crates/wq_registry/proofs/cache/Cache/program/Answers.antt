-- A program that is kept stands for the text of the key, which says the expression.
use Rattle.std.proofs.Common.{rules, true≢false, sym, ◌∙◌}
use Rattle.wq_term.specs.Expr.{term_of}
use Rattle.wq_registry.specs.CacheKey.{Says}
use Rattle.wq_registry.proofs.Keeping.{stood_for}
use Rattle.wq_registry.proofs.cache.Cache.program.Goals as goal

pub returns-in-Some-clause-meaning : goal.returns-in-Some-clause-meaning
returns-in-Some-clause-meaning c =
    let says : Says c.in-Ok.key (term_of c.args.expr.now) = search rules in
    (stood_for c.in-Ok.key (term_of c.args.expr.now) c.in-Some.program.value says c.in-Some.ensures.meaning).0

pub returns-in-Some-clause-cost : goal.returns-in-Some-clause-cost
returns-in-Some-clause-cost c =
    let says : Says c.in-Ok.key (term_of c.args.expr.now) = search rules in
    (stood_for c.in-Ok.key (term_of c.args.expr.now) c.in-Some.program.value says c.in-Some.ensures.meaning).2

pub returns-in-Some-clause-large : goal.returns-in-Some-clause-large
returns-in-Some-clause-large c =
    let says : Says c.in-Ok.key (term_of c.args.expr.now) = search rules in
    let stood = stood_for c.in-Ok.key (term_of c.args.expr.now) c.in-Some.program.value says c.in-Some.ensures.meaning in
    (λ is. absurd (cc is), λ large. absurd (true≢false (sym large ∙ stood.1)))
