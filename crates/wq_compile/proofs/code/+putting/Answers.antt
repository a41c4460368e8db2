-- The loop over the terms of a list.
use Rattle.std.proofs.Common.{◌≡◌, ◌+◌, ◌<◌, List, length, map, drop, true, sym, ap, subst}
use Rattle.wq_code.specs.Limit.{max_table_rows}
use Rattle.wq_term.specs.declared.expr.Expr.{Expr}
use Rattle.wq_term.specs.CodeLength.{terms_len}
use Rattle.wq_term.specs.Expr.{term, term_of, terms_of}
use Rattle.wq_term.specs.Fits.{all_keep_limits}
use Rattle.wq_compile.specs.Code.{joined, parts_of}
use Rattle.wq_compile.specs.Instruction.{put_all}
use Rattle.wq_compile.proofs.Putting.{IsBefore, first_put, next_put, terms_from}
use Rattle.wq_compile.proofs.code.+putting.Goals as goal

pub put_terms-loop-term-init : goal.put_terms-loop-term-init
put_terms-loop-term-init t c =
    let ts = terms_of (map term_of c.in-Some.others.now) in
    let same : terms_of (map term_of c.args.terms.now) ≡ term (term_of c.in-Some.first.now) ts = ap (λ (es : List Expr). terms_of (map term_of es)) c.in-Some.ensures.cases.0 in
    subst (λ us. IsBefore c.args.flag c.args.end ts c.put_code.new.draft (put_all (joined c.args.flag (parts_of us) (length c.args.draft.now.code)) c.args.draft.now)) (sym same)
    (first_put c.args.flag c.args.end (term_of c.in-Some.first.now) ts c.args.draft.now c.put_code.new.draft c.in_ok-put_code.ensures
    (subst (λ us. c.args.end ≡ length c.args.draft.now.code + terms_len us) same c.requires.end)
    (subst (λ us. length c.args.draft.now.code + terms_len us < max_table_rows) same c.requires.room)
    (subst (λ us. all_keep_limits us ≡ true) same c.requires.limits))

pub put_terms-loop-term-preserved : goal.put_terms-loop-term-preserved
put_terms-loop-term-preserved t c =
    let here = terms_from c.in-Some.others.now c.loop-term.term-index c.term-item.result c.loop-term-test.true c.term-item.is in
    let whole = put_all (joined c.args.flag (parts_of (terms_of (map term_of c.args.terms.now))) (length c.args.draft.now.code)) c.args.draft.now in
    next_put c.args.flag c.args.end (term_of c.term-item.result) (terms_of (map term_of (drop (c.loop-term.term-index + 1) c.in-Some.others.now)))
    c.loop-term.draft c.put_jump.new.draft c.put_code-in-loop-term.new.draft whole
    (subst (λ ts. IsBefore c.args.flag c.args.end ts c.loop-term.draft whole) here c.loop-term.invariant)
    c.in_ok-put_jump.ensures c.in_ok-put_code-2.ensures
