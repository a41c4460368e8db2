-- the terms that were put, and the terms that are left, are the whole
use Rattle.std.proofs.Common.{length, map, drop}
use Rattle.wq_term.specs.Expr.{term_of, terms_of}
use Rattle.wq_compile.specs.Code.{joined, parts_of}
use Rattle.wq_compile.specs.Instruction.{put_all}
use Rattle.wq_compile.proofs.Putting.{IsBefore}
use Rattle.wq_compile.proofs.code.+putting.Given as goal

abbrev pub invariant-put_terms-loop-term : goal.invariant-put_terms-loop-term
invariant-put_terms-loop-term l =
    IsBefore l.flag l.end (terms_of (map term_of (drop l.term-index l.others))) l.draft
    (put_all (joined l.fn.flag (parts_of (terms_of (map term_of l.fn.terms))) (length l.fn.draft.code)) l.fn.draft)
