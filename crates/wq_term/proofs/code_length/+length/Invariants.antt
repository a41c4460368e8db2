-- the count so far is a word, and with the terms that are left it makes the whole
use Rattle.std.proofs.Common.{◌≡◌, ◌+◌, map, drop}
use Rattle.wq_term.specs.CodeLength.{at_most_word, others_len, terms_len}
use Rattle.wq_term.specs.Expr.{term_of, terms_of}
use Rattle.wq_term.proofs.code_length.+length.Given as goal

abbrev pub invariant-terms_len-loop-term : goal.invariant-terms_len-loop-term
invariant-terms_len-loop-term l =
    (at_most_word l.len ≡ l.len)
    × (at_most_word (l.len + others_len (terms_of (map term_of (drop l.term-index l.others))))
    ≡ at_most_word (terms_len (terms_of (map term_of l.fn.terms))))
