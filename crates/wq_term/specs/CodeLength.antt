-- How many instructions the code of an expression has, by its terms.
-- From this server's own table of the code of terms.
use Rattle.std.specs.Prelude.{ℕ, ◌+◌, ◌^◌, ◌-◌, min}
use Rattle.wq_clock.specs.declared.bound.Bound.TheVariants.{Fresh}
use Rattle.wq_term.specs.declared.expr.Depth.{Depth}
use Rattle.wq_term.specs.declared.expr.Depth.TheVariants.{Any, Is}
use Rattle.wq_term.specs.declared.expr.Since.{Since}
use Rattle.wq_term.specs.declared.expr.Since.TheVariants.{Observed, Created}
use Rattle.wq_term.specs.Expr.{ExprData, always, never, exists, empty, kind_is, name_is, matches}
use Rattle.wq_term.specs.Expr.{suffix_is, size_is, since, below, negation, all_of, any_of}
use Rattle.wq_term.specs.Expr.{ExprsData, no_terms, term}

-- changes after a bound: `exists` after a fresh one; else a number, a constant and a comparison
abbrev pub since_len : Since → ℕ
since_len (Observed Fresh) = 1
since_len (Created Fresh) = 1
since_len _ = 3

-- below a directory: five instructions, and seven more if a depth is asked for
abbrev pub below_len : Depth → ℕ
below_len Any = 5
below_len (Is _ _) = 12

abbrev mutual
  -- how many instructions the code of a term has
  pub code_len : ExprData → ℕ
  code_len always = 1
  code_len never = 1
  code_len exists = 1
  code_len empty = 16
  code_len (kind_is _) = 3
  code_len (name_is _ _ _) = 2
  code_len (matches _) = 2
  code_len (suffix_is _) = 2
  code_len (size_is _ _) = 6
  code_len (since point) = since_len point
  code_len (below _ _ depth) = below_len depth
  code_len (negation t) = code_len t + 1
  code_len (all_of ts) = terms_len ts
  code_len (any_of ts) = terms_len ts

  -- of the terms of a list, one after the other; a flag if there is none
  pub terms_len : ExprsData → ℕ
  terms_len no_terms = 1
  terms_len (term t ts) = code_len t + others_len ts

  -- of those after the first, each with a jump and a `drop` before it
  pub others_len : ExprsData → ℕ
  others_len no_terms = 0
  others_len (term t ts) = 2 + code_len t + others_len ts

-- the greatest number of 64 bits, in place of a greater one
abbrev pub at_most_word : ℕ → ℕ
at_most_word n = min n (2 ^ 64 - 1)
