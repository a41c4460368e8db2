-- The most that the program of an expression costs on a file.
-- This server's own measure: the charges of wq_code's machine.
use Rattle.std.specs.Prelude.{ℕ, ◌+◌, length}
use Rattle.wq_record.specs.Limit.{max_name}
use Rattle.wq_verify.specs.Budget.{most_pattern_cost}
use Rattle.wq_term.specs.CodeLength.{code_len}
use Rattle.wq_term.specs.Expr.{ExprData, name_is, matches, suffix_is, negation, all_of, any_of}
use Rattle.wq_term.specs.Expr.{ExprsData, no_terms, term}

abbrev mutual
  -- the most steps for the constants of a term: one for each text of a list; for a pattern a cell
  -- for each atom and one, at each byte of the longest name and once more
  pub constants_cost : ExprData → ℕ
  constants_cost (name_is _ _ texts) = length texts
  constants_cost (matches pattern) = most_pattern_cost max_name pattern
  constants_cost (suffix_is texts) = length texts
  constants_cost (negation t) = constants_cost t
  constants_cost (all_of ts) = all_constants_cost ts
  constants_cost (any_of ts) = all_constants_cost ts
  constants_cost _ = 0

  -- the same of the terms of a list together
  pub all_constants_cost : ExprsData → ℕ
  all_constants_cost no_terms = 0
  all_constants_cost (term t ts) = constants_cost t + all_constants_cost ts

-- the most steps of an expression: one for each instruction, the end too, and those for constants
abbrev pub most_steps_of : ExprData → ℕ
most_steps_of t = code_len t + 1 + constants_cost t
