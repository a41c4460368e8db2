-- The expressions that have no program. The limits are those of program files, which are this
-- server's own.
use Rattle.std.specs.Prelude.{ℕ, Bool, false, ◌||◌, ◌+◌, nat_lt, List, length}
use Rattle.wq_code.specs.Limit.{max_table_rows, max_entries}
use Rattle.wq_term.specs.CodeLength.{code_len}
use Rattle.wq_term.specs.Expr.{ExprData, name_is, suffix_is, negation, all_of, any_of}
use Rattle.wq_term.specs.Expr.{ExprsData, no_terms, term}
use Rattle.wq_compile.specs.Code.{filled}

-- a list has more entries than a constant can have
abbrev pub is_long_list : List (List ℕ) → Bool
is_long_list texts = nat_lt max_entries (length texts)

abbrev mutual
  -- a list of texts in a term is too long; empty suffixes do not count
  pub has_long_list : ExprData → Bool
  has_long_list (name_is _ _ texts) = is_long_list texts
  has_long_list (suffix_is texts) = is_long_list (filled texts)
  has_long_list (negation t) = has_long_list t
  has_long_list (all_of ts) = have_long_list ts
  has_long_list (any_of ts) = have_long_list ts
  has_long_list _ = false

  -- the same of the terms of a list
  pub have_long_list : ExprsData → Bool
  have_long_list no_terms = false
  have_long_list (term t ts) = has_long_list t || have_long_list ts

-- its code and the end have over 65,536 instructions, or a list has over 65,536 entries
abbrev pub is_too_large : ExprData → Bool
is_too_large t = nat_lt max_table_rows (code_len t + 1) || has_long_list t
