-- The limits of an expression: those that reading one tests. This server's own; `Limit` has the
-- numbers.
use Rattle.std.specs.Prelude.{ℕ, ℤ, pos, neg_ℤ, int_le, nat_le, Bool, true, ◌&&◌, List, length}
use Rattle.std.specs.List.{list_all}
use Rattle.wq_base.specs.Limit.{max_number}
use Rattle.wq_clock.specs.declared.bound.Bound.{Bound}
use Rattle.wq_clock.specs.declared.bound.Bound.TheVariants.{Fresh, Tick, Second}
use Rattle.wq_term.specs.declared.expr.Depth.{Depth}
use Rattle.wq_term.specs.declared.expr.Depth.TheVariants.{Any, Is}
use Rattle.wq_term.specs.declared.expr.Since.{Since}
use Rattle.wq_term.specs.declared.expr.Since.TheVariants.{Observed, Created, Modified}
use Rattle.wq_glob.specs.Limit.{max_pattern_length}
use Rattle.wq_term.specs.Limit.{max_depth, max_term_text}
use Rattle.wq_term.specs.Expr.{ExprData, name_is, matches, suffix_is, size_is, since, below, negation}
use Rattle.wq_term.specs.Expr.{all_of, any_of, ExprsData, no_terms, term, depth_of}

-- a text of at most 4,096 bytes
abbrev pub is_text : List ℕ → Bool
is_text text = nat_le (length text) max_term_text

-- a whole number, from -2^62 to 2^62
abbrev pub is_whole : ℤ → Bool
is_whole n = int_le (neg_ℤ (pos max_number)) n && int_le n (pos max_number)

-- a second of the Unix epoch, from 0 to 2^62
abbrev pub is_second : ℤ → Bool
is_second n = int_le (pos 0) n && int_le n (pos max_number)

-- a tick of at most 2^62, or a second
abbrev pub bound_fits : Bound → Bool
bound_fits Fresh = true
bound_fits (Tick tick) = nat_le tick max_number
bound_fits (Second second) = is_second second

-- the point of `since`
abbrev pub since_fits : Since → Bool
since_fits (Observed bound) = bound_fits bound
since_fits (Created bound) = bound_fits bound
since_fits (Modified second) = is_second second

-- the number of a depth
abbrev pub depth_fits : Depth → Bool
depth_fits Any = true
depth_fits (Is _ n) = is_whole n

abbrev mutual
  -- the texts and numbers of a term and of those in it
  pub keeps_limits : ExprData → Bool
  keeps_limits (name_is _ _ texts) = list_all is_text texts
  keeps_limits (matches pattern) = nat_le (length pattern.text) max_pattern_length
  keeps_limits (suffix_is texts) = list_all is_text texts
  keeps_limits (size_is _ n) = is_whole n
  keeps_limits (since point) = since_fits point
  keeps_limits (below _ dir depth) = is_text dir && depth_fits depth
  keeps_limits (negation t) = keeps_limits t
  keeps_limits (all_of ts) = all_keep_limits ts
  keeps_limits (any_of ts) = all_keep_limits ts
  keeps_limits _ = true

  -- the same of the terms of a list
  pub all_keep_limits : ExprsData → Bool
  all_keep_limits no_terms = true
  all_keep_limits (term t ts) = keeps_limits t && all_keep_limits ts

-- an expression is at most 64 terms deep, and its texts and numbers keep their limits
unfoldable pub expr_fits : ExprData → Bool
expr_fits t = nat_le (depth_of t) max_depth && keeps_limits t
