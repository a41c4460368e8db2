-- The meaning of an expression: whether a record matches it, by cases on its term. The terms are
-- those of Watchman's documentation of file queries.
use Rattle.std.specs.Prelude.{ℕ, suc, ℤ, pos, Bool, true, false, not, ◌&&◌, ◌||◌, max}
use Rattle.std.specs.Prelude.{◌==◌, List, [], ◌∷◌, map, Vec}
use Rattle.std.specs.Ordering.{int_eq}
use Rattle.std.specs.declared.alloc.Global.{Global}
use Rattle.wq_record.specs.declared.kind.Kind.{Kind}
use Rattle.wq_record.specs.declared.kind.Kind.TheVariants.{File, Dir}
use Rattle.wq_record.specs.Kind.{letter_of}
use Rattle.wq_record.specs.RecordData.{RecordData}
use Rattle.wq_glob.specs.Pattern.{PatternData}
use Rattle.wq_base.specs.declared.compare.Case.{Case}
use Rattle.wq_term.specs.declared.expr.Scope.{Scope}
use Rattle.wq_base.specs.declared.compare.Relation.{Relation}
use Rattle.wq_term.specs.declared.expr.Since.{Since}
use Rattle.wq_term.specs.declared.expr.Depth.{Depth}
use Rattle.wq_term.specs.declared.expr.Expr.{Expr, fold-Expr}
use Rattle.wq_term.specs.declared.expr.Expr.TheOpen.{Expr-F}
use Rattle.wq_base.specs.Compare.{compares}
use Rattle.wq_term.specs.Number.{is_since}
use Rattle.wq_term.specs.Text.{is_named, has_suffix, lies_below}
use Rattle.wq_term.specs.NameFit.{name_fits}

-- an expression, apart from its place in memory
mutual
  pub data ExprData : Type 0 where
    always : ExprData
    never : ExprData
    exists : ExprData
    empty : ExprData
    kind_is : Kind → ExprData
    name_is : Case → Scope → List (List ℕ) → ExprData
    matches : PatternData → ExprData
    suffix_is : List (List ℕ) → ExprData
    size_is : Relation → ℤ → ExprData
    since : Since → ExprData
    below : Case → List ℕ → Depth → ExprData
    negation : ExprData → ExprData
    all_of : ExprsData → ExprData
    any_of : ExprsData → ExprData

  -- the terms of a list
  pub data ExprsData : Type 0 where
    no_terms : ExprsData
    term : ExprData → ExprsData → ExprsData

-- whether a record is of this kind
abbrev pub has_kind : Kind → RecordData → Bool
has_kind kind r = letter_of kind == letter_of r.kind

abbrev mutual
  -- whether a record matches
  pub means : ExprData → RecordData → Bool
  means always r = true
  means never r = false
  means exists r = r.exists
  means empty r = r.exists && (has_kind File r || has_kind Dir r) && int_eq r.size (pos 0)
  means (kind_is kind) r = has_kind kind r
  means (name_is case scope texts) r = is_named case scope texts r.name
  means (matches glob) r = name_fits glob r.name
  means (suffix_is texts) r = has_suffix texts r.name
  means (size_is relation n) r = r.exists && compares relation r.size n
  means (since bound) r = is_since bound r
  means (below case dir depth) r = lies_below case dir depth r.name
  means (negation t) r = not (means t r)
  means (all_of ts) r = every ts r
  means (any_of ts) r = some ts r

  -- every term means yes
  pub every : ExprsData → RecordData → Bool
  every no_terms r = true
  every (term t ts) r = means t r && every ts r

  -- some term means yes
  pub some : ExprsData → RecordData → Bool
  some no_terms r = false
  some (term t ts) r = means t r || some ts r

abbrev mutual
  -- how many terms are inside one another, this one counted
  pub depth_of : ExprData → ℕ
  depth_of (negation t) = suc (depth_of t)
  depth_of (all_of ts) = suc (greatest_depth ts)
  depth_of (any_of ts) = suc (greatest_depth ts)
  depth_of _ = 1

  -- the depth of the deepest of some terms, and 0 of none
  pub greatest_depth : ExprsData → ℕ
  greatest_depth no_terms = 0
  greatest_depth (term t ts) = max (depth_of t) (greatest_depth ts)

-- a list of terms as an expression holds it
abbrev pub terms_of : List ExprData → ExprsData
terms_of [] = no_terms
terms_of (t ∷ ts) = term t (terms_of ts)

-- the bytes of texts
abbrev pub texts_in : List (Vec ℕ Global) → List (List ℕ)
texts_in = map (λ text. text.items)

-- one level of an expression, with those inside already seen as terms
abbrev pub term_step : Expr-F ExprData → ExprData
term_step Expr-F.True = always
term_step Expr-F.False = never
term_step Expr-F.Exists = exists
term_step Expr-F.Empty = empty
term_step (Expr-F.KindIs kind) = kind_is kind
term_step (Expr-F.Name case scope texts) = name_is case scope (texts_in texts.items)
term_step (Expr-F.Match pattern) = matches pattern
term_step (Expr-F.Suffix texts) = suffix_is (texts_in texts.items)
term_step (Expr-F.Size relation n) = size_is relation n
term_step (Expr-F.Since bound) = since bound
term_step (Expr-F.Dirname case dir depth) = below case dir.items depth
term_step (Expr-F.Not t) = negation t.value
term_step (Expr-F.AllOf ts) = all_of (terms_of ts.items)
term_step (Expr-F.AnyOf ts) = any_of (terms_of ts.items)

-- the term that an expression of the code stands for
abbrev pub term_of : Expr → ExprData
term_of = fold-Expr ExprData term_step
