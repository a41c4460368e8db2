-- Paths that give every file that other paths give, and the order in which they are looked for.
-- No public document defines them.
use Rattle.std.specs.Prelude.{ℕ, ℤ, negsuc, Bool, not, ◌&&◌, ◌||◌, ◌+◌, if◌then◌else◌}
use Rattle.std.specs.Prelude.{List, [], ◌∷◌, filter, map, int_le, is_some}
use Rattle.std.specs.Cmp.Lexicographic.{slice_cmp}
use Rattle.std.specs.List.{list_any}
use Rattle.std.specs.Ordering.{bool_cmp, int_cmp, int_eq, nat_cmp, ordering_then}
use Rattle.std.specs.Str.{bytes_eq}
use Rattle.std.specs.declared.cmp.Ordering.{Ordering}
use Rattle.wq_base.specs.Byte.{is_slash}
use Rattle.wq_base.specs.Directory.{rest_below}
use Rattle.wq_base.specs.declared.compare.Case.TheVariants.{Exact}
use Rattle.wq_term.specs.declared.generators.PathGen.{PathGen}

-- whether a depth is without limit
abbrev pub is_unlimited : ℤ → Bool
is_unlimited depth = int_eq depth (negsuc 0)

-- whether a depth reaches as far as another one
abbrev pub reaches : ℤ → ℤ → Bool
reaches depth other = is_unlimited depth || (not (is_unlimited other) && int_le other depth)

-- whether a path holds another one: it is the same and reaches as far, or it is without limit and
-- the other one is below it
abbrev pub holds : PathGen → PathGen → Bool
holds p q =
    (bytes_eq p.path q.path && reaches p.depth q.depth)
    || (is_unlimited p.depth && is_some (rest_below Exact p.path q.path))

-- whether another one of these paths holds a path, and is not held by it
abbrev pub is_held : List PathGen → PathGen → Bool
is_held paths p = list_any (λ q. holds q p && not (holds p q)) paths

-- the paths of a list, each once
abbrev pub once : List PathGen → List PathGen
once [] = []
once (p ∷ ps) = if list_any (λ q. holds q p && holds p q) ps then once ps else p ∷ once ps

-- the paths of a list that no other one of it holds, each once
abbrev pub outer : List PathGen → List PathGen
outer paths = filter (λ p. not (is_held paths p)) (once paths)

-- the rank of a byte: a slash comes before all others
abbrev pub rank : ℕ → ℕ
rank byte = if is_slash byte then 0 else byte + 1

-- the order of texts in which a slash comes before all other bytes
abbrev pub text_order : List ℕ → List ℕ → Ordering
text_order first second = slice_cmp nat_cmp (map rank first) (map rank second)

-- the order of depths: that without limit comes first, and then the greater ones
abbrev pub depth_order : ℤ → ℤ → Ordering
depth_order first second =
    ordering_then (bool_cmp (not (is_unlimited first)) (not (is_unlimited second)))
    (int_cmp second first)

-- the order of paths: those below a path come directly after it
abbrev pub path_order : PathGen → PathGen → Ordering
path_order p q = ordering_then (text_order p.path q.path) (depth_order p.depth q.depth)

-- of paths in this order, those that the one kept last does not hold
abbrev pub kept_after : PathGen → List PathGen → List PathGen
kept_after last [] = []
kept_after last (p ∷ ps) = if holds last p then kept_after last ps else p ∷ kept_after p ps
