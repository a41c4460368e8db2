-- The records strictly below a directory, and how a name compares to the names below it. The source
-- is Watchman's documentation of the query key `path`.
use Rattle.std.specs.Prelude.{ℕ, Bool, is_some, List, [], ◌∷◌}
use Rattle.std.specs.Str.{byte}
use Rattle.std.specs.Ordering.{nat_cmp, ordering_then}
use Rattle.std.specs.declared.cmp.Ordering.{Ordering}
use Rattle.std.specs.declared.cmp.Ordering.TheVariants.{Less}
use Rattle.wq_base.specs.Directory.{rest_below}
use Rattle.wq_base.specs.declared.compare.Case.TheVariants.{Exact}
use Rattle.wq_record.specs.RecordData.{RecordData}

-- whether the name of the record is strictly below the directory; all names are below the empty one
abbrev pub is_below : List ℕ → RecordData → Bool
is_below dir r = is_some (rest_below Exact dir r.name)

-- how a name compares in byte order to the names that begin with the directory and a slash: before
-- them, one of them, or after them
abbrev pub order_below : List ℕ → List ℕ → Ordering
order_below [] [] = Less
order_below [] (b ∷ rest) = nat_cmp b (byte "/")
order_below (d ∷ dir) [] = Less
order_below (d ∷ dir) (b ∷ name) = ordering_then (nat_cmp b d) (order_below dir name)
