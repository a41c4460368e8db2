-- The positions of the files at a path.
use Rattle.std.proofs.Common.{◌≡◌, ℕ, ◌+◌, ◌<◌, ◌≤◌, Bool, true, false, cond, ◌&&◌, ◌||◌, ◌==◌, nat_le, nat_lt, is_some, List, [], ◌∷◌, ◌++◌, length, map, sum_by, filter, slice_get, Option, Some, None, refl, ap, sym, ◌∙◌, get_or, arith}
use Rattle.std.specs.List.{range_with_len}
use Rattle.std.specs.Option.{option_map_or}
use Rattle.std.proofs.lemmas.Bool.{and_left, and_right, lt-leb, le-ltb, ne_eqb}
use Rattle.std.proofs.lemmas.List.Folds.{list_any-append}
use Rattle.std.proofs.lemmas.List.{map-append}
use Rattle.std.proofs.lemmas.List.Sums.{sum_by-cons}
use mathlib.Core.Bool.{true≢false}
use Rattle.wq_base.specs.Directory.{rest_below}
use Rattle.wq_base.specs.declared.compare.Case.TheVariants.{Exact}
use Rattle.wq_view.specs.Below.{is_below}
use Rattle.wq_record.specs.RecordData.{RecordData}
use Rattle.wq_view.specs.Position.{has_name, passes_at, positions_of}
use Rattle.wq_term.specs.declared.generators.PathGen.{PathGen}
use Rattle.wq_gen.specs.Candidate.{is_itself, is_on_path, is_under}
use Rattle.wq_gen.proofs.Positions.{none_before, none_behind, none_given, none_passes, one_alone, positions_alike}

-- a record of another name is not the path itself
other_name : (p : PathGen) (rs : List RecordData) (i : ℕ) → passes_at (has_name p.path) rs i ≡ false → passes_at (is_itself p) rs i ≡ false
other_name p rs i = at (slice_get rs i)
  where
    at : (found : Option RecordData) → option_map_or (has_name p.path) found false ≡ false → option_map_or (is_itself p) found false ≡ false
    at None e = refl
    at (Some r) e = and_left _ _ e

-- a record that is not below the path is not below it to a depth
not_below : (p : PathGen) (rs : List RecordData) (i : ℕ) → passes_at (is_below p.path) rs i ≡ false → passes_at (is_under p) rs i ≡ false
not_below p rs i = at (slice_get rs i)
  where
    by : (f : List ℕ → Bool) (rest : Option (List ℕ)) → is_some rest ≡ false → option_map_or f rest false ≡ false
    by f None e = refl
    by f (Some rest) e = absurd (true≢false e)

    at : (found : Option RecordData) → option_map_or (is_below p.path) found false ≡ false → option_map_or (is_under p) found false ≡ false
    at None e = refl
    at (Some r) e = by _ (rest_below Exact p.path r.name) e

-- no record has the name
pub itself_none : (p : PathGen) (rs : List RecordData) → ((i : ℕ) → passes_at (has_name p.path) rs i ≡ false) → [] ≡ positions_of (is_itself p) rs
itself_none p rs none = none_passes (is_itself p) rs (λ i. other_name p rs i (none i))

-- one record has it
pub itself_one : (p : PathGen) (rs : List RecordData) (i : ℕ) (r : RecordData) (is_kept : Bool) (found : List ℕ) → i < length rs → ((j : ℕ) → passes_at (has_name p.path) rs j ≡ (j == i)) → slice_get rs i ≡ Some r → is_kept ≡ is_itself p r → found ≡ cond is_kept (i ∷ []) [] → found ≡ positions_of (is_itself p) rs
itself_one p rs i r is_kept found low only here kept is =
    let at_i : passes_at (is_itself p) rs i ≡ is_itself p r = ap (λ o. option_map_or (is_itself p) o false) here in
    is ∙ ap (λ b. cond b (i ∷ []) []) (kept ∙ sym at_i) ∙ sym (one_alone (passes_at (is_itself p) rs) (length rs) i low (λ k apart. other_name p rs k (only k ∙ ne_eqb k i apart)))

-- no record before the range of those below the path is below it
pub under_begins : (p : PathGen) (rs : List RecordData) (start end : ℕ) → ((i : ℕ) → passes_at (is_below p.path) rs i ≡ (nat_le start i && nat_lt i end)) → [] ≡ filter (passes_at (is_under p) rs) (range_with_len 0 start)
under_begins p rs start end exact =
    sym (none_before (passes_at (is_under p) rs) start (λ k low. not_below p rs k (exact k ∙ and_left (nat_le start k) (nat_lt k end) (lt-leb start k low))))

-- no record after that range is below the path
pub under_ends : (p : PathGen) (rs : List RecordData) (start end : ℕ) → end ≤ length rs → ((i : ℕ) → passes_at (is_below p.path) rs i ≡ (nat_le start i && nat_lt i end)) → filter (passes_at (is_under p) rs) (range_with_len 0 end) ≡ positions_of (is_under p) rs
under_ends p rs start end fits exact =
    sym (none_behind (passes_at (is_under p) rs) end (length rs) fits (λ k high. not_below p rs k (exact k ∙ and_right (nat_le start k) (nat_lt k end) (le-ltb k end high))))

-- a list of one path
pub one_path : (p : PathGen) (rs : List RecordData) → positions_of (λ r. is_itself p r || is_under p r) rs ≡ positions_of (is_on_path (p ∷ [])) rs
one_path p rs = positions_alike _ _ (λ r. at (is_itself p r || is_under p r)) rs
  where
    at : (b : Bool) → b ≡ (b || false)
    at true = refl
    at false = refl

-- the paths of two lists
pub both_paths : (ps qs : List PathGen) (rs : List RecordData) → positions_of (λ r. is_on_path ps r || is_on_path qs r) rs ≡ positions_of (is_on_path (ps ++ qs)) rs
both_paths ps qs rs = positions_alike _ _ (λ r. sym (list_any-append (λ p. is_itself p r || is_under p r) ps qs)) rs

-- no paths give no positions
pub no_paths : (ps : List PathGen) (rs : List RecordData) → length ps < 1 → [] ≡ positions_of (is_on_path ps) rs
no_paths [] rs low = none_given _ rs (λ r. refl)
no_paths (p ∷ ps) rs low = absurd (omega (arith, low))

-- a list of one path gives the positions of the files at that path
pub only_path : (ps : List PathGen) (p : PathGen) (rs : List RecordData) → 1 ≤ length ps → length ps < 2 → p ≡ get_or ps 0 p → positions_of (λ r. is_itself p r || is_under p r) rs ≡ positions_of (is_on_path ps) rs
only_path [] p rs low high is = absurd (omega (arith, low))
only_path (q ∷ []) p rs low high is = one_path p rs ∙ ap (λ x. positions_of (is_on_path (x ∷ [])) rs) is
only_path (q ∷ q' ∷ ps) p rs low high is = absurd (omega (arith, high))

-- the same for lists that have the paths
module _ {A : Type 0} (f : A → PathGen) where
  pub no_paths_of : (ps : List A) (rs : List RecordData) → length ps < 1 → [] ≡ positions_of (is_on_path (map f ps)) rs
  no_paths_of [] rs low = no_paths [] rs low
  no_paths_of (p ∷ ps) rs low = absurd (omega (arith, low))

  pub only_path_of : (ps : List A) (p : A) (rs : List RecordData) → 1 ≤ length ps → length ps < 2 → p ≡ get_or ps 0 p → positions_of (λ r. is_itself (f p) r || is_under (f p) r) rs ≡ positions_of (is_on_path (map f ps)) rs
  only_path_of [] p rs low high is = absurd (omega (arith, low))
  only_path_of (q ∷ []) p rs low high is = only_path (f q ∷ []) (f p) rs low high (ap f is)
  only_path_of (q ∷ q' ∷ ps) p rs low high is = absurd (omega (arith, high))

  pub both_paths_of : (ps qs : List A) (rs : List RecordData) → positions_of (λ r. is_on_path (map f ps) r || is_on_path (map f qs) r) rs ≡ positions_of (is_on_path (map f (ps ++ qs))) rs
  both_paths_of ps qs rs = both_paths (map f ps) (map f qs) rs ∙ ap (λ l. positions_of (is_on_path l) rs) (sym (map-append f ps qs))

  module _ (cost : PathGen → ℕ) where
    pub one_sum_of : (ps : List A) (p : A) → 1 ≤ length ps → length ps < 2 → p ≡ get_or ps 0 p → cost (f p) ≡ sum_by cost (map f ps)
    one_sum_of [] p low high is = absurd (omega (arith, low))
    one_sum_of (q ∷ []) p low high is =
        let one : sum_by cost (f q ∷ []) ≡ cost (f q) + sum_by cost [] = sum_by-cons cost (f q) [] in
        ap (λ x. cost (f x)) is ∙ omega (arith, one)
    one_sum_of (q ∷ q' ∷ ps) p low high is = absurd (omega (arith, high))
