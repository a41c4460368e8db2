-- The records at positions.
use Rattle.std.proofs.Common.{◌≡◌, ◌<◌, ◌≤◌, ℕ, zero, suc, ◌+◌, All, Bool, true, false, cond, List, [], ◌∷◌, length, filter, slice_get, Option, Some, None, refl, ap, ◌∙◌, add-one, arith}
use Rattle.std.specs.List.{AllByRecursion, filter_map, cons_option, range_with_len}
use Rattle.std.proofs.lemmas.List.Elements.{All-filter, All-from_recursion}
use Rattle.std.proofs.lemmas.List.FromFn.{length-range_with_len}
use Rattle.std.proofs.lemmas.List.Sums.{length-filter, count_by-le-length}
use Rattle.wq_record.specs.RecordData.{RecordData}
use Rattle.wq_view.specs.Position.{passes_at, all_positions, records_at, PositionsFilter, KeptPositionsFilter, PositionsAreThere}

-- the records at kept positions are the kept records
pub kept_positions_filter : KeptPositionsFilter
kept_positions_filter test records [] = refl
kept_positions_filter test records (i ∷ is) = at (slice_get records i) refl (kept_positions_filter test records is)
  where
    at : (found : Option RecordData) → slice_get records i ≡ found → records_at records (filter (passes_at test records) is) ≡ filter test (records_at records is) → records_at records (filter (passes_at test records) (i ∷ is)) ≡ filter test (records_at records (i ∷ is))
    at None e h = rw e h
    at (Some r) e h = rw e (by (test r))
      where
        by : (b : Bool) → records_at records (cond b (i ∷ filter (passes_at test records) is) (filter (passes_at test records) is)) ≡ cond b (r ∷ filter test (records_at records is)) (filter test (records_at records is))
        by true = rw e (ap (λ rs. r ∷ rs) h)
        by false = h

next : (r : RecordData) (rs : List RecordData) (i : ℕ) → slice_get (r ∷ rs) (i + 1) ≡ slice_get rs i
next r rs i = ap (slice_get (r ∷ rs)) (add-one i)

-- after a first record each position is higher by one
shifted : (r : RecordData) (rs : List RecordData) (at n : ℕ) → filter_map (slice_get (r ∷ rs)) (range_with_len (at + 1) n) ≡ filter_map (slice_get rs) (range_with_len at n)
shifted r rs at zero = refl
shifted r rs at (suc n) =
    rw (next r rs at) (ap (cons_option (slice_get rs at)) (shifted r rs (at + 1) n))

-- the records at all positions are all records
all_are_there : (rs : List RecordData) → records_at rs (all_positions rs) ≡ rs
all_are_there [] = refl
all_are_there (r ∷ rs) = ap (λ rest. r ∷ rest) (shifted r rs 0 (length rs) ∙ all_are_there rs)

-- the records at the positions of those that pass a test are the records that pass it
pub positions_filter : PositionsFilter
positions_filter test records =
    kept_positions_filter test records (all_positions records) ∙ ap (filter test) (all_are_there records)

-- the numbers of a range are below its end
below_end : (at n end : ℕ) → at + n ≤ end → AllByRecursion (λ i. i < end) (range_with_len at n)
below_end at zero end fits = tt
below_end at (suc n) end fits = (omega (arith, fits), below_end (at + 1) n end (omega (arith, fits)))

-- the positions of records are positions, and at most as many as the records
pub positions_are_there : PositionsAreThere
positions_are_there test records =
    let n = length records in
    let all : All (λ i. i < n) (all_positions records) = All-from_recursion (λ i. i < n) (all_positions records) (below_end 0 n n (omega arith)) in (
      All-filter (passes_at test records) (λ i. i < n) (all_positions records) all,
      rw (length-filter (passes_at test records) (all_positions records)) (omega (arith, count_by-le-length (passes_at test records) (all_positions records), length-range_with_len 0 n)),
    )
