-- The rows of records that a listing finds as they are.
use Rattle.std.proofs.Common.{◌≡◌, ◌+◌, ◌≤◌, ℕ, zero, suc, true, false, cond, List, [], ◌∷◌, ◌++◌, map, filter, take, drop, length, sym, refl, ap, ◌∙◌, arith}
use Rattle.std.proofs.Math.Numerals.{add-one}
use Rattle.std.proofs.Math.Seq.{take-add}
use Rattle.std.proofs.lemmas.List.{map-append, take_all, length-drop, length-take}
use Rattle.std.proofs.lemmas.List.Elements.{filter-append}
use Rattle.wq_record.specs.RecordData.{RecordData}
use Rattle.wq_view.specs.SeenRows.{seen_row, seen_rows}

-- the rows of two runs
pub seen-append : (front back : List RecordData) → seen_rows (front ++ back) ≡ seen_rows front ++ seen_rows back
seen-append front back = ap (map seen_row) (filter-append (λ (r : RecordData). r.exists) front back) ∙ map-append seen_row (filter (λ r. r.exists) front) (filter (λ r. r.exists) back)

-- the rows of the first records, and of some after them
pub seen_later : (records : List RecordData) (passed count : ℕ) → seen_rows (take (passed + count) records) ≡ seen_rows (take passed records) ++ seen_rows (take count (drop passed records))
seen_later records passed count = ap seen_rows (take-add passed count records) ∙ seen-append (take passed records) (take count (drop passed records))

-- the next record
taken_one : (records : List RecordData) (passed : ℕ) (r : RecordData) (rest : List RecordData) → drop passed records ≡ r ∷ rest → take (passed + 1) records ≡ take passed records ++ (r ∷ [])
taken_one records passed r rest e = take-add passed 1 records ∙ ap (λ xs. take passed records ++ take 1 xs) e

pub dropped_one : (records left : List RecordData) (passed : ℕ) (r : RecordData) (rest : List RecordData) → left ≡ drop passed records → left ≡ r ∷ rest → rest ≡ drop (passed + 1) records
dropped_one records left passed r rest here e = at records passed (sym here ∙ e) ∙ ap (λ n. drop n records) (sym (add-one passed))
  where
    at : (records : List RecordData) (passed : ℕ) → drop passed records ≡ r ∷ rest → rest ≡ drop (suc passed) records
    at [] zero e = absurd (cc)
    at [] (suc passed) e = absurd (cc)
    at (x ∷ records) zero e = cc
    at (x ∷ records) (suc passed) e = at records passed e

-- the rows up to the next record, if its file exists
pub seen_next : (records left : List RecordData) (passed : ℕ) (r : RecordData) (rest : List RecordData) → left ≡ drop passed records → left ≡ r ∷ rest → r.exists ≡ true → seen_rows (take (passed + 1) records) ≡ seen_rows (take passed records) ++ (seen_row r ∷ [])
seen_next records left passed r rest here e there =
    let one : seen_rows (r ∷ []) ≡ seen_row r ∷ [] = rw there refl in
    ap seen_rows (taken_one records passed r rest (sym here ∙ e)) ∙ seen-append (take passed records) (r ∷ []) ∙ ap (λ row. seen_rows (take passed records) ++ row) one

-- the same if it does not
pub gone_next : (records left : List RecordData) (passed : ℕ) (r : RecordData) (rest : List RecordData) → left ≡ drop passed records → left ≡ r ∷ rest → r.exists ≡ false → seen_rows (take (passed + 1) records) ≡ seen_rows (take passed records) ++ []
gone_next records left passed r rest here e gone =
    let none : seen_rows (r ∷ []) ≡ [] = rw gone refl in
    ap seen_rows (taken_one records passed r rest (sym here ∙ e)) ∙ seen-append (take passed records) (r ∷ []) ∙ ap (λ row. seen_rows (take passed records) ++ row) none

-- no record is left
pub none_next : (records left : List RecordData) (passed most : ℕ) → left ≡ drop passed records → left ≡ [] → passed ≤ most → take most records ≡ take passed records
none_next records left passed most here none bound =
    let short : length records ≤ passed = omega (arith, length-drop passed records, ap length (sym here ∙ none)) in
    take_all most records (omega (arith, short, bound)) ∙ sym (take_all passed records short)

-- there are at most as many rows as records
pub few_seen : (records : List RecordData) → length (seen_rows records) ≤ length records
few_seen [] = omega arith
few_seen (r ∷ records) =
    let rest = few_seen records in
    elim r.exists as (λ b. length (map seen_row (cond b (r ∷ filter (λ r. r.exists) records) (filter (λ r. r.exists) records))) ≤ suc (length records)) [ true ↦ omega (arith, rest) | false ↦ omega (arith, rest) ]

pub few_taken : (records : List RecordData) (passed : ℕ) → length (seen_rows (take passed records)) ≤ passed
few_taken records passed = omega (arith, few_seen (take passed records), length-take passed records)
