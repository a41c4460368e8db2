-- The files with one of some suffixes, and the looks that they take.
use Rattle.std.proofs.Common.{◌≡◌, ◌≤◌, ◌<◌, ◌+◌, ℕ, Bool, true, false, cond, ◌||◌, ◌==◌, List, [], ◌∷◌, length, count_by, sum_by, refl, sym, ap, ◌∙◌, arith}
use mathlib.Core.Bool.{false≢true}
use Rattle.std.specs.List.Sorted.{IsPermutation}
use Rattle.std.proofs.lemmas.List.Sorted.{list_any-IsPermutation}
use Rattle.std.proofs.lemmas.List.Sums.{sum_by-cons}
use Rattle.wq_record.specs.RecordData.{RecordData}
use Rattle.wq_view.specs.Position.{positions_of}
use Rattle.wq_view.specs.Suffix.{has_suffix}
use Rattle.wq_gen.specs.Candidate.{suffix_is_among}
use Rattle.wq_gen.specs.Counted.{text_looks}
use Rattle.wq_gen.proofs.Positions.{none_given, positions_alike}
use Rattle.wq_gen.proofs.SinceTick.{count_positions}

-- no text is no suffix
pub no_texts : (texts : List (List ℕ)) (rs : List RecordData) → length texts < 1 → [] ≡ positions_of (suffix_is_among texts) rs
no_texts [] rs low = none_given (suffix_is_among []) rs (λ r. refl)
no_texts (t ∷ texts) rs low = absurd (omega (arith, low))

-- a list that is not empty has a text
pub some_texts : (texts : List (List ℕ)) → (length texts == 0) ≡ false → 1 ≤ length texts
some_texts [] e = absurd (false≢true (sym e))
some_texts (t ∷ texts) e = omega arith

-- texts in another order are the suffixes of the same files
pub moved_alike : (texts sorted : List (List ℕ)) (rs : List RecordData) → IsPermutation texts sorted → positions_of (suffix_is_among sorted) rs ≡ positions_of (suffix_is_among texts) rs
moved_alike texts sorted rs moved = positions_alike _ _ (λ r. sym (list_any-IsPermutation (λ text. has_suffix text r) texts sorted moved)) rs

pub moved_count : (texts sorted : List (List ℕ)) (rs : List RecordData) → IsPermutation texts sorted → count_by (suffix_is_among sorted) rs ≡ count_by (suffix_is_among texts) rs
moved_count texts sorted rs moved =
    sym (count_positions (suffix_is_among sorted) rs) ∙ ap length (moved_alike texts sorted rs moved) ∙ count_positions (suffix_is_among texts) rs

count_either : (p q : RecordData → Bool) (rs : List RecordData) → count_by (λ r. p r || q r) rs ≤ count_by p rs + count_by q rs
count_either p q [] = omega arith
count_either p q (r ∷ rs) =
    let both : count_by (λ r. p r || q r) (r ∷ rs) ≡ cond (p r || q r) 1 0 + count_by (λ r. p r || q r) rs = sum_by-cons (λ r. cond (p r || q r) 1 0) r rs in
    let first : count_by p (r ∷ rs) ≡ cond (p r) 1 0 + count_by p rs = sum_by-cons (λ r. cond (p r) 1 0) r rs in
    let second : count_by q (r ∷ rs) ≡ cond (q r) 1 0 + count_by q rs = sum_by-cons (λ r. cond (q r) 1 0) r rs in
    omega (arith, both, first, second, at (p r) (q r), count_either p q rs)
  where
    at : (b c : Bool) → cond (b || c) 1 0 ≤ cond b 1 0 + cond c 1 0
    at true true = omega arith
    at true false = omega arith
    at false c = omega arith

no_count : (rs : List RecordData) → count_by (suffix_is_among []) rs ≡ 0
no_count [] = refl
no_count (r ∷ rs) =
    let one : count_by (suffix_is_among []) (r ∷ rs) ≡ 0 + count_by (suffix_is_among []) rs = sum_by-cons (λ r. cond (suffix_is_among [] r) 1 0) r rs in
    omega (arith, one, no_count rs)

any_count : (texts : List (List ℕ)) (rs : List RecordData) → count_by (suffix_is_among texts) rs ≤ sum_by (text_looks rs) texts
any_count [] rs = omega (arith, no_count rs)
any_count (t ∷ texts) rs =
    let all : sum_by (text_looks rs) (t ∷ texts) ≡ text_looks rs t + sum_by (text_looks rs) texts = sum_by-cons (text_looks rs) t texts in
    omega (arith, all, count_either (has_suffix t) (suffix_is_among texts) rs, any_count texts rs)

-- the files with one of many suffixes are no more than the looks that each suffix may take
pub any_few : (texts : List (List ℕ)) (rs : List RecordData) → 1 ≤ length texts → count_by (suffix_is_among texts) rs + 1 ≤ sum_by (text_looks rs) texts
any_few [] rs some = absurd (omega (arith, some))
any_few (t ∷ texts) rs some =
    let all : sum_by (text_looks rs) (t ∷ texts) ≡ text_looks rs t + sum_by (text_looks rs) texts = sum_by-cons (text_looks rs) t texts in
    omega (arith, all, count_either (has_suffix t) (suffix_is_among texts) rs, any_count texts rs)

-- each position took one look, and that there is no other took one
pub found_few : (test : RecordData → Bool) (rs : List RecordData) (old now : ℕ) → now ≤ old + (length (positions_of test rs) + 1) → now ≤ old + (count_by test rs + 1)
found_few test rs old now few = omega (arith, few, count_positions test rs)
