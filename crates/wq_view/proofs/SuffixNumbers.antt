-- The numbers of suffixes, and the search by them.
use Rattle.std.proofs.Common.{◌≡◌, ℕ, ◌+◌, ◌<◌, ◌≤◌, ◌⊎◌, inl, inr, true, List, [], ◌∷◌, ◌++◌, length, get_or, sym, ap, subst, ◌∙◌, arith, length-append}
use Rattle.std.specs.Str.{bytes_eq, str_to_ascii_lowercase}
use Rattle.std.proofs.Math.Seq.{get_or-append_seam}
use Rattle.std.proofs.lemmas.Bool.{cases_lt}
use Rattle.std.proofs.lemmas.List.{get_or-map, get_or_append_left, length-map}
use Rattle.std.proofs.lemmas.Slice.Eq.{bytes_eq-Decides}
use Rattle.wq_base.specs.Name.{suffix_of}
use Rattle.wq_view.specs.declared.suffix.First.{First}
use Rattle.wq_record.specs.RecordData.{RecordData}
use Rattle.wq_view.specs.Suffix.{ArePlaces, IsNumber, IsNumberFor, first_places, folded_suffix, folded_suffixes, suffix_at}

-- the suffix of the record at a place
pub suffix_there : (rs : List RecordData) (at : ℕ) (r : RecordData) → at < length rs → r ≡ get_or rs at r → get_or (folded_suffixes rs) at [] ≡ folded_suffix r
suffix_there rs at r low is = get_or-map folded_suffix rs at r [] low ∙ ap folded_suffix (sym is)

-- the place of a first record
pub place_is : (firsts : List First) (k : ℕ) (d : First) → k < length firsts → get_or (first_places firsts) k 0 ≡ (get_or firsts k d).at
place_is firsts k d low = get_or-map (λ f. f.at) firsts k d 0 low

pub place_in : (count : ℕ) (firsts : List First) (k : ℕ) (d : First) → ArePlaces count (first_places firsts) → k < length firsts → (get_or firsts k d).at < count
place_in count firsts k d fits low = omega (arith, place_is firsts k d low, fits.inside k (omega (arith, low, length-map firsts (λ f. f.at))))

-- a suffix with a number, letter case apart
pub found_number : (rs : List RecordData) (firsts : List First) (k : ℕ) (d : First) (r : RecordData) (suffix : List ℕ) → ArePlaces (length rs) (first_places firsts) → k < length firsts → r ≡ get_or rs (get_or firsts k d).at r → bytes_eq (str_to_ascii_lowercase (suffix_of r.name)) (str_to_ascii_lowercase suffix) ≡ true → suffix_at (folded_suffixes rs) (first_places firsts) k ≡ str_to_ascii_lowercase suffix
found_number rs firsts k d r suffix fits low is same =
    ap (λ at. get_or (folded_suffixes rs) at []) (place_is firsts k d low) ∙ suffix_there rs (get_or firsts k d).at r (place_in (length rs) firsts k d fits low) is ∙ (bytes_eq-Decides (str_to_ascii_lowercase (suffix_of r.name)) (str_to_ascii_lowercase suffix)).0 same

-- the numbers so far are right with one place more
pub still_right : (suffixes : List (List ℕ)) (old new : List ℕ) (at number : ℕ) (suffix : List ℕ) → (new ≡ old) ⊎ (new ≡ old ++ at ∷ []) → ArePlaces (length suffixes) new → IsNumber suffixes old number suffix → IsNumber suffixes new number suffix
still_right suffixes old new at number suffix (inl same) fits right = subst (λ l. IsNumber suffixes l number suffix) (sym same) right
still_right suffixes old new at number suffix (inr grown) fits (inl there) =
    subst (λ l. IsNumber suffixes l number suffix) (sym grown) (inl (omega (arith, there.0, length-append old (at ∷ [])), ap (λ k. get_or suffixes k []) (get_or_append_left old (at ∷ []) 0 number there.0) ∙ there.1))
still_right suffixes old new at number suffix (inr grown) fits (inr full) =
    absurd (omega (arith, full.0, ap length grown, length-append old (at ∷ []), fits.few))

-- the numbers of the suffixes up to a place
abbrev pub AreNumbers : List (List ℕ) → List ℕ → List ℕ → ℕ → Type 0
AreNumbers suffixes places numbers count =
    (i : ℕ) → i < count → IsNumber suffixes places (get_or numbers i 0) (get_or suffixes i [])

-- one number more
pub one_more_number : (suffixes : List (List ℕ)) (old new numbers now : List ℕ) (at number : ℕ) → length numbers ≡ at → AreNumbers suffixes old numbers at → IsNumberFor suffixes at old new number → now ≡ numbers ++ number ∷ [] → AreNumbers suffixes new now (at + 1)
one_more_number suffixes old new numbers now at number count right next is i low = by (cases_lt i at)
  where
    by : (i < at) ⊎ (at ≤ i) → IsNumber suffixes new (get_or now i 0) (get_or suffixes i [])
    by (inl before) =
        let same : get_or now i 0 ≡ get_or numbers i 0 = ap (λ l. get_or l i 0) is ∙ get_or_append_left numbers (number ∷ []) 0 i (omega (arith, before, count)) in
        subst (λ n. IsNumber suffixes new n (get_or suffixes i [])) (sym same) (still_right suffixes old new at (get_or numbers i 0) (get_or suffixes i []) next.grown next.fits (right i before))
    by (inr after) =
        let last : i ≡ at = omega (arith, low, after) in
        let place : i ≡ length numbers = omega (arith, last, count) in
        let here : number ≡ get_or now i 0 = sym (ap (λ l. get_or l i 0) is ∙ ap (λ n. get_or (numbers ++ number ∷ []) n 0) place ∙ get_or-append_seam numbers number [] 0) in
        subst (λ n. IsNumber suffixes new n (get_or suffixes i [])) here (subst (λ k. IsNumber suffixes new number (get_or suffixes k [])) (sym last) next.right)

-- no suffix has a number at first
pub no_places : (count : ℕ) (firsts : List First) → firsts ≡ [] → ArePlaces count (first_places firsts)
no_places count firsts none =
    let empty : length (first_places firsts) ≡ 0 = ap (λ l. length (first_places l)) none in
    record {
      few = omega (arith, empty);
      inside = λ k low. absurd (omega (arith, low, empty));
    }
