-- Places in the order of their heads and names: if a place is left out beside one of its name, each name stays once.
use Rattle.std.proofs.Common.{◌≡◌, ◌+◌, ℕ, suc, Bool, true, false, not, List, [], ◌∷◌, All, get_or, bytes_eq, refl, ap, sym, subst, ◌∙◌, map, arith}
use mathlib.Core.Bool.{false≢true, true≢false}
use Rattle.std.specs.Cmp.{IsTotalOrder, then_total}
use Rattle.std.specs.Cmp.Lexicographic.{nat_list_cmp_total, texts_ties}
use Rattle.std.specs.List.{AllByRecursion, Contains, IsDistinct}
use Rattle.std.specs.List.Retain.{DedupsAll, DedupsFrom, IsDeduped}
use Rattle.std.specs.List.Sorted.{IsSortedBy}
use Rattle.std.specs.Ordering.{is_eq, is_lt, nat_cmp, ordering_reverse, ordering_then}
use Rattle.std.specs.declared.cmp.Ordering.{Ordering}
use Rattle.std.specs.declared.cmp.Ordering.TheVariants.{Less, Equal, Greater}
use Rattle.std.proofs.lemmas.Cmp.{nat_cmp_total, on_total}
use Rattle.std.proofs.lemmas.List.Elements.{All-cons, All-head, All-nil, All-tail, Contains-append_right, Contains-get_or}
use Rattle.std.proofs.lemmas.Slice.Eq.{bytes_eq-Decides}
use Rattle.std.proofs.lemmas.Bool.{not-true}
use Rattle.wq_record.specs.Name.{name_cmp}
use Rattle.wq_disk.specs.declared.names.Place.{Place}
use Rattle.wq_disk.specs.Entries.{AreDistinct}
use Rattle.wq_disk.specs.Names.{HaveHeads, name_head, name_at, names_at, place_cmp}

-- the head and the name of a place
abbrev Key : Type 0
Key = ℕ × List ℕ

abbrev key_cmp : Key → Key → Ordering
key_cmp a b = ordering_then (nat_cmp a.0 b.0) (name_cmp a.1 b.1)

pub keys_total : IsTotalOrder key_cmp
keys_total = then_total (on_total (λ (k : Key). k.0) nat_cmp_total) (on_total (λ (k : Key). k.1) nat_list_cmp_total)

abbrev pub key_at : List ℕ → Place → Key
key_at bytes place = (place.head, name_at bytes place)

-- whether a place comes before another one in falling order
abbrev pub is_above : List ℕ → Place → Place → Bool
is_above bytes a b = is_lt (place_cmp bytes b a)

-- the number after the next one
next : (i : ℕ) → suc i + 1 ≡ suc (i + 1)
next i = omega arith

-- places of which none is below the next one
abbrev Falls : List ℕ → Place → List Place → Type 0
Falls bytes k [] = Unit {0}
Falls bytes k (x ∷ xs) = (is_lt (place_cmp bytes k x) ≡ false) × Falls bytes x xs

falls : (bytes : List ℕ) (k : Place) (xs : List Place) → IsSortedBy (is_above bytes) (k ∷ xs) → Falls bytes k xs
falls bytes k [] sorted = tt
falls bytes k (x ∷ xs) sorted =
    (sorted 0 k (omega arith) (omega arith), falls bytes x xs later)
  where
    later : IsSortedBy (is_above bytes) (x ∷ xs)
    later i d low high =
        subst (λ n. is_above bytes (get_or (k ∷ x ∷ xs) n d) (get_or (x ∷ xs) i d) ≡ false) (next i) (sorted (suc i) d (omega arith) (omega arith))

-- a comparison that is neither less nor greater is equal
neither : (o : Ordering) → is_lt o ≡ false → is_lt (ordering_reverse o) ≡ false → o ≡ Equal
neither Less a b = absurd (true≢false a)
neither Equal a b = refl
neither Greater a b = absurd (true≢false b)

-- names that are equal in the order of keys are the same
second_equal : (a b : Ordering) → ordering_then a b ≡ Equal → b ≡ Equal
second_equal Less b e = absurd (true≢false (ap is_lt e))
second_equal Equal b e = e
second_equal Greater Less e = absurd (false≢true (ap is_eq e))
second_equal Greater Equal e = refl
second_equal Greater Greater e = absurd (false≢true (ap is_eq e))

same_name : (n m : List ℕ) → name_cmp n m ≡ Equal → n ≡ m
same_name n m e = (bytes_eq-Decides n m).0 (texts_ties n m ∙ ap is_eq e)

-- a place that is left out beside another one ties with it, and so has its name
ties : (bytes : List ℕ) (k x : Place) → is_lt (place_cmp bytes k x) ≡ false → is_lt (place_cmp bytes x k) ≡ false → place_cmp bytes x k ≡ Equal
ties bytes k x a b = neither (place_cmp bytes x k) b (sym (ap is_lt (keys_total.antisymm (key_at bytes k) (key_at bytes x))) ∙ a)

tied_name : (bytes : List ℕ) (k x : Place) → place_cmp bytes x k ≡ Equal → name_at bytes x ≡ name_at bytes k
tied_name bytes k x equal =
    same_name (name_at bytes x) (name_at bytes k) (second_equal (nat_cmp x.head k.head) (name_cmp (name_at bytes x) (name_at bytes k)) equal)

-- so what falls from it falls from the other one
tied_falls : (bytes : List ℕ) (k x : Place) (xs : List Place) → place_cmp bytes x k ≡ Equal → Falls bytes x xs → Falls bytes k xs
tied_falls bytes k x [] equal fall = tt
tied_falls bytes k x (y ∷ ys) equal (near, fall) =
    (sym (ap is_lt (keys_total.congr (key_at bytes x) (key_at bytes k) (key_at bytes y) equal)) ∙ near, fall)

-- what a list has, one with more has
more : (name first : List ℕ) (names : List (List ℕ)) → Contains names name → Contains (first ∷ names) name
more name first names has = Contains-append_right (first ∷ []) names name has

-- places that each come strictly after a place
abbrev AreBelow : List ℕ → Place → List Place → Type 0
AreBelow bytes k xs = AllByRecursion (λ x. place_cmp bytes x k ≡ Less) xs

abbrev Fall : List ℕ → List Place → Type 0
Fall bytes [] = Unit {0}
Fall bytes (x ∷ xs) = AreBelow bytes x xs × Fall bytes xs

below_more : (bytes : List ℕ) (a b : Place) → place_cmp bytes a b ≡ Less → (xs : List Place) → AreBelow bytes a xs → AreBelow bytes b xs
below_more bytes a b less [] all = tt
below_more bytes a b less (x ∷ xs) (one, all) =
    (keys_total.trans (key_at bytes x) (key_at bytes a) (key_at bytes b) one less, below_more bytes a b less xs all)

less_from : (o : Ordering) → not (is_lt o) ≡ false → o ≡ Less
less_from Less e = refl
less_from Equal e = absurd (true≢false e)
less_from Greater e = absurd (true≢false e)

-- less is not greater
less_greater : Less ≡ Greater → ⊥
less_greater is = false≢true (sym (ap is_lt is))

-- a place has the head of its name
abbrev HasHead : List ℕ → Place → Type 0
HasHead bytes place = place.head ≡ name_head (name_at bytes place)

-- places with one name have one key
apart : (bytes : List ℕ) (a b : Place) → a.head ≡ name_head (name_at bytes a) → b.head ≡ name_head (name_at bytes b)
    → place_cmp bytes b a ≡ Less → bytes_eq (name_at bytes a) (name_at bytes b) ≡ false
apart bytes a b ha hb less = at (bytes_eq (name_at bytes a) (name_at bytes b)) refl
  where
    at : (t : Bool) → bytes_eq (name_at bytes a) (name_at bytes b) ≡ t → t ≡ false
    at false is = refl
    at true is =
        let name = (bytes_eq-Decides (name_at bytes a) (name_at bytes b)).0 is in
        let head = ha ∙ ap name_head name ∙ sym hb in
        let same : key_at bytes a ≡ key_at bytes b = λ i. (head i, name i) in
        let itself : key_cmp (key_at bytes b) (key_at bytes b) ≡ Less = ap (λ k. key_cmp (key_at bytes b) k) (sym same) ∙ less in
        absurd (less_greater (sym itself ∙ keys_total.antisymm (key_at bytes b) (key_at bytes b) ∙ ap ordering_reverse itself))

pub fall_distinct : (bytes : List ℕ) (xs : List Place) → HaveHeads bytes xs → Fall bytes xs → AreDistinct (names_at bytes xs)
unfolding IsDistinct
fall_distinct bytes [] heads fall = tt
fall_distinct bytes (x ∷ xs) heads (below, fall) =
    (all xs (All-tail (HasHead bytes) x xs heads) below, fall_distinct bytes xs (All-tail (HasHead bytes) x xs heads) fall)
  where
    all : (ys : List Place) → HaveHeads bytes ys → AreBelow bytes x ys → AllByRecursion (λ n. bytes_eq (name_at bytes x) n ≡ false) (names_at bytes ys)
    all [] hs b = tt
    all (y ∷ ys) hs (one, b) =
        (apart bytes x y (All-head (HasHead bytes) x xs heads) (All-head (HasHead bytes) y ys hs) one, all ys (All-tail (HasHead bytes) y ys hs) b)

-- if a test leaves out exactly the places in falling order that are not below the place that was kept last, each name stays, and the places fall
pub each_once : {S : Type 0} (bytes : List ℕ) (Q : S → Type 0) (R : S → Place → Place → Bool → S → Place → Place → Type 0)
    → ((s : S) (x k : Place) (b : Bool) (t : S) (x' k' : Place) → Q s → R s x k b t x' k'
    → Q t × (x' ≡ x) × (k' ≡ k) × (b ≡ not (is_lt (place_cmp bytes x k))))
    → (s : S) (xs ys : List Place) → Q s → IsDeduped R s xs ys → IsSortedBy (is_above bytes) xs
    → All (Contains (names_at bytes ys)) (names_at bytes xs) × Fall bytes ys
each_once {S} bytes Q R step s xs ys q deduped sorted = whole xs deduped.told sorted
  where
    Has : List Place → List Place → Type 0
    Has ys xs = All (Contains (names_at bytes ys)) (names_at bytes xs)

    From : Place → List Place → List Place → Type 0
    From k xs ys = (rest : List Place) × (ys ≡ k ∷ rest) × AreBelow bytes k rest × Fall bytes rest × Has ys (k ∷ xs)

    head : (k : Place) (rest : List Place) → Contains (names_at bytes (k ∷ rest)) (name_at bytes k)
    head k rest = Contains-get_or (names_at bytes (k ∷ rest)) 0 (name_at bytes k) (omega arith)

    grown : (k : Place) (zs xs : List Place) → Has zs xs → Has (k ∷ zs) xs
    grown k zs xs all i d within = more _ (name_at bytes k) (names_at bytes zs) (all i d within)

    joined : (k x : Place) (xs ys : List Place) → name_at bytes x ≡ name_at bytes k → Has ys (k ∷ xs) → Has ys (k ∷ x ∷ xs)
    joined k x xs ys same all =
        let kept = All-head (Contains (names_at bytes ys)) (name_at bytes k) (names_at bytes xs) all in
        All-cons (Contains (names_at bytes ys)) (name_at bytes k) (names_at bytes (x ∷ xs)) kept
        (All-cons (Contains (names_at bytes ys)) (name_at bytes x) (names_at bytes xs) (subst (Contains (names_at bytes ys)) (sym same) kept)
        (All-tail (Contains (names_at bytes ys)) (name_at bytes k) (names_at bytes xs) all))

    from : (s : S) (k : Place) (xs ys : List Place) → Q s → DedupsFrom R s k xs ys → Falls bytes k xs → From k xs ys
    from s k [] ys q is fall =
        ([], is, tt, tt, subst (λ l. Has l (k ∷ [])) (sym is) (All-cons (Contains (names_at bytes (k ∷ []))) (name_at bytes k) [] (head k []) (All-nil (Contains (names_at bytes (k ∷ []))))))
    from s k (x ∷ xs) ys q (true, t, x', k', called, rest) (near, fall) =
        let told = step s x k true t x' k' q called in
        let equal = ties bytes k x near (not-true _ (sym told.3)) in
        let after = subst (λ j. DedupsFrom R t j xs ys) told.2 rest in
        let got = from t k xs ys told.0 after (tied_falls bytes k x xs equal fall) in
        (got.0, got.1, got.2, got.3, joined k x xs ys (tied_name bytes k x equal) got.4)
    from s k (x ∷ xs) ys q (false, t, x', k', called, (zs, rest, is)) (near, fall) =
        let told = step s x k false t x' k' q called in
        let after = subst (λ j. DedupsFrom R t j xs zs) told.1 rest in
        let got = from t x xs zs told.0 after fall in
        let less = less_from _ (sym told.3) in
        let ys_is : ys ≡ k ∷ zs = is ∙ ap (λ j. j ∷ zs) told.2 in (
          zs,
          ys_is,
          subst (AreBelow bytes k) (sym got.1) (less, below_more bytes x k less got.0 got.2),
          subst (Fall bytes) (sym got.1) (got.2, got.3),
          subst (λ l. Has l (k ∷ x ∷ xs)) (sym ys_is) (All-cons (Contains (names_at bytes (k ∷ zs))) (name_at bytes k) (names_at bytes (x ∷ xs)) (head k zs) (grown k zs (x ∷ xs) got.4)),
        )

    whole : (xs : List Place) → DedupsAll R s xs ys → IsSortedBy (is_above bytes) xs → Has ys xs × Fall bytes ys
    whole [] is sorted = (All-nil (Contains (names_at bytes ys)), subst (Fall bytes) (sym is) tt)
    whole (x ∷ xs) is sorted =
        let got = from s x xs ys q is (falls bytes x xs sorted) in
        (got.4, subst (Fall bytes) (sym got.1) (got.2, got.3))

-- what holds of the names at places holds of each place's name
pub unmapped : {X Y : Type 0} (f : X → Y) (P : Y → Type 0) (xs : List X) → All P (map f xs) → All (λ x. P (f x)) xs
unmapped f P [] all = All-nil (λ x. P (f x))
unmapped f P (x ∷ xs) all = All-cons (λ x. P (f x)) x xs (All-head P (f x) (map f xs) all) (unmapped f P xs (All-tail P (f x) (map f xs) all))
