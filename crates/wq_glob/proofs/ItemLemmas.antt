-- Reading the items of a class takes bytes off the text, so its length is enough for the number of steps.
use Rattle.std.proofs.Common.{◌≡◌, ℕ, zero, suc, ◌+◌, ◌-◌, ◌<◌, ◌≤◌, Bool, true, false, not, ◌&&◌, List, [], ◌∷◌, ◌++◌, length, take, drop, Option, Some, None, option_map, refl, sym, ◌∙◌, ap, subst, arith, append_assoc, append-nil, if◌then◌else◌, slice_index, nat_le, length-drop}
use Rattle.std.specs.Option.{option_or, option_and_then}
use Rattle.std.specs.List.{position}
use Rattle.std.proofs.lemmas.Bool.{false≢true}
use Rattle.wq_base.specs.Byte.{is_colon}
use Rattle.wq_glob.specs.Byte.{is_close, is_open, is_dash, is_escape}
use Rattle.wq_glob.specs.Reading.{begins, next, letter, item_named, named_item, range_end, item_from, plain_item, first_item, before_items, items_from, class_items}
use Rattle.wq_glob.specs.declared.class.Item.{Item}

-- reading leaves a shorter text
abbrev pub Shorter : {A : Type 0} → List ℕ → Option (A × List ℕ) → Type 0
Shorter text None = Unit {0}
Shorter text (Some r) = length r.1 < length text

next_shorter : (text : List ℕ) → Shorter text (next text)
next_shorter [] = tt
next_shorter (b ∷ bs) = omega arith

widen : {A : Type 0} (short long : List ℕ) (o : Option (A × List ℕ)) → length short ≤ length long → Shorter short o → Shorter long o
widen short long None h s = tt
widen short long (Some r) h s = omega arith

-- a letter takes at least one byte
pub letter_shorter : (noescape : Bool) (text : List ℕ) → Shorter text (letter noescape text)
letter_shorter noescape text = at (not noescape && begins is_escape text)
  where
    at : (b : Bool) → Shorter text (if b then next (drop 1 text) else next text)
    at true = widen (drop 1 text) text (next (drop 1 text)) (omega (arith, length-drop 1 text)) (next_shorter (drop 1 text))
    at false = next_shorter text

range_shorter : (noescape : Bool) (text : List ℕ) → Shorter text (range_end noescape text)
unfolding range_end
range_shorter noescape text = at (begins is_dash text && not (begins is_close (drop 1 text)))
  where
    at : (b : Bool) → Shorter text (if b then letter noescape (drop 1 text) else None)
    at true = widen (drop 1 text) text (letter noescape (drop 1 text)) (omega (arith, length-drop 1 text)) (letter_shorter noescape (drop 1 text))
    at false = tt

plain_shorter : (noescape : Bool) (text : List ℕ) → Shorter text (plain_item noescape text)
unfolding plain_item item_from
plain_shorter noescape text = from (letter noescape text) (letter_shorter noescape text)
  where
    ranged : (first : ℕ) (after : List ℕ) (end : Option (ℕ × List ℕ)) → length after < length text → Shorter after end → length (item_from first after end).1 < length text
    ranged first after None h s = h
    ranged first after (Some end) h s = omega arith

    from : (o : Option (ℕ × List ℕ)) → Shorter text o → Shorter text (option_map (λ x. item_from x.0 x.1 (range_end noescape x.1)) o)
    from None s = tt
    from (Some x) s = ranged x.0 x.1 (range_end noescape x.1) s (range_shorter noescape x.1)

-- reading leaves no longer text
abbrev pub NotLonger : {A : Type 0} → List ℕ → Option (A × List ℕ) → Type 0
NotLonger text None = Unit {0}
NotLonger text (Some r) = length r.1 ≤ length text

named_not_longer : (text : List ℕ) → NotLonger text (named_item text)
unfolding named_item
named_not_longer text = at (position is_close text)
  where
    within : (i : ℕ) (b : Bool) → NotLonger text (if b then Some (item_named (take (i - 1) text), drop (i + 1) text) else None)
    within i true = omega (arith, length-drop (i + 1) text)
    within i false = tt

    at : (o : Option ℕ) → NotLonger text (option_and_then (λ i. if nat_le 1 i && is_colon (slice_index text (i - 1)) then Some (item_named (take (i - 1) text), drop (i + 1) text) else None) o)
    at None = tt
    at (Some i) = within i (nat_le 1 i && is_colon (slice_index text (i - 1)))

begins_some : (test : ℕ → Bool) (text : List ℕ) → begins test text ≡ true → 0 < length text
begins_some test [] h = absurd (false≢true h)
begins_some test (b ∷ bs) h = omega arith

behind_two : {A : Type 0} (text : List ℕ) (o : Option (A × List ℕ)) → 0 < length (drop 1 text) → NotLonger (drop 2 text) o → Shorter text o
behind_two text None some s = tt
behind_two text (Some r) some s = omega (arith, length-drop 1 text, length-drop 2 text)

-- an item takes at least one byte
pub first_shorter : (noescape : Bool) (text : List ℕ) → Shorter text (first_item noescape text)
unfolding first_item
first_shorter noescape text = at (begins is_open text) (begins is_colon (drop 1 text)) refl refl
  where
    either : (o : Option (Item × List ℕ)) → Shorter text o → Shorter text (option_or o (plain_item noescape text))
    either None s = plain_shorter noescape text
    either (Some r) s = s

    named : begins is_colon (drop 1 text) ≡ true → Shorter text (named_item (drop 2 text))
    named colon = behind_two text (named_item (drop 2 text)) (begins_some is_colon (drop 1 text) colon) (named_not_longer (drop 2 text))

    at : (x y : Bool) → begins is_open text ≡ x → begins is_colon (drop 1 text) ≡ y → Shorter text (if x && y then option_or (named_item (drop 2 text)) (plain_item noescape text) else plain_item noescape text)
    at true true o colon = either (named_item (drop 2 text)) (named colon)
    at true false o colon = plain_shorter noescape text
    at false y o colon = plain_shorter noescape text

-- if the rest of an item is shorter than the text, its length is enough
shorter_at : {A : Type 0} (text : List ℕ) (o : Option (A × List ℕ)) (r : A × List ℕ) → o ≡ Some r → Shorter text o → length r.1 < length text
shorter_at text o r is s = subst (Shorter text) is s

same_then : (o : Option (Item × List ℕ)) (f g : Item × List ℕ → Option (List Item × List ℕ)) → ((r : Item × List ℕ) → o ≡ Some r → f r ≡ g r) → option_and_then f o ≡ option_and_then g o
same_then None f g same = refl
same_then (Some r) f g same = same r refl

nothing_first : (noescape : Bool) → (o : Option (Item × List ℕ)) → Shorter [] o → o ≡ None
nothing_first noescape None s = refl
nothing_first noescape (Some r) s = absurd (omega arith)

-- enough steps are enough
pub items_enough : (noescape : Bool) (n m : ℕ) (text : List ℕ) → length text ≤ n → length text ≤ m → items_from n noescape text ≡ items_from m noescape text
unfolding items_from
items_enough noescape zero zero text a b = refl
items_enough noescape zero (suc m) [] a b = rw (nothing_first noescape (first_item noescape []) (first_shorter noescape [])) refl
items_enough noescape zero (suc m) (x ∷ xs) a b = absurd (omega arith)
items_enough noescape (suc n) zero [] a b = rw (nothing_first noescape (first_item noescape []) (first_shorter noescape [])) refl
items_enough noescape (suc n) zero (x ∷ xs) a b = absurd (omega arith)
items_enough noescape (suc n) (suc m) text a b =
    ap (λ (o : Option (List Item × List ℕ)). if begins is_close text then Some ([], drop 1 text) else o)
    (same_then (first_item noescape text) _ _ (λ r is.
    let less : length r.1 < length text = shorter_at text (first_item noescape text) r is (first_shorter noescape text) in
    ap (before_items r.0) (items_enough noescape n m r.1 (omega arith) (omega arith))))

-- the items that were read so far, before those that are left
abbrev pub with_items : List Item → Option (List Item × List ℕ) → Option (List Item × List ℕ)
with_items done read = option_map (λ items. (done ++ items.0, items.1)) read

with_more : (done : List Item) (item : Item) (read : Option (List Item × List ℕ)) → with_items done (before_items item read) ≡ with_items (done ++ item ∷ []) read
with_more done item None = refl
with_more done item (Some items) = ap (λ (l : List Item). Some (l, items.1)) (sym (append_assoc done (item ∷ []) items.0))

-- the first item, and the rest
pub items_begin : (noescape : Bool) (text : List ℕ) (r : Item × List ℕ) → first_item noescape text ≡ Some r → class_items noescape text ≡ with_items (r.0 ∷ []) (items_from (length r.1) noescape r.1)
unfolding class_items
items_begin noescape text r is = rw is (one_before (items_from (length r.1) noescape r.1))
  where
    one_before : (read : Option (List Item × List ℕ)) → before_items r.0 read ≡ with_items (r.0 ∷ []) read
    one_before None = refl
    one_before (Some items) = refl

-- without a `]` at the front, the next item and the rest
items_next : (noescape : Bool) (text : List ℕ) → begins is_close text ≡ false → items_from (length text) noescape text ≡ option_and_then (λ item. before_items item.0 (items_from (length text - 1) noescape item.1)) (first_item noescape text)
unfolding items_from
items_next noescape [] goes_on = rw (nothing_first noescape (first_item noescape []) (first_shorter noescape [])) refl
items_next noescape (b ∷ bs) goes_on = rw goes_on (same_then (first_item noescape (b ∷ bs)) _ _ (λ r is. ap (λ (n : ℕ). before_items r.0 (items_from n noescape r.1)) (let e : length bs ≡ length (b ∷ bs) - 1 = omega arith in e)))

-- one more item moves from the rest to the items that were read
pub items_more : (noescape : Bool) (text : List ℕ) (done : List Item) (r : Item × List ℕ) → begins is_close text ≡ false → first_item noescape text ≡ Some r →
    with_items done (items_from (length text) noescape text) ≡ with_items (done ++ r.0 ∷ []) (items_from (length r.1) noescape r.1)
items_more noescape text done r goes_on is =
    let less : length r.1 < length text = shorter_at text (first_item noescape text) r is (first_shorter noescape text) in
    ap (with_items done) (items_next noescape text goes_on)
    ∙ ap (λ o. with_items done (option_and_then (λ item. before_items item.0 (items_from (length text - 1) noescape item.1)) o)) is
    ∙ ap (λ o. with_items done (before_items r.0 o)) (items_enough noescape (length text - 1) (length r.1) r.1 (omega arith) (omega arith))
    ∙ with_more done r.0 (items_from (length r.1) noescape r.1)

-- and leaves less
pub items_less : (noescape : Bool) (text : List ℕ) (r : Item × List ℕ) → first_item noescape text ≡ Some r → length r.1 < length text
items_less noescape text r is = shorter_at text (first_item noescape text) r is (first_shorter noescape text)

-- if no item can be read the class has no end, and at a `]` it is at its end
pub items_fail : (noescape : Bool) (text : List ℕ) (done : List Item) → begins is_close text ≡ false → first_item noescape text ≡ None → with_items done (items_from (length text) noescape text) ≡ None
items_fail noescape text done goes_on is = ap (with_items done) (items_next noescape text goes_on) ∙ rw is refl

-- at a `]`, the items that were read are all
pub items_end : (noescape : Bool) (text : List ℕ) (done : List Item) → begins is_close text ≡ true → with_items done (items_from (length text) noescape text) ≡ Some (done, drop 1 text)
unfolding items_from
items_end noescape [] done closed = absurd (false≢true closed)
items_end noescape (b ∷ bs) done closed = rw closed (ap (λ (l : List Item). Some (l, bs)) (append-nil done))
