-- One event more is taken.
use Rattle.std.proofs.Common.{◌≡◌, ◌<◌, ◌+◌, ℕ, zero, suc, List, [], ◌∷◌, ◌++◌, length, take, drop, inl, inr, ap, sym, ◌∙◌, arith, append_assoc, append-nil}
use Rattle.wq_stream.specs.declared.event.Event.{Event}
use Rattle.wq_stream.specs.Inbox.{clients, of_client}
use Rattle.wq_inbox.specs.Queue.{TakesEvent}

-- what waits is behind what was taken
pub is_within : {A : Type 0} (n : ℕ) (xs : List A) (y : A) (ys : List A) → drop n xs ≡ y ∷ ys → n < length xs
is_within zero [] y ys is = absurd cc
is_within zero (x ∷ xs) y ys is = omega arith
is_within (suc n) [] y ys is = absurd cc
is_within (suc n) (x ∷ xs) y ys is = omega (arith, is_within n xs y ys is)

take_after : {A : Type 0} (n : ℕ) (xs : List A) (y : A) (ys : List A) → drop n xs ≡ y ∷ ys → take (suc n) xs ≡ take n xs ++ y ∷ []
take_after zero [] y ys is = absurd cc
take_after zero (x ∷ xs) y ys is = cc is
take_after (suc n) [] y ys is = absurd cc
take_after (suc n) (x ∷ xs) y ys is = ap (λ l. x ∷ l) (take_after n xs y ys is)

drop_after : {A : Type 0} (n : ℕ) (xs : List A) (y : A) (ys : List A) → drop n xs ≡ y ∷ ys → drop (suc n) xs ≡ ys
drop_after zero [] y ys is = absurd cc
drop_after zero (x ∷ xs) y ys is = cc is
drop_after (suc n) [] y ys is = absurd cc
drop_after (suc n) (x ∷ xs) y ys is = drop_after n xs y ys is

next_is : (n : ℕ) → n + 1 ≡ suc n
next_is n = omega arith

-- the next one is the first that waits
pub take_next : {A : Type 0} (n : ℕ) (xs : List A) (y : A) (ys : List A) → drop n xs ≡ y ∷ ys → take (n + 1) xs ≡ take n xs ++ y ∷ []
take_next n xs y ys is = ap (λ m. take m xs) (next_is n) ∙ take_after n xs y ys is

-- the others wait
pub drop_next : {A : Type 0} (n : ℕ) (xs : List A) (y : A) (ys : List A) → drop n xs ≡ y ∷ ys → drop (n + 1) xs ≡ ys
drop_next n xs y ys is = ap (λ m. drop m xs) (next_is n) ∙ drop_after n xs y ys is

-- the client's events among more
clients_more : (events : List Event) (event : Event) → clients (events ++ event ∷ []) ≡ clients events ++ of_client event
clients_more [] event = append-nil (of_client event)
clients_more (first ∷ events) event =
    ap (λ l. of_client first ++ l) (clients_more events event)
    ∙ sym (append_assoc (of_client first) (clients events) (of_client event))

-- an event that was taken is handed out, if it is of the client
pub hands_taken : (before : List Event) (event : Event) (after : List Event) → TakesEvent before event after
    → clients after ≡ clients before ++ of_client event
hands_taken before event after (inl is) = ap clients is ∙ clients_more before event
hands_taken before event after (inr (same, none)) =
    ap clients same ∙ (sym (append-nil (clients before)) ∙ ap (λ l. clients before ++ l) (sym none))
