-- The subscriptions of clients, when those of one client change; and ascending numbers.
use Rattle.std.proofs.Common.{◌≡◌, ℕ, ℤ, suc, ◌+◌, ◌<◌, Bool, true, false, not, cond, nat_lt, List, [], ◌∷◌, ◌++◌, map, find, drop, take, remove, length, get_or, Option, Some, None, position, slice_get, drop-cons, refl, sym, ap, subst, ◌∙◌, arith}
use mathlib.Core.Bool.{false≢true}
use Rattle.std.specs.List.{position_or_len}
use Rattle.std.specs.Ordering.{int_eq}
use Rattle.std.proofs.lemmas.Bool.Decides.{Decides-int_eq}
use Rattle.std.proofs.lemmas.List.{append-nil, take-append-drop}
use Rattle.std.proofs.lemmas.List.Elements.{filter-append}
use Rattle.std.proofs.lemmas.List.Folds.{find_at}
use Rattle.std.proofs.lemmas.List.Quantifiers.{position-Some}
use Rattle.std.proofs.lemmas.Option.{slice_get-get_or, slice_get_past}
use Rattle.std.proofs.lemmas.Bool.{ltb-false}
use Rattle.wq_base.proofs.Facts.{not_chosen}
use Rattle.wq_registry.proofs.Places.{place_is}
use Rattle.wq_follow.specs.Subscription.{SubscriptionData}
use Rattle.wq_session.specs.Followed.{follows_of}
use Rattle.wq_session.specs.declared.session.Session.{Session}
use Rattle.wq_follow.specs.Followed.{subscription_data}
use Rattle.wq_follow.specs.declared.subscription.Subscription.{Subscription}
use Rattle.wq_replay.specs.Client.{follows_in, is_of, numbers_from, other_clients, with_root_number}
use Rattle.wq_replay.specs.Clients.{FollowsNow, kept_client, kept_with}
use Rattle.wq_replay.specs.Gets.{kept}
use Rattle.wq_replay.specs.declared.client.Client.{Client}

-- equality of numbers holds both ways
int_eq_sym : (x y : ℤ) → int_eq x y ≡ int_eq y x
int_eq_sym x y = by (int_eq x y) (int_eq y x) refl refl
  where
    by : (a b : Bool) → int_eq x y ≡ a → int_eq y x ≡ b → a ≡ b
    by true true one other = refl
    by false false one other = refl
    by true false one other = absurd (false≢true (sym other ∙ (Decides-int_eq y x).1 (sym ((Decides-int_eq x y).0 one))))
    by false true one other = absurd (false≢true (sym one ∙ (Decides-int_eq x y).1 (sym ((Decides-int_eq y x).0 other))))

-- two numbers that are equal to a third are equal
int_eq_both : (x y z : ℤ) → int_eq x y ≡ true → int_eq z y ≡ true → int_eq x z ≡ false → ⊥
int_eq_both x y z one other differ =
    false≢true (sym differ ∙ (Decides-int_eq x z).1 ((Decides-int_eq x y).0 one ∙ sym ((Decides-int_eq z y).0 other)))

int_eq_through : (x y z : ℤ) → int_eq x y ≡ true → int_eq y z ≡ true → int_eq x z ≡ false → ⊥
int_eq_through x y z one other differ =
    false≢true (sym differ ∙ (Decides-int_eq x z).1 ((Decides-int_eq x y).0 one ∙ (Decides-int_eq y z).0 other))

-- the other clients, and the clients after them, which have the subscriptions of one client alone
pub now_with : (number : ℤ) (left : List SubscriptionData) (before tail : List Client)
    → ((other : ℤ) → follows_in other tail ≡ cond (int_eq number other) left [])
    → FollowsNow number left before (other_clients number before ++ tail)
now_with number left [] tail ends other = ends other
now_with number left (client ∷ before) tail ends other =
    by (int_eq number client.number) (int_eq number other) (int_eq other client.number) refl refl refl
    (now_with number left before tail ends other)
  where
    by : (is same has : Bool) → int_eq number client.number ≡ is → int_eq number other ≡ same → int_eq other client.number ≡ has
        → follows_in other (other_clients number before ++ tail) ≡ cond same left (follows_in other before)
        → follows_in other (cond (not is) (client ∷ other_clients number before) (other_clients number before) ++ tail)
        ≡ cond same left (cond has (follows_of client.session) (follows_in other before))
    by true true has is same had later = later
    by true false true is same had later = absurd (int_eq_both number client.number other is had same)
    by true false false is same had later = later
    by false true true is same had later = absurd (int_eq_through number other client.number same had is)
    by false true false is same had later = ap (λ b. cond b (follows_of client.session) (follows_in other (other_clients number before ++ tail))) had ∙ later
    by false false true is same had later = ap (λ b. cond b (follows_of client.session) (follows_in other (other_clients number before ++ tail))) had
    by false false false is same had later = ap (λ b. cond b (follows_of client.session) (follows_in other (other_clients number before ++ tail))) had ∙ later

-- no client is after them
none_behind : (number other : ℤ) → follows_in other [] ≡ cond (int_eq number other) [] []
none_behind number other = by (int_eq number other) []
  where
    by : (b : Bool) (none : List SubscriptionData) → none ≡ cond b none none
    by true none = refl
    by false none = refl

-- the client is, if it has subscriptions
kept_behind : (number : ℤ) (session : Session) (all : List SubscriptionData) → follows_of session ≡ all → (other : ℤ)
    → follows_in other (kept_with number session all) ≡ cond (int_eq number other) (follows_of session) []
kept_behind number session [] none other =
    none_behind number other ∙ sym (ap (λ left. cond (int_eq number other) left []) none)
kept_behind number session (s ∷ all) some other =
    ap (λ b. cond b (follows_of session) []) (int_eq_sym other number)

-- the client is kept with a session, if that has subscriptions
pub kept_now : (number : ℤ) (session : Session) (before after : List Client)
    → after ≡ other_clients number before ++ kept_client number session → FollowsNow number (follows_of session) before after
kept_now number session before after is =
    subst (FollowsNow number (follows_of session) before) (sym is)
    (now_with number (follows_of session) before (kept_client number session) (kept_behind number session (follows_of session) refl))

-- the client is no longer kept
pub dropped_now : (number : ℤ) (before after : List Client) → after ≡ other_clients number before → FollowsNow number [] before after
dropped_now number before after is =
    subst (FollowsNow number [] before) (append-nil (other_clients number before) ∙ sym is)
    (now_with number [] before [] (none_behind number))

-- the subscriptions of a client that was found
abbrev of_found : Option Client → List SubscriptionData
of_found None = []
of_found (Some client) = follows_of client.session

follows_found : (number : ℤ) (clients : List Client) → follows_in number clients ≡ of_found (find (is_of number) clients)
follows_found number [] = refl
follows_found number (client ∷ clients) = by (is_of number client) (follows_found number clients)
  where
    by : (b : Bool) → follows_in number clients ≡ of_found (find (is_of number) clients)
        → cond b (follows_of client.session) (follows_in number clients) ≡ of_found (cond b (Some client) (find (is_of number) clients))
    by true later = refl
    by false later = later

-- the subscriptions of the client at the place that was found
pub follows_at : (number : ℤ) (clients : List Client) (i : ℕ) (client : Client) → position (is_of number) clients ≡ Some i
    → client ≡ get_or clients i client → follows_of client.session ≡ follows_in number clients
follows_at number clients i client at is =
    let within = (position-Some (is_of number) clients i client at).0 in
    let place : position_or_len (is_of number) clients ≡ i = place_is (nat_lt (position_or_len (is_of number) clients) (length clients)) (position_or_len (is_of number) clients) i at in
    ap (λ c. follows_of c.session) is
    ∙ sym (follows_found number clients ∙ ap of_found (find_at (is_of number) clients ∙ ap (slice_get clients) place ∙ slice_get-get_or clients i client within))

-- a client that was not found has none
pub follows_none : (number : ℤ) (clients : List Client) → position (is_of number) clients ≡ None → follows_in number clients ≡ []
follows_none number clients none =
    follows_found number clients ∙ ap of_found (find_at (is_of number) clients ∙ slice_get_past clients _ (ltb-false _ _ (not_chosen (nat_lt (position_or_len (is_of number) clients) (length clients)) (position_or_len (is_of number) clients) none)))

-- the others are the same without the one at the place that was found
pub others_removed : (number : ℤ) (clients : List Client) (i : ℕ) (client : Client) → position (is_of number) clients ≡ Some i
    → other_clients number (remove clients i) ≡ other_clients number clients
others_removed number clients i client at =
    let found = position-Some (is_of number) clients i client at in
    let test : Client → Bool = λ c. not (is_of number c) in
    filter-append test (take i clients) (drop (suc i) clients)
    ∙ ap (λ later. other_clients number (take i clients) ++ later) (sym (ap (λ b. cond (not b) (get_or clients i client ∷ other_clients number (drop (suc i) clients)) (other_clients number (drop (suc i) clients))) found.1))
    ∙ ap (λ later. other_clients number (take i clients) ++ other_clients number later) (sym (drop-cons clients i client found.0))
    ∙ sym (filter-append test (take i clients) (drop i clients))
    ∙ ap (other_clients number) (take-append-drop i clients)

-- an answer that lets the client go on
pub answer_kept : (number : ℤ) (session : Session) (goes_on : Bool) (before after : List Client) → goes_on ≡ true
    → after ≡ other_clients number before ++ kept_client number session → FollowsNow number (kept goes_on (follows_of session)) before after
answer_kept number session goes_on before after goes is =
    subst (λ g. FollowsNow number (kept g (follows_of session)) before after) (sym goes) (kept_now number session before after is)

-- and an answer that ends its session
pub answer_dropped : (number : ℤ) (session : Session) (goes_on : Bool) (before after : List Client) → goes_on ≡ false
    → after ≡ other_clients number before → FollowsNow number (kept goes_on (follows_of session)) before after
answer_dropped number session goes_on before after goes is =
    subst (λ g. FollowsNow number (kept g (follows_of session)) before after) (sym goes) (dropped_now number before after is)

-- the number of one more subscription
pub numbers_next : (numbers after : List ℕ) (all : List Subscription) (i : ℕ) (s : Subscription) (number : ℕ) (total : List ℕ)
    → i < length all → s ≡ get_or all i s → number ≡ (subscription_data s).number → after ≡ with_root_number number numbers
    → numbers_from numbers (map subscription_data (drop i all)) ≡ total
    → numbers_from after (map subscription_data (drop (i + 1) all)) ≡ total
numbers_next numbers after all i s number total within is named put so_far =
    let next : i + 1 ≡ suc i = omega arith in
    let parts : drop i all ≡ s ∷ drop (suc i) all = drop-cons all i s within ∙ ap (λ y. y ∷ drop (suc i) all) (sym is) in
    ap (λ n. numbers_from after (map subscription_data (drop n all))) next
    ∙ ap (λ now. numbers_from now (map subscription_data (drop (suc i) all))) (put ∙ ap (λ n. with_root_number n numbers) named)
    ∙ sym (ap (λ left. numbers_from numbers (map subscription_data left)) parts)
    ∙ so_far

-- those of all
pub numbers_all : (numbers : List ℕ) (all : List Subscription) (i : ℕ) (total : List ℕ) → drop i all ≡ []
    → numbers_from numbers (map subscription_data (drop i all)) ≡ total → numbers ≡ total
numbers_all numbers all i total none so_far =
    sym (ap (λ left. numbers_from numbers (map subscription_data left)) none) ∙ so_far
