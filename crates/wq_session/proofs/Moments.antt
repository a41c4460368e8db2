-- An idle moment, one subscription after the other.
use Rattle.std.proofs.Common.{◌≡◌, ◌<◌, ◌+◌, ℕ, zero, suc, Bool, true, false, nat_eq, List, [], ◌∷◌, ◌++◌, length, map, Option, Result, Ok, Err, if◌then◌else◌, refl, sym, ap, ◌∙◌, arith, length-append, slice_set}
use mathlib.Core.Bool.{false≢true}
use Rattle.std.specs.List.{remove}
use Rattle.std.specs.Result.{IsErr}
use Rattle.std.proofs.Math.ListN.{get_or}
use Rattle.std.proofs.Math.Seq.{get_or-append_seam}
use Rattle.std.proofs.lemmas.List.{append-nil, append_assoc}
use Rattle.std.proofs.lemmas.Bool.Decides.{nat_tests}
use Rattle.std.specs.declared.alloc.AllocError.{AllocError}
use Rattle.wq_follow.specs.Followed.{subscription_data}
use Rattle.wq_follow.specs.Subscription.{SubscriptionData}
use Rattle.wq_follow.specs.declared.subscription.Subscription.{Subscription}
use Rattle.wq_session.specs.Out.{OutData, tells_lists}
use Rattle.wq_crawl.specs.At.{AtData}
use Rattle.wq_session.specs.Moment.{Idles, MayRunOut, Shown, TellsOne, left_of, shown_in, told_list_at, told_lists_of, told_of}
use Rattle.wq_session.proofs.Called.{removed_between, set_between, set_made}

module _ {A B : Type 0} (f : A → B) where
  -- the result for the element at a place
  get_made : (xs : List A) (i : ℕ) (d : A) → f (get_or xs i d) ≡ get_or (map f xs) i (f d)
  get_made [] i d = refl
  get_made (x ∷ xs) zero d = refl
  get_made (x ∷ xs) (suc i) d = get_made xs i d

  -- and of the others
  remove_made : (xs : List A) (i : ℕ) → map f (remove xs i) ≡ remove (map f xs) i
  remove_made [] zero = refl
  remove_made [] (suc i) = refl
  remove_made (x ∷ xs) zero = refl
  remove_made (x ∷ xs) (suc i) = ap (λ ys. f x ∷ ys) (remove_made xs i)

module _ (items : List Subscription) (front : List SubscriptionData) (s : SubscriptionData) (later : List SubscriptionData) (place : ℕ)
    (is : map subscription_data items ≡ front ++ s ∷ later) (there : length front ≡ place) where
  -- the subscription at the place is the one between
  pub got_there : (x : Subscription) → x ≡ get_or items place x → subscription_data x ≡ s
  got_there x same =
      ap subscription_data same ∙ get_made subscription_data items place x
      ∙ ap (λ xs. get_or xs place (subscription_data x)) is
      ∙ ap (λ i. get_or (front ++ s ∷ later) i (subscription_data x)) (sym there)
      ∙ get_or-append_seam front s later (subscription_data x)

  -- another one in its place
  pub set_there : (x : Subscription) → map subscription_data (slice_set items place x) ≡ front ++ subscription_data x ∷ later
  set_there x =
      set_made subscription_data items place x ∙ ap (λ xs. slice_set xs place (subscription_data x)) is
      ∙ set_between front s later place (subscription_data x) there

  -- without it
  pub removed_there : map subscription_data (remove items place) ≡ front ++ later
  removed_there =
      remove_made subscription_data items place ∙ ap (λ xs. remove xs place) is ∙ removed_between front s later place there

numbers_same : (a b : ℕ) → nat_eq a b ≡ true → a ≡ b
numbers_same a b is = grind (arith, nat_tests)

-- another number is another root
pub other_root : (root number : ℕ) → (number ≡ root → ⊥) → nat_eq root number ≡ false
other_root root number other = by (nat_eq root number) refl
  where
    by : (b : Bool) → nat_eq root number ≡ b → nat_eq root number ≡ false
    by false is = is
    by true is = absurd (other (sym (numbers_same root number is)))

pub same_root : (root number : ℕ) → number ≡ root → nat_eq root number ≡ true
same_root root number same = grind (arith, nat_tests)

module _ (root : ℕ) (shown : Shown) (front : List SubscriptionData) (s : SubscriptionData) (later : List SubscriptionData) (lists : List (List ℕ)) where
  -- one of another root is told nothing
  pub tells_other : (place : ℕ) (follows : List SubscriptionData) → nat_eq root s.number ≡ false → follows ≡ front ++ s ∷ later
      → length front ≡ place → TellsOne root shown front s later lists (Ok (place + 1)) follows lists
  tells_other place follows other is there =
      let nothing : told_of root shown s ≡ record { lists = []; left = s ∷ [] } =
      ap (λ b. if b then told_list_at shown s else record { lists = []; left = s ∷ [] }) other in (
        is ∙ sym (append_assoc front (s ∷ []) later) ∙ ap (λ t. front ++ t.left ++ later) (sym nothing),
        sym (append-nil lists) ∙ ap (λ t. lists ++ t.lists) (sym nothing),
        ap (λ n. n + 1) (sym there) ∙ ap (λ t. length front + length t.left) (sym nothing),
      )

  -- one of this root is told this
  pub tells_this : (next : ℕ) (after : List SubscriptionData) (told : List (List ℕ)) → nat_eq root s.number ≡ true
      → after ≡ front ++ (told_list_at shown s).left ++ later → told ≡ lists ++ (told_list_at shown s).lists
      → next ≡ length front + length (told_list_at shown s).left → TellsOne root shown front s later lists (Ok next) after told
  tells_this next after told this is given moved =
      let so : told_of root shown s ≡ told_list_at shown s =
      ap (λ b. if b then told_list_at shown s else record { lists = []; left = s ∷ [] }) this in (
        is ∙ ap (λ t. front ++ t.left ++ later) (sym so),
        given ∙ ap (λ t. lists ++ t.lists) (sym so),
        moved ∙ ap (λ t. length front + length t.left) (sym so),
      )

  -- or memory ran out
  pub tells_short : (result : Result ℕ AllocError) (after : List SubscriptionData) (told : List (List ℕ)) → IsErr result
      → nat_eq root s.number ≡ true → MayRunOut shown s → after ≡ front ++ s ∷ later → told ≡ lists
      → TellsOne root shown front s later lists result after told
  tells_short (Err error) after told failed this may is same = (is, same, (this, may))
  tells_short (Ok next) after told failed this may is same = absurd (false≢true failed)

module _ (root : ℕ) (at : Option AtData) where
  -- one more list after the others
  lists_more : (polled : List SubscriptionData) (s : SubscriptionData)
      → told_lists_of root (shown_in at) polled ++ (told_of root (shown_in at) s).lists ≡ told_lists_of root (shown_in at) (polled ++ s ∷ [])
  lists_more [] s = sym (append-nil (told_of root (shown_in at) s).lists)
  lists_more (first ∷ polled) s =
      append_assoc (told_of root (shown_in at) first).lists (told_lists_of root (shown_in at) polled) (told_of root (shown_in at) s).lists
      ∙ ap (λ lists. (told_of root (shown_in at) first).lists ++ lists) (lists_more polled s)

  left_more : (polled : List SubscriptionData) (s : SubscriptionData)
      → left_of root (shown_in at) polled ++ (told_of root (shown_in at) s).left ≡ left_of root (shown_in at) (polled ++ s ∷ [])
  left_more [] s = sym (append-nil (told_of root (shown_in at) s).left)
  left_more (first ∷ polled) s =
      append_assoc (told_of root (shown_in at) first).left (left_of root (shown_in at) polled) (told_of root (shown_in at) s).left
      ∙ ap (λ left. (told_of root (shown_in at) first).left ++ left) (left_more polled s)

  -- so many subscriptions were told
  pub record Told (follows : List SubscriptionData) (count : ℕ) (now : List SubscriptionData) (place : ℕ) (lists : List (List ℕ)) : Type 0 where
    pub polled : List SubscriptionData
    pub later : List SubscriptionData
    pub parts : follows ≡ polled ++ later
    pub counted : length polled ≡ count
    pub left : now ≡ left_of root (shown_in at) polled ++ later
    pub placed : length (left_of root (shown_in at) polled) ≡ place
    pub told : lists ≡ told_lists_of root (shown_in at) polled

  module _ (follows now : List SubscriptionData) (count place : ℕ) (lists : List (List ℕ)) (so : Told follows count now place lists) where
    -- if more are left, there is a next one
    pub next_one : count < length follows → (s : SubscriptionData) × (later : List SubscriptionData) × (so.later ≡ s ∷ later)
    next_one more = by so.later (ap length so.parts ∙ length-append so.polled so.later)
      where
        by : (later : List SubscriptionData) → length follows ≡ length so.polled + length later
            → (s : SubscriptionData) × (rest : List SubscriptionData) × (later ≡ s ∷ rest)
        by [] same = absurd (omega (arith, more, same, so.counted))
        by (s ∷ later) same = (s, later, refl)

    -- it has a place
    pub has_next : (s : SubscriptionData) (later : List SubscriptionData) → so.later ≡ s ∷ later → place < length now
    has_next s later is =
        let long : length now ≡ length (left_of root (shown_in at) so.polled) + suc (length later) =
        ap length (so.left ∙ ap (λ l. left_of root (shown_in at) so.polled ++ l) is) ∙ length-append (left_of root (shown_in at) so.polled) (s ∷ later) in
        omega (arith, long, so.placed)

    -- after it was told, one more was
    pub told_one : (s : SubscriptionData) (later : List SubscriptionData) → so.later ≡ s ∷ later → (next : ℕ) (after : List SubscriptionData)
        (given : List (List ℕ)) → TellsOne root (shown_in at) (left_of root (shown_in at) so.polled) s later lists (Ok next) after given
        → Told follows (count + 1) after next given
    told_one s later is next after given tells = record {
      polled = so.polled ++ s ∷ [];
      later = later;
      parts = so.parts ∙ ap (λ l. so.polled ++ l) is ∙ sym (append_assoc so.polled (s ∷ []) later);
      counted = length-append so.polled (s ∷ []) ∙ ap (λ n. n + 1) so.counted;
      left = tells.0 ∙ ap (λ l. l ++ later) (left_more so.polled s);
      placed = ap length (sym (left_more so.polled s)) ∙ length-append (left_of root (shown_in at) so.polled) (told_of root (shown_in at) s).left ∙ sym tells.2;
      told = tells.1 ∙ ap (λ l. l ++ (told_of root (shown_in at) s).lists) so.told ∙ lists_more so.polled s;
    }

    -- if memory ran out for it, the moment ends there
    pub ran_out : (s : SubscriptionData) (later : List SubscriptionData) → so.later ≡ s ∷ later → (error : AllocError)
        (after : List SubscriptionData) (given : List (List ℕ)) (out : OutData)
        → TellsOne root (shown_in at) (left_of root (shown_in at) so.polled) s later lists (Err error) after given
        → out ≡ tells_lists given → Idles root at follows out after
    ran_out s later is error after given out tells gives = record {
      polled = so.polled;
      later = s ∷ later;
      parts = so.parts ∙ ap (λ l. so.polled ++ l) is;
      gives = gives ∙ ap tells_lists (tells.1 ∙ so.told);
      left = tells.0;
      short = tells.2;
    }

    -- when all were told, it ends
    pub all_told : (out : OutData) → count ≡ length follows → out ≡ tells_lists lists → Idles root at follows out now
    all_told out all gives = by so.later refl (ap length so.parts ∙ length-append so.polled so.later)
      where
        by : (later : List SubscriptionData) → so.later ≡ later → length follows ≡ length so.polled + length later → Idles root at follows out now
        by [] is same = record {
          polled = so.polled;
          later = [];
          parts = so.parts ∙ ap (λ l. so.polled ++ l) is;
          gives = gives ∙ ap tells_lists so.told;
          left = so.left ∙ ap (λ l. left_of root (shown_in at) so.polled ++ l) is;
          short = tt;
        }
        by (s ∷ later) is same = absurd (omega (arith, same, all, so.counted))
