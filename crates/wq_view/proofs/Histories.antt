-- The effect of one more pass on the record that a history gives a name.
use Rattle.std.proofs.Common.{◌≡◌, ℕ, zero, suc, ℤ, ◌<◌, ◌≤◌, Bool, true, false, cond, if◌then◌else◌, List, [], ◌∷◌, ◌++◌, length, slice_get, Option, Some, None, is_some, sym, refl, ap, ◌∙◌, arith, length-append}
use Rattle.std.specs.FinMap.{get, get-empty}
use Rattle.wq_record.specs.Seen.{Stat, same_stat}
use Rattle.wq_record.specs.Name.{name_cmp}
use Rattle.wq_view.specs.Listing.{PassData}
use Rattle.wq_record.specs.RecordData.{RecordData, last_stat}
use Rattle.wq_view.specs.History.{History, stat_at, second_of, greatest, is_seen, has_come, has_changed, record_from, record_of, last_stats}
use Rattle.wq_view.proofs.Absorbed.{after_pass}
use Rattle.wq_view.proofs.Stats.{one_stat, same_stat-itself}

module _ (name : List ℕ) (stats : ℕ → Option Stat) (seconds : ℕ → ℤ) where
  -- the last pass that sees the file is the new one, if it sees the file
  pub seen_now : (n : ℕ) (s : Stat) → stats n ≡ Some s → stats (greatest (is_seen stats) n) ≡ Some s
  seen_now zero s e = e
  seen_now (suc n) s e = rw (e, e) refl

  -- one more pass
  pub record_step : (n : ℕ) → record_from name stats seconds (suc n) ≡ after_pass name (record_from name stats seconds n) (stats (suc n)) (suc n) (seconds (suc n))
  record_step n = at (stats (suc n)) (stats n) (stats (greatest (is_seen stats) n)) refl refl refl
    where
      at : (a b c : Option Stat) → stats (suc n) ≡ a → stats n ≡ b → stats (greatest (is_seen stats) n) ≡ c → record_from name stats seconds (suc n) ≡ after_pass name (record_from name stats seconds n) (stats (suc n)) (suc n) (seconds (suc n))
      at None b None ea eb ec = simp (ea, eb, ec)
      at None (Some t) (Some l) ea eb ec = simp (ea, eb, ec)
      at None None (Some l) ea eb ec = simp (ea, eb, ec)
      at (Some s) None None ea eb ec = simp (ea, eb, ec)
      at (Some s) None (Some l) ea eb ec = simp (ea, eb, ec)
      at (Some s) (Some t) c ea eb ec = told (same_stat t s) refl (seen_now n t eb)
        where
          told : (b : Bool) → same_stat t s ≡ b → stats (greatest (is_seen stats) n) ≡ Some t → record_from name stats seconds (suc n) ≡ after_pass name (record_from name stats seconds n) (stats (suc n)) (suc n) (seconds (suc n))
          told true h last = let again : stats (suc n) ≡ Some t = ea ∙ ap Some (sym (one_stat t s h)) in let same = same_stat-itself t in simp (again, eb, last, same)
          told false h last = simp (ea, eb, last, h)

-- a value that depends only on the passes up to n
module _ (n : ℕ) where
  greatest_alike : (t u : ℕ → Bool) (m : ℕ) → m ≤ n → ((i : ℕ) → i ≤ n → t i ≡ u i) → greatest t m ≡ greatest u m
  greatest_alike t u zero low same = refl
  greatest_alike t u (suc m) low same = rw (same (suc m) low, greatest_alike t u m (omega arith) same) refl

  come_alike : (s z : ℕ → Option Stat) → ((i : ℕ) → i ≤ n → s i ≡ z i) → (i : ℕ) → i ≤ n → has_come s i ≡ has_come z i
  come_alike s z same zero low = refl
  come_alike s z same (suc i) low = rw (same (suc i) low, same i (omega arith)) refl

  changed_alike : (s z : ℕ → Option Stat) → ((i : ℕ) → i ≤ n → s i ≡ z i) → (i : ℕ) → i ≤ n → has_changed s i ≡ has_changed z i
  changed_alike s z same zero low = refl
  changed_alike s z same (suc i) low = rw (same (suc i) low, same i (omega arith)) refl

-- the greatest number that passes a test is at most the last number
pub greatest_le : (t : ℕ → Bool) (n : ℕ) → greatest t n ≤ n
greatest_le t zero = omega arith
greatest_le t (suc n) = elim (t (suc n)) as (λ b. cond b (suc n) (greatest t n) ≤ suc n) [ true ↦ omega arith | false ↦ omega (arith, greatest_le t n) ]

-- a record depends on the passes up to the last one
pub record_alike : (name : List ℕ) (s z : ℕ → Option Stat) (c d : ℕ → ℤ) (n : ℕ) → ((i : ℕ) → i ≤ n → s i ≡ z i) → ((i : ℕ) → i ≤ n → c i ≡ d i) → record_from name s c n ≡ record_from name z d n
record_alike name s z c d n stats seconds =
    let seen = greatest_alike n (is_seen s) (is_seen z) n (omega arith) (λ i low. ap is_some (stats i low)) in
    let after_creation = greatest_alike n (has_come s) (has_come z) n (omega arith) (come_alike n s z stats) in
    let after_change = greatest_alike n (has_changed s) (has_changed z) n (omega arith) (changed_alike n s z stats) in
    let last = stats (greatest (is_seen z) n) (greatest_le (is_seen z) n) in
    let csec = seconds (greatest (has_come z) n) (greatest_le (has_come z) n) in
    let osec = seconds (greatest (has_changed z) n) (greatest_le (has_changed z) n) in
    simp (seen, after_creation, after_change, last, csec, osec, stats n (omega arith))

pass_before : (history : History) (pass : PassData) (i : ℕ) → i < length history → slice_get (history ++ pass ∷ []) i ≡ slice_get history i
pass_before [] pass i low = absurd (omega arith)
pass_before (p ∷ history) pass zero low = refl
pass_before (p ∷ history) pass (suc i) low = pass_before history pass i (omega arith)

pass_after : (history : History) (pass : PassData) → slice_get (history ++ pass ∷ []) (length history) ≡ Some pass
pass_after [] pass = refl
pass_after (p ∷ history) pass = pass_after history pass

stat_before : (history : History) (pass : PassData) (name : List ℕ) (i : ℕ) → i ≤ length history → stat_at (history ++ pass ∷ []) name i ≡ stat_at history name i
stat_before history pass name zero low = refl
stat_before history pass name (suc i) low = rw (pass_before history pass i (omega arith)) refl

second_before : (history : History) (pass : PassData) (i : ℕ) → i ≤ length history → second_of (history ++ pass ∷ []) i ≡ second_of history i
second_before history pass zero low = refl
second_before history pass (suc i) low = rw (pass_before history pass i (omega arith)) refl

-- the record of a name after one more pass
pub record_of_more : (history : History) (pass : PassData) (name : List ℕ) → record_of (history ++ pass ∷ []) name ≡ after_pass name (record_of history name) (get pass.stats name) (suc (length history)) pass.second
record_of_more history pass name =
    let all = history ++ pass ∷ [] in
    let count : length all ≡ suc (length history) = omega (arith, length-append history (pass ∷ [])) in
    let before = record_alike name (stat_at all name) (stat_at history name) (second_of all) (second_of history) (length history) (stat_before history pass name) (second_before history pass) in
    let stat : stat_at all name (suc (length history)) ≡ get pass.stats name = rw (pass_after history pass) refl in
    let second : second_of all (suc (length history)) ≡ pass.second = rw (pass_after history pass) refl in
    ap (record_from name (stat_at all name) (second_of all)) count
    ∙ record_step name (stat_at all name) (second_of all) (length history)
    ∙ ap (λ r. after_pass name r (stat_at all name (suc (length history))) (suc (length history)) (second_of all (suc (length history)))) before
    ∙ ap (λ o. after_pass name (record_of history name) o (suc (length history)) (second_of all (suc (length history)))) stat
    ∙ ap (after_pass name (record_of history name) (get pass.stats name) (suc (length history))) second

-- a file's record shows the stat that was last seen, if the file exists
abbrev pub existing_stat : Option RecordData → Option Stat
existing_stat None = None
existing_stat (Some r) = if r.exists then Some (last_stat r) else None

-- the record that a history gives shows the stat that the last pass saw
existing_from : (name : List ℕ) (stats : ℕ → Option Stat) (seconds : ℕ → ℤ) (n : ℕ) → existing_stat (record_from name stats seconds n) ≡ stats n
existing_from name stats seconds n = at (stats n) (stats (greatest (is_seen stats) n)) refl refl
  where
    at : (b c : Option Stat) → stats n ≡ b → stats (greatest (is_seen stats) n) ≡ c → existing_stat (record_from name stats seconds n) ≡ stats n
    at None None eb ec = simp (eb, ec)
    at None (Some l) eb ec = simp (eb, ec)
    at (Some t) c eb ec = let last = seen_now name stats seconds n t eb in simp (eb, last)

-- the stat of a file that exists is the one that the last pass saw
pub existing_of : (history : History) (name : List ℕ) → existing_stat (record_of history name) ≡ stat_at history name (length history)
existing_of history name = existing_from name (stat_at history name) (second_of history) (length history)

-- the last map has the stats that the last pass saw
pub last_answers : (history : History) (name : List ℕ) → get (last_stats history) name ≡ stat_at history name (length history)
last_answers [] name = get-empty name_cmp name
last_answers (p ∷ []) name = refl
last_answers (p ∷ q ∷ history) name = last_answers (q ∷ history) name
