-- Steps that only add to the list keep the knowledge of threads.
use Rattle.std.proofs.Common.{◌≡◌, ◌≢◌, ℕ, List, [], ◌∷◌, ◌++◌, Option, Some, None, Result, Ok, Err, MatchResult, fold, set, refl, ap, subst, ◌∙◌, ⊎_elim}
use Rattle.std.proofs.lemmas.List.Sums.{fold-append}
use mathlib.Core.Option.{some}
use lib.ListN.{get_elem?}
use Rattle.left_right.specs.Register.{Admits, TurnsAt, Forks, Merges}
use Rattle.atomic_table.proofs.Lists.{at_set, at_snoc}
use Rattle.wq_live.specs.Log.{LogData, BeginsLog}
use Rattle.wq_live.specs.Shared.{Knows, AllBegin, Sees}
use Rattle.wq_live.proofs.Beginnings.{prefix_self, prefix_trans}

-- a log begins itself
pub begins_self : (x : LogData) → BeginsLog x x
begins_self x = (refl, prefix_self x.log)

-- knowledge of a list is knowledge of a longer list
pub knows_more : (v : Option LogData) (x y : LogData) → BeginsLog x y → Knows v x → Knows v y
knows_more None x y up k = tt
knows_more (Some s) x y up k = (k.0 ∙ up.0, prefix_trans s.log x.log y.log k.1 up.1)

-- a new seat may be added
pub admits : Admits AllBegin None
admits x views h seat v at = ⊎_elim (h seat v) (λ (e : None ≡ v). subst (λ z. Knows z x) e tt) (at_snoc views None v seat at)

-- a step that only adds
pub turns : (seat : ℕ) (v : Option LogData) (x y : LogData) → BeginsLog x y → TurnsAt AllBegin seat v x y (λ before _ shown after. Sees before shown after)
turns seat v x y up views h at = (
  Some y,
  (λ j u e. ⊎_elim (λ (t : (j ≡ seat) × (Some y ≡ u)). subst (λ z. Knows z y) t.1 (begins_self y)) (λ (t : (j ≢ seat) × (get_elem? views j ≡ some u)). knows_more u x y up (h j u t.1))
      (at_set views seat j (Some y) u e)),
  (knows_more v x y up (h seat v at), refl),
)

set_known : (x : LogData) (views : List (Option LogData)) (seat : ℕ) (v : Option LogData) → AllBegin x views → Knows v x → AllBegin x (set views seat v)
set_known x views seat v h low j u e = ⊎_elim (λ (t : (j ≡ seat) × (v ≡ u)). subst (λ z. Knows z x) t.1 low) (λ (t : (j ≢ seat) × (get_elem? views j ≡ some u)). h j u t.1) (at_set views seat j v u e)

-- the shared value is as it was without the note
pub forks : (seat : ℕ) (v : Option LogData) → Forks AllBegin seat v v v
forks seat v x views h at j u e = ⊎_elim (set_known x views seat v h (h seat v at) j u) (λ (same : v ≡ u). subst (λ z. Knows z x) same (h seat v at)) (at_snoc (set views seat v) v u j e)

-- the note is taken in
pub merges : (seat : ℕ) (v : Option LogData) (other : ℕ) (w : Option LogData) → Merges AllBegin seat v other w w None
merges seat v other w x views h at apart there =
    let b : Knows w x = ⊎_elim (λ (t : (other ≡ seat) × (w ≡ w)). absurd (apart t.0)) (λ (t : (other ≢ seat) × (get_elem? views other ≡ some w)). h other w t.1) (at_set views seat other w w there) in
    set_known x (set views seat w) other None (set_known x views seat w h b) tt

-- of values that are shown in turn the last one stays
pub last_is : (shown : LogData) (pending : List LogData) (next : LogData) → fold (λ _ log. log) shown (pending ++ next ∷ []) ≡ next
last_is shown pending next = fold-append (λ _ (log : LogData). log) shown pending (next ∷ [])

-- a step that shows all that was lined up shows the last value; a step that is refused shows what was shown
pub shows_last : {A E : Type 0} (ready still : Type 0) (done : Result A E) (shown now next : LogData) (knew knows : Option LogData) (pending : List LogData)
    → fold (λ _ log. log) shown pending ≡ next
    → MatchResult done (λ _. (now ≡ fold (λ _ log. log) shown pending) × ready) (λ _. (now ≡ shown) × still)
    → MatchResult done (λ _. Sees knew now knows) (λ _. knows ≡ knew)
    → MatchResult done (λ _. (now ≡ next) × (knows ≡ Some next)) (λ _. (now ≡ shown) × (knows ≡ knew))
shows_last ready still (Ok it) shown now next knew knows pending is values rule = let same = values.0 ∙ is in (same, rule.1 ∙ ap Some same)
shows_last ready still (Err it) shown now next knew knows pending is values rule = (values.0, rule)
