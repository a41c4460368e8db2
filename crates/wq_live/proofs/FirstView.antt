-- The view of a root over which at most one pass went.
use Rattle.std.proofs.Common.{◌≡◌, ◌≢◌, ◌==◌, ◌↔◌, ℕ, Bool, true, false, [], ◌∷◌, Result, Ok, refl, ap, sym, subst, ◌∙◌, arith}
use Rattle.std.specs.FinMap.{FinMap, empty, len, empty_of_len, len-empty}
use Rattle.std.proofs.lemmas.Bool.Decides.{nat_tests}
use Rattle.wq_view.specs.declared.view.ViewFault.{ViewFault}
use Rattle.wq_record.specs.Seen.{Stat}
use Rattle.wq_record.specs.Name.{name_cmp}
use Rattle.wq_view.specs.Listing.{PassData}
use Rattle.wq_view.specs.View.{ViewData, IsViewOf}
use Rattle.wq_live.specs.Event.{first_history}

is_zero : (n : ℕ) → (n == 0) ≡ true → n ≡ 0
is_zero n h = grind (arith, nat_tests)

-- a map without entries is the empty map
pub is_empty : (stats : FinMap name_cmp Stat) → (len stats == 0) ≡ true → empty ≡ stats
is_empty stats e = sym (empty_of_len stats (is_zero (len stats) e))

-- a map with entries is not the empty map
pub not_empty : (stats : FinMap name_cmp Stat) → (len stats == 0) ≡ false → empty ≢ stats
not_empty stats e same = absurd (cc (subst (λ n. (n == 0) ≡ false) (sym (ap len same) ∙ len-empty name_cmp Stat) e))

-- the view after the first pass
pub first_view : (pass : PassData) (result : Result Bool ViewFault) (moved : Bool) (before after : ViewData) → result ≡ Ok moved → IsViewOf [] before
    → (result ≡ Ok true → IsViewOf (pass ∷ []) after)
    → ((result ≡ Ok false) ↔ (empty ≡ pass.stats))
    → (result ≢ Ok true → after ≡ before)
    → IsViewOf (first_history pass) after
first_view pass result true before after ok of moves still kept = at (len pass.stats == 0) refl
  where
    at : (b : Bool) → (len pass.stats == 0) ≡ b → IsViewOf (first_history pass) after
    at true e = absurd (cc (still.1 (is_empty pass.stats e), ok))
    at false e = rw e (moves ok)
first_view pass result false before after ok of moves still kept = at (len pass.stats == 0) refl
  where
    at : (b : Bool) → (len pass.stats == 0) ≡ b → IsViewOf (first_history pass) after
    at true e = rw (e, kept (λ t. absurd (cc (t, ok)))) of
    at false e = absurd (not_empty pass.stats e (still.0 ok))
