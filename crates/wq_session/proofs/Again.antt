-- A root that is watched again.
use Rattle.std.proofs.Common.{◌≡◌, ℕ, Bool, true, false, List, [], ◌∷◌, Some, nat_eq, nat_le, refl, ◌&&◌, ◌||◌, if◌then◌else◌}
use Rattle.std.specs.List.{list_any}
use Rattle.std.specs.Option.{option_map_or}
use Rattle.std.specs.Str.{bytes_eq}
use Rattle.std.proofs.lemmas.Bool.{or_right}
use mathlib.Core.Bool.{false≢true}
use Rattle.wq_follow.specs.Round.{TriggerData}
use Rattle.wq_registry.specs.Root.{RootData, called, is_newer}
use Rattle.wq_session.specs.Law.{WatchingAgainChangesNothing}

-- a root of this text and number says that it is not new
is_there : (text : List ℕ) (number : ℕ) (rs : List (RootData TriggerData))
    → option_map_or (λ r. nat_eq number r.number) (called text rs) false ≡ true
    → list_any (is_newer text number) rs ≡ true
is_there text number [] there = absurd (false≢true there)
is_there text number (r ∷ rs) there = at (bytes_eq text r.text) (is_there text number rs) there
  where
    at : (has : Bool) → (option_map_or (λ r. nat_eq number r.number) (called text rs) false ≡ true
        → list_any (is_newer text number) rs ≡ true)
        → option_map_or (λ r. nat_eq number r.number) (if has then Some r else called text rs) false ≡ true
        → ((nat_eq number r.number || (has && nat_le number r.number)) || list_any (is_newer text number) rs) ≡ true
    at true rest there = rw there refl
    at false rest there = or_right _ _ (rest there)

-- watching a root again changes nothing
pub watching_again_changes_nothing : WatchingAgainChangesNothing
watching_again_changes_nothing root at shelf there =
    rw (is_there root (at.instance).root shelf.roots there) refl
