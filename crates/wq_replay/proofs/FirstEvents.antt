-- The first list of events of a world.
use Rattle.std.proofs.Common.{◌≡◌, ℕ, ◌+◌, pos, [], ◌∷◌, map, refl, ap, ◌∙◌}
use Rattle.std.specs.FinMap.{len-empty}
use Rattle.wq_live.specs.Event.{first_history, start_events}
use Rattle.wq_live.specs.declared.event.RootEvent.TheVariants.{Started, Passed}
use Rattle.wq_view.specs.History.{History}
use Rattle.wq_record.specs.Seen.{Stat}
use Rattle.wq_record.specs.Name.{name_cmp}
use Rattle.wq_view.specs.Listing.{PassData, listing_of}
use Rattle.wq_replay.specs.World.{root_text}

-- an empty listing does not count as a pass
none_first : first_history (listing_of [] (pos 0)) ≡ []
none_first = rw (len-empty name_cmp Stat) refl

-- the first root starts without a pass
pub first_events : (given : ℕ) (pass : PassData) → given ≡ 0 → pass ≡ listing_of [] (pos 0)
    → start_events (given + 1) root_text pass ≡ Started 1 root_text ∷ []
first_events given pass none is =
    ap (λ g. start_events (g + 1) root_text pass) none ∙ ap (λ p. start_events 1 root_text p) is
    ∙ ap (λ (h : History). Started 1 root_text ∷ map (λ first. Passed 1 first) h) none_first
