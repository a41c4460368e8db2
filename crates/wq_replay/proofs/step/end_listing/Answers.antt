-- The root lists it from now on.
use Rattle.std.proofs.Common.{◌≡◌, FitsSigned, w64, rules, None, true, false, subst, refl, sym, ap, option_map}
use mir.Facts.{to_z-of_z}
use Rattle.wq_view.specs.Listing.{listing_fault, listing_of}
use Rattle.wq_replay.specs.Step.{draft_data}
use Rattle.wq_replay.proofs.Steps.{crawled_runs, listed_now}
use Rattle.wq_replay.proofs.step.end_listing.Goals as goal

pub returns : goal.returns
returns c = λ at stands next known.
    let rows = c.args.draft.rows.items in
    let fits : FitsSigned w64 c.args.draft.second = search rules in
    let none = subst (λ z. listing_fault rows z ≡ None) (to_z-of_z fits) c.in-Ok.ensures.fault in
    let lists = subst (λ z. c.in-Ok.tree ≡ listing_of rows z) (to_z-of_z fits) c.in-Ok.ensures.pass in
    let played = c.in_ok-crawl.ensures at.world stands in
    listed_now at (draft_data c.args.draft) c.in-Ok.tree played.0 _ known none lists
    (crawled_runs at.world played.0 c.in-Ok.tree c.args.draft.crawls true c.if-not-crawls.false played.1) played.2 refl
    (sym (ap (option_map draft_data) c.requires)) next

pub returns-then-not-crawls : goal.returns-then-not-crawls
returns-then-not-crawls c = λ at stands next known.
    let rows = c.args.draft.rows.items in
    let fits : FitsSigned w64 c.args.draft.second = search rules in
    let none = subst (λ z. listing_fault rows z ≡ None) (to_z-of_z fits) c.in-Ok.ensures.fault in
    let lists = subst (λ z. c.in-Ok.tree ≡ listing_of rows z) (to_z-of_z fits) c.in-Ok.ensures.pass in
    listed_now at (draft_data c.args.draft) c.in-Ok.tree at.world _ known none lists
    (crawled_runs at.world at.world c.in-Ok.tree c.args.draft.crawls false c.if-not-crawls.true (refl, refl)) stands refl
    (sym (ap (option_map draft_data) c.requires)) next
