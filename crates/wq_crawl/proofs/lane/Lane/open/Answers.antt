-- The root was found, or listed and started.
use Rattle.std.proofs.Common.{[], Err, MatchOption, Ok, ap, refl, subst, sym, ◌∙◌}
use Rattle.std.proofs.lemmas.Result.{err_from_is_err_and}
use Rattle.wq_crawl.specs.Publish.{IsPlace}
use Rattle.wq_crawl.specs.Shared.{WatchedBetween}
use Rattle.wq_crawl.specs.declared.place.Place.TheVariants.{Free}
use Rattle.wq_crawl.proofs.Between.{found_then, not_before, not_begun_then, started_then}
use Rattle.wq_crawl.proofs.lane.Lane.open.Goals as goal

pub returns-in_err-told-clause-watched : goal.returns-in_err-told-clause-watched
returns-in_err-told-clause-watched g c =
    let first = c.args.self.now.lister in
    let told = err_from_is_err_and c.from_residual.result c.from_residual.ensures.1 in
    let found = c.in_err-told.ensures in
    subst (λ r. WatchedBetween c.args.root.now first r first) (sym (told.1 ∙ ap Err told.2))
    (found_then c.args.root.now first first first (not_before first.listed) found.0 found.1 (Err c.in_err-told.field-0.0) found.2 refl)

pub returns-in-Some-clause-watched : goal.returns-in-Some-clause-watched
returns-in-Some-clause-watched g c =
    let first = c.args.self.now.lister in
    let found = c.in_ok-told.ensures in
    subst (λ o. MatchOption o (IsPlace c.args.root.now found.0 Free) (λ told. WatchedBetween c.args.root.now first (Ok told) first)) c.in-Some.is
    (found_then c.args.root.now first first first (not_before first.listed) found.0 found.1 (Ok c.in_ok-told.field-0) found.2 refl)

pub returns-in_err-pass-clause-watched : goal.returns-in_err-pass-clause-watched
returns-in_err-pass-clause-watched g c =
    let first = c.args.self.now.lister in
    let found = c.in_ok-told.ensures in
    let told = err_from_is_err_and c.from_residual-in_err-pass.result c.from_residual-in_err-pass.ensures.1 in
    let room : IsPlace c.args.root.now found.0 Free = subst (λ o. MatchOption o (IsPlace c.args.root.now found.0 Free) (λ told. WatchedBetween c.args.root.now first (Ok told) first)) c.in_default.is
    (found_then c.args.root.now first first first (not_before first.listed) found.0 found.1 (Ok c.in_ok-told.field-0) found.2 refl) in
    subst (λ r. WatchedBetween c.args.root.now first r c.list.new.self) (sym (told.1 ∙ ap Err told.2))
    (not_begun_then c.args.root.now first first c.list.new.self (not_before first.listed) found.0 c.in_err-pass.field-0.0 room (c.in_err-pass.ensures.listed found.0))

pub returns-clause-watched : goal.returns-clause-watched
returns-clause-watched g c =
    let first = c.args.self.now.lister in
    started_then c.args.root.now first c.list.new.self c.in_ok-pass.pass (c.in_ok-pass.ensures.listed []) c.in_ok-pass.ensures.whole c.start.ensures.0 c.start.ensures.1 c.start.result c.start.ensures.2
