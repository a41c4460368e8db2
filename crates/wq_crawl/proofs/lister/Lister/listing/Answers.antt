-- The listing of the root of this number beside its last view.
use Rattle.std.proofs.Common.{◌≡◌, Some, Err, MatchResult, subst}
use Rattle.wq_live.specs.Table.{number_by_text}
use Rattle.wq_crawl.specs.Crawl.{ListerData, ListsAgain, crawler_at}
use Rattle.wq_patch.specs.Tree.{Lists}
use Rattle.wq_crawl.proofs.Crawling.{lawful_rows, lists_again, view_at}
use Rattle.wq_crawl.proofs.lister.Lister.listing.Goals as goal

pub returns-in-Some-clause-listed : goal.returns-in-Some-clause-listed
returns-in-Some-clause-listed g c events of_table =
    let it = c.self.inside in
    let before : ListerData = record { clock = g.S.Seconds.told it.seconds; listed = g.T.Tree.listed it.tree; failed = g.T.Tree.failed it.tree; whole = g.T.Tree.whole it.tree } in
    let after : ListerData = record { clock = g.S.Seconds.told it.seconds; listed = g.T.Tree.listed c.listed_again.new.tree; failed = g.T.Tree.failed c.listed_again.new.tree; whole = g.T.Tree.whole c.listed_again.new.tree } in
    let number_is : Some c.args.number ≡ number_by_text c.args.root.now c.args.table.now = subst (λ n. Some n ≡ number_by_text c.args.root.now c.args.table.now) c.if-shown-number.true c.in-Some.ensures.number in
    let is_view = view_at events c.args.table.now c.args.root.now c.args.number c.in-Some.last.now of_table number_is c.in-Some.ensures.view in
    subst (λ (b : ListerData). MatchResult c.listed_again.result (λ listing. ListsAgain c.args.number c.args.root.now (crawler_at events b) listing (crawler_at events after)) (λ fault. Lists b.listed c.args.root.now (Err fault) after.listed)) c.self.view_is
    (lists_again c.args.number c.args.root.now (crawler_at events before) (crawler_at events after) c.in-Some.last.now c.listed_again.result is_view c.listed_again.ensures.lawful c.listed_again.ensures.few c.listed_again.ensures.fit c.listed_again.ensures.listed)

pub returns-in-Some-clause-lawful : goal.returns-in-Some-clause-lawful
returns-in-Some-clause-lawful g c = lawful_rows c.in-Some.last.now.records c.listed_again.result c.listed_again.ensures.lawful
