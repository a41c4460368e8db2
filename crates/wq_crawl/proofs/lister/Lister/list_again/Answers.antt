-- The tree gave rows, or patches.
use Rattle.std.proofs.Common.{◌≡◌, None, IfSome, IsTrue, MatchResult, ap, refl, rules, subst, sym, ◌∙◌, w64}
use mir.Val.{SFits}
use Rattle.std.proofs.lemmas.Int.{to_z-of_z}
use Rattle.wq_record.specs.Seen.{is_count}
use Rattle.wq_view.specs.Listing.{is_of_whole, listing_fault, listing_of}
use Rattle.wq_view.specs.Patch.{patched}
use Rattle.wq_patch.specs.declared.tree.Listing.TheVariants.{Patches, Rows}
use Rattle.wq_crawl.specs.declared.relisted.Relisted.TheVariants.{Patched}
use Rattle.wq_crawl.specs.Crawl.{CrawlerData, IsNoPassOver, IsRelisted, ListerData, ListsAgain, crawler_at}
use Rattle.wq_crawl.proofs.Crawling.{patches_fault, patches_over, rows_fault, rows_over}
use Rattle.wq_crawl.proofs.lister.Lister.list_again.Goals as goal
use Rattle.wq_crawl.proofs.lister.Lister.list_again.Goals.{in-Rows+in-Ok-of_lawful, in-Rows+in-Err-of_lawful, in-Patches+in-None, in-Patches+in-Some}

pub returns-clause-listed : goal.returns-clause-listed
returns-clause-listed g c events of_table =
    let it = c.self.inside in
    let text = c.args.root.now in
    let before = crawler_at events c.args.self.now in
    let mid = crawler_at events c.listing.new.self in
    let clock = g.S.Seconds.told c.second-second.new.self in
    let second = c.second-second.result in
    let fits : SFits w64 second = search rules in
    let back = to_z-of_z w64 second fits in
    let lister : ListerData = record { clock = g.S.Seconds.told it.seconds; listed = g.T.Tree.listed it.tree; failed = g.T.Tree.failed it.tree; whole = g.T.Tree.whole it.tree } in
    let shown : CrawlerData = crawler_at events lister in
    let is : shown ≡ mid = ap (crawler_at events) c.self.view_is in
    let after : CrawlerData = record shown { clock = clock } in
    elim c.match-listing-2.branch [
      | in-Rows+in-Ok-of_lawful w ↦
          let again : ListsAgain c.args.number text before (Rows w.in-Rows.rows) mid = subst (λ l. ListsAgain c.args.number text before l mid) w.in-Rows.is (c.in-Ok.ensures.listed events of_table) in
          subst (λ r. MatchResult r (λ relisted. IsRelisted c.args.number text before relisted after) (λ fault. IsNoPassOver text before fault after)) (sym w.result-is)
          (rows_over c.args.number text before before mid shown clock second refl is c.listing.ensures.clock c.second-second.ensures w.in-Rows.rows.items w.in-Ok-of_lawful.pass again.0
          (subst (λ z. listing_fault w.in-Rows.rows.items z ≡ None) back w.in-Ok-of_lawful.ensures.fault)
          (w.in-Ok-of_lawful.ensures.pass ∙ ap (listing_of w.in-Rows.rows.items) back))
      | in-Rows+in-Err-of_lawful w ↦
          let again : ListsAgain c.args.number text before (Rows w.in-Rows.rows) mid = subst (λ l. ListsAgain c.args.number text before l mid) w.in-Rows.is (c.in-Ok.ensures.listed events of_table) in
          subst (λ r. MatchResult r (λ relisted. IsRelisted c.args.number text before relisted after) (λ fault. IsNoPassOver text before fault after)) (sym w.result-is)
          (rows_fault c.args.number text before before mid shown clock second refl is c.listing.ensures.clock c.second-second.ensures w.in-Rows.rows.items w.in-Err-of_lawful.fault again.0 again.1 w.in-Err-of_lawful.ensures.whole
          (ap (listing_fault w.in-Rows.rows.items) (sym back) ∙ w.in-Err-of_lawful.ensures.fault))
      | in-Patches+in-None w ↦
          let again : ListsAgain c.args.number text before (Patches w.in-Patches.patches) mid = subst (λ l. ListsAgain c.args.number text before l mid) w.in-Patches.is (c.in-Ok.ensures.listed events of_table) in
          subst (λ r. MatchResult r (λ relisted. IsRelisted c.args.number text before relisted after) (λ fault. IsNoPassOver text before fault after)) (sym w.result-is)
          (subst (λ z. IsRelisted c.args.number text before (Patched w.in-Patches.patches z) after) (sym back)
          (patches_over c.args.number text before before mid shown clock second refl is c.listing.ensures.clock c.second-second.ensures w.in-Patches.patches again
          (λ records ps rise fit lawful few. sym w.in-None.is ∙ w.fault_of_patches.ensures.fault records ps rise fit lawful few ∙ ap (listing_fault (patched records ps)) back)
          (subst (λ z. IsTrue (is_count z)) back (w.fault_of_patches.ensures.second w.in-None.is))))
      | in-Patches+in-Some w ↦
          let again : ListsAgain c.args.number text before (Patches w.in-Patches.patches) mid = subst (λ l. ListsAgain c.args.number text before l mid) w.in-Patches.is (c.in-Ok.ensures.listed events of_table) in
          subst (λ r. MatchResult r (λ relisted. IsRelisted c.args.number text before relisted after) (λ fault. IsNoPassOver text before fault after)) (sym w.result-is)
          (patches_fault c.args.number text before before mid shown clock second refl is c.listing.ensures.clock c.second-second.ensures w.in-Patches.patches w.in-Some.fault again
          (subst (λ o. IfSome o (λ fault. IsTrue (is_of_whole fault))) w.in-Some.is w.fault_of_patches.ensures.whole)
          (λ records ps rise fit lawful few. sym w.in-Some.is ∙ w.fault_of_patches.ensures.fault records ps rise fit lawful few ∙ ap (listing_fault (patched records ps)) back))
    ]
