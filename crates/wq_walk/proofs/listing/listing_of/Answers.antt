-- The patches of all pieces.
use Rattle.std.proofs.Common.{◌≡◌, ◌≤◌, rules, IsTrue, length, subst, sym, ap, ◌∙◌}
use Rattle.std.specs.List.{list_all}
use Rattle.wq_view.specs.Limit.{max_listing_rows}
use Rattle.wq_view.specs.Patch.{patched}
use Rattle.wq_record.specs.Seen.{is_lawful_row}
use Rattle.wq_walk.specs.Listed.{walked_rows}
use Rattle.wq_walk.proofs.Joined.{records_tile}
use Rattle.wq_walk.proofs.WalkedAgain.{found_lawful}
use Rattle.wq_walk.proofs.listing.listing_of.Goals as goal

pub returns-clause-all : goal.returns-clause-all
returns-clause-all c =
    let walked = c.args.walked.items in
    let patches = c.in_ok-patches.patches.items in
    c.in_ok-patched_listing.ensures.all ∙ ap (λ rs. patched rs patches) (sym (records_tile c.args.last.now.records walked c.requires)) ∙ c.in_ok-patches.ensures

pub returns-clause-lawful : goal.returns-clause-lawful
returns-clause-lawful c =
    let walked = c.args.walked.items in
    let patches = c.in_ok-patches.patches.items in
    subst (λ rows. IsTrue (list_all is_lawful_row rows))
    (sym (c.in_ok-patched_listing.ensures.all ∙ ap (λ rs. patched rs patches) (sym (records_tile c.args.last.now.records walked c.requires)) ∙ c.in_ok-patches.ensures))
    (found_lawful walked)

pub returns-clause-few : goal.returns-clause-few
returns-clause-few c =
    let walked = c.args.walked.items in
    let is : c.deref.result.now ≡ walked = search rules in
    let patches = c.in_ok-patches.patches.items in
    subst (λ rows. length rows ≤ max_listing_rows)
    (sym (c.in_ok-patched_listing.ensures.all ∙ ap (λ rs. patched rs patches) (sym (records_tile c.args.last.now.records walked c.requires)) ∙ c.in_ok-patches.ensures))
    (subst (λ w. length (walked_rows w) ≤ max_listing_rows) is (c.are_few.ensures c.if-not-are_few.false))
