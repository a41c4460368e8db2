-- The patches of the one piece.
use Rattle.std.proofs.Common.{◌≤◌, IsTrue, length, subst, sym, ap, ◌∙◌}
use Rattle.std.specs.List.{list_all}
use Rattle.wq_view.specs.Limit.{max_listing_rows}
use Rattle.wq_patch.specs.PatchMaker.{IsJoinedTo}
use Rattle.wq_view.specs.Patch.{patched}
use Rattle.wq_record.specs.Seen.{is_lawful_row}
use Rattle.wq_walk.specs.Found.{found_rows}
use Rattle.wq_walk.specs.Tiles.{piece_records}
use Rattle.wq_walk.proofs.Joined.{one_piece}
use Rattle.wq_walk.proofs.glance.listing_of.Goals as goal

pub returns-clause-all : goal.returns-clause-all
returns-clause-all c =
    let rows = c.args.rows in
    let records = piece_records rows.piece in
    let patches = c.put.new.all.items in
    let joined = subst (λ before. IsJoinedTo records (found_rows rows.found) 0 before patches c.in_ok-put.field-0) c.new-patches.ensures.items c.in_ok-put.ensures in
    c.in_ok-patched_listing.ensures.all ∙ ap (λ rs. patched rs patches) (sym c.requires) ∙ one_piece records (found_rows rows.found) patches c.in_ok-put.field-0 joined

pub returns-clause-lawful : goal.returns-clause-lawful
returns-clause-lawful c =
    let rows = c.args.rows in
    let records = piece_records rows.piece in
    let patches = c.put.new.all.items in
    let joined = subst (λ before. IsJoinedTo records (found_rows rows.found) 0 before patches c.in_ok-put.field-0) c.new-patches.ensures.items c.in_ok-put.ensures in
    subst (λ rs. IsTrue (list_all is_lawful_row rs))
    (sym (c.in_ok-patched_listing.ensures.all ∙ ap (λ rs. patched rs patches) (sym c.requires) ∙ one_piece records (found_rows rows.found) patches c.in_ok-put.field-0 joined)) rows.lawful

pub returns-clause-few : goal.returns-clause-few
returns-clause-few c =
    let rows = c.args.rows in
    let records = piece_records rows.piece in
    let patches = c.put.new.all.items in
    let joined = subst (λ before. IsJoinedTo records (found_rows rows.found) 0 before patches c.in_ok-put.field-0) c.new-patches.ensures.items c.in_ok-put.ensures in
    subst (λ rs. length rs ≤ max_listing_rows)
    (sym (c.in_ok-patched_listing.ensures.all ∙ ap (λ rs. patched rs patches) (sym c.requires) ∙ one_piece records (found_rows rows.found) patches c.in_ok-put.field-0 joined)) rows.few
