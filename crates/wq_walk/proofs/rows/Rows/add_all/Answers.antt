-- The rows were added, or memory ran out for that.
use Rattle.std.proofs.Common.{◌+◌, ◌≤◌, length, ◌∙◌, arith}
use Rattle.wq_view.specs.Limit.{max_listing_rows}
use Rattle.wq_record.specs.Seen.{is_lawful_row}
use Rattle.wq_walk.specs.Found.{found_rows}
use Rattle.wq_walk.specs.Part.{is_row_in}
use Rattle.wq_walk.proofs.Kept.{all_in_whole, grown_all, grown_few}
use Rattle.wq_walk.proofs.rows.Rows.add_all.Goals as goal

pub invariant_of-self : goal.invariant_of-self
invariant_of-self c =
    let before = c.args.self.now in
    let old = found_rows before.found in
    let rest = c.args.rest.items in
    let new = found_rows c.add_all.new.self in
    let few : length old + length rest ≤ max_listing_rows = omega (arith, c.len.ensures, c.len-2.ensures, c.saturating_add.ensures, c.if-saturating_add-gt-MAX_LISTING_ROWS.false) in
    record {
      lawful = grown_all is_lawful_row old new rest c.add_all.result c.add_all.ensures.rows c.add_all.ensures.failed before.lawful c.requires.lawful;
      few = grown_few old new rest c.add_all.result max_listing_rows c.add_all.ensures.rows c.add_all.ensures.failed few;
      within = grown_all (is_row_in before.piece.part) old new rest c.add_all.result c.add_all.ensures.rows c.add_all.ensures.failed before.within (all_in_whole before.piece.part c.requires.part rest);
      of_piece = c.add_all.ensures.records ∙ before.of_piece;
    }
