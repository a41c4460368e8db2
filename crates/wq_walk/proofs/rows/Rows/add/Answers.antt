-- The row was added, or memory ran out for that.
use Rattle.std.proofs.Common.{◌∷◌, [], refl, ◌∙◌, arith}
use Rattle.std.proofs.lemmas.Bool.{and_from}
use Rattle.wq_view.specs.Limit.{max_listing_rows}
use Rattle.wq_record.specs.Seen.{is_lawful_row}
use Rattle.wq_walk.specs.Found.{found_rows}
use Rattle.wq_walk.specs.Part.{is_row_in}
use Rattle.wq_walk.proofs.Kept.{grown_all, grown_few}
use Rattle.wq_walk.proofs.rows.Rows.add.Goals as goal

pub invariant_of-self : goal.invariant_of-self
invariant_of-self c =
    let before = c.args.self.now in
    let old = found_rows before.found in
    let new = found_rows c.add.new.self in
    let more = c.args.row ∷ [] in
    record {
      lawful = grown_all is_lawful_row old new more c.add.result c.add.ensures.row c.add.ensures.failed before.lawful (and_from _ _ c.requires.lawful refl);
      few = grown_few old new more c.add.result max_listing_rows c.add.ensures.row c.add.ensures.failed (omega (arith, c.len.ensures, c.if-len-ge-MAX_LISTING_ROWS.false));
      within = grown_all (is_row_in before.piece.part) old new more c.add.result c.add.ensures.row c.add.ensures.failed before.within (and_from _ _ c.requires.within refl);
      of_piece = c.add.ensures.records ∙ before.of_piece;
    }
