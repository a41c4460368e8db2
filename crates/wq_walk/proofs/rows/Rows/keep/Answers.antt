-- The row was added, or nothing changed.
use Rattle.std.proofs.Common.{◌∷◌, [], ◌∙◌, arith, w64}
use mir.Val.{to_z, of_z}
use Rattle.wq_view.specs.Limit.{max_listing_rows}
use Rattle.wq_record.specs.Seen.{SeenData, is_lawful_row}
use Rattle.wq_walk.specs.Found.{found_rows}
use Rattle.wq_walk.specs.Part.{is_row_in}
use Rattle.wq_walk.proofs.Kept.{kept_all_or, kept_few_or, one_passes, passes_anyway}
use Rattle.wq_walk.proofs.rows.Rows.keep.Goals as goal

pub invariant_of-self : goal.invariant_of-self
invariant_of-self c =
    let before = c.args.self.now in
    let old = found_rows before.found in
    let new = found_rows c.keep.new.self in
    let row : SeenData = record { name = c.args.name.now; kind = c.stat.inside.kind; size = to_z w64 (of_z w64 c.stat.inside.size); mtime_ms = to_z w64 (of_z w64 c.stat.inside.mtime_ms) } in
    record {
      lawful = kept_all_or is_lawful_row old new (row ∷ []) c.keep.result before.lawful c.keep.ensures.kept (one_passes is_lawful_row row c.keep.result c.keep.ensures.lawful) c.keep.ensures.same c.keep.ensures.failed;
      few = kept_few_or old new row c.keep.result max_listing_rows (omega (arith, c.len.ensures, c.if-len-ge-MAX_LISTING_ROWS.false)) c.keep.ensures.kept c.keep.ensures.same c.keep.ensures.failed;
      within = kept_all_or (is_row_in before.piece.part) old new (row ∷ []) c.keep.result before.within c.keep.ensures.kept (one_passes (is_row_in before.piece.part) row c.keep.result (passes_anyway (is_row_in before.piece.part) row c.keep.result c.requires)) c.keep.ensures.same c.keep.ensures.failed;
      of_piece = c.keep.ensures.records ∙ before.of_piece;
    }
