-- The rows of the run were added.
use Rattle.std.proofs.Common.{IsTrue, length, subst, sym, ap, ◌∙◌, arith, take, drop, ◌-◌}
use Rattle.std.specs.List.{list_all}
use Rattle.wq_view.specs.SeenRows.{seen_rows}
use Rattle.wq_view.specs.Limit.{max_listing_rows}
use Rattle.wq_record.specs.Seen.{is_lawful_row}
use Rattle.wq_walk.specs.Found.{found_rows}
use Rattle.wq_walk.proofs.Kept.{all_in_whole, few_kept, kept_more}
use Rattle.wq_walk.proofs.rows.Rows.pass.Goals as goal

pub invariant_of-self-2 : goal.invariant_of-self-2
invariant_of-self-2 c =
    let before = c.args.self.now in
    let old = found_rows c.drop_to.new.self in
    let new = found_rows c.keep_to.new.self in
    let more = seen_rows (take (c.args.end - c.args.start) (drop c.args.start c.drop_to.new.self.records)) in
    let lawful = subst (λ rows. IsTrue (list_all is_lawful_row rows)) (sym c.drop_to.ensures.found) before.lawful in
    record {
      lawful = kept_more is_lawful_row old new more c.keep_to.result lawful c.keep_to.ensures.rows c.keep_to.ensures.lawful c.keep_to.ensures.same;
      few = few_kept old new c.keep_to.result max_listing_rows (omega (arith, before.few, ap length c.drop_to.ensures.found)) c.keep_to.ensures.few c.keep_to.ensures.same;
      within = all_in_whole before.piece.part c.requires new;
      of_piece = c.keep_to.ensures.records ∙ c.drop_to.ensures.records ∙ before.of_piece;
    }
