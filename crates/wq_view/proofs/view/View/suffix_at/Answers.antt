-- The one text alone.
use Rattle.std.proofs.Common.{◌≡◌, length, slice_get, ap, ◌∙◌}
use Rattle.wq_view.specs.Chunk.{records_in}
use Rattle.wq_view.specs.Position.{positions_of}
use Rattle.wq_view.specs.Suffix.{has_suffix}
use Rattle.wq_view.proofs.PassOrder.{there_within}
use Rattle.wq_view.proofs.Positions.{positions_are_there}
use Rattle.wq_view.proofs.SuffixPlaces.{positions_of_one}
use Rattle.wq_view.proofs.view.View.suffix_at.Goals as goal

value : (c : goal.After-nth_found) → c.nth_found.result ≡ slice_get (positions_of (has_suffix c.args.text.now) c.args.self.now.records) c.args.k
value c =
    c.nth_found.ensures
    ∙ ap (λ ps. slice_get ps c.args.k) (positions_of_one c.args.text.now (records_in c.slots.result.now))
    ∙ ap (λ rs. slice_get (positions_of (has_suffix c.args.text.now) rs) c.args.k) (c.slots.ensures.records ∙ ap (λ v. v.records) c.self.view_is)

pub returns-clause-value : goal.returns-clause-value
returns-clause-value c = value c

pub returns-clause-bound : goal.returns-clause-bound
returns-clause-bound c =
    let rs = c.args.self.now.records in
    there_within (length rs) (positions_of (has_suffix c.args.text.now) rs) c.args.k c.nth_found.result (value c) (positions_are_there (has_suffix c.args.text.now) rs).0
