-- A pass has as many files as rows.
use Rattle.std.proofs.Common.{◌≡◌, ◌==◌, length, sym, ap, ◌∙◌, arith}
use Rattle.std.specs.FinMap.{len}
use Rattle.wq_view.specs.Listing.{PassData}
use Rattle.wq_view.proofs.Whole.{files_are}
use Rattle.wq_view.proofs.listing.Pass.is_empty.Goals as goal

pub returns : goal.returns
returns c =
    let rows = c.self.inside.whole.rows in
    let count : rows.len ≡ length rows.items = omega (arith, rows.ok.0) in
    c.is_empty.ensures ∙ ap (λ n. n == 0) (count ∙ sym (files_are rows.items c.self.invariant.0.rise) ∙ ap (λ (p : PassData). len p.stats) c.self.view_is)
