-- The patches show the records if the rows of the pass do.
use Rattle.std.proofs.Common.{◌≡◌, Bool, true, false, MatchBool, ◌↔◌, refl, ap, sym, subst, ◌∙◌}
use mathlib.Core.Bool.{false≢true}
use Rattle.wq_view.specs.Change.{MakePass, pass_by}
use Rattle.wq_view.specs.Listing.{PassData}
use Rattle.wq_view.specs.Patching.{patched_shows}
use Rattle.wq_view.specs.View.{ViewData}
use Rattle.wq_view.proofs.PatchedViews.{patches_show}
use Rattle.wq_view.proofs.view.View.shows.Goals as goal

by_test : (b : Bool) (P : Type 0) → (b ≡ true) ↔ P → MatchBool b P (P → ⊥)
by_test true P known = known.0 refl
by_test false P known = λ p. false≢true (known.1 p)

pub returns : goal.returns
returns c history is_view =
    let records = c.args.self.now.records in
    let patches = c.patches.result.now in
    let base : c.args.change.now.base.records ≡ records = ap (λ (v : ViewData). v.records) c.requires in
    let make = subst (λ rs. MakePass rs patches) base c.patches.ensures.make in
    let pass = c.patches.ensures.pass ∙ ap (λ rs. pass_by rs patches c.args.change.now.pass.second) base in
    let known = patches_show records patches is_view.ordered make.fit history c.args.self.now c.args.change.now.pass.second refl is_view in
    let is = c.all_shown.ensures ∙ ap (λ rs. patched_shows rs patches) (c.slots.ensures.records ∙ ap (λ (v : ViewData). v.records) c.self.view_is) in
    let stats = ap (λ (p : PassData). p.stats) pass in
    by_test c.all_shown.result _ (λ e. known.0 (sym is ∙ e) ∙ sym stats, λ e. is ∙ known.1 (e ∙ stats))
