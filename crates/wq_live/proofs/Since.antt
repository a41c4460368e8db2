-- A list that was given out, and the list that is published now.
use Rattle.std.proofs.Common.{◌≡◌, ℕ, List, ◌++◌, length, find, Some, option_map, ap, arith, sym, ◌∙◌}
use mathlib.Core.List.{IsPrefix}
use Rattle.std.specs.List.{filter_map}
use Rattle.std.proofs.lemmas.List.Elements.{filter_map-append}
use Rattle.wq_view.specs.View.{ViewData}
use Rattle.wq_live.specs.declared.event.RootEvent.{RootEvent}
use Rattle.wq_live.specs.Event.{pass_in, passes_over}
use Rattle.wq_live.specs.Table.{IsTableOf, RootView, TableData, has_number}
use Rattle.wq_live.proofs.Beginnings.{prefix_whole}
use Rattle.wq_live.proofs.Fullness.{shows}

-- a root whose views have one tick has the passes of then
pub same_passes : (then now : List RootEvent) (before after : TableData) (n : ℕ) (old new : ViewData) → IsPrefix then now → IsTableOf then before → IsTableOf now after
    → Some old ≡ option_map (λ (root : RootView). root.view) (find (has_number n) before.roots) → Some new ≡ option_map (λ (root : RootView). root.view) (find (has_number n) after.roots)
    → new.tick ≡ old.tick → passes_over n now ≡ passes_over n then
same_passes then now before after n old new begins of_then of_now there here ticks =
    let old_is = (shows (λ v. v) then before of_then n (Some old) there).1 in
    let new_is = (shows (λ v. v) now after of_now n (Some new) here).1 in
    let longer : passes_over n then ++ filter_map (pass_in n) begins.0 ≡ passes_over n now = sym (filter_map-append (pass_in n) then begins.0) ∙ ap (passes_over n) begins.1 in
    let lengths : length (passes_over n now) ≡ length (passes_over n then) = sym new_is.tick ∙ ticks ∙ old_is.tick in
    sym (prefix_whole (passes_over n then) (passes_over n now) (filter_map (pass_in n) begins.0, longer) (omega arith))
