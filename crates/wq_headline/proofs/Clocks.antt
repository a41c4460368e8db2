-- The view that a clock names.
use Rattle.std.proofs.Common.{◌≡◌, List, [], ◌∷◌, ◌++◌, take, length, refl, ap, sym, subst, ◌∙◌}
use Rattle.std.proofs.lemmas.List.Elements.{filter_map-append}
use Rattle.wq_live.specs.Event.{pass_in, passes_over}
use Rattle.wq_view.specs.View.{IsViewOf}
use Rattle.wq_headline.specs.Exact.{ClocksNameViews}

-- the first of two lists, by its length
take_front : {A : Type 0} (xs ys : List A) → take (length xs) (xs ++ ys) ≡ xs
take_front [] ys = refl
take_front (x ∷ xs) ys = ap (λ l. x ∷ l) (take_front xs ys)

pub clocks_name_views : ClocksNameViews
clocks_name_views number events later view (rest, is) viewed =
    let passes : passes_over number later ≡ passes_over number events ++ passes_over number rest =
    ap (passes_over number) (sym is) ∙ filter_map-append (pass_in number) events rest in
    subst (λ h. IsViewOf h view)
    (sym (ap (λ n. take n (passes_over number later)) viewed.tick ∙ ap (take (length (passes_over number events))) passes
    ∙ take_front (passes_over number events) (passes_over number rest)))
    viewed
