-- The byte after a star, looked for before the bytes that the star takes.
use Rattle.std.proofs.Common.{◌≡◌, ℕ, ◌+◌, ◌<◌, ◌≤◌, false, List, length, drop, get_or, Option, None, Some, MatchOption, ◌∙◌, inl, inr, arith, true}
use Rattle.wq_glob.specs.Leftmost.{IsCutOff, IsFirstWild, IsNowhere, begins_stars, fits_from}
use Rattle.wq_glob.specs.declared.rules.Rules.{Rules}
use Rattle.wq_glob.specs.declared.step.Step.{Step}
use Rattle.wq_glob.specs.declared.step.Step.TheVariants.{Byte}
use Rattle.wq_glob.proofs.LeftmostLemmas.{byte_differs, byte_nowhere, stars_nowhere, stars_stop, stars_to}

module _ (f : Rules) (steps : List Step) (text : List ℕ) (star b : ℕ) (d : Step) (stars : begins_stars (drop star steps) ≡ true) (within : star + 1 < length steps) (is : get_or steps (star + 1) d ≡ Byte b) (from : ℕ) (place : from ≤ length text) where
  -- if the byte is not before one that the star may not take, and is not that one, nothing fits
  cut_off : IsCutOff f text b from → fits_from f steps text star from ≡ false
  cut_off cut =
      let inside = cut.inside in
      stars_to f steps text star stars from cut.end cut.after (omega (arith, inside)) cut.wild
      (λ i after before. byte_differs f steps text (star + 1) i b d within is (omega (arith, inside)) (cut.other i after (omega arith)))
      ∙ stars_stop f steps text star stars cut.end inside (byte_differs f steps text (star + 1) cut.end b d within is inside (cut.other cut.end cut.after (omega arith))) cut.stop

  -- the star goes to the byte, or fits nothing
  pub seeks : (r : Option ℕ) → MatchOption r (IsNowhere f text b from) (IsFirstWild f text b from) →
      MatchOption r (fits_from f steps text star from ≡ false) (λ to. fits_from f steps text star from ≡ fits_from f steps text star to)
  seeks None (inl none) = stars_nowhere f steps text star stars from place (byte_nowhere f steps text (star + 1) from b d within is none)
  seeks None (inr cut) = cut_off cut
  seeks (Some to) first =
      let inside = first.within in
      stars_to f steps text star stars from to first.after inside first.wild
      (λ i after before. byte_differs f steps text (star + 1) i b d within is (omega (arith, inside)) (first.other i after before))
