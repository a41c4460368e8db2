use Rattle.std.proofs.Common.{◌≡◌, ◌∙◌, sym}
use Rattle.wq_glob.specs.Pattern.{fits}
use Rattle.wq_glob.proofs.PatternLemmas.{matched, steps_few, fits_cuts, cuts_fits}
use Rattle.wq_glob.proofs.pattern.Pattern.fits.Goals as goal
use Rattle.wq_glob.proofs.pattern.Pattern.fits.Goals.{After-fits_of}

tested : (c : After-fits_of) → c.fits_of.result ≡ fits c.args.self.now c.args.text.now
tested c = matched c.args.self.now c.args.text.now _ _ c.self.inside.steps.items c.as_slice.result.now _ c.self.view_is c.self.invariant.0 c.as_slice.ensures.value (λ i. (c.type_inv.text i).fits) c.fits_of.ensures

pub fits_of-requires-clause-small : goal.fits_of-requires-clause-small
fits_of-requires-clause-small c =
    let few = steps_few c.args.self.now _ _ c.self.inside.steps.items c.self.view_is c.self.invariant.0 in
    rw c.as_slice.ensures.value few

pub returns-clause-test : goal.returns-clause-test
returns-clause-test c = tested c

pub returns-clause-cuts : goal.returns-clause-cuts
returns-clause-cuts c = (
  λ yes. fits_cuts c.args.self.now c.args.text.now (sym (tested c) ∙ yes),
  λ cuts. tested c ∙ cuts_fits c.args.self.now c.args.text.now cuts,
)
