use Rattle.wq_glob.proofs.PatternLemmas.{fits_cuts, cuts_fits}
use Rattle.wq_glob.proofs.law.fits_where_it_can_be_cut.Goals as goal

pub returns : goal.returns
returns c pattern text = (fits_cuts pattern text, cuts_fits pattern text)
