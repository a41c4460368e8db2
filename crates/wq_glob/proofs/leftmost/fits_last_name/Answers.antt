use Rattle.std.proofs.Common.{◌∙◌, sym}
use Rattle.wq_glob.proofs.NameLemmas.{name_is, name_no}
use Rattle.wq_glob.proofs.leftmost.fits_last_name.Goals as goal

pub returns-then-not-branch : goal.returns-then-not-branch
returns-then-not-branch c =
    let last = c.last_name-name.ensures in
    sym
    (name_no c.args.rules.now c.args.steps.now c.args.text.now c.args.k c.requires.below c.requires.stay c.last_name-name.result last.within last.name c.args.from last.after last.slash
    (sym c.in_ok-fits_names.ensures ∙ c.if-not-branch.true))

pub returns : goal.returns
returns c =
    let last = c.last_name-name.ensures in
    let hidden = c.first_hidden.ensures in
    name_is c.args.rules.now c.args.steps.now c.args.text.now c.args.k c.requires.below c.requires.stay c.last_name-name.result last.within last.name c.args.from last.after last.slash
    c.first_hidden.result hidden.after hidden.within hidden.shown hidden.stops (sym c.in_ok-fits_names.ensures ∙ c.if-not-branch.false)
