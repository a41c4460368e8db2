use Rattle.std.proofs.Common.{sym, ◌∙◌}
use Rattle.wq_record.proofs.AfterDot.{no_suffix, no_suffix_after, suffix_after}
use Rattle.wq_record.proofs.name.suffix_of.Goals as goal

pub returns-in_default : goal.returns-in_default
returns-in_default c = sym (no_suffix c.args.name.now c.in_default.ensures)

pub returns-then-name-at-eq46 : goal.returns-then-name-at-eq46
returns-then-name-at-eq46 c =
    let found = c.in-Some.ensures in
    c.split_at.ensures.back
    ∙ suffix_after c.args.name.now c.in-Some.at found.0 c.if-name-at-eq46.true

pub returns-else-name-at-eq46 : goal.returns-else-name-at-eq46
returns-else-name-at-eq46 c =
    let found = c.in-Some.ensures in
    sym (no_suffix_after c.args.name.now c.in-Some.at found.0 found.1 c.if-name-at-eq46.false)
