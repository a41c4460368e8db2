-- the record that was found has the name, and says what was listed
use Rattle.std.proofs.Common.{◌≡◌, rules, subst, sym, ◌∙◌}
use Rattle.wq_walk.specs.Found.{found_rows}
use Rattle.wq_walk.specs.Glance.{ListAll}
use Rattle.wq_walk.specs.Walk.{name_of_path}
use Rattle.wq_walk.proofs.Glancing.{found_name, noted}
use Rattle.wq_walk.proofs.glance.Glance.note_directory.Goals as goal

pub returns-in_ok-push-clause-unchanged : goal.returns-in_ok-push-clause-unchanged
returns-in_ok-push-clause-unchanged c =
    let at = c.args.self.now in
    let records = at.last.now.records in
    let rows = found_rows at.walk.rows.found in
    let name : c.in-Ok.name.now ≡ name_of_path at.walk.path.root_len at.walk.path.bytes = search rules in
    let known = c.get.result.now in
    subst (ListAll records rows) (sym c.in_ok-push.ensures.items)
    (noted records rows at.unchanged.items c.in-Some.at known _ c.args.stat.now c.requires.unchanged c.get.ensures
    (found_name c.in-Ok.name.now records c.in-Some.at known c.in-Some.ensures.only c.get.ensures ∙ name) (c.is_as.ensures c.if-is_as.true) c.requires.listed)
