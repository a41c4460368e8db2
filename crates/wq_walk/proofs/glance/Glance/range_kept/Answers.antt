-- the view has the directory, it exists, and it is noted
use Rattle.std.proofs.Common.{◌≡◌, IsTrue, rules, ap, ◌∙◌}
use Rattle.wq_record.specs.RecordData.{record_named}
use Rattle.wq_walk.specs.Found.{found_rows}
use Rattle.wq_walk.specs.Walk.{name_of_path}
use Rattle.wq_walk.proofs.Glancing.{unchanged}
use Rattle.wq_walk.proofs.glance.Glance.range_kept.Goals as goal

pub returns-clause-unchanged : goal.returns-clause-unchanged
returns-clause-unchanged c =
    let at = c.args.self.now in
    let records = at.last.now.records in
    let name : c.in_ok-name.name.now ≡ name_of_path at.walk.path.root_len at.walk.path.bytes = search rules in
    let noted : IsTrue c.is_unchanged.result = search rules in
    let is : IsTrue c.is_directory.result = search rules in
    unchanged records (found_rows at.walk.rows.found) _ c.in_ok-at.at c.get.result.now
    (c.in_ok-at.ensures.found.1 ∙ ap (λ n. record_named n records) name) c.get.ensures
    (c.is_directory.ensures.exists is) (c.is_directory.ensures.kind is) (c.is_unchanged.ensures noted)
