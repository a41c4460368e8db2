-- the glance looks at a name, keeps what the view has below a directory, or enters it
use Rattle.std.proofs.Common.{◌≡◌, inl, inr, ap, refl, subst, sym, ◌∙◌, ◌++◌, ◌∷◌, [], map}
use Rattle.std.proofs.lemmas.List.{map-append}
use Rattle.wq_record.specs.Seen.{Stat}
use Rattle.wq_walk.specs.declared.rows.Rows.{Rows}
use Rattle.wq_walk.specs.declared.walk.Walk.{Walk}
use Rattle.wq_disk.specs.Directory.{data_of, entry_at}
use Rattle.wq_walk.specs.State.{walk_of}
use Rattle.wq_walk.specs.Found.{found_rows}
use Rattle.wq_walk.specs.Glance.{IsGlanceStep, ListAll}
use Rattle.wq_walk.specs.Walk.{name_of_path, rows_of_file}
use Rattle.wq_walk.proofs.Glancing.{keeps, listed_last, listed_more, of_given, walks}
use Rattle.wq_walk.proofs.Walking.{enters, looks, path_of}
use Rattle.wq_walk.proofs.glance.Glance.take.Goals as goal

pub note_directory-requires-clause-listed : goal.note_directory-requires-clause-listed
note_directory-requires-clause-listed g c =
    let at = c.args.self.now in
    let name = name_of_path c.look.new.self.path.root_len c.look.new.self.path.bytes in
    let old = found_rows at.walk.rows.found in
    let new = found_rows c.look.new.self.rows.found in
    listed_last at.walk.rows.piece.part name c.in-Some.stat old new at.part
    (of_given (λ (stat : Stat). new ≡ old ++ rows_of_file at.walk.rows.piece.part name stat) c.in_ok-stat-in-Look.field-0 c.in-Some.stat c.in-Some.is c.in_ok-stat-in-Look.ensures.entered)

pub note_directory-requires-clause-unchanged : goal.note_directory-requires-clause-unchanged
note_directory-requires-clause-unchanged g c =
    let at = c.args.self.now in
    let look = c.in_ok-stat-in-Look.ensures.looked in
    listed_more at.last.now.records (found_rows at.walk.rows.found) (found_rows c.look.new.self.rows.found) look.0 at.unchanged.items at.unchanged.items look.3 refl c.requires

pub returns-in_ok-note_directory-in-Look-clause-unchanged : goal.returns-in_ok-note_directory-in-Look-clause-unchanged
returns-in_ok-note_directory-in-Look-clause-unchanged g c =
    let at = c.args.self.now in
    subst (λ (w : Walk). ListAll at.last.now.records (found_rows w.rows.found) c.note_directory.new.self.unchanged.items)
    (sym c.in_ok-note_directory-in-Look.ensures.walk) c.in_ok-note_directory-in-Look.ensures.unchanged

pub returns-in_default-clause-unchanged : goal.returns-in_default-clause-unchanged
returns-in_default-clause-unchanged g c =
    let at = c.args.self.now in
    let look = c.in_ok-stat-in-Look.ensures.looked in
    listed_more at.last.now.records (found_rows at.walk.rows.found) (found_rows c.look.new.self.rows.found) look.0 at.unchanged.items at.unchanged.items look.3 refl c.requires

pub returns-in_ok-keep-in-Some-range_kept-clause-unchanged : goal.returns-in_ok-keep-in-Some-range_kept-clause-unchanged
returns-in_ok-keep-in-Some-range_kept-clause-unchanged g c =
    let at = c.args.self.now in
    listed_more at.last.now.records (found_rows at.walk.rows.found) (found_rows c.keep.new.self.walk.rows.found) _ at.unchanged.items c.keep.new.self.unchanged.items
    c.in_ok-keep-in-Some-range_kept.ensures.rows (ap (λ u. u.items) c.in_ok-keep-in-Some-range_kept.ensures.unchanged) c.requires

pub returns-in_ok-enter-in-None-clause-unchanged : goal.returns-in_ok-enter-in-None-clause-unchanged
returns-in_ok-enter-in-None-clause-unchanged g c =
    let at = c.args.self.now in
    subst (λ (r : Rows). ListAll at.last.now.records (found_rows r.found) at.unchanged.items) (sym c.in_ok-enter-in-None.ensures.rows) c.requires

pub returns-in_ok-note_directory-in-Look-clause-goes : goal.returns-in_ok-note_directory-in-Look-clause-goes
returns-in_ok-note_directory-in-Look-clause-goes g c goes =
    let says = g.D.Disk.says c.args.disk.now in
    let has = g.D.Disk.has c.args.disk.now in
    let at = c.args.self.now in
    let root_len = at.walk.path.root_len in
    let part = at.walk.rows.piece.part in
    let before = walk_of at.walk.above.items c.args.here.now at.walk.rows in
    let step = walks says has at.last.now.records at.recent.now root_len part before (walk_of c.look.new.self.above.items c.look.new.here c.look.new.self.rows) at.part
    (inl (looks says root_len part (map data_of at.walk.above.items) (map data_of c.look.new.self.above.items)
    (data_of c.args.here.now) (data_of c.step.new.self) (data_of c.look.new.here) (entry_at c.step.new.self c.in-Look.name) (found_rows at.walk.rows.found) (found_rows c.look.new.self.rows.found)
    c.in-Look.ensures (ap (λ above. map data_of above.items) c.in_ok-stat-in-Look.ensures.above) c.in_ok-stat-in-Look.ensures.looked)) in
    subst (λ (w : Walk). IsGlanceStep says has at.last.now.records at.recent.now root_len before (walk_of w.above.items c.look.new.here w.rows)) (sym c.in_ok-note_directory-in-Look.ensures.walk) step

pub returns-in_default-clause-goes : goal.returns-in_default-clause-goes
returns-in_default-clause-goes g c goes =
    let says = g.D.Disk.says c.args.disk.now in
    let has = g.D.Disk.has c.args.disk.now in
    let at = c.args.self.now in
    let root_len = at.walk.path.root_len in
    let part = at.walk.rows.piece.part in
    let before = walk_of at.walk.above.items c.args.here.now at.walk.rows in
    walks says has at.last.now.records at.recent.now root_len part before (walk_of c.look.new.self.above.items c.look.new.here c.look.new.self.rows) at.part
    (inl (looks says root_len part (map data_of at.walk.above.items) (map data_of c.look.new.self.above.items)
    (data_of c.args.here.now) (data_of c.step.new.self) (data_of c.look.new.here) (entry_at c.step.new.self c.in-Look.name) (found_rows at.walk.rows.found) (found_rows c.look.new.self.rows.found)
    c.in-Look.ensures (ap (λ above. map data_of above.items) c.in_ok-stat-in-Look.ensures.above) c.in_ok-stat-in-Look.ensures.looked))

pub returns-in_ok-keep-in-Some-range_kept-clause-goes : goal.returns-in_ok-keep-in-Some-range_kept-clause-goes
returns-in_ok-keep-in-Some-range_kept-clause-goes g c goes =
    let says = g.D.Disk.says c.args.disk.now in
    let has = g.D.Disk.has c.args.disk.now in
    let at = c.args.self.now in
    let name = entry_at c.step.new.self c.in-Enter.name in
    let path = path_of c.set.new.self.bytes c.path.result.now (data_of c.step.new.self).path c.name.result.now name c.in_ok-set-in-Enter.ensures.path c.path.ensures c.name.ensures in
    keeps says has at.last.now.records at.recent.now at.walk.path.root_len c.set.new.self.root_len (map data_of at.walk.above.items) (map data_of c.keep.new.self.walk.above.items)
    (data_of c.args.here.now) (data_of c.step.new.self) name c.set.new.self.bytes c.in-Some-range_kept.start c.in-Some-range_kept.end (found_rows at.walk.rows.found) (found_rows c.keep.new.self.walk.rows.found)
    c.in-Enter.ensures (ap (λ above. map data_of above.items) c.in_ok-keep-in-Some-range_kept.ensures.above) c.in_ok-set-in-Enter.ensures.root path
    c.in-Some-range_kept.ensures.unchanged c.in-Some-range_kept.ensures.unasked c.in-Some-range_kept.ensures.range c.in_ok-keep-in-Some-range_kept.ensures.rows

pub returns-in_ok-enter-in-None-clause-goes : goal.returns-in_ok-enter-in-None-clause-goes
returns-in_ok-enter-in-None-clause-goes g c goes =
    let says = g.D.Disk.says c.args.disk.now in
    let has = g.D.Disk.has c.args.disk.now in
    let at = c.args.self.now in
    let part = at.walk.rows.piece.part in
    walks says has at.last.now.records at.recent.now at.walk.path.root_len part (walk_of at.walk.above.items c.args.here.now at.walk.rows) (walk_of c.enter.new.self.above.items c.enter.new.here c.enter.new.self.rows) at.part
    (inr (inl (enters has (map data_of at.walk.above.items) (map data_of c.enter.new.self.above.items)
    (data_of c.args.here.now) (data_of c.step.new.self) (data_of c.enter.new.here) (entry_at c.step.new.self c.in-Enter.name) (found_rows at.walk.rows.found) (found_rows c.enter.new.self.rows.found)
    c.in-Enter.ensures (ap (map data_of) c.in_ok-enter-in-None.ensures.above ∙ map-append data_of at.walk.above.items (c.step.new.self ∷ []))
    (ap (λ rows. (found_rows rows.found)) c.in_ok-enter-in-None.ensures.rows) c.in_ok-enter-in-None.ensures.read)))
