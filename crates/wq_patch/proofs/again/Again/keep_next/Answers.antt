-- The next record's file was found.
use Rattle.std.proofs.Common.{rules, ◌≡◌, ◌+◌, ◌++◌, ◌∷◌, [], drop, length, take, ap, ◌∙◌, arith}
use Rattle.wq_view.specs.SeenRows.{seen_row}
use Rattle.wq_patch.specs.Again.{AgainData}
use Rattle.wq_patch.specs.PatchMaker.{records_to_come, rows_made}
use Rattle.wq_view.specs.Records.{records_left}
use Rattle.wq_view.specs.declared.patch.Patch.{Patch}
use Rattle.wq_patch.proofs.Passed.{longer, next_left, one_seen}
use Rattle.wq_patch.proofs.again.Again.keep_next.Goals as goal

pub overflow_add-self-in-Some : goal.overflow_add-self-in-Some
overflow_add-self-in-Some c = omega (arith, c.requires, c.self.invariant.4, ap (λ (a : AgainData). length a.found) c.self.view_is)

pub invariant_of-self : goal.invariant_of-self
invariant_of-self c =
    let it = c.self.inside in
    let records = take it.count (records_left it.all) in
    let next = next_left (records_left it.all) (records_left it.left) (records_left c.in-Some.left) c.in-Some.known.now it.passed it.count c.self.invariant.0 c.self.invariant.1 c.in-Some.ensures.some.0 c.in-Some.ensures.some.1 in
    let come : records_to_come records it.made ≡ c.in-Some.known.now ∷ drop (it.passed + 1) records = c.self.invariant.2 ∙ next.0 in
    let row = one_seen (records_to_come records it.made) (drop (it.passed + 1) records) c.in-Some.known.now come (c.is_as.ensures.exists c.if-is_as.true) in (
      next.2,
      next.1,
      c.keep.ensures.left records ∙ ap (drop 1) come,
      c.keep.ensures.within records c.self.invariant.3 (omega (arith, ap length come)),
      longer (rows_made records it.made) _ (seen_row c.in-Some.known.now) it.len c.self.invariant.4 (c.keep.ensures.rows records ∙ ap (λ rows. rows_made records it.made ++ rows) row),
      omega (arith, c.keep.ensures.tail, c.self.invariant.5),
      omega (arith, ap (λ (p : Patch). p.replaced) c.keep.ensures.last, c.self.invariant.6),
    )

pub returns-else-is_full-clause-kept : goal.returns-else-is_full-clause-kept
returns-else-is_full-clause-kept c is =
    let it = c.self.inside in
    let records = take it.count (records_left it.all) in
    let next = next_left (records_left it.all) (records_left it.left) (records_left c.in-Some.left) c.in-Some.known.now it.passed it.count c.self.invariant.0 c.self.invariant.1 c.in-Some.ensures.some.0 c.in-Some.ensures.some.1 in
    let come : records_to_come records it.made ≡ c.in-Some.known.now ∷ drop (it.passed + 1) records = c.self.invariant.2 ∙ next.0 in
    let row = one_seen (records_to_come records it.made) (drop (it.passed + 1) records) c.in-Some.known.now come (c.is_as.ensures.exists c.if-is_as.true) in
    let same : seen_row c.in-Some.known.now ≡ record { name = c.args.name.now; kind = c.args.kind; size = c.args.size; mtime_ms = c.args.mtime_ms } = search rules in
    c.keep.ensures.rows records
    ∙ ap (λ rows. rows_made records it.made ++ rows) (row ∙ ap (λ r. r ∷ []) same)
    ∙ ap (λ (a : AgainData). a.found ++ (record { name = c.args.name.now; kind = c.args.kind; size = c.args.size; mtime_ms = c.args.mtime_ms } ∷ [])) c.self.view_is
