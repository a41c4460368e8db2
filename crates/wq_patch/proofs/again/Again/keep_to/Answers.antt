-- The run of records is kept.
use Rattle.std.proofs.Common.{◌≡◌, ◌+◌, ◌-◌, ◌≤◌, IsTrue, drop, length, length-append, take, ap, sym, subst, ◌∙◌, arith}
use Rattle.std.specs.List.{list_all}
use Rattle.wq_record.specs.Seen.{is_lawful_row}
use Rattle.wq_view.specs.SeenRows.{seen_rows}
use Rattle.wq_patch.specs.Again.{AgainData}
use Rattle.wq_patch.specs.PatchMaker.{records_to_come, rows_made}
use Rattle.wq_view.specs.Records.{records_left}
use Rattle.wq_view.specs.declared.patch.Patch.{Patch}
use Rattle.std.proofs.lemmas.List.{drop-drop, length-take}
use Rattle.wq_patch.proofs.Passed.{run_come, run_there}
use Rattle.wq_patch.proofs.again.Again.keep_to.Goals as goal

pub invariant_of-self : goal.invariant_of-self
invariant_of-self c =
    let it = c.self.inside in
    let all = records_left it.all in
    let records = take it.count all in
    let n = c.args.end - c.args.start in
    let sum : it.passed + n ≡ c.args.end = omega (arith, c.if-self-start.false, c.if-end-start.false) in
    let bound : it.passed + n ≤ it.count = omega (arith, sum, c.if-self-end.false) in
    let run : take n (records_to_come records it.made) ≡ take n (records_left it.left) = ap (take n) c.self.invariant.2 ∙ run_come all (records_left it.left) it.passed it.count n bound c.self.invariant.1 in
    let there = run_there all (records_left it.left) it.passed it.count n bound c.self.invariant.1 (omega (arith, c.run-run.ensures.len, c.if-run-end.false, length-take n (records_left it.left))) in (
      omega (arith, c.if-self-end.false),
      c.run-run.ensures.left ∙ ap (drop n) c.self.invariant.1 ∙ drop-drop n it.passed all ∙ ap (λ m. drop m all) sum,
      c.keep.ensures.left records ∙ ap (drop n) c.self.invariant.2 ∙ drop-drop n it.passed records ∙ ap (λ m. drop m records) sum,
      c.keep.ensures.within records c.self.invariant.3 (omega (arith, there, ap length c.self.invariant.2)),
      omega (arith, c.self.invariant.4, c.run-run.ensures.existing, ap length (c.keep.ensures.rows records), ap (λ rs. length (seen_rows rs)) run, length-append (rows_made records it.made) (seen_rows (take n (records_to_come records it.made)))),
      omega (arith, c.keep.ensures.tail, c.self.invariant.5, sum),
      omega (arith, ap (λ (p : Patch). p.replaced) c.keep.ensures.last, c.self.invariant.6, sum),
    )

pub returns-clause-few : goal.returns-clause-few
returns-clause-few c is =
    let it = c.self.inside in
    let all = records_left it.all in
    let records = take it.count all in
    let n = c.args.end - c.args.start in
    let sum : it.passed + n ≡ c.args.end = omega (arith, c.if-self-start.false, c.if-end-start.false) in
    let bound : it.passed + n ≤ it.count = omega (arith, sum, c.if-self-end.false) in
    let run : take n (records_to_come records it.made) ≡ take n (records_left it.left) = ap (take n) c.self.invariant.2 ∙ run_come all (records_left it.left) it.passed it.count n bound c.self.invariant.1 in
    omega (arith, c.self.invariant.4, c.run-run.ensures.existing, ap length (c.keep.ensures.rows records), ap (λ rs. length (seen_rows rs)) run, length-append (rows_made records it.made) (seen_rows (take n (records_to_come records it.made))), c.if-self-most.false, c.if-most-self.false)

pub returns-clause-lawful : goal.returns-clause-lawful
returns-clause-lawful c is =
    let it = c.self.inside in
    let all = records_left it.all in
    let n = c.args.end - c.args.start in
    let begin : it.passed ≡ c.args.start = omega (arith, c.if-self-start.false) in
    let bound : it.passed + n ≤ it.count = omega (arith, c.if-self-start.false, c.if-end-start.false, c.if-self-end.false) in
    let run = run_come all (records_left it.left) it.passed it.count n bound c.self.invariant.1 in
    subst (λ (a : AgainData). IsTrue (list_all is_lawful_row (seen_rows (take n (drop c.args.start a.records))))) c.self.view_is
    (subst (λ start. IsTrue (list_all is_lawful_row (seen_rows (take n (drop start (take it.count all)))))) begin
    (subst (λ rs. IsTrue (list_all is_lawful_row (seen_rows rs))) (sym run) c.run-run.ensures.lawful))
