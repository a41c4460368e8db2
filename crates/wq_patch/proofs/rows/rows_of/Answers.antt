-- A record whose file exists, one whose file does not, and none.
use Rattle.std.proofs.Common.{rules, ◌≡◌, ◌++◌, ◌∷◌, [], take, ap, sym, ◌∙◌, arith}
use Rattle.std.proofs.lemmas.List.{append-nil}
use Rattle.wq_view.specs.SeenRows.{seen_row, seen_rows}
use Rattle.wq_record.specs.RecordData.{RecordData}
use Rattle.wq_view.specs.Records.{records_left}
use Rattle.wq_view.proofs.SeenAgain.{dropped_one, gone_next, none_next, seen_next}
use Rattle.wq_patch.proofs.rows.rows_of.Goals as goal
use Rattle.wq_patch.proofs.rows.rows_of.Goals.{then-record+in_ok-row_of+in_ok-push, else-record, else-loop-test, then-loop-test+in_default}

pub loop-preserved : goal.loop-preserved
loop-preserved c =
    let all = records_left c.args.records in
    let left = records_left c.loop.left in
    let r = c.in-Some.record.now in
    let rest = records_left c.next.new.self in
    record {
      left = dropped_one all left c.loop.counter r rest c.loop.invariant.left c.in-Some.ensures.steps;
      made = elim c.if-record.branch [
        | then-record+in_ok-row_of+in_ok-push w ↦
            let there = ap (λ (r : RecordData). r.exists) (sym c.record.view_is) ∙ w.if-record.true in
            let pushed : c.if-record.rows.items ≡ c.loop.rows.items ++ (seen_row r ∷ []) = search rules in
            pushed ∙ ap (λ rows. rows ++ (seen_row r ∷ [])) c.loop.invariant.made
            ∙ sym (seen_next all left c.loop.counter r rest c.loop.invariant.left c.in-Some.ensures.steps there)
        | else-record w ↦
            let gone = ap (λ (r : RecordData). r.exists) (sym c.record.view_is) ∙ w.if-record.false in
            let same : c.if-record.rows.items ≡ c.loop.rows.items = search rules in
            same ∙ c.loop.invariant.made ∙ sym (append-nil (seen_rows (take c.loop.counter all)))
            ∙ sym (gone_next all left c.loop.counter r rest c.loop.invariant.left c.in-Some.ensures.steps gone)
      ];
    }

pub returns : goal.returns
returns c =
    let all = records_left c.args.records in
    c.loop.invariant.made ∙ elim c.loop-test.branch [
      | else-loop-test w ↦ ap (λ n. seen_rows (take n all)) (omega (arith, c.loop.auto.counter-end, w.loop-test.false))
      | then-loop-test+in_default w ↦ ap seen_rows (sym (none_next all (records_left c.loop.left) c.loop.counter c.args.passed c.loop.invariant.left w.in_default.ensures.steps.0 (omega (arith, w.loop-test.true))))
    ]
