use Rattle.std.proofs.Common.{◌≡◌, ◌≤◌, ◌∙◌, length, sym, ap, lit<, arith, rules}
use Rattle.std.proofs.lemmas.List.{map-append, length-map}
use Rattle.std.proofs.lemmas.Bool.{eqb-true}
use Rattle.std.proofs.lemmas.List.Elements.{All-push}
use Rattle.std.proofs.lemmas.Iterator.Splits.{YieldsList-from_str_split}
use Rattle.std.proofs.lemmas.Iterator.Consumers.{YieldsList-turn, YieldsList-end}
use Rattle.std.specs.Option.{option_and_then}
use Rattle.wq_base.specs.Limit.{max_number}
use Rattle.wq_clock.specs.ClockSpec.{numbers_of, id_from_numbers}
use Rattle.wq_clock.proofs.Parts.{numbers_of-push, numbers_of-bad, length-numbers_of, id-long}
use Rattle.wq_clock.proofs.parser.numbers.Goals as goal

pub returns-then-is_full-clause-refused : goal.returns-then-is_full-clause-refused
returns-then-is_full-clause-refused c =
    let parts = YieldsList-from_str_split {s = c.into_iter-part-iterator.result} 58 c.args.text.now (lit< tt)
    (search rules) (search rules) (search rules) in
    let turn = YieldsList-turn parts c.loop-part.yielded _ c.loop-part.yielded_by _ _
    c.in-Some.part c.in-Some.is c.next.ensures.steps in
    let full : length c.loop-part.numbers.items ≡ 4 = eqb-true _ _ (sym c.is_full.ensures.value ∙ c.if-is_full.true) in
    let count = length-numbers_of _ _ c.loop-part.invariant.2 ∙ length-map c.loop-part.yielded _ in
    id-long _ (omega (arith, turn.0, count, full))

pub returns-in_err-unsigned_number-clause-refused : goal.returns-in_err-unsigned_number-clause-refused
returns-in_err-unsigned_number-clause-refused c =
    let parts = YieldsList-from_str_split {s = c.into_iter-part-iterator.result} 58 c.args.text.now (lit< tt)
    (search rules) (search rules) (search rules) in
    let turn = YieldsList-turn parts c.loop-part.yielded _ c.loop-part.yielded_by _ _
    c.in-Some.part c.in-Some.is c.next.ensures.steps in
    let bad = numbers_of-bad _ _ _ turn.0 turn.1 (sym c.unsigned_number.ensures.value ∙ c.in_err-unsigned_number.was) in
    rw c.from_residual.ensures (ap (option_and_then id_from_numbers) bad)

pub loop-part-preserved : goal.loop-part-preserved
loop-part-preserved c =
    let push = numbers_of-push _ _ _ _ c.loop-part.invariant.2 (sym c.unsigned_number.ensures.value ∙ c.in_ok-unsigned_number.was) in
    let in_range = All-push (λ n. n ≤ max_number) _ _ c.loop-part.invariant.3 c.in_ok-unsigned_number.ensures.in_range in
    (tt, tt, rw (map-append, c.push.ensures.items) push, rw c.push.ensures.items in_range)

pub returns-clause-found : goal.returns-clause-found
returns-clause-found c =
    let parts = YieldsList-from_str_split {s = c.into_iter-part-iterator.result} 58 c.args.text.now (lit< tt)
    (search rules) (search rules) (search rules) in
    let end = YieldsList-end parts c.loop-part.yielded _ c.loop-part.yielded_by _ _ c.in-None.is c.next.ensures.steps in
    ap numbers_of (sym end.0) ∙ c.loop-part.invariant.2
