-- a number that is not due becomes due
use Rattle.std.proofs.Common.{rules, ◌≡◌, ◌≤◌, ◌+◌, ◌++◌, ◌∷◌, ◌==◌, [], true, get_or, length, ap, subst, sym, ◌∙◌}
use Rattle.std.specs.List.{list_any}
use Rattle.wq_inbox.proofs.Due.{SoFar, all_due, becomes_due, due_already}
use Rattle.wq_inbox.proofs.coming.Coming.put_moments.Goals as goal
use Rattle.wq_inbox.proofs.coming.Coming.put_moments.Goals.{then-not-contains+in_ok-push_back, else-not-contains}

pub loop-number-preserved : goal.loop-number-preserved
loop-number-preserved c =
    let before = c.args.self.now.due.items in
    let due = c.loop-number.self.due.items in
    let numbers = c.args.numbers.now in
    let i = c.loop-number.number-index in
    let number = get_or numbers i 0 in
    let so_far : SoFar before due numbers i = (c.loop-number.invariant.0, c.loop-number.invariant.2) in
    elim c.if-not-contains.branch [
      | then-not-contains+in_ok-push_back w ↦
          let items : c.if-not-contains.self.due.items ≡ due ++ number ∷ [] = search rules in
          let more = becomes_due before due numbers i c.loop-number-test.true so_far in
          let waiting = ap (λ s. s.waiting) w.self-is ∙ c.loop-number.invariant.1 in
          let told = subst (λ l. SoFar before l numbers (i + 1)) (sym items) more in
          (told.0, waiting, told.1)
      | else-not-contains w ↦
          let is : list_any (λ y. y == number) due ≡ true = search rules in
          let told = subst (λ l. SoFar before l numbers (i + 1)) (sym (ap (λ s. s.due.items) w.self-is)) (due_already before due numbers i c.loop-number-test.true so_far is) in
          (told.0, ap (λ s. s.waiting) w.self-is ∙ c.loop-number.invariant.1, told.1)
    ]

pub returns-clause-due : goal.returns-clause-due
returns-clause-due c is_open =
    let past : length c.args.numbers.now ≤ c.loop-number.number-index = search rules in
    all_due c.args.self.now.due.items c.loop-number.self.due.items c.args.numbers.now c.loop-number.number-index past (c.loop-number.invariant.0, c.loop-number.invariant.2)
