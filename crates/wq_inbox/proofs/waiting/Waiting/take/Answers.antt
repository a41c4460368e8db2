-- the event that is taken is the next one of the history
use Rattle.std.proofs.Common.{rules, ◌≡◌, ◌≤◌, ◌+◌, ◌++◌, ◌∷◌, [], false, take, drop, length, inl, ap, sym, subst, ◌∙◌, arith}
use Rattle.std.proofs.lemmas.Bool.Decides.{nat_tests}
use Rattle.wq_inbox.proofs.Beginnings.{same_first}
use Rattle.wq_inbox.proofs.Taking.{drop_next, is_within, take_next}
use Rattle.wq_inbox.proofs.waiting.Waiting.take.Goals as goal

pub invariant_of-self-2 : goal.invariant_of-self-2
invariant_of-self-2 g c =
    let open_ : c.self.inside.backlog.is_closed ≡ false = sym c.if-is_closed.ensures in
    let put = c.self.inside.put in
    let n = c.self.inside.taken in
    let event = c.in-Some.event in
    let later = c.take.new.self.events in
    let is : drop n put ≡ event ∷ later = c.self.invariant.1 open_ ∙ c.in-Some.ensures.2 open_ in
    (omega (arith, is_within n put event later is), λ _. drop_next n put event later is)

pub returns : goal.returns
returns g c =
    let open_ : c.self.inside.backlog.is_closed ≡ false = sym c.if-is_closed.ensures in
    let put = c.self.inside.put in
    let front = c.mine.inside.front in
    let n = c.self.inside.taken in
    let event = c.in-Some.event in
    let later = c.take.new.self.events in
    let is : drop n put ≡ event ∷ later = c.self.invariant.1 open_ ∙ c.in-Some.ensures.2 open_ in
    let same : n ≡ c.mine.inside.taken = first_of (search rules, grind (arith, nat_tests, c.if-self-mine.false)) in
    let it = c.agree.ensures in
    let within : n ≤ length front = subst (λ m. m ≤ length front) (sym same) c.mine.invariant in
    let taken : take n put ≡ c.args.mine.now =
    sym (same_first front put it.0 it.1 it.2 n within c.self.invariant.0)
    ∙ (ap (λ m. take m front) same ∙ c.mine.view_is) in
    inl (ap (take (n + 1)) c.again.ensures ∙ (take_next n put event later is ∙ ap (λ l. l ++ event ∷ []) taken))
