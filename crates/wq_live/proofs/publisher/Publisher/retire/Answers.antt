-- the table after the end
use Rattle.std.proofs.Common.{◌≡◌, ◌++◌, ◌∷◌, [], MatchOption, false, true, subst}
use Rattle.wq_live.specs.declared.event.RootEvent.TheVariants.{Ended}
use Rattle.wq_live.specs.Event.{is_shown}
use Rattle.wq_live.specs.Table.{IsTableOf}
use Rattle.wq_live.proofs.publisher.Publisher.retire.Goals as goal

pub add-requires : goal.add-requires
add-requires g c =
    let events = c.args.self.now in
    rw c.from_ref.ensures.value (subst (λ o. MatchOption o (is_shown events c.args.number ≡ false) (λ table. (is_shown events c.args.number ≡ true) × IsTableOf (events ++ Ended c.args.number ∷ []) table))
    c.in-Some.is (c.in_ok-next.ensures events c.table.ensures.table)).1
