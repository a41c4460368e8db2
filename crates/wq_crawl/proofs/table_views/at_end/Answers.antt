-- The root has ended, and its number is left.
use Rattle.std.proofs.Common.{◌≡◌, true, false, [], ◌∷◌, ◌++◌, None, Some, ap, subst, sym}
use Rattle.wq_live.specs.Event.{is_shown}
use Rattle.wq_live.specs.Table.{IsTableOf}
use Rattle.wq_live.specs.declared.event.RootEvent.TheVariants.{Ended}
use Rattle.wq_crawl.proofs.Tables.{at_data_of, given_some}
use Rattle.wq_crawl.proofs.table_views.at_end.Goals as goal

pub returns-in-Ok-Some-clause-ends : goal.returns-in-Ok-Some-clause-ends
returns-in-Ok-Some-clause-ends c = (
  ap (λ i. Some (at_data_of i None)) c.instance.ensures,
  (λ events of.
      let number = c.args.number in
      let ended = given_some (is_shown events number ≡ false) (λ table. (is_shown events number ≡ true) × IsTableOf (events ++ Ended number ∷ []) table)
      c.with_end.result c.in-Ok-Some.field-0 c.in-Ok-Some.ended c.in-Ok-Some.is c.in-Ok-Some.field-0-is (c.with_end.ensures events of) in
      subst (λ t. IsTableOf (events ++ Ended number ∷ []) t) (sym c.new.ensures.1) ended.1),
)
