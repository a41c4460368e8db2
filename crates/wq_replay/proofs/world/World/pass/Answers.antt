-- The addition of a pass over a root, if it adds anything.
use Rattle.std.proofs.Common.{◌≡◌, ◌<◌, length, ◌∷◌, ◌++◌, [], Some, None, Err, refl, sym, ap, subst, ◌∙◌, inl, inr}
use Rattle.wq_live.specs.Event.{number_of, passes_over}
use Rattle.wq_live.specs.Table.{IsNews, IsNoNews, IsTableOf}
use Rattle.wq_live.specs.declared.event.RootEvent.TheVariants.{Passed}
use Rattle.wq_crawl.specs.declared.fault.CrawlFault.TheVariants.{TicksSpent}
use Rattle.wq_crawl.proofs.Tables.{given_some}
use Rattle.wq_record.specs.Limit.{max_tick}
use Rattle.wq_replay.specs.World.{at_events, refusing, unrefused}
use Rattle.wq_replay.proofs.Worlds.{crawls_none, crawls_shown, given_none, some_holds}
use Rattle.wq_replay.proofs.world.World.pass.Goals as goal

pub returns-in_default : goal.returns-in_default
returns-in_default c = λ before stands.
    let none : number_of c.args.root before.events ≡ None = subst (λ text. number_of text before.events ≡ None) c.as_str.ensures (sym (c.number_of.ensures.list before.events stands.roots) ∙ c.in_default.is) in (
      unrefused before,
      crawls_none before c.args.root c.args.pass.now none,
      record { run = stands.run; roots = stands.roots; shelf = stands.shelf; follows = stands.follows; runs = stands.runs; refused = refl; whole = stands.whole },
    )

pub returns-in-Ok-None : goal.returns-in-Ok-None
returns-in-Ok-None c = λ before stands.
    let number = c.in-Some.number in
    let some : number_of c.args.root before.events ≡ Some c.in-Some.number = subst (λ text. number_of text before.events ≡ Some c.in-Some.number) c.as_str.ensures (sym (c.number_of.ensures.list before.events stands.roots) ∙ c.in-Some.is) in
    let same = given_none (IsNoNews before.events c.in-Some.number c.args.pass.now) (λ table. IsNews before.events c.in-Some.number c.args.pass.now × IsTableOf (before.events ++ Passed c.in-Some.number c.args.pass.now ∷ []) table) c.with_pass.result c.in-Ok-None.field-0 c.in-Ok-None.is c.in-Ok-None.field-0-is (c.with_pass.ensures.passed before.events stands.roots) in (
      unrefused before,
      crawls_shown before (unrefused before) c.args.root c.args.pass.now number some (inl (before.events, inl (same, refl), refl)),
      record { run = stands.run; roots = stands.roots; shelf = stands.shelf; follows = stands.follows; runs = stands.runs; refused = refl; whole = stands.whole },
    )

pub returns-in-Ok-Some : goal.returns-in-Ok-Some
returns-in-Ok-Some c = λ before stands.
    let number = c.in-Some.number in
    let events = before.events ++ Passed c.in-Some.number c.args.pass.now ∷ [] in
    let some : number_of c.args.root before.events ≡ Some c.in-Some.number = subst (λ text. number_of text before.events ≡ Some c.in-Some.number) c.as_str.ensures (sym (c.number_of.ensures.list before.events stands.roots) ∙ c.in-Some.is) in
    let news = given_some (IsNoNews before.events c.in-Some.number c.args.pass.now) (λ table. IsNews before.events c.in-Some.number c.args.pass.now × IsTableOf (before.events ++ Passed c.in-Some.number c.args.pass.now ∷ []) table) c.with_pass.result c.in-Ok-Some.field-0 c.in-Ok-Some.table c.in-Ok-Some.is c.in-Ok-Some.field-0-is (c.with_pass.ensures.passed before.events stands.roots) in
    let room = some_holds (λ _. length (passes_over number before.events) < max_tick) c.with_pass.result c.in-Ok-Some.field-0 c.in-Ok-Some.table c.in-Ok-Some.is c.in-Ok-Some.field-0-is (c.with_pass.ensures.room before.events stands.roots) in (
      unrefused (at_events events before),
      crawls_shown before (unrefused (at_events events before)) c.args.root c.args.pass.now number some (inl (events, inr (news.0, room, refl), refl)),
      record { run = stands.run; roots = news.1; shelf = stands.shelf; follows = stands.follows; runs = stands.runs; refused = refl; whole = stands.whole },
    )

pub returns-in-Err-TicksSpent : goal.returns-in-Err-TicksSpent
returns-in-Err-TicksSpent c = λ before stands.
    let number = c.in-Some.number in
    let some : number_of c.args.root before.events ≡ Some c.in-Some.number = subst (λ text. number_of text before.events ≡ Some c.in-Some.number) c.as_str.ensures (sym (c.number_of.ensures.list before.events stands.roots) ∙ c.in-Some.is) in
    let spent = (c.with_pass.ensures.spent before.events stands.roots).0 (c.in-Err-TicksSpent.is ∙ ap Err c.in-Err-TicksSpent.field-0-is) in (
      refusing c.args.root TicksSpent before,
      crawls_shown before (refusing c.args.root TicksSpent before) c.args.root c.args.pass.now number some (inr (inl (refl, spent), refl)),
      record { run = stands.run; roots = stands.roots; shelf = stands.shelf; follows = stands.follows; runs = stands.runs; refused = refl; whole = stands.whole },
    )
