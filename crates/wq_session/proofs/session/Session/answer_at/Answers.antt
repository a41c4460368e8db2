-- Taking and finishing gave the answer.
use Rattle.std.proofs.Common.{option_map, sym, ◌∙◌}
use Rattle.wq_crawl.specs.At.{at_data}
use Rattle.wq_session.specs.Followed.{follows_of}
use Rattle.wq_session.specs.Prepared.{asked, asked_at}
use Rattle.wq_session.specs.Work.{work_data}
use Rattle.wq_session.proofs.Held.{held_as, held_finish, kept_answer, unset_answer}
use Rattle.wq_session.proofs.session.Session.answer_at.Goals as goal

pub finish-out-requires : goal.finish-out-requires
finish-out-requires g c =
    let made = c.prepare_at-prepared in
    held_finish _ _ c.args.ask (option_map at_data c.args.at) (work_data c.hold-work.result)
    (held_as (g.D.Desk.shelf c.args.desk.now) (g.D.Desk.shelf made.new.desk) (g.D.Desk.shelf c.hold-work.new.self) c.args.ask (asked made.result)
    (option_map at_data c.args.at) (asked_at made.result) (work_data c.hold-work.result) made.ensures.same made.ensures.ask made.ensures.at c.hold-work.ensures)

pub returns-in-Some : goal.returns-in-Some
returns-in-Some g c =
    let made = c.prepare_at-prepared in
    unset_answer g.C.Crew.may_go c.args.ask (option_map at_data c.args.at) (follows_of c.args.self.now) _ (work_data c.hold-work.result) c.finish-out.result
    c.settle.new.self _ _ _ c.in-Some.cursor
    (held_as (g.D.Desk.shelf c.args.desk.now) (g.D.Desk.shelf made.new.desk) (g.D.Desk.shelf c.hold-work.new.self) c.args.ask (asked made.result)
    (option_map at_data c.args.at) (asked_at made.result) (work_data c.hold-work.result) made.ensures.same made.ensures.ask made.ensures.at c.hold-work.ensures)
    c.finish-out.ensures c.settle.ensures.taken (sym c.in-Some.ensures.named) c.unset.ensures.unset

pub returns-in_default : goal.returns-in_default
returns-in_default g c =
    let made = c.prepare_at-prepared in
    kept_answer g.C.Crew.may_go c.args.ask (option_map at_data c.args.at) (follows_of c.args.self.now) _ (work_data c.hold-work.result) c.finish-out.result
    c.settle.new.self _ _
    (held_as (g.D.Desk.shelf c.args.desk.now) (g.D.Desk.shelf made.new.desk) (g.D.Desk.shelf c.hold-work.new.self) c.args.ask (asked made.result)
    (option_map at_data c.args.at) (asked_at made.result) (work_data c.hold-work.result) made.ensures.same made.ensures.ask made.ensures.at c.hold-work.ensures)
    c.finish-out.ensures c.settle.ensures.taken (sym c.settle.ensures.named ∙ c.in_default.is)
