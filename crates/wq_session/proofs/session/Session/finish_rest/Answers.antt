-- The end is the result of the work.
use Rattle.std.proofs.Common.{rules, ◌≡◌, ◌∙◌, ap, option_map, subst, sym}
use Rattle.wq_ask.specs.Trigger.{triggers_reply}
use Rattle.wq_session.specs.Answer.{Finishes}
use Rattle.wq_crawl.specs.At.{at_data}
use Rattle.wq_session.specs.Followed.{follows_of}
use Rattle.wq_session.specs.Work.{WorkData, objects_in, prints, rest_data}
use Rattle.wq_session.proofs.session.Session.finish_rest.Goals as goal

pub returns-in-Drops : goal.returns-in-Drops
returns-in-Drops g c =
    subst (λ (w : WorkData). Finishes g.C.Crew.may_go w (option_map at_data c.args.at) (follows_of c.args.self.now) c.drop_called.result
    (follows_of c.drop_called.new.self)) (sym (ap rest_data c.in-Drops.is)) (c.drop_called.ensures (option_map at_data c.args.at))

pub returns-in-Prints : goal.returns-in-Prints
returns-in-Prints g c =
    subst (λ (w : WorkData). Finishes g.C.Crew.may_go w (option_map at_data c.args.at) (follows_of c.args.self.now) c.printed.result
    (follows_of c.args.self.now)) (sym (ap rest_data c.in-Prints.is))
    (c.printed.ensures (option_map at_data c.args.at) (follows_of c.args.self.now))

pub returns-in-ListsTriggers : goal.returns-in-ListsTriggers
returns-in-ListsTriggers g c =
    let same : c.as_slice.result.now ≡ c.in-ListsTriggers.objects.items = search rules in
    subst (λ (w : WorkData). Finishes g.C.Crew.may_go w (option_map at_data c.args.at) (follows_of c.args.self.now) c.listed_triggers.result
    (follows_of c.args.self.now))
    (ap (λ objects. prints (triggers_reply (objects_in objects))) same ∙ sym (ap rest_data c.in-ListsTriggers.is))
    (c.listed_triggers.ensures (option_map at_data c.args.at) (follows_of c.args.self.now))
