-- Each clause by its lemma.
use Rattle.wq_crawl.specs.Basis.{basis_of}
use Rattle.wq_headline.proofs.Clocks.{clocks_name_views}
use Rattle.wq_headline.proofs.Followed.{subscriptions_are_exact}
use Rattle.wq_headline.proofs.Idled.{moments_are_exact}
use Rattle.wq_headline.proofs.Parts.{programs_run, expressions_select}
use Rattle.wq_headline.proofs.Rounded.{rounds_are_exact}
use Rattle.wq_headline.proofs.Threads.{served_replies_are_exact}
use Rattle.wq_headline.proofs.Triggered.{triggers_are_exact}
use Rattle.wq_headline.proofs.Worldly.{replies_are_exact}
use Rattle.wq_headline.proofs.law.headline.Goals as goal

pub returns-clause-programs : goal.returns-clause-programs
returns-clause-programs g c =
    programs_run c.runs_begin_well.ensures c.steps_go_well.ensures c.runs_say.ensures
    c.answers_are_said.ensures c.steps_are_said.ensures

pub returns-clause-compiled : goal.returns-clause-compiled
returns-clause-compiled g c = c.expressions_compile.ensures

pub returns-clause-selected : goal.returns-clause-selected
returns-clause-selected g c = expressions_select c.expressions_compile.ensures c.answers_are_said.ensures

pub returns-clause-served : goal.returns-clause-served
returns-clause-served g c run =
    served_replies_are_exact c.reached_programs_are_valid.ensures c.asks_hand_in_valid.ensures
    (basis_of run (g.N.Witness.published g.N.Named.book) (g.N.Witness.refused g.N.Named.book))

pub returns-clause-replies : goal.returns-clause-replies
returns-clause-replies g c = replies_are_exact c.programs_are_valid.ensures

pub returns-clause-followers : goal.returns-clause-followers
returns-clause-followers g c = (
  subscriptions_are_exact c.subscriptions_are_plain.ensures c.intervals_adjoin.ensures c.nothing_is_missed.ensures c.views_are_reached.ensures,
  moments_are_exact,
  triggers_are_exact c.subscriptions_are_plain.ensures c.answers_are_calls.ensures c.intervals_adjoin.ensures c.nothing_is_missed.ensures c.views_are_reached.ensures,
  rounds_are_exact,
)

pub returns-clause-clocks : goal.returns-clause-clocks
returns-clause-clocks g c = clocks_name_views
