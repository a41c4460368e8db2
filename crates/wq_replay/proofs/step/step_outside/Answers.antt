-- A listing is begun, or a client is heard.
use Rattle.std.proofs.Common.{FitsSigned, w64, rules, Ok, true, false, refl, sym, subst}
use mir.Facts.{to_z-of_z}
use Rattle.wq_stream.specs.Stream.{event_of}
use Rattle.wq_stream.specs.declared.event.Event.TheVariants.{End}
use Rattle.wq_replay.specs.LineData.{line_data}
use Rattle.wq_replay.specs.Stage.{drafts, empty_draft, hears, rests, turn_outside}
use Rattle.wq_replay.specs.Step.{TakesTurn}
use Rattle.wq_replay.proofs.step.step_outside.Goals as goal

pub returns-in-Pass : goal.returns-in-Pass
returns-in-Pass g c = λ at is.
    let known = g.W.Write.contents c.args.writer.now in
    let fits : FitsSigned w64 c.in-Pass.second = search rules in
    subst (λ line. TakesTurn at (turn_outside (line_data line)) known known (Ok c.begin.result) c.begin.new.stage) (sym c.in-Pass.is)
    (subst (λ z. TakesTurn at (drafts (empty_draft true z)) known known (Ok c.begin.result) c.begin.new.stage) (to_z-of_z fits)
    (c.begin.ensures at is known))

pub returns-in-Tree : goal.returns-in-Tree
returns-in-Tree g c = λ at is.
    let known = g.W.Write.contents c.args.writer.now in
    let fits : FitsSigned w64 c.in-Tree.second = search rules in
    subst (λ line. TakesTurn at (turn_outside (line_data line)) known known (Ok c.begin-in-Tree.result) c.begin-in-Tree.new.stage) (sym c.in-Tree.is)
    (subst (λ z. TakesTurn at (drafts (empty_draft false z)) known known (Ok c.begin-in-Tree.result) c.begin-in-Tree.new.stage) (to_z-of_z fits)
    (c.begin-in-Tree.ensures at is known))

pub returns-in-Ask : goal.returns-in-Ask
returns-in-Ask g c = λ at is.
    let known = g.W.Write.contents c.args.writer.now in
    let fits : FitsSigned w64 c.in-Ask.client = search rules in
    subst (λ line. TakesTurn at (turn_outside (line_data line)) known (g.W.Write.contents c.hear.new.writer) c.hear.result c.hear.new.stage) (sym c.in-Ask.is)
    (subst (λ z. TakesTurn at (hears z (event_of c.in-Ask.line.now)) known (g.W.Write.contents c.hear.new.writer) c.hear.result c.hear.new.stage) (to_z-of_z fits)
    (c.hear.ensures at is (event_of c.in-Ask.line.now) c.ask_of-ask.ensures))

pub returns-in-Leave : goal.returns-in-Leave
returns-in-Leave g c = λ at is.
    let known = g.W.Write.contents c.args.writer.now in
    let fits : FitsSigned w64 c.in-Leave.client = search rules in
    subst (λ line. TakesTurn at (turn_outside (line_data line)) known (g.W.Write.contents c.hear-in-Leave.new.writer) c.hear-in-Leave.result c.hear-in-Leave.new.stage) (sym c.in-Leave.is)
    (subst (λ z. TakesTurn at (hears z End) known (g.W.Write.contents c.hear-in-Leave.new.writer) c.hear-in-Leave.result c.hear-in-Leave.new.stage) (to_z-of_z fits)
    (c.hear-in-Leave.ensures at is End refl))

pub returns-in-Idle : goal.returns-in-Idle
returns-in-Idle g c = λ at is.
    let known = g.W.Write.contents c.args.writer.now in
    let fits : FitsSigned w64 c.in-Idle.client = search rules in
    subst (λ line. TakesTurn at (turn_outside (line_data line)) known (g.W.Write.contents c.rest.new.writer) c.rest.result c.rest.new.stage) (sym c.in-Idle.is)
    (subst (λ z. TakesTurn at (rests z) known (g.W.Write.contents c.rest.new.writer) c.rest.result c.rest.new.stage) (to_z-of_z fits)
    (c.rest.ensures at is))
