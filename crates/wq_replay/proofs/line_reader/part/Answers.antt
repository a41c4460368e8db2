-- A newline within the room is the last byte that is taken.
use Rattle.std.proofs.Common.{◌≡◌, true, false, ◌||◌, ◌==◌, length, take, sym, ap, ◌∙◌}
use Rattle.std.proofs.lemmas.Bool.{eq-eqb, ne_eqb}
use Rattle.wq_replay.proofs.Parts.{newline_in, none_in}
use Rattle.wq_replay.proofs.line_reader.part.Goals as goal

pub returns-in-Some-clause-count : goal.returns-in-Some-clause-count
returns-in-Some-clause-count c = (newline_in c.min.result c.args.room c.in-Some.at c.args.shown.now c.min.ensures c.in-Some.ensures.0 c.in-Some.ensures.1).0

pub returns-in-Some-clause-last : goal.returns-in-Some-clause-last
returns-in-Some-clause-last c = (newline_in c.min.result c.args.room c.in-Some.at c.args.shown.now c.min.ensures c.in-Some.ensures.0 c.in-Some.ensures.1).1

pub returns-then-front-room-clause-count : goal.returns-then-front-room-clause-count
returns-then-front-room-clause-count c = (none_in c.min.result c.args.room c.args.shown.now c.min.ensures c.in-None.ensures).0

pub returns-then-front-room-clause-last : goal.returns-then-front-room-clause-last
returns-then-front-room-clause-last c =
    let found = (none_in c.min.result c.args.room c.args.shown.now c.min.ensures c.in-None.ensures).1 in
    let full : (length (take c.min.result c.args.shown.now) == c.args.room) ≡ true = eq-eqb _ _ c.if-front-room.true in
    full ∙ sym (ap (λ b. b || length c.args.shown.now == 0) full) ∙ found

pub returns-else-front-room-clause-count : goal.returns-else-front-room-clause-count
returns-else-front-room-clause-count c = (none_in c.min.result c.args.room c.args.shown.now c.min.ensures c.in-None.ensures).0

pub returns-else-front-room-clause-last : goal.returns-else-front-room-clause-last
returns-else-front-room-clause-last c =
    let found = (none_in c.min.result c.args.room c.args.shown.now c.min.ensures c.in-None.ensures).1 in
    let more : (length (take c.min.result c.args.shown.now) == c.args.room) ≡ false = ne_eqb _ _ c.if-front-room.false in
    c.is_empty.ensures ∙ sym (ap (λ b. b || length c.args.shown.now == 0) more) ∙ found
