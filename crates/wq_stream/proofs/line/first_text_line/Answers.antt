-- Whether a newline comes within the limit decides.
use Rattle.std.proofs.Common.{arith}
use Rattle.wq_stream.proofs.FirstLines.{ends, stays_open, too_long}
use Rattle.wq_stream.proofs.line.first_text_line.Goals as goal

pub returns-in-Some : goal.returns-in-Some
returns-in-Some c =
    let found = c.in-Some.ensures in
    ends c.args.rest.now c.args.bytes.now c.in-Some.at c.requires.rest c.requires.text found.0.high found.0.before found.1 c.if-at-room.true

pub returns-in-None : goal.returns-in-None
returns-in-None c =
    stays_open c.args.rest.now c.args.bytes.now c.requires.rest c.requires.text c.in-None.ensures c.if-bytes-room.true

pub returns-in_default : goal.returns-in_default
returns-in_default c =
    let found = c.in-Some.ensures in
    let over = c.if-at-room.false in
    let within = found.0.high in
    too_long c.args.rest.now c.args.bytes.now c.requires.rest c.requires.text (omega (arith, over, within)) (λ k low high. found.0.before k low (omega (arith, over, high)))

pub returns-in_default-2 : goal.returns-in_default-2
returns-in_default-2 c =
    let over = c.if-bytes-room.false in
    too_long c.args.rest.now c.args.bytes.now c.requires.rest c.requires.text over (λ k low high. c.in-None.ensures k low (omega (arith, over, high)))
