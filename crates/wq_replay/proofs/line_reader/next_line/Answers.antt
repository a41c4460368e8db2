-- The line before the newline.
use Rattle.std.proofs.Common.{◌≡◌, length, rules}
use Rattle.wq_replay.proofs.Parts.{line_taken}
use Rattle.wq_replay.proofs.line_reader.next_line.Goals as goal

pub returns-clause-done : goal.returns-clause-done
returns-clause-done g c =
    let count : c.len-taken.result ≡ length c.take_line.new.line.items = search rules in
    line_taken (g.R.Read.remaining c.args.reader.now) (g.R.Read.remaining c.take_line.new.reader) c.len-taken.result c.take_line.new.line.items c.strip_newline.new.line.items c.in_ok-take_line.ensures.done count c.strip_newline.ensures
