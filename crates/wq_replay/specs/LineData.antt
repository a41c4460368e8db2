-- The meaning of a `Line` of the code.
-- It is this server's own.
use Rattle.wq_replay.specs.Script.{LineData, pass, tree, row, end, ask, leave, idle, fire, done}
use Rattle.wq_record.specs.Seen.{SeenData}
use Rattle.wq_replay.specs.declared.script.Line.{Line}
use Rattle.wq_replay.specs.declared.script.RowLine.{RowLine}
use Rattle.wq_replay.specs.declared.script.Line.TheVariants.{Pass, Tree, Row, End, Ask, Leave, Idle}
use Rattle.wq_replay.specs.declared.script.Line.TheVariants.{Fire, Done}

-- the file that a row describes
abbrev pub seen_data : RowLine → SeenData
seen_data r = record { name = r.name.now; kind = r.kind; size = r.size; mtime_ms = r.mtime_ms }

-- the line of a script that a `Line` means
abbrev pub line_data : Line → LineData
line_data (Pass second) = pass second
line_data (Tree second) = tree second
line_data (Row r) = row (seen_data r)
line_data End = end
line_data (Ask client line) = ask client line.now
line_data (Leave client) = leave client
line_data (Idle client) = idle client
line_data (Fire succeeds) = fire succeeds
line_data (Done name) = done name.now
