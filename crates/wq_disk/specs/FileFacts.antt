-- The stat of a file for the answer of the system to a look at it. No public document defines it.
use Rattle.std.specs.Fs.{file_type, metadata_len}
use Rattle.wq_record.specs.Seen.{Stat}
use Rattle.wq_disk.specs.declared.facts.FileFacts.{FileFacts}
use Rattle.wq_disk.specs.Stat.{kind_of_mode, milliseconds_of, nearest_size}

-- the kind, the size and the time that the system gave
abbrev pub stat_from : FileFacts → Stat
stat_from facts = record {
  kind = kind_of_mode (file_type facts.metadata).bits;
  size = nearest_size (metadata_len facts.metadata);
  mtime_ms = milliseconds_of facts.seconds facts.nanoseconds;
}
