-- The kind, the size and the time of a file that the walker makes of the system's metadata. The
-- types of files are those of POSIX's <sys/stat.h>. The ranges are this server's own.
use Rattle.std.specs.Prelude.{ℕ, ℤ, pos, neg_ℤ, min, ◌==◌, ◌+ℤ◌, ◌*ℤ◌, if◌then◌else◌}
use Rattle.std.specs.Int.{int_div_euclid, int_max, int_min}
use Rattle.wq_base.specs.Limit.{max_number}
use Rattle.wq_record.specs.declared.kind.Kind.{Kind}
use Rattle.wq_record.specs.declared.kind.Kind.TheVariants.{File, Dir, Link, Unknown}

-- the kind of a file with this type in its mode: a regular file, a directory, a link, or else
-- unknown
abbrev pub kind_of_mode : ℕ → Kind
kind_of_mode type_bits =
    if type_bits == 0o100000 then File
    else if type_bits == 0o040000 then Dir
    else if type_bits == 0o120000 then Link
    else Unknown

-- the number of the range of times that is nearest to a number
abbrev pub nearest_time : ℤ → ℤ
nearest_time z = int_max (neg_ℤ (pos max_number)) (int_min z (pos max_number))

-- a time of whole seconds and the nanoseconds after them, as whole milliseconds, rounded down
abbrev pub milliseconds_of : ℤ → ℤ → ℤ
milliseconds_of seconds nanoseconds =
    nearest_time (seconds *ℤ pos 1000 +ℤ int_div_euclid nanoseconds (pos 1000000))

-- the number of the range of sizes that is nearest to a size
abbrev pub nearest_size : ℕ → ℤ
nearest_size size = pos (min size max_number)
