-- The names of files: paths relative to a root, as bytes, with their parts between slashes. The
-- rule for valid names is this server's own.
use Rattle.std.specs.Prelude.{ℕ, Bool, ◌==◌, nat_le, not, ◌&&◌, List, [], length, bytes_eq, codes}
use Rattle.std.specs.Str.{is_utf8}
use Rattle.std.specs.List.{list_any, list_all, slice_split}
use Rattle.std.specs.Ordering.{nat_cmp}
use Rattle.std.specs.Cmp.Lexicographic.{slice_cmp}
use Rattle.std.specs.declared.cmp.Ordering.{Ordering}
use Rattle.wq_base.specs.Byte.{is_slash}
use Rattle.wq_record.specs.Limit.{max_name}

-- a part between slashes that names something: not empty, not `.` and not `..`
abbrev pub is_plain_part : List ℕ → Bool
is_plain_part part =
    not (bytes_eq part []) && not (bytes_eq part (codes ".")) && not (bytes_eq part (codes ".."))

-- a name: a text in UTF-8 with 1 to 4,096 bytes, in which no byte is 0 and each part between
-- slashes is plain
unfoldable pub is_valid_name : List ℕ → Bool
is_valid_name bytes =
    nat_le 1 (length bytes) && nat_le (length bytes) max_name
    && not (list_any (λ b. b == 0) bytes)
    && list_all is_plain_part (slice_split is_slash bytes) && is_utf8 bytes

-- the byte order of names
abbrev pub name_cmp : List ℕ → List ℕ → Ordering
name_cmp = slice_cmp nat_cmp
