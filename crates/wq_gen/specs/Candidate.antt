-- The records that the generators of a query give, as a test of one record by itself. Records of
-- deleted files are among them, but not by `glob`. The source is Watchman's documentation of the
-- generators `since`, `suffix`, `path` and `glob` of file queries.
use Rattle.std.specs.Prelude.{ℕ, ℤ, pos, negsuc, Bool, false, not, ◌&&◌, ◌||◌, ◌==◌}
use Rattle.std.specs.Prelude.{nat_lt, int_le, count_by, List, Option, Some, None, is_some}
use Rattle.std.specs.List.{list_any}
use Rattle.std.specs.Option.{option_map_or}
use Rattle.std.specs.Ordering.{int_eq}
use Rattle.std.specs.Str.{byte}
use Rattle.wq_base.specs.Byte.{is_slash}
use Rattle.wq_base.specs.Compare.{is_suffix}
use Rattle.wq_base.specs.Directory.{rest_below}
use Rattle.wq_base.specs.Name.{suffix_of}
use Rattle.wq_base.specs.declared.compare.Case.TheVariants.{Exact}
use Rattle.wq_clock.specs.Bound.{is_fresh}
use Rattle.wq_clock.specs.declared.bound.Bound.{Bound}
use Rattle.wq_clock.specs.declared.bound.Bound.TheVariants.{Fresh, Tick, Second}
use Rattle.wq_glob.specs.Pattern.{PatternData, fits}
use Rattle.wq_record.specs.Kind.{letter_of}
use Rattle.wq_view.specs.Position.{has_name}
use Rattle.wq_record.specs.RecordData.{RecordData}
use Rattle.wq_term.specs.declared.generators.Generators.{Generators}
use Rattle.wq_term.specs.declared.generators.PathGen.{PathGen}

-- whether the file was seen to change after a tick, or at a second or after it; a fresh bound gives
-- nothing
abbrev pub changed_since : Bound → RecordData → Bool
changed_since Fresh r = false
changed_since (Tick tick) r = nat_lt tick r.otick
changed_since (Second second) r = int_le second r.osec

-- whether the suffix of the name is one of these texts, if A to Z count as a to z; an empty text is
-- no suffix
abbrev pub suffix_is_among : List (List ℕ) → RecordData → Bool
suffix_is_among suffixes r = list_any (λ text. is_suffix text (suffix_of r.name)) suffixes

-- whether the part of a name after a directory has at most so many slashes; -1 means no limit
abbrev pub is_within : ℤ → List ℕ → Bool
is_within depth rest = int_eq depth (negsuc 0) || int_le (pos (count_by is_slash rest)) depth

-- whether the file is strictly below a path, and within its depth
abbrev pub is_under : PathGen → RecordData → Bool
is_under p r = option_map_or (is_within p.depth) (rest_below Exact p.path r.name) false

-- whether the file is a path itself, and was not last seen as a directory
abbrev pub is_itself : PathGen → RecordData → Bool
is_itself p r = has_name p.path r && not (letter_of r.kind == byte "d")

-- whether the file is one of these paths itself, or is below one of them
abbrev pub is_on_path : List PathGen → RecordData → Bool
is_on_path paths r = list_any (λ p. is_itself p r || is_under p r) paths

-- whether the file exists, and one of these patterns fits its whole name
abbrev pub is_fitting : List PatternData → RecordData → Bool
is_fitting patterns r = r.exists && list_any (λ pattern. fits pattern r.name) patterns

-- whether there is a generator that gives the record
abbrev pub gives : {A : Type 0} → (A → RecordData → Bool) → Option A → RecordData → Bool
gives test None r = false
gives test (Some generator) r = test generator r

-- whether some generator gives the record
abbrev pub is_given : Generators → RecordData → Bool
is_given generators r =
    gives changed_since generators.since r || gives suffix_is_among generators.suffix r
    || gives is_on_path generators.path r || gives is_fitting generators.glob r

-- whether there is a bound that is not fresh
abbrev pub is_bounded : Option Bound → Bool
is_bounded None = false
is_bounded (Some bound) = not (is_fresh bound)

-- whether there is a generator
abbrev pub is_any_there : Generators → Bool
is_any_there generators =
    is_bounded generators.since || is_some generators.suffix || is_some generators.path
    || is_some generators.glob

-- whether the record is a candidate: some generator gives it, or there is no generator
abbrev pub is_candidate : Generators → RecordData → Bool
is_candidate generators r = not (is_any_there generators) || is_given generators r
