-- How the texts of a term are compared with a file's name: case, scopes, suffixes, directories.
-- From Watchman's documentation of the terms `name`, `suffix` and `dirname`.
use Rattle.std.specs.Prelude.{ℕ, pos, ◌-◌, Bool, true, false, List}
use Rattle.std.specs.Prelude.{length, take, count_by}
use Rattle.std.specs.List.{list_any, suffix_len}
use Rattle.std.specs.Option.{option_map_or}
use Rattle.wq_base.specs.Byte.{is_slash}
use Rattle.wq_base.specs.Name.{basename_of, suffix_of}
use Rattle.wq_base.specs.Compare.{compares, is_suffix, same_text}
use Rattle.wq_base.specs.Directory.{rest_below}
use Rattle.wq_base.specs.declared.compare.Case.{Case}
use Rattle.wq_term.specs.declared.expr.Scope.{Scope}
use Rattle.wq_term.specs.declared.expr.Scope.TheVariants.{Basename, Wholename}
use Rattle.wq_term.specs.declared.expr.Depth.{Depth}
use Rattle.wq_term.specs.declared.expr.Depth.TheVariants.{Any, Is}

-- the part of a name that a scope asks for
abbrev pub scope_part : Scope → List ℕ → List ℕ
scope_part Basename name = basename_of name
scope_part Wholename name = name

-- whether that part of a name is one of these texts
abbrev pub is_named : Case → Scope → List (List ℕ) → List ℕ → Bool
is_named case scope texts name =
    list_any (λ text. same_text case text (scope_part scope name)) texts

-- whether the suffix of a name is one of these texts
abbrev pub has_suffix : List (List ℕ) → List ℕ → Bool
has_suffix texts name = list_any (λ text. is_suffix text (suffix_of name)) texts

-- a text without the slashes at its end
abbrev pub without_end_slashes : List ℕ → List ℕ
without_end_slashes text = take (length text - suffix_len is_slash text) text

-- whether the rest after a directory has as many slashes as the depth asks for
abbrev pub has_depth : Depth → List ℕ → Bool
has_depth Any rest = true
has_depth (Is relation depth) rest = compares relation (pos (count_by is_slash rest)) depth

-- whether a name lies strictly below a directory, at this depth
abbrev pub lies_below : Case → List ℕ → Depth → List ℕ → Bool
lies_below case dir depth name = option_map_or (has_depth depth) (rest_below case dir name) false
