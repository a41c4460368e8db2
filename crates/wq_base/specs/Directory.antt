-- Names below a directory. The source is Watchman's documentation of the term `dirname`.
use Rattle.std.specs.Prelude.{ℕ, ◌==◌, if◌then◌else◌, List, [], ◌∷◌, length, take, drop}
use Rattle.std.specs.Prelude.{Option, Some, None}
use Rattle.wq_base.specs.Byte.{is_slash}
use Rattle.wq_base.specs.Compare.{same_text}
use Rattle.wq_base.specs.declared.compare.Case.{Case}

-- the text after its first byte, if that byte is a slash
abbrev pub after_slash : List ℕ → Option (List ℕ)
after_slash [] = None
after_slash (b ∷ rest) = if is_slash b then Some rest else None

-- the text after `dir/` in a name strictly below the directory; all names are below the empty
-- directory, and their text is the whole name
abbrev pub rest_below : Case → List ℕ → List ℕ → Option (List ℕ)
rest_below case dir name =
    if length dir == 0 then Some name
    else if same_text case (take (length dir) name) dir then after_slash (drop (length dir) name)
    else None
