-- A directory of a walk, and the next step in it. No public document defines it.
use Rattle.std.specs.Prelude.{◌≡◌, ℕ, List, [], ◌∷◌, ◌++◌}
use Rattle.wq_disk.specs.declared.directory.Directory.{Directory}
use Rattle.wq_disk.specs.declared.directory.Step.{Step}
use Rattle.wq_disk.specs.declared.directory.Step.TheVariants.{Look, Enter, Leave}
use Rattle.wq_disk.specs.declared.names.Place.{Place}
use Rattle.wq_disk.specs.HeldNames.{names_left, text_of_names}
use Rattle.wq_disk.specs.Names.{name_at, names_at}

-- a directory of a walk: its path with a slash at its end; the names in it that the walk has not
-- looked at yet, the next one last; and the names of directories that it enters later, the next one
-- last
pub record DirectoryData : Type 0 where
  pub path : List ℕ
  pub left : List (List ℕ)
  pub waiting : List (List ℕ)

-- a directory of which the walk has looked at no name yet
abbrev pub fresh : List ℕ → List (List ℕ) → DirectoryData
fresh path names = record { path = path; left = names; waiting = [] }

-- a directory in which no step is left
abbrev pub IsDone : DirectoryData → Type 0
IsDone directory = (directory.left ≡ []) × (directory.waiting ≡ [])

-- the text of the names of a directory, in which places are
abbrev pub text_of_entries : Directory → List ℕ
text_of_entries directory = text_of_names directory.names

-- the name at a place in a directory
abbrev pub entry_at : Directory → Place → List ℕ
entry_at directory place = name_at (text_of_entries directory) place

-- a directory, as definitions see it
abbrev pub data_of : Directory → DirectoryData
data_of directory = record {
  path = directory.path.items;
  left = names_left directory.names;
  waiting = names_at (text_of_entries directory) directory.waiting.items;
}

-- this was the next step in a directory, and the directory after it
abbrev pub IsNextStep : Directory → Step → Directory → Type 0
IsNextStep before (Look place) after =
    ((data_of before).left ≡ (data_of after).left ++ (entry_at after place ∷ []))
    × ((data_of before).path ≡ (data_of after).path)
    × ((data_of before).waiting ≡ (data_of after).waiting)
IsNextStep before (Enter place) after =
    ((data_of before).waiting ≡ (data_of after).waiting ++ (entry_at after place ∷ []))
    × ((data_of before).path ≡ (data_of after).path)
    × ((data_of before).left ≡ (data_of after).left)
IsNextStep before Leave after = (data_of after ≡ data_of before) × IsDone (data_of before)
