-- The table of a pattern and a text. Each tail of the text has a row, and in it each tail of the
-- pattern has a cell. This library's own; a fit is defined without it.
use Rattle.std.specs.Prelude.{ℕ, Bool, false, List, [], ◌∷◌, drop}
use Rattle.wq_glob.specs.Mark.{Mark}
use Rattle.wq_glob.specs.FitsTest.{Reach, Directories, Form, directories, fits_by}
use Rattle.wq_glob.specs.declared.row.Cell.{Cell}

-- a part of this reach has begun: some front of the text ends it in a slash, and the rest fits
abbrev pub begun_at : Reach → (Mark → Bool) → (List Mark → Bool) → List Mark → Bool
begun_at Directories test fit text = directories test fit text
begun_at _ test fit text = false

-- the part of a `**/` at the front of the atoms has begun
abbrev pub begun_by : {A : Type 0} → Form A → List A → List Mark → Bool
begun_by form [] text = false
begun_by form (a ∷ later) text =
    begun_at (form.reach_of a) (form.admits_of a) (fits_by form later) text

-- the cell of a tail of the pattern at a tail of the text
abbrev pub cell_by : {A : Type 0} → Form A → List A → List Mark → Cell
cell_by form atoms text = record {
  fits = fits_by form atoms text;
  begun = begun_by form atoms text;
}

-- the cells of one row, by how many atoms are left out before each tail of the pattern
abbrev pub Row : Type 0
Row = ℕ → Cell

-- the row of a pattern at a tail of the text
abbrev pub row_by : {A : Type 0} → Form A → List A → List Mark → Row
row_by form atoms text k = cell_by form (drop k atoms) text
