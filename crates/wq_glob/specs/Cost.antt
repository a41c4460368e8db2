-- The cost of a match: how many cells it looks at in the table of the pattern and the text. This
-- library's own; a fit is defined without it.
use Rattle.std.specs.Prelude.{ℕ, ◌+◌, ◌-◌, Bool, false, not, ◌&&◌, ◌||◌, nat_le, if◌then◌else◌}
use Rattle.std.specs.Prelude.{List, [], ◌∷◌, length, drop}
use Rattle.std.specs.List.{count_by, list_any, range_with_len}
use Rattle.wq_glob.specs.Mark.{Mark}
use Rattle.wq_glob.specs.FitsTest.{Form}
use Rattle.wq_glob.specs.Table.{Row, row_by}
use Rattle.wq_glob.specs.declared.row.Cell.{Cell}

-- a cell lives: its tail of the pattern fits, or has begun its `**/`
abbrev pub is_live : Cell → Bool
is_live cell = cell.fits || cell.begun

-- the cells of a row, each by how many of so many atoms are left out before it: none, up to all
abbrev pub places : ℕ → List ℕ
places atoms = range_with_len 0 (atoms + 1)

-- the cell at `k`, or one after it, lives
abbrev pub lives_from : ℕ → Row → ℕ → Bool
lives_from atoms row k = list_any (λ j. nat_le k j && is_live (row j)) (places atoms)

-- the cell at `k`, or one before it, lives
abbrev pub lives_to : ℕ → Row → ℕ → Bool
lives_to atoms row k = list_any (λ j. nat_le j k && is_live (row j)) (places atoms)

-- the cell after the one at `k` fits
abbrev pub next_fits : Row → ℕ → Bool
next_fits row k = (row (k + 1)).fits

-- A cell of a new row is looked at from the last down to the first that lived in the old row.
-- Before these, it is looked at if the next cell fits in one of the two rows.
abbrev pub is_looked_at : ℕ → Row → Row → ℕ → Bool
is_looked_at atoms old new k =
    lives_from atoms old k && (lives_to atoms old k || next_fits old k || next_fits new k)

-- a match looks at a cell of the row at the end of the text if it or the next one fits
abbrev pub is_seen_at_end : Row → ℕ → Bool
is_seen_at_end row k = (row k).fits || next_fits row k

-- how many cells of a new row are looked at
abbrev pub new_cells : ℕ → Row → Row → ℕ
new_cells atoms old new = count_by (is_looked_at atoms old new) (places atoms)

-- how many cells of the row at the end of the text are looked at
abbrev pub end_cells : ℕ → Row → ℕ
end_cells atoms row = count_by (is_seen_at_end row) (places atoms)

-- the cells of all rows: one row at the end of the text, and then one for each byte
abbrev pub row_cells : {A : Type 0} → Form A → List A → List Mark → ℕ
row_cells form atoms [] = end_cells (length atoms) (row_by form atoms [])
row_cells form atoms (x ∷ text) =
    row_cells form atoms text
    + new_cells (length atoms) (row_by form atoms text) (row_by form atoms (x ∷ text))

-- the first atom is a literal
abbrev pub begins_literal : {A : Type 0} → Form A → List A → Bool
begins_literal form [] = false
begins_literal form (a ∷ _) = form.is_literal a

-- the first atom is a literal, and the text begins with it
abbrev pub agrees : {A : Type 0} → Form A → List A → List Mark → Bool
agrees form (a ∷ _) (x ∷ _) = form.is_literal a && form.admits_of a x
agrees form _ _ = false

-- the first atom is a literal, and the text does not begin with it
abbrev pub first_differs : {A : Type 0} → Form A → List A → List Mark → Bool
first_differs form atoms text = begins_literal form atoms && not (agrees form atoms text)

-- how many literals at the front of the pattern the text begins with, one after the other
abbrev pub front : {A : Type 0} → Form A → List A → List Mark → ℕ
front form (a ∷ later) (x ∷ text) =
    if agrees form (a ∷ later) (x ∷ text) then 1 + front form later text else 0
front form _ _ = 0

-- the last of a list, alone
abbrev pub last_alone : {A : Type 0} → List A → List A
last_alone xs = drop (length xs - 1) xs

-- the last atom is a literal, and the text does not end in it
abbrev pub differs_at_end : {A : Type 0} → Form A → List A → List Mark → Bool
differs_at_end form atoms text = first_differs form (last_alone atoms) (last_alone text)

-- The cells of a match. A last byte that differs ends it with one cell. The literals at the front
-- cost one each; a byte that differs after them ends it, with its cell and the last byte's. The
-- rest is done by rows.
unfoldable pub cost : {A : Type 0} → Form A → List A → List Mark → ℕ
cost form atoms text =
    let same : ℕ = front form atoms text in
    if differs_at_end form atoms text then 1
    else if first_differs form (drop same atoms) (drop same text) then same + 2
    else same + row_cells form (drop same atoms) (drop same text)
