-- The cost of a match, case by case; and steps that stand for atoms cost what these cost.
use Rattle.std.proofs.Common.{◌≡◌, ℕ, zero, suc, ◌+◌, ◌-◌, ◌<◌, true, false, ◌&&◌, List, [], ◌∷◌, length, get_or, drop, nat_le, refl, ◌∙◌, ap}
use Rattle.wq_glob.specs.Mark.{Mark}
use Rattle.wq_glob.specs.Atom.{Atom}
use Rattle.wq_glob.specs.FitsTest.{Reach, Single, Many, Directories, Form, reach, admits, atom_form, fits_by}
use Rattle.wq_glob.specs.Pattern.{PatternData, atoms_of, cells_of}
use Rattle.wq_glob.specs.Table.{Row, begun_at, begun_by, cell_by, row_by}
use Rattle.wq_glob.specs.Cost.{agrees, begins_literal, cost, first_differs, end_cells, front, is_live, is_looked_at, is_seen_at_end, last_alone, new_cells, next_fits, row_cells}
use Rattle.wq_glob.specs.Cell.{marks_of, step_fits}
use Rattle.wq_glob.specs.Step.{AllStand, IsCompiled, step_admits, step_form}
use Rattle.wq_glob.specs.declared.rules.Rules.{Rules}
use Rattle.wq_glob.specs.declared.row.Cell.{Cell}
use Rattle.wq_glob.specs.declared.step.Step.{Step}
use Rattle.wq_glob.proofs.CountLemmas.{count_same, any_same}
use Rattle.wq_glob.proofs.PatternLemmas.{AreBytes, marks_are_bytes, same_fits, same_folders, same_length}

module _ {A : Type 0} (form : Form A) (atoms : List A) (text : List Mark) where
  -- a last byte that differs costs one cell
  pub cost_end : first_differs form (last_alone atoms) (last_alone text) ≡ true → 1 ≡ cost form atoms text
  unfolding cost
  cost_end is = rw is refl

  -- one after the front costs the front, itself and the last byte
  pub cost_front : (same : ℕ) → first_differs form (last_alone atoms) (last_alone text) ≡ false → same ≡ front form atoms text →
      begins_literal form (drop same atoms) ≡ true → agrees form (drop same atoms) (drop same text) ≡ false → same + 2 ≡ cost form atoms text
  unfolding cost
  cost_front same end same_is first other = rw (← same_is, end, first, other) refl

  -- and the rest is done by rows
  pub cost_rows : (same : ℕ) → first_differs form (last_alone atoms) (last_alone text) ≡ false → same ≡ front form atoms text →
      begins_literal form (drop same atoms) ≡ false → same + row_cells form (drop same atoms) (drop same text) ≡ cost form atoms text
  unfolding cost
  cost_rows same end same_is first = rw (← same_is, end, first) refl

-- steps that stand for atoms do so from each place on
all_stand_from : (f : Rules) (k : ℕ) (steps : List Step) (atoms : List Atom) → AllStand f steps atoms → AllStand f (drop k steps) (drop k atoms)
all_stand_from f zero steps atoms all = all
all_stand_from f (suc k) [] [] all = all
all_stand_from f (suc k) [] (a ∷ atoms) all = absurd all
all_stand_from f (suc k) (s ∷ steps) [] all = absurd all
all_stand_from f (suc k) (s ∷ steps) (a ∷ atoms) all = all_stand_from f k steps atoms all.1

bytes_from : (k : ℕ) (xs : List Mark) → AreBytes xs → AreBytes (drop k xs)
bytes_from zero xs bytes = bytes
bytes_from (suc k) [] bytes = bytes
bytes_from (suc k) (x ∷ xs) bytes = bytes_from k xs bytes.1

-- rows with the same cells have the same cells looked at
next_same : (row other : Row) → ((k : ℕ) → row k ≡ other k) → (k : ℕ) → next_fits row k ≡ next_fits other k
next_same row other same k = ap (λ (c : Cell). c.fits) (same (k + 1))

same_end : (row other : Row) → ((k : ℕ) → row k ≡ other k) → (k : ℕ) → is_seen_at_end row k ≡ is_seen_at_end other k
same_end row other same k = rw (same k, next_same row other same k) refl

same_seen : (atoms : ℕ) (old other_old new other_new : Row) → ((k : ℕ) → old k ≡ other_old k) → ((k : ℕ) → new k ≡ other_new k) → (k : ℕ) → is_looked_at atoms old new k ≡ is_looked_at atoms other_old other_new k
same_seen atoms old other_old new other_new same_old same_new k =
    rw (any_same _ _ (atoms + 1) 0 from, any_same _ _ (atoms + 1) 0 to, next_same old other_old same_old k, next_same new other_new same_new k) refl
  where
    from : (j : ℕ) → (nat_le k j && is_live (old j)) ≡ (nat_le k j && is_live (other_old j))
    from j = rw (same_old j) refl

    to : (j : ℕ) → (nat_le j k && is_live (old j)) ≡ (nat_le j k && is_live (other_old j))
    to j = rw (same_old j) refl

module _ (f : Rules) where
  -- and have the same cells
  same_begun : (steps : List Step) (atoms : List Atom) → AllStand f steps atoms → (xs : List Mark) → AreBytes xs → begun_by (step_form f) steps xs ≡ begun_by (atom_form f.flags) atoms xs
  same_begun [] [] all xs bytes = refl
  same_begun [] (a ∷ atoms) all xs bytes = absurd all
  same_begun (s ∷ steps) [] all xs bytes = absurd all
  same_begun (s ∷ steps) (a ∷ atoms) (stands, all) xs bytes =
      ap (λ (r : Reach). begun_at r (step_admits f s) (step_fits f steps) xs) stands.same_reach
      ∙ at (reach a)
    where
      at : (r : Reach) → begun_at r (step_admits f s) (step_fits f steps) xs ≡ begun_at r (admits f.flags a) (fits_by (atom_form f.flags) atoms) xs
      at Single = refl
      at Many = refl
      at Directories = same_folders (step_admits f s) (admits f.flags a) (step_fits f steps) (fits_by (atom_form f.flags) atoms) stands.same_bytes (same_fits f steps atoms all) xs bytes

  same_cell : (steps : List Step) (atoms : List Atom) → AllStand f steps atoms → (xs : List Mark) → AreBytes xs → cell_by (step_form f) steps xs ≡ cell_by (atom_form f.flags) atoms xs
  same_cell steps atoms all xs bytes = rw (same_fits f steps atoms all xs bytes, same_begun steps atoms all xs bytes) refl

  literals : (steps : List Step) (atoms : List Atom) → AllStand f steps atoms → begins_literal (step_form f) steps ≡ begins_literal (atom_form f.flags) atoms
  literals [] [] all = refl
  literals [] (a ∷ atoms) all = absurd all
  literals (s ∷ steps) [] all = absurd all
  literals (s ∷ steps) (a ∷ atoms) all = all.0.same_literal

  agreeing : (steps : List Step) (atoms : List Atom) → AllStand f steps atoms → (xs : List Mark) → AreBytes xs → agrees (step_form f) steps xs ≡ agrees (atom_form f.flags) atoms xs
  agreeing [] [] all xs bytes = refl
  agreeing [] (a ∷ atoms) all xs bytes = absurd all
  agreeing (s ∷ steps) [] all xs bytes = absurd all
  agreeing (s ∷ steps) (a ∷ atoms) all [] bytes = refl
  agreeing (s ∷ steps) (a ∷ atoms) all (x ∷ xs) bytes = rw (all.0.same_literal, all.0.same_bytes x bytes.0) refl

  same_front : (steps : List Step) (atoms : List Atom) → AllStand f steps atoms → (xs : List Mark) → AreBytes xs → front (step_form f) steps xs ≡ front (atom_form f.flags) atoms xs
  same_front [] [] all xs bytes = refl
  same_front [] (a ∷ atoms) all xs bytes = absurd all
  same_front (s ∷ steps) [] all xs bytes = absurd all
  same_front (s ∷ steps) (a ∷ atoms) all [] bytes = refl
  same_front (s ∷ steps) (a ∷ atoms) all (x ∷ xs) bytes = rw (all.0.same_literal, all.0.same_bytes x bytes.0, same_front steps atoms all.1 xs bytes.1) refl

  same_differs : (steps : List Step) (atoms : List Atom) → AllStand f steps atoms → (xs : List Mark) → AreBytes xs → first_differs (step_form f) steps xs ≡ first_differs (atom_form f.flags) atoms xs
  same_differs steps atoms all xs bytes = rw (literals steps atoms all, agreeing steps atoms all xs bytes) refl

  module _ (steps : List Step) (atoms : List Atom) (all : AllStand f steps atoms) where
    same_row : (xs : List Mark) → AreBytes xs → (k : ℕ) → row_by (step_form f) steps xs k ≡ row_by (atom_form f.flags) atoms xs k
    same_row xs bytes k = same_cell (drop k steps) (drop k atoms) (all_stand_from f k steps atoms all) xs bytes

    same_rows : (xs : List Mark) → AreBytes xs → row_cells (step_form f) steps xs ≡ row_cells (atom_form f.flags) atoms xs
    same_rows [] bytes =
        ap (λ (n : ℕ). end_cells n (row_by (step_form f) steps [])) (same_length f steps atoms all)
        ∙ count_same _ _ (length atoms + 1) 0 (λ k. same_end _ _ (same_row [] bytes) k)
    same_rows (x ∷ xs) bytes =
        ap (λ (n : ℕ). row_cells (step_form f) steps xs + new_cells n (row_by (step_form f) steps xs) (row_by (step_form f) steps (x ∷ xs))) (same_length f steps atoms all)
        ∙ ap (λ (n : ℕ). n + new_cells (length atoms) (row_by (step_form f) steps xs) (row_by (step_form f) steps (x ∷ xs))) (same_rows xs bytes.1)
        ∙ ap (λ (n : ℕ). row_cells (atom_form f.flags) atoms xs + n)
        (count_same _ _ (length atoms + 1) 0 (λ k. same_seen (length atoms) _ _ _ _ (same_row xs bytes.1) (same_row (x ∷ xs) bytes) k))

  -- so the cost is the same
  pub same_cost : (steps : List Step) (atoms : List Atom) → AllStand f steps atoms → (xs : List Mark) → AreBytes xs → cost (step_form f) steps xs ≡ cost (atom_form f.flags) atoms xs
  unfolding cost
  same_cost steps atoms all xs bytes =
      rw (
        same_front steps atoms all xs bytes,
        same_length f steps atoms all,
        same_differs (drop (length atoms - 1) steps) (drop (length atoms - 1) atoms) (all_stand_from f (length atoms - 1) steps atoms all) (last_alone xs) (bytes_from (length xs - 1) xs bytes),
        same_differs (drop same steps) (drop same atoms) (all_stand_from f same steps atoms all) (drop same xs) (bytes_from same xs bytes),
        same_rows (drop same steps) (drop same atoms) (all_stand_from f same steps atoms all) (drop same xs) (bytes_from same xs bytes),
      ) refl
    where
      same : ℕ
      same = front (atom_form f.flags) atoms xs

-- the result of the matcher for the steps is that for the pattern
pub cost_of : (g : PatternData) (text pattern : List ℕ) (f : Rules) (steps slice : List Step) (cells : ℕ) → record { text = pattern; flags = f.flags } ≡ g → IsCompiled pattern f steps → slice ≡ steps →
    ((i : ℕ) → get_or text i 0 < 256) → cells ≡ cost (step_form f) slice (marks_of f text) → cells ≡ cells_of g text
unfolding cells_of atoms_of
cost_of g text pattern f steps slice cells is compiled same small says =
    says
    ∙ ap (λ (l : List Step). cost (step_form f) l (marks_of f text)) same
    ∙ same_cost f steps _ compiled.stands (marks_of f text) (marks_are_bytes f.flags.dotfiles true text small)
    ∙ ap (λ (v : PatternData). cells_of v text) is
