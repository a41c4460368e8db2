-- The last byte of a pattern, against the last byte of a text.
use Rattle.std.proofs.Common.{◌≡◌, ℕ, ◌+◌, ◌-◌, ◌≤◌, Bool, true, false, not, ◌==◌, List, [], ◌∷◌, length, drop, get_or, sym, ◌∙◌, ap, subst, inl, inr, arith}
use Rattle.std.proofs.lemmas.Bool.{cases_lt, cases_eq, and_left}
use Rattle.std.proofs.lemmas.List.{drop_more}
use Rattle.wq_glob.specs.Byte.{lower_if}
use Rattle.wq_glob.specs.Mark.{Mark}
use Rattle.wq_glob.specs.Cell.{marks_of, cell_of, dead_cell, step_fits, marks_at, mark_at}
use Rattle.wq_glob.specs.Cost.{first_differs, last_alone}
use Rattle.wq_glob.specs.Step.{step_form}
use Rattle.wq_glob.specs.declared.rules.Rules.{Rules}
use Rattle.wq_glob.specs.declared.step.Step.{Step}
use Rattle.wq_glob.specs.declared.step.Step.TheVariants.{Byte}
use Rattle.wq_glob.proofs.EndLemmas.{end_cell, none_below}
use Rattle.wq_glob.proofs.MarkLemmas.{marks_step, length-marks_from}
use Rattle.wq_glob.proofs.RowLemmas.{cell_at_end, dead_below, drop_all}
use Rattle.wq_glob.proofs.RunLemmas.{dead_from, marks_end}

-- the last mark of a text, alone
last_mark : (f : Rules) (text : List ℕ) (at : ℕ) → at + 1 ≡ length text → last_alone (marks_of f text) ≡ mark_at f text at ∷ []
last_mark f text at place =
    let len = length-marks_from f.flags.dotfiles true text in
    let behind : marks_at f text (at + 1) ≡ [] = ap (marks_at f text) place ∙ marks_end f text in
    ap (λ (i : ℕ). drop i (marks_of f text)) (let e : length (marks_of f text) - 1 ≡ at = omega arith in e)
    ∙ marks_step f text at (omega arith)
    ∙ ap (λ (l : List Mark). mark_at f text at ∷ l) behind

module _ (f : Rules) (steps : List Step) (n : ℕ) (d : Step) (b : ℕ) (ends : n + 1 ≡ length steps) (last : get_or steps n d ≡ Byte b) where
  -- the tail at the last step is that byte
  last_tail : drop n steps ≡ Byte b ∷ []
  last_tail =
      drop_more steps n d (omega arith)
      ∙ ap (λ (s : Step). s ∷ drop (n + 1) steps) last
      ∙ ap (λ (l : List Step). Byte b ∷ l) (drop_all steps (n + 1) (omega arith))

  -- which does not fit the empty text, and so no tail does
  none_at_end : (j : ℕ) → j ≤ n → step_fits f (drop j steps) [] ≡ false
  none_at_end j before = none_below f steps n (omega arith) (ap (λ (l : List Step). step_fits f l []) last_tail) (n - j) j (omega arith)

  -- nor a text of one other byte
  none_at_last : (x : Mark) → (lower_if f.flags.fold x.byte == b) ≡ false → (j : ℕ) → 0 ≤ j → j ≤ length steps → cell_of f (drop j steps) (x ∷ []) ≡ dead_cell
  none_at_last x first_differs j from within =
      let here : step_fits f (drop n steps) (x ∷ []) ≡ false =
      ap (λ (l : List Step). step_fits f l (x ∷ [])) last_tail ∙ and_left (lower_if f.flags.fold x.byte == b) true first_differs in
      elim (cases_lt j n) [
        | inl before ↦
            dead_below f steps x [] n (omega arith)
            (λ i h. end_cell f (drop i steps) ∙ ap (λ (v : Bool). record { fits = v; begun = false }) (none_at_end i (omega arith)))
            (none_at_end n (omega arith)) here j before
        | inr after ↦
            elim (cases_eq j n) [
              | inl same ↦
                  ap (λ (i : ℕ). cell_of f (drop i steps) (x ∷ [])) same
                  ∙ ap (λ (l : List Step). cell_of f l (x ∷ [])) last_tail
                  ∙ ap (λ (v : Bool). record { fits = v; begun = false }) (and_left (lower_if f.flags.fold x.byte == b) true first_differs)
              | inr other ↦ sym (cell_at_end f steps j x [] (omega arith))
            ]
      ]

  -- so a text that ends in another byte does not fit
  pub back_differs : (text : List ℕ) (at : ℕ) → at + 1 ≡ length text → (lower_if f.flags.fold (get_or text at 0) == b) ≡ false → step_fits f steps (marks_of f text) ≡ false
  back_differs text at place first_differs =
      let behind : marks_at f text (at + 1) ≡ [] = ap (marks_at f text) place ∙ marks_end f text in
      let cut : marks_at f text at ≡ mark_at f text at ∷ [] = marks_step f text at (omega arith) ∙ ap (λ (l : List Mark). mark_at f text at ∷ l) behind in
      dead_from f steps text at at 0 (omega arith) (omega arith)
      (subst (λ (t : List Mark). (j : ℕ) → 0 ≤ j → j ≤ length steps → cell_of f (drop j steps) t ≡ dead_cell) (sym cut) (none_at_last (mark_at f text at) first_differs))

  -- nor does the empty text
  pub back_empty : (text : List ℕ) → length text ≡ 0 → step_fits f steps (marks_of f text) ≡ false
  back_empty [] none = none_at_end 0 (omega arith)
  back_empty (x ∷ xs) none = absurd (omega arith)

  -- the last step alone is that byte
  last_is : last_alone steps ≡ Byte b ∷ []
  last_is = ap (λ (i : ℕ). drop i steps) (let e : length steps - 1 ≡ n = omega arith in e) ∙ last_tail

  -- so that byte decides whether the last of a text differs
  pub back_value : (text : List ℕ) (at : ℕ) → at + 1 ≡ length text →
      not (lower_if f.flags.fold (get_or text at 0) == b) ≡ first_differs (step_form f) (last_alone steps) (last_alone (marks_of f text))
  back_value text at place =
      sym
      (ap (λ (l : List Step). first_differs (step_form f) l (last_alone (marks_of f text))) last_is
      ∙ ap (first_differs (step_form f) (Byte b ∷ [])) (last_mark f text at place))

  -- and of an empty text it always differs
  pub back_value_empty : (text : List ℕ) → length text ≡ 0 → true ≡ first_differs (step_form f) (last_alone steps) (last_alone (marks_of f text))
  back_value_empty [] none = sym (ap (λ (l : List Step). first_differs (step_form f) l []) last_is)
  back_value_empty (x ∷ xs) none = absurd (omega arith)
