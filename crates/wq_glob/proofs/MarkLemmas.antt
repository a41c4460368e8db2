-- The marks of a text, place by place.
use Rattle.std.proofs.Common.{◌≡◌, ℕ, zero, suc, ◌+◌, ◌-◌, ◌<◌, Bool, true, false, not, ◌&&◌, ◌||◌, ◌==◌, List, [], ◌∷◌, length, drop, get_or, refl, sym, ◌∙◌, ap, arith, add-one, sub-one}
use Rattle.std.proofs.lemmas.Bool.{ne_eqb, or_from, true≢false}
use Rattle.wq_base.specs.Byte.{is_slash, is_dot}
use Rattle.wq_glob.specs.Mark.{marks_from}
use Rattle.wq_glob.specs.Cell.{is_front, marks_of, marks_at, mark_at}
use Rattle.wq_glob.specs.Fits.{is_wild}
use Rattle.wq_glob.specs.declared.rules.Rules.{Rules}

-- whether a place of a text is at the front of a name
front_at : Bool → List ℕ → ℕ → Bool
front_at front text zero = front
front_at front [] (suc at) = false
front_at front (b ∷ bs) (suc at) = front_at (is_slash b) bs at

front_behind : (front : Bool) (text : List ℕ) (at : ℕ) → suc at < length text → front_at front text (suc at) ≡ is_slash (get_or text at 0)
unfolding front_at
front_behind front [] at h = absurd (omega arith)
front_behind front (b ∷ bs) zero h = refl
front_behind front (b ∷ bs) (suc at) h = front_behind (is_slash b) bs at (omega arith)

drop_marks : (dotfiles front : Bool) (text : List ℕ) (at : ℕ) → at < length text →
    drop at (marks_from dotfiles front text)
    ≡ record { byte = get_or text at 0; hidden = not dotfiles && front_at front text at && is_dot (get_or text at 0) } ∷ drop (suc at) (marks_from dotfiles front text)
unfolding front_at
drop_marks dotfiles front [] at h = absurd (omega arith)
drop_marks dotfiles front (b ∷ bs) zero h = refl
drop_marks dotfiles front (b ∷ bs) (suc at) h = drop_marks dotfiles (is_slash b) bs at (omega arith)

front_is : (text : List ℕ) (at : ℕ) → at < length text → front_at true text at ≡ (at == 0 || is_slash (get_or text (at - 1) 0))
unfolding front_at
front_is text zero h = refl
front_is text (suc at) h =
    let later : suc at ≡ 0 → ⊥ = omega arith in
    rw (ne_eqb (suc at) 0 later, sub-one) (front_behind true text at h)

-- the mark at a place, and the marks after it
pub marks_step : (f : Rules) (text : List ℕ) (at : ℕ) → at < length text → marks_at f text at ≡ mark_at f text at ∷ marks_at f text (at + 1)
marks_step f text at h =
    drop_marks f.flags.dotfiles true text at h
    ∙ ap (λ (b : Bool). record { byte = get_or text at 0; hidden = not f.flags.dotfiles && b && is_dot (get_or text at 0) } ∷ drop (suc at) (marks_of f text)) (front_is text at h)
    ∙ ap (λ (n : ℕ). mark_at f text at ∷ drop n (marks_of f text)) (sym (add-one at))

-- a text has as many marks as bytes
pub length-marks_from : (dotfiles front : Bool) (text : List ℕ) → length (marks_from dotfiles front text) ≡ length text
length-marks_from dotfiles front [] = refl
length-marks_from dotfiles front (b ∷ bs) = ap suc (length-marks_from dotfiles (is_slash b) bs)

no_dot : (dotfiles whole front slash dot : Bool) → front ≡ false → slash ≡ false → (not (not dotfiles && front && dot) && not (whole && slash)) ≡ true
no_dot true true false false dot none other = refl
no_dot true false false false dot none other = refl
no_dot false true false false dot none other = refl
no_dot false false false false dot none other = refl
no_dot dotfiles whole true slash dot none other = absurd (true≢false none)
no_dot dotfiles whole false true dot none other = absurd (true≢false other)

-- a byte that is no slash, and not after one, is plain
pub plain_wild : (f : Rules) (text : List ℕ) (i : ℕ) → 0 < i → is_slash (get_or text i 0) ≡ false → is_slash (get_or text (i - 1) 0) ≡ false → is_wild f.flags (mark_at f text i) ≡ true
plain_wild f text i later here before =
    let none : i ≡ 0 → ⊥ = omega arith in
    no_dot f.flags.dotfiles f.flags.wholename (is_front text i) (is_slash (get_or text i 0)) (is_dot (get_or text i 0)) (or_from _ _ (ne_eqb i 0 none) before) here
