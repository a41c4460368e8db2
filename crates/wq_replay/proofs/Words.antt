-- The words of a script's line.
use Rattle.std.proofs.Common.{◌≡◌, ℕ, zero, suc, ◌+◌, ◌-◌, ◌<◌, false, List, [], ◌∷◌, length, take, drop, Some, None, refl, sym, ap, ◌∙◌, arith}
use Rattle.std.proofs.lemmas.Bool.{false_from_ne_true}
use Rattle.std.proofs.lemmas.List.{take_all, length-drop}
use Rattle.memchr.specs.Find.{NoneBefore, Nowhere, Passes, is_byte}
use Rattle.wq_replay.specs.Script.{first_word, is_space}

-- without a space there is no first word
pub no_word : (text : List ℕ) → Nowhere (Passes (is_byte 32) text) 0 (length text) → first_word text ≡ None
no_word [] none = refl
no_word (c ∷ cs) none =
    let other : is_space c ≡ false = false_from_ne_true _ (none 0 (omega arith) (omega arith)) in
    rw (other, no_word cs (λ k low high. none (suc k) (omega arith) (omega arith))) refl

word_at : (text : List ℕ) (at : ℕ) → at < length text → Nowhere (Passes (is_byte 32) text) 0 at → Passes (is_byte 32) text at → first_word text ≡ Some (take at text, drop (suc at) text)
word_at [] at h before here = absurd (omega arith)
word_at (c ∷ cs) zero h before here = rw here refl
word_at (c ∷ cs) (suc at) h before here =
    let other : is_space c ≡ false = false_from_ne_true _ (before 0 (omega arith) (omega arith)) in
    rw (other, word_at cs at (omega arith) (λ k low high. before (suc k) (omega arith) (omega arith)) here) refl

-- the first space parts the first word from the rest
pub word_here : (text : List ℕ) (at : ℕ) → NoneBefore (Passes (is_byte 32) text) 0 (length text) at → Passes (is_byte 32) text at → Some (take at text, take (length text - (at + 1)) (drop (at + 1) text)) ≡ first_word text
word_here text at first here =
    let rest : take (length text - (at + 1)) (drop (at + 1) text) ≡ drop (at + 1) text = take_all _ _ (omega (arith, length-drop (at + 1) text)) in
    let next : at + 1 ≡ suc at = omega arith in
    ap (λ r. Some (take at text, r)) (rest ∙ ap (λ n. drop n text) next) ∙ sym (word_at text at first.high first.before here)
