-- The suffix without the byte begins at its last place.
use Rattle.std.proofs.Common.{◌≡◌, ℕ, zero, suc, ◌+◌, ◌-◌, ◌<◌, ◌≤◌, Bool, true, false, not, ◌||◌, ◌==◌, List, [], ◌∷◌, length, drop, get_or, refl, sym, ap, ◌∙◌, arith}
use Rattle.std.specs.List.{after_last, list_any, suffix_len}
use Rattle.std.proofs.lemmas.List.Sums.{suffix_len_is}
use Rattle.std.proofs.lemmas.Bool.{false_from_ne_true}
use Rattle.memchr.specs.Find.{NoneAfter, Nowhere, Passes}
use Rattle.wq_record.proofs.name.after_last.Goals as goal

-- the bytes from n on fail the test, and the one before them passes: they are the part after the last such byte
module _ (byte : ℕ) (bytes : List ℕ) where
  abbrev is_it : ℕ → Bool
  is_it b = b == byte

  abbrev is_other : ℕ → Bool
  is_other b = not (is_it b)

  other_from : (n : ℕ) → Nowhere (Passes is_it bytes) n (length bytes) → (k : ℕ) → n ≤ k → k < length bytes → is_other (get_or bytes k 0) ≡ true
  other_from n none k low high = ap not (false_from_ne_true _ (none k low high))

  pub after_place : (at : ℕ) → NoneAfter (Passes is_it bytes) 0 (length bytes) at → Passes is_it bytes at → drop (at + 1) bytes ≡ after_last is_it bytes
  after_place at place here =
      let inside : at + 1 ≤ length bytes = omega (arith, place.high) in
      let back : at + 1 - 1 ≡ at = omega arith in
      let len : suffix_len is_other bytes ≡ length bytes - (at + 1) = suffix_len_is is_other bytes (at + 1) 0 inside (other_from (at + 1) place.after) (λ _. rw back (ap not here)) in
      let count : length bytes - suffix_len is_other bytes ≡ at + 1 = omega (arith, len, inside) in
      ap (λ n. drop n bytes) (sym count)

  pub after_none : Nowhere (Passes is_it bytes) 0 (length bytes) → after_last is_it bytes ≡ bytes
  after_none none =
      let len : suffix_len is_other bytes ≡ length bytes - 0 = suffix_len_is is_other bytes 0 0 (omega arith) (other_from 0 none) (λ h. absurd (omega arith)) in
      let count : length bytes - suffix_len is_other bytes ≡ 0 = omega (arith, len) in
      rw count refl

pub any_none : (test : ℕ → Bool) (bytes : List ℕ) → Nowhere (Passes test bytes) 0 (length bytes) → list_any test bytes ≡ false
any_none test [] none = refl
any_none test (b ∷ bytes) none = rw (false_from_ne_true (test b) (none 0 (omega arith) (omega arith))) (any_none test bytes (λ k low high. none (suc k) (omega arith) (omega arith)))

pub any_here : (test : ℕ → Bool) (bytes : List ℕ) (at : ℕ) → at < length bytes → Passes test bytes at → list_any test bytes ≡ true
any_here test [] at h here = absurd (omega arith)
any_here test (b ∷ bytes) zero h here = rw here refl
any_here test (b ∷ bytes) (suc at) h here = elim (test b) as (λ v. (v || list_any test bytes) ≡ true) [ true ↦ refl | false ↦ any_here test bytes at (omega arith) here ]

pub returns-in_default : goal.returns-in_default
returns-in_default c = (any_none (is_it c.args.byte c.args.bytes.now) c.args.bytes.now c.in_default.ensures, after_none c.args.byte c.args.bytes.now c.in_default.ensures)

pub returns : goal.returns
returns c =
    let found = c.in-Some.ensures in
    (any_here (is_it c.args.byte c.args.bytes.now) c.args.bytes.now c.in-Some.at found.0.high found.1, c.split_at.ensures.back ∙ after_place c.args.byte c.args.bytes.now c.in-Some.at found.0 found.1)
