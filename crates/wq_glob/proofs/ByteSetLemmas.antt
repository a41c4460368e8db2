-- A byte is in a set of four words if it was put there.
use Rattle.std.proofs.Common.{◌≡◌, ◌≢◌, ℕ, zero, suc, ◌*◌, ◌/◌, ◌%◌, ◌^◌, ◌<◌, Bool, true, false, ◌==◌, ◌||◌, List, [], ◌∷◌, length, get_or, set, bit_or, bit_xor, not, ◌+◌, w64, refl, sym, ◌∙◌, ap, inl, inr, arith, get_or-set_same, get_or-set_other}
use Rattle.std.specs.Int.{bit_at}
use Rattle.std.proofs.lemmas.Bool.{cases_eq, eq-eqb, ne_eqb, or_right}
use Rattle.std.proofs.lemmas.Nat.Bits.{bit_at_set_same, bit_at_set_other, bit_at_xor, bit_at_ones, bit_at-lt}

-- each word of an empty set is zero
pub zeros : (i : ℕ) → get_or {A = ℕ} (0 ∷ 0 ∷ 0 ∷ 0 ∷ []) i 0 ≡ 0
zeros zero = refl
zeros (suc zero) = refl
zeros (suc (suc zero)) = refl
zeros (suc (suc (suc zero))) = refl
zeros (suc (suc (suc (suc i)))) = refl

or_false : (x y : Bool) → y ≡ false → x ≡ (x || y)
or_false true y h = refl
or_false false y h = sym h

-- the word with the bit of `byte` set
abbrev with_bit : List ℕ → ℕ → ℕ
with_bit words byte = bit_or (get_or words (byte / 64) 0) (1 * 2 ^ (byte % 64) % 18446744073709551616)

same_bit : (words : List ℕ) (byte : ℕ) → byte / 64 < length words → bit_at (get_or (set words (byte / 64) (with_bit words byte)) (byte / 64) 0) (byte % 64) ≡ 1
same_bit words byte within = rw get_or-set_same (bit_at_set_same w64 (get_or words (byte / 64) 0) (byte % 64) (omega arith))

other_bit : (words : List ℕ) (byte b : ℕ) → byte / 64 < length words → b ≢ byte → bit_at (get_or (set words (byte / 64) (with_bit words byte)) (b / 64) 0) (b % 64) ≡ bit_at (get_or words (b / 64) 0) (b % 64)
other_bit words byte b within ne =
    elim (cases_eq (b / 64) (byte / 64)) [
      | inl same ↦
          let differ : b % 64 ≢ byte % 64 = omega arith in
          rw same
          (rw get_or-set_same (bit_at_set_other w64 (get_or words (byte / 64) 0) (byte % 64) (omega arith) (b % 64) differ))
      | inr apart ↦ ap (λ (w : ℕ). bit_at w (b % 64)) (get_or-set_other words (byte / 64) (b / 64) (with_bit words byte) 0 apart)
    ]

-- putting a byte into its word adds that byte and no other
pub set_has : (words : List ℕ) (byte b : ℕ) → byte / 64 < length words → (bit_at (get_or (set words (byte / 64) (with_bit words byte)) (b / 64) 0) (b % 64) == 1) ≡ ((bit_at (get_or words (b / 64) 0) (b % 64) == 1) || b == byte)
set_has words byte b within =
    elim (cases_eq b byte) [
      | inl same ↦
          rw same
          (ap (λ (n : ℕ). n == 1) (same_bit words byte within) ∙ sym (or_right _ _ (eq-eqb byte byte refl)))
      | inr ne ↦ ap (λ (n : ℕ). n == 1) (other_bit words byte b within ne) ∙ or_false _ _ (ne_eqb b byte ne)
    ]

-- a bit is the other one after it was turned
turned : (word i : ℕ) → i < 64 → (bit_at (bit_xor word 18446744073709551615) i == 1) ≡ not (bit_at word i == 1)
turned word i within =
    let one : bit_at 18446744073709551615 i ≡ 1 = bit_at_ones 64 i within in
    ap (λ (n : ℕ). n == 1) (bit_at_xor word 18446744073709551615 i ∙ ap (λ (n : ℕ). (bit_at word i + n) % 2) one)
    ∙ at (bit_at word i) (bit_at-lt word i)
  where
    at : (n : ℕ) → n < 2 → ((n + 1) % 2 == 1) ≡ not (n == 1)
    at zero h = refl
    at (suc zero) h = refl
    at (suc (suc n)) h = absurd (omega arith)

-- the four words of the other bytes
abbrev others : List ℕ → List ℕ
others words =
    bit_xor (get_or words 0 0) 18446744073709551615 ∷ bit_xor (get_or words 1 0) 18446744073709551615
    ∷ bit_xor (get_or words 2 0) 18446744073709551615 ∷ bit_xor (get_or words 3 0) 18446744073709551615 ∷ []

-- a byte is in them if it is not in the set
pub others_have : (words : List ℕ) (b : ℕ) → b < 256 → (bit_at (get_or (others words) (b / 64) 0) (b % 64) == 1) ≡ not (bit_at (get_or words (b / 64) 0) (b % 64) == 1)
others_have words b small = at (b / 64) (omega arith)
  where
    at : (i : ℕ) → i < 4 → (bit_at (get_or (others words) i 0) (b % 64) == 1) ≡ not (bit_at (get_or words i 0) (b % 64) == 1)
    at zero h = turned (get_or words 0 0) (b % 64) (omega arith)
    at (suc zero) h = turned (get_or words 1 0) (b % 64) (omega arith)
    at (suc (suc zero)) h = turned (get_or words 2 0) (b % 64) (omega arith)
    at (suc (suc (suc zero))) h = turned (get_or words 3 0) (b % 64) (omega arith)
    at (suc (suc (suc (suc i)))) h = absurd (omega arith)
