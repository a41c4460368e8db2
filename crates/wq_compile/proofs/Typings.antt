-- The kinds of the cells at each place of the code of an expression keep the verifier's rules.
use Rattle.std.proofs.Common.{◌≡◌, ℕ, zero, suc, ◌+◌, ◌<◌, ◌≤◌, Bool, true, false, not, List, [], ◌∷◌, ◌++◌, length, Some, refl, sym, ap, subst, ◌∙◌, arith, length-append, drop}
use Rattle.std.specs.Prelude.{slice_get, ◌&&◌, ◌||◌, ◌==◌, nat_le}
use Rattle.std.proofs.lemmas.Bool.{and_parts, eqb-true, eq-eqb, leb-true, lt-ltb, ltb-true}
use Rattle.std.proofs.lemmas.Option.{slice_get_within}
use Rattle.wq_code.specs.Constant.{Constant, no_constant, in_numbers, in_texts, in_lists, in_patterns, in_sets, constant, has_constant}
use Rattle.wq_code.specs.Flow.{flow}
use Rattle.wq_code.specs.Signature.{Signature, signature}
use Rattle.wq_code.specs.declared.flow.Flow.{Flow}
use Rattle.wq_code.specs.declared.flow.Flow.TheVariants.{Next, Stop}
use Rattle.wq_code.specs.declared.operation.CellKind.TheVariants as cell
use Rattle.wq_code.specs.declared.operation.Op.{Op}
use Rattle.wq_code.specs.declared.operation.Op.TheVariants.{Flag, Number, Text, OneOf, Match, Not, Drop}
use Rattle.wq_code.specs.declared.raw.Raw.{Raw}
use Rattle.wq_verify.specs.Kinds.{Kinds, KnownKinds, all_meet, kinds_after, leads}
use Rattle.wq_verify.specs.Limit.{max_cells}
use Rattle.wq_verify.specs.Typing.{IsNext, IsWell}
use Rattle.wq_compile.specs.Instruction.{Instruction, plain, number, text, one_of, fitting, blank}
use Rattle.wq_compile.specs.Code.{Part, straight, jump_if, others_len, others, joined}
use Rattle.wq_compile.proofs.Puts.{IsOp, StandsAt, HasCode, has-first, has-second}
use Rattle.wq_compile.proofs.Runs.{goes_next, next-flow, joined_len}

-- ---- the kinds that are known at places

-- from a place on these kinds are known
abbrev pub Agrees : KnownKinds → ℕ → List Kinds → Type 0
Agrees lists at [] = Unit {0}
Agrees lists at (kinds ∷ more) = (lists at ≡ Some kinds) × Agrees lists (suc at) more

-- the known kinds, cut in two
pub agrees-first : (lists : KnownKinds) (at : ℕ) (xs ys : List Kinds) → Agrees lists at (xs ++ ys) → Agrees lists at xs
agrees-first lists at [] ys a = tt
agrees-first lists at (x ∷ xs) ys a = (a.0, agrees-first lists (suc at) xs ys a.1)

pub agrees-second : (lists : KnownKinds) (at : ℕ) (xs ys : List Kinds) → Agrees lists at (xs ++ ys) → Agrees lists (at + length xs) ys
agrees-second lists at [] ys a = let z : at + 0 ≡ at = omega arith in subst (λ n. Agrees lists n ys) (sym z) a
agrees-second lists at (x ∷ xs) ys a =
    let z : suc at + length xs ≡ at + suc (length xs) = omega arith in
    subst (λ n. Agrees lists n ys) z (agrees-second lists (suc at) xs ys a.1)

-- ---- sound places

-- the instruction at a place keeps the rules, and may go on to the next place
pub record Sound (whole : Raw) (lists : KnownKinds) (at : ℕ) : Type 0 where
  pub op : Op
  pub kinds : Kinds
  pub well : IsWell whole lists at op kinds
  pub on : leads (flow op) at (at + 1) ≡ true

-- so many places from one on are sound
abbrev pub AreSound : Raw → KnownKinds → ℕ → ℕ → Type 0
AreSound whole lists at zero = Unit {0}
AreSound whole lists at (suc n) = Sound whole lists at × AreSound whole lists (suc at) n

-- sound places after sound places
sound-both : (whole : Raw) (lists : KnownKinds) (at m n : ℕ) → AreSound whole lists at m → AreSound whole lists (at + m) n
    → AreSound whole lists at (m + n)
sound-both whole lists at zero n a b =
    let z : at + 0 ≡ at = omega arith in
    let y : n ≡ 0 + n = omega arith in
    subst (AreSound whole lists at) y (subst (λ p. AreSound whole lists p n) z b)
sound-both whole lists at (suc m) n a b =
    let z : at + suc m ≡ suc at + m = omega arith in
    let y : suc (m + n) ≡ suc m + n = omega arith in
    subst (AreSound whole lists at) y (a.0, sound-both whole lists (suc at) m n a.1 (subst (λ p. AreSound whole lists p n) z b))

-- one of the sound places
pub sound-at : (whole : Raw) (lists : KnownKinds) (at n i : ℕ) → AreSound whole lists at n → i < n → Sound whole lists (at + i)
sound-at whole lists at zero i a lt = absurd (omega (arith, lt))
sound-at whole lists at (suc n) zero a lt = let z : at ≡ at + 0 = omega arith in subst (Sound whole lists) z a.0
sound-at whole lists at (suc n) (suc i) a lt =
    let z : suc at + i ≡ at + suc i = omega arith in
    subst (Sound whole lists) z (sound-at whole lists (suc at) n i a.1 (omega (arith, lt)))

-- ---- code without jumps

-- an operation of the same kind as an instruction
abbrev pub sample : Instruction → Op
sample (plain op) = op
sample (number n) = Number 0
sample (text bytes) = Text 0
sample (one_of case entries) = OneOf case 0
sample (fitting pattern) = Match 0

same-signature : (whole : Raw) (op : Op) (i : Instruction) → IsOp whole op i → signature op ≡ signature (sample i)
same-signature whole op (plain o) is = ap signature is
same-signature whole op (number n) is = ap signature is.1
same-signature whole op (text bytes) is = ap signature is.1
same-signature whole op (one_of case entries) is = ap signature is.1
same-signature whole op (fitting pattern) is = ap signature is.1

-- an instruction names no constant, or one that it brings along
abbrev pub brings : Instruction → Bool
brings (plain op) = has_constant blank (constant op)
brings _ = true

named-plain : (whole : Raw) (c : Constant) → has_constant blank c ≡ true → has_constant whole c ≡ true
named-plain whole no_constant e = refl
named-plain whole (in_numbers place) e = let lt = ltb-true place 0 e in absurd (omega (arith, lt))
named-plain whole (in_texts place) e = let lt = ltb-true place 0 e in absurd (omega (arith, lt))
named-plain whole (in_lists place) e = let lt = ltb-true place 0 e in absurd (omega (arith, lt))
named-plain whole (in_patterns place) e = let lt = ltb-true place 0 e in absurd (omega (arith, lt))
named-plain whole (in_sets place) e = let lt = ltb-true place 0 e in absurd (omega (arith, lt))

named : (whole : Raw) (op : Op) (i : Instruction) → IsOp whole op i → brings i ≡ true → has_constant whole (constant op) ≡ true
named whole op (plain o) is e = subst (λ p. has_constant whole (constant p) ≡ true) (sym is) (named-plain whole (constant o) e)
named whole op (number n) is e =
    subst (λ p. has_constant whole (constant p) ≡ true) (sym is.1) (lt-ltb is.0 (length whole.nums) (slice_get_within whole.nums is.0 n is.2))
named whole op (text bytes) is e =
    subst (λ p. has_constant whole (constant p) ≡ true) (sym is.1) (lt-ltb is.0 (length whole.texts) (slice_get_within whole.texts is.0 bytes is.2))
named whole op (one_of case entries) is e =
    subst (λ p. has_constant whole (constant p) ≡ true) (sym is.1) (lt-ltb is.0 (length whole.lists) (slice_get_within whole.lists is.0 entries is.2))
named whole op (fitting pattern) is e =
    subst (λ p. has_constant whole (constant p) ≡ true) (sym is.1) (lt-ltb is.0 (length whole.patterns) (slice_get_within whole.patterns is.0 pattern is.2))

-- the kinds after an instruction
abbrev pub kinds_next : Instruction → Kinds → Kinds
kinds_next i kinds = kinds_after (sample i) kinds

-- an instruction finds the cells that it takes, leaves not too many, and is followed by the next place
abbrev pub is_fine : Instruction → Kinds → Bool
is_fine i kinds =
    goes_next i && (brings i
    && (nat_le (length (signature (sample i)).needs) (length kinds)
    && (all_meet (signature (sample i)).needs kinds && nat_le (length (kinds_next i kinds)) max_cells)))

-- so does each of several
abbrev pub are_fine : List Instruction → Kinds → Bool
are_fine [] kinds = true
are_fine (i ∷ is) kinds = is_fine i kinds && are_fine is (kinds_next i kinds)

-- the kinds before each of them
abbrev pub kinds_before : List Instruction → Kinds → List Kinds
kinds_before [] kinds = []
kinds_before (i ∷ is) kinds = kinds ∷ kinds_before is (kinds_next i kinds)

-- the kinds after them
abbrev pub kinds_behind : List Instruction → Kinds → Kinds
kinds_behind [] kinds = kinds
kinds_behind (i ∷ is) kinds = kinds_behind is (kinds_next i kinds)

-- the kinds that are known at their beginning
known-first : (lists : KnownKinds) (at : ℕ) (is : List Instruction) (kinds : Kinds) → Agrees lists at (kinds_before is kinds)
    → lists (at + length is) ≡ Some (kinds_behind is kinds) → lists at ≡ Some kinds
known-first lists at [] kinds a e = let z : at + 0 ≡ at = omega arith in subst (λ n. lists n ≡ Some kinds) z e
known-first lists at (i ∷ is) kinds a e = a.0

-- the next place, and no other
only-next : (whole : Raw) (lists : KnownKinds) (at : ℕ) (after : Kinds) → lists (suc at) ≡ Some after → suc at < length whole.code
    → (place : ℕ) → (place == at + 1) ≡ true → IsNext whole lists at after place
only-next whole lists at after known within place e =
    let is : place ≡ at + 1 = eqb-true place (at + 1) e in
    let z : suc at ≡ place = omega (arith, is) in
    record { later = omega (arith, is); within = subst (λ n. n < length whole.code) z within; known = subst (λ n. lists n ≡ Some after) z known }

fine-sound : (whole : Raw) (lists : KnownKinds) (at : ℕ) (i : Instruction) (kinds : Kinds) → StandsAt whole at i → is_fine i kinds ≡ true
    → lists at ≡ Some kinds → lists (suc at) ≡ Some (kinds_next i kinds) → suc at < length whole.code → Sound whole lists at
fine-sound whole lists at i kinds s fine known then within =
    let a = and_parts _ _ fine in
    let b = and_parts _ _ a.1 in
    let c = and_parts _ _ b.1 in
    let d = and_parts _ _ c.1 in
    let way : flow s.op ≡ Next = next-flow whole s.op i s.is a.0 in
    let same : signature s.op ≡ signature (sample i) = same-signature whole s.op i s.is in
    let after : kinds_after s.op kinds ≡ kinds_next i kinds = after-same (signature s.op) (signature (sample i)) kinds same in
    record {
      op = s.op;
      kinds = kinds;
      well = record {
        there = s.there;
        reached = known;
        operands = record {
          enough = subst (λ (g : Signature). length g.needs ≤ length kinds) (sym same) (leb-true _ _ c.0);
          right = subst (λ (g : Signature). all_meet g.needs kinds ≡ true) (sym same) d.0;
          alone = λ stop. absurd (not-stop (flow s.op) way stop);
        };
        named = named whole s.op i s.is b.0;
        low = subst (λ (k : Kinds). length k ≤ max_cells) (sym after) (leb-true _ _ d.1);
        next = λ place l. only-next whole lists at (kinds_after s.op kinds) (subst (λ (k : Kinds). lists (suc at) ≡ Some k) (sym after) then) within place
            (subst (λ (f : Flow). leads f at place ≡ true) way l);
      };
      on = subst (λ (f : Flow). leads f at (at + 1) ≡ true) (sym way) (eq-eqb (at + 1) (at + 1) refl);
    }
  where
    after-same : (g h : Signature) (kinds : Kinds) → g ≡ h
        → g.leaves ++ drop (length g.needs) kinds ≡ h.leaves ++ drop (length h.needs) kinds
    after-same g h kinds e = ap (λ (x : Signature). x.leaves ++ drop (length x.needs) kinds) e

    not-stop : (f : Flow) → f ≡ Next → f ≡ Stop → ⊥
    not-stop f a b = cc

-- code without jumps is sound
pub straight-sound : (whole : Raw) (lists : KnownKinds) (is : List Instruction) (at : ℕ) (kinds : Kinds) → HasCode whole at is
    → are_fine is kinds ≡ true → Agrees lists at (kinds_before is kinds)
    → lists (at + length is) ≡ Some (kinds_behind is kinds) → at + length is < length whole.code
    → AreSound whole lists at (length is)
straight-sound whole lists [] at kinds h fine a e within = tt
straight-sound whole lists (i ∷ is) at kinds h fine a e within =
    let p = and_parts (is_fine i kinds) (are_fine is (kinds_next i kinds)) fine in
    let z : at + suc (length is) ≡ suc at + length is = omega arith in
    let e' = subst (λ n. lists n ≡ Some (kinds_behind is (kinds_next i kinds))) z e in
    let in' = subst (λ n. n < length whole.code) z within in (
      fine-sound whole lists at i kinds h.0 p.0 a.0 (known-first lists (suc at) is (kinds_next i kinds) a.1 e') (omega (arith, within)),
      straight-sound whole lists is (suc at) (kinds_next i kinds) h.1 p.1 a.1 e' in',
    )

-- ---- parts

-- the kinds of one flag
abbrev pub one_flag : Kinds
one_flag = cell.Flag ∷ []

-- a part begins with no cells and is sound if these kinds are known in it, and one flag after it
pub record IsTyped (part : Part) (kinds : List Kinds) : Type 0 where
  pub long : (at : ℕ) → length (part.code at) ≡ part.len
  pub each : length kinds ≡ part.len
  pub starts : (lists : KnownKinds) (at : ℕ) → Agrees lists at kinds → lists at ≡ Some []
  pub sound : (whole : Raw) (lists : KnownKinds) (at : ℕ) → HasCode whole at (part.code at) → Agrees lists at kinds
      → lists (at + part.len) ≡ Some one_flag → at + part.len < length whole.code → AreSound whole lists at part.len

length-before : (is : List Instruction) (kinds : Kinds) → length (kinds_before is kinds) ≡ length is
length-before [] kinds = refl
length-before (i ∷ is) kinds = ap suc (length-before is (kinds_next i kinds))

-- a part without jumps, which has an instruction
pub straight-typed : (i : Instruction) (is : List Instruction) → are_fine (i ∷ is) [] ≡ true → kinds_behind (i ∷ is) [] ≡ one_flag
    → IsTyped (straight (i ∷ is)) (kinds_before (i ∷ is) [])
straight-typed i is fine last = record {
  long = λ at. refl;
  each = length-before (i ∷ is) [];
  starts = λ lists at a. a.0;
  sound = λ whole lists at h a e within. straight-sound whole lists (i ∷ is) at [] h fine a (e ∙ ap (λ (k : Kinds). Some k) (sym last)) within;
}

-- each part is typed
abbrev pub AllTyped : List Part → List (List Kinds) → Type 0
AllTyped [] [] = Unit {0}
AllTyped (p ∷ ps) (kinds ∷ more) = IsTyped p kinds × AllTyped ps more
AllTyped _ _ = ⊥

-- the kinds of the parts after the first, each with a jump and a `drop` before it
abbrev pub others_kinds : List (List Kinds) → List Kinds
others_kinds [] = []
others_kinds (kinds ∷ more) = one_flag ∷ one_flag ∷ kinds ++ others_kinds more

-- the kinds of several parts
abbrev pub joined_kinds : List (List Kinds) → List Kinds
joined_kinds [] = [] ∷ []
joined_kinds (kinds ∷ more) = kinds ++ others_kinds more

others-each : (ps : List Part) (all : List (List Kinds)) → AllTyped ps all → length (others_kinds all) ≡ others_len ps
others-each [] [] t = refl
others-each (p ∷ ps) (kinds ∷ more) t =
    let a = length-append kinds (others_kinds more) in
    let b = t.0.each in
    let c = others-each ps more t.1 in
    omega (arith, a, b, c)
others-each [] (kinds ∷ more) t = absurd t
others-each (p ∷ ps) [] t = absurd t

others-long : (stop : Bool) (ps : List Part) (all : List (List Kinds)) (end at : ℕ) → AllTyped ps all
    → length (others stop end ps at) ≡ others_len ps
others-long stop [] [] end at t = refl
others-long stop (p ∷ ps) (kinds ∷ more) end at t =
    let a = length-append (p.code (2 + at)) (others stop end ps (2 + at + p.len)) in
    let b = t.0.long (2 + at) in
    let c = others-long stop ps more end (2 + at + p.len) t.1 in
    omega (arith, a, b, c)
others-long stop [] (kinds ∷ more) end at t = absurd t
others-long stop (p ∷ ps) [] end at t = absurd t

-- there is one flag at the beginning of the others, and at their end
others-first : (lists : KnownKinds) (ps : List Part) (all : List (List Kinds)) (end at : ℕ) → AllTyped ps all
    → end ≡ at + others_len ps → Agrees lists at (others_kinds all) → lists end ≡ Some one_flag → lists at ≡ Some one_flag
others-first lists [] [] end at t is a e = let z : end ≡ at = omega (arith, is) in subst (λ n. lists n ≡ Some one_flag) z e
others-first lists (p ∷ ps) (kinds ∷ more) end at t is a e = a.0
others-first lists [] (kinds ∷ more) end at t is a e = absurd t
others-first lists (p ∷ ps) [] end at t is a e = absurd t

-- a jump on a flag is sound
fork-sound : (whole : Raw) (lists : KnownKinds) (stop : Bool) (end at : ℕ) → StandsAt whole at (plain (jump_if stop end))
    → at < end → end < length whole.code → suc at < length whole.code → lists at ≡ Some one_flag → lists end ≡ Some one_flag
    → lists (suc at) ≡ Some one_flag → Sound whole lists at
fork-sound whole lists stop end at s later within next-in known at-end then = jump stop s.is
  where
    to : (place : ℕ) → ((place == end) || (place == at + 1)) ≡ true → IsNext whole lists at one_flag place
    to place l = at-place (place == end) refl l
      where
        at-place : (b : Bool) → (place == end) ≡ b → (b || (place == at + 1)) ≡ true → IsNext whole lists at one_flag place
        at-place true e l =
            let z : end ≡ place = sym (eqb-true place end e) in
            record { later = subst (λ n. at < n) z later; within = subst (λ n. n < length whole.code) z within; known = subst (λ n. lists n ≡ Some one_flag) z at-end }
        at-place false e l = only-next whole lists at one_flag then next-in place l

    on : (b : Bool) → (b || (at + 1 == at + 1)) ≡ true
    on true = refl
    on false = eq-eqb (at + 1) (at + 1) refl

    jump : (b : Bool) → s.op ≡ jump_if b end → Sound whole lists at
    jump false is = record {
      op = jump_if false end;
      kinds = one_flag;
      well = record {
        there = subst (λ op. slice_get whole.code at ≡ Some op) is s.there;
        reached = known;
        operands = record { enough = omega arith; right = refl; alone = λ stops. cc };
        named = refl;
        low = omega arith;
        next = to;
      };
      on = on (at + 1 == end);
    }
    jump true is = record {
      op = jump_if true end;
      kinds = one_flag;
      well = record {
        there = subst (λ op. slice_get whole.code at ≡ Some op) is s.there;
        reached = known;
        operands = record { enough = omega arith; right = refl; alone = λ stops. cc };
        named = refl;
        low = omega arith;
        next = to;
      };
      on = on (at + 1 == end);
    }

-- a part and the code after it are sound
part-sound : (whole : Raw) (lists : KnownKinds) (at n : ℕ) (p : Part) (kinds : List Kinds) (rest : List Instruction) (more : List Kinds)
    → IsTyped p kinds → HasCode whole at (p.code at ++ rest) → Agrees lists at (kinds ++ more)
    → at + p.len < length whole.code
    → (Agrees lists (at + p.len) more → lists (at + p.len) ≡ Some one_flag)
    → (HasCode whole (at + p.len) rest → Agrees lists (at + p.len) more → AreSound whole lists (at + p.len) n)
    → AreSound whole lists at (p.len + n)
part-sound whole lists at n p kinds rest more t h a within first then =
    let h' = subst (λ k. HasCode whole (at + k) rest) (t.long at) (has-second whole at (p.code at) rest h) in
    let a' = subst (λ k. Agrees lists (at + k) more) t.each (agrees-second lists at kinds more a) in
    sound-both whole lists at p.len n
    (t.sound whole lists at (has-first whole at (p.code at) rest h) (agrees-first lists at kinds more a) (first a') within)
    (then h' a')

-- the parts after the first are sound
others-sound : (whole : Raw) (lists : KnownKinds) (stop : Bool) (ps : List Part) (all : List (List Kinds)) (end at : ℕ)
    → AllTyped ps all → end ≡ at + others_len ps → HasCode whole at (others stop end ps at)
    → Agrees lists at (others_kinds all) → lists end ≡ Some one_flag → end < length whole.code
    → AreSound whole lists at (others_len ps)
others-sound whole lists stop [] [] end at t is h a e within = tt
others-sound whole lists stop (p ∷ ps) (kinds ∷ more) end at t is h a e within =
    let two : suc (suc at) ≡ 2 + at = omega arith in
    let all : suc (suc (p.len + others_len ps)) ≡ 2 + p.len + others_len ps = omega arith in
    let jump = fork-sound whole lists stop end at h.0 (omega (arith, is)) within (omega (arith, is, within)) a.0 e a.1.0 in
    let known = t.0.starts lists (suc (suc at)) (agrees-first lists (suc (suc at)) kinds (others_kinds more) a.1.1) in
    let drop = fine-sound whole lists (suc at) (plain Drop) one_flag h.1.0 refl a.1.0 known (omega (arith, is, within)) in
    let rest = part-sound whole lists (2 + at) (others_len ps) p kinds (others stop end ps (2 + at + p.len)) (others_kinds more) t.0
    (subst (λ n. HasCode whole n (p.code (2 + at) ++ others stop end ps (2 + at + p.len))) two h.1.1)
    (subst (λ n. Agrees lists n (kinds ++ others_kinds more)) two a.1.1)
    (omega (arith, is, within))
    (λ a'. others-first lists ps more end (2 + at + p.len) t.1 (omega (arith, is)) a' e)
    (λ h' a'. others-sound whole lists stop ps more end (2 + at + p.len) t.1 (omega (arith, is)) h' a' e within) in
    subst (AreSound whole lists at) all
    (jump, (drop, subst (λ n. AreSound whole lists n (p.len + others_len ps)) (sym two) rest))
others-sound whole lists stop [] (kinds ∷ more) end at t is h a e within = absurd t
others-sound whole lists stop (p ∷ ps) [] end at t is h a e within = absurd t

-- several parts are typed together
pub joined-typed : (stop : Bool) (ps : List Part) (all : List (List Kinds)) → AllTyped ps all
    → IsTyped (record { len = joined_len ps; code = joined stop ps }) (joined_kinds all)
joined-typed stop [] [] t = record {
  long = λ at. refl;
  each = refl;
  starts = λ lists at a. a.0;
  sound = λ whole lists at h a e within. straight-sound whole lists (plain (Flag (not stop)) ∷ []) at [] h refl a e within;
}
joined-typed stop (p ∷ ps) (kinds ∷ more) t = record {
  long = λ at.
      let a = length-append (p.code at) (others stop (at + p.len + others_len ps) ps (at + p.len)) in
      let b = t.0.long at in
      let c = others-long stop ps more (at + p.len + others_len ps) (at + p.len) t.1 in
      omega (arith, a, b, c);
  each =
      let a = length-append kinds (others_kinds more) in
      let b = t.0.each in
      let c = others-each ps more t.1 in
      omega (arith, a, b, c);
  starts = λ lists at a. t.0.starts lists at (agrees-first lists at kinds (others_kinds more) a);
  sound = λ whole lists at h a e within.
      let z : at + (p.len + others_len ps) ≡ at + p.len + others_len ps = omega arith in
      let e' = subst (λ n. lists n ≡ Some one_flag) z e in
      let within' = subst (λ n. n < length whole.code) z within in
      part-sound whole lists at (others_len ps) p kinds (others stop (at + p.len + others_len ps) ps (at + p.len)) (others_kinds more) t.0 h a
      (omega (arith, within))
      (λ a'. others-first lists ps more (at + p.len + others_len ps) (at + p.len) t.1 refl a' e')
      (λ h' a'. others-sound whole lists stop ps more (at + p.len + others_len ps) (at + p.len) t.1 refl h' a' e' within');
}
joined-typed stop [] (kinds ∷ more) t = absurd t
joined-typed stop (p ∷ ps) [] t = absurd t

-- a part and `not`
pub negation-typed : (p : Part) (kinds : List Kinds) → IsTyped p kinds
    → IsTyped (record { len = p.len + 1; code = λ at. p.code at ++ plain Not ∷ [] }) (kinds ++ one_flag ∷ [])
negation-typed p kinds t = record {
  long = λ at. length-append (p.code at) (plain Not ∷ []) ∙ ap (λ n. n + 1) (t.long at);
  each = length-append kinds (one_flag ∷ []) ∙ ap (λ n. n + 1) t.each;
  starts = λ lists at a. t.starts lists at (agrees-first lists at kinds (one_flag ∷ []) a);
  sound = λ whole lists at h a e within.
      let z : at + (p.len + 1) ≡ at + p.len + 1 = omega arith in
      part-sound whole lists at 1 p kinds (plain Not ∷ []) (one_flag ∷ []) t h a (omega (arith, within)) (λ a'. a'.0)
      (λ h' a'. straight-sound whole lists (plain Not ∷ []) (at + p.len) one_flag h' refl a' (subst (λ n. lists n ≡ Some one_flag) z e)
      (subst (λ n. n < length whole.code) z within));
}
