-- Patterns and instructions that end too early: some bytes after them complete each, unless the operand of an
-- instruction has to be 0.
use Rattle.std.proofs.Common.{◌≡◌, ℕ, ◌<◌, ◌≤◌, Bool, true, false, cond, ltb, eqb, List, [], ◌∷◌, ◌++◌, Option, Some, None, Ok, Err, refl, sym, subst, ◌∙◌, arith, lit<, inl, inr}
use Rattle.std.proofs.lemmas.Bool.{eqb-true}
use Rattle.std.proofs.lemmas.List.Elements.{All-cons, All-tail}
use Rattle.wq_code.specs.Word.{op_of_code, with_a, with_b}
use Rattle.wq_code.specs.Reading.{◌>>=◌, Reader, or_file_fault, bytes_at, byte_at, wide_at, flags_in, pattern_at, set_at, op_at}
use Rattle.wq_code.specs.Spelling.{AreBytes}
use Rattle.wq_code.specs.declared.fault.FileFault.TheVariants.{CutShort, UnknownOperation, BadOperand}
use Rattle.wq_code.specs.declared.version.Version.{Version}
use Rattle.wq_code.specs.declared.version.Version.TheVariants.{First, Second}
use Rattle.wq_code.specs.declared.operation.Op.{Op}
use Rattle.wq_code.specs.declared.operation.Op.TheVariants.{Flag, Number, Text, WholeName, Compare, Equal, Depth, OneOf, Match, AnyMatch, Jump, JumpIfNot, JumpIf}
use Rattle.wq_base.specs.declared.compare.Case.TheVariants.{Exact}
use Rattle.wq_base.specs.declared.compare.Relation.TheVariants.{Eq}
use Rattle.wq_glob.specs.Pattern.{PatternData}
use Rattle.wq_code.proofs.Forms.{bytes_at-again}
use Rattle.wq_code.proofs.Steady.{bytes_steady}
use Rattle.wq_code.proofs.Ends.{Filled, Judged, Ends, IsTest, passed_on, both, then_ends, value_ends, zeros, zeros_are_bytes, bytes_end, tested, tested_ends, wide_is, width_in, value_in, set_ends}

-- ---- patterns

abbrev pattern_rest : ℕ → ℕ → Reader PatternData
pattern_rest bits n = both (bytes_at n) (λ text bytes. Ok (record { text = text; flags = flags_in bits }, bytes))

pattern_rest_ends : (bits n : ℕ) → Ends (pattern_rest bits n)
pattern_rest_ends bits n =
    then_ends (bytes_at n) (λ text bytes. Ok (record { text = text; flags = flags_in bits }, bytes)) (bytes_steady n) (bytes_end n)
    (λ text. value_ends _)

pattern_read : (bits n : ℕ) (bytes : List ℕ) → ltb bits 16 ≡ true → pattern_at (bits ∷ n ∷ bytes) ≡ pattern_rest bits n bytes
unfolding pattern_at
pattern_read bits n bytes is = rw is refl

pattern_bad : (bits : ℕ) (bytes : List ℕ) → ltb bits 16 ≡ false → pattern_at (bits ∷ bytes) ≡ Err BadOperand
unfolding pattern_at
pattern_bad bits bytes is = rw is refl

pattern_filled : (bits : ℕ) → ltb bits 16 ≡ true → Filled pattern_at (bits ∷ [])
pattern_filled bits is =
    (zeros 1, zeros_are_bytes 1, record { text = []; flags = flags_in bits }, pattern_read bits 0 [] is ∙ rw (bytes_at-again 0 [] [] refl) refl)

pattern_cut : (bits : ℕ) → ltb bits 16 ≡ true → pattern_at (bits ∷ []) ≡ Err CutShort
unfolding pattern_at
pattern_cut bits is = rw is refl

pattern_half : (bits : ℕ) (few : Bool) → ltb bits 16 ≡ few → Judged pattern_at (bits ∷ []) (pattern_at (bits ∷ []))
pattern_half bits true is = subst (Judged pattern_at (bits ∷ [])) (sym (pattern_cut bits is)) (inl (pattern_filled bits is))
pattern_half bits false is = subst (Judged pattern_at (bits ∷ [])) (sym (pattern_bad bits [] is)) tt

pattern_most : (bits n : ℕ) (bytes : List ℕ) → AreBytes bytes → (few : Bool) → ltb bits 16 ≡ few
    → Judged pattern_at (bits ∷ n ∷ bytes) (pattern_at (bits ∷ n ∷ bytes))
pattern_most bits n bytes fits true is =
    subst (Judged pattern_at (bits ∷ n ∷ bytes)) (sym (pattern_read bits n bytes is))
    (passed_on pattern_at (pattern_rest bits n) (bits ∷ n ∷ bytes) bytes (λ more. pattern_read bits n (bytes ++ more) is)
    (pattern_rest bits n bytes) ((pattern_rest_ends bits n).judged bytes fits))
pattern_most bits n bytes fits false is = subst (Judged pattern_at (bits ∷ n ∷ bytes)) (sym (pattern_bad bits (n ∷ bytes) is)) tt

pattern_none : pattern_at [] ≡ Err CutShort
unfolding pattern_at
pattern_none = refl

pattern_fills : Filled pattern_at []
pattern_fills =
    (zeros 2, zeros_are_bytes 2, record { text = []; flags = flags_in 0 }, pattern_read 0 0 [] refl ∙ rw (bytes_at-again 0 [] [] refl) refl)

pattern_judged : (bytes : List ℕ) → AreBytes bytes → Judged pattern_at bytes (pattern_at bytes)
pattern_judged [] fits = subst (Judged pattern_at []) (sym pattern_none) (inl pattern_fills)
pattern_judged (bits ∷ []) fits = pattern_half bits (ltb bits 16) refl
pattern_judged (bits ∷ n ∷ bytes) fits =
    pattern_most bits n bytes (All-tail (λ b. b < 256) n bytes (All-tail (λ b. b < 256) bits (n ∷ bytes) fits)) (ltb bits 16) refl

pub pattern_ends : Ends pattern_at
pattern_ends = record { fills = pattern_fills; judged = pattern_judged }

pub sets_end : Ends set_at
sets_end = set_ends pattern_ends

-- ---- instructions

zero_a : (op : Op) → (other : Op) × (with_a op 0 ≡ Some other)
unfolding with_a
zero_a (Flag old) = (Flag false, refl)
zero_a (Compare old) = (Compare Eq, refl)
zero_a (Equal old) = (Equal Exact, refl)
zero_a (Depth old) = (Depth Exact, refl)
zero_a (OneOf old place) = (OneOf Exact place, refl)
zero_a op = (op, refl)

zero_b : (op : Op) → (other : Op) × (with_b op 0 ≡ Some other)
unfolding with_b
zero_b (Number old) = (Number 0, refl)
zero_b (Text old) = (Text 0, refl)
zero_b (OneOf case old) = (OneOf case 0, refl)
zero_b (Match old) = (Match 0, refl)
zero_b (AnyMatch old) = (AnyMatch 0, refl)
zero_b (Jump old) = (Jump 0, refl)
zero_b (JumpIfNot old) = (JumpIfNot 0, refl)
zero_b (JumpIf old) = (JumpIf 0, refl)
zero_b op = (op, refl)

-- an operand that is too great stays so with another byte after it
none_over : (op : Op) (n m : ℕ) → n ≤ m → (zero : Bool) → eqb m 0 ≡ zero → cond (eqb n 0) (Some op) None ≡ None
    → cond zero (Some op) None ≡ None
none_over op n m le true is e =
    let none : n ≡ 0 = omega (arith, le, eqb-true m 0 is) in
    subst (λ (k : ℕ). cond (eqb k 0) (Some op) None ≡ None) none e
none_over op n m le false is e = refl

none_b : (op : Op) (n m : ℕ) → n ≤ m → with_b op n ≡ None → with_b op m ≡ None
unfolding with_b
none_b (Number old) n m le e = absurd cc
none_b (Text old) n m le e = absurd cc
none_b (OneOf case old) n m le e = absurd cc
none_b (Match old) n m le e = absurd cc
none_b (AnyMatch old) n m le e = absurd cc
none_b (Jump old) n m le e = absurd cc
none_b (JumpIfNot old) n m le e = absurd cc
none_b (JumpIf old) n m le e = absurd cc
none_b op n m le e = none_over op n m le (eqb m 0) refl e

-- the operand `b` of an instruction
abbrev b_at : Version → Op → Reader Op
b_at version op = tested (wide_at version) (with_b op) BadOperand

b_test : (op : Op) → IsTest (with_b op)
b_test op = record { first = zero_b op; over = λ n m le e. none_b op n m le e }

b_ends : (version : Version) (op : Op) → Ends (b_at version op)
b_ends version op =
    tested_ends (wide_at version) (width_in version) (value_in version) (with_b op) BadOperand (wide_is version) (b_test op) (inr refl)

-- both operands of an instruction
operands_at : Version → Op → Reader Op
operands_at version op bytes = byte_at bytes >>= λ a. or_file_fault (with_a op a.0) BadOperand >>= λ op. b_at version op a.1

operands_read : (version : Version) (op other : Op) (a : ℕ) (bytes : List ℕ) → with_a op a ≡ Some other
    → operands_at version op (a ∷ bytes) ≡ b_at version other bytes
unfolding operands_at
operands_read version op other a bytes is = rw is refl

operands_filled : (version : Version) (op : Op) → Filled (operands_at version op) []
operands_filled version op =
    let z = zero_a op in
    let f = (b_ends version z.0).fills in
    (0 ∷ f.0, All-cons (λ b. b < 256) 0 f.0 (lit< tt) f.1, f.2, operands_read version op z.0 0 f.0 z.1 ∙ f.3)

operands_told : (version : Version) (op : Op) (a : ℕ) (bytes : List ℕ) → AreBytes bytes → (found : Option Op) → with_a op a ≡ found
    → Judged (operands_at version op) (a ∷ bytes) (or_file_fault found BadOperand >>= λ op. b_at version op bytes)
operands_told version op a bytes fits (Some other) is =
    passed_on (operands_at version op) (b_at version other) (a ∷ bytes) bytes (λ more. operands_read version op other a (bytes ++ more) is)
    (b_at version other bytes) ((b_ends version other).judged bytes fits)
operands_told version op a bytes fits None is = tt

operands_judged : (version : Version) (op : Op) (bytes : List ℕ) → AreBytes bytes → Judged (operands_at version op) bytes (operands_at version op bytes)
unfolding operands_at
operands_judged version op [] fits = inl (operands_filled version op)
operands_judged version op (a ∷ bytes) fits = operands_told version op a bytes (All-tail (λ b. b < 256) a bytes fits) (with_a op a) refl

op_read : (version : Version) (code : ℕ) (op : Op) (bytes : List ℕ) → op_of_code version code ≡ Some op → op_at version (code ∷ bytes) ≡ operands_at version op bytes
unfolding op_at operands_at
op_read version code op bytes is = rw is refl

op_bad : (version : Version) (code : ℕ) (bytes : List ℕ) → op_of_code version code ≡ None → op_at version (code ∷ bytes) ≡ Err UnknownOperation
unfolding op_at
op_bad version code bytes is = rw is refl

coded_4 : (version : Version) → op_of_code version 4 ≡ Some WholeName
unfolding op_of_code
coded_4 First = refl
coded_4 Second = refl

op_filled : (version : Version) → Filled (op_at version) []
op_filled version =
    let f = operands_filled version WholeName in
    (4 ∷ f.0, All-cons (λ b. b < 256) 4 f.0 (lit< tt) f.1, f.2, op_read version 4 WholeName f.0 (coded_4 version) ∙ f.3)

op_told : (version : Version) (code : ℕ) (bytes : List ℕ) → AreBytes bytes → (found : Option Op) → op_of_code version code ≡ found
    → Judged (op_at version) (code ∷ bytes) (op_at version (code ∷ bytes))
op_told version code bytes fits (Some op) is =
    subst (Judged (op_at version) (code ∷ bytes)) (sym (op_read version code op bytes is))
    (passed_on (op_at version) (operands_at version op) (code ∷ bytes) bytes (λ more. op_read version code op (bytes ++ more) is) (operands_at version op bytes)
    (operands_judged version op bytes fits))
op_told version code bytes fits None is = subst (Judged (op_at version) (code ∷ bytes)) (sym (op_bad version code bytes is)) tt

op_none : (version : Version) → op_at version [] ≡ Err CutShort
unfolding op_at
op_none version = refl

op_judged : (version : Version) (bytes : List ℕ) → AreBytes bytes → Judged (op_at version) bytes (op_at version bytes)
op_judged version [] fits = subst (Judged (op_at version) []) (sym (op_none version)) (inl (op_filled version))
op_judged version (code ∷ bytes) fits = op_told version code bytes (All-tail (λ b. b < 256) code bytes fits) (op_of_code version code) refl

pub op_ends : (version : Version) → Ends (op_at version)
op_ends version = record { fills = op_filled version; judged = op_judged version }
