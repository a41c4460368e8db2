-- A program into which instructions were put has them, with their constants, and keeps its old ones.
use Rattle.std.proofs.Common.{◌≡◌, ℕ, zero, suc, ◌+◌, List, [], ◌∷◌, ◌++◌, length, Some, refl, sym, subst, ◌∙◌, arith, add-one, length-append}
use Rattle.std.specs.Prelude.{slice_get}
use Rattle.wq_code.specs.declared.operation.Op.{Op}
use Rattle.wq_code.specs.declared.operation.Op.TheVariants.{Number, Text, OneOf, Match}
use Rattle.wq_code.specs.declared.raw.Raw.{Raw}
use Rattle.wq_compile.specs.Instruction.{Instruction, plain, number, text, one_of, fitting, put, put_all}

-- each element of a list is at the same place in another
abbrev pub IsFrontOf : {A : Type 0} → List A → List A → Type 0
IsFrontOf {A} xs ys = (i : ℕ) (x : A) → slice_get xs i ≡ Some x → slice_get ys i ≡ Some x

-- a list with more after it
front-append : {A : Type 0} (xs ys : List A) → IsFrontOf xs (xs ++ ys)
front-append [] ys i x e = cc
front-append (z ∷ xs) ys zero x e = e
front-append (z ∷ xs) ys (suc i) x e = front-append xs ys i x e

-- the element after a list
behind : {A : Type 0} (xs : List A) (x : A) → slice_get (xs ++ x ∷ []) (length xs) ≡ Some x
behind [] x = refl
behind (z ∷ xs) x = behind xs x

-- a program with more after each of its tables
pub record Extends (raw whole : Raw) : Type 0 where
  pub nums : IsFrontOf raw.nums whole.nums
  pub texts : IsFrontOf raw.texts whole.texts
  pub lists : IsFrontOf raw.lists whole.lists
  pub patterns : IsFrontOf raw.patterns whole.patterns
  pub sets : IsFrontOf raw.sets whole.sets
  pub code : IsFrontOf raw.code whole.code

pub extends-self : (raw : Raw) → Extends raw raw
extends-self raw = record {
  nums = λ i x e. e;
  texts = λ i x e. e;
  lists = λ i x e. e;
  patterns = λ i x e. e;
  sets = λ i x e. e;
  code = λ i x e. e;
}

pub extends-on : (raw mid whole : Raw) → Extends raw mid → Extends mid whole → Extends raw whole
extends-on raw mid whole a b = record {
  nums = λ i x e. b.nums i x (a.nums i x e);
  texts = λ i x e. b.texts i x (a.texts i x e);
  lists = λ i x e. b.lists i x (a.lists i x e);
  patterns = λ i x e. b.patterns i x (a.patterns i x e);
  sets = λ i x e. b.sets i x (a.sets i x e);
  code = λ i x e. b.code i x (a.code i x e);
}

-- a program into which an instruction is put keeps its old ones
pub put-extends : (i : Instruction) (raw : Raw) → Extends raw (put i raw)
put-extends (plain op) raw =
    record { nums = λ i x e. e; texts = λ i x e. e; lists = λ i x e. e; patterns = λ i x e. e; sets = λ i x e. e; code = front-append raw.code _ }
put-extends (number n) raw =
    record { nums = front-append raw.nums _; texts = λ i x e. e; lists = λ i x e. e; patterns = λ i x e. e; sets = λ i x e. e; code = front-append raw.code _ }
put-extends (text bytes) raw =
    record { nums = λ i x e. e; texts = front-append raw.texts _; lists = λ i x e. e; patterns = λ i x e. e; sets = λ i x e. e; code = front-append raw.code _ }
put-extends (one_of case entries) raw =
    record { nums = λ i x e. e; texts = λ i x e. e; lists = front-append raw.lists _; patterns = λ i x e. e; sets = λ i x e. e; code = front-append raw.code _ }
put-extends (fitting pattern) raw =
    record { nums = λ i x e. e; texts = λ i x e. e; lists = λ i x e. e; patterns = front-append raw.patterns _; sets = λ i x e. e; code = front-append raw.code _ }

pub put_all-extends : (is : List Instruction) (raw : Raw) → Extends raw (put_all is raw)
put_all-extends [] raw = extends-self raw
put_all-extends (i ∷ is) raw =
    extends-on raw (put i raw) (put_all is (put i raw)) (put-extends i raw) (put_all-extends is (put i raw))

-- an instruction of the code is this one, and its constant is in its table
abbrev pub IsOp : Raw → Op → Instruction → Type 0
IsOp raw op (plain o) = op ≡ o
IsOp raw op (number n) =
    (place : ℕ) × (op ≡ Number place) × (slice_get raw.nums place ≡ Some n)
IsOp raw op (text bytes) =
    (place : ℕ) × (op ≡ Text place) × (slice_get raw.texts place ≡ Some bytes)
IsOp raw op (one_of case entries) =
    (place : ℕ) × (op ≡ OneOf case place) × (slice_get raw.lists place ≡ Some entries)
IsOp raw op (fitting pattern) =
    (place : ℕ) × (op ≡ Match place) × (slice_get raw.patterns place ≡ Some pattern)

-- this instruction is at a place of the code
pub record StandsAt (raw : Raw) (at : ℕ) (i : Instruction) : Type 0 where
  pub op : Op
  pub there : slice_get raw.code at ≡ Some op
  pub is : IsOp raw op i

-- these instructions are in the code from a place on
abbrev pub HasCode : Raw → ℕ → List Instruction → Type 0
HasCode raw at [] = Unit {0}
HasCode raw at (i ∷ is) = StandsAt raw at i × HasCode raw (suc at) is

op-stays : (raw whole : Raw) (op : Op) (i : Instruction) → Extends raw whole → IsOp raw op i → IsOp whole op i
op-stays raw whole op (plain o) more is = is
op-stays raw whole op (number n) more is = (is.0, is.1, more.nums is.0 n is.2)
op-stays raw whole op (text bytes) more is = (is.0, is.1, more.texts is.0 bytes is.2)
op-stays raw whole op (one_of case entries) more is = (is.0, is.1, more.lists is.0 entries is.2)
op-stays raw whole op (fitting pattern) more is = (is.0, is.1, more.patterns is.0 pattern is.2)

stands-stays : (raw whole : Raw) (at : ℕ) (i : Instruction) → Extends raw whole → StandsAt raw at i → StandsAt whole at i
stands-stays raw whole at i more s =
    record { op = s.op; there = more.code at s.op s.there; is = op-stays raw whole s.op i more s.is }

-- an instruction is at the place where it was put
put-stands : (i : Instruction) (raw : Raw) → StandsAt (put i raw) (length raw.code) i
put-stands (plain op) raw = record { op = op; there = behind raw.code op; is = refl }
put-stands (number n) raw =
    record { op = Number (length raw.nums); there = behind raw.code _; is = (length raw.nums, refl, behind raw.nums n) }
put-stands (text bytes) raw =
    record { op = Text (length raw.texts); there = behind raw.code _; is = (length raw.texts, refl, behind raw.texts bytes) }
put-stands (one_of case entries) raw =
    record { op = OneOf case (length raw.lists); there = behind raw.code _; is = (length raw.lists, refl, behind raw.lists entries) }
put-stands (fitting pattern) raw =
    record { op = Match (length raw.patterns); there = behind raw.code _; is = (length raw.patterns, refl, behind raw.patterns pattern) }

length-behind : {A : Type 0} (xs : List A) (x : A) → length (xs ++ x ∷ []) ≡ suc (length xs)
length-behind xs x = length-append xs (x ∷ []) ∙ add-one (length xs)

-- the code is longer by one
pub length-put : (i : Instruction) (raw : Raw) → length (put i raw).code ≡ suc (length raw.code)
length-put (plain op) raw = length-behind raw.code _
length-put (number n) raw = length-behind raw.code _
length-put (text bytes) raw = length-behind raw.code _
length-put (one_of case entries) raw = length-behind raw.code _
length-put (fitting pattern) raw = length-behind raw.code _

-- and by as many as are put
pub length-put_all : (is : List Instruction) (raw : Raw) → length (put_all is raw).code ≡ length raw.code + length is
length-put_all [] raw = omega arith
length-put_all (i ∷ is) raw =
    let rest = length-put_all is (put i raw) in
    let one = length-put i raw in
    omega (arith, rest, one)

-- instructions are at the places where they were put
pub put_all-has : (is : List Instruction) (raw : Raw) → HasCode (put_all is raw) (length raw.code) is
put_all-has [] raw = tt
put_all-has (i ∷ is) raw = (
  stands-stays (put i raw) (put_all is (put i raw)) (length raw.code) i (put_all-extends is (put i raw)) (put-stands i raw),
  subst (λ n. HasCode (put_all is (put i raw)) n is) (length-put i raw) (put_all-has is (put i raw)),
)

-- code that is at some place, cut in two
pub has-first : (raw : Raw) (at : ℕ) (is js : List Instruction) → HasCode raw at (is ++ js) → HasCode raw at is
has-first raw at [] js h = tt
has-first raw at (i ∷ is) js h = (h.0, has-first raw (suc at) is js h.1)

pub has-second : (raw : Raw) (at : ℕ) (is js : List Instruction) → HasCode raw at (is ++ js) → HasCode raw (at + length is) js
has-second raw at [] js h = let z : at + 0 ≡ at = omega arith in subst (λ n. HasCode raw n js) (sym z) h
has-second raw at (i ∷ is) js h =
    let z : suc at + length is ≡ at + suc (length is) = omega arith in
    subst (λ n. HasCode raw n js) z (has-second raw (suc at) is js h.1)

-- the program after two pieces of code
pub put_all-append : (is js : List Instruction) (raw : Raw) → put_all (is ++ js) raw ≡ put_all js (put_all is raw)
put_all-append [] js raw = refl
put_all-append (i ∷ is) js raw = put_all-append is js (put i raw)
