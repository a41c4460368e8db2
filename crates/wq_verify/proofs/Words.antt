-- An instruction is known by its word, and a program by its tables.
use Rattle.std.proofs.Common.{◌≡◌, ℕ, true, false, cond, eqb, refl, sym, ap, ◌∙◌}
use Rattle.wq_base.specs.declared.compare.Case.{Case}
use Rattle.wq_base.specs.declared.compare.Case.TheVariants.{Exact, Folded}
use Rattle.wq_base.specs.declared.compare.Relation.{Relation}
use Rattle.wq_base.specs.declared.compare.Relation.TheVariants.{Eq, Ne, Lt, Le, Gt, Ge}
use Rattle.wq_code.specs.declared.word.Word.{Word}
use Rattle.wq_code.specs.declared.operation.Op.{Op}
use Rattle.wq_code.specs.declared.operation.Op.TheVariants.{Flag, Number, Text, WholeName, BaseName, Suffix, Size, Mtime, Oclock, Cclock, Osec, Csec, Kind, Exists, Compare, Equal, Depth, OneOf, Match, AnyMatch, Not, And, Or, Drop, Jump, JumpIfNot, JumpIf, Return}
use Rattle.wq_code.specs.declared.raw.Raw.{Raw}
use Rattle.wq_code.specs.Word.{word_of}

-- the letter case of an operand
case-back : ℕ → Case
case-back a = cond (eqb a 0) Exact Folded

-- the relation of an operand
relation-back : ℕ → Relation
relation-back a =
    cond (eqb a 0) Eq (cond (eqb a 1) Ne (cond (eqb a 2) Lt (cond (eqb a 3) Le (cond (eqb a 4) Gt Ge))))

-- the instruction of a word
back : Word → Op
back w =
    let or : ℕ → Op → Op → Op = λ code op other. cond (eqb w.op code) op other in
    or 0x01 (Flag (eqb w.a 1)) (or 0x02 (Number w.b) (or 0x03 (Text w.b) (or 0x04 WholeName (or 0x05 BaseName
    (or 0x06 Suffix (or 0x07 Size (or 0x08 Mtime (or 0x09 Oclock (or 0x0a Cclock (or 0x0b Osec (or 0x0c Csec
    (or 0x0d Kind (or 0x0e Exists (or 0x10 (Compare (relation-back w.a)) (or 0x11 (Equal (case-back w.a))
    (or 0x12 (Depth (case-back w.a)) (or 0x13 (OneOf (case-back w.a) w.b) (or 0x14 (Match w.b)
    (or 0x19 (AnyMatch w.b) (or 0x15 Not (or 0x16 And (or 0x17 Or (or 0x18 Drop (or 0x20 (Jump w.b)
    (or 0x21 (JumpIfNot w.b) (or 0x22 (JumpIf w.b) Return))))))))))))))))))))))))))

-- a word gives its instruction back
word-back : (op : Op) → back (word_of op) ≡ op
unfolding back relation-back case-back
word-back (Flag true) = refl
word-back (Flag false) = refl
word-back (Number place) = refl
word-back (Text place) = refl
word-back WholeName = refl
word-back BaseName = refl
word-back Suffix = refl
word-back Size = refl
word-back Mtime = refl
word-back Oclock = refl
word-back Cclock = refl
word-back Osec = refl
word-back Csec = refl
word-back Kind = refl
word-back Exists = refl
word-back (Compare Eq) = refl
word-back (Compare Ne) = refl
word-back (Compare Lt) = refl
word-back (Compare Le) = refl
word-back (Compare Gt) = refl
word-back (Compare Ge) = refl
word-back (Equal Exact) = refl
word-back (Equal Folded) = refl
word-back (Depth Exact) = refl
word-back (Depth Folded) = refl
word-back (OneOf Exact place) = refl
word-back (OneOf Folded place) = refl
word-back (Match place) = refl
word-back (AnyMatch place) = refl
word-back Not = refl
word-back And = refl
word-back Or = refl
word-back Drop = refl
word-back (Jump place) = refl
word-back (JumpIfNot place) = refl
word-back (JumpIf place) = refl
word-back Return = refl

-- instructions with one word are one
pub one_word : (op other : Op) → word_of op ≡ word_of other → op ≡ other
one_word op other is = sym (word-back op) ∙ ap back is ∙ word-back other

-- programs whose tables are equal are one
pub one_raw : (raw other : Raw) → raw.nums ≡ other.nums → raw.texts ≡ other.texts → raw.lists ≡ other.lists
    → raw.patterns ≡ other.patterns → raw.sets ≡ other.sets → raw.code ≡ other.code → raw ≡ other
one_raw raw other nums texts lists patterns sets code =
    ap (λ x. record { nums = x; texts = raw.texts; lists = raw.lists; patterns = raw.patterns; sets = raw.sets; code = raw.code }) nums
    ∙ ap (λ x. record { nums = other.nums; texts = x; lists = raw.lists; patterns = raw.patterns; sets = raw.sets; code = raw.code }) texts
    ∙ ap (λ x. record { nums = other.nums; texts = other.texts; lists = x; patterns = raw.patterns; sets = raw.sets; code = raw.code }) lists
    ∙ ap (λ x. record { nums = other.nums; texts = other.texts; lists = other.lists; patterns = x; sets = raw.sets; code = raw.code }) patterns
    ∙ ap (λ x. record { nums = other.nums; texts = other.texts; lists = other.lists; patterns = other.patterns; sets = x; code = raw.code }) sets
    ∙ ap (λ x. record { nums = other.nums; texts = other.texts; lists = other.lists; patterns = other.patterns; sets = other.sets; code = x }) code
