-- The program of an expression that fits and is not too large may run, and answers its meaning.
use Rattle.std.proofs.Common.{◌≡◌, ◌⊎◌, ℕ, zero, suc, ◌+◌, ◌<◌, Bool, true, List, [], ◌∷◌, ◌++◌, length, Some, refl, ap, subst, ◌∙◌, inl, inr, arith, length-append}
use Rattle.std.specs.Prelude.{slice_get}
use Rattle.std.proofs.lemmas.Bool.{cases_lt}
use Rattle.std.proofs.lemmas.Option.{slice_get_within}
use Rattle.wq_code.specs.Flow.{flow}
use Rattle.wq_code.specs.Item.{Item}
use Rattle.wq_code.specs.Machine.{flag, Answered, cells_after, charge, step, advance, after, Answers}
use Rattle.wq_code.specs.declared.operation.Op.TheVariants.{Return}
use Rattle.wq_code.specs.declared.raw.Raw.{Raw}
use Rattle.wq_verify.specs.Kinds.{Kinds, KnownKinds, leads}
use Rattle.wq_verify.specs.Typing.{KeepsRules, LeadsTo, IsTyping}
use Rattle.wq_machine.specs.Item.{item_of}
use Rattle.wq_term.specs.CodeLength.{code_len}
use Rattle.wq_term.specs.Expr.{ExprData, means}
use Rattle.wq_compile.specs.Instruction.{plain, blank}
use Rattle.wq_compile.specs.Code.{code_of, program_of}
use Rattle.wq_compile.specs.Meaning.{AnswersMeaning}
use Rattle.wq_compile.proofs.Puts.{StandsAt, HasCode, has-first, has-second, put_all-has, length-put_all}
use Rattle.wq_compile.proofs.Runs.{Gets, begins}
use Rattle.wq_compile.proofs.Meanings.{term-works}
use Rattle.wq_compile.proofs.Typings.{Agrees, agrees-first, agrees-second, Sound, AreSound, sound-at, one_flag}
use Rattle.wq_compile.proofs.TermTypings.{term_kinds, term-typed}

-- the program has the code of the expression, and then the end
pub program-has : (t : ExprData) → HasCode (program_of t) 0 (code_of t 0 ++ plain Return ∷ [])
unfolding program_of
program-has t = put_all-has (code_of t 0 ++ plain Return ∷ []) blank

-- it is as long as the code and the end
pub program_long : (t : ExprData) → length (program_of t).code ≡ code_len t + 1
unfolding program_of
program_long t =
    let a = length-put_all (code_of t 0 ++ plain Return ∷ []) blank in
    let b = length-append (code_of t 0) (plain Return ∷ []) in
    let c = (term-works t).long 0 in
    omega (arith, a, b, c)

-- the end is after the code
end-stands : (t : ExprData) → StandsAt (program_of t) (code_len t) (plain Return)
end-stands t =
    let s = has-second (program_of t) 0 (code_of t 0) (plain Return ∷ []) (program-has t) in
    let c = (term-works t).long 0 in
    let z : 0 + length (code_of t 0) ≡ code_len t = omega (arith, c) in
    (subst (λ n. HasCode (program_of t) n (plain Return ∷ [])) z s).0

-- ---- its answer

-- the end answers the flag that is alone
answered : (whole : Raw) (item : Item) (at : ℕ) (x : Bool) → Gets whole item at (flag x ∷ []) → slice_get whole.code at ≡ Some Return
    → (steps : ℕ) × Answers whole item x steps
unfolding after step cells_after
answered whole item at x g got =
    (g.steps + charge whole Return (flag x ∷ []), (suc g.k, ap (advance whole item) g.reached ∙ last))
  where
    last : step whole item at (flag x ∷ []) g.steps ≡ Answered x (g.steps + charge whole Return (flag x ∷ []))
    last = rw got refl

-- on each record the program answers the meaning of the expression
pub program_answers : (t : ExprData) → AnswersMeaning (program_of t) t
program_answers t r =
    let s = end-stands t in
    let z : 0 + code_len t ≡ code_len t = omega arith in
    let g = (term-works t).runs (program_of t) r 0 (has-first (program_of t) 0 (code_of t 0) (plain Return ∷ []) (program-has t)) (begins (program_of t) (item_of r)) in
    answered (program_of t) (item_of r) (code_len t) (means t r)
    (subst (λ n. Gets (program_of t) (item_of r) n (flag (means t r) ∷ [])) z g)
    (subst (λ op. slice_get (program_of t).code (code_len t) ≡ Some op) s.is s.there)

-- ---- its typing

-- the kinds at the places of the program
abbrev pub program_kinds : ExprData → List Kinds
program_kinds t = term_kinds t ++ one_flag ∷ []

-- a list agrees with itself
agrees-behind : (k : Kinds) (known : List Kinds) (at : ℕ) (more : List Kinds) → Agrees (slice_get known) at more
    → Agrees (slice_get (k ∷ known)) (suc at) more
agrees-behind k known at [] a = tt
agrees-behind k known at (x ∷ more) a = (a.0, agrees-behind k known (suc at) more a.1)

agrees-self : (known : List Kinds) → Agrees (slice_get known) 0 known
agrees-self [] = tt
agrees-self (k ∷ known) = (refl, agrees-behind k known 0 known (agrees-self known))

-- the kinds that are known of a program
abbrev pub program_lists : ExprData → KnownKinds
program_lists t = slice_get (program_kinds t)

known-in : (t : ExprData) → Agrees (program_lists t) 0 (term_kinds t)
known-in t = agrees-first (program_lists t) 0 (term_kinds t) (one_flag ∷ []) (agrees-self (program_kinds t))

known-end : (t : ExprData) → program_lists t (code_len t) ≡ Some one_flag
known-end t =
    let each = (term-typed t).each in
    let z : 0 + length (term_kinds t) ≡ code_len t = omega (arith, each) in
    (subst (λ n. Agrees (program_lists t) n (one_flag ∷ [])) z
    (agrees-second (program_lists t) 0 (term_kinds t) (one_flag ∷ []) (agrees-self (program_kinds t)))).0

-- the places before the end are sound
all-sound : (t : ExprData) → AreSound (program_of t) (program_lists t) 0 (code_len t)
all-sound t =
    let long = program_long t in
    let z : code_len t ≡ 0 + code_len t = omega arith in
    (term-typed t).sound (program_of t) (program_lists t) 0
    (has-first (program_of t) 0 (code_of t 0) (plain Return ∷ []) (program-has t)) (known-in t)
    (subst (λ n. program_lists t n ≡ Some one_flag) z (known-end t)) (omega (arith, long))

sound-place : (t : ExprData) (at : ℕ) → at < code_len t → Sound (program_of t) (program_lists t) at
sound-place t at lt =
    let z : 0 + at ≡ at = omega arith in
    subst (Sound (program_of t) (program_lists t)) z (sound-at (program_of t) (program_lists t) 0 (code_len t) at (all-sound t) lt)

-- the end keeps the rules
end-keeps : (t : ExprData) → KeepsRules (program_of t) (program_lists t) (code_len t)
end-keeps t =
    let s = end-stands t in (
      Return,
      one_flag,
      record {
        there = subst (λ op. slice_get (program_of t).code (code_len t) ≡ Some op) s.is s.there;
        reached = known-end t;
        operands = record { enough = omega arith; right = refl; alone = λ stops. refl };
        named = refl;
        low = omega arith;
        next = λ place l. absurd cc;
      },
    )

place-keeps : (t : ExprData) (at : ℕ) → at < length (program_of t).code → KeepsRules (program_of t) (program_lists t) at
place-keeps t at lt = elim (cases_lt at (code_len t)) [
  | inl less ↦ let s = sound-place t at less in (s.op, s.kinds, s.well)
  | inr le ↦
      let long = program_long t in
      let z : code_len t ≡ at = omega (arith, le, lt, long) in
      subst (KeepsRules (program_of t) (program_lists t)) z (end-keeps t)
]

-- a place that is known is the first, or follows one that leads to it
only-led : (t : ExprData) (place : ℕ) (kinds : Kinds) → program_lists t place ≡ Some kinds
    → (place ≡ 0) ⊎ ((at : ℕ) × (at < length (program_of t).code) × LeadsTo (program_of t) at place)
only-led t zero kinds e = inl refl
only-led t (suc m) kinds e =
    let lt = slice_get_within (program_kinds t) (suc m) kinds e in
    let all = length-append (term_kinds t) (one_flag ∷ []) in
    let each = (term-typed t).each in
    let long = program_long t in
    let s = sound-place t m (omega (arith, lt, all, each)) in
    let z : m + 1 ≡ suc m = omega arith in
    inr (m, omega (arith, lt, all, each, long), (s.op, s.well.there, subst (λ n. leads (flow s.op) m n ≡ true) z s.on))

-- the program has a typing
pub program-typed : (t : ExprData) → IsTyping (program_of t) (program_lists t)
program-typed t = record {
  start = (term-typed t).starts (program_lists t) 0 (known-in t);
  each = place-keeps t;
  only = only-led t;
}
