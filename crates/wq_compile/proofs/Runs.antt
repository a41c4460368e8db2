-- How a run goes over code without jumps, and over parts of which one decides.
use Rattle.std.proofs.Common.{◌≡◌, ℕ, suc, ◌+◌, Bool, true, false, not, List, [], ◌∷◌, ◌++◌, length, Option, Some, None, refl, sym, ap, subst, ◌∙◌, arith, length-append}
use Rattle.std.specs.Prelude.{slice_get, ◌&&◌, if◌then◌else◌}
use Rattle.std.proofs.lemmas.Bool.{and_parts}
use Rattle.std.proofs.lemmas.Option.{same_Some}
use Rattle.std.specs.List.{list_any}
use mathlib.Core.Bool.{beq}
use Rattle.wq_glob.specs.Pattern.{fits}
use Rattle.wq_record.specs.RecordData.{RecordData}
use Rattle.wq_base.specs.Compare.{same_text}
use Rattle.wq_code.specs.Item.{Item}
use Rattle.wq_code.specs.Flow.{flow}
use Rattle.wq_code.specs.declared.flow.Flow.TheVariants.{Next, Fork}
use Rattle.wq_code.specs.declared.operation.Op.{Op}
use Rattle.wq_code.specs.declared.operation.Op.TheVariants.{Flag, Number, Text, WholeName, BaseName, Suffix, Size, Mtime, Oclock, Cclock, Osec, Csec, Kind, Exists, Compare, Equal, Depth, OneOf, Match, AnyMatch, Not, And, Or, Drop, Jump, JumpIfNot, JumpIf, Return}
use Rattle.wq_code.specs.declared.raw.Raw.{Raw}
use Rattle.wq_code.specs.Machine.{Cell, flag, number as a_number, text as a_text, Running, ◌>>=◌, top_text, cells_after, charge, go_on, step, advance, after}
use Rattle.wq_machine.specs.Item.{item_of}
use Rattle.wq_compile.specs.Instruction.{Instruction, plain, number, text, one_of, fitting, blank}
use Rattle.wq_compile.specs.Code.{Part, straight, jump_if, others_len, others, joined}
use Rattle.wq_compile.proofs.Puts.{IsOp, StandsAt, HasCode, has-first, has-second}

-- some number of steps leads to a place with these cells
pub record Gets (whole : Raw) (item : Item) (place : ℕ) (cells : List Cell) : Type 0 where
  pub k : ℕ
  pub steps : ℕ
  pub reached : after whole item k ≡ Running place cells steps

-- a run begins at place 0 with no cells
pub begins : (whole : Raw) (item : Item) → Gets whole item 0 []
unfolding after
begins whole item = record { k = 0; steps = 0; reached = refl }

-- the step from a place with a known instruction
stepped : (whole : Raw) (item : Item) (place : ℕ) (cells : List Cell) (steps : ℕ) (op : Op) (left : List Cell)
    → slice_get whole.code place ≡ Some op → cells_after whole item op cells ≡ Some left
    → step whole item place cells steps ≡ go_on (flow op) place (Some left) (steps + charge whole op cells)
unfolding step
stepped whole item place cells steps op left got leaves = rw (got, leaves) refl

one_more : (whole : Raw) (item : Item) (k place : ℕ) (cells : List Cell) (steps : ℕ)
    → after whole item k ≡ Running place cells steps → after whole item (suc k) ≡ step whole item place cells steps
unfolding after
one_more whole item k place cells steps e = ap (advance whole item) e

-- one step on, if the next place follows
gets-next : (whole : Raw) (item : Item) (place : ℕ) (cells left : List Cell) (op : Op) → Gets whole item place cells
    → slice_get whole.code place ≡ Some op → flow op ≡ Next → cells_after whole item op cells ≡ Some left
    → Gets whole item (suc place) left
gets-next whole item place cells left op g got way leaves =
    let e = one_more whole item g.k place cells g.steps g.reached ∙ stepped whole item place cells g.steps op left got leaves in
    let z : place + 1 ≡ suc place = omega arith in
    record {
      k = suc g.k;
      steps = g.steps + charge whole op cells;
      reached = e ∙ ap (λ w. go_on w place (Some left) (g.steps + charge whole op cells)) way
          ∙ ap (λ p. Running p left (g.steps + charge whole op cells)) z;
    }

-- the cells after an instruction, whose constant is at hand; none if it needs others
abbrev pub effect : Item → Instruction → List Cell → Option (List Cell)
effect item (plain op) cells = cells_after blank item op cells
effect item (number n) cells = Some (a_number n ∷ cells)
effect item (text bytes) cells = Some (a_text bytes ∷ cells)
effect item (one_of case entries) cells = do
  (x, cells) ← top_text cells
  Some (flag (list_any (λ entry. same_text case entry x) entries) ∷ cells)
effect item (fitting pattern) cells = do
  (x, cells) ← top_text cells
  Some (flag (fits pattern x) ∷ cells)

-- an instruction that does not look at a constant does not depend on the tables
no_tables : (whole : Raw) (item : Item) (op : Op) (cells left : List Cell)
    → cells_after blank item op cells ≡ Some left → cells_after whole item op cells ≡ Some left
unfolding cells_after
no_tables whole item (Flag x) cells left e = e
no_tables whole item (Number place) cells left e = cc
no_tables whole item (Text place) cells left e = cc
no_tables whole item WholeName cells left e = e
no_tables whole item BaseName cells left e = e
no_tables whole item Suffix cells left e = e
no_tables whole item Size cells left e = e
no_tables whole item Mtime cells left e = e
no_tables whole item Oclock cells left e = e
no_tables whole item Cclock cells left e = e
no_tables whole item Osec cells left e = e
no_tables whole item Csec cells left e = e
no_tables whole item Kind cells left e = e
no_tables whole item Exists cells left e = e
no_tables whole item (Compare relation) cells left e = e
no_tables whole item (Equal case) cells left e = e
no_tables whole item (Depth case) cells left e = e
no_tables whole item (OneOf case place) cells left e = cc
no_tables whole item (Match place) cells left e = cc
no_tables whole item (AnyMatch place) cells left e = cc
no_tables whole item Not cells left e = e
no_tables whole item And cells left e = e
no_tables whole item Or cells left e = e
no_tables whole item Drop cells left e = e
no_tables whole item (Jump place) cells left e = e
no_tables whole item (JumpIfNot place) cells left e = e
no_tables whole item (JumpIf place) cells left e = e
no_tables whole item Return cells left e = e

-- an instruction of the code has the effect of the one that was put
has_effect : (whole : Raw) (item : Item) (op : Op) (i : Instruction) (cells left : List Cell) → IsOp whole op i
    → effect item i cells ≡ Some left → cells_after whole item op cells ≡ Some left
unfolding cells_after
has_effect whole item op (plain o) cells left is e = rw is (no_tables whole item o cells left e)
has_effect whole item op (number n) cells left is e = rw (is.1, is.2) e
has_effect whole item op (text bytes) cells left is e = rw (is.1, is.2) e
has_effect whole item op (one_of case entries) cells left is e = rw (is.1, is.2) e
has_effect whole item op (fitting pattern) cells left is e = rw (is.1, is.2) e

-- the cells after several instructions
abbrev pub effects : Item → List Instruction → List Cell → Option (List Cell)
effects item [] cells = Some cells
effects item (i ∷ is) cells = effect item i cells >>= effects item is

-- after an instruction the next place follows
abbrev pub goes_next : Instruction → Bool
goes_next (plain (Jump _)) = false
goes_next (plain (JumpIfNot _)) = false
goes_next (plain (JumpIf _)) = false
goes_next (plain Return) = false
goes_next _ = true

-- after each of several
abbrev pub all_next : List Instruction → Bool
all_next [] = true
all_next (i ∷ is) = goes_next i && all_next is

-- if the next place follows, the flow says so
pub next-flow : (whole : Raw) (op : Op) (i : Instruction) → IsOp whole op i → goes_next i ≡ true → flow op ≡ Next
next-flow whole op (plain (Flag x)) is e = rw is refl
next-flow whole op (plain (Number place)) is e = rw is refl
next-flow whole op (plain (Text place)) is e = rw is refl
next-flow whole op (plain WholeName) is e = rw is refl
next-flow whole op (plain BaseName) is e = rw is refl
next-flow whole op (plain Suffix) is e = rw is refl
next-flow whole op (plain Size) is e = rw is refl
next-flow whole op (plain Mtime) is e = rw is refl
next-flow whole op (plain Oclock) is e = rw is refl
next-flow whole op (plain Cclock) is e = rw is refl
next-flow whole op (plain Osec) is e = rw is refl
next-flow whole op (plain Csec) is e = rw is refl
next-flow whole op (plain Kind) is e = rw is refl
next-flow whole op (plain Exists) is e = rw is refl
next-flow whole op (plain (Compare relation)) is e = rw is refl
next-flow whole op (plain (Equal case)) is e = rw is refl
next-flow whole op (plain (Depth case)) is e = rw is refl
next-flow whole op (plain (OneOf case place)) is e = rw is refl
next-flow whole op (plain (Match place)) is e = rw is refl
next-flow whole op (plain (AnyMatch place)) is e = rw is refl
next-flow whole op (plain Not) is e = rw is refl
next-flow whole op (plain And) is e = rw is refl
next-flow whole op (plain Or) is e = rw is refl
next-flow whole op (plain Drop) is e = rw is refl
next-flow whole op (plain (Jump place)) is e = cc
next-flow whole op (plain (JumpIfNot place)) is e = cc
next-flow whole op (plain (JumpIf place)) is e = cc
next-flow whole op (plain Return) is e = cc
next-flow whole op (number n) is e = rw is.1 refl
next-flow whole op (text bytes) is e = rw is.1 refl
next-flow whole op (one_of case entries) is e = rw is.1 refl
next-flow whole op (fitting pattern) is e = rw is.1 refl

-- over the first instruction, and then over the others
straight-step : (whole : Raw) (item : Item) (i : Instruction) (is : List Instruction) (at : ℕ) (cells left : List Cell)
    → (o : Option (List Cell)) → effect item i cells ≡ o → (o >>= effects item is) ≡ Some left
    → Gets whole item at cells → StandsAt whole at i → goes_next i ≡ true
    → ((mid : List Cell) → Gets whole item (suc at) mid → effects item is mid ≡ Some left → Gets whole item (suc at + length is) left)
    → Gets whole item (at + suc (length is)) left
straight-step whole item i is at cells left None eo e g s n rest = cc
straight-step whole item i is at cells left (Some mid) eo e g s n rest =
    let z : suc at + length is ≡ at + suc (length is) = omega arith in
    subst (λ p. Gets whole item p left) z
    (rest mid
    (gets-next whole item at cells mid s.op g s.there (next-flow whole s.op i s.is n) (has_effect whole item s.op i cells mid s.is eo)) e)

-- a run goes over code without jumps
pub gets-straight : (whole : Raw) (item : Item) (is : List Instruction) (at : ℕ) (cells left : List Cell)
    → Gets whole item at cells → HasCode whole at is → all_next is ≡ true → effects item is cells ≡ Some left
    → Gets whole item (at + length is) left
gets-straight whole item [] at cells left g h n e =
    let z : at + 0 ≡ at = omega arith in
    subst (λ p. Gets whole item p left) (sym z) (subst (Gets whole item at) (same_Some cells left e) g)
gets-straight whole item (i ∷ is) at cells left g h n e =
    let p = and_parts (goes_next i) (all_next is) n in
    straight-step whole item i is at cells left (effect item i cells) refl e g h.0 p.0
    (λ mid gm em. gets-straight whole item is (suc at) mid left gm h.1 p.1 em)

-- ---- parts

-- a part has the length that it says, and leaves a flag on an empty stack: the result of this test
pub record Works (part : Part) (test : RecordData → Bool) : Type 0 where
  pub long : (at : ℕ) → length (part.code at) ≡ part.len
  pub runs : (whole : Raw) (r : RecordData) (at : ℕ) → HasCode whole at (part.code at)
      → Gets whole (item_of r) at [] → Gets whole (item_of r) (at + part.len) (flag (test r) ∷ [])

-- a part without jumps works if its effects are those
pub straight-works : (is : List Instruction) (test : RecordData → Bool) → all_next is ≡ true
    → ((r : RecordData) → effects (item_of r) is [] ≡ Some (flag (test r) ∷ [])) → Works (straight is) test
straight-works is test n e = record {
  long = λ at. refl;
  runs = λ whole r at h g. gets-straight whole (item_of r) is at [] (flag (test r) ∷ []) g h n (e r);
}

-- the tests of some parts
abbrev pub Tests : Type 0
Tests = List (RecordData → Bool)

-- each part works
abbrev pub AllWork : List Part → Tests → Type 0
AllWork [] [] = Unit {0}
AllWork (p ∷ ps) (test ∷ tests) = Works p test × AllWork ps tests
AllWork _ _ = ⊥

-- the first flag that decides, or the last one
abbrev pub decided : Bool → Bool → Tests → RecordData → Bool
decided stop now [] r = now
decided stop now (test ∷ tests) r = if beq now stop then now else decided stop (test r) tests r

-- the joint result of several tests
abbrev pub together : Bool → Tests → RecordData → Bool
together stop [] r = not stop
together stop (test ∷ tests) r = decided stop (test r) tests r

-- the place that a jump leads to
pub jump-flow : (stop : Bool) (end : ℕ) → flow (jump_if stop end) ≡ Fork end stop
jump-flow false end = refl
jump-flow true end = refl

jump-cells : (whole : Raw) (item : Item) (stop now : Bool) (end : ℕ) (cells : List Cell)
    → cells_after whole item (jump_if stop end) (flag now ∷ cells) ≡ Some (flag now ∷ cells)
unfolding cells_after
jump-cells whole item false now end cells = refl
jump-cells whole item true now end cells = refl

-- a step over a jump on a flag, taken or not
gets-fork : (whole : Raw) (item : Item) (at end : ℕ) (stop now : Bool) → Gets whole item at (flag now ∷ [])
    → StandsAt whole at (plain (jump_if stop end))
    → Gets whole item (if beq now stop then end else suc at) (flag now ∷ [])
gets-fork whole item at end stop now g s =
    let got : slice_get whole.code at ≡ Some (jump_if stop end) = subst (λ op. slice_get whole.code at ≡ Some op) s.is s.there in
    let c = g.steps + charge whole (jump_if stop end) (flag now ∷ []) in
    let e = one_more whole item g.k at (flag now ∷ []) g.steps g.reached
    ∙ stepped whole item at (flag now ∷ []) g.steps (jump_if stop end) (flag now ∷ []) got (jump-cells whole item stop now end []) in
    let z : at + 1 ≡ suc at = omega arith in
    record {
      k = suc g.k;
      steps = c;
      reached = e ∙ ap (λ w. go_on w at (Some (flag now ∷ [])) c) (jump-flow stop end)
          ∙ ap (λ n. Running (if beq now stop then end else n) (flag now ∷ []) c) z;
    }

-- on from a jump that was taken, or over `drop` and the next part
from-fork : (whole : Raw) (r : RecordData) (stop now : Bool) (end at : ℕ) (p : Part) (test : RecordData → Bool) (tests : Tests) (rest : List Instruction)
    → (b : Bool) → Gets whole (item_of r) (if b then end else suc at) (flag now ∷ [])
    → Works p test → StandsAt whole (suc at) (plain Drop) → HasCode whole (suc (suc at)) (p.code (2 + at) ++ rest)
    → (HasCode whole (2 + at + p.len) rest → Gets whole (item_of r) (2 + at + p.len) (flag (test r) ∷ [])
    → Gets whole (item_of r) end (flag (decided stop (test r) tests r) ∷ []))
    → Gets whole (item_of r) end (flag (if b then now else decided stop (test r) tests r) ∷ [])
unfolding cells_after
from-fork whole r stop now end at p test tests rest true g w drop h on = g
from-fork whole r stop now end at p test tests rest false g w drop h on =
    let got : slice_get whole.code (suc at) ≡ Some Drop = subst (λ op. slice_get whole.code (suc at) ≡ Some op) drop.is drop.there in
    let two : suc (suc at) ≡ 2 + at = omega arith in
    let empty = subst (λ n. Gets whole (item_of r) n []) two (gets-next whole (item_of r) (suc at) (flag now ∷ []) [] Drop g got refl refl) in
    let behind = subst (λ n. HasCode whole n (p.code (2 + at) ++ rest)) two h in
    on
    (subst (λ n. HasCode whole (2 + at + n) rest) (w.long (2 + at)) (has-second whole (2 + at) (p.code (2 + at)) rest behind))
    (w.runs whole r (2 + at) (has-first whole (2 + at) (p.code (2 + at)) rest behind) empty)

-- a run goes over the parts after the first
others-run : (whole : Raw) (r : RecordData) (stop now : Bool) (ps : List Part) (tests : Tests) (end at : ℕ)
    → AllWork ps tests → end ≡ at + others_len ps → HasCode whole at (others stop end ps at)
    → Gets whole (item_of r) at (flag now ∷ []) → Gets whole (item_of r) end (flag (decided stop now tests r) ∷ [])
others-run whole r stop now [] [] end at w is h g =
    let z : at ≡ end = omega (arith, is) in subst (λ n. Gets whole (item_of r) n (flag now ∷ [])) z g
others-run whole r stop now (p ∷ ps) (test ∷ tests) end at w is h g =
    from-fork whole r stop now end at p test tests (others stop end ps (2 + at + p.len)) (beq now stop)
    (gets-fork whole (item_of r) at end stop now g h.0) w.0 h.1.0 h.1.1
    (λ rest gone. others-run whole r stop (test r) ps tests end (2 + at + p.len) w.1 (omega (arith, is)) rest gone)
others-run whole r stop now [] (test ∷ tests) end at w is h g = absurd w
others-run whole r stop now (p ∷ ps) [] end at w is h g = absurd w

-- how long several parts are together
abbrev pub joined_len : List Part → ℕ
joined_len [] = 1
joined_len (p ∷ ps) = p.len + others_len ps

others-long : (stop : Bool) (ps : List Part) (tests : Tests) (end at : ℕ) → AllWork ps tests
    → length (others stop end ps at) ≡ others_len ps
others-long stop [] [] end at w = refl
others-long stop (p ∷ ps) (test ∷ tests) end at w =
    let a = length-append (p.code (2 + at)) (others stop end ps (2 + at + p.len)) in
    let b = w.0.long (2 + at) in
    let c = others-long stop ps tests end (2 + at + p.len) w.1 in
    omega (arith, a, b, c)
others-long stop [] (test ∷ tests) end at w = absurd w
others-long stop (p ∷ ps) [] end at w = absurd w

-- several parts work together
pub joined-works : (stop : Bool) (ps : List Part) (tests : Tests) → AllWork ps tests
    → Works (record { len = joined_len ps; code = joined stop ps }) (together stop tests)
unfolding cells_after
joined-works stop [] [] w = record {
  long = λ at. refl;
  runs = λ whole r at h g. gets-straight whole (item_of r) (plain (Flag (not stop)) ∷ []) at [] (flag (not stop) ∷ []) g h refl refl;
}
joined-works stop (p ∷ ps) (test ∷ tests) w = record {
  long = λ at. joined-long at;
  runs = λ whole r at h g.
      let z : at + p.len + others_len ps ≡ at + (p.len + others_len ps) = omega arith in
      subst (λ n. Gets whole (item_of r) n (flag (decided stop (test r) tests r) ∷ [])) z
      (others-run whole r stop (test r) ps tests (at + p.len + others_len ps) (at + p.len) w.1 refl
      (subst (λ n. HasCode whole (at + n) (rest at)) (w.0.long at) (has-second whole at (p.code at) (rest at) h))
      (w.0.runs whole r at (has-first whole at (p.code at) (rest at) h) g));
}
  where
    rest : ℕ → List Instruction
    rest at = others stop (at + p.len + others_len ps) ps (at + p.len)

    joined-long : (at : ℕ) → length (p.code at ++ rest at) ≡ p.len + others_len ps
    joined-long at =
        let a = length-append (p.code at) (rest at) in
        let b = w.0.long at in
        let c = others-long stop ps tests (at + p.len + others_len ps) (at + p.len) w.1 in
        omega (arith, a, b, c)
joined-works stop [] (test ∷ tests) w = absurd w
joined-works stop (p ∷ ps) [] w = absurd w

-- a part and `not`
pub negation-works : (p : Part) (test : RecordData → Bool) → Works p test
    → Works (record { len = p.len + 1; code = λ at. p.code at ++ plain Not ∷ [] }) (λ r. not (test r))
unfolding cells_after
negation-works p test w = record {
  long = λ at. length-append (p.code at) (plain Not ∷ []) ∙ ap (λ n. n + 1) (w.long at);
  runs = λ whole r at h g.
      let z : at + p.len + 1 ≡ at + (p.len + 1) = omega arith in
      let last : HasCode whole (at + p.len) (plain Not ∷ []) =
      subst (λ n. HasCode whole (at + n) (plain Not ∷ [])) (w.long at) (has-second whole at (p.code at) (plain Not ∷ []) h) in
      subst (λ n. Gets whole (item_of r) n (flag (not (test r)) ∷ [])) z
      (gets-straight whole (item_of r) (plain Not ∷ []) (at + p.len) (flag (test r) ∷ []) (flag (not (test r)) ∷ [])
      (w.runs whole r at (has-first whole at (p.code at) (plain Not ∷ []) h) g) last refl refl);
}
