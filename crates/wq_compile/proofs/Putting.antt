-- Terms that are put one after the other are their joined code.
use Rattle.std.proofs.Common.{◌≡◌, ℕ, suc, ◌+◌, ◌<◌, Bool, true, false, List, [], ◌∷◌, ◌++◌, length, map, drop, get_or, sym, ap, ◌∙◌, arith, add-one}
use Rattle.std.proofs.Math.Seq.{drop-cons}
use Rattle.std.proofs.lemmas.Bool.{and_parts, ltb-false, or_parts}
use Rattle.wq_code.specs.Limit.{max_table_rows}
use Rattle.wq_code.specs.declared.operation.Op.TheVariants.{Drop, Not, Return}
use Rattle.wq_code.specs.declared.raw.Raw.{Raw}
use Rattle.wq_term.specs.CodeLength.{code_len, terms_len, others_len as terms_others_len}
use Rattle.wq_term.specs.declared.expr.Expr.{Expr}
use Rattle.wq_term.specs.Expr.{ExprData, ExprsData, term, term_of, terms_of}
use Rattle.wq_term.specs.Fits.{keeps_limits, all_keep_limits, expr_fits}
use Rattle.wq_compile.specs.Draft.{HasRoom}
use Rattle.wq_compile.specs.Instruction.{plain, put, put_all, blank}
use Rattle.wq_compile.specs.Code.{others_len, others, joined, jump_if, code_of, parts_of, program_of}
use Rattle.wq_compile.specs.Large.{has_long_list, is_too_large}
use Rattle.std.specs.Prelude.{nat_lt}
use Rattle.wq_compile.proofs.Puts.{put_all-append, length-put_all}
use Rattle.wq_compile.proofs.Meanings.{term-works, others-lens}

-- `not` is put after its term
pub negation_put : (t : ExprData) (at : ℕ) (raw : Raw)
    → put (plain Not) (put_all (code_of t at) raw) ≡ put_all (code_of t at ++ plain Not ∷ []) raw
negation_put t at raw = sym (put_all-append (code_of t at) (plain Not ∷ []) raw)

-- the code of a term makes a program longer by its length
pub length-code : (t : ExprData) (at : ℕ) (raw : Raw) → length (put_all (code_of t at) raw).code ≡ length raw.code + code_len t
length-code t at raw = length-put_all (code_of t at) raw ∙ ap (λ n. length raw.code + n) ((term-works t).long at)

-- a program to which the code of these terms is still to be put, after jumps to a place, is then a whole one
pub record IsBefore (flag : Bool) (end : ℕ) (left : ExprsData) (now whole : Raw) : Type 0 where
  pub made : put_all (others flag end (parts_of left) (length now.code)) now ≡ whole
  pub end_is : end ≡ length now.code + terms_others_len left
  pub within : end < max_table_rows
  pub limits : all_keep_limits left ≡ true

-- so it is after the first
pub first_put : (flag : Bool) (end : ℕ) (t : ExprData) (ts : ExprsData) (old now : Raw)
    → now ≡ put_all (code_of t (length old.code)) old → end ≡ length old.code + terms_len (term t ts) → length old.code + terms_len (term t ts) < max_table_rows
    → all_keep_limits (term t ts) ≡ true
    → IsBefore flag end ts now (put_all (joined flag (parts_of (term t ts)) (length old.code)) old)
first_put flag end t ts old now is e lt k =
    let l = length-code t (length old.code) old in
    let long : length now.code ≡ length old.code + code_len t = ap (λ (r : Raw). length r.code) is ∙ l in
    let o = others-lens ts in
    let same : length old.code + code_len t + others_len (parts_of ts) ≡ end = omega (arith, e, o) in
    record {
      made =
          ap (put_all (others flag end (parts_of ts) (length now.code))) is
          ∙ ap (λ n. put_all (others flag end (parts_of ts) n) (put_all (code_of t (length old.code)) old)) long
          ∙ ap (λ n. put_all (others flag n (parts_of ts) (length old.code + code_len t)) (put_all (code_of t (length old.code)) old)) (sym same)
          ∙ sym (put_all-append (code_of t (length old.code)) (others flag (length old.code + code_len t + others_len (parts_of ts)) (parts_of ts) (length old.code + code_len t)) old);
      end_is = omega (arith, e, long);
      within = omega (arith, e, lt);
      limits = (and_parts (keeps_limits t) (all_keep_limits ts) k).1;
    }

-- a program with a jump and a `drop` more is longer by two
length-jumped : (flag : Bool) (end : ℕ) (raw : Raw) → length (put_all (plain (jump_if flag end) ∷ plain Drop ∷ []) raw).code ≡ 2 + length raw.code
length-jumped flag end raw =
    let l = length-put_all (plain (jump_if flag end) ∷ plain Drop ∷ []) raw in omega (arith, l)

-- so it is after the next one
pub next_put : (flag : Bool) (end : ℕ) (t : ExprData) (ts : ExprsData) (now jumped new whole : Raw) → IsBefore flag end (term t ts) now whole
    → jumped ≡ put_all (plain (jump_if flag end) ∷ plain Drop ∷ []) now → new ≡ put_all (code_of t (length jumped.code)) jumped
    → IsBefore flag end ts new whole
next_put flag end t ts now jumped new whole b is next =
    let l : length jumped.code ≡ 2 + length now.code = ap (λ (r : Raw). length r.code) is ∙ length-jumped flag end now in
    let long : length new.code ≡ length jumped.code + code_len t = ap (λ (r : Raw). length r.code) next ∙ length-code t (length jumped.code) jumped in
    let at : length new.code ≡ 2 + length now.code + code_len t = omega (arith, l, long) in
    let e = b.end_is in
    let rest = others flag end (parts_of ts) (2 + length now.code + code_len t) in
    record {
      made =
          ap (λ n. put_all (others flag end (parts_of ts) n) new) at
          ∙ ap (put_all rest) (next ∙ ap (λ n. put_all (code_of t n) jumped) l)
          ∙ sym (put_all-append (code_of t (2 + length now.code)) rest jumped)
          ∙ ap (put_all (code_of t (2 + length now.code) ++ rest)) is
          ∙ b.made;
      end_is = omega (arith, e, at);
      within = b.within;
      limits = (and_parts (keeps_limits t) (all_keep_limits ts) b.limits).1;
    }

-- the terms from a place on are the term there and those after it
pub terms_from : (es : List Expr) (i : ℕ) (e : Expr) → i < length es → e ≡ get_or es i e
    → terms_of (map term_of (drop i es)) ≡ term (term_of e) (terms_of (map term_of (drop (i + 1) es)))
terms_from es i e h is =
    ap (λ (xs : List Expr). terms_of (map term_of xs)) (drop-cons es i e h)
    ∙ ap (λ (x : Expr). term (term_of x) (terms_of (map term_of (drop (suc i) es)))) (sym is)
    ∙ ap (λ n. term (term_of e) (terms_of (map term_of (drop n es)))) (sym (add-one i))

-- the program is the code and then the end
pub program_put : (t : ExprData) → put (plain Return) (put_all (code_of t 0) blank) ≡ program_of t
unfolding program_of
program_put t = sym (put_all-append (code_of t 0) (plain Return ∷ []) blank)

-- the code of an expression that is not too large has room
pub program_room : (t : ExprData) → is_too_large t ≡ false → HasRoom (code_len t) blank
program_room t l =
    let few = ltb-false max_table_rows (code_len t + 1) (or_parts (nat_lt max_table_rows (code_len t + 1)) (has_long_list t) l).0 in
    omega (arith, few)

-- the terms of an expression that fits keep their limits
pub program_limits : (t : ExprData) → expr_fits t ≡ true → keeps_limits t ≡ true
unfolding expr_fits
program_limits t f = (and_parts _ (keeps_limits t) f).1
