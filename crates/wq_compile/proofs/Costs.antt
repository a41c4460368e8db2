-- The program of an expression costs at most what its expression says.
use Rattle.std.proofs.Common.{◌≡◌, ℕ, suc, ◌+◌, ◌≤◌, Bool, true, false, not, List, [], ◌∷◌, ◌++◌, length, Some, sum_by, refl, sym, ap, subst, ◌∙◌, arith}
use Rattle.std.specs.Prelude.{slice_get, ◌==◌, if◌then◌else◌}
use Rattle.std.specs.List.{list_all}
use Rattle.std.specs.Option.{option_map_or}
use Rattle.std.proofs.lemmas.Bool.{and_parts, leb-true}
use Rattle.std.proofs.lemmas.List.Sums.{sum_by-cons}
use Rattle.wq_base.specs.declared.compare.Case.{Case}
use Rattle.wq_clock.specs.declared.bound.Bound.TheVariants.{Fresh, Tick, Second}
use Rattle.wq_code.specs.Fits.{is_short_text}
use Rattle.wq_code.specs.declared.operation.Op.{Op}
use Rattle.wq_code.specs.declared.operation.Op.TheVariants.{Not, Return}
use Rattle.wq_code.specs.declared.raw.Raw.{Raw}
use Rattle.wq_record.specs.Limit.{max_name}
use Rattle.wq_verify.specs.Budget.{longest_len, width_of, most_pattern_cost, most_cost, budget_of}
use Rattle.wq_term.specs.declared.expr.Depth.{Depth}
use Rattle.wq_term.specs.declared.expr.Depth.TheVariants.{Any, Is}
use Rattle.wq_term.specs.declared.expr.Scope.{Scope}
use Rattle.wq_term.specs.declared.expr.Scope.TheVariants.{Basename, Wholename}
use Rattle.wq_term.specs.declared.expr.Since.{Since}
use Rattle.wq_term.specs.declared.expr.Since.TheVariants.{Observed, Created, Modified}
use Rattle.wq_term.specs.CodeLength.{code_len, since_len, below_len, terms_len, others_len as terms_others_len}
use Rattle.wq_term.specs.Fits.{expr_fits}
use Rattle.wq_term.specs.NameFit.{scope_with}
use Rattle.wq_term.specs.Expr.{ExprData, always, never, exists, empty, kind_is, name_is, matches}
use Rattle.wq_term.specs.Expr.{suffix_is, size_is, since, below, negation, all_of, any_of}
use Rattle.wq_term.specs.Expr.{ExprsData, no_terms, term}
use Rattle.wq_compile.specs.Instruction.{Instruction, plain, number, text, one_of, fitting, blank}
use Rattle.wq_compile.specs.Code.{jump_if, others, others_len, joined, filled, scope_op, since_code, below_code, code_of, parts_of, program_of}
use Rattle.wq_compile.specs.Cost.{constants_cost, all_constants_cost, most_steps_of}
use Rattle.wq_compile.specs.Large.{is_too_large}
use Rattle.wq_compile.proofs.Puts.{IsOp, HasCode, length-put_all}
use Rattle.wq_compile.proofs.Programs.{program-has}
use Rattle.wq_compile.proofs.Sizes.{program-small}

-- ---- the budget of code whose constants are known

-- the most that an instruction costs, with texts of this width
abbrev own_cost : Raw → ℕ → Instruction → ℕ
own_cost raw width (plain op) = most_cost raw width op
own_cost raw width (number n) = 1
own_cost raw width (text bytes) = 1
own_cost raw width (one_of case entries) = 1 + length entries
own_cost raw width (fitting pattern) = 1 + most_pattern_cost width pattern

-- that of several together
abbrev total : Raw → ℕ → List Instruction → ℕ
total raw width [] = 0
total raw width (i ∷ is) = own_cost raw width i + total raw width is

total-append : (raw : Raw) (width : ℕ) (is js : List Instruction) → total raw width (is ++ js) ≡ total raw width is + total raw width js
total-append raw width [] js = omega arith
total-append raw width (i ∷ is) js = let rest = total-append raw width is js in omega (arith, rest)

costs-so : (raw : Raw) (width : ℕ) (op : Op) (i : Instruction) → IsOp raw op i → most_cost raw width op ≡ own_cost raw width i
costs-so raw width op (plain o) is = ap (most_cost raw width) is
costs-so raw width op (number n) is = ap (most_cost raw width) is.1
costs-so raw width op (text bytes) is = ap (most_cost raw width) is.1
costs-so raw width op (one_of case entries) is = ap (most_cost raw width) is.1 ∙ ap (λ found. 1 + option_map_or length found 0) is.2
costs-so raw width op (fitting pattern) is = ap (most_cost raw width) is.1 ∙ ap (λ found. 1 + option_map_or (most_pattern_cost width) found 0) is.2

-- some code of a program, which has these instructions there
sums : (raw : Raw) (width : ℕ) (code : List Op) (at : ℕ) (is : List Instruction) → ((k : ℕ) (op : Op) → slice_get code k ≡ Some op → slice_get raw.code (at + k) ≡ Some op)
    → HasCode raw at is → length code ≡ length is → sum_by (most_cost raw width) code ≡ total raw width is
sums raw width [] at [] there has long = refl
sums raw width [] at (i ∷ is) there has long = absurd (omega (arith, long))
sums raw width (op ∷ code) at [] there has long = absurd (omega (arith, long))
sums raw width (op ∷ code) at (i ∷ is) there has long =
    let here : at + 0 ≡ at = omega arith in
    let first : slice_get raw.code at ≡ Some op = subst (λ n. slice_get raw.code n ≡ Some op) here (there 0 op refl) in
    let same : Some op ≡ Some (has.0).op = sym first ∙ (has.0).there in
    let is_op : op ≡ (has.0).op = cc in
    let one = ap (most_cost raw width) is_op ∙ costs-so raw width (has.0).op i (has.0).is in
    let on : (k : ℕ) → at + suc k ≡ suc at + k = λ k. omega arith in
    let rest = sums raw width code (suc at) is (λ k o e. subst (λ n. slice_get raw.code n ≡ Some o) (on k) (there (suc k) o e)) has.1 (omega (arith, long)) in
    omega (arith, sum_by-cons (most_cost raw width) op code, one, rest)

-- ---- the code of terms

jump-costs : (raw : Raw) (width : ℕ) (flag : Bool) (end : ℕ) → most_cost raw width (jump_if flag end) ≡ 1
jump-costs raw width true end = refl
jump-costs raw width false end = refl

scope-costs : (raw : Raw) (width : ℕ) (scope : Scope) → most_cost raw width (scope_op scope) ≡ 1
scope-costs raw width Basename = refl
scope-costs raw width Wholename = refl

fewer-filled : (texts : List (List ℕ)) → length (filled texts) ≤ length texts
fewer-filled [] = omega arith
fewer-filled (bytes ∷ texts) = at (not (length bytes == 0)) (fewer-filled texts)
  where
    at : (b : Bool) → length (filled texts) ≤ length texts → length (if b then bytes ∷ filled texts else filled texts) ≤ suc (length texts)
    at true all = omega (arith, all)
    at false all = omega (arith, all)

since-costs : (raw : Raw) (width : ℕ) (point : Since) → total raw width (since_code point) ≤ since_len point
since-costs raw width (Observed Fresh) = omega arith
since-costs raw width (Observed (Tick tick)) = omega arith
since-costs raw width (Observed (Second second)) = omega arith
since-costs raw width (Created Fresh) = omega arith
since-costs raw width (Created (Tick tick)) = omega arith
since-costs raw width (Created (Second second)) = omega arith
since-costs raw width (Modified second) = omega arith

below-costs : (raw : Raw) (width : ℕ) (case : Case) (dir : List ℕ) (depth : Depth) (at : ℕ) → total raw width (below_code case dir depth at) ≤ below_len depth
below-costs raw width case dir Any at = omega arith
below-costs raw width case dir (Is relation n) at = omega arith

mutual
  term-costs : (raw : Raw) (t : ExprData) (at : ℕ) → total raw max_name (code_of t at) ≤ code_len t + constants_cost t
  term-costs raw always at = omega arith
  term-costs raw never at = omega arith
  term-costs raw exists at = omega arith
  term-costs raw empty at = omega arith
  term-costs raw (kind_is kind) at = omega arith
  term-costs raw (name_is case scope texts) at = let one = scope-costs raw max_name scope in omega (arith, one)
  term-costs raw (matches pattern) at = let one = scope-costs raw max_name (scope_with pattern.flags) in omega (arith, one)
  term-costs raw (suffix_is texts) at = let few = fewer-filled texts in omega (arith, few)
  term-costs raw (size_is relation n) at = omega arith
  term-costs raw (since point) at = let all = since-costs raw max_name point in omega (arith, all)
  term-costs raw (below case dir depth) at = let all = below-costs raw max_name case dir depth at in omega (arith, all)
  term-costs raw (negation t) at =
      let all = term-costs raw t at in
      let parts = total-append raw max_name (code_of t at) (plain Not ∷ []) in
      omega (arith, all, parts)
  term-costs raw (all_of ts) at = terms-cost raw false ts at
  term-costs raw (any_of ts) at = terms-cost raw true ts at

  terms-cost : (raw : Raw) (flag : Bool) (ts : ExprsData) (at : ℕ) → total raw max_name (joined flag (parts_of ts) at) ≤ terms_len ts + all_constants_cost ts
  terms-cost raw flag no_terms at = omega arith
  terms-cost raw flag (term t ts) at =
      let one = term-costs raw t at in
      let all = others-cost raw flag (at + code_len t + others_len (parts_of ts)) ts (at + code_len t) in
      let parts = total-append raw max_name (code_of t at) (others flag (at + code_len t + others_len (parts_of ts)) (parts_of ts) (at + code_len t)) in
      omega (arith, one, all, parts)

  others-cost : (raw : Raw) (flag : Bool) (end : ℕ) (ts : ExprsData) (at : ℕ) → total raw max_name (others flag end (parts_of ts) at) ≤ terms_others_len ts + all_constants_cost ts
  others-cost raw flag end no_terms at = omega arith
  others-cost raw flag end (term t ts) at =
      let jump = jump-costs raw max_name flag end in
      let one = term-costs raw t (2 + at) in
      let all = others-cost raw flag end ts (2 + at + code_len t) in
      let parts = total-append raw max_name (code_of t (2 + at)) (others flag end (parts_of ts) (2 + at + code_len t)) in
      omega (arith, jump, one, all, parts)

-- ---- the whole program

texts-short : (texts : List (List ℕ)) → list_all is_short_text texts ≡ true → longest_len texts ≤ max_name
texts-short [] short = omega arith
texts-short (bytes ∷ texts) short =
    let p = and_parts (is_short_text bytes) (list_all is_short_text texts) short in
    let one = leb-true (length bytes) max_name p.0 in
    let all = texts-short texts p.1 in
    omega (arith, one, all)

program-filled : (t : ExprData) → length (program_of t).code ≡ length (code_of t 0 ++ plain Return ∷ [])
unfolding program_of
program-filled t = let all = length-put_all (code_of t 0 ++ plain Return ∷ []) blank in omega (arith, all)

pub program_costs : (t : ExprData) → expr_fits t ≡ true → is_too_large t ≡ false → budget_of (program_of t) max_name ≤ most_steps_of t
unfolding budget_of
program_costs t fits small =
    let raw = program_of t in
    let is = code_of t 0 ++ plain Return ∷ [] in
    let behind : (k : ℕ) → k ≡ 0 + k = λ k. omega arith in
    let short = texts-short raw.texts (program-small t fits small).texts_fit in
    let width : width_of raw max_name ≡ max_name = omega (arith, short) in
    let cost = term-costs raw t 0 in
    let parts = total-append raw max_name (code_of t 0) (plain Return ∷ []) in
    let all = sums raw max_name raw.code 0 is (λ k op e. subst (λ n. slice_get raw.code n ≡ Some op) (behind k) e) (program-has t) (program-filled t) in
    subst (λ w. sum_by (most_cost raw w) raw.code ≤ most_steps_of t) (sym width) (omega (arith, all, cost, parts))
