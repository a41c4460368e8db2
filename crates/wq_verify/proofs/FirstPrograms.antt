-- A program that might run while there was one version may run, within the same budget.
use Rattle.std.proofs.Common.{◌≡◌, ℕ, zero, suc, true, leb, List, [], ◌∷◌, length, max, refl, sym, ◌∙◌, arith}
use Rattle.std.specs.Prelude.{sum_by}
use Rattle.std.specs.List.{list_all}
use Rattle.std.proofs.lemmas.Bool.{and_parts, and_from, leb-true, le-leb}
use Rattle.std.proofs.lemmas.List.Sums.{sum_by-cons}
use Rattle.wq_code.specs.Constant.{Constant, no_constant, in_numbers, in_texts, in_lists, in_patterns, in_sets, constant, has_constant}
use Rattle.wq_code.specs.First.{FirstRaw, migrate}
use Rattle.wq_code.specs.Fits.{is_short_text, is_list, is_pattern, is_op, raw_fits_in, raw_fits}
use Rattle.wq_code.specs.declared.operation.Op.{Op}
use Rattle.wq_code.specs.declared.operation.Op.TheVariants.{AnyMatch}
use Rattle.wq_code.specs.declared.version.Version.TheVariants.{Second}
use Rattle.wq_verify.specs.Budget.{longest_len, most_cost, budget_of}
use Rattle.wq_verify.specs.FirstRules.{is_first_list, first_fits, first_has_constant, IsFirstWell, IsFirstTyping, first_cost, first_budget_of}
use Rattle.wq_verify.specs.Kinds.{Kinds, KnownKinds}
use Rattle.wq_verify.specs.Law.{FirstProgramsStay, FirstBudgetsStay}
use Rattle.wq_verify.specs.Typing.{IsWell, IsTyping}

-- ---- the limits

each_op : (code : List Op) → list_all (is_op Second) code ≡ true
each_op [] = refl
each_op (op ∷ code) = each_op code

each_list : (lists : List (List (List ℕ))) → list_all is_first_list lists ≡ true → list_all (is_list Second) lists ≡ true
each_list [] h = refl
each_list (entries ∷ lists) h =
    let p = and_parts (is_first_list entries) (list_all is_first_list lists) h in
    let q = and_parts (leb (length entries) 65535) (list_all is_short_text entries) p.0 in
    let few = leb-true (length entries) 65535 q.0 in
    and_from (is_list Second entries) _ (and_from (leb (length entries) 65536) _ (le-leb _ _ (omega (arith, few))) q.1) (each_list lists p.1)

wider : (n : ℕ) → leb n 4096 ≡ true → leb n 65536 ≡ true
wider n h = let few = leb-true n 4096 h in le-leb _ _ (omega (arith, few))

limits : (raw : FirstRaw) → first_fits raw ≡ true → raw_fits (migrate raw) ≡ true
unfolding first_fits raw_fits_in
limits raw h =
    let a = and_parts _ _ h in
    let b = and_parts _ _ a.0 in
    let c = and_parts _ _ b.0 in
    let d = and_parts _ _ c.0 in
    let texts = and_parts (leb (length raw.texts) 4096) (list_all is_short_text raw.texts) d.1 in
    let lists = and_parts (leb (length raw.lists) 4096) (list_all is_first_list raw.lists) c.1 in
    let patterns = and_parts (leb (length raw.patterns) 4096) (list_all is_pattern raw.patterns) b.1 in
    and_from _ _ (and_from _ _ (and_from _ _ (and_from _ _ (and_from _ _ (wider (length raw.nums) d.0)
    (and_from _ _ (wider (length raw.texts) texts.0) texts.1))
    (and_from _ _ (wider (length raw.lists) lists.0) (each_list raw.lists lists.1)))
    (and_from _ _ (wider (length raw.patterns) patterns.0) patterns.1)) refl)
    (and_from _ _ (wider (length raw.code) a.1) (each_op raw.code))

-- ---- the rules

named : (raw : FirstRaw) (c : Constant) → first_has_constant raw c ≡ true → has_constant (migrate raw) c ≡ true
named raw no_constant h = h
named raw (in_numbers place) h = h
named raw (in_texts place) h = h
named raw (in_lists place) h = h
named raw (in_patterns place) h = h
named raw (in_sets place) h = absurd cc

well : (raw : FirstRaw) (lists : KnownKinds) (at : ℕ) (op : Op) (kinds : Kinds) → IsFirstWell raw lists at op kinds
    → IsWell (migrate raw) lists at op kinds
well raw lists at op kinds w = record {
  there = w.there;
  reached = w.reached;
  operands = w.operands;
  named = named raw (constant op) w.named;
  low = w.low;
  next = λ place l. record { later = (w.next place l).later; within = (w.next place l).within; known = (w.next place l).known };
}

typing : (raw : FirstRaw) (lists : KnownKinds) → IsFirstTyping raw lists → IsTyping (migrate raw) lists
typing raw lists t = record {
  start = t.start;
  each = λ at lt. let k = t.each at lt in (k.0, k.1, well raw lists at k.0 k.1 k.2);
  only = t.only;
}

-- what might run may run
pub first_programs_stay : FirstProgramsStay
first_programs_stay raw v = record {
  limits = limits raw v.limits;
  some = v.some;
  typed = (v.typed.0, typing raw v.typed.0 v.typed.1);
}

-- ---- the budget

same_cost : (raw : FirstRaw) (width : ℕ) (op : Op) → most_cost (migrate raw) width op ≡ first_cost raw width op
same_cost raw width (AnyMatch zero) = refl
same_cost raw width (AnyMatch (suc n)) = refl
same_cost raw width op = refl

same_sum : (raw : FirstRaw) (width : ℕ) (code : List Op) → sum_by (most_cost (migrate raw) width) code ≡ sum_by (first_cost raw width) code
same_sum raw width [] = refl
same_sum raw width (op ∷ code) =
    sum_by-cons (most_cost (migrate raw) width) op code
    ∙ rw (same_cost raw width op, same_sum raw width code) (sym (sum_by-cons (first_cost raw width) op code))

-- its budget is the same number
pub first_budgets_stay : FirstBudgetsStay
unfolding budget_of first_budget_of
first_budgets_stay raw name_len = same_sum raw (max name_len (longest_len raw.texts)) raw.code
