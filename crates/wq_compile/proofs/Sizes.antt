-- The program of an expression that fits and is not too large keeps the limits of program files.
use Rattle.std.proofs.Common.{◌≡◌, ℕ, ◌+◌, ◌≤◌, pos, Bool, true, false, not, List, [], ◌∷◌, ◌++◌, length, refl, ◌∙◌, arith, length-append}
use Rattle.std.specs.Prelude.{◌&&◌, ◌==◌, nat_lt, nat_le, if◌then◌else◌}
use Rattle.std.specs.List.{list_all}
use Rattle.std.proofs.lemmas.Bool.{and_parts, and_from, le-leb, ltb-false, or_parts}
use Rattle.std.proofs.lemmas.List.Folds.{list_all-append}
use Rattle.wq_base.specs.declared.compare.Case.{Case}
use Rattle.wq_base.specs.declared.compare.Relation.TheVariants.{Ge}
use Rattle.wq_clock.specs.declared.bound.Bound.TheVariants.{Fresh, Tick, Second}
use Rattle.wq_code.specs.Fits.{is_short_text, is_list, is_pattern, is_pattern_set, is_op, raw_fits_in, raw_fits}
use Rattle.wq_code.specs.Limit.{max_table_rows, max_sets_in, max_entries}
use Rattle.wq_code.specs.declared.operation.Op.{Op}
use Rattle.wq_code.specs.declared.operation.Op.TheVariants.{Not, Return}
use Rattle.wq_code.specs.declared.version.Version.TheVariants as version
use Rattle.wq_glob.specs.Pattern.{PatternData}
use Rattle.wq_code.specs.declared.raw.Raw.{Raw}
use Rattle.wq_verify.specs.Typing.{IsValid}
use Rattle.wq_term.specs.declared.expr.Depth.{Depth}
use Rattle.wq_term.specs.declared.expr.Depth.TheVariants.{Any, Is}
use Rattle.wq_term.specs.declared.expr.Since.{Since}
use Rattle.wq_term.specs.declared.expr.Since.TheVariants.{Observed, Created, Modified}
use Rattle.wq_term.specs.CodeLength.{code_len}
use Rattle.wq_term.specs.Fits.{depth_fits, keeps_limits, all_keep_limits, expr_fits}
use Rattle.wq_term.specs.Expr.{ExprData, always, never, exists, empty, kind_is, name_is, matches}
use Rattle.wq_term.specs.Expr.{suffix_is, size_is, since, below, negation, all_of, any_of}
use Rattle.wq_term.specs.Expr.{ExprsData, no_terms, term}
use Rattle.wq_compile.specs.Instruction.{Instruction, plain, number, text, one_of, fitting, put, put_all, blank}
use Rattle.wq_compile.specs.Code.{Part, straight, others_len, others, joined}
use Rattle.wq_compile.specs.Code.{depth_code, filled, since_code, code_of, parts_of, program_of}
use Rattle.wq_compile.specs.Large.{is_long_list, has_long_list, have_long_list, is_too_large}
use Rattle.wq_compile.proofs.Puts.{length-put}
use Rattle.wq_compile.proofs.Programs.{program_long, program_lists, program-typed}

-- no table has more rows than the code, there are no sets, and each row keeps its limits
pub record IsSmall (raw : Raw) : Type 0 where
  pub nums : length raw.nums ≤ length raw.code
  pub texts : length raw.texts ≤ length raw.code
  pub lists : length raw.lists ≤ length raw.code
  pub patterns : length raw.patterns ≤ length raw.code
  pub texts_fit : list_all is_short_text raw.texts ≡ true
  pub lists_fit : list_all (is_list version.Second) raw.lists ≡ true
  pub patterns_fit : list_all is_pattern raw.patterns ≡ true
  pub no_sets : raw.sets ≡ []

-- the constant of an instruction keeps the limits
abbrev pub constant_fits : Instruction → Bool
constant_fits (text bytes) = is_short_text bytes
constant_fits (one_of case entries) = is_list version.Second entries
constant_fits (fitting pattern) = is_pattern pattern
constant_fits _ = true

all-behind : {A : Type 0} (test : A → Bool) (xs : List A) (x : A) → list_all test xs ≡ true → test x ≡ true
    → list_all test (xs ++ x ∷ []) ≡ true
all-behind test xs x all one = list_all-append test xs (x ∷ []) ∙ and_from _ _ all (and_from _ _ one refl)

put-small : (i : Instruction) (raw : Raw) → IsSmall raw → constant_fits i ≡ true → IsSmall (put i raw)
put-small (plain op) raw s e =
    let l = length-put (plain op) raw in
    let a = s.nums in let b = s.texts in let c = s.lists in let d = s.patterns in
    record {
      nums = omega (arith, l, a);
      texts = omega (arith, l, b);
      lists = omega (arith, l, c);
      patterns = omega (arith, l, d);
      texts_fit = s.texts_fit;
      lists_fit = s.lists_fit;
      patterns_fit = s.patterns_fit;
      no_sets = s.no_sets;
    }
put-small (number n) raw s e =
    let l = length-put (number n) raw in
    let a = s.nums in let b = s.texts in let c = s.lists in let d = s.patterns in
    let more = length-append raw.nums (n ∷ []) in
    record {
      nums = omega (arith, l, a, more);
      texts = omega (arith, l, b);
      lists = omega (arith, l, c);
      patterns = omega (arith, l, d);
      texts_fit = s.texts_fit;
      lists_fit = s.lists_fit;
      patterns_fit = s.patterns_fit;
      no_sets = s.no_sets;
    }
put-small (text bytes) raw s e =
    let l = length-put (text bytes) raw in
    let a = s.nums in let b = s.texts in let c = s.lists in let d = s.patterns in
    let more = length-append raw.texts (bytes ∷ []) in
    record {
      nums = omega (arith, l, a);
      texts = omega (arith, l, b, more);
      lists = omega (arith, l, c);
      patterns = omega (arith, l, d);
      texts_fit = all-behind is_short_text raw.texts bytes s.texts_fit e;
      lists_fit = s.lists_fit;
      patterns_fit = s.patterns_fit;
      no_sets = s.no_sets;
    }
put-small (one_of case entries) raw s e =
    let l = length-put (one_of case entries) raw in
    let a = s.nums in let b = s.texts in let c = s.lists in let d = s.patterns in
    let more = length-append raw.lists (entries ∷ []) in
    record {
      nums = omega (arith, l, a);
      texts = omega (arith, l, b);
      lists = omega (arith, l, c, more);
      patterns = omega (arith, l, d);
      texts_fit = s.texts_fit;
      lists_fit = all-behind (is_list version.Second) raw.lists entries s.lists_fit e;
      patterns_fit = s.patterns_fit;
      no_sets = s.no_sets;
    }
put-small (fitting pattern) raw s e =
    let l = length-put (fitting pattern) raw in
    let a = s.nums in let b = s.texts in let c = s.lists in let d = s.patterns in
    let more = length-append raw.patterns (pattern ∷ []) in
    record {
      nums = omega (arith, l, a);
      texts = omega (arith, l, b);
      lists = omega (arith, l, c);
      patterns = omega (arith, l, d, more);
      texts_fit = s.texts_fit;
      lists_fit = s.lists_fit;
      patterns_fit = all-behind is_pattern raw.patterns pattern s.patterns_fit e;
      no_sets = s.no_sets;
    }

-- a program into which instructions were put stays small
pub put_all-small : (is : List Instruction) (raw : Raw) → IsSmall raw → list_all constant_fits is ≡ true → IsSmall (put_all is raw)
put_all-small [] raw s e = s
put_all-small (i ∷ is) raw s e =
    let p = and_parts (constant_fits i) (list_all constant_fits is) e in
    put_all-small is (put i raw) (put-small i raw s p.0) p.1

-- nothing is small
pub blank-small : IsSmall blank
blank-small = record {
  nums = omega arith;
  texts = omega arith;
  lists = omega arith;
  patterns = omega arith;
  texts_fit = refl;
  lists_fit = refl;
  patterns_fit = refl;
  no_sets = refl;
}

-- every instruction is one of a file
each-op : (code : List Op) → list_all (is_op version.Second) code ≡ true
each-op [] = refl
each-op (op ∷ code) = each-op code

-- a program without sets keeps the limits of sets
sets-fit : (sets : List (List PatternData)) → sets ≡ [] → (nat_le (length sets) (max_sets_in version.Second) && list_all is_pattern_set sets) ≡ true
sets-fit [] none = refl
sets-fit (s ∷ sets) none = absurd cc

-- a small program with a short code fits
pub small-fits : (raw : Raw) → IsSmall raw → length raw.code ≤ max_table_rows → raw_fits raw ≡ true
unfolding raw_fits_in
small-fits raw s short =
    let a = s.nums in let b = s.texts in let c = s.lists in let d = s.patterns in
    and_from _ _
    (and_from _ _
    (and_from _ _
    (and_from _ _
    (and_from _ _ (le-leb (length raw.nums) max_table_rows (omega (arith, a, short)))
    (and_from _ _ (le-leb (length raw.texts) max_table_rows (omega (arith, b, short))) s.texts_fit))
    (and_from _ _ (le-leb (length raw.lists) max_table_rows (omega (arith, c, short))) s.lists_fit))
    (and_from _ _ (le-leb (length raw.patterns) max_table_rows (omega (arith, d, short))) s.patterns_fit))
    (sets-fit raw.sets s.no_sets))
    (and_from _ _ (le-leb (length raw.code) max_table_rows short) (each-op raw.code))

-- ---- the constants of terms

-- the constants of a part keep the limits
abbrev pub Fits : Part → Type 0
Fits p = (at : ℕ) → list_all constant_fits (p.code at) ≡ true

-- those of each part
abbrev pub AllFit : List Part → Type 0
AllFit [] = Unit {0}
AllFit (p ∷ ps) = Fits p × AllFit ps

others-fit : (stop : Bool) (end : ℕ) (ps : List Part) → AllFit ps → (at : ℕ) → list_all constant_fits (others stop end ps at) ≡ true
others-fit stop end [] f at = refl
others-fit stop end (p ∷ ps) f at =
    list_all-append constant_fits (p.code (2 + at)) (others stop end ps (2 + at + p.len))
    ∙ and_from _ _ (f.0 (2 + at)) (others-fit stop end ps f.1 (2 + at + p.len))

joined-fits : (stop : Bool) (ps : List Part) → AllFit ps → (at : ℕ) → list_all constant_fits (joined stop ps at) ≡ true
joined-fits stop [] f at = refl
joined-fits stop (p ∷ ps) f at =
    list_all-append constant_fits (p.code at) (others stop (at + p.len + others_len ps) ps (at + p.len))
    ∙ and_from _ _ (f.0 at) (others-fit stop (at + p.len + others_len ps) ps f.1 (at + p.len))

-- a part of short texts is short
filled-fit : (texts : List (List ℕ)) → list_all is_short_text texts ≡ true → list_all is_short_text (filled texts) ≡ true
filled-fit [] e = refl
filled-fit (bytes ∷ texts) e =
    let p = and_parts (is_short_text bytes) (list_all is_short_text texts) e in
    at (not (length bytes == 0)) p.0 (filled-fit texts p.1)
  where
    at : (b : Bool) → is_short_text bytes ≡ true → list_all is_short_text (filled texts) ≡ true
        → list_all is_short_text (if b then bytes ∷ filled texts else filled texts) ≡ true
    at true one all = and_from _ _ one all
    at false one all = all

-- a list that is not too long
list-fits : (texts : List (List ℕ)) → list_all is_short_text texts ≡ true → is_long_list texts ≡ false → is_list version.Second texts ≡ true
list-fits texts short few = and_from _ _ (le-leb (length texts) max_entries (ltb-false max_entries (length texts) few)) short

depth-constants : (case : Case) (dir : List ℕ) (depth : Depth) → is_short_text dir ≡ true → Fits (record { len = code_len (below case dir depth); code = code_of (below case dir depth) })
depth-constants case dir Any short at = and_from _ _ short refl
depth-constants case dir (Is relation n) short at =
    joined-fits false (straight (depth_code case dir Ge (pos 0)) ∷ straight (depth_code case dir relation n) ∷ [])
    ((λ at. and_from _ _ short refl), ((λ at. and_from _ _ short refl), tt)) at

since-constants : (point : Since) → list_all constant_fits (since_code point) ≡ true
since-constants (Observed Fresh) = refl
since-constants (Observed (Tick tick)) = refl
since-constants (Observed (Second second)) = refl
since-constants (Created Fresh) = refl
since-constants (Created (Tick tick)) = refl
since-constants (Created (Second second)) = refl
since-constants (Modified second) = refl

mutual
  -- the constants of a term that fits and has no long list keep the limits
  pub term-fits : (t : ExprData) → keeps_limits t ≡ true → has_long_list t ≡ false → (at : ℕ)
      → list_all constant_fits (code_of t at) ≡ true
  term-fits always k l at = refl
  term-fits never k l at = refl
  term-fits exists k l at = refl
  term-fits empty k l at = refl
  term-fits (kind_is kind) k l at = refl
  term-fits (name_is case scope texts) k l at = and_from _ _ (list-fits texts k l) refl
  term-fits (matches pattern) k l at = and_from _ _ k refl
  term-fits (suffix_is texts) k l at = and_from _ _ (list-fits (filled texts) (filled-fit texts k) l) refl
  term-fits (size_is relation n) k l at = refl
  term-fits (since point) k l at = since-constants point
  term-fits (below case dir depth) k l at =
      let p = and_parts _ (depth_fits depth) k in depth-constants case dir depth p.0 at
  term-fits (negation t) k l at =
      list_all-append constant_fits (code_of t at) (plain Not ∷ []) ∙ and_from _ _ (term-fits t k l at) refl
  term-fits (all_of ts) k l at = joined-fits false (parts_of ts) (terms-fit ts k l) at
  term-fits (any_of ts) k l at = joined-fits true (parts_of ts) (terms-fit ts k l) at

  terms-fit : (ts : ExprsData) → all_keep_limits ts ≡ true → have_long_list ts ≡ false → AllFit (parts_of ts)
  terms-fit no_terms k l = tt
  terms-fit (term t ts) k l =
      let p = and_parts (keeps_limits t) (all_keep_limits ts) k in
      let q = or_parts (has_long_list t) (have_long_list ts) l in
      ((λ at. term-fits t p.0 q.0 at), terms-fit ts p.1 q.1)

-- the program of an expression that fits and is not too large is small
pub program-small : (t : ExprData) → expr_fits t ≡ true → is_too_large t ≡ false → IsSmall (program_of t)
unfolding program_of expr_fits
program-small t f l =
    let p = and_parts _ (keeps_limits t) f in
    let q = or_parts (nat_lt max_table_rows (code_len t + 1)) (has_long_list t) l in
    put_all-small (code_of t 0 ++ plain Return ∷ []) blank blank-small
    (list_all-append constant_fits (code_of t 0) (plain Return ∷ []) ∙ and_from _ _ (term-fits t p.1 q.1 0) refl)

-- so it keeps the limits
program-fits : (t : ExprData) → expr_fits t ≡ true → is_too_large t ≡ false → raw_fits (program_of t) ≡ true
program-fits t f l =
    let q = or_parts (nat_lt max_table_rows (code_len t + 1)) (has_long_list t) l in
    let long = program_long t in
    let few = ltb-false max_table_rows (code_len t + 1) q.0 in
    small-fits (program_of t) (program-small t f l) (omega (arith, long, few))

-- and it may run
pub program_valid : (t : ExprData) → expr_fits t ≡ true → is_too_large t ≡ false → IsValid (program_of t)
program_valid t f l =
    let long = program_long t in
    record {
      limits = program-fits t f l;
      some = omega (arith, long);
      typed = (program_lists t, program-typed t);
    }
