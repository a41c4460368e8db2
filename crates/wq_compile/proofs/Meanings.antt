-- The code of each term leaves the meaning of the term.
use Rattle.std.proofs.Common.{◌≡◌, ℕ, ◌+◌, Bool, true, false, not, List, [], ◌∷◌, length, ℤ, pos, negsuc, Option, Some, None, refl, sym, ap, subst, ◌∙◌, arith}
use Rattle.std.specs.Prelude.{◌&&◌, ◌||◌, ◌==◌, if◌then◌else◌, count_by, nat_le}
use Rattle.std.specs.List.{list_any}
use Rattle.std.specs.Option.{option_map_or}
use Rattle.std.specs.Ordering.{int_eq}
use Rattle.std.proofs.lemmas.Bool.{eqb-true, eq-eqb, le-leb}
use Rattle.std.proofs.lemmas.Bool.Decides.{Decides-int_eq}
use Rattle.std.specs.Cmp.{both_ways}
use mathlib.Core.Bool.{beq}
use Rattle.wq_base.specs.Byte.{is_slash}
use Rattle.wq_base.specs.Compare.{compares, is_suffix, same_text}
use Rattle.wq_base.specs.Directory.{rest_below}
use Rattle.wq_base.specs.Name.{suffix_of}
use Rattle.wq_base.specs.declared.compare.Case.{Case}
use Rattle.wq_base.specs.declared.compare.Case.TheVariants.{Folded}
use Rattle.wq_base.specs.declared.compare.Relation.{Relation}
use Rattle.wq_base.specs.declared.compare.Relation.TheVariants.{Eq, Ge}
use Rattle.wq_clock.specs.declared.bound.Bound.TheVariants.{Fresh, Tick, Second}
use Rattle.wq_glob.specs.Pattern.{PatternData, fits}
use Rattle.wq_record.specs.RecordData.{RecordData}
use Rattle.wq_record.specs.Kind.{letter_of}
use Rattle.wq_record.specs.declared.kind.Kind.{Kind as FileKind}
use Rattle.wq_record.specs.declared.kind.Kind.TheVariants.{File, Dir}
use Rattle.wq_code.specs.Name.{depth_of}
use Rattle.wq_code.specs.Machine.{flag, cells_after}
use Rattle.wq_code.specs.declared.operation.Op.TheVariants.{Flag, Exists}
use Rattle.wq_machine.specs.Item.{item_of}
use Rattle.wq_term.specs.declared.expr.Scope.{Scope}
use Rattle.wq_term.specs.declared.expr.Scope.TheVariants.{Basename, Wholename}
use Rattle.wq_term.specs.declared.expr.Depth.{Depth}
use Rattle.wq_term.specs.declared.expr.Depth.TheVariants.{Any, Is}
use Rattle.wq_term.specs.declared.expr.Since.{Since}
use Rattle.wq_term.specs.declared.expr.Since.TheVariants.{Observed, Created, Modified}
use Rattle.wq_term.specs.CodeLength.{code_len, terms_len, others_len as terms_others_len}
use Rattle.wq_term.specs.NameFit.{scope_with}
use Rattle.wq_term.specs.Text.{scope_part as part_of_name}
use Rattle.wq_term.specs.Expr.{ExprData, always, never, exists, empty, kind_is, name_is, matches}
use Rattle.wq_term.specs.Expr.{suffix_is, size_is, since, below, negation, all_of, any_of}
use Rattle.wq_term.specs.Expr.{ExprsData, no_terms, term, means, every, some, has_kind}
use Rattle.wq_compile.specs.Instruction.{plain, fitting}
use Rattle.wq_compile.specs.Code.{Part, straight, others_len, joined, kind_code, size_code}
use Rattle.wq_compile.specs.Code.{depth_code, scope_op, filled, plain_kind}
use Rattle.wq_compile.specs.Code.{code_of, parts_of}
use Rattle.wq_compile.proofs.Runs.{Gets, Works, Tests, AllWork, decided, together, joined_len}
use Rattle.wq_compile.proofs.Runs.{straight-works, joined-works, negation-works}

-- a part works for a test that says the same
works-as : (p : Part) (test other : RecordData → Bool) → Works p test → ((r : RecordData) → test r ≡ other r) → Works p other
works-as p test other w same = record {
  long = w.long;
  runs = λ whole r at h g. subst (λ b. Gets whole (item_of r) (at + p.len) (flag b ∷ [])) (same r) (w.runs whole r at h g);
}

-- the first of two decides
and_first : (a b : Bool) → (if beq a false then a else b) ≡ (a && b)
and_first false b = refl
and_first true b = refl

-- two numbers without a sign, compared with one and in the other order
same_number : (a b : ℕ) → int_eq (pos a) (pos b) ≡ (b == a)
same_number a b =
    both_ways (int_eq (pos a) (pos b)) (b == a)
    (λ e. let is : pos a ≡ pos b = (Decides-int_eq (pos a) (pos b)).0 e in
    let n : a ≡ b = cc in eq-eqb b a (sym n))
    (λ e. (Decides-int_eq (pos a) (pos b)).1 (ap pos (sym (eqb-true b a e))))

-- entries that are empty are left out, and match nothing
without_empty : (texts : List (List ℕ)) (suffix : List ℕ)
    → list_any (λ entry. same_text Folded entry suffix) (filled texts) ≡ list_any (λ bytes. is_suffix bytes suffix) texts
without_empty [] suffix = refl
without_empty (bytes ∷ texts) suffix = at (not (length bytes == 0)) (without_empty texts suffix)
  where
    at : (b : Bool)
        → list_any (λ entry. same_text Folded entry suffix) (filled texts) ≡ list_any (λ x. is_suffix x suffix) texts
        → list_any (λ entry. same_text Folded entry suffix) (if b then bytes ∷ filled texts else filled texts)
        ≡ ((b && same_text Folded bytes suffix) || list_any (λ x. is_suffix x suffix) texts)
    at true h = ap (λ t. same_text Folded bytes suffix || t) h
    at false h = h

-- 0 is the least number
zero_first : (n : ℕ) → nat_le 0 n ≡ true
zero_first n = le-leb 0 n (omega arith)

-- a depth is a number that is not negative
depth-any : (rest : Option (List ℕ))
    → compares Ge (option_map_or (λ x. pos (count_by is_slash x)) rest (negsuc 0)) (pos 0) ≡ option_map_or (λ x. true) rest false
depth-any None = refl
depth-any (Some rest) = zero_first (count_by is_slash rest)

-- a file lies below a directory, and so deep
depth-is : (relation : Relation) (n : ℤ) (rest : Option (List ℕ))
    → (compares Ge (option_map_or (λ x. pos (count_by is_slash x)) rest (negsuc 0)) (pos 0)
    && compares relation (option_map_or (λ x. pos (count_by is_slash x)) rest (negsuc 0)) n)
    ≡ option_map_or (λ x. compares relation (pos (count_by is_slash x)) n) rest false
depth-is relation n None = refl
depth-is relation n (Some rest) =
    ap (λ b. b && compares relation (pos (count_by is_slash rest)) n) (zero_first (count_by is_slash rest))

-- the part of a term
abbrev pub part_of : ExprData → Part
part_of t = record { len = code_len t; code = code_of t }

-- ---- plain terms

always-works : Works (straight (plain (Flag true) ∷ [])) (λ r. true)
unfolding cells_after
always-works = straight-works (plain (Flag true) ∷ []) (λ r. true) refl (λ r. refl)

never-works : Works (straight (plain (Flag false) ∷ [])) (λ r. false)
unfolding cells_after
never-works = straight-works (plain (Flag false) ∷ []) (λ r. false) refl (λ r. refl)

exists-works : Works (straight (plain Exists ∷ [])) (λ r. r.exists)
unfolding cells_after
exists-works = straight-works (plain Exists ∷ []) (λ r. r.exists) refl (λ r. refl)

size-works : (relation : Relation) (n : ℤ) → Works (straight (size_code relation n)) (λ r. compares relation r.size n)
unfolding cells_after
size-works relation n = straight-works (size_code relation n) (λ r. compares relation r.size n) refl (λ r. refl)

kind-works : (kind : FileKind) → Works (straight (kind_code kind)) (has_kind kind)
unfolding cells_after
kind-works kind =
    straight-works (kind_code kind) (has_kind kind) refl
    (λ r. ap (λ b. Some (flag b ∷ [])) (same_number (letter_of r.kind) (letter_of kind)))

name-works : (case : Case) (scope : Scope) (texts : List (List ℕ))
    → Works (part_of (name_is case scope texts)) (means (name_is case scope texts))
unfolding cells_after
name-works case Basename texts = straight-works (code_of (name_is case Basename texts) 0) (means (name_is case Basename texts)) refl (λ r. refl)
name-works case Wholename texts = straight-works (code_of (name_is case Wholename texts) 0) (means (name_is case Wholename texts)) refl (λ r. refl)

match-works : (pattern : PatternData) → Works (part_of (matches pattern)) (means (matches pattern))
unfolding cells_after
match-works pattern = at (scope_with pattern.flags)
  where
    at : (scope : Scope)
        → Works (straight (plain (scope_op scope) ∷ fitting pattern ∷ [])) (λ r. fits pattern (part_of_name scope r.name))
    at Basename = straight-works _ _ refl (λ r. refl)
    at Wholename = straight-works _ _ refl (λ r. refl)

suffix-works : (texts : List (List ℕ)) → Works (part_of (suffix_is texts)) (means (suffix_is texts))
unfolding cells_after
suffix-works texts =
    straight-works (code_of (suffix_is texts) 0) (means (suffix_is texts)) refl
    (λ r. ap (λ b. Some (flag b ∷ [])) (without_empty texts (suffix_of r.name)))

depth-works : (case : Case) (dir : List ℕ) (relation : Relation) (n : ℤ)
    → Works (straight (depth_code case dir relation n)) (λ r. compares relation (depth_of case dir r.name) n)
unfolding cells_after
depth-works case dir relation n = straight-works (depth_code case dir relation n) (λ r. compares relation (depth_of case dir r.name) n) refl (λ r. refl)

since-works : (point : Since) → Works (part_of (since point)) (means (since point))
unfolding cells_after
since-works (Observed Fresh) = straight-works _ _ refl (λ r. refl)
since-works (Observed (Tick tick)) = straight-works _ _ refl (λ r. refl)
since-works (Observed (Second second)) = straight-works _ _ refl (λ r. refl)
since-works (Created Fresh) = straight-works _ _ refl (λ r. refl)
since-works (Created (Tick tick)) = straight-works _ _ refl (λ r. refl)
since-works (Created (Second second)) = straight-works _ _ refl (λ r. refl)
since-works (Modified second) = straight-works _ _ refl (λ r. refl)

-- ---- terms with parts

sized-works : (relation : Relation) (n : ℤ) → Works (part_of (size_is relation n)) (means (size_is relation n))
sized-works relation n =
    works-as (part_of (size_is relation n)) _ (means (size_is relation n))
    (joined-works false (straight (plain Exists ∷ []) ∷ straight (size_code relation n) ∷ [])
    ((λ r. r.exists) ∷ (λ r. compares relation r.size n) ∷ []) (exists-works, (size-works relation n, tt)))
    (λ r. and_first r.exists (compares relation r.size n))

plain_kind-works : Works plain_kind (together true (has_kind File ∷ has_kind Dir ∷ []))
plain_kind-works =
    joined-works true (straight (kind_code File) ∷ straight (kind_code Dir) ∷ []) (has_kind File ∷ has_kind Dir ∷ [])
    (kind-works File, (kind-works Dir, tt))

empty-works : Works (part_of empty) (means empty)
empty-works =
    works-as (part_of empty) _ (means empty)
    (joined-works false (straight (plain Exists ∷ []) ∷ plain_kind ∷ straight (size_code Eq (pos 0)) ∷ [])
    ((λ r. r.exists) ∷ together true (has_kind File ∷ has_kind Dir ∷ []) ∷ (λ r. compares Eq r.size (pos 0)) ∷ [])
    (exists-works, (plain_kind-works, (size-works Eq (pos 0), tt))))
    (λ r. three r.exists (has_kind File r) (has_kind Dir r) (int_eq r.size (pos 0)))
  where
    three : (exists file dir size : Bool)
        → (if beq exists false then exists else if beq (if beq file true then file else dir) false then (if beq file true then file else dir) else size)
        ≡ (exists && (file || dir) && size)
    three false file dir size = refl
    three true false false size = refl
    three true false true size = refl
    three true true dir size = refl

below-works : (case : Case) (dir : List ℕ) (depth : Depth) → Works (part_of (below case dir depth)) (means (below case dir depth))
below-works case dir Any =
    works-as (part_of (below case dir Any)) _ (means (below case dir Any)) (depth-works case dir Ge (pos 0))
    (λ r. depth-any (rest_below case dir r.name))
below-works case dir (Is relation n) =
    works-as (part_of (below case dir (Is relation n))) _ (means (below case dir (Is relation n)))
    (joined-works false (straight (depth_code case dir Ge (pos 0)) ∷ straight (depth_code case dir relation n) ∷ [])
    ((λ r. compares Ge (depth_of case dir r.name) (pos 0)) ∷ (λ r. compares relation (depth_of case dir r.name) n) ∷ [])
    (depth-works case dir Ge (pos 0), (depth-works case dir relation n, tt)))
    (λ r. and_first (compares Ge (depth_of case dir r.name) (pos 0)) (compares relation (depth_of case dir r.name) n)
    ∙ depth-is relation n (rest_below case dir r.name))

-- ---- lists of terms

-- the tests of some terms
abbrev pub tests_of : ExprsData → Tests
tests_of no_terms = []
tests_of (term t ts) = means t ∷ tests_of ts

-- those after the first
pub others-lens : (ts : ExprsData) → others_len (parts_of ts) ≡ terms_others_len ts
others-lens no_terms = refl
others-lens (term t ts) = ap (λ n. 2 + code_len t + n) (others-lens ts)

-- the terms of a list are as long as their parts together
pub lens : (ts : ExprsData) → joined_len (parts_of ts) ≡ terms_len ts
lens no_terms = refl
lens (term t ts) = ap (λ n. code_len t + n) (others-lens ts)

all-decided : (now : Bool) (ts : ExprsData) (r : RecordData) → decided false now (tests_of ts) r ≡ (now && every ts r)
all-decided false no_terms r = refl
all-decided true no_terms r = refl
all-decided false (term t ts) r = refl
all-decided true (term t ts) r = all-decided (means t r) ts r

any-decided : (now : Bool) (ts : ExprsData) (r : RecordData) → decided true now (tests_of ts) r ≡ (now || some ts r)
any-decided false no_terms r = refl
any-decided true no_terms r = refl
any-decided false (term t ts) r = any-decided (means t r) ts r
any-decided true (term t ts) r = refl

all-together : (ts : ExprsData) (r : RecordData) → together false (tests_of ts) r ≡ every ts r
all-together no_terms r = refl
all-together (term t ts) r = all-decided (means t r) ts r

any-together : (ts : ExprsData) (r : RecordData) → together true (tests_of ts) r ≡ some ts r
any-together no_terms r = refl
any-together (term t ts) r = any-decided (means t r) ts r

-- several terms work together
list-works : (stop : Bool) (ts : ExprsData) (test : RecordData → Bool) → AllWork (parts_of ts) (tests_of ts)
    → ((r : RecordData) → together stop (tests_of ts) r ≡ test r)
    → Works (record { len = terms_len ts; code = joined stop (parts_of ts) }) test
list-works stop ts test w same =
    works-as (record { len = terms_len ts; code = joined stop (parts_of ts) }) (together stop (tests_of ts)) test
    (subst (λ n. Works (record { len = n; code = joined stop (parts_of ts) }) (together stop (tests_of ts))) (lens ts)
    (joined-works stop (parts_of ts) (tests_of ts) w)) same

mutual
  -- the code of a term leaves the meaning of the term
  pub term-works : (t : ExprData) → Works (part_of t) (means t)
  term-works always = always-works
  term-works never = never-works
  term-works exists = exists-works
  term-works empty = empty-works
  term-works (kind_is kind) = kind-works kind
  term-works (name_is case scope texts) = name-works case scope texts
  term-works (matches pattern) = match-works pattern
  term-works (suffix_is texts) = suffix-works texts
  term-works (size_is relation n) = sized-works relation n
  term-works (since point) = since-works point
  term-works (below case dir depth) = below-works case dir depth
  term-works (negation t) = negation-works (part_of t) (means t) (term-works t)
  term-works (all_of ts) = list-works false ts (means (all_of ts)) (terms-work ts) (all-together ts)
  term-works (any_of ts) = list-works true ts (means (any_of ts)) (terms-work ts) (any-together ts)

  terms-work : (ts : ExprsData) → AllWork (parts_of ts) (tests_of ts)
  terms-work no_terms = tt
  terms-work (term t ts) = (term-works t, terms-work ts)
