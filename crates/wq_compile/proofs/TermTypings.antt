-- The code of each term is typed.
use Rattle.std.proofs.Common.{ℕ, Bool, true, false, List, [], ◌∷◌, ◌++◌, pos, refl, subst}
use Rattle.wq_base.specs.declared.compare.Case.{Case}
use Rattle.wq_base.specs.declared.compare.Case.TheVariants.{Folded}
use Rattle.wq_base.specs.declared.compare.Relation.TheVariants.{Eq, Ge}
use Rattle.wq_clock.specs.declared.bound.Bound.TheVariants.{Fresh, Tick, Second}
use Rattle.wq_glob.specs.Pattern.{PatternData}
use Rattle.wq_record.specs.declared.kind.Kind.TheVariants.{File, Dir}
use Rattle.wq_code.specs.declared.operation.Op.TheVariants.{Flag, Exists, Suffix}
use Rattle.wq_verify.specs.Kinds.{Kinds}
use Rattle.wq_term.specs.declared.expr.Depth.{Depth}
use Rattle.wq_term.specs.declared.expr.Depth.TheVariants.{Any, Is}
use Rattle.wq_term.specs.declared.expr.Scope.{Scope}
use Rattle.wq_term.specs.declared.expr.Scope.TheVariants.{Basename, Wholename}
use Rattle.wq_term.specs.declared.expr.Since.{Since}
use Rattle.wq_term.specs.declared.expr.Since.TheVariants.{Observed, Created, Modified}
use Rattle.wq_term.specs.CodeLength.{terms_len}
use Rattle.wq_term.specs.NameFit.{scope_with}
use Rattle.wq_term.specs.Expr.{ExprData, always, never, exists, empty, kind_is, name_is, matches}
use Rattle.wq_term.specs.Expr.{suffix_is, size_is, since, below, negation, all_of, any_of}
use Rattle.wq_term.specs.Expr.{ExprsData, no_terms, term}
use Rattle.wq_compile.specs.Instruction.{Instruction, plain, one_of, fitting}
use Rattle.wq_compile.specs.Code.{straight, joined, kind_code, size_code, scope_op, since_code}
use Rattle.wq_compile.specs.Code.{depth_code, filled, plain_kind, parts_of}
use Rattle.wq_compile.proofs.Meanings.{part_of, lens}
use Rattle.wq_compile.proofs.Typings.{kinds_before, IsTyped, AllTyped, straight-typed, joined-typed}
use Rattle.wq_compile.proofs.Typings.{joined_kinds, negation-typed, one_flag}

-- the kinds of code without jumps
abbrev pub straight_kinds : List Instruction → List Kinds
straight_kinds is = kinds_before is []

abbrev mutual
  -- the kinds of the cells at each place of a term's code
  pub term_kinds : ExprData → List Kinds
  term_kinds always = straight_kinds (plain (Flag true) ∷ [])
  term_kinds never = straight_kinds (plain (Flag false) ∷ [])
  term_kinds exists = straight_kinds (plain Exists ∷ [])
  term_kinds empty =
      joined_kinds
      (straight_kinds (plain Exists ∷ [])
      ∷ joined_kinds (straight_kinds (kind_code File) ∷ straight_kinds (kind_code Dir) ∷ [])
      ∷ straight_kinds (size_code Eq (pos 0)) ∷ [])
  term_kinds (kind_is kind) = straight_kinds (kind_code kind)
  term_kinds (name_is case scope texts) =
      straight_kinds (plain (scope_op scope) ∷ one_of case texts ∷ [])
  term_kinds (matches pattern) =
      straight_kinds (plain (scope_op (scope_with pattern.flags)) ∷ fitting pattern ∷ [])
  term_kinds (suffix_is texts) = straight_kinds (plain Suffix ∷ one_of Folded (filled texts) ∷ [])
  term_kinds (size_is relation n) =
      joined_kinds
      (straight_kinds (plain Exists ∷ []) ∷ straight_kinds (size_code relation n) ∷ [])
  term_kinds (since point) = straight_kinds (since_code point)
  term_kinds (below case dir Any) = straight_kinds (depth_code case dir Ge (pos 0))
  term_kinds (below case dir (Is relation n)) =
      joined_kinds
      (straight_kinds (depth_code case dir Ge (pos 0))
      ∷ straight_kinds (depth_code case dir relation n) ∷ [])
  term_kinds (negation t) = term_kinds t ++ one_flag ∷ []
  term_kinds (all_of ts) = joined_kinds (terms_kinds ts)
  term_kinds (any_of ts) = joined_kinds (terms_kinds ts)

  -- the same of the terms of a list
  pub terms_kinds : ExprsData → List (List Kinds)
  terms_kinds no_terms = []
  terms_kinds (term t ts) = term_kinds t ∷ terms_kinds ts

name-typed : (case : Case) (scope : Scope) (texts : List (List ℕ)) → IsTyped (part_of (name_is case scope texts)) (term_kinds (name_is case scope texts))
name-typed case Basename texts = straight-typed _ _ refl refl
name-typed case Wholename texts = straight-typed _ _ refl refl

match-typed : (pattern : PatternData) → IsTyped (part_of (matches pattern)) (term_kinds (matches pattern))
match-typed pattern = at (scope_with pattern.flags)
  where
    at : (scope : Scope)
        → IsTyped (straight (plain (scope_op scope) ∷ fitting pattern ∷ [])) (straight_kinds (plain (scope_op scope) ∷ fitting pattern ∷ []))
    at Basename = straight-typed _ _ refl refl
    at Wholename = straight-typed _ _ refl refl

since-typed : (point : Since) → IsTyped (part_of (since point)) (term_kinds (since point))
since-typed (Observed Fresh) = straight-typed _ _ refl refl
since-typed (Observed (Tick tick)) = straight-typed _ _ refl refl
since-typed (Observed (Second second)) = straight-typed _ _ refl refl
since-typed (Created Fresh) = straight-typed _ _ refl refl
since-typed (Created (Tick tick)) = straight-typed _ _ refl refl
since-typed (Created (Second second)) = straight-typed _ _ refl refl
since-typed (Modified second) = straight-typed _ _ refl refl

below-typed : (case : Case) (dir : List ℕ) (depth : Depth) → IsTyped (part_of (below case dir depth)) (term_kinds (below case dir depth))
below-typed case dir Any = straight-typed _ _ refl refl
below-typed case dir (Is relation n) =
    joined-typed false (straight (depth_code case dir Ge (pos 0)) ∷ straight (depth_code case dir relation n) ∷ [])
    (straight_kinds (depth_code case dir Ge (pos 0)) ∷ straight_kinds (depth_code case dir relation n) ∷ [])
    (straight-typed _ _ refl refl, (straight-typed _ _ refl refl, tt))

plain_kind-typed : IsTyped plain_kind (joined_kinds (straight_kinds (kind_code File) ∷ straight_kinds (kind_code Dir) ∷ []))
plain_kind-typed =
    joined-typed true (straight (kind_code File) ∷ straight (kind_code Dir) ∷ [])
    (straight_kinds (kind_code File) ∷ straight_kinds (kind_code Dir) ∷ [])
    (straight-typed _ _ refl refl, (straight-typed _ _ refl refl, tt))

list-typed : (stop : Bool) (ts : ExprsData) (all : List (List Kinds)) → AllTyped (parts_of ts) all
    → IsTyped (record { len = terms_len ts; code = joined stop (parts_of ts) }) (joined_kinds all)
list-typed stop ts all t =
    subst (λ n. IsTyped (record { len = n; code = joined stop (parts_of ts) }) (joined_kinds all)) (lens ts)
    (joined-typed stop (parts_of ts) all t)

mutual
  -- the code of a term is typed
  pub term-typed : (t : ExprData) → IsTyped (part_of t) (term_kinds t)
  term-typed always = straight-typed _ _ refl refl
  term-typed never = straight-typed _ _ refl refl
  term-typed exists = straight-typed _ _ refl refl
  term-typed empty =
      joined-typed false (straight (plain Exists ∷ []) ∷ plain_kind ∷ straight (size_code Eq (pos 0)) ∷ [])
      (straight_kinds (plain Exists ∷ [])
      ∷ joined_kinds (straight_kinds (kind_code File) ∷ straight_kinds (kind_code Dir) ∷ [])
      ∷ straight_kinds (size_code Eq (pos 0)) ∷ [])
      (straight-typed _ _ refl refl, (plain_kind-typed, (straight-typed _ _ refl refl, tt)))
  term-typed (kind_is kind) = straight-typed _ _ refl refl
  term-typed (name_is case scope texts) = name-typed case scope texts
  term-typed (matches pattern) = match-typed pattern
  term-typed (suffix_is texts) = straight-typed _ _ refl refl
  term-typed (size_is relation n) =
      joined-typed false (straight (plain Exists ∷ []) ∷ straight (size_code relation n) ∷ [])
      (straight_kinds (plain Exists ∷ []) ∷ straight_kinds (size_code relation n) ∷ [])
      (straight-typed _ _ refl refl, (straight-typed _ _ refl refl, tt))
  term-typed (since point) = since-typed point
  term-typed (below case dir depth) = below-typed case dir depth
  term-typed (negation t) = negation-typed (part_of t) (term_kinds t) (term-typed t)
  term-typed (all_of ts) = list-typed false ts (terms_kinds ts) (terms-typed ts)
  term-typed (any_of ts) = list-typed true ts (terms_kinds ts) (terms-typed ts)

  terms-typed : (ts : ExprsData) → AllTyped (parts_of ts) (terms_kinds ts)
  terms-typed no_terms = tt
  terms-typed (term t ts) = (term-typed t, terms-typed ts)
