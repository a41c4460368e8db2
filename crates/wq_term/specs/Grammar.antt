-- The grammar of expressions: by which JSON values each of them may be written.
-- The forms of the terms are those of Watchman's documentation of file queries.
use Rattle.std.specs.Prelude.{◌≡◌, if◌then◌else◌}
use Rattle.serde_json.specs.Data.{Data, string, array, Items, no_items, item}
use Rattle.wq_clock.specs.Instance.{InstanceData}
use Rattle.wq_base.specs.declared.compare.Case.{Case}
use Rattle.wq_base.specs.declared.compare.Case.TheVariants.{Exact, Folded}
use Rattle.wq_term.specs.declared.expr.Depth.TheVariants.{Any}
use Rattle.wq_term.specs.declared.expr.Scope.TheVariants.{Basename}
use Rattle.wq_term.specs.declared.expr.Since.{Since as SinceData}
use Rattle.wq_term.specs.declared.expr.Since.TheVariants.{Observed, Created, Modified}
use Rattle.wq_term.specs.declared.head.Head.{Head}
use Rattle.wq_term.specs.declared.head.Head.TheVariants.{True, False, Exists, Empty, KindIs}
use Rattle.wq_term.specs.declared.head.Head.TheVariants.{Name, Iname, Match, Imatch, Suffix}
use Rattle.wq_term.specs.declared.head.Head.TheVariants.{Size, Since, Dirname, Idirname}
use Rattle.wq_term.specs.declared.head.Head.TheVariants.{Not, AllOf, AnyOf}
use Rattle.wq_term.specs.declared.parser.word.SinceField.{SinceField}
use Rattle.wq_term.specs.declared.parser.word.SinceField.TheVariants.{Oclock, Cclock, Mtime}
use Rattle.wq_term.specs.Expr.{ExprData, always, never, exists, empty, kind_is, name_is, matches}
use Rattle.wq_term.specs.Expr.{suffix_is, size_is, since, below, negation, all_of, any_of}
use Rattle.wq_term.specs.Expr.{ExprsData, no_terms, term}
use Rattle.wq_term.specs.Head.{head_name}
use Rattle.wq_term.specs.Word.{scope_name, since_field_name}
use Rattle.wq_term.specs.ArgumentGrammar.{IsWord, AreTexts, IsSecond, IsKind, IsComparison, IsDepth}
use Rattle.wq_term.specs.ArgumentGrammar.{IsDirectory, IsBound, IsPattern}

-- the list of a name and such arguments after it, or the bare name if there need be none
abbrev pub IsTerm : Head → (Items → Type 0) → Data → Type 0
IsTerm head Arguments (string name) = (name ≡ head_name head) × Arguments no_items
IsTerm head Arguments (array (item (string name) ds)) = (name ≡ head_name head) × Arguments ds
IsTerm head Arguments _ = ⊥

-- no arguments
abbrev pub IsNothing : Items → Type 0
IsNothing no_items = Unit {0}
IsNothing _ = ⊥

-- one such argument
abbrev pub IsOnly : (Data → Type 0) → Items → Type 0
IsOnly First (item d no_items) = First d
IsOnly First _ = ⊥

-- one such argument, and one after it, which may be left out if it is the default
abbrev pub IsOneOrTwo : (Data → Type 0) → Type 0 → (Data → Type 0) → Items → Type 0
IsOneOrTwo First IsDefault Second (item d no_items) = First d × IsDefault
IsOneOrTwo First IsDefault Second (item d (item e no_items)) = First d × Second e
IsOneOrTwo First IsDefault Second _ = ⊥

-- a name for each letter case
abbrev pub in_case : Case → Head → Head → Head
in_case Exact exact folded = exact
in_case Folded exact folded = folded

-- the arguments of `since` with this field: a point, and the field, which is `oclock` by default
abbrev pub IsSinceBy : SinceField → (Data → Type 0) → Items → Type 0
IsSinceBy field Point ds = IsOneOrTwo Point (field ≡ Oclock) (IsWord (since_field_name field)) ds

-- the arguments of `since`
abbrev pub IsSince : InstanceData → SinceData → Items → Type 0
IsSince instance (Observed bound) ds = IsSinceBy Oclock (IsBound instance bound) ds
IsSince instance (Created bound) ds = IsSinceBy Cclock (IsBound instance bound) ds
IsSince instance (Modified second) ds = IsSinceBy Mtime (IsSecond second) ds

abbrev mutual
  -- the term is written by this value, at this instance
  pub IsWrittenBy : InstanceData → ExprData → Data → Type 0
  IsWrittenBy instance always d = IsTerm True IsNothing d
  IsWrittenBy instance never d = IsTerm False IsNothing d
  IsWrittenBy instance exists d = IsTerm Exists IsNothing d
  IsWrittenBy instance empty d = IsTerm Empty IsNothing d
  IsWrittenBy instance (kind_is kind) d = IsTerm KindIs (IsOnly (IsKind kind)) d
  IsWrittenBy instance (name_is case scope texts) d =
      IsTerm (in_case case Name Iname)
      (IsOneOrTwo (AreTexts texts) (scope ≡ Basename) (IsWord (scope_name scope))) d
  IsWrittenBy instance (matches pattern) d =
      IsTerm (if (pattern.flags).fold then Imatch else Match) (IsPattern pattern) d
  IsWrittenBy instance (suffix_is texts) d = IsTerm Suffix (IsOnly (AreTexts texts)) d
  IsWrittenBy instance (size_is relation n) d = IsTerm Size (IsComparison relation n) d
  IsWrittenBy instance (since point) d = IsTerm Since (IsSince instance point) d
  IsWrittenBy instance (below case dir depth) d =
      IsTerm (in_case case Dirname Idirname)
      (IsOneOrTwo (IsDirectory dir) (depth ≡ Any) (IsDepth depth)) d
  IsWrittenBy instance (negation t) d = IsTerm Not (IsOnly (IsWrittenBy instance t)) d
  IsWrittenBy instance (all_of ts) d = IsTerm AllOf (AreWrittenBy instance ts) d
  IsWrittenBy instance (any_of ts) d = IsTerm AnyOf (AreWrittenBy instance ts) d

  -- the terms are written by these values, one by each
  pub AreWrittenBy : InstanceData → ExprsData → Items → Type 0
  AreWrittenBy instance no_terms no_items = Unit {0}
  AreWrittenBy instance (term t ts) (item d ds) =
      IsWrittenBy instance t d × AreWrittenBy instance ts ds
  AreWrittenBy instance _ _ = ⊥
