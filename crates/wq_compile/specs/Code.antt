-- The code of an expression, which leaves one flag on an empty stack: whether the record matches.
-- This server's own. If a list has several terms, a jump leaves it at the first that decides.
use Rattle.std.specs.Prelude.{ℕ, ◌+◌, ℤ, pos, Bool, true, false, not, ◌==◌}
use Rattle.std.specs.Prelude.{List, [], ◌∷◌, ◌++◌, length}
use Rattle.std.specs.List.{filter}
use Rattle.wq_base.specs.declared.compare.Case.{Case}
use Rattle.wq_base.specs.declared.compare.Case.TheVariants.{Folded}
use Rattle.wq_base.specs.declared.compare.Relation.{Relation}
use Rattle.wq_base.specs.declared.compare.Relation.TheVariants.{Eq, Gt, Ge}
use Rattle.wq_clock.specs.declared.bound.Bound.{Bound}
use Rattle.wq_clock.specs.declared.bound.Bound.TheVariants.{Fresh, Tick, Second}
use Rattle.wq_record.specs.Kind.{letter_of}
use Rattle.wq_record.specs.declared.kind.Kind.{Kind as FileKind}
use Rattle.wq_record.specs.declared.kind.Kind.TheVariants.{File, Dir}
use Rattle.wq_code.specs.declared.operation.Op.{Op}
use Rattle.wq_code.specs.declared.operation.Op.TheVariants.{Flag, WholeName, BaseName, Suffix, Size}
use Rattle.wq_code.specs.declared.operation.Op.TheVariants.{Mtime, Oclock, Cclock, Osec, Csec, Kind}
use Rattle.wq_code.specs.declared.operation.Op.TheVariants.{Exists, Compare, Depth, Not, Drop}
use Rattle.wq_code.specs.declared.operation.Op.TheVariants.{JumpIfNot, JumpIf, Return}
use Rattle.wq_code.specs.declared.raw.Raw.{Raw}
use Rattle.wq_term.specs.declared.expr.Scope.{Scope}
use Rattle.wq_term.specs.declared.expr.Scope.TheVariants.{Basename, Wholename}
use Rattle.wq_term.specs.declared.expr.Depth.{Depth as DepthData}
use Rattle.wq_term.specs.declared.expr.Depth.TheVariants.{Any, Is}
use Rattle.wq_term.specs.declared.expr.Since.{Since}
use Rattle.wq_term.specs.declared.expr.Since.TheVariants.{Observed, Created, Modified}
use Rattle.wq_term.specs.CodeLength.{code_len}
use Rattle.wq_term.specs.NameFit.{scope_with}
use Rattle.wq_term.specs.Expr.{ExprData, always, never, exists, empty, kind_is, name_is, matches}
use Rattle.wq_term.specs.Expr.{suffix_is, size_is, since, below, negation, all_of, any_of}
use Rattle.wq_term.specs.Expr.{ExprsData, no_terms, term}
use Rattle.wq_compile.specs.Instruction.{Instruction, plain, number, text, one_of, fitting}
use Rattle.wq_compile.specs.Instruction.{put_all, blank}

-- a part of some code: its length, and its instructions when it begins at a place
pub record Part : Type 0 where
  pub len : ℕ
  pub code : ℕ → List Instruction

-- a part without jumps, which is the same at each place
abbrev pub straight : List Instruction → Part
straight is = record { len = length is; code = λ at. is }

-- the jump that is taken if the flag on top is this one
abbrev pub jump_if : Bool → ℕ → Op
jump_if false end = JumpIfNot end
jump_if true end = JumpIf end

-- how long the parts after the first are, each with a jump and a `drop` before it
abbrev pub others_len : List Part → ℕ
others_len [] = 0
others_len (p ∷ ps) = 2 + p.len + others_len ps

-- the parts after the first, until one of them leaves the flag that decides
abbrev pub others : Bool → ℕ → List Part → ℕ → List Instruction
others flag end [] at = []
others flag end (p ∷ ps) at =
    plain (jump_if flag end) ∷ plain Drop ∷ p.code (2 + at)
    ++ others flag end ps (2 + at + p.len)

-- several parts, of which the first that leaves this flag decides; the other flag if there is none
abbrev pub joined : Bool → List Part → ℕ → List Instruction
joined flag [] at = plain (Flag (not flag)) ∷ []
joined flag (p ∷ ps) at = p.code at ++ others flag (at + p.len + others_len ps) ps (at + p.len)

-- whether the file is of a kind
abbrev pub kind_code : FileKind → List Instruction
kind_code kind = plain Kind ∷ number (pos (letter_of kind)) ∷ plain (Compare Eq) ∷ []

-- how the size compares to a number
abbrev pub size_code : Relation → ℤ → List Instruction
size_code relation n = plain Size ∷ number n ∷ plain (Compare relation) ∷ []

-- the part of the name that a scope asks for
abbrev pub scope_op : Scope → Op
scope_op Basename = BaseName
scope_op Wholename = WholeName

-- whether a number of the record is greater than a point
abbrev pub later_code : Op → ℤ → List Instruction
later_code op n = plain op ∷ number n ∷ plain (Compare Gt) ∷ []

-- whether a tick or a second lies after a bound
abbrev pub bound_code : Op → Op → Bound → List Instruction
bound_code tick_op second_op Fresh = plain Exists ∷ []
bound_code tick_op second_op (Tick tick) = later_code tick_op (pos tick)
bound_code tick_op second_op (Second second) = later_code second_op second

-- `since`
abbrev pub since_code : Since → List Instruction
since_code (Observed bound) = bound_code Oclock Osec bound
since_code (Created bound) = bound_code Cclock Csec bound
since_code (Modified second) = later_code Mtime second

-- how deep the file lies below a directory, against a number
abbrev pub depth_code : Case → List ℕ → Relation → ℤ → List Instruction
depth_code case dir relation n =
    plain WholeName ∷ text dir ∷ plain (Depth case) ∷ number n ∷ plain (Compare relation) ∷ []

-- `dirname`: at all, and then at this depth
abbrev pub below_code : Case → List ℕ → DepthData → ℕ → List Instruction
below_code case dir Any at = depth_code case dir Ge (pos 0)
below_code case dir (Is relation n) at =
    joined false
    (straight (depth_code case dir Ge (pos 0)) ∷ straight (depth_code case dir relation n) ∷ []) at

-- the texts that are not empty
abbrev pub filled : List (List ℕ) → List (List ℕ)
filled texts = filter (λ bytes. not (length bytes == 0)) texts

-- a regular file or a directory
abbrev pub plain_kind : Part
plain_kind = record {
  len = 8;
  code = joined true (straight (kind_code File) ∷ straight (kind_code Dir) ∷ []);
}

abbrev mutual
  -- the code of a term that begins at a place
  pub code_of : ExprData → ℕ → List Instruction
  code_of always at = plain (Flag true) ∷ []
  code_of never at = plain (Flag false) ∷ []
  code_of exists at = plain Exists ∷ []
  code_of empty at =
      joined false
      (straight (plain Exists ∷ []) ∷ plain_kind ∷ straight (size_code Eq (pos 0)) ∷ []) at
  code_of (kind_is kind) at = kind_code kind
  code_of (name_is case scope texts) at = plain (scope_op scope) ∷ one_of case texts ∷ []
  code_of (matches pattern) at =
      plain (scope_op (scope_with pattern.flags)) ∷ fitting pattern ∷ []
  code_of (suffix_is texts) at = plain Suffix ∷ one_of Folded (filled texts) ∷ []
  code_of (size_is relation n) at =
      joined false (straight (plain Exists ∷ []) ∷ straight (size_code relation n) ∷ []) at
  code_of (since point) at = since_code point
  code_of (below case dir depth) at = below_code case dir depth at
  code_of (negation t) at = code_of t at ++ plain Not ∷ []
  code_of (all_of ts) at = joined false (parts_of ts) at
  code_of (any_of ts) at = joined true (parts_of ts) at

  -- the parts of a list of terms
  pub parts_of : ExprsData → List Part
  parts_of no_terms = []
  parts_of (term t ts) = record { len = code_len t; code = code_of t } ∷ parts_of ts

-- the program of an expression: its code, and then the end
unfoldable pub program_of : ExprData → Raw
program_of t = put_all (code_of t 0 ++ plain Return ∷ []) blank
