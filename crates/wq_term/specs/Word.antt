-- The words that terms take as arguments: letters of kinds, scopes, relations, fields.
-- From Watchman's documentation of the terms `type`, `name`, `size` and `since`.
use Rattle.std.specs.Prelude.{ℕ, List, [], ◌∷◌, codes, Option}
use Rattle.wq_base.specs.Table.{named}
use Rattle.wq_record.specs.declared.kind.Kind.{Kind}
use Rattle.wq_record.specs.declared.kind.Kind.TheVariants.{File, Dir, Link, Block, Char}
use Rattle.wq_record.specs.declared.kind.Kind.TheVariants.{Fifo, Socket, Door}
use Rattle.wq_record.specs.Kind.{letter_of}
use Rattle.wq_base.specs.declared.compare.Relation.{Relation}
use Rattle.wq_base.specs.declared.compare.Relation.TheVariants.{Eq, Ne, Gt, Ge, Lt, Le}
use Rattle.wq_term.specs.declared.expr.Scope.{Scope}
use Rattle.wq_term.specs.declared.expr.Scope.TheVariants.{Basename, Wholename}
use Rattle.wq_term.specs.declared.parser.word.SinceField.{SinceField}
use Rattle.wq_term.specs.declared.parser.word.SinceField.TheVariants.{Oclock, Cclock, Mtime}

-- the name of a kind in `type`: its letter
abbrev pub kind_name : Kind → List ℕ
kind_name kind = letter_of kind ∷ []

-- the kinds that `type` asks for, which are all but the unknown one
abbrev pub kinds : List Kind
kinds = Block ∷ Char ∷ Dir ∷ File ∷ Fifo ∷ Link ∷ Socket ∷ Door ∷ []

-- the kind that a letter names
unfoldable pub kind_named : List ℕ → Option Kind
kind_named letter = named kind_name kinds letter

-- the name of a scope
abbrev pub scope_name : Scope → List ℕ
scope_name Basename = codes "basename"
scope_name Wholename = codes "wholename"

-- all scopes
abbrev pub scopes : List Scope
scopes = Basename ∷ Wholename ∷ []

-- the part of a name that a word names
unfoldable pub scope_named : List ℕ → Option Scope
scope_named word = named scope_name scopes word

-- the name of a relation
abbrev pub relation_name : Relation → List ℕ
relation_name Eq = codes "eq"
relation_name Ne = codes "ne"
relation_name Gt = codes "gt"
relation_name Ge = codes "ge"
relation_name Lt = codes "lt"
relation_name Le = codes "le"

-- all relations
abbrev pub relations : List Relation
relations = Eq ∷ Ne ∷ Gt ∷ Ge ∷ Lt ∷ Le ∷ []

-- the relation of two numbers that a word names
unfoldable pub relation_named : List ℕ → Option Relation
relation_named word = named relation_name relations word

-- the name of the field that `since` compares
abbrev pub since_field_name : SinceField → List ℕ
since_field_name Oclock = codes "oclock"
since_field_name Cclock = codes "cclock"
since_field_name Mtime = codes "mtime"

-- all fields that `since` compares
abbrev pub since_fields : List SinceField
since_fields = Oclock ∷ Cclock ∷ Mtime ∷ []

-- the field that `since` compares, by the word that names it
unfoldable pub since_field_named : List ℕ → Option SinceField
since_field_named word = named since_field_name since_fields word
