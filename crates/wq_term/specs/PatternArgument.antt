-- The meaning of the arguments of `match` and `imatch` besides the pattern: its scope and its
-- flags. From Watchman's documentation of these terms.
use Rattle.std.specs.Prelude.{ℕ, Bool, true, false, ◌&&◌, ◌||◌, List, bytes_eq, codes}
use Rattle.std.specs.Prelude.{if◌then◌else◌, Option, Some, None, option_and_then}
use Rattle.serde_json.specs.Data.{Data, boolean, object, Members, no_members, member}
use Rattle.serde_json.specs.Find.{get, as_bool}
use Rattle.wq_base.specs.Fault.{is_true}
use Rattle.wq_glob.specs.declared.flag.Flags.{Flags}
use Rattle.wq_base.specs.declared.compare.Case.{Case}
use Rattle.wq_base.specs.declared.compare.Case.TheVariants.{Exact, Folded}
use Rattle.wq_term.specs.declared.expr.Scope.{Scope}
use Rattle.wq_term.specs.declared.expr.Scope.TheVariants.{Basename, Wholename}

-- a member that is one of the two flags, and true or false
abbrev pub is_flag : List ℕ → Data → Bool
is_flag key (boolean b) = bytes_eq key (codes "includedotfiles") || bytes_eq key (codes "noescape")
is_flag key _ = false

-- each member is a flag
abbrev pub are_flags : Members → Bool
are_flags no_members = true
are_flags (member key d ms) = is_flag key d && are_flags ms

-- whether an object has this flag, and it is true
abbrev pub is_set : List ℕ → Data → Bool
is_set key d = is_true (option_and_then as_bool (get key d))

-- letters are folded
abbrev pub is_folded : Case → Bool
is_folded Exact = false
is_folded Folded = true

-- the whole name is meant
abbrev pub is_whole_name : Scope → Bool
is_whole_name Basename = false
is_whole_name Wholename = true

-- the flags of a pattern in a term of this case and scope, if it is given none
abbrev pub plain_flags : Case → Scope → Flags
plain_flags case scope = record {
  wholename = is_whole_name scope;
  dotfiles = false;
  noescape = false;
  fold = is_folded case;
}

-- the same with those that an object of flags sets
abbrev pub with_flags : Flags → Data → Flags
with_flags flags d = record flags {
  dotfiles = is_set (codes "includedotfiles") d;
  noescape = is_set (codes "noescape") d;
}

-- the same, unless it is no object of flags
abbrev pub flags_of : Flags → Data → Option Flags
flags_of flags (object ms) = if are_flags ms then Some (with_flags flags (object ms)) else None
flags_of flags _ = None
