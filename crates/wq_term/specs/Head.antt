-- The names of terms, which head an expression in JSON.
-- From Watchman's documentation of file queries.
use Rattle.std.specs.Prelude.{ℕ, List, [], ◌∷◌, codes, Option}
use Rattle.wq_base.specs.Table.{named}
use Rattle.wq_term.specs.declared.head.Head.{Head}
use Rattle.wq_term.specs.declared.head.Head.TheVariants.{True, False, Exists, Empty, KindIs}
use Rattle.wq_term.specs.declared.head.Head.TheVariants.{Name, Iname, Match, Imatch, Suffix}
use Rattle.wq_term.specs.declared.head.Head.TheVariants.{Size, Since, Dirname, Idirname}
use Rattle.wq_term.specs.declared.head.Head.TheVariants.{Not, AllOf, AnyOf}

-- the name of a term
abbrev pub head_name : Head → List ℕ
head_name True = codes "true"
head_name False = codes "false"
head_name Exists = codes "exists"
head_name Empty = codes "empty"
head_name KindIs = codes "type"
head_name Name = codes "name"
head_name Iname = codes "iname"
head_name Match = codes "match"
head_name Imatch = codes "imatch"
head_name Suffix = codes "suffix"
head_name Size = codes "size"
head_name Since = codes "since"
head_name Dirname = codes "dirname"
head_name Idirname = codes "idirname"
head_name Not = codes "not"
head_name AllOf = codes "allof"
head_name AnyOf = codes "anyof"

-- the heads of all terms
abbrev pub heads : List Head
heads =
    True ∷ False ∷ Exists ∷ Empty ∷ KindIs ∷ Name ∷ Iname ∷ Match ∷ Imatch ∷ Suffix
    ∷ Size ∷ Since ∷ Dirname ∷ Idirname ∷ Not ∷ AllOf ∷ AnyOf ∷ []

-- the term that a text names
unfoldable pub head_named : List ℕ → Option Head
head_named text = named head_name heads text
