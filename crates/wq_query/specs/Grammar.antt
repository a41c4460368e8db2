-- The grammar of queries: by which JSON values each of them may be written.
-- The keys are those of Watchman's documentation of file queries.
use Rattle.std.specs.Prelude.{ℕ, ℤ, pos, negsuc, ◌≡◌, ◌≤◌, ◌⊎◌, false, true, List, [], ◌∷◌, codes}
use Rattle.std.specs.Prelude.{Bool, length, Option, Some, None}
use Rattle.std.specs.Option.{MatchOption}
use Rattle.std.specs.List.{AllByRecursion}
use Rattle.serde_json.specs.Data.{Data, boolean, string, array}
use Rattle.serde_json.specs.Data.{Items, no_items, item}
use Rattle.serde_json.specs.Find.{get}
use Rattle.wq_base.specs.Limit.{max_number}
use Rattle.wq_clock.specs.Instance.{InstanceData}
use Rattle.wq_clock.specs.ClockSpec.{named_cursor}
use Rattle.wq_clock.specs.Spelling.{IsClockSpelling}
use Rattle.wq_clock.specs.declared.bound.Bound.TheVariants.{Fresh}
use Rattle.wq_term.specs.declared.generators.PathGen.{PathGen}
use Rattle.wq_glob.specs.Limit.{max_pattern_length}
use Rattle.wq_glob.specs.Pattern.{PatternData}
use Rattle.wq_glob.specs.declared.flag.Flags.{Flags}
use Rattle.wq_term.specs.Limit.{max_depth}
use Rattle.wq_term.specs.Expr.{ExprData, always, depth_of}
use Rattle.wq_term.specs.Grammar.{IsWrittenBy as IsTermWrittenBy}
use Rattle.wq_term.specs.ArgumentGrammar.{AreTexts, IsBetween, IsDirectory, IsWord}
use Rattle.wq_term.specs.ArgumentGrammar.{IsWhole, IsBound}
use Rattle.wq_query.specs.declared.field.Field.{Field}
use Rattle.wq_query.specs.Field.{field_name, default_fields}
use Rattle.wq_query.specs.Glob.{glob_flags}
use Rattle.wq_query.specs.Query.{QueryData, SinceData, at_bound, at_cursor}
use Rattle.wq_query.specs.Reading.{left_out_keys}

-- an expression that is not too deep
abbrev pub IsExpression : InstanceData → ExprData → Data → Type 0
IsExpression instance t d = IsTermWrittenBy instance t d × (depth_of t ≤ max_depth)

-- fields by their names, one after the other
abbrev pub AreNamed : List Field → Items → Type 0
AreNamed [] no_items = Unit {0}
AreNamed (field ∷ fields) (item d ds) = IsWord (field_name field) d × AreNamed fields ds
AreNamed _ _ = ⊥

-- a list of fields, of which there is one at least
abbrev pub AreFields : List Field → Data → Type 0
AreFields (field ∷ fields) (array ds) = AreNamed (field ∷ fields) ds
AreFields _ _ = ⊥

-- texts: they are in a list, or there is one
abbrev pub AreSuffixes : Option (List (List ℕ)) → Data → Type 0
AreSuffixes (Some texts) d = AreTexts texts d
AreSuffixes None d = ⊥

-- a path, with slashes at its end or not: a text, which is without limit, or an object with a depth
-- from -1 to 2^62
abbrev pub IsPath : PathGen → Data → Type 0
IsPath p (string text) = IsDirectory p.path (string text) × (p.depth ≡ negsuc 0)
IsPath p d =
    MatchOption (get (codes "path") d) ⊥ (IsDirectory p.path)
    × MatchOption (get (codes "depth") d) ⊥ (IsBetween (negsuc 0) (pos max_number) p.depth)

-- paths, one after the other
abbrev pub ListPaths : List PathGen → Items → Type 0
ListPaths [] no_items = Unit {0}
ListPaths (p ∷ ps) (item d ds) = IsPath p d × ListPaths ps ds
ListPaths _ _ = ⊥

-- a list of paths
abbrev pub ArePaths : Option (List PathGen) → Data → Type 0
ArePaths (Some paths) (array ds) = ListPaths paths ds
ArePaths _ _ = ⊥

-- a pattern: a text of at most 255 bytes
abbrev pub IsGlob : Flags → PatternData → Data → Type 0
IsGlob flags p d =
    (d ≡ string p.text) × (length p.text ≤ max_pattern_length) × (p.flags ≡ flags)

-- patterns, one after the other
abbrev pub ListGlobs : Flags → List PatternData → Items → Type 0
ListGlobs flags [] no_items = Unit {0}
ListGlobs flags (p ∷ ps) (item d ds) = IsGlob flags p d × ListGlobs flags ps ds
ListGlobs flags _ _ = ⊥

-- a list of patterns
abbrev pub AreGlobs : Flags → Option (List PatternData) → Data → Type 0
AreGlobs flags (Some patterns) (array ds) = ListGlobs flags patterns ds
AreGlobs flags _ _ = ⊥

-- a cursor: its name, of 1 to 255 bytes, follows `n:`
abbrev pub IsCursor : List ℕ → Data → Type 0
IsCursor name (string text) = IsClockSpelling (named_cursor name) text
IsCursor name _ = ⊥

-- the point from which changes are asked for: a bound, or a cursor
abbrev pub IsSinceKey : InstanceData → SinceData → Data → Type 0
IsSinceKey instance (at_bound bound) d = IsBound instance bound d
IsSinceKey instance (at_cursor name) d = IsCursor name d

-- the name of a program, which is any text
abbrev pub IsProgram : Option (List ℕ) → Data → Type 0
IsProgram (Some name) d = IsWord name d
IsProgram None d = ⊥

-- the query is written by this value, at this instance. Each key is missing, and then the first
-- thing holds, or it is there, and the second holds of its value
pub record IsWrittenBy (instance : InstanceData) (query : QueryData) (d : Data) : Type 0 where
  -- no key that would change the answer otherwise
  pub none_left_out : AllByRecursion (λ key. get key d ≡ None) left_out_keys
  -- names are compared byte by byte
  pub case_sensitive : MatchOption (get (codes "case_sensitive") d)
      (Unit {0}) (λ value. value ≡ boolean true)
  -- an expression and a program are not there together
  pub one_at_most : (get (codes "expression") d ≡ None) ⊎ (get (codes "program") d ≡ None)
  -- every file, or those that an expression matches
  pub expression : MatchOption (get (codes "expression") d)
      (query.expression ≡ always) (IsExpression instance query.expression)
  -- no program, or the one of a name
  pub program : MatchOption (get (codes "program") d)
      (query.program ≡ None) (IsProgram query.program)
  -- the default fields, or others
  pub fields : MatchOption (get (codes "fields") d)
      (query.fields ≡ default_fields) (AreFields query.fields)
  -- files of every suffix, or those with some
  pub suffix : MatchOption (get (codes "suffix") d) (query.suffix ≡ None) (AreSuffixes query.suffix)
  -- files at every path, or those at some
  pub path : MatchOption (get (codes "path") d) (query.path ≡ None) (ArePaths query.path)
  -- files of every name, or those that fit some patterns
  pub glob : MatchOption (get (codes "glob") d) (query.glob ≡ None)
      (AreGlobs (glob_flags (get (codes "glob_includedotfiles") d)) query.glob)
  -- nothing is known to the client, or a bound, or a cursor
  pub since : MatchOption (get (codes "since") d)
      (query.since ≡ at_bound Fresh) (IsSinceKey instance query.since)
  -- a fresh list has all files, or is empty
  pub empty_on_fresh_instance : MatchOption (get (codes "empty_on_fresh_instance") d)
      ((query.options).empty_on_fresh_instance ≡ false)
      (λ value. value ≡ boolean (query.options).empty_on_fresh_instance)
  -- patterns take dots at the front of names, or do not
  pub glob_includedotfiles : MatchOption (get (codes "glob_includedotfiles") d)
      (Unit {0}) (λ value. (b : Bool) × (value ≡ boolean b))
  -- any whole number, which changes nothing here
  pub sync_timeout : MatchOption (get (codes "sync_timeout") d)
      (Unit {0}) (λ value. (n : ℤ) × IsWhole n value)
