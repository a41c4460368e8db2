-- The grammar of the arguments of terms: by which JSON values each of them may be written.
-- From Watchman's documentation of the expression terms; the limits are this server's own.
use Rattle.std.specs.Prelude.{ℕ, ℤ, pos, neg_ℤ, ◌≡◌, ◌≢◌, ◌≤◌, ◌≤ℤ◌, ◌⊎◌, ◌↔◌, Bool, true, false}
use Rattle.std.specs.Prelude.{List, [], ◌∷◌, ◌++◌, length, codes, Some}
use Rattle.std.specs.List.{repeat, suffix_len}
use Rattle.serde_json.specs.Data.{Data, boolean, number, string, array, object}
use Rattle.serde_json.specs.Data.{Items, no_items, item, Members, no_members, member}
use Rattle.serde_json.specs.Find.{as_integer, get_member}
use Rattle.wq_base.specs.Byte.{is_slash}
use Rattle.wq_base.specs.Limit.{max_number}
use Rattle.wq_clock.specs.Instance.{InstanceData}
use Rattle.wq_clock.specs.ClockSpec.{SpecData}
use Rattle.wq_clock.specs.Spelling.{IsClockSpelling}
use Rattle.wq_clock.specs.Bound.{bound_of}
use Rattle.wq_clock.specs.declared.bound.Bound.{Bound}
use Rattle.wq_clock.specs.declared.bound.Bound.TheVariants.{Second}
use Rattle.wq_record.specs.declared.kind.Kind.{Kind}
use Rattle.wq_record.specs.declared.kind.Kind.TheVariants.{Unknown}
use Rattle.wq_glob.specs.Limit.{max_pattern_length}
use Rattle.wq_glob.specs.Pattern.{PatternData}
use Rattle.wq_glob.specs.declared.flag.Flags.{Flags}
use Rattle.wq_term.specs.declared.expr.Depth.{Depth}
use Rattle.wq_term.specs.declared.expr.Depth.TheVariants.{Is}
use Rattle.wq_base.specs.declared.compare.Relation.{Relation}
use Rattle.wq_term.specs.declared.expr.Scope.TheVariants.{Basename}
use Rattle.wq_term.specs.Limit.{max_term_text}
use Rattle.wq_term.specs.Word.{kind_name, scope_name, relation_name}
use Rattle.wq_term.specs.NameFit.{scope_with}

-- a word
abbrev pub IsWord : List ℕ → Data → Type 0
IsWord word d = d ≡ string word

-- a text of at most 4,096 bytes
abbrev pub IsText : List ℕ → Data → Type 0
IsText text d = (d ≡ string text) × (length text ≤ max_term_text)

-- texts, one after the other
abbrev pub AreListed : List (List ℕ) → Items → Type 0
AreListed [] no_items = Unit {0}
AreListed (text ∷ texts) (item d ds) = IsText text d × AreListed texts ds
AreListed _ _ = ⊥

-- a list of texts; if there is one, it may be there without a list
abbrev pub AreTexts : List (List ℕ) → Data → Type 0
AreTexts texts (array ds) = AreListed texts ds
AreTexts (text ∷ []) d = IsText text d
AreTexts _ _ = ⊥

-- an integer that lies between two others
abbrev pub IsBetween : ℤ → ℤ → ℤ → Data → Type 0
IsBetween low high z (number n) = (as_integer n ≡ Some z) × (low ≤ℤ z) × (z ≤ℤ high)
IsBetween low high z _ = ⊥

-- a whole number, from -2^62 to 2^62
abbrev pub IsWhole : ℤ → Data → Type 0
IsWhole n d = IsBetween (neg_ℤ (pos max_number)) (pos max_number) n d

-- a second of the Unix epoch, from 0 to 2^62
abbrev pub IsSecond : ℤ → Data → Type 0
IsSecond second d = IsBetween (pos 0) (pos max_number) second d

-- a kind by its letter; for the unknown kind nobody can ask
abbrev pub IsKind : Kind → Data → Type 0
IsKind kind d = (d ≡ string (kind_name kind)) × (kind ≢ Unknown)

-- a relation, and a whole number after it
abbrev pub IsComparison : Relation → ℤ → Items → Type 0
IsComparison relation n (item d (item e no_items)) = IsWord (relation_name relation) d × IsWhole n e
IsComparison relation n _ = ⊥

-- a depth: a list of the word `depth` and a comparison
abbrev pub IsDepth : Depth → Data → Type 0
IsDepth (Is relation n) (array (item d ds)) = IsWord (codes "depth") d × IsComparison relation n ds
IsDepth _ _ = ⊥

-- a directory, which has no slash at its end, with any number of slashes after it
abbrev pub IsDirectory : List ℕ → Data → Type 0
IsDirectory dir d =
    (suffix_len is_slash dir ≡ 0) × ((slashes : ℕ) × IsText (dir ++ repeat slashes (codes "/")) d)

-- a bound by a spelling of a clock spec that sets it at this instance, or as a second
abbrev pub IsBound : InstanceData → Bound → Data → Type 0
IsBound instance bound (string text) =
    (spec : SpecData) × (IsClockSpelling spec text × (bound_of spec instance ≡ Some bound))
IsBound instance (Second second) d = IsSecond second d
IsBound instance _ _ = ⊥

-- the text of a pattern, of at most 255 bytes
abbrev pub IsPatternText : PatternData → Data → Type 0
IsPatternText pattern d =
    (d ≡ string pattern.text) × (length pattern.text ≤ max_pattern_length)

-- members of an object that are flags of a pattern, each true or false
abbrev pub AreFlagMembers : Members → Type 0
AreFlagMembers no_members = Unit {0}
AreFlagMembers (member key (boolean b) ms) =
    ((key ≡ codes "includedotfiles") ⊎ (key ≡ codes "noescape")) × AreFlagMembers ms
AreFlagMembers _ = ⊥

-- a flag that is on is a member that is true, and one that is off is no member
abbrev pub IsFlag : List ℕ → Bool → Members → Type 0
IsFlag key on ms = (on ≡ true) ↔ (get_member key ms ≡ Some (boolean true))

-- an object of flags with those of a pattern
abbrev pub AreFlags : Flags → Data → Type 0
AreFlags flags (object ms) =
    AreFlagMembers ms × IsFlag (codes "includedotfiles") flags.dotfiles ms
    × IsFlag (codes "noescape") flags.noescape ms
AreFlags flags _ = ⊥

-- none of these flags is on
abbrev pub IsPlain : Flags → Type 0
IsPlain flags = (flags.dotfiles ≡ false) × (flags.noescape ≡ false)

-- a pattern, its scope and its flags. Flags that are off may be left out; so may the scope with
-- them, if it is the basename
abbrev pub IsPattern : PatternData → Items → Type 0
IsPattern pattern (item d no_items) =
    IsPatternText pattern d × (scope_with pattern.flags ≡ Basename) × IsPlain pattern.flags
IsPattern pattern (item d (item e no_items)) =
    IsPatternText pattern d × IsWord (scope_name (scope_with pattern.flags)) e
    × IsPlain pattern.flags
IsPattern pattern (item d (item e (item f no_items))) =
    IsPatternText pattern d × IsWord (scope_name (scope_with pattern.flags)) e
    × AreFlags pattern.flags f
IsPattern pattern _ = ⊥
