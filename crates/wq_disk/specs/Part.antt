-- The part of a tree that a walk lists: the names between two cuts. No public document defines it.
use Rattle.std.specs.Prelude.{◌≡◌, ℕ, Bool, List, ◌∷◌, ◌++◌, true, not, ◌&&◌, IfSome}
use Rattle.std.specs.Option.{option_map_or}
use Rattle.std.specs.Ordering.{is_lt}
use Rattle.std.specs.Str.{byte}
use Rattle.std.specs.declared.cmp.Ordering.{Ordering}
use Rattle.std.specs.declared.cmp.Ordering.TheVariants.{Less, Equal, Greater}
use Rattle.wq_record.specs.Name.{name_cmp}
use Rattle.wq_disk.specs.declared.part.Part.{Part}

-- whether a name is in a part: from the first cut on and below the second one, if there are such
-- cuts
abbrev pub is_in : Part → List ℕ → Bool
is_in part name =
    option_map_or (λ cut. not (is_lt (name_cmp name cut.now))) part.from true
    && option_map_or (λ cut. is_lt (name_cmp name cut.now)) part.below true

-- the name of a file below a directory: the directory's name, a slash, and the rest
abbrev pub name_below : List ℕ → List ℕ → List ℕ
name_below directory rest = directory ++ (byte "/" ∷ rest)

-- the order of a cut and the names below a directory: the cut is before each of them, one of them,
-- or after each
abbrev pub IsOrderBelow : List ℕ → List ℕ → Ordering → Type 0
IsOrderBelow directory cut Less = (rest : List ℕ) → name_cmp cut (name_below directory rest) ≡ Less
IsOrderBelow directory cut Equal = (rest : List ℕ) × (cut ≡ name_below directory rest)
IsOrderBelow directory cut Greater = (rest : List ℕ) → name_cmp cut (name_below directory rest)
    ≡ Greater

-- a part that may have names below a directory: its first cut is not after each of them, and its
-- second one not before each
abbrev pub MayHaveBelow : Part → List ℕ → Type 0
MayHaveBelow part directory =
    IfSome part.from (λ cut. IsOrderBelow directory cut.now Greater → ⊥)
    × IfSome part.below (λ cut. IsOrderBelow directory cut.now Less → ⊥)
