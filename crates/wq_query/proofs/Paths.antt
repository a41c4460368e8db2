-- `path` says exactly the paths that the grammar has written by it.
use Rattle.std.proofs.Common.{◌≡◌, ℕ, ℤ, pos, negsuc, List, [], ◌∷◌, ◌++◌, Option, Some, None}
use Rattle.std.proofs.Common.{option_map, option_and_then, refl, sym, ap, subst, ◌∙◌}
use Rattle.std.specs.Prelude.{codes}
use Rattle.std.specs.Option.{MatchOption, option_zip}
use Rattle.std.proofs.lemmas.Option.{same_Some}
use Rattle.serde_json.specs.Data.{Data, null, boolean, number, string, array, object}
use Rattle.serde_json.specs.Data.{Items, no_items, item}
use Rattle.serde_json.specs.Find.{get}
use Rattle.wq_base.specs.Limit.{max_number}
use Rattle.wq_base.proofs.Fault.{with_first-some}
use Rattle.wq_term.specs.declared.generators.PathGen.{PathGen}
use Rattle.wq_term.specs.Argument.{text_of}
use Rattle.wq_term.specs.ArgumentGrammar.{IsBetween, IsDirectory}
use Rattle.wq_term.specs.Text.{without_end_slashes}
use Rattle.wq_term.proofs.ArgumentGrammar.{mapped, between-found, between-reads, text-reads}
use Rattle.wq_term.proofs.Slashes.{slashes, drops}
use Rattle.wq_term.proofs.TermGrammar.{dir-found}
use Rattle.wq_query.specs.Generator.{path_depth, path_parts, path_of, paths_in}
use Rattle.wq_query.specs.Grammar.{IsPath, ListPaths}

-- the path of a text and a depth
abbrev pub path_at : List ℕ × ℤ → PathGen
path_at (text, depth) = record { path = without_end_slashes text; depth = depth }

-- a pair is one of two things that are there
zipped : {A B P : Type 0} (a : Option A) (b : Option B) (c : A × B)
    → ◌≡◌ {A = Option (A × B)} (option_zip a b) (Some c)
    → ((x : A) (y : B) → a ≡ Some x → b ≡ Some y → ◌≡◌ {A = A × B} (x, y) c → P) → P
zipped None b c e goal = cc
zipped (Some x) None c e goal = cc
zipped (Some x) (Some y) c e goal = goal x y refl refl (same_Some (x, y) c e)

-- the two keys of an object
dir-key : (o : Option Data) (text : List ℕ) → option_and_then text_of o ≡ Some text
    → MatchOption o ⊥ (IsDirectory (without_end_slashes text))
dir-key None text e = cc
dir-key (Some d) text e = dir-found d text e

depth-key : (o : Option Data) (depth : ℤ) → option_and_then path_depth o ≡ Some depth
    → MatchOption o ⊥ (IsBetween (negsuc 0) (pos max_number) depth)
depth-key None depth e = cc
depth-key (Some d) depth e = between-found (negsuc 0) (pos max_number) depth d e

-- an object
abbrev pub HasPath : PathGen → Data → Type 0
HasPath p d =
    MatchOption (get (codes "path") d) ⊥ (IsDirectory p.path)
    × MatchOption (get (codes "depth") d) ⊥ (IsBetween (negsuc 0) (pos max_number) p.depth)

abbrev pub object_parts : Data → Option (List ℕ × ℤ)
object_parts d =
    option_zip (option_and_then text_of (get (codes "path") d))
    (option_and_then path_depth (get (codes "depth") d))

object-found : (d : Data) (p : PathGen) → option_map path_at (object_parts d) ≡ Some p → HasPath p d
object-found d p e =
    mapped path_at (object_parts d) p e (λ c some is.
    zipped (option_and_then text_of (get (codes "path") d)) (option_and_then path_depth (get (codes "depth") d)) c some (λ text depth t n pair.
    subst (λ q. HasPath q d) (ap path_at pair ∙ is)
    (dir-key (get (codes "path") d) text t, depth-key (get (codes "depth") d) depth n)))

dir-said : (o : Option Data) (dir : List ℕ) → MatchOption o ⊥ (IsDirectory dir)
    → (text : List ℕ) × ((option_and_then text_of o ≡ Some text) × (without_end_slashes text ≡ dir))
dir-said None dir h = absurd h
dir-said (Some d) dir h =
    (dir ++ slashes h.1.0, (text-reads d (dir ++ slashes h.1.0) h.1.1, drops dir h.1.0 h.0))

depth-said : (o : Option Data) (depth : ℤ)
    → MatchOption o ⊥ (IsBetween (negsuc 0) (pos max_number) depth) → option_and_then path_depth o ≡ Some depth
depth-said None depth h = absurd h
depth-said (Some d) depth h = between-reads (negsuc 0) depth d h

object-reads : (d : Data) (p : PathGen) → HasPath p d → option_map path_at (object_parts d) ≡ Some p
object-reads d p h =
    let said = dir-said (get (codes "path") d) p.path h.0 in
    rw (said.1.0, depth-said (get (codes "depth") d) p.depth h.1)
    (ap (λ path. Some (record { path = path; depth = p.depth })) said.1.1)

-- a path
path-found : (d : Data) (p : PathGen) → path_of d ≡ Some p → IsPath p d
path-found (string text) p e =
    mapped path_at (path_parts (string text)) p e (λ c some is.
    mapped (λ (t : List ℕ). (t, negsuc 0)) (text_of (string text)) c some (λ t there pair.
    subst (λ q. IsDirectory q.path (string text) × (q.depth ≡ negsuc 0)) (ap path_at pair ∙ is)
    (dir-found (string text) t there, refl)))
path-found null p e = object-found null p e
path-found (boolean b) p e = object-found (boolean b) p e
path-found (number n) p e = object-found (number n) p e
path-found (array ds) p e = object-found (array ds) p e
path-found (object ms) p e = object-found (object ms) p e

path-reads : (d : Data) (p : PathGen) → IsPath p d → path_of d ≡ Some p
path-reads (string text) p h =
    let dir = h.0 in
    rw (text-reads (string text) (p.path ++ slashes dir.1.0) dir.1.1)
    (ap (λ path. Some (record { path = path; depth = negsuc 0 })) (drops p.path dir.1.0 dir.0)
    ∙ ap (λ depth. Some (record { path = p.path; depth = depth })) (sym h.1))
path-reads null p h = object-reads null p h
path-reads (boolean b) p h = object-reads (boolean b) p h
path-reads (number n) p h = object-reads (number n) p h
path-reads (array ds) p h = object-reads (array ds) p h
path-reads (object ms) p h = object-reads (object ms) p h

-- the paths of a list
pub paths-found : (ds : Items) (paths : List PathGen) → paths_in ds ≡ Some paths → ListPaths paths ds
paths-found no_items paths e = subst (λ ps. ListPaths ps no_items) (same_Some [] paths e) tt
paths-found (item d ds) paths e =
    with_first-some (path_of d) (paths_in ds) paths e (λ p ps first rest is.
    subst (λ qs. ListPaths qs (item d ds)) is (path-found d p first, paths-found ds ps rest))

pub paths-read : (ds : Items) (paths : List PathGen) → ListPaths paths ds → paths_in ds ≡ Some paths
paths-read no_items [] h = refl
paths-read (item d ds) (p ∷ ps) h = rw (path-reads d p h.0, paths-read ds ps h.1) refl
paths-read no_items (p ∷ ps) h = absurd h
paths-read (item d ds) [] h = absurd h
