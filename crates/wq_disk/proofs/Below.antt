-- The order of a cut and the names below a directory, and the names of a part that are there.
use Rattle.std.proofs.Common.{◌≡◌, ℕ, ◌+◌, ◌<◌, ◌≤◌, true, false, not, nat_eq, IsTrue, List, [], ◌∷◌, ◌++◌, length, get_or, take, drop, ◌≢◌, Bor, Some, None, Ordering, Less, Equal, Greater, nat_cmp, is_lt, is_gt, append-nil, refl, ap, sym, ◌∙◌, arith}
use Rattle.std.specs.Ordering.{ordering_then}
use Rattle.std.specs.Str.{byte}
use Rattle.std.specs.Cmp.Lexicographic.{pointwise, nat_list_cmp_total}
use Rattle.std.specs.Cmp.{nat_cmp_is, tied_itself}
use Rattle.std.proofs.lemmas.Cmp.{ranked}
use Rattle.std.proofs.lemmas.Bool.Decides.{Decides-eqb}
use Rattle.std.proofs.lemmas.Slice.Eq.{strip_prefix_is}
use Rattle.std.proofs.lemmas.Map.Lookups.{exact_bytes}
use mathlib.Core.Bool.{true≢false}
use Rattle.wq_record.specs.Name.{name_cmp}
use Rattle.wq_disk.specs.Part.{name_below, IsOrderBelow}

-- the order of two names does not depend on a beginning that they share
same_front : (front a b : List ℕ) → name_cmp (front ++ a) (front ++ b) ≡ name_cmp a b
same_front [] a b = refl
same_front (x ∷ front) a b = rw (sym (nat_cmp_is x x Equal refl)) (same_front front a b)

-- a cut that does not begin with a directory's name has the same order to names below it as to the directory
beside : (cut directory more : List ℕ) → ((rest : List ℕ) → cut ≢ directory ++ rest) → name_cmp cut (directory ++ more) ≡ name_cmp cut directory
beside cut [] more apart = absurd (apart cut refl)
beside [] (f ∷ directory) more apart = refl
beside (c ∷ cut) (f ∷ directory) more apart = at (nat_cmp c f) refl (beside cut directory more)
  where
    at : (o : Ordering) → nat_cmp c f ≡ o → (((rest : List ℕ) → cut ≢ directory ++ rest) → name_cmp cut (directory ++ more) ≡ name_cmp cut directory) → ordering_then o (name_cmp cut (directory ++ more)) ≡ ordering_then o (name_cmp cut directory)
    at Less e same = refl
    at Equal e same = same (λ rest is. apart rest (λ i. ranked c f Equal (sym e) i ∷ is i))
    at Greater e same = refl

-- the order of a cut that does not begin with a directory's name
pub order_beside : (cut directory : List ℕ) → pointwise nat_eq (take (length directory) cut) directory ≡ false → IsOrderBelow directory cut (name_cmp cut directory)
order_beside cut directory stripped = at (name_cmp cut directory) refl (strip_prefix_is Decides-eqb cut directory None stripped)
  where
    at : (o : Ordering) → name_cmp cut directory ≡ o → ((rest : List ℕ) → cut ≢ directory ++ rest) → IsOrderBelow directory cut o
    at Less e apart = λ rest. beside cut directory (byte "/" ∷ rest) apart ∙ e
    at Equal e apart = absurd (apart [] (exact_bytes cut directory e ∙ sym (append-nil directory)))
    at Greater e apart = λ rest. beside cut directory (byte "/" ∷ rest) apart ∙ e

-- the order of a cut that has something after a directory's name
behind : (cut directory left : List ℕ) → cut ≡ directory ++ left → 1 ≤ length left → IsOrderBelow directory cut (nat_cmp (get_or left 0 0) (byte "/"))
behind cut directory [] is more = absurd (omega arith)
behind cut directory (next ∷ left) is more = at (nat_cmp next (byte "/")) refl
  where
    to : (o : Ordering) → nat_cmp next (byte "/") ≡ o → (rest : List ℕ) → name_cmp cut (name_below directory rest) ≡ ordering_then o (name_cmp left rest)
    to o e rest = ap (λ cut. name_cmp cut (name_below directory rest)) is ∙ same_front directory (next ∷ left) (byte "/" ∷ rest) ∙ ap (λ o. ordering_then o (name_cmp left rest)) e

    at : (o : Ordering) → nat_cmp next (byte "/") ≡ o → IsOrderBelow directory cut o
    at Less e = to Less e
    at Equal e = (left, is ∙ λ i. directory ++ (ranked next (byte "/") Equal (sym e) i ∷ left))
    at Greater e = to Greater e

-- the same, if that is the rest of the cut after the directory's name
pub order_from : (cut directory : List ℕ) (left : Bor (List ℕ)) → (pointwise nat_eq (take (length directory) cut) directory ≡ true) × (left.now ≡ drop (length directory) cut) × (length left.now + length directory ≡ length cut) → 1 ≤ length left.now → IsOrderBelow directory cut (nat_cmp (get_or left.now 0 0) (byte "/"))
order_from cut directory left stripped more = behind cut directory left.now (strip_prefix_is Decides-eqb cut directory (Some left) stripped) more

-- the order of a cut at the directory itself
pub order_at : (cut directory : List ℕ) (left : Bor (List ℕ)) → (pointwise nat_eq (take (length directory) cut) directory ≡ true) × (left.now ≡ drop (length directory) cut) × (length left.now + length directory ≡ length cut) → length left.now < 1 → IsOrderBelow directory cut Less
order_at cut directory left stripped none = at left.now (strip_prefix_is Decides-eqb cut directory (Some left) stripped) none
  where
    at : (left : List ℕ) → cut ≡ directory ++ left → length left < 1 → IsOrderBelow directory cut Less
    at [] is none rest = ap (λ cut. name_cmp cut (name_below directory rest)) is ∙ same_front directory [] (byte "/" ∷ rest)
    at (next ∷ left) is none rest = absurd (omega arith)

-- if a name below a directory is not below a cut, the cut is not after all names there
pub from_there : (cut directory rest : List ℕ) (o : Ordering) → IsOrderBelow directory cut o → IsTrue (not (is_lt (name_cmp (name_below directory rest) cut))) → is_gt o ≡ false
from_there cut directory rest Less is from = refl
from_there cut directory rest Equal is from = refl
from_there cut directory rest Greater is from = sym (rw (nat_list_cmp_total.antisymm (name_below directory rest) cut, is rest) at from)

-- if a name below a directory is below a cut, the cut is not before all names there
pub below_there : (cut directory rest : List ℕ) (o : Ordering) → IsOrderBelow directory cut o → IsTrue (is_lt (name_cmp (name_below directory rest) cut)) → is_lt o ≡ false
below_there cut directory rest Less is below = sym (rw (nat_list_cmp_total.antisymm (name_below directory rest) cut, is rest) at below)
below_there cut directory rest Equal is below = refl
below_there cut directory rest Greater is below = refl

-- a cut has its order to some name below a directory
stands : (cut directory : List ℕ) (o : Ordering) → IsOrderBelow directory cut o → (rest : List ℕ) × (name_cmp cut (name_below directory rest) ≡ o)
stands cut directory Less is = ([], is [])
stands cut directory Equal is = (is.0, ap (name_cmp cut) (sym is.1) ∙ tied_itself nat_list_cmp_total cut)
stands cut directory Greater is = ([], is [])

-- a cut whose order is not after all names below a directory is not after all of them
pub not_behind : (cut directory : List ℕ) (o : Ordering) → IsOrderBelow directory cut o → is_gt o ≡ false → IsOrderBelow directory cut Greater → ⊥
not_behind cut directory o is isnt all = let s = stands cut directory o is in true≢false (ap is_gt (sym (all s.0) ∙ s.1) ∙ isnt)

-- a cut whose order is not before all names below a directory is not before all of them
pub not_before : (cut directory : List ℕ) (o : Ordering) → IsOrderBelow directory cut o → is_lt o ≡ false → IsOrderBelow directory cut Less → ⊥
not_before cut directory o is isnt all = let s = stands cut directory o is in true≢false (ap is_lt (sym (all s.0) ∙ s.1) ∙ isnt)
