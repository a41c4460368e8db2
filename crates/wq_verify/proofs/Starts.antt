-- The places of a program before any instruction was looked at, as the code keeps them.
use Rattle.std.proofs.Common.{◌≡◌, ℕ, zero, suc, ◌<◌, List, [], Option, Some, None, option_map, set, get_or, refl, inl, inr, ap, subst, arith}
use Rattle.std.proofs.lemmas.Bool.{cases_lt}
use Rattle.std.proofs.lemmas.List.{get_or-set_same, get_or-set_other, get_or-replicate, get_or_past}
use Rattle.std.proofs.Math.ListN.{replicate, length-replicate}
use Rattle.wq_verify.specs.Kinds.{Kinds}
use Rattle.wq_verify.specs.Shape.{kinds_of, lists_of, IsStart}
use Rattle.wq_verify.specs.declared.shape.Shape.{Shape}

-- so many places of which none is reached
abbrev blank : ℕ → List (Option Shape)
blank n = replicate n None

-- none of them is reached
blank_place : (n place : ℕ) → get_or (blank n) place None ≡ None
blank_place n place =
    elim (cases_lt place n) [
      | inl inside ↦ get_or-replicate n place None None inside
      | inr past ↦ get_or_past (blank n) place None (rw length-replicate past)
    ]

-- with no cells at place 0, it is the start
pub starts : (n : ℕ) (shape : Shape) → 0 < n → kinds_of shape ≡ [] → IsStart (set (replicate n None) 0 (Some shape))
starts n shape some empty = (here, there)
  where
    reached : List (Option Shape)
    reached = set (blank n) 0 (Some shape)

    here : lists_of reached 0 ≡ Some []
    here = rw (get_or-set_same (blank n) 0 (Some shape) None (rw length-replicate some)) (ap Some empty)

    there : (place : ℕ) (kinds : Kinds) → lists_of reached place ≡ Some kinds → place ≡ 0
    there zero kinds e = refl
    there (suc place) kinds e =
        let same : get_or reached (suc place) None ≡ get_or (blank n) (suc place) None =
        get_or-set_other (blank n) 0 (suc place) (Some shape) None (omega arith) in
        let none : get_or reached (suc place) None ≡ None = rw same (blank_place n (suc place)) in
        absurd (let h = subst (λ o. option_map kinds_of o ≡ Some kinds) none e in cc)
