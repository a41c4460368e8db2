-- The path for which a disk asks the system. No public document defines it.
use Rattle.std.specs.Prelude.{refl, ℕ, List}
use Rattle.std.specs.Coded.{Coded, code_by, coded×, coded_ℕ, coded_list}

-- a whole path, and the number of its bytes that lead to the working directory
pub record AskedData : Type 0 where
  pub path : List ℕ
  pub start : ℕ

-- such a path as the pair of its parts
abbrev pub asked_code : Coded AskedData
asked_code =
    code_by (List ℕ × ℕ) (coded× (coded_list coded_ℕ) coded_ℕ)
    (λ a. (a.path, a.start))
    (λ (path, start). record { path = path; start = start })
    (λ _. refl)
