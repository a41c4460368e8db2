-- The path of a file below a root. No public document defines it.
use Rattle.std.specs.Prelude.{refl, ℕ, List}
use Rattle.std.specs.Coded.{Coded, code_by, coded×, coded_ℕ, coded_list}

-- a path below a root: the number of bytes of the root's path, with its slash, and the whole path
pub record TreePathData : Type 0 where
  pub root_len : ℕ
  pub bytes : List ℕ

-- a path as the pair of its parts
abbrev pub tree_path_code : Coded TreePathData
tree_path_code =
    code_by (ℕ × List ℕ) (coded× coded_ℕ (coded_list coded_ℕ))
    (λ p. (p.root_len, p.bytes))
    (λ (root_len, bytes). record { root_len = root_len; bytes = bytes })
    (λ _. refl)
