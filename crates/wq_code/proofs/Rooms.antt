-- What is written, and has room in its fields, is a spelling.
use Rattle.std.proofs.Common.{◌≡◌, ℕ, ◌+◌, ◌<◌, List, [], ◌∷◌, ◌++◌, length, take, get_or, sym, ap, subst, ◌∙◌, append_assoc}
use Rattle.std.specs.Prelude.{IsTrue}
use Rattle.std.specs.List.{All, flat_map}
use Rattle.std.proofs.lemmas.List.{append-nil, take_more}
use Rattle.std.proofs.lemmas.List.Concat.{flat_map-cons}
use Rattle.std.proofs.lemmas.List.Elements.{All-append, All-cons, All-nil}
use Rattle.std.proofs.lemmas.Grind.{flat_map-append}
use Rattle.wq_code.specs.Fits.{raw_fits}
use Rattle.wq_code.specs.Spelling.{FitsFields, IsSpelling, spelling}
use Rattle.wq_code.specs.declared.raw.Raw.{Raw}
use Rattle.wq_code.specs.declared.version.Version.TheVariants.{Second}

module _ {X : Type 0} (rows : List X) (i : ℕ) (row : X) (within : i < length rows) (is : row ≡ get_or rows i row) where
  -- what holds of the first rows and of the next one
  pub all_next : (P : X → Type 0) → All P (take i rows) → P row → All P (take (i + 1) rows)
  all_next P all next =
      subst (All P) (sym (take_more rows i row within))
      (All-append P (take i rows) (get_or rows i row ∷ []) all (All-cons P (get_or rows i row) [] (subst P is next) (All-nil P)))

  -- the bytes of the first rows and of the next one
  pub spelled_next : (spell : X → List ℕ) (before so_far next : List ℕ) → so_far ≡ before ++ flat_map spell (take i rows)
      → next ≡ so_far ++ spell row → next ≡ before ++ flat_map spell (take (i + 1) rows)
  spelled_next spell before so_far next old now =
      let last : flat_map spell (get_or rows i row ∷ []) ≡ spell row =
      flat_map-cons spell (get_or rows i row) [] ∙ append-nil (spell (get_or rows i row)) ∙ ap spell (sym is)
      in
      let more : flat_map spell (take (i + 1) rows) ≡ flat_map spell (take i rows) ++ spell row =
      ap (flat_map spell) (take_more rows i row within) ∙ flat_map-append spell (take i rows) (get_or rows i row ∷ [])
      ∙ ap (λ s. flat_map spell (take i rows) ++ s) last
      in
      now ∙ ap (λ s. s ++ spell row) old ∙ append_assoc before (flat_map spell (take i rows)) (spell row)
      ∙ ap (λ s. before ++ s) (sym more)

-- the bytes of a program that fits are its spelling, if each row has room in its field
pub spelled : (raw : Raw) (bytes : List ℕ) → IsTrue (raw_fits raw) → FitsFields raw → bytes ≡ spelling raw → IsSpelling raw bytes
spelled raw bytes fits room written = (Second, record { within_limits = fits; in_range = room; written = written })
