-- A root that has a text is under its number.
use Rattle.std.proofs.Common.{◌≡◌, ℕ, Bool, true, false, List, [], ◌∷◌, Some, nat_eq, is_none, refl, sym, subst, if◌then◌else◌}
use Rattle.std.specs.Str.{bytes_eq}
use Rattle.std.proofs.lemmas.Option.{same_Some}
use Rattle.wq_registry.specs.Root.{RootData, called, numbered}

module _ {T : Type 0} where
  -- the number of the first root is one that is there
  first_there : (number : ℕ) (r : RootData T) (rs : List (RootData T)) → nat_eq number r.number ≡ true
      → is_none (numbered number (r ∷ rs)) ≡ false
  first_there number r rs same = rw same refl

  -- a number that is there is also there after another root
  later_there : (number : ℕ) (r : RootData T) (rs : List (RootData T)) → is_none (numbered number rs) ≡ false
      → is_none (numbered number (r ∷ rs)) ≡ false
  later_there number r rs there = at (nat_eq number r.number) there
    where
      at : (same : Bool) → is_none (numbered number rs) ≡ false
          → is_none (if same then Some r else numbered number rs) ≡ false
      at true there = refl
      at false there = there

  -- the number of a root that has a text
  pub number_there : (text : List ℕ) (number : ℕ) (rs : List (RootData T)) (r : RootData T)
      → called text rs ≡ Some r → nat_eq number r.number ≡ true → is_none (numbered number rs) ≡ false
  number_there text number [] r found same = cc
  number_there text number (x ∷ xs) r found same =
      at (bytes_eq text x.text) (λ later. number_there text number xs r later same) found
    where
      at : (has : Bool) → (called text xs ≡ Some r → is_none (numbered number xs) ≡ false)
          → (if has then Some x else called text xs) ≡ Some r → is_none (numbered number (x ∷ xs)) ≡ false
      at true later found =
          first_there number x xs (subst (λ (y : RootData T). nat_eq number y.number ≡ true) (sym (same_Some x r found)) same)
      at false later found = later_there number x xs (later found)
