-- The search for a number that is free.
use Rattle.std.proofs.Common.{◌≡◌, ℕ, suc, zero, ◌+◌, ◌<◌, ◌≤◌, ◌-◌, List, true, false, Some, None}
use Rattle.std.proofs.Common.{ap, refl, rules, sym, ◌∙◌}
use native.Mathlib.Omega.{arith}
use Rattle.wq_launch.specs.Runs.{first_free, is_running, number_after}

-- a number that is taken is passed over
pub passed : (count number : ℕ) (running : List ℕ) → is_running number running ≡ true
    → first_free (suc count) number running ≡ first_free count (number_after number) running
unfolding first_free
passed count number running taken = search (rules, taken)

-- a number that is free is found
pub taken_at : (count number : ℕ) (running : List ℕ) → is_running number running ≡ false
    → first_free (suc count) number running ≡ Some number
unfolding first_free
taken_at count number running free = search (rules, free)

-- one of the numbers that are left
one-less : (count tried : ℕ) → tried < count → count - tried ≡ suc (count - (tried + 1))
one-less count tried less = omega (arith, less)

-- a number that is taken is passed over
pub goes_on : (count tried number : ℕ) (running : List ℕ) → tried < count
    → is_running number running ≡ true
    → first_free (count - (tried + 1)) (number_after number) running
    ≡ first_free (count - tried) number running
goes_on count tried number running less taken =
    sym (ap (λ n. first_free n number running) (one-less count tried less)
    ∙ passed (count - (tried + 1)) number running taken)

-- a number that is free is found
pub found : (count tried number : ℕ) (running : List ℕ) → tried < count
    → is_running number running ≡ false → first_free (count - tried) number running ≡ Some number
found count tried number running less free =
    ap (λ n. first_free n number running) (one-less count tried less)
    ∙ taken_at (count - (tried + 1)) number running free

-- none is left
pub none_at : (number : ℕ) (running : List ℕ) → first_free zero number running ≡ None
unfolding first_free
none_at number running = refl

-- none of no numbers is found
pub none_left : (count tried number : ℕ) (running : List ℕ) → count ≤ tried
    → first_free (count - tried) number running ≡ None
none_left count tried number running all =
    ap (λ n. first_free n number running) (nothing count tried all) ∙ none_at number running
  where
    nothing : (count tried : ℕ) → count ≤ tried → count - tried ≡ 0
    nothing count tried all = omega (arith, all)
