-- The texts that a search for suffixes looks for. No public document defines them.
use Rattle.std.specs.Prelude.{ℕ, List, [], ◌∷◌}
use Rattle.wq_view.specs.declared.sought.Sought.{Sought}
use Rattle.wq_view.specs.declared.sought.Sought.TheVariants.{One, Any}

-- the suffixes that are sought
abbrev pub sought_texts : Sought → List (List ℕ)
sought_texts (One text) = text.now ∷ []
sought_texts (Any suffixes) = suffixes.now
