-- Lists of texts have no floats.
use Rattle.std.proofs.Common.{◌≡◌, ℕ, false, List, [], ◌∷◌, map, refl, ap, ◌∙◌}
use Rattle.serde_json.specs.Data.{Data, string}
use Rattle.serde_json.specs.View.{items_of}
use Rattle.serde_json.specs.Written.{has_float, items_have_float}
use Rattle.wq_ask.specs.Program.{programs_data}
use Rattle.wq_ask.specs.Watch.{roots_data}

-- texts have no floats
pub no_floats : (texts : List (List ℕ)) → items_have_float (items_of (map string texts)) ≡ false
no_floats [] = refl
no_floats (text ∷ texts) = no_floats texts

-- nor has a reply that names programs
pub plain_named : (d : Data) (texts : List (List ℕ)) → d ≡ programs_data texts → has_float d ≡ false
plain_named d texts is = ap has_float is ∙ rw (no_floats texts) refl

-- nor has one that names roots
pub plain_rooted : (d : Data) (texts : List (List ℕ)) → d ≡ roots_data texts → has_float d ≡ false
plain_rooted d texts is = ap has_float is ∙ rw (no_floats texts) refl
