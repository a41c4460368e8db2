-- The members that the reader of a class has gathered: the bytes of its items, and whether all
-- names are known. This library's own; `Class` defines items.
use Rattle.std.specs.Prelude.{◌≡◌, ℕ, ◌<◌, not, List, Option, Some}
use Rattle.std.specs.List.{list_any}
use Rattle.wq_glob.specs.Atom.{is_unknown}
use Rattle.wq_glob.specs.ByteSet.{has_byte}
use Rattle.wq_glob.specs.Class.{in_items}
use Rattle.wq_glob.specs.declared.byte_set.ByteSet.{ByteSet}
use Rattle.wq_glob.specs.declared.class.Item.{Item}
use Rattle.wq_glob.specs.declared.class.Members.{Members}

-- the set holds the bytes of the items
abbrev pub Holds : ByteSet → List Item → Type 0
Holds set items = (b : ℕ) → b < 256 → has_byte set b ≡ in_items items b

-- the members are those of the items
pub record AreMembers (m : Members) (items : List Item) : Type 0 where
  pub bytes : Holds m.set items
  pub known : m.known ≡ not (list_any is_unknown items)

-- the items were read, with these members and with this text after them
abbrev pub HasItems : Option (List Item × List ℕ) → Members → List ℕ → Type 0
HasItems read m after = (items : List Item) × (read ≡ Some (items, after)) × AreMembers m items
