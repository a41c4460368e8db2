-- How the classes of a pattern are written: the part at the front of a text, and the text after it.
-- After the bracket expressions of POSIX and of git's wildmatch; this server's own profile of them.
use Rattle.std.specs.Prelude.{ℕ, zero, suc, ◌-◌, ◌+◌, Bool, false, ◌==◌, not, ◌&&◌, ◌||◌}
use Rattle.std.specs.Prelude.{if◌then◌else◌, nat_le, List, [], ◌∷◌, length, take, drop, slice_index}
use Rattle.std.specs.Prelude.{Option, Some, None, option_map, option_and_then, position, bytes_eq}
use Rattle.std.specs.List.{find}
use Rattle.std.specs.Option.{option_or, option_map_or}
use Rattle.std.specs.Str.{byte}
use Rattle.wq_base.specs.Byte.{is_colon}
use Rattle.wq_glob.specs.Byte.{is_close, is_open, is_dash, is_escape}
use Rattle.wq_glob.specs.Class.{Class, class_name, named_classes}
use Rattle.wq_glob.specs.declared.class.Item.{Item}
use Rattle.wq_glob.specs.declared.class.Item.TheVariants.{Range, Named, Unknown}

-- the first byte passes the test
abbrev pub begins : (ℕ → Bool) → List ℕ → Bool
begins test [] = false
begins test (b ∷ _) = test b

-- the first byte and the rest, if there is one
abbrev pub next : List ℕ → Option (ℕ × List ℕ)
next [] = None
next (b ∷ bs) = Some (b, bs)

-- the byte that the front of a text stands for, and the rest. A backslash gives the byte after it,
-- unless `noescape`; there is none if the text ends first
abbrev pub letter : Bool → List ℕ → Option (ℕ × List ℕ)
letter noescape text =
    if not noescape && begins is_escape text then next (drop 1 text) else next text

-- the named class that has this name, or an unknown item if none has it
unfoldable pub item_named : List ℕ → Item
item_named name =
    option_map_or Named (find (λ class. bytes_eq name (class_name class)) named_classes) Unknown

-- a colon is before the place
abbrev pub is_behind_colon : List ℕ → ℕ → Bool
is_behind_colon text place = nat_le 1 place && is_colon (slice_index text (place - 1))

-- the name before the `:` before a place, and the text after the place; none if no `:` is there
abbrev pub name_to : List ℕ → ℕ → Option (Item × List ℕ)
name_to text end =
    if is_behind_colon text end
    then Some (item_named (take (end - 1) text), drop (end + 1) text) else None

-- after `[:`, the named class and the text after its `:]`, whose `]` is the first in the text
unfoldable pub named_item : List ℕ → Option (Item × List ℕ)
named_item text = option_and_then (name_to text) (position is_close text)

-- after the first byte of a range, the byte that ends it and the rest: after a dash, any byte but
-- an unescaped `]`
unfoldable pub range_end : Bool → List ℕ → Option (ℕ × List ℕ)
range_end noescape text =
    if begins is_dash text && not (begins is_close (drop 1 text))
    then letter noescape (drop 1 text) else None

-- an item that begins with this byte: a range if an end follows, and else the byte alone
unfoldable pub item_from : ℕ → List ℕ → Option (ℕ × List ℕ) → Item × List ℕ
item_from first after None = (Range first first, after)
item_from first _ (Some (last, after)) = (Range first last, after)

-- the item at the front of a text that is no named class, and the rest
unfoldable pub plain_item : Bool → List ℕ → Option (Item × List ℕ)
plain_item noescape text =
    option_map (λ (b, after). item_from b after (range_end noescape after)) (letter noescape text)

-- the item at the front of a text, and the rest; a `[` with no name after it stands for itself
unfoldable pub first_item : Bool → List ℕ → Option (Item × List ℕ)
first_item noescape text =
    if begins is_open text && begins is_colon (drop 1 text)
    then option_or (named_item (drop 2 text)) (plain_item noescape text)
    else plain_item noescape text

-- an item, put before the items that were read after it
abbrev pub before_items : Item → Option (List Item × List ℕ) → Option (List Item × List ℕ)
before_items item None = None
before_items item (Some (items, after)) = Some (item ∷ items, after)

-- The items up to the `]` that ends the class, and the rest; none if it has no end. A text has at
-- most as many items as bytes, so its length is enough for the first argument.
unfoldable pub items_from : ℕ → Bool → List ℕ → Option (List Item × List ℕ)
items_from zero _ _ = None
items_from (suc n) noescape text =
    if begins is_close text then Some ([], drop 1 text)
    else option_and_then (λ (item, after). before_items item (items_from n noescape after))
    (first_item noescape text)

-- the items of a class, of which a `]` may be the first
unfoldable pub class_items : Bool → List ℕ → Option (List Item × List ℕ)
class_items noescape text =
    option_and_then
    (λ (item, after). before_items item (items_from (length after) noescape after))
    (first_item noescape text)

-- the byte after `[` that negates a class: `!` or `^`
abbrev pub is_negation : ℕ → Bool
is_negation b = b == byte "!" || b == byte "^"

-- after the bracket of a class, its items, without the sign that negates it
abbrev pub behind_negation : List ℕ → List ℕ
behind_negation text = if begins is_negation text then drop 1 text else text

-- after its `[`, a class and the rest; none if it has no end
unfoldable pub class_at : Bool → List ℕ → Option (Class × List ℕ)
class_at noescape text =
    option_map
    (λ (items, after). (record { negated = begins is_negation text; items = items }, after))
    (class_items noescape (behind_negation text))
