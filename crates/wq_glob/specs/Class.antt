-- The classes of a pattern, as `[a-z]` or `[![:digit:]]`: their items, and which bytes they hold.
-- After the bracket expressions of POSIX, in ASCII.
use Rattle.std.specs.Prelude.{ℕ, Bool, false, ◌==◌, not, ◌&&◌, ◌||◌, if◌then◌else◌, nat_lt}
use Rattle.std.specs.Prelude.{List, [], ◌∷◌, codes}
use Rattle.std.specs.List.{list_any}
use Rattle.std.specs.Str.{byte}
use Rattle.wq_glob.specs.Byte.{is_between, is_upper, is_lower, lower_of, upper_of}
use Rattle.wq_glob.specs.declared.class.ClassName.{ClassName}
use Rattle.wq_glob.specs.declared.class.ClassName.TheVariants.{Alnum, Alpha, Blank, Cntrl, Digit}
use Rattle.wq_glob.specs.declared.class.ClassName.TheVariants.{Graph, Lower, Print, Punct, Space}
use Rattle.wq_glob.specs.declared.class.ClassName.TheVariants.{Upper, Xdigit}
use Rattle.wq_glob.specs.declared.class.Item.{Item}
use Rattle.wq_glob.specs.declared.class.Item.TheVariants.{Range, Named, Unknown}

-- the text by which a named class is called
abbrev pub class_name : ClassName → List ℕ
class_name Alnum = codes "alnum"
class_name Alpha = codes "alpha"
class_name Blank = codes "blank"
class_name Cntrl = codes "cntrl"
class_name Digit = codes "digit"
class_name Graph = codes "graph"
class_name Lower = codes "lower"
class_name Print = codes "print"
class_name Punct = codes "punct"
class_name Space = codes "space"
class_name Upper = codes "upper"
class_name Xdigit = codes "xdigit"

-- all named classes
abbrev pub named_classes : List ClassName
named_classes =
    Alnum ∷ Alpha ∷ Blank ∷ Cntrl ∷ Digit ∷ Graph
    ∷ Lower ∷ Print ∷ Punct ∷ Space ∷ Upper ∷ Xdigit ∷ []

-- 0 to 9
abbrev pub is_digit : ℕ → Bool
is_digit b = is_between (byte "0") (byte "9") b

-- a letter or a digit
abbrev pub is_alnum : ℕ → Bool
is_alnum b = is_digit b || is_upper b || is_lower b

-- a byte that prints as a sign
abbrev pub is_graph : ℕ → Bool
is_graph b = is_between (byte "!") (byte "~") b

-- the control byte after the signs, DEL
abbrev pub delete : ℕ
delete = 127

-- the horizontal tab, the first byte of white space
abbrev pub tab : ℕ
tab = 9

-- the carriage return, the last control byte of white space
abbrev pub carriage_return : ℕ
carriage_return = 13

-- the bytes of a named class
abbrev pub in_name : ClassName → ℕ → Bool
in_name Alnum b = is_alnum b
in_name Alpha b = is_upper b || is_lower b
in_name Blank b = b == byte " " || b == tab
in_name Cntrl b = nat_lt b (byte " ") || b == delete
in_name Digit b = is_digit b
in_name Graph b = is_graph b
in_name Lower b = is_lower b
in_name Print b = is_between (byte " ") (byte "~") b
in_name Punct b = is_graph b && not (is_alnum b)
in_name Space b = is_between tab carriage_return b || b == byte " "
in_name Upper b = is_upper b
in_name Xdigit b =
    is_digit b || is_between (byte "A") (byte "F") b || is_between (byte "a") (byte "f") b

-- the bytes of an item: a range holds its first byte even if its end is lower
abbrev pub in_item : ℕ → Item → Bool
in_item b (Range first last) = b == first || is_between first last b
in_item b (Named name) = in_name name b
in_item b Unknown = false

-- a class: its items, and whether it holds the other bytes
pub record Class : Type 0 where
  pub negated : Bool
  pub items : List Item

-- some item of the list holds the byte
abbrev pub in_items : List Item → ℕ → Bool
in_items items b = list_any (in_item b) items

-- some item holds the byte or, without case, the same letter in its other form
abbrev pub in_either_case : Bool → List Item → ℕ → Bool
in_either_case fold items b =
    in_items items b || (fold && (in_items items (lower_of b) || in_items items (upper_of b)))

-- the bytes of a class: case is left out before the class is negated
abbrev pub in_class : Bool → Class → ℕ → Bool
in_class fold c b =
    if c.negated then not (in_either_case fold c.items b) else in_either_case fold c.items b
