-- The generators of a query beside its `since`: the keys `suffix` and `path`. From Watchman's
-- documentation of the generators of file queries; the limits are this server's own.
use Rattle.std.specs.Prelude.{ℕ, ℤ, pos, negsuc, List, [], codes, Option, Some, None}
use Rattle.std.specs.Prelude.{option_map, option_and_then}
use Rattle.std.specs.Option.{option_zip}
use Rattle.serde_json.specs.Data.{Data, string, array, Items, no_items, item}
use Rattle.serde_json.specs.Find.{get}
use Rattle.wq_base.specs.Fault.{with_first}
use Rattle.wq_base.specs.Limit.{max_number}
use Rattle.wq_term.specs.declared.generators.PathGen.{PathGen}
use Rattle.wq_term.specs.Argument.{integer_between, text_of, texts_of}
use Rattle.wq_term.specs.Text.{without_end_slashes}

-- the suffixes: a text or a list of texts, or no generator if the key is not there
abbrev pub suffixes_of : Option Data → Option (Option (List (List ℕ)))
suffixes_of None = Some None
suffixes_of (Some d) = option_map Some (texts_of d)

-- a depth: a whole number from -1 to 2^62
abbrev pub path_depth : Data → Option ℤ
path_depth d = integer_between (negsuc 0) (pos max_number) d

-- the text and the depth of a path: of a bare text, without limit, or of an object that has both
abbrev pub path_parts : Data → Option (List ℕ × ℤ)
path_parts (string text) = option_map (λ t. (t, negsuc 0)) (text_of (string text))
path_parts d =
    option_zip (option_and_then text_of (get (codes "path") d))
    (option_and_then path_depth (get (codes "depth") d))

-- a path, without the slashes at its end
abbrev pub path_of : Data → Option PathGen
path_of d =
    option_map (λ (text, depth). record { path = without_end_slashes text; depth = depth })
    (path_parts d)

-- the paths of a list
abbrev pub paths_in : Items → Option (List PathGen)
paths_in no_items = Some []
paths_in (item d ds) = with_first (path_of d) (paths_in ds)

-- the paths: a list of them, or no generator if the key is not there
abbrev pub paths_of : Option Data → Option (Option (List PathGen))
paths_of None = Some None
paths_of (Some (array ds)) = option_map Some (paths_in ds)
paths_of (Some _) = None
