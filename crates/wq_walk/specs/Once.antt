-- A listing has the path of each file once. No public document defines it.
use Rattle.std.specs.Prelude.{ℕ, List, map}
use Rattle.wq_record.specs.Seen.{SeenData}
use Rattle.wq_disk.specs.declared.part.Part.{Part}
use Rattle.wq_disk.specs.Entries.{AreDistinct}
use Rattle.wq_walk.specs.Listed.{IsListed}
use Rattle.wq_disk.specs.Told.{GivesStat, Has}
use Rattle.wq_walk.specs.Walk.{IsWalk}

-- rows of which no two have one name
abbrev pub HaveOwnNames : List SeenData → Type 0
HaveOwnNames rows = AreDistinct (map (λ row. row.name) rows)

-- no walk lists a path twice
abbrev pub WalksListOnce : GivesStat → Has → Type 0
WalksListOnce says has =
    (root : List ℕ) (part : Part) (rows : List SeenData) → IsWalk says has root part rows
    → HaveOwnNames rows

-- no listing has a path twice
abbrev pub ListingsListOnce : GivesStat → Has → Type 0
ListingsListOnce says has =
    (root : List ℕ) (rows : List SeenData) → IsListed says has root rows → HaveOwnNames rows
