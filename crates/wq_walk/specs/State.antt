-- The place of a walk, as the code holds it. No public document defines it.
use Rattle.std.specs.Prelude.{List, map}
use Rattle.wq_disk.specs.declared.directory.Directory.{Directory}
use Rattle.wq_disk.specs.Directory.{data_of}
use Rattle.wq_walk.specs.declared.rows.Rows.{Rows}
use Rattle.wq_walk.specs.Found.{found_rows}
use Rattle.wq_walk.specs.Walk.{WalkData}

-- a walk in this directory, below these directories and with these rows, as definitions see it
abbrev pub walk_of : List Directory → Directory → Rows → WalkData
walk_of above here rows =
    record { above = map data_of above; here = data_of here; rows = found_rows rows.found }
