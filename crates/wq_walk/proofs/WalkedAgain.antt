-- The rows of walks.
use Rattle.std.proofs.Common.{List, [], ◌∷◌, IsTrue, refl}
use Rattle.std.specs.List.{list_all}
use Rattle.wq_record.specs.Seen.{is_lawful_row}
use Rattle.wq_walk.specs.declared.rows.Rows.{Rows}
use Rattle.wq_walk.specs.Found.{found_rows}
use Rattle.wq_walk.specs.Listed.{walked_rows}
use Rattle.wq_walk.proofs.Joins.{all_of_both}

-- each row that was found is lawful
pub found_lawful : (walked : List Rows) → IsTrue (list_all is_lawful_row (walked_rows walked))
found_lawful [] = refl
found_lawful (rows ∷ walked) = all_of_both is_lawful_row (found_rows rows.found) (walked_rows walked) rows.lawful (found_lawful walked)
