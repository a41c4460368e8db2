-- The files that exist by one record more, and by a stretch of records more.
use Rattle.std.proofs.Common.{◌≡◌, ◌+◌, ◌-◌, ◌≤◌, ℕ, true, false, List, ◌∷◌, ◌++◌, IsTrue, take, length, length-append, refl, ap, sym, subst, ◌∙◌}
use Rattle.std.proofs.lemmas.Bool.{and_from}
use Rattle.std.proofs.lemmas.List.Folds.{list_all-append}
use Rattle.std.specs.List.{list_all}
use Rattle.wq_record.specs.RecordData.{RecordData}
use Rattle.wq_record.specs.Seen.{is_lawful_row}
use Rattle.wq_view.specs.SeenRows.{seen_row, seen_rows}
use Rattle.wq_view.proofs.SeenAgain.{seen-append}
use Rattle.wq_view.proofs.Stretches.{taken_more}

-- a record whose file exists
pub one_there : (r : RecordData) (records : List RecordData) → r.exists ≡ true → seen_rows (r ∷ records) ≡ seen_row r ∷ seen_rows records
one_there r records there = rw there refl

-- a record whose file does not
pub one_gone : (r : RecordData) (records : List RecordData) → r.exists ≡ false → seen_rows (r ∷ records) ≡ seen_rows records
one_gone r records gone = rw gone refl

-- the rows are lawful, with one record more
pub lawful_there : (r : RecordData) (records : List RecordData) → r.exists ≡ true → IsTrue (is_lawful_row (seen_row r)) → IsTrue (list_all is_lawful_row (seen_rows records)) → IsTrue (list_all is_lawful_row (seen_rows (r ∷ records)))
lawful_there r records there one others = subst (λ rows. IsTrue (list_all is_lawful_row rows)) (sym (one_there r records there)) (and_from _ _ one others)

pub lawful_gone : (r : RecordData) (records : List RecordData) → r.exists ≡ false → IsTrue (list_all is_lawful_row (seen_rows records)) → IsTrue (list_all is_lawful_row (seen_rows (r ∷ records)))
lawful_gone r records gone others = subst (λ rows. IsTrue (list_all is_lawful_row rows)) (sym (one_gone r records gone)) others

module _ (all stretch rest : List RecordData) (more : ℕ) (is : all ≡ stretch ++ rest) (few : length stretch ≤ more) where
  -- the number of records that are taken, with a stretch more
  pub more_records : length (take more all) ≡ length stretch + length (take (more - length stretch) rest)
  more_records = ap length (taken_more all stretch rest more is few) ∙ length-append stretch (take (more - length stretch) rest)

  rows_both : seen_rows (take more all) ≡ seen_rows stretch ++ seen_rows (take (more - length stretch) rest)
  rows_both = ap seen_rows (taken_more all stretch rest more is few) ∙ seen-append stretch (take (more - length stretch) rest)

  -- the number of those whose files exist
  pub more_rows : length (seen_rows (take more all)) ≡ length (seen_rows stretch) + length (seen_rows (take (more - length stretch) rest))
  more_rows = ap length rows_both ∙ length-append (seen_rows stretch) (seen_rows (take (more - length stretch) rest))

  -- their rows are lawful
  pub more_lawful : IsTrue (list_all is_lawful_row (seen_rows stretch)) → IsTrue (list_all is_lawful_row (seen_rows (take (more - length stretch) rest))) → IsTrue (list_all is_lawful_row (seen_rows (take more all)))
  more_lawful first later =
      subst (λ rows. IsTrue (list_all is_lawful_row rows)) (sym rows_both)
      (list_all-append is_lawful_row (seen_rows stretch) (seen_rows (take (more - length stretch) rest)) ∙ and_from _ _ first later)
