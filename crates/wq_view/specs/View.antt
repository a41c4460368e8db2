-- The view of a history: the records of all names that its passes saw, and the number of passes. It
-- is this server's own.
use Rattle.std.specs.Prelude.{◌≡◌, ℕ, IsTrue, List, length, refl}
use Rattle.std.specs.Coded.{Coded, code_by, coded×, coded_ℕ, coded_list}
use Rattle.std.specs.FinMap.{is_sorted}
use Rattle.wq_record.specs.Name.{name_cmp}
use Rattle.wq_record.specs.RecordData.{RecordData, record_code, by_name, record_named}
use Rattle.wq_view.specs.History.{History, record_of}
use Rattle.wq_view.specs.Order.{newest_first, ticks_of}

-- the last tick of a root, and the records of its files
pub record ViewData : Type 0 where
  -- the number of the last pass
  pub tick : ℕ
  pub records : List RecordData

-- a view as the pair of its parts
abbrev pub view_code : Coded ViewData
view_code =
    code_by (ℕ × List RecordData) (coded× coded_ℕ (coded_list record_code))
    (λ view. (view.tick, view.records))
    (λ (tick, records). record { tick = tick; records = records }) (λ _. refl)

-- the names strictly rise in byte order
abbrev pub NamesRise : List RecordData → Type 0
NamesRise records = IsTrue (is_sorted name_cmp (by_name records))

-- the positions of a view's records in the order of last change
abbrev pub newest_of : ViewData → List ℕ
newest_of view = newest_first view.tick (ticks_of view.records)

-- the view of a history: its tick is the number of passes, its names rise, and each name has the
-- record that the history gives
pub record IsViewOf (history : History) (view : ViewData) : Type 0 where
  pub tick : view.tick ≡ length history
  pub ordered : NamesRise view.records
  pub files : (name : List ℕ) → record_named name view.records ≡ record_of history name

-- a history has one view
abbrev pub HasOneView : Type 0
HasOneView = (history : History) (a b : ViewData) → IsViewOf history a → IsViewOf history b → a ≡ b
