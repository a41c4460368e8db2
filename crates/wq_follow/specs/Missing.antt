-- Nothing is missed: each change between two batches is told by exactly one of those between.
-- From Watchman's documentation of `subscribe` and of `trigger`.
use Rattle.std.specs.Prelude.{◌≡◌, ◌<◌, ◌≤◌, ◌⊎◌, ℕ, true, List, [], ◌∷◌}
use mathlib.Core.List.{IsPrefix}
use Rattle.wq_view.specs.History.{History}
use Rattle.wq_record.specs.RecordData.{RecordData}
use Rattle.wq_view.specs.View.{ViewData, IsViewOf}
use Rattle.wq_follow.specs.Batch.{FollowerData, told_up_to}
use Rattle.wq_follow.specs.Interval.{AreReached, HasNoGenerators, LookData, ToldData}
use Rattle.wq_follow.specs.Interval.{is_matched, told_at}

-- no file of the view of a history changed last at a later tick than that of the view
abbrev pub ViewsAreReached : Type 0
ViewsAreReached = (history : History) (view : ViewData) → IsViewOf history view
    → AreReached view.tick view.records

-- a file is among some
abbrev pub IsAmong : RecordData → List RecordData → Type 0
IsAmong r [] = ⊥
IsAmong r (file ∷ files) = (file ≡ r) ⊎ IsAmong r files

-- the view shows a history as it was at its end, or earlier
abbrev pub IsOf : History → ViewData → Type 0
IsOf history view = (early : History) × IsPrefix early history × IsViewOf early view

-- so do the views of all looks
abbrev pub AreOf : History → List LookData → Type 0
AreOf history [] = Unit {0}
AreOf history (look ∷ looks) = IsOf history look.view × AreOf history looks

-- the tick at which the last batch ended, after one that ended at this tick
abbrev pub end_of : ℕ → List ToldData → ℕ
end_of last [] = last
end_of last (t ∷ later) = end_of (t.batch).now later

-- no batch has the file with this record
abbrev pub IsNeverTold : RecordData → List ToldData → Type 0
IsNeverTold r [] = Unit {0}
IsNeverTold r (t ∷ later) = (IsAmong r (t.batch).files → ⊥) × IsNeverTold r later

-- exactly one batch has the file with this record
abbrev pub IsToldOnce : RecordData → List ToldData → Type 0
IsToldOnce r [] = ⊥
IsToldOnce r (t ∷ later) =
    (IsAmong r (t.batch).files × IsNeverTold r later)
    ⊎ ((IsAmong r (t.batch).files → ⊥) × IsToldOnce r later)

-- nothing is missed once a batch was told that ended at a tick. Take each file that matches in the
-- view of the whole history. If it changed last after that tick and by the end of the last batch,
-- exactly one batch that was told then has it. The looks between do not matter
abbrev pub NothingIsMissed : Type 0
NothingIsMissed = (f : FollowerData) (last : ℕ) (history : History) (looks : List LookData)
    (view : ViewData) → HasNoGenerators f.plan → AreOf history looks → IsViewOf history view
    → (r : RecordData) → IsAmong r view.records → is_matched f.plan r ≡ true
    → last < r.otick → r.otick ≤ end_of last (told_at looks (told_up_to last f))
    → IsToldOnce r (told_at looks (told_up_to last f))
