-- A pass that sees the files of a view just as its records say moves nothing, and has no fault of its rows.
use Rattle.std.proofs.Common.{◌≡◌, true, false, cond, List, [], ◌∷◌, map, sym, refl, ap, ◌∙◌}
use Rattle.std.specs.FinMap.{is_sorted}
use Rattle.wq_view.specs.SeenRows.{seen_rows}
use Rattle.wq_record.specs.Name.{name_cmp}
use Rattle.wq_record.specs.RecordData.{RecordData}
use Rattle.wq_record.specs.Seen.{entry_of}
use Rattle.wq_view.specs.View.{NamesRise}
use Rattle.wq_view.proofs.Showing.{existing, existing_sorted}

-- the stats of the files that exist are those of their rows
pub existing_is : (records : List RecordData) → existing records ≡ map entry_of (seen_rows records)
existing_is [] = refl
existing_is (r ∷ records) =
    let rest = existing_is records in
    elim r.exists as (λ b. cond b ((r.name, record { kind = r.kind; size = r.size; mtime_ms = r.mtime_ms }) ∷ existing records) (existing records) ≡ map entry_of (map (λ r. record { name = r.name; kind = r.kind; size = r.size; mtime_ms = r.mtime_ms }) (cond b (r ∷ Rattle.std.specs.List.filter (λ r. r.exists) records) (Rattle.std.specs.List.filter (λ r. r.exists) records)))) [ true ↦ ap (λ es. (r.name, record { kind = r.kind; size = r.size; mtime_ms = r.mtime_ms }) ∷ es) rest | false ↦ rest ]

-- the names of these rows rise
pub seen_sorted : (records : List RecordData) → NamesRise records → is_sorted name_cmp (map entry_of (seen_rows records)) ≡ true
seen_sorted records rise = sym (ap (is_sorted name_cmp) (existing_is records)) ∙ existing_sorted records rise
