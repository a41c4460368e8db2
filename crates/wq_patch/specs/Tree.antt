-- The listings of a tree, as it shows them, and when it may call a root unreadable. No public
-- document defines it.
use Rattle.std.specs.Prelude.{◌≡◌, ◌<◌, ◌≤◌, ◌⊎◌, ◌^◌, ◌-◌, ℕ, List, Option, Result, Ok, Err}
use Rattle.std.specs.Prelude.{Bool, true, false, IsTrue, Vec, length, refl}
use Rattle.std.specs.Coded.{Coded, code_by, coded×, coded_ℕ, coded_list, coded_result}
use Rattle.std.specs.declared.alloc.Global.{Global}
use Rattle.wq_view.specs.Limit.{max_listing_rows}
use Rattle.wq_view.specs.Patch.{patched}
use Rattle.wq_view.specs.Patching.{ArePatches}
use Rattle.wq_record.specs.RecordData.{RecordData}
use Rattle.std.specs.List.{list_all}
use Rattle.wq_record.specs.Seen.{SeenData, Stat, entry_of, is_lawful_row, stat_code}
use Rattle.wq_patch.specs.Device.{Gave}
use Rattle.wq_patch.specs.contracts.tree.TreeFault.{the_row}
use Rattle.wq_patch.specs.declared.tree.Listing.{Listing}
use Rattle.wq_patch.specs.declared.tree.Listing.TheVariants.{Rows, Patches}
use Rattle.wq_patch.specs.declared.tree.TreeFault.{TreeFault}
use Rattle.wq_patch.specs.declared.tree.TreeFault.TheVariants.{NoHandle, Unreadable}

-- the greatest count of failures
abbrev pub max_count : ℕ
max_count = 2 ^ 64 - 1

-- whether a fault is one of the device: the root cannot be read, or no file handle is left
abbrev pub is_of_device : TreeFault → Bool
is_of_device Unreadable = true
is_of_device NoHandle = true
is_of_device fault = false

-- a fault is one of the device only if the count of failures rose; at the greatest count it may
-- have risen
abbrev pub IsCounted : ℕ → ℕ → TreeFault → Type 0
IsCounted before after fault =
    IsTrue (is_of_device fault) → (before < after) ⊎ (after ≡ max_count)

-- a listing of a tree: its root, and the rows that the tree gave, or the fault for which it gave
-- none
pub record ListedData : Type 0 where
  pub root : List ℕ
  pub rows : Result (List SeenData) TreeFault

-- a row as the pair of its name and its stat
abbrev pub row_code : Coded SeenData
row_code =
    code_by (List ℕ × Stat) (coded× (coded_list coded_ℕ) stat_code) entry_of
    (λ (name, stat). record {
      name = name;
      kind = stat.kind;
      size = stat.size;
      mtime_ms = stat.mtime_ms;
    }) (λ _. refl)

-- a listing as the pair of its parts
abbrev pub listed_code : Coded ListedData
listed_code =
    code_by (List ℕ × Result (List SeenData) TreeFault)
    (coded× (coded_list coded_ℕ) (coded_result (coded_list row_code) the_row.coded))
    (λ listed. (listed.root, listed.rows)) (λ (root, rows). record { root = root; rows = rows })
    (λ _. refl)

-- the rows that were given, as a list
abbrev pub rows_given : Result (Vec SeenData Global) TreeFault → Result (List SeenData) TreeFault
rows_given (Ok rows) = Ok rows.items
rows_given (Err fault) = Err fault

-- the rows of a listing of a root whose last view has these records
abbrev pub rows_listed : List RecordData → Listing → List SeenData
rows_listed records (Rows rows) = rows.items
rows_listed records (Patches patches) = patched records patches.items

-- the rows that were given for a root whose last view has these records
abbrev pub rows_given_again : List RecordData → Result Listing TreeFault
    → Result (List SeenData) TreeFault
rows_given_again records (Ok listing) = Ok (rows_listed records listing)
rows_given_again records (Err fault) = Err fault

-- a listing that makes no rows of all files has no more files than a pass takes
abbrev pub IsFew : List RecordData → Listing → Type 0
IsFew records (Rows rows) = Unit {0}
IsFew records (Patches patches) = length (patched records patches.items) ≤ max_listing_rows

-- the rows of a listing that gives rows are lawful
abbrev pub AreLawful : Listing → Type 0
AreLawful (Rows rows) = IsTrue (list_all is_lawful_row rows.items)
AreLawful listing = Unit {0}

-- the patches of a listing fit the records
abbrev pub ListingFits : List RecordData → Listing → Type 0
ListingFits records (Patches patches) = ArePatches records patches.items
ListingFits records listing = Unit {0}

-- a tree lists a root, and gives these rows
abbrev pub Lists : Option (ℕ × ListedData) → List ℕ → Result (List SeenData) TreeFault
    → Option (ℕ × ListedData) → Type 0
Lists before root rows after = Gave before (record { root = root; rows = rows }) after
