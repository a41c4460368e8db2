-- A glance that ended lists what it found.
use Rattle.std.proofs.Common.{◌≡◌, ℕ, List, [], length, sym, subst}
use Rattle.wq_record.specs.RecordData.{RecordData}
use Rattle.wq_record.specs.Seen.{SeenData}
use Rattle.wq_walk.specs.Glance.{GlanceEnds, IsGlance}
use Rattle.wq_disk.specs.Told.{GivesEntries, GivesStat, Has}
use Rattle.wq_disk.specs.Directory.{DirectoryData, fresh}

-- a glance from the root's directory, whose rows stayed the same after it ended
pub glance_of : (says : GivesStat) (has : Has) (records : List RecordData) (asked : List (List ℕ)) (root : List ℕ) (names : List (List ℕ)) (root_len : ℕ) (above : List DirectoryData) (here : DirectoryData) (before rows final : List SeenData)
    → GivesEntries has root names → root_len ≡ length root → above ≡ [] → here ≡ fresh root names → before ≡ [] → final ≡ rows
    → GlanceEnds says has records asked root_len (record { above = above; here = here; rows = before }) rows → IsGlance says has records asked root final
glance_of says has records asked root names root_len above here before rows final read len none at empty same ends = (
  names,
  read,
  subst (λ rs. GlanceEnds says has records asked (length root) (record { above = []; here = fresh root names; rows = [] }) rs) (sym same)
      (subst (λ n. GlanceEnds says has records asked n (record { above = []; here = fresh root names; rows = [] }) rows) len
      (subst (λ a. GlanceEnds says has records asked root_len (record { above = a; here = fresh root names; rows = [] }) rows) none
      (subst (λ d. GlanceEnds says has records asked root_len (record { above = above; here = d; rows = [] }) rows) at
      (subst (λ b. GlanceEnds says has records asked root_len (record { above = above; here = here; rows = b }) rows) empty ends)))),
)
