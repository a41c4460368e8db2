-- The beginnings of `watch`, `watch-project` and `watch-del`, and the reply to `watch-list`: the
-- server watches roots, no longer watches them, and lists them. From Watchman's documentation of these commands.
use Rattle.std.specs.Prelude.{ℕ, not, List, map, Option, Result, Ok}
use Rattle.serde_json.specs.Data.{Data}
use Rattle.wq_base.specs.Fault.{or_fault, unless_fault}
use Rattle.wq_registry.specs.Root.{RootData}
use Rattle.wq_registry.specs.Shelf.{root_added, root_has_no_place, root_removed}
use Rattle.wq_session.specs.Out.{replies}
use Rattle.wq_ask.specs.declared.refusal.Refusal.{Refusal}
use Rattle.wq_ask.specs.declared.refusal.Refusal.TheVariants.{NotWatched, TooManyRoots}
use Rattle.wq_ask.specs.Watch.{watch_data, roots_data, root_deleted_data}
use Rattle.wq_crawl.specs.At.{AtData}
use Rattle.wq_session.specs.At.{ShelfNow, watched}
use Rattle.wq_session.specs.Work.{BegunData, says}

-- the texts of roots
abbrev pub root_texts : {T : Type 0} → List (RootData T) → List (List ℕ)
root_texts roots = map (λ r. r.text) roots

-- the beginning of `watch`: the root that is looked at is on the shelf as this root
abbrev pub begun_watch : List ℕ → Option AtData → ShelfNow → Result BegunData Refusal
begun_watch root at shelf =
    or_fault NotWatched at (λ at.
    unless_fault TooManyRoots
    (not (root_has_no_place root (at.instance).root shelf)) (
    Ok (record {
      work = says (replies (watch_data root));
      shelf = root_added root (at.instance).root shelf;
    })))

-- the reply to `watch-list`
abbrev pub roots_on : ShelfNow → Data
roots_on shelf = roots_data (root_texts shelf.roots)

-- the beginning of `watch-del`
abbrev pub begun_unwatch : List ℕ → Option AtData → ShelfNow → Result BegunData Refusal
begun_unwatch root at shelf =
    or_fault NotWatched (watched root at shelf) (λ at.
    Ok (record {
      work = says (replies (root_deleted_data root));
      shelf = root_removed (at.instance).root shelf;
    }))
