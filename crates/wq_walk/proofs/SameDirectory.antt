-- A directory of which only the block of new names changed.
use Rattle.std.proofs.Common.{◌≡◌, ◌∙◌, ℕ, List, true}
use Rattle.wq_disk.specs.declared.names.Place.{Place}
use Rattle.wq_disk.specs.Directory.{DirectoryData}
use Rattle.wq_disk.specs.Names.{name_at}
use Rattle.wq_walk.specs.Walk.{after_look}

-- a directory after a look at a name that the walk enters later
pub entered : (old mid new : DirectoryData) (text text' : List ℕ) (name : Place) → mid ≡ old → text' ≡ text
    → new ≡ after_look mid mid.left (name_at text' name) true → new ≡ after_look old old.left (name_at text name) true
entered old mid new text text' name same kept is = is ∙ (λ i. after_look (same i) (same i).left (name_at (kept i) name) true)
