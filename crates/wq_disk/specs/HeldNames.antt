-- The names of a directory, as the code holds them. No public document defines it.
use Rattle.std.specs.Prelude.{ℕ, List}
use Rattle.wq_disk.specs.declared.names.Names.{Names}
use Rattle.wq_disk.specs.Entries.{names_of_text}
use Rattle.wq_disk.specs.Names.{AreAllEntries, names_at}

-- the text of the names of a directory, in which places are
abbrev pub text_of_names : Names → List ℕ
text_of_names names = names.bytes.items

-- the names of a directory that were not taken yet, the next one last
abbrev pub names_left : Names → List (List ℕ)
names_left names = names_at names.bytes.items names.places.items

-- the names of a directory as the system gave them
abbrev pub names_given : Names → List (List ℕ)
names_given names = names_of_text names.bytes.items

-- the names of all entries of a directory are left
abbrev pub AllAreLeft : Names → Type 0
AllAreLeft names = AreAllEntries names.bytes.items names.places.items
