-- The version of the protocol that every reply names.
-- It is this server's own.
use Rattle.std.specs.Prelude.{ℕ, List, codes}

-- the first version
abbrev pub version : List ℕ
version = codes "wq-1"
