-- Programs while they are made.
-- The limits are those of program files, which are this server's own.
use Rattle.std.specs.Prelude.{◌≡◌, ℕ, ◌+◌, ◌<◌, ◌≤◌, [], length}
use Rattle.wq_code.specs.Limit.{max_table_rows}
use Rattle.wq_code.specs.declared.raw.Raw.{Raw}

-- no table of constants has more rows than there are instructions, and there are no sets
pub record HasFewConstants (raw : Raw) : Type 0 where
  pub nums : length raw.nums ≤ length raw.code
  pub texts : length raw.texts ≤ length raw.code
  pub lists : length raw.lists ≤ length raw.code
  pub patterns : length raw.patterns ≤ length raw.code
  pub sets : raw.sets ≡ []

-- so many more instructions, and the end, have room
abbrev pub HasRoom : ℕ → Raw → Type 0
HasRoom count raw = length raw.code + count < max_table_rows
