-- The limits of listings and views, which are this server's own.
-- Watchman's documentation names none of them.
use Rattle.std.specs.Prelude.{ℕ}

-- the most rows of a listing
abbrev pub max_listing_rows : ℕ
max_listing_rows = 1000000

-- the most records of a view, so that a position fits 32 bits
abbrev pub max_records : ℕ
max_records = 4294967295

-- the most records of a chunk, so that a place in it fits 12 bits
abbrev pub max_chunk : ℕ
max_chunk = 4096
