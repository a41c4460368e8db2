-- The limits of the server's numbers, of its roots and of its threads, which are its own.
-- No public document names them.
use Rattle.std.specs.Prelude.{ℕ, ◌^◌, ◌≤◌}

-- the greatest number
abbrev pub max_number : ℕ
max_number = 2 ^ 62

-- the most roots that are watched at once
abbrev pub max_roots : ℕ
max_roots = 16

-- the most threads that look for the files of a query
abbrev pub max_workers : ℕ
max_workers = 16

-- so many threads may look for the files of a query: one or more, and no more than the most
abbrev pub AreFew : ℕ → Type 0
AreFew workers = (1 ≤ workers) × (workers ≤ max_workers)
