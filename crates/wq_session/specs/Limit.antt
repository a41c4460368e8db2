-- The limits of a session.
-- They are this server's own.
use Rattle.std.specs.Prelude.{ℕ, ◌^◌}

-- the most subscriptions of a session
abbrev pub max_subscriptions : ℕ
max_subscriptions = 64

-- the most events that a session takes
abbrev pub max_events : ℕ
max_events = 2 ^ 62
