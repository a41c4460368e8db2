-- The inputs of commands that run, until they are written: each holds a pipe and its bytes.
-- They are this server's own.
use Rattle.std.specs.Prelude.{◌≡◌, ℕ, ◌+◌, ◌-◌, Bool, ◌&&◌, ◌||◌, nat_eq, nat_lt, nat_le}
use Rattle.std.specs.Prelude.{if◌then◌else◌}
use Rattle.wq_launch.specs.Limit.{max_input_bytes}

-- the inputs that are not written yet
pub record InputsData : Type 0 where
  -- how many there may be at once
  pub most : ℕ
  pub count : ℕ
  pub bytes : ℕ

-- whether there is room for an input of so many bytes: an empty one takes none. Another finds room
-- if there are fewer than may be, and if with it they have at most the limit of bytes or it is the
-- only one
abbrev pub has_room : ℕ → InputsData → Bool
has_room bytes inputs = nat_eq bytes 0 || (nat_lt inputs.count inputs.most
    && (nat_eq inputs.count 0 || nat_le (inputs.bytes + bytes) max_input_bytes))

-- the inputs with one more of so many bytes
abbrev pub with_input : ℕ → InputsData → InputsData
with_input bytes inputs = if nat_eq bytes 0 then inputs else record {
  most = inputs.most;
  count = inputs.count + 1;
  bytes = inputs.bytes + bytes;
}

-- the inputs without one of so many bytes, which was written
abbrev pub without_input : ℕ → InputsData → InputsData
without_input bytes inputs = if nat_eq bytes 0 then inputs else record {
  most = inputs.most;
  count = inputs.count - 1;
  bytes = if nat_eq (inputs.count - 1) 0 then 0 else inputs.bytes - bytes;
}

-- an input is taken if there is room for it
abbrev pub TakesInput : ℕ → InputsData → Bool → InputsData → Type 0
TakesInput bytes old result new = (result ≡ has_room bytes old)
    × (new ≡ (if result then with_input bytes old else old))
