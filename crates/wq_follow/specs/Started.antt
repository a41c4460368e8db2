-- The meaning of the types of orders and starts.
-- It is this server's own.
use Rattle.std.specs.Prelude.{Bool, false, true, nat_le, IsTrue}
use Rattle.wq_base.specs.Limit.{max_number}
use Rattle.wq_clock.specs.declared.bound.Bound.{Bound}
use Rattle.wq_clock.specs.declared.bound.Bound.TheVariants.{Fresh, Tick, Second}
use Rattle.wq_follow.specs.Start.{EnvData, InputData, OrderData, StartData}
use Rattle.wq_follow.specs.Start.{no_input, names, objects}
use Rattle.wq_follow.specs.declared.order.Order.{Order}
use Rattle.wq_follow.specs.declared.order.Input.{Input}
use Rattle.wq_follow.specs.declared.order.Input.TheVariants.{Nothing, Names, Objects}
use Rattle.wq_follow.specs.declared.start.Env.{Env}
use Rattle.wq_follow.specs.declared.start.Start.{Start}

-- the input
abbrev pub input_data : Input → InputData
input_data Nothing = no_input
input_data Names = names
input_data (Objects fields) = objects fields

-- how a command is started
abbrev pub order_data : Order → OrderData
order_data o = record {
  name = o.name;
  root = o.root;
  command = o.command;
  appends = o.appends;
  input = input_data o.input;
  limit = o.limit;
}

-- the environment
abbrev pub env_data : Env → EnvData
env_data e = record {
  clock = e.clock;
  overflow = e.overflow;
  root = e.root;
  since = e.since;
  trigger = e.trigger;
}

-- the start
abbrev pub start_data : Start → StartData
start_data s = record { args = s.args; env = env_data s.env; input = s.input }

-- a bound at which a batch of a trigger may begin: none, or a tick that has a clock id
abbrev pub is_clocked : Bound → Bool
is_clocked Fresh = true
is_clocked (Tick tick) = nat_le tick max_number
is_clocked (Second second) = false

-- the same as a fact
abbrev pub IsClocked : Bound → Type 0
IsClocked bound = IsTrue (is_clocked bound)
