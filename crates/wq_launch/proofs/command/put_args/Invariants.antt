-- the arguments so far and the arguments that are left are all; nothing else changes
use Rattle.std.proofs.Common.{◌≡◌, ◌++◌, drop}
use Rattle.std.specs.Process.{SameDir, SameEnv, command_args, command_program}
use Rattle.wq_launch.proofs.command.put_args.Given as goal

abbrev pub invariant-loop-arg : goal.invariant-loop-arg
invariant-loop-arg l =
    (command_args l.command ++ drop l.arg-index l.args ≡ command_args l.fn.command ++ l.args)
    × (command_program l.command ≡ command_program l.fn.command)
    × SameEnv l.fn.command l.command × SameDir l.fn.command l.command
