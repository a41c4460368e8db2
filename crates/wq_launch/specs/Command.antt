-- The command of a start: its program, its arguments, its directory and its environment.
-- From Watchman's documentation of `trigger`.
use Rattle.std.specs.Prelude.{◌≡◌, ℕ, false, if◌then◌else◌, List, [], ◌∷◌}
use Rattle.std.specs.Prelude.{Option, Some, None}
use Rattle.std.specs.Process.{command_program, command_args, command_dir, command_var}
use Rattle.std.specs.Process.{clears_env, SameDir, SameProgramAndArgs}
use Rattle.std.specs.Str.{bytes_eq}
use Rattle.std.specs.declared.process.command.Command.{Command}
use Rattle.wq_follow.specs.Start.{StartData, vars_of}

-- the word on a variable once these were set, one after the other; `None` if there is no word on it
abbrev pub said : List (List ℕ × List ℕ) → List ℕ → Option (Option (List ℕ))
    → Option (Option (List ℕ))
said [] name before = before
said (v ∷ vars) name before =
    said vars name (if bytes_eq v.0 name then Some (Some v.1) else before)

-- a command sets these variables too, and is otherwise the same
pub record SetsAlso {A : Type 0} (sets : List (List ℕ × List ℕ))
    (old new : Command A) : Type 0 where
  pub vars : (name : List ℕ) → command_var new name ≡ said sets name (command_var old name)
  pub inherits : clears_env new ≡ clears_env old
  pub call : SameProgramAndArgs old new
  pub dir : SameDir old new

-- the command of a start: it has the server's environment, with the variables of the start over it
pub record IsCommandOf {A : Type 0} (start : StartData) (command : Command A) : Type 0 where
  pub call : command_program command ∷ command_args command ≡ start.args
  pub dir : command_dir command ≡ Some ((start.env).root)
  pub inherits : clears_env command ≡ false
  pub vars : (name : List ℕ) → command_var command name ≡ said (vars_of start.env) name None
