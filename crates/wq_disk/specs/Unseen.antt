-- The meaning of an error of the system at one path for a walk. The numbers are those of errno(3)
-- on Linux. The rule which of them end the walk is this server's own.
use Rattle.std.specs.Prelude.{ℤ, pos, negsuc, Bool, false, true, ◌==◌, ◌||◌, if◌then◌else◌}
use Rattle.std.specs.Prelude.{Option, Some, None}
use Rattle.std.specs.IoError.{error_kind, raw_os_error}
use Rattle.std.specs.declared.io.Error.{Error}
use Rattle.std.specs.declared.io.ErrorKind.{ErrorKind}
use Rattle.std.specs.declared.io.ErrorKind.TheVariants.{OutOfMemory}
use Rattle.wq_patch.specs.declared.tree.TreeFault.{TreeFault}
use Rattle.wq_patch.specs.declared.tree.TreeFault.TheVariants.{NoHandle, NoMemory, Unreadable}

-- whether an error with this number says that no more files can be opened: in the machine, or in
-- this process
abbrev pub is_of_handles : Option ℤ → Bool
is_of_handles (Some (pos number)) = (number == 23) || (number == 24)
is_of_handles (Some (negsuc below)) = false
is_of_handles None = false

-- whether an error with this number is about its path alone: EPERM, ENOENT, EACCES, ENOTDIR,
-- ENAMETOOLONG or ELOOP. An error without a number is too, since the system was not asked
abbrev pub is_of_path : Option ℤ → Bool
is_of_path (Some (pos number)) =
    (number == 1) || (number == 2) || (number == 13) || (number == 20) || (number == 36)
    || (number == 40)
is_of_path (Some (negsuc below)) = false
is_of_path None = true

-- whether an error of this kind says that memory ran out
abbrev pub is_of_memory : ErrorKind → Bool
is_of_memory OutOfMemory = true
is_of_memory kind = false

-- the fault of a whole walk that an error with this number and of this kind means: no file handle
-- is left, memory ran out, or the file system failed; none if the error is about its path alone
abbrev pub walk_fault : Option ℤ → ErrorKind → Option TreeFault
walk_fault number kind =
    if is_of_handles number then Some NoHandle
    else if is_of_memory kind then Some NoMemory
    else if is_of_path number then None
    else Some Unreadable

-- the fault of a whole walk that an error of the system means, if it means one
abbrev pub error_fault : Error → Option TreeFault
error_fault error = walk_fault (raw_os_error error) (error_kind error)
