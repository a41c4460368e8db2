-- Fixed replies.
use Rattle.std.proofs.Common.{◌≡◌, refl}
use Rattle.json.specs.Print.{escape_byte}
use Rattle.wq_ask.specs.Reply.{error_data, reply_line}
use Rattle.wq_ask.specs.Server.{shutdown_data, version_data}
use Rattle.wq_ask.specs.declared.fixed.TheConstants.{BSER, LINE_TOO_LONG, NO_MEMORY, SHUTS_DOWN, TOO_MANY_SESSIONS, VERSION_ALONE}
use Rattle.wq_ask.specs.declared.refusal.Refusal.TheVariants.{LineTooLong, Bser, TooManySessions, NoMemory}

-- a line is too long
pub too_long : LINE_TOO_LONG.now ≡ reply_line (error_data LineTooLong)
unfolding escape_byte
too_long = refl

-- a line is binary
pub binary : BSER.now ≡ reply_line (error_data Bser)
unfolding escape_byte
binary = refl

-- there are too many sessions
pub too_many : TOO_MANY_SESSIONS.now ≡ reply_line (error_data TooManySessions)
unfolding escape_byte
too_many = refl

-- memory ran out
pub ran_out : NO_MEMORY.now ≡ reply_line (error_data NoMemory)
unfolding escape_byte
ran_out = refl

-- the version alone
pub version_alone : VERSION_ALONE.now ≡ reply_line version_data
unfolding escape_byte
version_alone = refl

-- the server ends
pub shuts_down : SHUTS_DOWN.now ≡ reply_line shutdown_data
unfolding escape_byte
shuts_down = refl
