-- A valid name is UTF-8.
use Rattle.std.proofs.Common.{IsUtf8, sym, subst}
use Rattle.wq_record.proofs.Valid.{valid_is_utf8}
use Rattle.wq_record.proofs.name.Name.as_str.Goals as goal

pub from_utf8_unchecked-requires : goal.from_utf8_unchecked-requires
from_utf8_unchecked-requires c = subst IsUtf8 (sym c.as_bytes.ensures.value) (valid_is_utf8 c.args.self.now c.as_bytes.ensures.valid)
