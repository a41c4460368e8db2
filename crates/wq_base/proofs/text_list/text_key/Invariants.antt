-- the rest of the bytes makes the key
use Rattle.std.proofs.Common.{◌≡◌, drop}
use Rattle.std.specs.Str.{str_to_ascii_lowercase}
use Rattle.wq_base.specs.TextList.{key_from, text_key}
use Rattle.wq_base.proofs.text_list.text_key.Given as goal

abbrev pub invariant-loop-byte : goal.invariant-loop-byte
invariant-loop-byte l =
    key_from l.key (str_to_ascii_lowercase (drop l.byte-index l.text)) ≡ text_key l.text
