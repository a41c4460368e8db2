use Rattle.std.proofs.Common.{rules, ◌≡◌, arith, codes, ap, sym}
use Rattle.std.proofs.lemmas.Slice.Eq.{text_from_reads, HasBytesAt}
use Rattle.wq_glob.specs.Reading.{item_named}
use Rattle.wq_glob.proofs.class.item_named.Goals as goal

-- the longest name, which no other shares its length with
pub returns-in-xdigit : goal.returns-in-xdigit
unfolding item_named
returns-in-xdigit c =
    let bytes : HasBytesAt c.args.name.now 0 (codes "xdigit") = search rules in
    let is : c.args.name.now ≡ codes "xdigit" = text_from_reads c.args.name.now (codes "xdigit") (omega arith) bytes in
    sym (ap item_named is)
