use Rattle.std.proofs.Common.{arith, subst}
use Rattle.std.specs.List.{All}
use Rattle.wq_code.proofs.FitsLemmas.{within, list_all-always}
use Rattle.wq_code.specs.Spelling.{AreBytes, HasRoomNumber, HasRoomOp, HasRoomPattern}
use Rattle.wq_code.specs.declared.version.Version.TheVariants.{Second}
use Rattle.wq_code.proofs.file.file_bytes.Goals as goal

pub put_long-requires : goal.put_long-requires
put_long-requires c = omega (arith, c.len.ensures, (within Second c.args.raw.now c.requires).nums)

pub put_long-requires-2 : goal.put_long-requires-2
put_long-requires-2 c = omega (arith, c.len-2.ensures, (within Second c.args.raw.now c.requires).texts)

pub put_long-requires-3 : goal.put_long-requires-3
put_long-requires-3 c = omega (arith, c.len-3.ensures, (within Second c.args.raw.now c.requires).lists)

pub put_long-requires-4 : goal.put_long-requires-4
put_long-requires-4 c = omega (arith, c.len-4.ensures, (within Second c.args.raw.now c.requires).patterns)

pub put_long-requires-5 : goal.put_long-requires-5
put_long-requires-5 c = omega (arith, c.len-5.ensures, (within Second c.args.raw.now c.requires).sets)

pub put_long-requires-6 : goal.put_long-requires-6
put_long-requires-6 c = omega (arith, c.len-6.ensures, (within Second c.args.raw.now c.requires).code)

pub put_many-requires : goal.put_many-requires
put_many-requires c = list_all-always c.as_slice.result.now

pub put_many-requires-2 : goal.put_many-requires-2
put_many-requires-2 c = rw c.as_slice-2.ensures (within Second c.args.raw.now c.requires).each_text

pub put_many-requires-3 : goal.put_many-requires-3
put_many-requires-3 c = rw c.as_slice-3.ensures (within Second c.args.raw.now c.requires).each_list

pub put_many-requires-4 : goal.put_many-requires-4
put_many-requires-4 c = rw c.as_slice-4.ensures (within Second c.args.raw.now c.requires).each_pattern

pub put_many-requires-5 : goal.put_many-requires-5
put_many-requires-5 c = rw c.as_slice-5.ensures (within Second c.args.raw.now c.requires).each_set

pub put_many-requires-6 : goal.put_many-requires-6
put_many-requires-6 c = rw c.as_slice-6.ensures (within Second c.args.raw.now c.requires).each_op

pub returns-clause-room : goal.returns-clause-room
returns-clause-room c = record {
  nums = subst (All HasRoomNumber) c.as_slice.ensures c.in_ok-put_many.ensures.room;
  texts = subst (All AreBytes) c.as_slice-2.ensures c.in_ok-put_many-2.ensures.room;
  lists = subst (All (All AreBytes)) c.as_slice-3.ensures c.in_ok-put_many-3.ensures.room;
  patterns = subst (All HasRoomPattern) c.as_slice-4.ensures c.in_ok-put_many-4.ensures.room;
  sets = subst (All (All HasRoomPattern)) c.as_slice-5.ensures c.in_ok-put_many-5.ensures.room;
  code = subst (All HasRoomOp) c.as_slice-6.ensures c.in_ok-put_many-6.ensures.room;
}
