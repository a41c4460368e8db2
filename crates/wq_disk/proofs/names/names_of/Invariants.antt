-- the bytes that were read
use Rattle.wq_disk.proofs.names.names_of.Given as goal

abbrev pub invariant-loop : goal.invariant-loop
invariant-loop g l = g.S.FileSystem.reads l.system l.asked.path l.directory l.text.items
