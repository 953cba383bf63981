use Rattle.std.proofs.Common.{take}
use Rattle.sym_witness.specs.Numbering.{AreOthers}
use Rattle.sym_witness.proofs.numbering.others.Given as goal

abbrev pub invariant-loop-place : goal.invariant-loop-place
invariant-loop-place l = AreOthers (take l.place l.symbols) l.fresh l.free.items
