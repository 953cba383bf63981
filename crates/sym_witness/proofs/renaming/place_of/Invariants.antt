use Rattle.std.proofs.Common.{◌≡◌, ◌+◌, drop}
use Rattle.sym_witness.specs.Numbering.{place_in}
use Rattle.sym_witness.proofs.renaming.place_of.Given as goal

abbrev pub invariant-loop-place : goal.invariant-loop-place
invariant-loop-place l = place_in l.numbers l.number ≡ l.place + place_in (drop l.place l.numbers) l.number
