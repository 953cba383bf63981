use Rattle.std.proofs.Common.{◌≡◌, map, take}
use Rattle.spec_answers.specs.Answering.{entry_of}
use Rattle.spec_answers.proofs.answering.entries_of.Given as goal

abbrev pub invariant-loop-one : goal.invariant-loop-one
invariant-loop-one g l = l.entries ≡ map entry_of (take l.one-index l.examined)
