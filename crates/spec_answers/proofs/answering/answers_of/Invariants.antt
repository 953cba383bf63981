use Rattle.std.proofs.Common.{◌≡◌}
use Rattle.spec_answers.specs.Answering.{answers_of}
use Rattle.spec_answers.proofs.answering.answers_of.Given as goal

abbrev pub invariant-loop-one : goal.invariant-loop-one
invariant-loop-one g l = l.answers ≡ answers_of l.yielded l.entries
