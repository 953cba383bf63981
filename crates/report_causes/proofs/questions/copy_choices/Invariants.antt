use Rattle.std.proofs.Common.{◌≡◌, take}
use Rattle.report_causes.proofs.questions.copy_choices.Given as goal

abbrev pub invariant-loop-choice : goal.invariant-loop-choice
invariant-loop-choice l = l.copied ≡ take l.choice-index l.choice-items
