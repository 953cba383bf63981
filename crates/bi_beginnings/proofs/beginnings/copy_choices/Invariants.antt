use Rattle.std.proofs.Common.{◌≡◌, take}
use Rattle.bi_beginnings.proofs.beginnings.copy_choices.Given as goal

abbrev pub invariant-loop-choice : goal.invariant-loop-choice
invariant-loop-choice l = l.copied ≡ take l.choice-index l.choice-items
