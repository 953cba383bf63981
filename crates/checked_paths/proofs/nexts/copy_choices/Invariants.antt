use Rattle.std.proofs.Common.{◌≡◌, take}
use Rattle.checked_paths.proofs.nexts.copy_choices.Given as goal

abbrev pub invariant-loop-choice : goal.invariant-loop-choice
invariant-loop-choice l = l.copied ≡ take l.choice-index l.choice-items
