use Rattle.std.proofs.Common.{◌≡◌, take}
use Rattle.syntax_copy.proofs.expressions.copy_texts.Given as goal

abbrev pub invariant-loop-text : goal.invariant-loop-text
invariant-loop-text l = l.list ≡ take l.text-index l.texts
