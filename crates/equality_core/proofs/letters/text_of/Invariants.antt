use Rattle.std.proofs.Common.{◌≡◌}
use Rattle.equality_core.specs.Values.{letters}
use Rattle.equality_core.proofs.letters.text_of.Given as goal

abbrev pub invariant-loop-turn : goal.invariant-loop-turn
invariant-loop-turn l = l.text ≡ letters l._turn
