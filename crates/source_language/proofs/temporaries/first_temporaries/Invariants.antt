use Rattle.std.proofs.Common.{◌≡◌}
use Rattle.source_language.specs.Names.{temporaries_from}
use Rattle.source_language.proofs.temporaries.first_temporaries.Given as goal

abbrev pub invariant-loop-number : goal.invariant-loop-number
invariant-loop-number l = l.list ≡ temporaries_from 0 l.number
