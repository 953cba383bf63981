use Rattle.source_text.proofs.NamingLemmas.{SoFar}
use Rattle.source_text.proofs.naming.foreign_name.Given as goal

abbrev pub invariant-loop : goal.invariant-loop
invariant-loop l = SoFar l.fn.cursor l.rest l.counter
