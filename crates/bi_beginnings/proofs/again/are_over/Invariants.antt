use Rattle.std.proofs.Common.{map, take}
use Rattle.pure_terms.specs.View.{term_view}
use Rattle.sym_model.specs.Terms.{AreEachOver}
use Rattle.bi_beginnings.proofs.again.are_over.Given as goal

abbrev pub invariant-loop-term : goal.invariant-loop-term
invariant-loop-term l = AreEachOver l.vars (map term_view (take l.term-index l.term-items))
