use Rattle.std.proofs.Common.{◌≡◌, map, take, Some}
use Rattle.pure_terms.specs.View.{term_view}
use Rattle.sym_matching.specs.View.{outs_view}
use Rattle.sym_unfolding.proofs.searching.all_known.Given as goal

abbrev pub invariant-loop-term : goal.invariant-loop-term
invariant-loop-term l = outs_view l.known ≡ map Some (map term_view (take l.term-index l.term-items))
