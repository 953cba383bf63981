use Rattle.std.proofs.Common.{map, take, Some}
use Rattle.pure_terms.specs.View.{terms_view}
use Rattle.sym_states.specs.View.{facts_view}
use Rattle.sym_unfolding.specs.Searching.{Searches}
use Rattle.sym_unfolding.specs.View.{search_view}
use Rattle.sym_unfolding.proofs.searching.search_first.Given as goal

abbrev pub invariant-loop-place : goal.invariant-loop-place
invariant-loop-place l = Searches l.pred (terms_view l.ins) (map Some (terms_view l.outs)) (facts_view (take l.place l.items)) (search_view l.search)
