use Rattle.std.proofs.Common.{map, take, Some, sym, subst}
use Rattle.pure_terms.specs.View.{terms_view}
use Rattle.sym_states.specs.View.{fact_view, facts_view}
use Rattle.sym_unfolding.specs.Searching.{LooksAt, Searches}
use Rattle.sym_unfolding.specs.View.{search_view}
use Rattle.sym_unfolding.proofs.AddLaws.{map_more, length_taken}
use Rattle.sym_unfolding.proofs.SearchLaws.{searched_more}
use Rattle.sym_unfolding.proofs.searching.search_first.Goals as goal

pub loop-place-preserved : goal.loop-place-preserved
loop-place-preserved c =
    let x = c.args.pred.now in
    let ins = terms_view c.args.ins.now in
    let outs = map Some (terms_view c.args.outs.now) in
    let xs = c.as_slice-items.result.now in
    let i = c.loop-place.place in
    let fact = c.index-items-place.result in
    let looks : LooksAt x ins outs i (fact_view fact) (search_view c.loop-place.search) (search_view c.in_ok-search.search) =
    subst (λ os. LooksAt x ins os i (fact_view fact) (search_view c.loop-place.search) (search_view c.in_ok-search.search)) c.in_ok-known.ensures c.in_ok-search.ensures in
    subst (λ cs. Searches x ins outs cs (search_view c.in_ok-search.search)) (sym (map_more fact_view xs i fact c.loop-place-test.true c.index-items-place.is))
    (searched_more x ins outs (facts_view (take i xs)) (fact_view fact) (search_view c.loop-place.search) (search_view c.in_ok-search.search) i (length_taken fact_view xs i c.loop-place-test.true) c.loop-place.invariant looks)
