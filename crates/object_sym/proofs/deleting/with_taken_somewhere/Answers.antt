use Rattle.std.proofs.Common.{◌++◌, refl}
use Rattle.std.specs.List.{remove}
use Rattle.object_sym.specs.Table.{taken_from}
use Rattle.pure_terms.specs.View.{term_view}
use Rattle.sym_chunks.specs.Cases.{case_of, true_term}
use Rattle.sym_chunks.specs.Keys.{at_key}
use Rattle.sym_chunks.specs.View.{cases_view}
use Rattle.sym_model.specs.Alternatives.{alternatives_view, both}
use Rattle.sym_model.specs.Pure.{done}
use Rattle.sym_model.specs.View.{frag_view, sub_view, chunk_view}
use Rattle.sym_chunks.proofs.Loops.{from_on}
use Rattle.object_sym.proofs.deleting.with_taken_somewhere.Goals as goal

pub loop-index-preserved : goal.loop-index-preserved
loop-index-preserved c =
    let y = alternatives_view c.args.when.now in
    let loc = term_view c.args.loc.now in
    let s = sub_view c.args.name.now in
    let less = frag_view c.args.less.now in
    from_on chunk_view (taken_from y loc s less) (λ i d. case_of (both y (at_key loc s d)) (remove less i) (done true_term)) (λ i d ds. refl)
    c.as_slice-chunk-items.result.now c.loop-index.index c.chunk-item.result
    (cases_view c.loop-index.cases) (cases_view c.in_ok-cases.cases) (cases_view c.args.cases ++ taken_from y loc s less 0 (frag_view c.args.chunks.now))
    c.loop-index-test.true c.chunk-item.is c.loop-index.invariant c.in_ok-cases.ensures
