use Rattle.std.proofs.Common.{take}
use Rattle.sym_evaluation.specs.View.{store_view}
use Rattle.sym_matching.specs.Parts.{BindsParams}
use Rattle.sym_matching.specs.View.{stores_view, outs_view}
use Rattle.sym_matching.proofs.cases.bind_params.Given as goal

abbrev pub invariant-loop-index : goal.invariant-loop-index
invariant-loop-index l =
    BindsParams l.sorts (take l.index l.params) (take l.index (outs_view l.fn.terms)) (store_view l.fn.store) (stores_view l.split)
