use Rattle.std.proofs.Common.{◌∷◌, [], ◌++◌, ap, ◌∙◌}
use Rattle.sym_model.specs.View.{frag_view}
use Rattle.block_sym.proofs.Loops.{cells_on}
use Rattle.block_sym.proofs.making.with_cells.Goals as goal

pub loop-offset-preserved : goal.loop-offset-preserved
loop-offset-preserved c =
    cells_on c.args.location c.loop-offset.offset c.args.count (frag_view c.loop-offset.made) (frag_view c.push.new.self) _ c.loop-offset-test.true c.loop-offset.invariant
    (c.in_ok-push.ensures.ok ∙ ap (λ d. frag_view c.loop-offset.made ++ d ∷ []) c.new_cell.ensures)
