use Rattle.std.proofs.Common.{◌++◌, ◌∙◌}
use Rattle.sym_chunks.specs.Cases.{choose}
use Rattle.sym_chunks.specs.View.{chunk_branches_view}
use Rattle.sym_chunks.proofs.Elements.{ok_to}
use Rattle.block_sym.proofs.Loops.{joined_two}
use Rattle.block_sym.proofs.freeing.free.Goals as goal

pub returns : goal.returns
returns c =
    ok_to c.choose.result _ _ (λ bs is. joined_two _ _ _ _ _ c.in_ok-refused.ensures
    (is ∙ (λ i. chunk_branches_view c.in_ok-refused.refused ++ choose (c.in_ok-first.ensures i) (c.in_ok-cases.ensures i)))) c.choose.ensures
