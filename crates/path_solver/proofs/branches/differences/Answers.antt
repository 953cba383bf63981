use Rattle.std.proofs.Common.{◌≡◌, ◌≤◌, ◌∙◌, length, min, arith}
use Rattle.std.proofs.lemmas.List.{take_all}
use Rattle.pure_terms.specs.Pure.{from_list}
use Rattle.pure_terms.specs.View.{terms_view}
use Rattle.solver_proof.specs.Closing.{element_disequalities}
use Rattle.solver_proof.proofs.Growing.{length-disequalities}
use Rattle.path_solver.proofs.Appending.{taken_more}
use Rattle.path_solver.proofs.branches.differences.Goals as goal

pub loop-index-preserved : goal.loop-index-preserved
loop-index-preserved c =
    taken_more (element_disequalities (from_list (terms_view c.args.left.now)) (from_list (terms_view c.args.right.now))) c.loop-index.atoms c.push.new.self c.loop-index.index c.in_ok-difference_at.field-0 c.loop-index.invariant c.in_ok-difference_at.ensures c.in_ok-push.ensures.ok

pub returns : goal.returns
returns c =
    let long : length (element_disequalities (from_list (terms_view c.args.left.now)) (from_list (terms_view c.args.right.now))) ≡ min (length (terms_view c.args.left.now)) (length (terms_view c.args.right.now)) = length-disequalities (terms_view c.args.left.now) (terms_view c.args.right.now) in
    let past : length (element_disequalities (from_list (terms_view c.args.left.now)) (from_list (terms_view c.args.right.now))) ≤ c.loop-index.index = grind (arith, long) in
    c.loop-index.invariant ∙ take_all c.loop-index.index _ past
