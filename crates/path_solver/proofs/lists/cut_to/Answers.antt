use Rattle.std.proofs.Common.{◌≡◌, ◌+◌, ◌≤◌, List, [], ◌∷◌, ◌++◌, length, take, sym, ap, ◌∙◌, subst, arith}
use Rattle.pure_terms.specs.declared.atoms.Atom.{Atom}
use Rattle.path_solver.proofs.Appending.{take_pop, split_last, length-last}
use Rattle.path_solver.proofs.lists.cut_to.Goals as goal

pub loop-list-preserved : goal.loop-list-preserved
loop-list-preserved c =
    let long : 1 ≤ length c.loop-list.list = omega (arith, c.loop-list-test.true, c.len.ensures) in
    let (kept, (last, is)) = split_last c.loop-list.list long in
    let now = c.cut_last.ensures kept last is in
    let size : length c.loop-list.list ≡ length kept + 1 = ap length is ∙ length-last kept last in
    let same : length c.cut_last.new.list ≡ length kept = ap length now in
    let first : kept ++ last ∷ [] ≡ take (length (kept ++ last ∷ [])) c.args.list.now = subst (λ (xs : List Atom). xs ≡ take (length xs) c.args.list.now) is c.loop-list.invariant.first in
    record {
      long = omega (arith, size, same, c.loop-list-test.true, c.len.ensures);
      first = subst (λ (xs : List Atom). xs ≡ take (length xs) c.args.list.now) (sym now) (take_pop kept c.args.list.now last first);
    }

pub loop-list-smaller : goal.loop-list-smaller
loop-list-smaller c =
    let long : 1 ≤ length c.loop-list.list = omega (arith, c.loop-list-test.true, c.len.ensures) in
    let (kept, (last, is)) = split_last c.loop-list.list long in
    let size : length c.loop-list.list ≡ length kept + 1 = ap length is ∙ length-last kept last in
    let same : length c.cut_last.new.list ≡ length kept = ap length (c.cut_last.ensures kept last is) in
    omega (arith, size, same)
