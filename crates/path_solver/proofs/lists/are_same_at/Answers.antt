use Rattle.std.proofs.Common.{Some, sym, ap, ◌∙◌}
use Rattle.pure_terms.specs.View.{atom_view}
use Rattle.path_solver.proofs.Appending.{got_at}
use Rattle.path_solver.proofs.lists.are_same_at.Goals as goal

pub returns-in-Some-get : goal.returns-in-Some-get
returns-in-Some-get c = λ h.
    record {
      atom = atom_view c.in-Some.first.now;
      at_left = got_at c.args.left.now c.args.place c.in-Some.first.now c.in-Some.ensures;
      at_right = got_at c.args.right.now c.args.place c.in-Some-get.second.now c.in-Some-get.ensures ∙ ap Some (sym (c.are_same.ensures h));
    }
