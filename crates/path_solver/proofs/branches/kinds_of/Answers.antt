use Rattle.std.proofs.Common.{map, sym, ap, ◌∙◌, subst}
use Rattle.pure_terms.specs.Pure.{variable, positive}
use Rattle.pure_terms.specs.View.{atoms_view}
use Rattle.solver_proof.specs.Chains.{kind_is}
use Rattle.path_solver.specs.declared.branches.Form.{Form}
use Rattle.path_solver.specs.Searching.{SplitsInto}
use Rattle.path_solver.proofs.Branching.{splits_by_kinds}
use Rattle.path_solver.proofs.branches.kinds_of.Goals as goal

pub returns : goal.returns
returns c =
    subst (SplitsInto c.args.vars.now (atoms_view c.args.list.now) (Form.Cases c.args.subject)) (sym (c.in_ok-atoms.ensures ∙ ap (map (λ k. positive (kind_is (variable c.args.subject) k))) c.as_slice.ensures))
    (splits_by_kinds c.args.vars.now (atoms_view c.args.list.now) c.args.subject c.requires)
