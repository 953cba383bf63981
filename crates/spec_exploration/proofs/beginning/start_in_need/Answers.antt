use Rattle.std.proofs.Common.{◌≡◌, sym, ap, subst, ◌∙◌}
use Rattle.pure_terms.specs.Meaning.{AreOver, IsUnsatisfiable}
use Rattle.pure_terms.specs.View.{atoms_view}
use Rattle.spec_causes.specs.Causes.{MayBeMet, without_forms}
use Rattle.sym_paths.specs.View.{path_view}
use Rattle.spec_exploration.proofs.Beginnings.{others_over, others_never}
use Rattle.spec_exploration.proofs.beginning.start_in_need.Goals as goal

pub may_be_met-requires : goal.may_be_met-requires
may_be_met-requires g c =
    let path = path_view c.args.started.path in
    let are : atoms_view c.in_ok-others.others ≡ without_forms path.conds = c.in_ok-others.ensures ∙ ap without_forms c.atoms.ensures in
    subst (AreOver path.vars) (sym are) (others_over path.vars path.conds c.requires.over)

pub returns-then-not-branch : goal.returns-then-not-branch
returns-then-not-branch g c =
    let path = path_view c.args.started.path in
    let are : atoms_view c.in_ok-others.others ≡ without_forms path.conds = c.in_ok-others.ensures ∙ ap without_forms c.atoms.ensures in
    others_never path.vars path.conds (subst (IsUnsatisfiable path.vars) are (c.in_ok-may_be_met.ensures.none c.if-not-branch.true))

pub returns : goal.returns
returns g c =
    let path = path_view c.args.started.path in
    let are : atoms_view c.in_ok-others.others ≡ without_forms path.conds = c.in_ok-others.ensures ∙ ap without_forms c.atoms.ensures in
    record {
      needed = c.requires.needed;
      outside = c.requires.outside;
      may_be_met = subst (MayBeMet path.vars) are (c.in_ok-may_be_met.ensures.met c.if-not-branch.false);
      is = c.in_ok-shown.ensures;
    }
