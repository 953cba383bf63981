use Rattle.std.proofs.Common.{inl, inr, subst}
use Rattle.pure_terms.specs.Meaning.{IsUnsatisfiable}
use Rattle.pure_terms.specs.View.{atoms_view}
use Rattle.sym_paths.specs.Asking.{IsRightly}
use Rattle.sym_paths.specs.AskingView.{satisfiability_view}
use Rattle.footprint.specs.View.{match_view}
use Rattle.footprint.proofs.pruning.prune_match.Goals as goal

pub returns-in-Unsatisfiable : goal.returns-in-Unsatisfiable
returns-in-Unsatisfiable g c =
    let m = match_view c.args.found in
    let never : IsUnsatisfiable m.state.vars m.state.conds = subst (IsUnsatisfiable m.state.vars) c.atoms.ensures (subst (λ x. IsRightly m.state.vars (atoms_view c.atoms.result.now) (satisfiability_view x)) c.in-Unsatisfiable.is c.in_ok-ask.ensures) in
    inr (inl (c.new.ensures, never))
