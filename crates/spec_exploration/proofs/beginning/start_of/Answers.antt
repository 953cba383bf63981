use Rattle.std.proofs.Common.{inl, subst, sym}
use Rattle.std.proofs.lemmas.Result.{IfOk-weaker}
use Rattle.gil_values.specs.View.{values_view}
use Rattle.pure_terms.specs.Meaning.{AreOver}
use Rattle.sym_paths.specs.Asking.{IsRightly, IsSolution}
use Rattle.sym_paths.specs.AskingView.{satisfiability_view}
use Rattle.sym_beginning.specs.View.{start_view}
use Rattle.sym_paths.specs.View.{path_view}
use Rattle.checked_paths.specs.View.{next_view}
use Rattle.spec_exploration.proofs.Beginnings.{start_taken}
use Rattle.spec_exploration.proofs.beginning.start_of.Goals as goal

pub ask-requires : goal.ask-requires
ask-requires g c = subst (AreOver c.args.started.path.vars) (sym c.atoms.ensures) c.requires

pub returns-in-Satisfiable : goal.returns-in-Satisfiable
returns-in-Satisfiable g c =
    let path = path_view c.args.started.path in
    let found : IsSolution path.vars path.conds (values_view c.in-Satisfiable.field-0) =
    subst (λ s. IsRightly path.vars path.conds (satisfiability_view s)) c.in-Satisfiable.is (subst (λ atoms. IsRightly path.vars atoms (satisfiability_view c.in_ok-ask.field-0)) c.atoms.ensures c.in_ok-ask.ensures) in
    IfOk-weaker c.path_from.result _ _ (λ n is. start_taken c.args.here.now (start_view c.args.started) (next_view n) found.no_form (inl (values_view c.in-Satisfiable.field-0, found.meets)) is) c.path_from.ensures

pub returns-in-Unsatisfiable : goal.returns-in-Unsatisfiable
returns-in-Unsatisfiable g c =
    let path = path_view c.args.started.path in
    subst (λ s. IsRightly path.vars path.conds (satisfiability_view s)) c.in-Unsatisfiable.is (subst (λ atoms. IsRightly path.vars atoms (satisfiability_view c.in_ok-ask.field-0)) c.atoms.ensures c.in_ok-ask.ensures)

pub undecided_start-requires-clause-outside : goal.undecided_start-requires-clause-outside
undecided_start-requires-clause-outside g c =
    let path = path_view c.args.started.path in
    subst (λ s. IsRightly path.vars path.conds (satisfiability_view s)) c.in-Undecided.is (subst (λ atoms. IsRightly path.vars atoms (satisfiability_view c.in_ok-ask.field-0)) c.atoms.ensures c.in_ok-ask.ensures)
