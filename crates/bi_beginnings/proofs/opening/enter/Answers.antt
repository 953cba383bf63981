use Rattle.std.proofs.Common.{sym, subst, ◌∙◌, true≢false}
use Rattle.gil_values.specs.View.{values_view}
use Rattle.gil_syntax.specs.View.{proc_view}
use Rattle.pure_terms.specs.Fragment.{InFragment}
use Rattle.pure_terms.specs.Meaning.{AreOver}
use Rattle.pure_terms.specs.View.{terms_view, atoms_view}
use Rattle.sym_paths.specs.Asking.{IsSolution, IsRightly}
use Rattle.sym_paths.specs.AskingView.{satisfiability_view}
use Rattle.sym_paths.proofs.AskedFragments.{each_over_all}
use Rattle.sym_model.specs.View.{path_view as conditions_view}
use Rattle.sym_paths.specs.View.{path_view}
use Rattle.sym_states.specs.View.{state_view}
use Rattle.bi_beginnings.proofs.Covering.{begins_exactly}
use Rattle.bi_beginnings.proofs.Narrowness.{begins_narrow, start_inside}
use Rattle.bi_beginnings.proofs.Openings.{as_many, opens, begins_bare, none_inside}
use Rattle.bi_beginnings.proofs.opening.enter.Goals as goal

pub ask-requires : goal.ask-requires
ask-requires g c =
    subst (AreOver c.args.state.vars) (sym c.atoms.ensures) (each_over_all c.args.state.vars (conditions_view c.args.state.conds) c.requires.entry.over.conds)

pub start_from-requires : goal.start_from-requires
start_from-requires g c = as_many (proc_view c.args.proc.now).params (terms_view c.args.args.now) c.requires.args

pub returns-in_ok-start_from-in-Satisfiable-clause-starts : goal.returns-in_ok-start_from-in-Satisfiable-clause-starts
returns-in_ok-start_from-in-Satisfiable-clause-starts g c =
    let v = values_view c.in-Satisfiable.field-0 in
    let right = subst (λ s. IsRightly c.args.state.vars (atoms_view c.atoms.result.now) (satisfiability_view s)) c.in-Satisfiable.is c.in_ok-ask.ensures in (
      opens g.M.SymMemory.stands g.M.SymMemory.terms g.M.SymMemory.kept (proc_view c.args.proc.now) (state_view c.args.state) (terms_view c.args.args.now)
          (path_view c.in_ok-start_from-in-Satisfiable.field-0) v c.requires.entry c.requires.args c.in_ok-start_from-in-Satisfiable.ensures
          (subst (λ atoms. IsSolution c.args.state.vars atoms v) c.atoms.ensures right),
      tt,
    )

pub returns-in_ok-start_from-in-Satisfiable-clause-exact : goal.returns-in_ok-start_from-in-Satisfiable-clause-exact
returns-in_ok-start_from-in-Satisfiable-clause-exact g c = λ b exact.
    let v = values_view c.in-Satisfiable.field-0 in
    let right = subst (λ s. IsRightly c.args.state.vars (atoms_view c.atoms.result.now) (satisfiability_view s)) c.in-Satisfiable.is c.in_ok-ask.ensures in
    let solution : IsSolution c.args.state.vars (conditions_view c.args.state.conds) v = subst (λ atoms. IsSolution c.args.state.vars atoms v) c.atoms.ensures right in (
      begins_exactly g.M.SymMemory.stands (proc_view c.args.proc.now) (terms_view c.args.args.now) b (state_view c.args.state) (path_view c.in_ok-start_from-in-Satisfiable.field-0)
          c.in_ok-start_from-in-Satisfiable.ensures solution.no_form exact,
      tt,
    )

pub returns-in-Unsatisfiable-clause-exact : goal.returns-in-Unsatisfiable-clause-exact
returns-in-Unsatisfiable-clause-exact g c = λ b exact. tt

pub returns-in_ok-query_of-in-Undecided-clause-exact : goal.returns-in_ok-query_of-in-Undecided-clause-exact
returns-in_ok-query_of-in-Undecided-clause-exact g c = λ b exact. tt

pub returns-in_ok-start_from-in-Satisfiable-clause-bare : goal.returns-in_ok-start_from-in-Satisfiable-clause-bare
returns-in_ok-start_from-in-Satisfiable-clause-bare g c = λ bare. record {
  decided = λ some. true≢false (sym some);
  each_start = (
    begins_bare g.M.Local.LocalMemory.memory g.M.SymMemory.stands g.M.SymMemory.terms g.M.SymMemory.kept g.M.SymMemory.plain g.met.M.SymMemory.plain_is_said (proc_view c.args.proc.now) (state_view c.args.state)
        (terms_view c.args.args.now) (path_view c.in_ok-start_from-in-Satisfiable.field-0) c.requires.entry bare c.requires.args c.in_ok-start_from-in-Satisfiable.ensures,
    tt,
  );
}

pub returns-in-Unsatisfiable-clause-bare : goal.returns-in-Unsatisfiable-clause-bare
returns-in-Unsatisfiable-clause-bare g c = λ bare. record { decided = λ some. true≢false (sym some); each_start = tt }

pub returns-in_ok-query_of-in-Undecided-clause-bare : goal.returns-in_ok-query_of-in-Undecided-clause-bare
returns-in_ok-query_of-in-Undecided-clause-bare g c = λ bare.
    let right = subst (λ s. IsRightly c.args.state.vars (atoms_view c.atoms.result.now) (satisfiability_view s)) c.in-Undecided.is c.in_ok-ask.ensures in
    absurd (right.outside (none_inside (atoms_view c.atoms.result.now) (c.atoms.ensures ∙ bare.no_condition)))

pub returns-in_ok-start_from-in-Satisfiable-clause-narrow : goal.returns-in_ok-start_from-in-Satisfiable-clause-narrow
returns-in_ok-start_from-in-Satisfiable-clause-narrow g c = λ n within start. record {
  decided = λ some. true≢false (sym some);
  each_start = (
    begins_narrow g.M.SymMemory.terms n (proc_view c.args.proc.now) (terms_view c.args.args.now) (state_view c.args.state) (path_view c.in_ok-start_from-in-Satisfiable.field-0) start
        c.in_ok-start_from-in-Satisfiable.ensures,
    tt,
  );
}

pub returns-in-Unsatisfiable-clause-narrow : goal.returns-in-Unsatisfiable-clause-narrow
returns-in-Unsatisfiable-clause-narrow g c = λ n within start. record { decided = λ some. true≢false (sym some); each_start = tt }

pub returns-in_ok-query_of-in-Undecided-clause-narrow : goal.returns-in_ok-query_of-in-Undecided-clause-narrow
returns-in_ok-query_of-in-Undecided-clause-narrow g c = λ n within start.
    let right = subst (λ s. IsRightly c.args.state.vars (atoms_view c.atoms.result.now) (satisfiability_view s)) c.in-Undecided.is c.in_ok-ask.ensures in
    absurd (right.outside (subst InFragment (sym c.atoms.ensures) (start_inside g.M.SymMemory.terms n within (state_view c.args.state) c.requires.entry.over start)))

pub returns-in_ok-query_of-in-Undecided-clause-asked : goal.returns-in_ok-query_of-in-Undecided-clause-asked
returns-in_ok-query_of-in-Undecided-clause-asked g c =
    let says = c.in_ok-query_of-in-Undecided.ensures in
    record { at_place = says.place; same_choices = says.choices; table = says.vars; none_given = says.given; asks = says.query }
