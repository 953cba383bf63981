use Rattle.std.proofs.Common.{subst}
use Rattle.gil_values.specs.View.{values_view}
use Rattle.pure_terms.specs.View.{atoms_view}
use Rattle.sym_paths.specs.Asking.{IsRightly}
use Rattle.sym_paths.specs.AskingView.{satisfiability_view}
use Rattle.spec_causes.proofs.Shown.{told_met}
use Rattle.spec_causes.proofs.showing.asked.Goals as goal

pub returns-in_ok-numbered-in-Satisfiable : goal.returns-in_ok-numbered-in-Satisfiable
returns-in_ok-numbered-in-Satisfiable g c =
    let vars = c.args.shown.now.vars in
    let atoms = atoms_view c.args.shown.now.conds in
    let found = subst (λ s. IsRightly vars atoms (satisfiability_view s)) c.in-Satisfiable.is c.in_ok-found.ensures in
    told_met vars atoms (values_view c.in-Satisfiable.found) (values_view c.in_ok-numbered-in-Satisfiable.field-0) found.meets c.in_ok-numbered-in-Satisfiable.ensures
