use Rattle.std.proofs.lemmas.Result.{IfOk-weaker}
use Rattle.std.specs.Option.{option_map}
use Rattle.gil_syntax.specs.View.{spec_view}
use Rattle.pure_terms.specs.View.{atoms_view}
use Rattle.solver_proof.specs.View.{proof_view}
use Rattle.spec_vacuity.proofs.Refuted.{over_made, refuted, vacuous_found}
use Rattle.spec_vacuity.proofs.vacuity.vacuous.Goals as goal

pub refute-requires : goal.refute-requires
refute-requires g c =
    over_made (spec_view c.args.spec.now) c.in_ok-variables.variables c.in_ok-table.table (atoms_view c.in_ok-atoms.atoms) c.in_ok-variables.ensures
    c.in_ok-table.ensures c.in_ok-atoms.ensures

pub returns : goal.returns
returns g c =
    let s = spec_view c.args.spec.now in
    let rightly = refuted s c.in_ok-variables.variables c.in_ok-table.table (atoms_view c.in_ok-atoms.atoms) c.in_ok-variables.ensures c.in_ok-table.ensures c.in_ok-atoms.ensures in
    record {
      refutes = IfOk-weaker c.refute.result _ _ (λ found is. rightly (option_map proof_view found) is) c.refute.ensures;
      vacuous = IfOk-weaker c.refute.result _ _ (λ found is. vacuous_found c.closed_lists_have_no_solution.ensures s found (rightly (option_map proof_view found) is)) c.refute.ensures;
    }
