use Rattle.std.proofs.Common.{subst, ◌∙◌}
use Rattle.pure_terms.specs.View.{atoms_view}
use Rattle.sym_paths.specs.View.{path_view}
use Rattle.sym_states.proofs.Values.{ok_to}
use Rattle.sym_states.specs.View.{state_view}
use Rattle.checked_paths.specs.declared.nexts.FaultKind.{FaultKind}
use Rattle.checked_paths.specs.View.{checking_view, next_view}
use Rattle.checked_rows.specs.Doubts.{beyond, IsDoubtNext}
use Rattle.checked_rows.specs.States.{with_state}
use Rattle.call_rows.proofs.leaving.undecided_next.Goals as goal

pub returns : goal.returns
returns g c =
    let y = checking_view c.args.checking.now in
    let r = state_view c.args.state in
    let conds = atoms_view c.in_ok-conds.conds in
    let same = c.in_ok-conds.ensures ∙ c.atoms.ensures in
    ok_to c.doubted_next.result (λ n. IsDoubtNext FaultKind.CallPrecondition c.args.here.now (path_view c.in_ok-path.path) (beyond conds c.args.reason) (next_view n))
    (λ n. IsDoubtNext FaultKind.CallPrecondition c.args.here.now (with_state y.path r) (beyond r.conds c.args.reason) (next_view n))
    (λ n doubt. subst (λ q. IsDoubtNext FaultKind.CallPrecondition c.args.here.now q (beyond r.conds c.args.reason) (next_view n)) c.in_ok-path.ensures.path
    (subst (λ cs. IsDoubtNext FaultKind.CallPrecondition c.args.here.now (path_view c.in_ok-path.path) (beyond cs c.args.reason) (next_view n)) same doubt)) c.doubted_next.ensures.shows
