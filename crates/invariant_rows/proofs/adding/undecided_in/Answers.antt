use Rattle.std.proofs.Common.{subst, ◌∙◌}
use Rattle.sym_paths.specs.View.{path_view}
use Rattle.sym_states.proofs.Values.{ok_to}
use Rattle.sym_states.specs.View.{state_view}
use Rattle.checked_paths.specs.declared.nexts.FaultKind.{FaultKind}
use Rattle.checked_paths.specs.View.{checking_view, next_view}
use Rattle.checked_rows.specs.Doubts.{beyond, IsDoubtNext}
use Rattle.checked_rows.specs.States.{with_state}
use Rattle.invariant_rows.proofs.adding.undecided_in.Goals as goal

pub returns : goal.returns
returns g c =
    let here = c.args.here.now in
    let s = state_view c.args.state in
    let x = checking_view c.args.checking.now in
    let same = c.in_ok-conds.ensures ∙ c.atoms.ensures in
    ok_to c.doubted_next.result _ (λ n. IsDoubtNext FaultKind.Invariant here (with_state x.path s) (beyond s.conds c.args.reason) (next_view n))
    (λ n doubt. subst (λ q. IsDoubtNext FaultKind.Invariant here q (beyond s.conds c.args.reason) (next_view n)) c.in_ok-path.ensures.path
    (subst (λ cs. IsDoubtNext FaultKind.Invariant here (path_view c.in_ok-path.path) (beyond cs c.args.reason) (next_view n)) same doubt)) c.doubted_next.ensures.shows
