use Rattle.std.proofs.Common.{subst}
use Rattle.std.specs.Option.{option_map}
use Rattle.sym_evaluation.specs.View.{store_view}
use Rattle.sym_paths.specs.View.{path_view}
use Rattle.sym_states.specs.View.{state_view}
use Rattle.checked_paths.proofs.Copies.{copy_says}
use Rattle.checked_paths.specs.View.{checking_view, passed_by_view, passed_view}
use Rattle.checked_rows.specs.States.{with_state}
use Rattle.invariant_rows.specs.Entering.{OpensPath, running_next}
use Rattle.invariant_rows.proofs.PassedLaws.{one_says}
use Rattle.invariant_rows.proofs.entering.in_loop.Goals as goal

pub returns-in-Some : goal.returns-in-Some
returns-in-Some g c =
    let stands = g.M.SymMemory.stands in
    let terms = g.M.SymMemory.terms in
    let xs = c.args.listed.now in
    let bs = store_view c.args.unlisted.now in
    let x = checking_view c.args.checking.now in
    let s = state_view c.args.state in
    let of_copy = subst (λ cs. OpensPath c.args.scope.now xs cs (path_view c.in_ok-path.path) (option_map path_view c.in_ok-path-2.field-0)) c.in_ok-copy.ensures c.in_ok-path-2.ensures in
    let of_path = subst (λ q. OpensPath c.args.scope.now xs bs q (option_map path_view c.in_ok-path-2.field-0)) c.in_ok-path.ensures.path of_copy in
    let opens = subst (λ o. OpensPath c.args.scope.now xs bs (with_state x.path s) (option_map path_view o)) c.in-Some.is of_path in
    record {
      named = opens.0;
      naming = opens.1.0;
      same_path = opens.1.1;
      same_facts = c.in_ok-path.ensures.facts;
      passed = one_says stands terms (record { at = running_next x.path.stack; memory = s.memory; facts = s.facts; unlisted = bs }) (passed_view c.in_ok-one.one) x.passed (passed_by_view c.in_ok-passed.passed)
          (copy_says stands terms g.M.SymMemory.depends g.M.SymMemory.plain (record { at = running_next x.path.stack; memory = s.memory; facts = s.facts; unlisted = bs }) (passed_view c.in_ok-one.one) c.in_ok-one.ensures.passed c.in_ok-one.ensures.memory)
          c.in_ok-passed.ensures;
    }

pub returns-in-None : goal.returns-in-None
returns-in-None g c =
    let xs = c.args.listed.now in
    let bs = store_view c.args.unlisted.now in
    let x = checking_view c.args.checking.now in
    let s = state_view c.args.state in
    let of_copy = subst (λ cs. OpensPath c.args.scope.now xs cs (path_view c.in_ok-path.path) (option_map path_view c.in_ok-path-2.field-0)) c.in_ok-copy.ensures c.in_ok-path-2.ensures in
    let of_path = subst (λ q. OpensPath c.args.scope.now xs bs q (option_map path_view c.in_ok-path-2.field-0)) c.in_ok-path.ensures.path of_copy in
    subst (λ o. OpensPath c.args.scope.now xs bs (with_state x.path s) (option_map path_view o)) c.in-None.is of_path
