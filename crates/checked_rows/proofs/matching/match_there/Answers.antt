use Rattle.std.proofs.Common.{[], ◌∷◌}
use Rattle.gil_syntax.specs.Program.{prog_view}
use Rattle.gil_syntax.specs.View.{assertion_view}
use Rattle.footprint.specs.View.{matching_view}
use Rattle.footprint.specs.Consuming.{Matches, StopsAt}
use Rattle.footprint.specs.Leaves.{IsAnswer}
use Rattle.sym_evaluation.specs.View.{store_view}
use Rattle.sym_states.proofs.Values.{ok_to}
use Rattle.sym_states.specs.Meaning.{Serves}
use Rattle.sym_states.specs.View.{state_view}
use Rattle.checked_paths.specs.View.{entry_view, checking_view}
use Rattle.checked_rows.specs.Matching.{MatchesThere}
use Rattle.checked_rows.proofs.MatchLaws.{names_over, over_there, matches_there}
use Rattle.footprint.specs.Origins.{IsOneOf, AnswerComesFrom, origin_of}
use Rattle.checked_rows.specs.Asked.{MatchingAsks}
use Rattle.checked_rows.proofs.AskedStates.{origin_there}
use Rattle.checked_rows.proofs.matching.match_there.Goals as goal

pub consume_all-requires-clause-over : goal.consume_all-requires-clause-over
consume_all-requires-clause-over g c =
    over_there g.M.SymMemory.stands g.M.SymMemory.terms g.M.SymMemory.kept (entry_view c.args.spec.now c.args.entered.now) (checking_view c.args.checking.now) (state_view c.in_ok-state.state) (store_view c.in_ok-names.names) c.requires.over c.in_ok-state.ensures c.in_ok-names.ensures

pub consume_all-requires-clause-store_over : goal.consume_all-requires-clause-store_over
consume_all-requires-clause-store_over g c =
    names_over g.M.SymMemory.stands g.M.SymMemory.terms g.M.SymMemory.kept (entry_view c.args.spec.now c.args.entered.now) (checking_view c.args.checking.now) (state_view c.in_ok-state.state) (store_view c.in_ok-names.names) c.requires.over c.in_ok-state.ensures c.in_ok-names.ensures

pub returns-clause-says : goal.returns-clause-says
returns-clause-says g c =
    ok_to c.consume_all.result
    (λ r. IsAnswer g.M.SymMemory.stands g.M.SymMemory.terms g.M.SymMemory.kept (state_view c.in_ok-state.state) (Serves g.M.SymMemory.stands g.M.SymMemory.terms (state_view c.in_ok-state.state) (store_view c.in_ok-names.names))
    (Matches (prog_view c.args.prog.now).preds c.args.scope.now (assertion_view c.args.items.now)) (StopsAt (prog_view c.args.prog.now).preds c.args.scope.now (assertion_view c.args.items.now)) (matching_view r))
    (λ r. MatchesThere g.M.SymMemory.stands g.M.SymMemory.terms (entry_view c.args.spec.now c.args.entered.now) (checking_view c.args.checking.now) (prog_view c.args.prog.now).preds c.args.scope.now (assertion_view c.args.items.now) (matching_view r))
    (λ r answer. matches_there g.M.SymMemory.stands g.M.SymMemory.terms g.M.SymMemory.kept (entry_view c.args.spec.now c.args.entered.now) (checking_view c.args.checking.now) (state_view c.in_ok-state.state) (store_view c.in_ok-names.names) c.requires.over c.in_ok-state.ensures c.in_ok-names.ensures
    (prog_view c.args.prog.now).preds c.args.scope.now (assertion_view c.args.items.now) (matching_view r) answer)
    c.consume_all.ensures.says

pub returns-clause-origin : goal.returns-clause-origin
returns-clause-origin g c =
    let terms = g.M.SymMemory.terms in
    let e = entry_view c.args.spec.now c.args.entered.now in
    let x = checking_view c.args.checking.now in
    let s = state_view c.in_ok-state.state in
    let bs = store_view c.in_ok-names.names in
    let preds = (prog_view c.args.prog.now).preds in
    let scope = c.args.scope.now in
    let items = assertion_view c.args.items.now in
    ok_to c.consume_all.result (λ r. AnswerComesFrom terms (origin_of terms preds scope (items ∷ []) bs s) (IsOneOf scope (items ∷ [])) s.conds (matching_view r)) (λ r. MatchingAsks terms e x preds scope items (matching_view r))
    (λ r comes. (bs, (c.in_ok-names.ensures, origin_there g.M.SymMemory.stands terms x s c.in_ok-state.ensures preds scope bs (items ∷ []) (IsOneOf scope (items ∷ [])) (matching_view r) comes))) c.consume_all.ensures.origin
