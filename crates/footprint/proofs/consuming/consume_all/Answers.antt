use Rattle.std.proofs.Common.{[], ◌∷◌, map, sym, subst}
use Rattle.gil_syntax.specs.Program.{prog_view}
use Rattle.gil_syntax.specs.View.{assertion_view, pred_def_view}
use Rattle.pure_terms.specs.Meaning.{AreOver}
use Rattle.sym_evaluation.specs.View.{store_view}
use Rattle.sym_model.specs.Lists.{Each}
use Rattle.sym_states.specs.Meaning.{Serves}
use Rattle.sym_states.specs.View.{state_view}
use Rattle.sym_states.proofs.Values.{ok_to}
use Rattle.footprint.specs.Answers.{AnswersLeaves}
use Rattle.footprint.specs.Assertions.{cases_at, ItemsGive, ItemsStop}
use Rattle.footprint.specs.Consuming.{CasesMayMatch, Matches, StopsAt}
use Rattle.footprint.specs.Leaves.{AreLeaves, IsAnswer}
use Rattle.footprint.specs.Origins.{AnswerComesFrom, IsOneOf, origin_of}
use Rattle.footprint.specs.View.{leaves_view, matching_view}
use Rattle.footprint.proofs.AnswerLaws.{stops_over, leaves_answer}
use Rattle.footprint.proofs.TryOrigins.{answer_from, consumed_from}
use Rattle.footprint.proofs.consuming.consume_all.Goals as goal

pub match_items-requires : goal.match_items-requires
match_items-requires g c = record {
  start = record { over = c.requires.over; store_over = c.requires.store_over };
  may = c.requires.may;
  cases = subst (CasesMayMatch g.M.Local.LocalMemory.memory) (sym c.preds.ensures) c.requires.cases;
}

pub answer-requires : goal.answer-requires
answer-requires g c =
    let s = state_view c.args.state in
    let bs = store_view c.args.store in
    let scope = c.args.scope.now in
    let items = assertion_view c.args.items.now in
    let cs = cases_at (map pred_def_view c.preds.result.now) 1 in
    let leaves = leaves_view c.in_ok-leaves.leaves in
    subst (λ vars. Each (λ x. AreOver vars x.conds) leaves.stopped) (sym c.in_ok-vars.ensures)
    (stops_over g.M.SymMemory.stands g.M.SymMemory.terms g.M.SymMemory.kept s (Serves g.M.SymMemory.stands g.M.SymMemory.terms s bs) (ItemsGive cs scope items) (ItemsStop cs scope items) leaves c.in_ok-leaves.ensures.says.0)

pub returns-clause-says : goal.returns-clause-says
returns-clause-says g c =
    let s = state_view c.args.state in
    let bs = store_view c.args.store in
    let scope = c.args.scope.now in
    let items = assertion_view c.args.items.now in
    let preds = (prog_view c.args.prog.now).preds in
    let leaves = leaves_view c.in_ok-leaves.leaves in
    let If = Serves g.M.SymMemory.stands g.M.SymMemory.terms s bs in
    let are : AreLeaves g.M.SymMemory.stands g.M.SymMemory.terms g.M.SymMemory.kept s If (Matches preds scope items) (StopsAt preds scope items) leaves =
    subst (λ ps. AreLeaves g.M.SymMemory.stands g.M.SymMemory.terms g.M.SymMemory.kept s If (ItemsGive (cases_at ps 1) scope items) (ItemsStop (cases_at ps 1) scope items) leaves) c.preds.ensures c.in_ok-leaves.ensures.says.0 in
    ok_to c.answer.result _ (λ r. IsAnswer g.M.SymMemory.stands g.M.SymMemory.terms g.M.SymMemory.kept s If (Matches preds scope items) (StopsAt preds scope items) (matching_view r))
    (λ r is. leaves_answer g.M.SymMemory.stands g.M.SymMemory.terms g.M.SymMemory.kept s If (Matches preds scope items) (StopsAt preds scope items) leaves are (λ v t l serves. serves.state.proper) (matching_view r)
    (subst (λ vars. AnswersLeaves vars leaves (matching_view r)) c.in_ok-vars.ensures is)) c.answer.ensures

pub returns-clause-origin : goal.returns-clause-origin
returns-clause-origin g c =
    let s = state_view c.args.state in
    let bs = store_view c.args.store in
    let scope = c.args.scope.now in
    let items = assertion_view c.args.items.now in
    let preds = (prog_view c.args.prog.now).preds in
    let leaves = leaves_view c.in_ok-leaves.leaves in
    let o = origin_of g.M.SymMemory.terms preds scope (items ∷ []) bs s in
    ok_to c.answer.result _ (λ r. AnswerComesFrom g.M.SymMemory.terms o (IsOneOf scope (items ∷ [])) s.conds (matching_view r))
    (λ r is. answer_from g.M.SymMemory.terms o (IsOneOf scope (items ∷ [])) s.conds s.vars leaves (consumed_from g.M.SymMemory.terms preds (map pred_def_view c.preds.result.now) c.preds.ensures scope items s bs leaves c.in_ok-leaves.ensures.origin)
    (matching_view r) (subst (λ vars. AnswersLeaves vars leaves (matching_view r)) c.in_ok-vars.ensures is)) c.answer.ensures
