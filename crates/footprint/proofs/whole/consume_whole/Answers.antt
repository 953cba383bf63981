use Rattle.std.proofs.Common.{List, map, sym, subst}
use Rattle.gil_syntax.specs.Program.{prog_view}
use Rattle.gil_syntax.specs.Pure.{PurePredDef}
use Rattle.gil_syntax.specs.View.{assertion_view, pred_def_view}
use Rattle.pure_terms.specs.declared.variables.Sort.{Sort}
use Rattle.pure_terms.specs.Meaning.{AreOver}
use Rattle.sym_evaluation.specs.View.{store_view}
use Rattle.sym_model.specs.Lists.{Each}
use Rattle.sym_states.specs.Meaning.{Serves}
use Rattle.sym_states.specs.View.{state_view}
use Rattle.sym_states.proofs.Values.{ok_to}
use Rattle.footprint.specs.Answers.{AnswersLeaves}
use Rattle.footprint.specs.Assertions.{cases_at}
use Rattle.footprint.specs.Consuming.{CasesMayMatch, MatchesWhole, MatchesNone}
use Rattle.footprint.specs.Leaves.{AreLeaves, IsAnswer}
use Rattle.footprint.specs.Origins.{AnswerComesFrom, IsOneOf, origin_of}
use Rattle.footprint.specs.Plainly.{IsPlainMemory, ConsumesPlainly, widened, item_count}
use Rattle.footprint.specs.View.{leaves_view, matching_view}
use Rattle.footprint.specs.Whole.{SomeGives, SomeStops}
use Rattle.footprint.proofs.AnswerLaws.{stops_over, leaves_answer}
use Rattle.footprint.proofs.Plainness.{answer_decided}
use Rattle.footprint.proofs.TryOrigins.{answer_from, wholes_from}
use Rattle.footprint.proofs.whole.consume_whole.Goals as goal

pub try_posts-requires : goal.try_posts-requires
try_posts-requires g c = record {
  over = record { over = c.requires.over; store_over = c.requires.store_over };
  may = c.requires.may;
  cases = subst (CasesMayMatch g.M.Local.LocalMemory.memory) (sym c.preds.ensures) c.requires.cases;
}

pub answer-requires : goal.answer-requires
answer-requires g c =
    let s = state_view c.args.state in
    let bs = store_view c.args.store in
    let scope = c.args.scope.now in
    let posts = map assertion_view c.args.posts.now in
    let cs = cases_at (map pred_def_view c.preds.result.now) 1 in
    let leaves = leaves_view c.in_ok-leaves.leaves in
    subst (λ (vars : List Sort). Each (λ x. AreOver vars x.conds) leaves.stopped) (sym c.in_ok-vars.ensures)
    (stops_over g.M.SymMemory.stands g.M.SymMemory.terms g.M.SymMemory.kept s (Serves g.M.SymMemory.stands g.M.SymMemory.terms s bs) (SomeGives cs scope posts) (SomeStops cs scope posts) leaves c.in_ok-leaves.ensures.says.0)

pub returns-clause-says : goal.returns-clause-says
returns-clause-says g c =
    let s = state_view c.args.state in
    let bs = store_view c.args.store in
    let scope = c.args.scope.now in
    let posts = map assertion_view c.args.posts.now in
    let preds = (prog_view c.args.prog.now).preds in
    let leaves = leaves_view c.in_ok-leaves.leaves in
    let If = Serves g.M.SymMemory.stands g.M.SymMemory.terms s bs in
    let are : AreLeaves g.M.SymMemory.stands g.M.SymMemory.terms g.M.SymMemory.kept s If (MatchesWhole preds scope posts) (MatchesNone preds scope posts) leaves =
    subst (λ (ps : List PurePredDef). AreLeaves g.M.SymMemory.stands g.M.SymMemory.terms g.M.SymMemory.kept s If (SomeGives (cases_at ps 1) scope posts) (SomeStops (cases_at ps 1) scope posts) leaves) c.preds.ensures c.in_ok-leaves.ensures.says.0 in
    ok_to c.answer.result _ (λ r. IsAnswer g.M.SymMemory.stands g.M.SymMemory.terms g.M.SymMemory.kept s If (MatchesWhole preds scope posts) (MatchesNone preds scope posts) (matching_view r))
    (λ r is. leaves_answer g.M.SymMemory.stands g.M.SymMemory.terms g.M.SymMemory.kept s If (MatchesWhole preds scope posts) (MatchesNone preds scope posts) leaves are (λ v t l serves. serves.state.proper) (matching_view r)
    (subst (λ (vars : List Sort). AnswersLeaves vars leaves (matching_view r)) c.in_ok-vars.ensures is)) c.answer.ensures

pub returns-clause-plain : goal.returns-clause-plain
returns-clause-plain g c =
    let s = state_view c.args.state in
    let bs = store_view c.args.store in
    let scope = c.args.scope.now in
    let posts = map assertion_view c.args.posts.now in
    let cs = cases_at (map pred_def_view c.preds.result.now) 1 in
    let leaves = leaves_view c.in_ok-leaves.leaves in
    ok_to c.answer.result _ (λ r. ConsumesPlainly (IsPlainMemory g.M.Local.LocalMemory.memory g.M.SymMemory.keeps_plain g.M.SymMemory.terms) posts s bs (matching_view r))
    (λ r is b from. answer_decided g.M.Local.LocalMemory.memory g.M.SymMemory.keeps_plain g.M.SymMemory.terms g.M.SymMemory.stands g.M.SymMemory.kept s (Serves g.M.SymMemory.stands g.M.SymMemory.terms s bs) (SomeGives cs scope posts) (SomeStops cs scope posts) leaves c.in_ok-leaves.ensures.says.0 (widened (item_count posts) b) from.narrow from.few
    (c.in_ok-leaves.ensures.says.1 b from) (matching_view r) (subst (λ (vars : List Sort). AnswersLeaves vars leaves (matching_view r)) c.in_ok-vars.ensures is)) c.answer.ensures

pub returns-clause-origin : goal.returns-clause-origin
returns-clause-origin g c =
    let s = state_view c.args.state in
    let bs = store_view c.args.store in
    let scope = c.args.scope.now in
    let posts = map assertion_view c.args.posts.now in
    let preds = (prog_view c.args.prog.now).preds in
    let leaves = leaves_view c.in_ok-leaves.leaves in
    let o = origin_of g.M.SymMemory.terms preds scope posts bs s in
    ok_to c.answer.result _ (λ r. AnswerComesFrom g.M.SymMemory.terms o (IsOneOf scope posts) s.conds (matching_view r))
    (λ r is. answer_from g.M.SymMemory.terms o (IsOneOf scope posts) s.conds s.vars leaves (wholes_from g.M.SymMemory.terms preds (map pred_def_view c.preds.result.now) c.preds.ensures scope posts s bs leaves c.in_ok-leaves.ensures.origin)
    (matching_view r) (subst (λ (vars : List Sort). AnswersLeaves vars leaves (matching_view r)) c.in_ok-vars.ensures is)) c.answer.ensures
