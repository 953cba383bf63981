use Rattle.std.proofs.Common.{List, map, sym, subst}
use Rattle.gil_syntax.specs.Program.{prog_view}
use Rattle.gil_syntax.specs.Pure.{PurePredDef}
use Rattle.gil_syntax.specs.View.{pred_def_view}
use Rattle.pure_terms.specs.declared.variables.Sort.{Sort}
use Rattle.pure_terms.specs.Meaning.{AreOver}
use Rattle.pure_terms.specs.View.{terms_view}
use Rattle.sym_model.specs.Lists.{Each}
use Rattle.sym_states.specs.View.{state_view}
use Rattle.sym_states.proofs.Values.{ok_to}
use Rattle.footprint.specs.Answers.{AnswersLeaves}
use Rattle.footprint.specs.Coming.{FoldComesFrom}
use Rattle.footprint.specs.Consuming.{IsFolding, Folds, FoldsNever}
use Rattle.footprint.specs.Leaves.{AreLeaves, IsAnswer}
use Rattle.footprint.specs.Origins.{AnswerComesFrom, IsCaseOf, fold_origin}
use Rattle.footprint.specs.View.{leaves_view, matching_view}
use Rattle.footprint.proofs.AnswerLaws.{stops_over, leaves_answer}
use Rattle.footprint.proofs.TryOrigins.{answer_from}
use Rattle.footprint.proofs.folding.fold.Goals as goal

pub answer-requires : goal.answer-requires
answer-requires g c =
    let s = state_view c.args.state in
    let ins = terms_view c.args.ins.now in
    let outs = terms_view c.args.outs.now in
    let preds = map pred_def_view c.preds-preds.result.now in
    let leaves = leaves_view c.in_ok-leaves.leaves in
    subst (λ (vars : List Sort). Each (λ k. AreOver vars k.conds) leaves.stopped) (sym c.in_ok-vars.ensures)
    (stops_over g.M.SymMemory.stands g.M.SymMemory.terms g.M.SymMemory.kept s (IsFolding g.M.SymMemory.stands g.M.SymMemory.terms s ins outs) (Folds preds c.args.pred.now ins outs) (FoldsNever preds c.args.pred.now ins outs) leaves c.in_ok-leaves.ensures.says)

pub returns-clause-says : goal.returns-clause-says
returns-clause-says g c =
    let s = state_view c.args.state in
    let ins = terms_view c.args.ins.now in
    let outs = terms_view c.args.outs.now in
    let preds = (prog_view c.args.prog.now).preds in
    let leaves = leaves_view c.in_ok-leaves.leaves in
    let If = IsFolding g.M.SymMemory.stands g.M.SymMemory.terms s ins outs in
    let are = subst (λ (ds : List PurePredDef). AreLeaves g.M.SymMemory.stands g.M.SymMemory.terms g.M.SymMemory.kept s If (Folds ds c.args.pred.now ins outs) (FoldsNever ds c.args.pred.now ins outs) leaves)
    c.preds-preds.ensures c.in_ok-leaves.ensures.says in
    ok_to c.answer.result _ (λ r. IsAnswer g.M.SymMemory.stands g.M.SymMemory.terms g.M.SymMemory.kept s If (Folds preds c.args.pred.now ins outs) (FoldsNever preds c.args.pred.now ins outs) (matching_view r))
    (λ r is. leaves_answer g.M.SymMemory.stands g.M.SymMemory.terms g.M.SymMemory.kept s If (Folds preds c.args.pred.now ins outs) (FoldsNever preds c.args.pred.now ins outs) leaves are
    (λ v t l holds. holds.serves.state.proper) (matching_view r) (subst (λ (vars : List Sort). AnswersLeaves vars leaves (matching_view r)) c.in_ok-vars.ensures is)) c.answer.ensures

pub returns-clause-origin : goal.returns-clause-origin
returns-clause-origin g c =
    let s = state_view c.args.state in
    let ins = terms_view c.args.ins.now in
    let outs = terms_view c.args.outs.now in
    let preds = (prog_view c.args.prog.now).preds in
    let leaves = leaves_view c.in_ok-leaves.leaves in
    let o = fold_origin g.M.SymMemory.terms preds c.args.pred.now ins outs s in
    let come = subst (λ (ds : List PurePredDef). FoldComesFrom g.M.SymMemory.terms ds c.args.pred.now ins outs s leaves) c.preds-preds.ensures c.in_ok-leaves.ensures.origin in
    ok_to c.answer.result _ (λ r. AnswerComesFrom g.M.SymMemory.terms o (IsCaseOf preds c.args.pred.now) s.conds (matching_view r))
    (λ r is. answer_from g.M.SymMemory.terms o (IsCaseOf preds c.args.pred.now) s.conds s.vars leaves come (matching_view r) (subst (λ (vars : List Sort). AnswersLeaves vars leaves (matching_view r)) c.in_ok-vars.ensures is)) c.answer.ensures
