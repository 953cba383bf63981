use Rattle.std.proofs.Common.{map, sym, subst}
use Rattle.gil_syntax.specs.View.{pred_def_view}
use Rattle.pure_terms.specs.View.{terms_view}
use Rattle.sym_states.specs.View.{state_view}
use Rattle.sym_states.proofs.Values.{ok_to}
use Rattle.footprint.specs.Assertions.{cases_at, AreAskedOver}
use Rattle.footprint.specs.Cases.{PredTried}
use Rattle.footprint.specs.Coming.{CasesComeFrom, FoldComesFrom}
use Rattle.footprint.specs.Consuming.{IsFolding, Folds, FoldsNever}
use Rattle.footprint.specs.Leaves.{AreLeaves}
use Rattle.footprint.specs.Uses.{PureAsked}
use Rattle.footprint.specs.View.{leaves_view}
use Rattle.footprint.proofs.FoldingLaws.{folds_at, all_over}
use Rattle.footprint.proofs.TryOrigins.{folds_from}
use Rattle.footprint.proofs.folding.fold_leaves.Goals as goal

pub try_pred-requires-clause-asked : goal.try_pred-requires-clause-asked
try_pred-requires-clause-asked g c =
    let s = state_view c.args.state in
    subst (λ (a : PureAsked). AreAskedOver s.vars a) (sym c.in_ok-asked-in-Some.ensures) (c.requires.ins_over, all_over s.vars (terms_view c.args.outs.now) c.requires.outs_over)

pub try_pred-requires-clause-pred : goal.try_pred-requires-clause-pred
try_pred-requires-clause-pred g c =
    c.requires.cases (pred_def_view c.in-Some.pred.now) c.args.name.now (sym c.in-Some.ensures)

pub returns-in_ok-asked-in-Some-clause-says : goal.returns-in_ok-asked-in-Some-clause-says
returns-in_ok-asked-in-Some-clause-says g c =
    let s = state_view c.args.state in
    let ins = terms_view c.args.ins.now in
    let outs = terms_view c.args.outs.now in
    let preds = map pred_def_view c.args.preds.now in
    let d = pred_def_view c.in-Some.pred.now in
    ok_to c.try_pred.result _
    (λ r. AreLeaves g.M.SymMemory.stands g.M.SymMemory.terms g.M.SymMemory.kept s (IsFolding g.M.SymMemory.stands g.M.SymMemory.terms s ins outs) (Folds preds c.args.name.now ins outs) (FoldsNever preds c.args.name.now ins outs) (leaves_view r))
    (λ r is. folds_at g.M.SymMemory.stands g.M.SymMemory.terms g.M.SymMemory.kept 0 preds c.args.name.now ins outs s c.requires.over d (leaves_view r) (sym c.in-Some.ensures)
    (subst (λ (a : PureAsked). PredTried g.M.SymMemory.stands g.M.SymMemory.terms g.M.SymMemory.kept 0 (cases_at preds 1) d a s (leaves_view r)) c.in_ok-asked-in-Some.ensures is)) c.try_pred.ensures.says

pub returns-in_ok-asked-in-Some-clause-origin : goal.returns-in_ok-asked-in-Some-clause-origin
returns-in_ok-asked-in-Some-clause-origin g c =
    let s = state_view c.args.state in
    let ins = terms_view c.args.ins.now in
    let outs = terms_view c.args.outs.now in
    let preds = map pred_def_view c.args.preds.now in
    let d = pred_def_view c.in-Some.pred.now in
    ok_to c.try_pred.result _ (λ r. FoldComesFrom g.M.SymMemory.terms preds c.args.name.now ins outs s (leaves_view r))
    (λ r come. folds_from g.M.SymMemory.terms preds c.args.name.now ins outs s d (leaves_view r) (sym c.in-Some.ensures)
    (subst (λ (a : PureAsked). CasesComeFrom g.M.SymMemory.terms preds d a s (leaves_view r)) c.in_ok-asked-in-Some.ensures come)) c.try_pred.ensures.origin
