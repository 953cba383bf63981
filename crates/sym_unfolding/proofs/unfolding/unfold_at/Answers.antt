use Rattle.std.proofs.Common.{◌≡◌, List, length, sym, ap, subst}
use Rattle.std.specs.Option.{option_map}
use Rattle.gil_syntax.specs.View.{pred_def_view}
use Rattle.pure_terms.specs.Pure.{PureTerm}
use Rattle.sym_evaluation.specs.View.{good_view, store_view}
use Rattle.sym_matching.specs.Matching.{SplitsCase, CaseStaysOver}
use Rattle.sym_matching.specs.Origins.{CaseComesFrom}
use Rattle.sym_matching.specs.View.{stores_view}
use Rattle.sym_states.specs.View.{fact_view, state_view}
use Rattle.sym_unfolding.specs.Adding.{AddsCases}
use Rattle.sym_unfolding.specs.Answering.{UnfoldsAt}
use Rattle.sym_unfolding.specs.View.{cases_view, found_view}
use Rattle.sym_unfolding.proofs.AddLaws.{ok_to}
use Rattle.sym_unfolding.proofs.UnfoldLaws.{nothing_at, no_store, some_store, seen_at, none_at, within}
use Rattle.sym_unfolding.proofs.UnfoldOrigins.{cases_come}
use Rattle.sym_unfolding.proofs.unfolding.unfold_at.Goals as goal

pub returns-in-None : goal.returns-in-None
returns-in-None g c ins outs many_ins many_outs =
    let s = state_view c.args.state.now in
    let d = pred_def_view c.args.pred.now in
    let f = found_view c.args.found.now in
    subst (λ rs. UnfoldsAt g.M.Local.LocalMemory.memory g.M.SymMemory.stands g.M.SymMemory.terms g.M.SymMemory.kept d ins outs s f (cases_view rs)) (sym c.new.ensures)
    (nothing_at g.M.Local.LocalMemory.memory g.M.SymMemory.stands g.M.SymMemory.terms g.M.SymMemory.kept d ins outs s many_ins many_outs f (none_at fact_view (λ r. r.now) c.args.state.now.preds c.args.found.now.place c.get.result c.get.ensures c.in-None.is))

pub take_out-requires : goal.take_out-requires
take_out-requires g c = within (λ r. r.now) c.args.state.now.preds c.args.found.now.place c.get.result c.in-Some.fact c.get.ensures c.in-Some.is

pub returns-in-Some-found : goal.returns-in-Some-found
returns-in-Some-found g c =
    let s = state_view c.args.state.now in
    let d = pred_def_view c.args.pred.now in
    let f = found_view c.args.found.now in
    let fact = fact_view c.in-Some.fact.now in
    let left = state_view c.in_ok-left.left in
    let good = good_view store_view c.in-Some-found.case in
    ok_to c.add_cases.result _
    (λ rs. (ins outs : List PureTerm) → length ins ≡ length d.ins → length outs ≡ length d.outs
    → UnfoldsAt g.M.Local.LocalMemory.memory g.M.SymMemory.stands g.M.SymMemory.terms g.M.SymMemory.kept d ins outs s f (cases_view rs))
    (λ rs adds ins outs many_ins many_outs.
    some_store g.M.Local.LocalMemory.memory g.M.SymMemory.stands g.M.SymMemory.terms g.M.SymMemory.kept d ins outs s many_ins many_outs f fact
    (seen_at fact_view (λ r. r.now) c.args.state.now.preds c.args.found.now.place c.get.result c.in-Some.fact c.get.ensures c.in-Some.is) left c.in_ok-left.ensures
    (stores_view c.in_ok-split.split) good (ap (option_map (good_view store_view)) c.in-Some-found.is)
    (subst (λ os. SplitsCase d fact.ins os (stores_view c.in_ok-split.split)) c.in_ok-outs.ensures c.in_ok-split.ensures.says)
    (subst (λ os. CaseStaysOver fact.ins os (stores_view c.in_ok-split.split)) c.in_ok-outs.ensures c.in_ok-split.ensures.names)
    (cases_view rs)
    (subst (λ ps. AddsCases g.M.Local.LocalMemory.memory g.M.SymMemory.stands g.M.SymMemory.terms g.M.SymMemory.kept ps good.result good.conds d.cases left (cases_view rs)) c.in_ok-scope.ensures adds)
    (cases_come g.M.SymMemory.stands g.M.SymMemory.terms g.M.SymMemory.kept d s f fact
    (seen_at fact_view (λ r. r.now) c.args.state.now.preds c.args.found.now.place c.get.result c.in-Some.fact c.get.ensures c.in-Some.is) left c.in_ok-left.ensures
    (stores_view c.in_ok-split.split) good (ap (option_map (good_view store_view)) c.in-Some-found.is)
    (subst (λ os. CaseComesFrom d fact.ins os (stores_view c.in_ok-split.split)) c.in_ok-outs.ensures c.in_ok-split.ensures.origin)
    (cases_view rs) adds.origin)) c.add_cases.ensures

pub returns : goal.returns
returns g c ins outs many_ins many_outs =
    let s = state_view c.args.state.now in
    let d = pred_def_view c.args.pred.now in
    let f = found_view c.args.found.now in
    let fact = fact_view c.in-Some.fact.now in
    let left = state_view c.in_ok-left.left in
    subst (λ rs. UnfoldsAt g.M.Local.LocalMemory.memory g.M.SymMemory.stands g.M.SymMemory.terms g.M.SymMemory.kept d ins outs s f (cases_view rs)) (sym c.new-in-None-found.ensures)
    (no_store g.M.Local.LocalMemory.memory g.M.SymMemory.stands g.M.SymMemory.terms g.M.SymMemory.kept d ins outs s many_ins many_outs f fact
    (seen_at fact_view (λ r. r.now) c.args.state.now.preds c.args.found.now.place c.get.result c.in-Some.fact c.get.ensures c.in-Some.is) left c.in_ok-left.ensures
    (stores_view c.in_ok-split.split) (ap (option_map (good_view store_view)) c.in-None-found.is)
    (subst (λ os. SplitsCase d fact.ins os (stores_view c.in_ok-split.split)) c.in_ok-outs.ensures c.in_ok-split.ensures.says))
