use Rattle.std.proofs.Common.{sym, subst}
use Rattle.std.specs.Option.{option_map}
use Rattle.gil_syntax.specs.View.{pred_def_view}
use Rattle.pure_terms.specs.View.{terms_view}
use Rattle.sym_states.specs.View.{state_view}
use Rattle.sym_unfolding.specs.Answering.{ToldOfAll}
use Rattle.sym_unfolding.specs.Origins.{UnfoldingComesFrom}
use Rattle.sym_unfolding.specs.Unfolding.{IsUnfolded}
use Rattle.sym_unfolding.specs.View.{search_view, told_view, cases_view}
use Rattle.sym_unfolding.proofs.UnfoldLaws.{none_over, all_unfolded, is_answered}
use Rattle.sym_unfolding.proofs.UnfoldOrigins.{told_comes, unfolded_come}
use Rattle.sym_unfolding.proofs.unfolding.unfold.Goals as goal

pub ask_all-requires-clause-alternatives : goal.ask_all-requires-clause-alternatives
ask_all-requires-clause-alternatives g c =
    none_over g.M.Local.LocalMemory.memory g.M.SymMemory.stands g.M.SymMemory.terms g.M.SymMemory.kept (pred_def_view c.args.pred.now) (terms_view c.args.ins.now) (terms_view c.args.outs.now) (state_view c.args.state) c.requires.ins c.requires.outs c.requires.over c.requires.terms_over
    (search_view c.in_ok-search.search) c.in_ok-search.ensures

pub returns-in-Some-clause-says : goal.returns-in-Some-clause-says
returns-in-Some-clause-says g c =
    let s = state_view c.args.state in
    let d = pred_def_view c.args.pred.now in
    let ins = terms_view c.args.ins.now in
    let outs = terms_view c.args.outs.now in
    let search = search_view c.in_ok-search.search in
    let told = subst (λ o. ToldOfAll s.vars s.conds search.none (option_map told_view o)) c.in-Some.is c.in_ok-told.ensures in
    subst (IsUnfolded g.M.Local.LocalMemory.memory g.M.SymMemory.stands g.M.SymMemory.terms g.M.SymMemory.kept d ins outs s) (sym c.answer_of.ensures)
    (is_answered g.M.Local.LocalMemory.memory g.M.SymMemory.stands g.M.SymMemory.terms g.M.SymMemory.kept d ins outs s c.requires.ins c.requires.outs c.requires.over c.requires.terms_over search c.in_ok-search.ensures (told_view c.in-Some.told) told)

pub returns-clause-says : goal.returns-clause-says
returns-clause-says g c =
    let s = state_view c.args.state in
    let d = pred_def_view c.args.pred.now in
    let ins = terms_view c.args.ins.now in
    let outs = terms_view c.args.outs.now in
    let search = search_view c.in_ok-search.search in
    let told = subst (λ o. ToldOfAll s.vars s.conds search.none (option_map told_view o)) c.in-None.is c.in_ok-told.ensures in
    all_unfolded g.M.Local.LocalMemory.memory g.M.SymMemory.stands g.M.SymMemory.terms g.M.SymMemory.kept d ins outs s c.requires.ins c.requires.outs c.requires.over c.requires.terms_over search c.in_ok-search.ensures told (cases_view c.in_ok-cases-in-None.cases) (c.in_ok-cases-in-None.ensures ins outs c.requires.ins c.requires.outs)

pub returns-in-Some-clause-origin : goal.returns-in-Some-clause-origin
returns-in-Some-clause-origin g c =
    let s = state_view c.args.state in
    let d = pred_def_view c.args.pred.now in
    let ins = terms_view c.args.ins.now in
    let outs = terms_view c.args.outs.now in
    let search = search_view c.in_ok-search.search in
    let told = subst (λ o. ToldOfAll s.vars s.conds search.none (option_map told_view o)) c.in-Some.is c.in_ok-told.ensures in
    subst (UnfoldingComesFrom g.M.SymMemory.terms d ins outs s) (sym c.answer_of.ensures) (told_comes g.M.SymMemory.terms d ins outs s search c.in_ok-search.ensures.origin (told_view c.in-Some.told) told)

pub returns-clause-origin : goal.returns-clause-origin
returns-clause-origin g c =
    let s = state_view c.args.state in
    let d = pred_def_view c.args.pred.now in
    let ins = terms_view c.args.ins.now in
    let outs = terms_view c.args.outs.now in
    let search = search_view c.in_ok-search.search in
    unfolded_come g.M.SymMemory.terms d ins outs s search c.in_ok-search.ensures.origin (cases_view c.in_ok-cases-in-None.cases) (c.in_ok-cases-in-None.ensures ins outs c.requires.ins c.requires.outs).origin
