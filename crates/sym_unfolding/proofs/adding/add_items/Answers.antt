use Rattle.std.proofs.Common.{sym, subst}
use Rattle.std.specs.Option.{option_map}
use Rattle.gil_syntax.specs.View.{assertion_view}
use Rattle.pure_terms.specs.View.{atoms_view}
use Rattle.sym_evaluation.specs.View.{store_view}
use Rattle.sym_model.specs.Lists.{Each}
use Rattle.sym_states.specs.Naming.{NamesAll}
use Rattle.sym_states.specs.NamingView.{named_view}
use Rattle.sym_states.specs.View.{state_view, states_view}
use Rattle.sym_unfolding.specs.Adding.{AddsItems}
use Rattle.sym_unfolding.specs.Origins.{IsAddedFrom}
use Rattle.sym_unfolding.proofs.AddLaws.{ok_to, none_added, items_added}
use Rattle.sym_unfolding.proofs.AddOrigins.{items_come}
use Rattle.sym_unfolding.proofs.adding.add_items.Goals as goal

pub returns-in-Some-clause-says : goal.returns-in-Some-clause-says
returns-in-Some-clause-says g c =
    let s = state_view c.args.state.now in
    let bs = store_view c.args.store.now in
    let more = atoms_view c.args.conds.now in
    let items = assertion_view c.args.items.now in
    let law = subst (λ vars. NamesAll c.args.scope.now c.in_ok-names.names vars (store_view c.in_ok-copy.field-0) (option_map named_view c.in_ok-named.named)) c.in_ok-vars.ensures c.in_ok-named.ensures in
    let over = subst (λ cs. NamesAll c.args.scope.now c.in_ok-names.names s.vars cs (option_map named_view c.in_ok-named.named)) c.in_ok-copy.ensures law in
    let naming = subst (λ o. NamesAll c.args.scope.now c.in_ok-names.names s.vars bs (option_map named_view o)) c.in-Some.is over in
    ok_to c.add_over.result _ (λ rs. AddsItems g.M.Local.LocalMemory.memory g.M.SymMemory.stands g.M.SymMemory.terms g.M.SymMemory.kept c.args.scope.now bs more items s (states_view rs))
    (λ rs adds. items_added g.M.Local.LocalMemory.memory g.M.SymMemory.stands g.M.SymMemory.terms g.M.SymMemory.kept g.met.M.SymMemory.meaning c.args.scope.now bs more items s c.in_ok-names.names c.in_ok-names.ensures (named_view c.in-Some.named) naming (states_view rs) adds) c.add_over.ensures

pub returns-clause-says : goal.returns-clause-says
returns-clause-says g c =
    let s = state_view c.args.state.now in
    let bs = store_view c.args.store.now in
    let more = atoms_view c.args.conds.now in
    let items = assertion_view c.args.items.now in
    let law = subst (λ vars. NamesAll c.args.scope.now c.in_ok-names.names vars (store_view c.in_ok-copy.field-0) (option_map named_view c.in_ok-named.named)) c.in_ok-vars.ensures c.in_ok-named.ensures in
    let over = subst (λ cs. NamesAll c.args.scope.now c.in_ok-names.names s.vars cs (option_map named_view c.in_ok-named.named)) c.in_ok-copy.ensures law in
    let none = subst (λ o. NamesAll c.args.scope.now c.in_ok-names.names s.vars bs (option_map named_view o)) c.in-None.is over in
    subst (λ rs. AddsItems g.M.Local.LocalMemory.memory g.M.SymMemory.stands g.M.SymMemory.terms g.M.SymMemory.kept c.args.scope.now bs more items s (states_view rs)) (sym c.new.ensures)
    (none_added g.M.Local.LocalMemory.memory g.M.SymMemory.stands g.M.SymMemory.terms g.M.SymMemory.kept g.met.M.SymMemory.meaning c.args.scope.now bs more items s c.in_ok-names.names c.in_ok-names.ensures none)

pub returns-in-Some-clause-origin : goal.returns-in-Some-clause-origin
returns-in-Some-clause-origin g c =
    let s = state_view c.args.state.now in
    let bs = store_view c.args.store.now in
    let more = atoms_view c.args.conds.now in
    let items = assertion_view c.args.items.now in
    let law = subst (λ vars. NamesAll c.args.scope.now c.in_ok-names.names vars (store_view c.in_ok-copy.field-0) (option_map named_view c.in_ok-named.named)) c.in_ok-vars.ensures c.in_ok-named.ensures in
    let over = subst (λ cs. NamesAll c.args.scope.now c.in_ok-names.names s.vars cs (option_map named_view c.in_ok-named.named)) c.in_ok-copy.ensures law in
    let naming = subst (λ o. NamesAll c.args.scope.now c.in_ok-names.names s.vars bs (option_map named_view o)) c.in-Some.is over in
    ok_to c.add_over.result _ (λ rs. Each (IsAddedFrom g.M.SymMemory.terms bs more items s) (states_view rs))
    (λ rs adds. items_come g.M.Local.LocalMemory.memory g.M.SymMemory.stands g.M.SymMemory.terms g.M.SymMemory.kept c.args.scope.now bs more items s c.in_ok-names.names (named_view c.in-Some.named) naming (states_view rs) adds) c.add_over.ensures

pub returns-clause-origin : goal.returns-clause-origin
returns-clause-origin g c =
    subst (λ rs. Each (IsAddedFrom g.M.SymMemory.terms (store_view c.args.store.now) (atoms_view c.args.conds.now) (assertion_view c.args.items.now) (state_view c.args.state.now)) (states_view rs)) (sym c.new.ensures) tt
