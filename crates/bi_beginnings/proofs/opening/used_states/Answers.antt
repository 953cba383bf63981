use Rattle.std.proofs.Common.{◌≡◌, ◌⊎◌, ◌+◌, ◌-◌, [], length, refl, sym, ap, subst, ◌∙◌, arith}
use Rattle.gil_syntax.specs.View.{proc_view, assertion_view}
use Rattle.assert_logic.specs.Adding.{IsAdding}
use Rattle.assert_logic.specs.LogicStates.{nothing}
use Rattle.assertion_terms.specs.Named.{assertion_of}
use Rattle.pure_terms.specs.View.{atoms_view}
use Rattle.sym_evaluation.specs.View.{store_view}
use Rattle.sym_model.specs.Lists.{Each, OneOf}
use Rattle.sym_model.proofs.ListLaws.{each_to}
use Rattle.sym_states.specs.Narrowly.{StayNarrow}
use Rattle.sym_states.specs.Laws.{ComeFromItems}
use Rattle.sym_states.specs.Producing.{MayAdd, IsProduced, IsStopped}
use Rattle.sym_states.specs.View.{state_view, states_view}
use Rattle.sym_states.proofs.Values.{ok_to}
use Rattle.bi_beginnings.specs.Narrowly.{StartNarrow}
use Rattle.bi_beginnings.specs.Opening.{IsEntryState, IsBareState, IsEnteredWith, AreEntered, IsEnteredExactly, IsBegunFrom, without_conditions}
use Rattle.bi_beginnings.specs.View.{beginning_view}
use Rattle.bi_beginnings.proofs.Covering.{different_names, is_added, adds_uses}
use Rattle.bi_beginnings.proofs.Entering.{store_of_values, may_add, ok_of_four, ok_of_five, are_entries, are_exact, are_entered, are_bare, same_tables, without}
use Rattle.bi_beginnings.proofs.Narrowness.{starts_narrow}
use Rattle.bi_beginnings.proofs.Tables.{params_fit}
use Rattle.bi_beginnings.proofs.opening.used_states.Goals as goal

pub produce_items-requires : goal.produce_items-requires
produce_items-requires g c =
    let memory = g.M.Local.LocalMemory.memory in
    let b = beginning_view c.args.beginning.now in
    let added = assertion_of c.in_ok-names.names b.uses [] in
    subst (Each (MayAdd memory)) (sym {b = added} (c.in_ok-items.ensures ∙ ap (λ xs. assertion_of c.in_ok-names.names b.uses (atoms_view xs)) c.new.ensures))
    (may_add memory (without_conditions b) (proc_view c.args.proc.now).params _ c.in_ok-names.names c.in_ok-names.ensures (without memory (proc_view c.args.proc.now).params b c.requires))

pub returns-clause-entries : goal.returns-clause-entries
returns-clause-entries g c =
    let params = (proc_view c.args.proc.now).params in
    ok_of_four c.produce_items.result _ _ _ _ (λ ss. Each (IsEntryState g.M.SymMemory.stands g.M.SymMemory.terms g.M.SymMemory.kept params) (states_view ss))
    (λ ss exact origin over still_kept.
    are_entries g.M.Local.LocalMemory.memory g.M.SymMemory.stands g.M.SymMemory.terms g.M.SymMemory.kept params c.args.beginning.now.vars c.requires.table
    (store_view c.in_ok-store.store) c.in_ok-store.ensures.variables (state_view c.in_ok-state.state) c.in_ok-state.ensures (assertion_view c.in_ok-items.items) (states_view ss) exact origin over still_kept)
    c.produce_items.ensures.exact c.produce_items.ensures.origin c.produce_items.ensures.over (c.produce_items.ensures.kept c.in_ok-state.ensures.still_kept)

pub returns-clause-cover : goal.returns-clause-cover
returns-clause-cover g c = λ programs once.
    let memory = g.M.Local.LocalMemory.memory in
    let stands = g.M.SymMemory.stands in
    let params = (proc_view c.args.proc.now).params in
    let b = beginning_view c.args.beginning.now in
    let bs = store_view c.in_ok-store.store in
    let items = assertion_view c.in_ok-items.items in
    let items_are = c.in_ok-items.ensures ∙ ap (λ xs. assertion_of c.in_ok-names.names b.uses (atoms_view xs)) c.new.ensures in
    let names = c.in_ok-names.names in
    let different = different_names params _ names c.in_ok-names.ensures programs once in
    let others = c.len.result - c.len-2.result in
    let fit = params_fit params b.vars c.requires.table in
    let counted : length params + others ≡ length b.vars = omega (arith, c.len.ensures, c.len-2.ensures, fit) in
    ok_of_five c.produce_items.result _ _ _ _ _ (λ ss. AreEntered memory stands (without_conditions b) (states_view ss))
    (λ ss cover exact origin over still_kept v own meets union is_heap.
    let (m, (adding, same)) = is_added memory params (without_conditions b) (without memory params b c.requires) others counted names c.in_ok-names.ensures bs c.in_ok-store.ensures.variables (c.in_ok-store.ensures.named different) v own meets union is_heap in
    subst (λ h. OneOf (IsEnteredWith stands b.vars v h) (states_view ss)) same
    (are_entered memory stands g.M.SymMemory.terms g.M.SymMemory.kept params b.vars c.requires.table bs c.in_ok-store.ensures.variables (state_view c.in_ok-state.state) c.in_ok-state.ensures items (states_view ss) exact origin over still_kept
    cover v m meets.proper (subst (λ xs. IsAdding memory (store_of_values v bs) xs nothing m) (sym items_are) adding)))
    c.produce_items.ensures.cover c.produce_items.ensures.exact c.produce_items.ensures.origin c.produce_items.ensures.over (c.produce_items.ensures.kept c.in_ok-state.ensures.still_kept)

pub returns-clause-exact : goal.returns-clause-exact
returns-clause-exact g c = λ programs once.
    let memory = g.M.Local.LocalMemory.memory in
    let stands = g.M.SymMemory.stands in
    let params = (proc_view c.args.proc.now).params in
    let b = beginning_view c.args.beginning.now in
    let bs = store_view c.in_ok-store.store in
    let items = assertion_view c.in_ok-items.items in
    let items_are = c.in_ok-items.ensures ∙ ap (λ xs. assertion_of c.in_ok-names.names b.uses (atoms_view xs)) c.new.ensures in
    let names = c.in_ok-names.names in
    let different = different_names params _ names c.in_ok-names.ensures programs once in
    let others = c.len.result - c.len-2.result in
    let fit = params_fit params b.vars c.requires.table in
    let counted : length params + others ≡ length b.vars = omega (arith, c.len.ensures, c.len-2.ensures, fit) in
    ok_of_four c.produce_items.result _ _ _ _ (λ ss. Each (IsEnteredExactly stands b) (states_view ss))
    (λ ss exact origin over still_kept.
    are_exact memory stands g.M.SymMemory.terms g.M.SymMemory.kept params b.vars c.requires.table bs c.in_ok-store.ensures.variables (state_view c.in_ok-state.state) c.in_ok-state.ensures items (states_view ss) exact origin over still_kept
    b refl g.met.M.SymMemory.meaning
    (λ v m proper adding.
    adds_uses memory params b c.requires others counted names c.in_ok-names.ensures bs c.in_ok-store.ensures.variables (c.in_ok-store.ensures.named different) v m proper
    (subst (λ xs. IsAdding memory (store_of_values v bs) xs nothing m) items_are adding)))
    c.produce_items.ensures.exact c.produce_items.ensures.origin c.produce_items.ensures.over (c.produce_items.ensures.kept c.in_ok-state.ensures.still_kept)

pub returns-clause-bare : goal.returns-clause-bare
returns-clause-bare g c = λ bare.
    let b = beginning_view c.args.beginning.now in
    let no_item = c.in_ok-items.ensures ∙ (λ i. assertion_of c.in_ok-names.names (bare.no_use i) (atoms_view (c.new.ensures i))) in
    ok_of_four c.produce_items.result _ _ _ _ (λ ss. Each (IsBareState g.M.SymMemory.stands g.M.SymMemory.terms) (states_view ss))
    (λ ss exact origin over still_kept.
    are_bare g.M.Local.LocalMemory.memory g.M.SymMemory.stands g.M.SymMemory.terms g.M.SymMemory.kept (proc_view c.args.proc.now).params c.args.beginning.now.vars c.requires.table
    (store_view c.in_ok-store.store) c.in_ok-store.ensures.variables (state_view c.in_ok-state.state) c.in_ok-state.ensures (assertion_view c.in_ok-items.items) (states_view ss) exact origin over still_kept
    bare.no_variable no_item)
    c.produce_items.ensures.exact c.produce_items.ensures.origin c.produce_items.ensures.over (c.produce_items.ensures.kept c.in_ok-state.ensures.still_kept)

pub returns-clause-table : goal.returns-clause-table
returns-clause-table g c =
    let params = (proc_view c.args.proc.now).params in
    ok_of_four c.produce_items.result _ _ _ _ (λ ss. Each (λ s. s.vars ≡ c.args.beginning.now.vars) (states_view ss))
    (λ ss exact origin over still_kept.
    same_tables g.M.Local.LocalMemory.memory g.M.SymMemory.stands g.M.SymMemory.terms g.M.SymMemory.kept params c.args.beginning.now.vars c.requires.table
    (store_view c.in_ok-store.store) c.in_ok-store.ensures.variables (state_view c.in_ok-state.state) c.in_ok-state.ensures (assertion_view c.in_ok-items.items) (states_view ss) exact origin over still_kept)
    c.produce_items.ensures.exact c.produce_items.ensures.origin c.produce_items.ensures.over (c.produce_items.ensures.kept c.in_ok-state.ensures.still_kept)

pub returns-clause-narrow : goal.returns-clause-narrow
returns-clause-narrow g c = λ keep.
    let params = (proc_view c.args.proc.now).params in
    let b = beginning_view c.args.beginning.now in
    let s = state_view c.in_ok-state.state in
    let bs = store_view c.in_ok-store.store in
    let items_are = c.in_ok-items.ensures ∙ ap (λ xs. assertion_of c.in_ok-names.names b.uses (atoms_view xs)) c.new.ensures in
    ok_of_five c.produce_items.result _ _ _ _ _ (λ ss. StartNarrow g.M.SymMemory.terms b (states_view ss))
    (λ ss stay exact origin over still_kept.
    starts_narrow g.M.SymMemory.stands g.M.SymMemory.terms g.M.SymMemory.kept b c.in_ok-names.names bs c.in_ok-store.ensures.variables s c.in_ok-state.ensures (states_view ss)
    (same_tables g.M.Local.LocalMemory.memory g.M.SymMemory.stands g.M.SymMemory.terms g.M.SymMemory.kept params c.args.beginning.now.vars c.requires.table
    bs c.in_ok-store.ensures.variables s c.in_ok-state.ensures (assertion_view c.in_ok-items.items) (states_view ss) exact origin over still_kept)
    (subst (λ xs. StayNarrow g.M.SymMemory.terms bs xs s (states_view ss)) items_are stay))
    (c.produce_items.ensures.narrow keep) c.produce_items.ensures.exact c.produce_items.ensures.origin c.produce_items.ensures.over (c.produce_items.ensures.kept c.in_ok-state.ensures.still_kept)

pub returns-clause-origin : goal.returns-clause-origin
returns-clause-origin g c = λ programs once.
    let stands = g.M.SymMemory.stands in
    let terms = g.M.SymMemory.terms in
    let kept = g.M.SymMemory.kept in
    let params = (proc_view c.args.proc.now).params in
    let b = beginning_view c.args.beginning.now in
    let s = state_view c.in_ok-state.state in
    let bs = store_view c.in_ok-store.store in
    let items_are = c.in_ok-items.ensures ∙ ap (λ xs. assertion_of c.in_ok-names.names b.uses (atoms_view xs)) c.new.ensures in
    let names = c.in_ok-names.names in
    let different = different_names params _ names c.in_ok-names.ensures programs once in
    let others = c.len.result - c.len-2.result in
    let fit = params_fit params b.vars c.requires.table in
    let counted : length params + others ≡ length b.vars = omega (arith, c.len.ensures, c.len-2.ensures, fit) in
    let items = assertion_of names b.uses [] in
    ok_to c.produce_items.result _ (λ ss. Each (IsBegunFrom stands terms kept params b) (states_view ss))
    (λ ss origin.
    each_to (λ r. IsProduced terms bs s items r ⊎ IsStopped stands terms bs s items r) (IsBegunFrom stands terms kept params b) (states_view ss)
    (λ r comes. record {
      first = s;
      is_first = c.in_ok-state.ensures;
      others = others;
      counted = counted;
      names = names;
      of_table = c.in_ok-names.ensures;
      store = bs;
      variables = c.in_ok-store.ensures.variables;
      named = c.in_ok-store.ensures.named different;
      comes = comes;
    })
    (subst (λ xs. ComeFromItems stands terms bs xs s (states_view ss)) items_are origin))
    c.produce_items.ensures.origin
