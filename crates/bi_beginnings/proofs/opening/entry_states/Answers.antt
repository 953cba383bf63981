use Rattle.std.proofs.Common.{◌≡◌, map, refl, sym, subst}
use Rattle.gil_syntax.specs.View.{proc_view}
use Rattle.pure_terms.specs.View.{atoms_view}
use Rattle.sym_model.specs.Lists.{Each}
use Rattle.sym_model.proofs.ListLaws.{each_to, each_map}
use Rattle.sym_states.specs.View.{states_view}
use Rattle.sym_states.proofs.Values.{ok_to}
use Rattle.bi_beginnings.specs.Narrowly.{StartNarrow}
use Rattle.bi_beginnings.specs.Opening.{IsEntryState, IsBareState, AreEntered, IsEnteredExactly, IsBegunFrom, IsEnteredFrom, carrying}
use Rattle.bi_beginnings.specs.View.{beginning_view}
use Rattle.bi_beginnings.proofs.Entering.{carried_table, carried_entries, carried_all_exact, carried_all_bare, carried_entered}
use Rattle.bi_beginnings.proofs.Narrowness.{all_carried_narrow}
use Rattle.bi_beginnings.proofs.opening.entry_states.Goals as goal

pub returns-clause-entries : goal.returns-clause-entries
returns-clause-entries g c =
    let params = (proc_view c.args.proc.now).params in
    let b = beginning_view c.args.beginning.now in
    let ss = states_view c.in_ok-states.states in
    ok_to c.carry_each.result _ (λ rs. Each (IsEntryState g.M.SymMemory.stands g.M.SymMemory.terms g.M.SymMemory.kept params) (states_view rs))
    (λ rs is. subst (Each (IsEntryState g.M.SymMemory.stands g.M.SymMemory.terms g.M.SymMemory.kept params)) (sym is)
    (carried_entries g.M.Local.LocalMemory.memory g.M.SymMemory.stands g.M.SymMemory.terms g.M.SymMemory.kept params b.conds b.vars c.requires.conds ss c.in_ok-states.ensures.table c.in_ok-states.ensures.entries))
    c.carry_each.ensures

pub returns-clause-cover : goal.returns-clause-cover
returns-clause-cover g c = λ programs once.
    let b = beginning_view c.args.beginning.now in
    ok_to c.carry_each.result _ (λ rs. AreEntered g.M.Local.LocalMemory.memory g.M.SymMemory.stands b (states_view rs))
    (λ rs is. subst (AreEntered g.M.Local.LocalMemory.memory g.M.SymMemory.stands b) (sym is)
    (carried_entered g.M.Local.LocalMemory.memory g.M.SymMemory.stands g.M.SymMemory.terms g.M.SymMemory.kept b (states_view c.in_ok-states.states) (c.in_ok-states.ensures.cover programs once)))
    c.carry_each.ensures

pub returns-clause-exact : goal.returns-clause-exact
returns-clause-exact g c = λ programs once.
    let b = beginning_view c.args.beginning.now in
    ok_to c.carry_each.result _ (λ rs. Each (IsEnteredExactly g.M.SymMemory.stands b) (states_view rs))
    (λ rs is. subst (Each (IsEnteredExactly g.M.SymMemory.stands b)) (sym is)
    (carried_all_exact g.M.Local.LocalMemory.memory g.M.SymMemory.stands g.M.SymMemory.terms g.M.SymMemory.kept (proc_view c.args.proc.now).params b.conds b (states_view c.in_ok-states.states) (c.in_ok-states.ensures.exact programs once)))
    c.carry_each.ensures

pub returns-clause-bare : goal.returns-clause-bare
returns-clause-bare g c = λ bare.
    let b = beginning_view c.args.beginning.now in
    ok_to c.carry_each.result _ (λ rs. Each (IsBareState g.M.SymMemory.stands g.M.SymMemory.terms) (states_view rs))
    (λ rs is. subst (Each (IsBareState g.M.SymMemory.stands g.M.SymMemory.terms)) (sym is)
    (carried_all_bare g.M.Local.LocalMemory.memory g.M.SymMemory.stands g.M.SymMemory.terms g.M.SymMemory.kept (proc_view c.args.proc.now).params b.conds bare.no_condition (states_view c.in_ok-states.states) (c.in_ok-states.ensures.bare bare)))
    c.carry_each.ensures

pub returns-clause-narrow : goal.returns-clause-narrow
returns-clause-narrow g c = λ keep.
    let b = beginning_view c.args.beginning.now in
    ok_to c.carry_each.result _ (λ rs. StartNarrow g.M.SymMemory.terms b (states_view rs))
    (λ rs is. subst (StartNarrow g.M.SymMemory.terms b) (sym is) (all_carried_narrow g.M.SymMemory.stands g.M.SymMemory.terms g.M.SymMemory.kept b (states_view c.in_ok-states.states) (c.in_ok-states.ensures.narrow keep)))
    c.carry_each.ensures

pub returns-clause-origin : goal.returns-clause-origin
returns-clause-origin g c = λ programs once.
    let params = (proc_view c.args.proc.now).params in
    let b = beginning_view c.args.beginning.now in
    let Entered = IsEnteredFrom g.M.SymMemory.stands g.M.SymMemory.terms g.M.SymMemory.kept params b in
    let ss = states_view c.in_ok-states.states in
    ok_to c.carry_each.result _ (λ rs. Each Entered (states_view rs))
    (λ rs is. subst (Each Entered) (sym is)
    (each_map Entered (carrying b.conds) ss
    (each_to (IsBegunFrom g.M.SymMemory.stands g.M.SymMemory.terms g.M.SymMemory.kept params b) (λ r. Entered (carrying b.conds r)) ss (λ r begun. (r, (begun, refl)))
    (c.in_ok-states.ensures.origin programs once))))
    c.carry_each.ensures

pub returns-clause-table : goal.returns-clause-table
returns-clause-table g c =
    let b = beginning_view c.args.beginning.now in
    let ss = states_view c.in_ok-states.states in
    ok_to c.carry_each.result _ (λ rs. Each (λ s. s.vars ≡ c.args.beginning.now.vars) (states_view rs))
    (λ rs is. subst (Each (λ s. s.vars ≡ c.args.beginning.now.vars)) (sym is)
    (each_map (λ s. s.vars ≡ c.args.beginning.now.vars) (carrying b.conds) ss
    (each_to (λ s. s.vars ≡ c.args.beginning.now.vars) (λ s. (carrying b.conds s).vars ≡ c.args.beginning.now.vars) ss
    (λ s same. carried_table b.conds s same) c.in_ok-states.ensures.table)))
    c.carry_each.ensures
