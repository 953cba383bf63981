-- The pure data of stores, faults, cases and sides.
use Rattle.std.specs.Prelude.{List, map}
use Rattle.std.specs.Option.{option_map}
use Rattle.gil_values.specs.Operators as operators
use Rattle.pure_terms.specs.Pure.{PureTerm}
use Rattle.pure_terms.specs.View.{term_view, terms_view, atoms_view}
use Rattle.pure_terms.specs.declared.terms.Term.{Term}
use Rattle.pure_terms.specs.declared.terms.Terms.{Terms}
use Rattle.sym_evaluation.specs.declared.faults.Fault.{Fault}
use Rattle.sym_evaluation.specs.declared.faults.Fault.TheVariants.{WrongKind, Zero, Range, Unset}
use Rattle.sym_evaluation.specs.declared.cases.FaultCase.{FaultCase}
use Rattle.sym_evaluation.specs.declared.cases.GoodCase.{GoodCase}
use Rattle.sym_evaluation.specs.declared.cases.Cases.{Cases}
use Rattle.sym_evaluation.specs.declared.guards.Sides.{Sides}
use Rattle.sym_evaluation.specs.declared.store.Binding.{Binding}
use Rattle.sym_evaluation.specs.declared.store.SymStore.{SymStore}
use Rattle.sym_evaluation.specs.Pure.{PureBinding, PureStore, PureFaultCase, PureGoodCase, PureCases, PureSides}

abbrev pub binding_view : Binding → PureBinding
binding_view b = record { name = b.name; term = term_view b.term }

abbrev pub bindings_view : List Binding → PureStore
bindings_view bs = map binding_view bs

abbrev pub store_view : SymStore → PureStore
store_view s = bindings_view s.bindings.items

abbrev pub fault_view : Fault → operators.Fault
fault_view WrongKind = operators.wrong_kind
fault_view Zero = operators.zero_divisor
fault_view Range = operators.out_of_range
fault_view Unset = operators.unset_variable

abbrev pub fault_case_view : FaultCase → PureFaultCase
fault_case_view c = record { conds = atoms_view c.conds; fault = fault_view c.fault }

abbrev pub faults_view : List FaultCase → List PureFaultCase
faults_view cs = map fault_case_view cs

abbrev pub good_view : {T X : Type 0} → (T → X) → GoodCase T → PureGoodCase X
good_view seen g = record { conds = atoms_view g.conds; result = seen g.result }

abbrev pub cases_by : {T X : Type 0} → (T → X) → Cases T → PureCases X
cases_by seen c = record { faults = faults_view c.faults; good = option_map (good_view seen) c.good }

abbrev pub cases_view : Cases Term → PureCases PureTerm
cases_view c = cases_by term_view c

abbrev pub all_cases_view : Cases Terms → PureCases (List PureTerm)
all_cases_view c = cases_by terms_view c

abbrev pub sides_view : Sides → PureSides
sides_view s = record {
  when_true = option_map atoms_view s.when_true;
  when_false = option_map atoms_view s.when_false;
  when_no_boolean = option_map atoms_view s.when_no_boolean;
}
