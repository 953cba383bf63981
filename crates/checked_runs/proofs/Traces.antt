-- Checked runs of small programs, step by step.
use Rattle.std.proofs.Common.{⊎_elim, arith, ◌≡◌, ℕ, List, [], ◌∷◌, true, codes, Some, refl, zero, suc, slice_get, ap, sym, ◌∙◌, not, ◌||◌, ◌&&◌, Bool, false}
use Rattle.std.specs.FinMap.{empty}
use Rattle.std.proofs.lemmas.List.Elements.{All-nil, Contains-push_cases}
use Rattle.std.specs.Str.{bytes_eq}
use Rattle.gil_values.specs.Pure.{PureValue, symbol}
use Rattle.gil_values.specs.Symbols.{IsBelow}
use Rattle.mem_model.specs.Heaps.{Heap, IsHeapOf, IsHeapBelow}
use Rattle.gil_syntax.specs.Evaluation.{Store, bind, value_of}
use Rattle.gil_syntax.specs.Pure.{PureSpec, PureParts}
use Rattle.gil_syntax.proofs.Symbols.{HoldsOfAll, each-nil, none_contained}
use Rattle.mem_model.specs.declared.keys.MemoryName.TheVariants.{Record}
use Rattle.mem_model.specs.Actions.{no_memory}
use Rattle.mem_model.proofs.Parts.{empty_is_heap, empty_is_below}
use Rattle.gil_machine.proofs.Proper.{Below}
use Rattle.gil_machine.specs.Proper.{IsFrameBelow}
use Rattle.gil_machine.specs.Run.{params_of, start}
use Rattle.gil_machine.specs.State.{Step, goes_on, ends}
use Rattle.gil_machine.specs.Step.{step}
use Rattle.gil_syntax.specs.Programs.{find_proc}
use Rattle.assert_logic.specs.Adding.{added}
use Rattle.assert_logic.specs.LogicStates.{Fact, nothing}
use Rattle.assert_logic.proofs.MatchedValues.{EachFactHolds}
use Rattle.checked_runs.specs.Checked.{Checked, Entry, moved, IsStart}
use Rattle.checked_runs.specs.Specifications.{fit_params, entry_store}
use Rattle.checked_runs.specs.Rows.{number_value}
use Rattle.checked_runs.proofs.Entries.{args_hold}
use Rattle.checked_runs.proofs.Parts.{facts_below}
use Rattle.checked_runs.proofs.Stores.{same_some, no_value}

abbrev pub entered : PureSpec → List PureValue → Entry
entered s args = record { spec = s; args = args; variables = [] }

-- the state at the start, with an empty heap
abbrev pub at_start : PureParts → PureSpec → List PureValue → List Fact → Checked
at_start p s args facts = record { machine = start p s.name args empty 0; facts = facts; passed = [] ∷ [] }

pub starts_at : (p : PureParts) (s : PureSpec) (args : List PureValue) (h : Heap) (facts : List Fact) (k : ℕ) → IsHeapOf Record h → IsHeapBelow k h → fit_params s.params args ≡ true → HoldsOfAll (Below k) args → added (entry_store s args []) s.pre nothing ≡ Some (record { heap = h; facts = facts })
    → EachFactHolds (Below k) facts → IsStart p Record no_memory (entered s args) (record { machine = start p s.name args h k; facts = facts; passed = [] ∷ [] })
starts_at p s args h facts k is_heap heap_below fit below is facts_are = record {
  entered = record { arguments_fit = fit; only_variables = λ x v at. no_value v at; sorts = λ x v at. no_value v at };
  state = record { heap = h; facts = facts };
  adding = record { added_is = is; well_formed = is_heap };
  counter = k;
  is_start = refl;
  above = record {
    heap_below = heap_below;
    current_below = args_hold (Below k) (params_of (find_proc p.procs s.name)) args below;
    callers_below = All-nil (IsFrameBelow k);
    facts_below = facts_below k facts facts_are;
  };
  variables_below = λ x v at. no_value v at;
}

pub starts : (p : PureParts) (s : PureSpec) (args : List PureValue) (facts : List Fact) → fit_params s.params args ≡ true → HoldsOfAll (Below 0) args → added (entry_store s args []) s.pre nothing ≡ Some (record { heap = empty; facts = facts }) → EachFactHolds (Below 0) facts
    → IsStart p Record no_memory (entered s args) (at_start p s args facts)
starts p s args facts fit below is facts_are = starts_at p s args empty facts 0 (empty_is_heap Record) (empty_is_below 0) fit below is facts_are

-- where a step of the machine leads from a state
abbrev pub after_step : Checked → Step → Checked
after_step c (goes_on s) = moved c s
after_step c (ends e) = c

abbrev pub next : PureParts → Checked → Checked
next p c = after_step c (step p no_memory [] c.machine)

pub one_number : (v : ℕ) → HoldsOfAll (Below 0) (number_value v ∷ [])
one_number v = (each-nil (Below 0), tt)

-- x and the result have these values
abbrev pub with_result : PureValue → PureValue → Store
with_result v r = bind (codes "x") v (bind (codes "ret") r [])

-- the state at the start, with a heap whose one location is the argument
abbrev pub with_heap_at_start : PureParts → PureSpec → Heap → List Fact → Checked
with_heap_at_start p s h facts = record { machine = start p s.name (symbol 0 ∷ []) h 1; facts = facts; passed = [] ∷ [] }

pub symbol_below : IsBelow 1 (symbol 0)
symbol_below n is = ⊎_elim (λ none. absurd (none_contained n none)) (λ same. omega (arith, same)) (Contains-push_cases [] 0 n is)

pub starts_with_heap : (p : PureParts) (s : PureSpec) (h : Heap) (facts : List Fact) → IsHeapOf Record h → IsHeapBelow 1 h → fit_params s.params (symbol 0 ∷ []) ≡ true → added (entry_store s (symbol 0 ∷ []) []) s.pre nothing ≡ Some (record { heap = h; facts = facts }) → EachFactHolds (Below 1) facts
    → IsStart p Record no_memory (entered s (symbol 0 ∷ [])) (with_heap_at_start p s h facts)
starts_with_heap p s h facts is_heap below fit is facts_are = starts_at p s (symbol 0 ∷ []) h facts 1 is_heap below fit (symbol_below, tt) is facts_are

-- the store that gives x a value, of any sort
pub parameter_x : (v : PureValue) (i : ℕ) (z : List ℕ) (w : PureValue) → slice_get (codes "x" ∷ []) i ≡ Some z → slice_get (v ∷ []) i ≡ Some w → value_of (bind (codes "x") v []) z ≡ Some w
parameter_x v zero z w name value = ap (value_of (bind (codes "x") v [])) (sym (same_some name)) ∙ value
parameter_x v (suc i) z w name value = no_value z name

pub any_sort_of_x : (v : PureValue) (z : List ℕ) (w : PureValue) → value_of (bind (codes "x") v []) z ≡ Some w → ((not (bytes_eq (codes "x") z) || true) && true) ≡ true
any_sort_of_x v z w is = by (bytes_eq (codes "x") z)
  where
    by : (b : Bool) → ((not b || true) && true) ≡ true
    by true = refl
    by false = refl
