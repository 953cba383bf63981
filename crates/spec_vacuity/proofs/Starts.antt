-- No checked run begins where the precondition's pure items contradict each other.
use Rattle.std.proofs.Common.{◌≡◌, ⊎_elim, ℕ, zero, suc, ◌+◌, List, ◌++◌, Bool, true, false, not, Some, filter, slice_get, refl, sym, ap, ◌∙◌, arith, true≢false}
use Rattle.std.proofs.lemmas.Bool.{and_parts}
use Rattle.gil_values.specs.Pure.{PureValue}
use Rattle.gil_syntax.specs.declared.assertions.Param.{Param}
use Rattle.gil_syntax.specs.Evaluation.{Store, value_of}
use Rattle.gil_syntax.specs.Pure.{PureSpec, PureParts}
use Rattle.gil_syntax.specs.Valid.{is_among, param_names}
use Rattle.mem_model.specs.declared.keys.MemoryName.{MemoryName}
use Rattle.mem_model.specs.Actions.{Actions}
use Rattle.gil_machine.specs.Step.{bind_all}
use Rattle.assert_logic.specs.LogicStates.{nothing}
use Rattle.assert_logic.specs.Names.{named_by_items}
use Rattle.checked_runs.specs.Checked.{Checked, Entry, IsStart, IsReachedIn}
use Rattle.checked_runs.specs.Specifications.{entry_store}
use Rattle.checked_runs.proofs.Stores.{either_value, bound_at, among_at}
use Rattle.pure_terms.specs.declared.variables.Var.{Var}
use Rattle.pure_terms.specs.Kinds.{has_sort as is_of_sort}
use Rattle.pure_terms.specs.Meaning.{IsUnsatisfiable}
use Rattle.spec_vacuity.specs.Translation.{sort_of, is_own_variable, variables_of, variable_from, precondition_table, precondition_atoms}
use Rattle.spec_vacuity.specs.Vacuity.{HasNoStart, VacuousSpecificationsHaveNoRun}
use Rattle.spec_vacuity.proofs.Named.{named_added}
use Rattle.spec_vacuity.proofs.Truths.{added_true}
use Rattle.spec_vacuity.proofs.Valuations.{proper, declared_sort, own_values, all_sorts, all_there}

not_so : (b : Bool) → not b ≡ true → b ≡ false
not_so true is = absurd (true≢false (sym is))
not_so false is = refl

module _ (s : PureSpec) (none : IsUnsatisfiable (precondition_table s) (precondition_atoms s)) (p : PureParts) (memory : MemoryName) (m : Actions)
    (args : List PureValue) (variables : Store) (c : Checked) (start : IsStart p memory m (record { spec = s; args = args; variables = variables }) c) where
  -- a declared variable that the precondition names has a value of its sort
  own_value : (i : ℕ) (q : Param) → slice_get s.logicals i ≡ Some q → is_own_variable s q ≡ true
      → (w : PureValue) × ((value_of variables q.name ≡ Some w) × (is_of_sort (sort_of q.sort) w ≡ true))
  own_value i q at own =
      let parts = and_parts (named_by_items s.pre q.name) (not (is_among (param_names s.params) q.name)) own in
      let (w, whole) = named_added (entry_store s args variables) q.name s.pre nothing start.state start.adding.added_is parts.0 in
      let at_variables : value_of variables q.name ≡ Some w =
      ⊎_elim
      (λ (bound : value_of (bind_all (param_names s.params) args) q.name ≡ Some w).
      let (k, (name, value)) = bound_at (param_names s.params) args q.name w bound in
      absurd (true≢false (sym (among_at (param_names s.params) k q.name name) ∙ not_so (is_among (param_names s.params) q.name) parts.1)))
      (λ (second : (value_of (bind_all (param_names s.params) args) q.name ≡ _) × (value_of variables q.name ≡ Some w)). second.1)
      (either_value (bind_all (param_names s.params) args) variables q.name w whole) in
      (w, (at_variables, declared_sort s.params s.logicals i q w at (start.entered.sorts q.name w at_variables)))

  no_start : ⊥
  no_start =
      let (ws, are) = own_values variables (is_own_variable s) s.logicals own_value in
      let own = filter (is_own_variable s) s.logicals in
      let gives : (x : List ℕ) (y : Var) → variable_from 0 (variables_of s) x ≡ Some y → value_of (entry_store s args variables) x ≡ slice_get (args ++ ws) y.number =
      λ x y is.
      let there = all_there variables x 0 s.params args own ws y start.entered.arguments_fit are is in
      let number : y.number ≡ 0 + there.place = there.number_is in
      let same : there.place ≡ y.number = omega (arith, number) in
      there.value_is ∙ ap (slice_get (args ++ ws)) same in
      none (args ++ ws) (record {
        proper = proper (variables_of s) (args ++ ws) (all_sorts variables s.params args own ws start.entered.arguments_fit are);
        true_there =
            added_true (variable_from 0 (variables_of s)) (args ++ ws) (entry_store s args variables) gives s.pre nothing start.state start.adding.added_is;
      })

pub no_start_if_refuted : (s : PureSpec) → IsUnsatisfiable (precondition_table s) (precondition_atoms s) → HasNoStart s
no_start_if_refuted s none p memory m args variables c start = no_start s none p memory m args variables c start

-- ---- what follows of runs

module _ (p : PureParts) (memory : MemoryName) (m : Actions) (entry : Entry) where
  begun : (n : ℕ) (c : Checked) → IsReachedIn p memory m entry n c → (d : Checked) × IsStart p memory m entry d
  begun zero c reached = (c, reached)
  begun (suc n) c (before, (reached, leads)) = begun n before reached

pub no_run : VacuousSpecificationsHaveNoRun
no_run s none p memory m = (
  λ args variables n c fault reached leads.
      let (d, start) = begun p memory m (record { spec = s; args = args; variables = variables }) n c reached in
      none p memory m args variables d start,
  λ chosen args variables n c used reached uses.
      let (d, start) = begun p memory m (record { spec = s; args = args; variables = variables }) n c reached in
      absurd (none p memory m args variables d start),
)
