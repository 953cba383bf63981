-- Runs that end at once, and those of a specification that uses itself.
use Rattle.std.proofs.Common.{◌≡◌, ◌⊎◌, inl, inr, ℕ, zero, suc, List, [], ◌∷◌, Bool, true, false, codes, slice_get, Option, Some, None, Ok, refl, sym, ap, subst, ◌∙◌, true≢false}
use Rattle.std.specs.FinMap.{len-empty}
use Rattle.std.proofs.lemmas.Bool.{and_parts}
use Rattle.gil_values.specs.Pure.{PureValue, boolean}
use Rattle.gil_values.specs.EqualityLaws.{same_value-same}
use Rattle.gil_values.specs.Equality.{same_value}
use Rattle.std.specs.Option.{option_and_then}
use Rattle.gil_syntax.specs.Evaluation.{Store, bind, value_of, set_or_fault, after_value}
use Rattle.gil_syntax.specs.WellMade.{has_hash}
use Rattle.assert_logic.specs.Adding.{where_true, added}
use Rattle.assert_logic.specs.Names.{named_by_items}
use Rattle.gil_syntax.specs.Pure.{PureItem, PureSpec, PureParts}
use Rattle.mem_model.specs.declared.keys.MemoryName.TheVariants.{Record}
use Rattle.mem_model.specs.Actions.{no_memory}
use Rattle.mem_model.specs.Keys.{key_cmp}
use Rattle.gil_machine.specs.Run.{start}
use Rattle.assert_logic.specs.LogicStates.{LogicState, nothing}
use Rattle.checked_runs.specs.Checked.{Checked, Outcome, goes_on_to, is_over, has_fault, Fault, Entry, Leads, IsStart, IsReachedIn}
use Rattle.checked_runs.specs.Specifications.{fit_params, IsEntry, result_name}
use Rattle.checked_runs.specs.Programs.{any, asks_itself, says_zero, HasNone}
use Rattle.checked_runs.specs.Rows.{equals, ret, number_value}
use Rattle.checked_runs.proofs.Justified.{same_next}
use Rattle.checked_runs.proofs.Stores.{same_some, no_value}

module _ (p : PureParts) (entry : Entry) where
  abbrev pub OverAtOnce : Type 0
  OverAtOnce = (c : Checked) → IsStart p Record no_memory entry c → (out : Outcome) → Leads p Record no_memory entry c out → out ≡ is_over

  pub only_start : OverAtOnce → (k : ℕ) (c : Checked) → IsReachedIn p Record no_memory entry k c → IsStart p Record no_memory entry c
  only_start over zero c is = is
  only_start over (suc k) c (before, (reached, leads)) = absurd (goes_on c (over before (only_start over k before reached) (goes_on_to c) leads))
    where
      goes_on : (d : Checked) → goes_on_to d ≡ is_over → ⊥
      goes_on d is = absurd (cc)

  pub none_at_all : OverAtOnce → (k : ℕ) (c : Checked) (fault : Fault) → IsReachedIn p Record no_memory entry k c → ¬ Leads p Record no_memory entry c (has_fault fault)
  none_at_all over k c fault reached leads = absurd (fails fault (over c (only_start over k c reached) (has_fault fault) leads))
    where
      fails : (f : Fault) → has_fault f ≡ is_over → ⊥
      fails f is = absurd (cc)

  -- the state at the start, with its logic state
  abbrev pub started : LogicState → ℕ → Checked
  started s counter = record { machine = start p entry.spec.name entry.args s.heap counter; facts = s.facts; passed = [] ∷ [] }

-- as many arguments as one parameter
pub one_argument : (args : List PureValue) → fit_params (any (codes "x") ∷ []) args ≡ true → (v : PureValue) × (args ≡ v ∷ [])
one_argument [] fit = absurd (true≢false (sym fit))
one_argument (v ∷ []) fit = (v, refl)
one_argument (v ∷ w ∷ vs) fit = absurd (true≢false (sym fit))

pub not_over : (d : Checked) → goes_on_to d ≡ is_over → ⊥
not_over d is = absurd (cc)

pub no_fault_over : (f : Fault) → has_fault f ≡ is_over → ⊥
no_fault_over f is = absurd (cc)

pub not_on : (f : Fault) (d : Checked) → has_fault f ≡ goes_on_to d → ⊥
not_on f d is = absurd (cc)

-- no variable has the result's name
pub no_result : (s : PureSpec) (args : List PureValue) (variables : Store) → IsEntry s args variables → (o : Option PureValue) → value_of variables result_name ≡ o → o ≡ None
no_result s args variables entered None at = refl
no_result s args variables entered (Some w) at = absurd (true≢false (sym (and_parts (has_hash result_name) (named_by_items s.pre result_name) (entered.only_variables result_name w at)).0))

pub start_of : (p : PureParts) (entry : Entry) (k : ℕ) (c : Checked) → IsReachedIn p Record no_memory entry k c → (d : Checked) × IsStart p Record no_memory entry d
start_of p entry zero c is = (c, is)
start_of p entry (suc k) c (before, (reached, leads)) = start_of p entry k before reached

-- ---- a cycle of uses

module _ (variables : Store) (none : value_of variables result_name ≡ None) (v : PureValue) where
  abbrev of_cycle : Entry
  of_cycle = record { spec = says_zero; args = v ∷ []; variables = variables }

  -- f with the result of the call
  abbrev told : PureValue → LogicState → ℕ → Checked
  told r st counter = record {
    machine = record {
      current = record { procedure = codes "f"; next = 1; store = bind (codes "x") r (bind (codes "n") v []); waits = None; handler = None };
      callers = [];
      heap = st.heap;
      counter = counter;
      draws = 0;
    };
    facts = st.facts;
    passed = [] ∷ [];
  }

  told_over : (counter : ℕ) (out : Outcome) → Leads asks_itself Record no_memory of_cycle (told (number_value 0) nothing counter) out → out ≡ is_over
  told_over counter out leads = leads ∙ rw none (rw (len-empty key_cmp PureValue) refl)

  record IsTold (out : Outcome) : Type 0 where
    counter : ℕ
    goes : out ≡ goes_on_to (told (number_value 0) nothing counter)

  true_result : (r : PureValue) (store : Store) (state : LogicState) → value_of store result_name ≡ Some r → added store (equals ret 0 ∷ []) nothing ≡ Some state → (r ≡ number_value 0) × (state ≡ nothing)
  true_result r store state at is = by (same_value r (number_value 0)) refl (sym (ap (λ o. option_and_then (added store []) (where_true (after_value (set_or_fault o) (λ w. Ok (boolean (same_value w (number_value 0))))) nothing)) at) ∙ is)
    where
      by : (b : Bool) → same_value r (number_value 0) ≡ b → option_and_then (added store []) (where_true (Ok (boolean (same_value r (number_value 0)))) nothing) ≡ Some state → (r ≡ number_value 0) × (state ≡ nothing)
      by true same found = (same_value-same r (number_value 0) same, sym (same_some (sym (ap (λ b. option_and_then (added store []) (where_true (Ok (boolean b)) nothing)) same) ∙ found)))
      by false other found = no_value state (sym (ap (λ b. option_and_then (added store []) (where_true (Ok (boolean b)) nothing)) other) ∙ found)

  start_told : (counter : ℕ) (out : Outcome) → Leads asks_itself Record no_memory of_cycle (started asks_itself of_cycle nothing counter) out → IsTold out
  start_told counter out (inr comes) = no_value comes.items comes.is_post
  start_told counter out (inl comes) = by comes.number comes.items comes.is_post comes.adding.added_is
    where
      by : (i : ℕ) (items : List PureItem) → slice_get ((equals ret 0 ∷ []) ∷ []) i ≡ Some items → added comes.store items nothing ≡ Some comes.state → IsTold out
      by zero items at is =
          let (zero_result, no_state) = true_result comes.result comes.store comes.state comes.is_store.result (ap (λ xs. added comes.store xs nothing) (same_some at) ∙ is) in
          record { counter = comes.counter; goes = comes.leads ∙ (λ i. goes_on_to (told (zero_result i) (no_state i) comes.counter)) }
      by (suc i) items at is = no_value items at

  -- each state of a run is the start, or that after the call
  abbrev IsOneOfTwo : Checked → Type 0
  IsOneOfTwo c = ((counter : ℕ) × (c ≡ started asks_itself of_cycle nothing counter)) ⊎ ((counter : ℕ) × (c ≡ told (number_value 0) nothing counter))

  each_state : (k : ℕ) (c : Checked) → IsReachedIn asks_itself Record no_memory of_cycle k c → IsOneOfTwo c
  each_state zero c s = let state : s.state ≡ nothing = sym (same_some s.adding.added_is) in inl (s.counter, s.is_start ∙ ap (λ st. started asks_itself of_cycle st s.counter) state)
  each_state (suc k) c (before, (reached, leads)) = after (each_state k before reached) leads
    where
      after : IsOneOfTwo before → Leads asks_itself Record no_memory of_cycle before (goes_on_to c) → IsOneOfTwo c
      after (inl (counter, is)) goes =
          let there = start_told counter (goes_on_to c) (subst (λ x. Leads asks_itself Record no_memory of_cycle x (goes_on_to c)) is goes) in
          inr (there.counter, same_next c (told (number_value 0) nothing there.counter) there.goes)
      after (inr (counter, is)) goes = absurd (not_over c (told_over counter (goes_on_to c) (subst (λ x. Leads asks_itself Record no_memory of_cycle x (goes_on_to c)) is goes)))

  no_fault_there : (c : Checked) (fault : Fault) → IsOneOfTwo c → ¬ Leads asks_itself Record no_memory of_cycle c (has_fault fault)
  no_fault_there c fault (inl (counter, is)) leads = not_on fault _ (start_told counter (has_fault fault) (subst (λ x. Leads asks_itself Record no_memory of_cycle x (has_fault fault)) is leads)).goes
  no_fault_there c fault (inr (counter, is)) leads = no_fault_over fault (told_over counter (has_fault fault) (subst (λ x. Leads asks_itself Record no_memory of_cycle x (has_fault fault)) is leads))

pub cycle_has_no_fault : HasNone asks_itself says_zero
cycle_has_no_fault args variables k d fault reached =
    let (first, s) = start_of asks_itself (record { spec = says_zero; args = args; variables = variables }) k d reached in
    let (v, are) = one_named args s.entered.arguments_fit in
    let none = no_result says_zero args variables s.entered (value_of variables result_name) refl in
    subst (λ vs. IsReachedIn asks_itself Record no_memory (record { spec = says_zero; args = vs; variables = variables }) k d → ¬ Leads asks_itself Record no_memory (record { spec = says_zero; args = vs; variables = variables }) d (has_fault fault)) (sym are)
    (λ there. no_fault_there variables none v d fault (each_state variables none v k d there)) reached
  where
    one_named : (vs : List PureValue) → fit_params (any (codes "n") ∷ []) vs ≡ true → (v : PureValue) × (vs ≡ v ∷ [])
    one_named [] fit = absurd (true≢false (sym fit))
    one_named (v ∷ []) fit = (v, refl)
    one_named (v ∷ w ∷ vs) fit = absurd (true≢false (sym fit))
