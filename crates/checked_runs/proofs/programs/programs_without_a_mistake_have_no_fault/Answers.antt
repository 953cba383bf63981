use Rattle.std.proofs.Common.{◌≡◌, ℕ, List, [], ◌∷◌, true, codes, Option, Some, None, refl, sym, ap, subst, ◌∙◌, true≢false}
use Rattle.std.specs.FinMap.{empty, get-empty, len-empty}
use Rattle.gil_values.specs.Pure.{PureValue, integer, boolean, text, symbol, kind, procedure, list}
use Rattle.gil_values.specs.EqualityLaws.{same_value-refl}
use Rattle.gil_syntax.specs.Evaluation.{Store, value_of}
use Rattle.mem_model.specs.declared.keys.Sub.TheVariants.{Name}
use Rattle.assert_logic.specs.Adding.{added}
use Rattle.mem_model.specs.declared.keys.MemoryName.TheVariants.{Record}
use Rattle.mem_model.specs.Actions.{no_memory}
use Rattle.mem_model.specs.Keys.{key, key_cmp}
use Rattle.mem_model.proofs.Holding.{inserted_holds}
use Rattle.assert_logic.specs.LogicStates.{Fact, LogicState, nothing}
use Rattle.checked_runs.specs.Checked.{Checked, Outcome, is_over, Entry, Leads, IsStart}
use Rattle.checked_runs.specs.Specifications.{fit_params, entry_store, result_name}
use Rattle.checked_runs.specs.Programs.{fails_from_no_heap, one_key_twice, vanishes, tells_the_false, with_q, knows_the_second_fact, knows_the_second_case}
use Rattle.checked_runs.specs.Rows.{number_value}
use Rattle.checked_runs.proofs.Stores.{same_some, no_value}
use Rattle.checked_runs.proofs.programs.programs_without_a_mistake_have_no_fault.Goals as goal
use Rattle.checked_runs.proofs.Cycles.{OverAtOnce, none_at_all, started, one_argument, no_result, start_of, cycle_has_no_fault}

pub returns-clause-vanishing : goal.returns-clause-vanishing
returns-clause-vanishing c args variables k d fault reached = none_at_all vanishes (record { spec = tells_the_false; args = args; variables = variables }) over k d fault reached
  where
    over : OverAtOnce vanishes (record { spec = tells_the_false; args = args; variables = variables })
    over d s out leads = subst (λ x. Leads vanishes Record no_memory (record { spec = tells_the_false; args = args; variables = variables }) x out) s.is_start leads

-- ---- no heap

one_symbol : (args : List PureValue) → fit_params one_key_twice.params args ≡ true → (l : ℕ) × (args ≡ symbol l ∷ [])
one_symbol [] fit = absurd (true≢false (sym fit))
one_symbol (symbol l ∷ []) fit = (l, refl)
one_symbol (integer n ∷ []) fit = absurd (true≢false (sym fit))
one_symbol (boolean b ∷ []) fit = absurd (true≢false (sym fit))
one_symbol (text cs ∷ []) fit = absurd (true≢false (sym fit))
one_symbol (kind k ∷ []) fit = absurd (true≢false (sym fit))
one_symbol (procedure f ∷ []) fit = absurd (true≢false (sym fit))
one_symbol (list vs ∷ []) fit = absurd (true≢false (sym fit))
one_symbol (symbol l ∷ w ∷ vs) fit = absurd (true≢false (sym fit))
one_symbol (integer n ∷ w ∷ vs) fit = absurd (true≢false (sym fit))
one_symbol (boolean b ∷ w ∷ vs) fit = absurd (true≢false (sym fit))
one_symbol (text cs ∷ w ∷ vs) fit = absurd (true≢false (sym fit))
one_symbol (kind k ∷ w ∷ vs) fit = absurd (true≢false (sym fit))
one_symbol (procedure f ∷ w ∷ vs) fit = absurd (true≢false (sym fit))
one_symbol (list us ∷ w ∷ vs) fit = absurd (true≢false (sym fit))

added_twice : (l : ℕ) (variables : Store) → added (entry_store one_key_twice (symbol l ∷ []) variables) one_key_twice.pre nothing ≡ None
added_twice l variables = rw (get-empty key_cmp (key l (Name (codes "v")))) (rw (inserted_holds empty (key l (Name (codes "v"))) (number_value 1)) refl)

pub returns-clause-no_heap : goal.returns-clause-no_heap
returns-clause-no_heap c args variables k d fault reached leads =
    let (first, s) = start_of fails_from_no_heap (record { spec = one_key_twice; args = args; variables = variables }) k d reached in
    let (l, are) = one_symbol args s.entered.arguments_fit in
    no_value s.state (sym (ap (λ vs. added (entry_store one_key_twice vs variables) one_key_twice.pre nothing) are ∙ added_twice l variables) ∙ s.adding.added_is)

-- ---- known outs

module _ (variables : Store) (none : value_of variables result_name ≡ None) (v : PureValue) (counter : ℕ) (out : Outcome) where
  abbrev of_case : Entry
  of_case = record { spec = knows_the_second_case; args = v ∷ []; variables = variables }

  case_over : Leads (with_q knows_the_second_case) Record no_memory of_case (started (with_q knows_the_second_case) of_case nothing counter) out → out ≡ is_over
  case_over leads = leads ∙ rw none (rw (len-empty key_cmp PureValue) refl)

  abbrev of_fact : Entry
  of_fact = record { spec = knows_the_second_fact; args = v ∷ []; variables = variables }

  abbrev q_fact : ℕ → Fact
  q_fact n = record { pred = codes "q"; ins = v ∷ []; outs = number_value n ∷ [] }

  fact_over : value_of variables (codes "#w") ≡ None → Leads (with_q knows_the_second_fact) Record no_memory of_fact (started (with_q knows_the_second_fact) of_fact (record { heap = empty; facts = q_fact 0 ∷ q_fact 1 ∷ [] }) counter) out → out ≡ is_over
  fact_over unnamed leads = leads ∙ rw none (rw (same_value-refl v) (rw unnamed (rw (same_value-refl v) (rw unnamed (rw (len-empty key_cmp PureValue) refl)))))

pub returns-clause-known_case : goal.returns-clause-known_case
returns-clause-known_case c args variables k d fault reached = none_at_all (with_q knows_the_second_case) (record { spec = knows_the_second_case; args = args; variables = variables }) over k d fault reached
  where
    over : OverAtOnce (with_q knows_the_second_case) (record { spec = knows_the_second_case; args = args; variables = variables })
    over d s out leads =
        let (v, are) = one_argument args s.entered.arguments_fit in
        let none = no_result knows_the_second_case args variables s.entered (value_of variables result_name) refl in
        let state : s.state ≡ nothing = sym (same_some s.adding.added_is) in
        case_over variables none v s.counter out
        (subst (λ vs. Leads (with_q knows_the_second_case) Record no_memory (record { spec = knows_the_second_case; args = vs; variables = variables }) (started (with_q knows_the_second_case) (record { spec = knows_the_second_case; args = vs; variables = variables }) nothing s.counter) out) are
        (subst (λ st. Leads (with_q knows_the_second_case) Record no_memory (record { spec = knows_the_second_case; args = args; variables = variables }) (started (with_q knows_the_second_case) (record { spec = knows_the_second_case; args = args; variables = variables }) st s.counter) out) state
        (subst (λ x. Leads (with_q knows_the_second_case) Record no_memory (record { spec = knows_the_second_case; args = args; variables = variables }) x out) s.is_start leads)))

pub returns-clause-known_fact : goal.returns-clause-known_fact
returns-clause-known_fact c args variables k d fault reached = none_at_all (with_q knows_the_second_fact) (record { spec = knows_the_second_fact; args = args; variables = variables }) over k d fault reached
  where
    unnamed : {d : Checked} (o : Option PureValue) → value_of variables (codes "#w") ≡ o → IsStart (with_q knows_the_second_fact) Record no_memory (record { spec = knows_the_second_fact; args = args; variables = variables }) d → o ≡ None
    unnamed None at s = refl
    unnamed (Some w) at s = absurd (true≢false (sym (s.entered.only_variables (codes "#w") w at)))

    over : OverAtOnce (with_q knows_the_second_fact) (record { spec = knows_the_second_fact; args = args; variables = variables })
    over d s out leads =
        let (v, are) = one_argument args s.entered.arguments_fit in
        let none = no_result knows_the_second_fact args variables s.entered (value_of variables result_name) refl in
        let pair : LogicState = record { heap = empty; facts = record { pred = codes "q"; ins = v ∷ []; outs = number_value 0 ∷ [] } ∷ record { pred = codes "q"; ins = v ∷ []; outs = number_value 1 ∷ [] } ∷ [] } in
        let state : s.state ≡ pair = same_some (sym s.adding.added_is ∙ ap (λ vs. added (entry_store knows_the_second_fact vs variables) knows_the_second_fact.pre nothing) are) in
        fact_over variables none v s.counter out (unnamed (value_of variables (codes "#w")) refl s)
        (subst (λ vs. Leads (with_q knows_the_second_fact) Record no_memory (record { spec = knows_the_second_fact; args = vs; variables = variables }) (started (with_q knows_the_second_fact) (record { spec = knows_the_second_fact; args = vs; variables = variables }) pair s.counter) out) are
        (subst (λ st. Leads (with_q knows_the_second_fact) Record no_memory (record { spec = knows_the_second_fact; args = args; variables = variables }) (started (with_q knows_the_second_fact) (record { spec = knows_the_second_fact; args = args; variables = variables }) st s.counter) out) state
        (subst (λ x. Leads (with_q knows_the_second_fact) Record no_memory (record { spec = knows_the_second_fact; args = args; variables = variables }) x out) s.is_start leads)))

pub returns-clause-cycle : goal.returns-clause-cycle
returns-clause-cycle c = cycle_has_no_fault
