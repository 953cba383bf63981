-- The commands that make a new record follow what `new` does.
use Rattle.std.proofs.Common.{◌≡◌, ◌≢◌, ℕ, ◌+◌, ◌<◌, ◌≤◌, List, [], ◌∷◌, ◌++◌, true, false, Some, None, Ok, Err, length, refl, sym, ap, subst, ◌∙◌, arith, length-append}
use Rattle.std.specs.Prelude.{codes}
use Rattle.std.proofs.lemmas.Bool.{and_parts}
use Rattle.gil_values.specs.declared.places.Place.{Place}
use Rattle.gil_values.specs.Pure.{PureValue, text, list, from_list}
use Rattle.gil_values.specs.Operators.{Outcome}
use Rattle.gil_syntax.specs.Pure.{literal, name, list_of, assign, act, PureNumberedCommand, PureProc, PureParts, from_list as from_exprs}
use Rattle.gil_syntax.specs.Programs.{find_proc}
use Rattle.gil_syntax.specs.Evaluation.{Store, bind, value_of, set_or_fault, both, as_list, Outcomes, evaluate, evaluate_elements, evaluate_all}
use Rattle.mem_model.specs.Actions.{Actions, ActionResult}
use Rattle.gil_machine.specs.State.{Frame, State, goes_on}
use Rattle.gil_machine.specs.Step as machine
use Rattle.gil_machine.specs.Run.{run}
use Rattle.source_language.specs.Completions.{Situation, Completion, normal, sets, with_value, with_values, after_action}
use Rattle.source_language.specs.Names.{are_source_exprs, is_source_expr, temporary, IsExtendedBy}
use Rattle.source_language.specs.Procedures.{placed}
use Rattle.source_language.proofs.Stores.{same_value, bound_value, other_temporary_value, extended_both, extended_more}
use Rattle.source_language.proofs.Stretches.{HasAt, has_front, has_back}
use Rattle.source_language.proofs.Following.{state_at, Here, leads, Runs, runs_after, steps, one_step, matched, value_runs, outcome_runs}
use Rattle.while_lang.specs.Pure.{PureField}
use Rattle.while_lang.specs.Meaning.{field_names, field_values, fill}
use Rattle.while_compiler.specs.Compiled.{name_literals, field_values_code, fill_code, new_code}

-- which actions take a new symbol
pub record TakesForNew (m : Actions) : Type 0 where
  pub new : m.takes_symbol (codes "new") ≡ true
  pub lookup : m.takes_symbol (codes "lookup") ≡ false
  pub mutate : m.takes_symbol (codes "mutate") ≡ false
  pub dispose : m.takes_symbol (codes "dispose") ≡ false

-- the temporaries from a number on have these values
abbrev pub Holds : Store → ℕ → List PureValue → Type 0
Holds store i [] = Unit {0}
Holds store i (v ∷ vs) = (value_of store (temporary i) ≡ Some v) × Holds store (i + 1) vs

holds_more : (store : Store) (i j : ℕ) (w : PureValue) (vs : List PureValue) → i + length vs ≤ j → Holds store i vs
    → Holds (bind (temporary j) w store) i vs
holds_more store i j w [] le h = tt
holds_more store i j w (v ∷ vs) le h =
    let ne : j ≢ i = omega arith in
    (other_temporary_value j i w store ne ∙ h.0, holds_more store (i + 1) j w vs (omega arith) h.1)

-- the first of some values and those after it
first_then : (o : Outcome) (r : Outcomes) (here : Place) (s : Situation) (then : List PureValue → Completion)
    → with_values (both o r) here s then ≡ with_value o here s (λ v. with_values r here s (λ vs. then (v ∷ vs)))
first_then (Ok v) (Ok vs) here s then = refl
first_then (Ok v) (Err fault) here s then = refl
first_then (Err fault) r here s then = refl

names_value : (fields : List PureField) (store : Store) → evaluate_elements (from_exprs (name_literals fields)) store ≡ Ok
    (field_names fields)
names_value [] store = refl
names_value (field ∷ fields) store = ap (λ r. both (Ok (text field.name)) r) (names_value fields store)

module _ (p : PureParts) (m : Actions) (takes : TakesForNew m) (inputs : List PureValue) (f : List ℕ) (q : PureProc)
    (found : find_proc p.procs f ≡ Some q) (callers : List Frame) where
  follows_from : (least pc pc' from : ℕ) (store : Store) (s : Situation) (c : Completion) → pc ≡ from
      → Runs (run p m inputs) None least f callers pc' (state_at f pc callers store s) c → Runs (run p m inputs) None least f callers pc' (state_at f from callers store s) c
  follows_from least pc pc' from store s c e r = subst (λ n. Runs (run p m inputs) None least f callers pc' (state_at f n callers store s) c) e r

  -- the values of the fields are put into temporaries
  values_run : (fields : List PureField) (least i pc pc' at : ℕ) (store : Store) (s : Situation) (then : List PureValue → Completion)
      → IsExtendedBy s.store store → are_source_exprs (from_exprs (field_values fields)) ≡ true
      → HasAt q.body pc (field_values_code at i fields) → ((vs : List PureValue) (more : Store) → length vs ≡ length fields
      → IsExtendedBy s.store more → ((j : ℕ) → j < i → value_of more (temporary j) ≡ value_of store (temporary j)) → Holds more i vs
      → Runs (run p m inputs) None least f callers pc' (state_at f (pc + length (field_values_code at i fields)) callers more s) (then vs))
      → Runs (run p m inputs) None least f callers pc' (state_at f pc callers store s) (with_values (evaluate_all (field_values fields) s.store) (Here f at) s then)
  values_run [] least i pc pc' at store s then more names has next =
      let e : pc + 0 ≡ pc = omega arith in
      follows_from least (pc + 0) pc' pc store s (then []) e (next [] store refl more (λ j lt. refl) tt)
  values_run (field ∷ fields) least i pc pc' at store s then more names has next =
      subst (Runs (run p m inputs) None least f callers pc' (state_at f pc callers store s))
      (sym (first_then (evaluate field.value s.store) (evaluate_all (field_values fields) s.store)
      (Here f at) s then))
      (value_runs p m inputs f q found callers None least pc pc' store s (Here f at) (evaluate field.value s.store) _ _
      (steps p m inputs f q found callers None pc _ store s has.0 ∙ ap
      (λ o. machine.with_value o (Here f at) (state_at f pc callers store s)
      (λ v. machine.assigned (temporary i) v (state_at f pc callers store s))) (same_value field.value s.store store more parts.0))
      (λ v is. runs_after (run p m inputs) None least f callers pc' _ _ _ (leads _ _ _ (one_step p m inputs f q found callers None _ _ is))
      (values_run fields least (i + 1) (pc + 1) pc' at (bind (temporary i) v store) s (λ vs. then (v ∷ vs))
      (extended_more i v s.store store more) parts.1 has.1
      (λ vs last len ext below holds.
      let e : pc + length (field_values_code at i (field ∷ fields)) ≡ pc + 1 + length (field_values_code at (i + 1) fields) = omega arith in
      let same : length (v ∷ vs) ≡ length (field ∷ fields) = omega arith in
      let here : i < i + 1 = omega arith in
      follows_from least _ pc' _ last s (then (v ∷ vs)) e
      (next (v ∷ vs) last same ext
      (λ j lt. let lower : j < i + 1 = omega arith in let ne : i ≢ j = omega arith in below j lower ∙ other_temporary_value i j v store ne)
      (below i here ∙ bound_value (temporary i) v store, holds))))))
    where
      parts : (is_source_expr field.value ≡ true) × (are_source_exprs (from_exprs (field_values fields)) ≡ true)
      parts = and_parts _ _ names

  -- an action that takes no symbol
  acts : (a x : List ℕ) (args : List PureValue) (here : Place) (st : State) → m.takes_symbol a ≡ false
      → machine.do_action (m.takes_symbol a) m x a args here st ≡ machine.after_action (m.act a None args st.heap).outcome x here
      (record st { heap = (m.act a None args st.heap).heap })
  acts a x args here st takes_none = ap (λ b. machine.do_action b m x a args here st) takes_none

  acts_new : (a x : List ℕ) (args : List PureValue) (here : Place) (st : State) → m.takes_symbol a ≡ true
      → machine.do_action (m.takes_symbol a) m x a args here st ≡ machine.after_action
      (m.act a (Some st.counter) args st.heap).outcome x here
      (record st { counter = st.counter + 1; heap = (m.act a (Some st.counter) args st.heap).heap })
  acts_new a x args here st takes_one = ap (λ b. machine.do_action b m x a args here st) takes_one

  -- the fields get their values
  fill_runs : (fields : List PureField) (vs : List PureValue) (least i record_at written pc pc' at : ℕ) (l : PureValue) (store : Store)
      (s : Situation) (then : Situation → Completion) → i + length vs ≤ written → written ≢ record_at → length vs ≡ length fields
      → IsExtendedBy s.store store → value_of store (temporary record_at) ≡ Some l → Holds store i vs
      → HasAt q.body pc (fill_code at record_at written i fields)
      → ((more : Store) (t : Situation) → IsExtendedBy t.store more → value_of more (temporary record_at) ≡ Some l
      → Runs (run p m inputs) None least f callers pc' (state_at f (pc + length (fill_code at record_at written i fields)) callers more t) (then t))
      → Runs (run p m inputs) None least f callers pc' (state_at f pc callers store s) (fill m l fields vs (Here f at) s then)
  fill_runs [] [] least i record_at written pc pc' at l store s then le ne len ext is holds has next =
      let e : pc + 0 ≡ pc = omega arith in
      follows_from least (pc + 0) pc' pc store s (then s) e (next store s ext is)
  fill_runs [] (v ∷ vs) least i record_at written pc pc' at l store s then le ne len ext is holds has next = absurd (omega (arith, len))
  fill_runs (field ∷ fields) [] least i record_at written pc pc' at l store s then le ne len ext is holds has next = absurd
      (omega (arith, len))
  fill_runs (field ∷ fields) (v ∷ vs) least i record_at written pc pc' at l store s then le ne len ext is holds has next =
      outcome_runs p m inputs f q found callers None least pc pc' (temporary written) store (record s { heap = result.heap }) here
      (state_at f pc callers store s) result.outcome _ goes
      (λ w. fill_runs fields vs least (i + 1) record_at written (pc + 1) pc' at l (bind (temporary written) w store)
      (record s { heap = result.heap }) then (omega arith) ne (omega arith) (extended_more written w s.store store ext)
      (other_temporary_value written record_at w store ne ∙ is)
      (holds_more store (i + 1) written w vs (omega arith) holds.1) has.1
      (λ more t ext' is'.
      let e : pc + length (fill_code at record_at written i (field ∷ fields)) ≡ pc + 1 + length
      (fill_code at record_at written (i + 1) fields) = omega arith in
      follows_from least _ pc' _ more t (then t) e (next more t ext' is')))
    where
      here : Place
      here = Here f at

      result : ActionResult
      result = m.act (codes "mutate") None (l ∷ text field.name ∷ v ∷ []) s.heap

      args : evaluate_all (name (temporary record_at) ∷ literal (text field.name) ∷ name (temporary i) ∷ []) store ≡ Ok
          (l ∷ text field.name ∷ v ∷ [])
      args = λ k. both (set_or_fault (is k)) (both (Ok (text field.name)) (both (set_or_fault (holds.0 k)) (Ok [])))

      goes : machine.step p m inputs (state_at f pc callers store s) ≡ machine.after_action result.outcome (temporary written) here
          (state_at f pc callers store (record s { heap = result.heap }))
      goes =
          steps p m inputs f q found callers None pc _ store s has.0
          ∙ ap (λ o. machine.with_values o here (state_at f pc callers store s)
          (λ vs. machine.do_action (m.takes_symbol (codes "mutate")) m (temporary written) (codes "mutate") vs here
          (state_at f pc callers store s))) args
          ∙ acts (codes "mutate") (temporary written) _ here (state_at f pc callers store s) takes.mutate

  -- a new record
  pub new_runs : (least pc at : ℕ) (x : List ℕ) (fields : List PureField) (store : Store) (s : Situation) → IsExtendedBy s.store store
      → are_source_exprs (from_exprs (field_values fields)) ≡ true → HasAt q.body pc (new_code at x fields)
      → Runs (run p m inputs) None least f callers (pc + length (new_code at x fields)) (state_at f pc callers store s)
      (with_values (evaluate_all (field_values fields) s.store) (Here f at) s
      (λ vs. after_action (m.act (codes "new") (Some s.counter) (list (from_list (field_names fields)) ∷ []) s.heap)
      (Here f at) (record s { counter = s.counter + 1 })
      (λ l t. fill m l fields vs (Here f at) t (λ u. normal (sets x l u)))))
  new_runs least pc at x fields store s ext names has = values_run fields least 0 pc end at store s _ ext names
      (has_front q.body pc values _ has) made
    where
      here : Place
      here = Here f at

      count : ℕ
      count = length fields

      values : List PureNumberedCommand
      values = field_values_code at 0 fields

      filling : List PureNumberedCommand
      filling = fill_code at count (count + 1) 0 fields

      last : List PureNumberedCommand
      last = placed at (assign x (name (temporary count))) ∷ []

      making : List PureNumberedCommand
      making = placed at (act (temporary count) (codes "new") (list_of (from_exprs (name_literals fields)) ∷ [])) ∷ (filling ++ last)

      end : ℕ
      end = pc + length (new_code at x fields)

      pc1 : ℕ
      pc1 = pc + length values

      at_making : HasAt q.body pc1 making
      at_making = has_back q.body pc values making has

      at_filling : HasAt q.body (pc1 + 1) filling
      at_filling = has_front q.body (pc1 + 1) filling last at_making.1

      at_last : HasAt q.body (pc1 + 1 + length filling) last
      at_last = has_back q.body (pc1 + 1) filling last at_making.1

      ends : pc1 + 1 + length filling + 1 ≡ end
      ends = omega (arith, length-append values making, length-append filling last)

      result : ActionResult
      result = m.act (codes "new") (Some s.counter) (list (from_list (field_names fields)) ∷ []) s.heap

      then : Situation
      then = record s { counter = s.counter + 1; heap = result.heap }

      -- the variable gets the record
      named : (l : PureValue) (more : Store) (t : Situation) → IsExtendedBy t.store more → value_of more (temporary count) ≡ Some l
          → Runs (run p m inputs) None least f callers end (state_at f (pc1 + 1 + length filling) callers more t) (normal (sets x l t))
      named l more t ext' is =
          matched p m inputs f q found callers None least end (state_at f (pc1 + 1 + length filling) callers more t) _ (normal (sets x l t))
          (steps p m inputs f q found callers None (pc1 + 1 + length filling) _ more t at_last.0
          ∙ ap (λ o. machine.with_value (set_or_fault o) here (state_at f (pc1 + 1 + length filling) callers more t)
          (λ v. machine.assigned x v (state_at f (pc1 + 1 + length filling) callers more t))) is)
          (bind x l more, extended_both x l t.store more ext', ap (λ n. goes_on (state_at f n callers (bind x l more) (sets x l t))) ends)

      made : (vs : List PureValue) (more : Store) → length vs ≡ count → IsExtendedBy s.store more
          → ((j : ℕ) → j < 0 → value_of more (temporary j) ≡ value_of store (temporary j)) → Holds more 0 vs
          → Runs (run p m inputs) None least f callers end (state_at f pc1 callers more s) (after_action result here (record s { counter = s.counter + 1 })
          (λ l t. fill m l fields vs here t (λ u. normal (sets x l u))))
      made vs more len ext' below holds =
          outcome_runs p m inputs f q found callers None least pc1 end (temporary count) more then here (state_at f pc1 callers more s) result.outcome _ goes
          (λ l. fill_runs fields vs least 0 count (count + 1) (pc1 + 1) end at l (bind (temporary count) l more) then
          (λ u. normal (sets x l u)) (omega arith) (omega arith) len
          (extended_more count l s.store more ext') (bound_value (temporary count) l more)
          (holds_more more 0 count l vs (omega arith) holds) at_filling (named l))
        where
          goes : machine.step p m inputs (state_at f pc1 callers more s) ≡ machine.after_action result.outcome (temporary count) here (state_at f pc1 callers more then)
          goes =
              steps p m inputs f q found callers None pc1 _ more s at_making.0
              ∙ ap (λ r. machine.with_values (both (as_list r) (Ok [])) here (state_at f pc1 callers more s)
              (λ vs. machine.do_action (m.takes_symbol (codes "new")) m (temporary count) (codes "new") vs here (state_at f pc1 callers more s)))
              (names_value fields more)
              ∙ acts_new (codes "new") (temporary count) _ here (state_at f pc1 callers more s) takes.new
