-- The answers of a call by specification are exact, from where the called procedure begins.
use Rattle.std.proofs.Common.{◌≡◌, inl, inr, List, [], ◌∷◌, Bool, true, false, Option, Some, None, IsTrue, refl, sym, ap, subst, ◌∙◌, true≢false, append-nil}
use Rattle.std.specs.Str.{bytes_eq}
use Rattle.gil_values.specs.declared.places.Place.{Place}
use Rattle.gil_values.specs.Pure.{PureValue}
use Rattle.gil_machine.specs.Step.{bind_all}
use Rattle.gil_syntax.specs.declared.assertions.Param.{Param}
use Rattle.gil_syntax.specs.Evaluation.{Store, value_of}
use Rattle.gil_syntax.specs.Pure.{PureParts, PureSpec}
use Rattle.gil_syntax.specs.Valid.{param_names, is_among}
use Rattle.mem_model.specs.declared.keys.MemoryName.{MemoryName}
use Rattle.mem_model.specs.Actions.{Actions}
use Rattle.mem_model.specs.Heaps.{Heap}
use Rattle.assert_logic.specs.LogicStates.{LogicState}
use Rattle.assert_logic.specs.Matching.{Match, matched, stops, match_assertion}
use Rattle.checked_runs.specs.Checked.{Checked, has_fault, call_precondition, Entry, logic_state, Called, CalledIfFit}
use Rattle.checked_runs.specs.Specifications.{fit_params, entry_store}
use Rattle.checked_runs.proofs.Readable.{names_length}
use Rattle.checked_runs.proofs.Stores.{IsGoodSpec, args_sorted, no_param}
use Rattle.footprint.specs.Consuming.{Matches}
use Rattle.footprint.specs.Leaves.{IsLonger, IsMatch}
use Rattle.footprint.specs.Pure.{PureMatch}
use Rattle.pure_terms.specs.declared.variables.Sort.{Sort}
use Rattle.pure_terms.specs.Meaning.{all_true, IsOver, Satisfies}
use Rattle.pure_terms.specs.Pure.{PureAtom}
use Rattle.sym_evaluation.specs.Meaning.{StandsFor}
use Rattle.sym_model.specs.Laws.{IsMeaning}
use Rattle.sym_model.specs.Lists.{OneOf}
use Rattle.sym_model.specs.Terms.{StateTerms}
use Rattle.sym_model.proofs.ListLaws.{each_append, not_none, same_some}
use Rattle.sym_states.proofs.Names.{or_left, or_right, same_name}
use Rattle.sym_paths.proofs.Moving.{running_stands, running_each}
use Rattle.sym_paths.specs.Frames.{running_store}
use Rattle.sym_states.specs.Meaning.{Serves}
use Rattle.sym_states.specs.Pure.{PureState}
use Rattle.checked_paths.specs.declared.nexts.FaultKind.{FaultKind}
use Rattle.checked_paths.specs.Causes.{PureShown, shown_of}
use Rattle.checked_paths.specs.Choosing.{choice_of_called, choice_if_fit}
use Rattle.checked_paths.specs.Exactness.{HaveMore}
use Rattle.checked_paths.specs.Meaning.{StandsForChecked, MayGoOn}
use Rattle.checked_paths.specs.Pure.{PureEntry, PureChecking, PureNext}
use Rattle.checked_rows.specs.Doubts.{PureDoubt, always, under, beyond, doubt_cause, IsDoubtIn}
use Rattle.checked_rows.specs.States.{IsStateOf}
use Rattle.checked_rows.proofs.ExactLaws.{same_values_there}
use Rattle.checked_rows.proofs.StateLaws.{state_vars, state_conds}
use Rattle.call_rows.specs.declared.leaving.Completion.{Completion}
use Rattle.call_rows.specs.Arguments.{HasArguments, FitParams, IsUnfit, IsDoubtOver}
use Rattle.call_rows.specs.Matches.{scope_of, AnswersMatch, MatchFails, AnswersCall}
use Rattle.call_rows.proofs.Called.{IsUnderCall, LeadsByCall, IsRightCall, IsExactCall, AreExactCall}
use Rattle.call_rows.proofs.CallingLaws.{begun_serves, match_vars, match_over, arguments_fit}
use Rattle.call_rows.proofs.GatheringLaws.{each_gathered}
use Rattle.call_rows.proofs.PostExact.{posts_exact}
use Rattle.call_rows.proofs.PostLaws.{IsMatched}

-- ---- doubts

doubt_over : {S : Type 0} (s : PureState S) (vars : List Sort) (conds : List PureAtom) (Fails : List PureValue → Type 0) (doubt : PureDoubt) → s.vars ≡ vars → s.conds ≡ conds → IsDoubtIn s Fails doubt → IsDoubtOver vars conds Fails doubt
doubt_over s vars conds Fails always same_vars same_conds fails = λ v met. fails v (subst (λ cs. IsTrue (all_true v cs)) (sym same_conds) met)
doubt_over s vars conds Fails (under atoms u) same_vars same_conds (longer, meets, fails) = (subst (λ cs. IsLonger cs atoms) same_conds longer, subst (λ vs. Satisfies vs u atoms) same_vars meets, fails)
doubt_over s vars conds Fails (beyond atoms reason) same_vars same_conds (longer, outside) = (subst (λ cs. IsLonger cs atoms) same_conds longer, outside)

one_param : (P : Param → Type 0) (qs : List Param) → OneOf P qs → (q : Param) × ((is_among (param_names qs) q.name ≡ true) × P q)
one_param P [] one = absurd one
one_param P (q ∷ qs) (inl here) = (q, (or_left (bytes_eq q.name q.name) (is_among (param_names qs) q.name) (same_name q.name), here))
one_param P (q ∷ qs) (inr later) = let (r, (among, is)) = one_param P qs later in (r, (or_right (bytes_eq r.name q.name) (is_among (param_names qs) r.name) among, is))

module _ {S : Type 0} (p : PureParts) (memory : MemoryName) (m : Actions) (stands : S → List PureValue → Heap → Type 0) (terms : S → StateTerms) (meaning : IsMeaning memory stands terms) (kept : S → Type 0) (e : PureEntry) (y : PureChecking S) (may : MayGoOn p terms e y) (used : PureSpec)
    (good : IsGoodSpec memory used.name used) (here : Place) where
  -- the state has the fault of a call, and makes no choice
  abbrev HasCallFault : Entry → Checked → List PureValue → Place → Type 0
  HasCallFault entry d args place = LeadsByCall p memory m stands e used y here y.path.choices entry d args place (λ out. out ≡ has_fault call_precondition)

  module _ (Fails : List PureValue → Type 0) (faulty : (v : List PureValue) (entry : Entry) (d : Checked) (args : List PureValue) (place : Place) → StandsForChecked stands e y v entry d → HasArguments used args d → Fails v → HasCallFault entry d args place) where
    fails_there : (conds : List PureAtom) → ((v : List PureValue) → IsTrue (all_true v conds) → Fails v) → (shown : PureShown) → shown.vars ≡ y.path.vars → shown.choices ≡ y.path.choices → shown.conds ≡ conds → (v w : List PureValue) (entry : Entry) (d : Checked) (args : List PureValue) (place : Place)
        → IsUnderCall p memory m stands e used y here shown.vars shown.conds v w entry d args → LeadsByCall p memory m stands e used y here shown.choices entry d args place (λ out. out ≡ has_fault call_precondition)
    fails_there conds fails shown table choices are v w entry d args place under_it =
        let same : w ≡ v = same_values_there d.machine.counter y.path.vars shown.vars v w table under_it.continued in
        let led = faulty v entry d args place under_it.standing under_it.arguments (fails v (subst (λ u. IsTrue (all_true u conds)) same (subst (λ cs. IsTrue (all_true w cs)) are under_it.meets.true_there))) in
        record { chosen = led.chosen; choices_are = choices ∙ led.choices_are; outcome = led.outcome; leads = led.leads; choice = led.choice; is = led.is }

    same_table : HaveMore y.path.vars y.path.vars
    same_table = ([], sym (append-nil y.path.vars))

    right : (doubt : PureDoubt) → IsDoubtOver y.path.vars y.path.conds Fails doubt → IsRightCall p memory m stands e used y here (doubt_cause FaultKind.CallPrecondition (shown_of here y.path) doubt)
    right always fails = record {
      at = record { place = refl; table = same_table; longer = ([], sym (append-nil y.path.conds)); known = λ u none. not_none none };
      met = λ v meets. (v, meets);
      exact = fails_there y.path.conds fails (shown_of here y.path) refl refl refl;
    }
    right (under conds u) (longer, meets, fails) = record {
      at = record { place = refl; table = same_table; longer = longer; known = λ w same. subst (λ k. Satisfies y.path.vars k conds) (same_some same) meets };
      met = λ v before. (u, meets);
      exact = fails_there conds fails (record (shown_of here y.path) { conds = conds; valuation = Some u }) refl refl refl;
    }
    right (beyond conds reason) (longer, outside) = record {
      at = record { place = refl; table = same_table; longer = longer; known = λ u none. not_none none };
      chosen = None;
      choices = sym (append-nil y.path.choices);
      outside = outside.outside;
      first = outside.first;
    }

  -- ---- the sorts of arguments

  unfit_args : (q : Param) → is_among (param_names used.params) q.name ≡ true → (v : List PureValue) (entry : Entry) (d : Checked) (args : List PureValue) → StandsForChecked stands e y v entry d → HasArguments used args d
      → IsUnfit y.path.vars y.path.conds (running_store y.path.stack) used.params q v → fit_params used.params args ≡ false
  unfit_args q among v entry d args standing arguments unfit = by (fit_params used.params args) refl
    where
      stand : StandsFor v (running_store y.path.stack) (bind_all (param_names used.params) args)
      stand = subst (StandsFor v (running_store y.path.stack)) arguments.bound (running_stands v y.path.stack d.machine.current d.machine.callers standing.path.frames)

      fits_not : fit_params used.params args ≡ true → (o : Option PureValue) → value_of (bind_all (param_names used.params) args) q.name ≡ o → ⊥
      fits_not fit None none = true≢false (sym among ∙ no_param (param_names used.params) args q.name (names_length used.params ∙ arguments.as_many) none)
      fits_not fit (Some w) at =
          true≢false
          (sym (args_sorted used.params args fit good.distinct q.name w at) ∙ unfit (bind_all (param_names used.params) args) w standing.path.proper (running_each (IsOver y.path.vars) y.path.stack may.over.path.stores) stand at)

      by : (b : Bool) → fit_params used.params args ≡ b → b ≡ false
      by false is = refl
      by true is = absurd (fits_not is (value_of (bind_all (param_names used.params) args) q.name) refl)

  unfit_fault : (q : Param) → is_among (param_names used.params) q.name ≡ true → (v : List PureValue) (entry : Entry) (d : Checked) (args : List PureValue) (place : Place) → StandsForChecked stands e y v entry d → HasArguments used args d
      → IsUnfit y.path.vars y.path.conds (running_store y.path.stack) used.params q v → HasCallFault entry d args place
  unfit_fault q among v entry d args place standing arguments unfit =
      let (l, chosen) =
      subst (λ b. (l : CalledIfFit p memory m entry b used args place d (has_fault call_precondition)) × (choice_if_fit p memory m entry b used args place d (has_fault call_precondition) l ≡ None)) (sym (unfit_args q among v entry d args standing arguments unfit)) (refl, refl) in
      record { chosen = None; choices_are = sym (append-nil y.path.choices); outcome = has_fault call_precondition; leads = l; choice = chosen; is = refl }

  -- ---- the match

  store_is : (d : Checked) (args : List PureValue) → HasArguments used args d → d.machine.current.store ≡ entry_store used args []
  store_is d args arguments = arguments.bound ∙ sym (append-nil (bind_all (param_names used.params) args))

  module _ (fit : FitParams y.path.vars y.path.conds (running_store y.path.stack) used.params used.params) where
    fits : (v : List PureValue) (entry : Entry) (d : Checked) (args : List PureValue) → StandsForChecked stands e y v entry d → HasArguments used args d → fit_params used.params args ≡ true
    fits v entry d args standing arguments = arguments_fit p memory m stands terms meaning kept e y may used good here v entry d args fit standing arguments

    module _ (s : PureState S) (is_state : IsStateOf stands terms y.path y.facts s) where
      match_fault : (v : List PureValue) (entry : Entry) (d : Checked) (args : List PureValue) (place : Place) → StandsForChecked stands e y v entry d → HasArguments used args d → MatchFails p memory stands terms kept e used y here s v → HasCallFault entry d args place
      match_fault v entry d args place standing arguments fails =
          let (n, stopped) = fails d.machine.current.store (logic_state d) (begun_serves stands terms kept e y may.over s is_state v entry d standing) in
          let there : match_assertion p.preds (scope_of used) used.pre (entry_store used args []) (logic_state d) ≡ stops n = subst (λ t. match_assertion p.preds (scope_of used) used.pre t (logic_state d) ≡ stops n) (store_is d args arguments) stopped in
          let (l, chosen) =
          subst (λ b. (l : CalledIfFit p memory m entry b used args place d (has_fault call_precondition)) × (choice_if_fit p memory m entry b used args place d (has_fault call_precondition) l ≡ None)) (sym (fits v entry d args standing arguments))
          (subst (λ o. (l : Called p memory m entry used args place o d (has_fault call_precondition)) × (choice_of_called p memory m entry used args place o d (has_fault call_precondition) l ≡ None)) (sym there) (refl, refl)) in
          record { chosen = None; choices_are = sym (append-nil y.path.choices); outcome = has_fault call_precondition; leads = l; choice = chosen; is = refl }

      abbrev If : List PureValue → Store → LogicState → Type 0
      If = Serves stands terms s (running_store y.path.stack)

      abbrev Gives : List PureValue → Store → LogicState → Store → LogicState → Type 0
      Gives = Matches p.preds (scope_of used) used.pre

      module _ (q : PureMatch S) (match : IsMatch stands terms kept s If Gives q) where
        found_there : (v : List PureValue) (entry : Entry) (d : Checked) (args : List PureValue) → StandsForChecked stands e y v entry d → HasArguments used args d → IsTrue (all_true v q.state.conds)
            → (fit_params used.params args ≡ true) × ((found : Match) × IsMatched p stands terms e used y q v entry d args found)
        found_there v entry d args standing arguments met =
            let (t', (l', ((taken, matches), serves))) = match.exact v d.machine.current.store (logic_state d) (begun_serves stands terms kept e y may.over s is_state v entry d standing) met in
            let found : Match = record { store = t'; state = l'; taken = taken } in
            let there : match_assertion p.preds (scope_of used) used.pre (entry_store used args []) (logic_state d) ≡ matched found = subst (λ t. match_assertion p.preds (scope_of used) used.pre t (logic_state d) ≡ matched found) (store_is d args arguments) matches in
            (fits v entry d args standing arguments, (found, record { standing = standing; arguments = arguments; matches = there; serves = serves }))

        same_path : q.state.path ≡ y.path.choices
        same_path = ap (λ (r : PureState S). r.path) match.later.same_else ∙ ap (λ (r : PureState S). r.path) is_state.is

        longer : HaveMore y.path.conds q.state.conds
        longer = subst (λ cs. IsLonger cs q.state.conds) (state_conds stands terms y.path y.facts s is_state) match.later.longer

        match_exact : (ks : List (PureNext S)) → AnswersMatch p memory stands terms kept e used y here q ks → AreExactCall p memory m stands e used y here ks
        match_exact ks (inl (none, nothing)) = subst (AreExactCall p memory m stands e used y here) (sym nothing) tt
        match_exact ks (inr (ready, (is_ready, (returned, (thrown, (posts, errors, are)))))) =
            let vars = match_vars stands terms kept e y may.over s is_state If Gives q match in
            let over = match_over stands terms kept e y may.over s is_state If Gives q match in
            subst (AreExactCall p memory m stands e used y here) (sym are)
            (each_append (IsExactCall p memory m stands e used y here) returned thrown
            (posts_exact p memory m stands terms meaning kept e y may used good here q vars same_path longer over found_there ready is_ready Completion.Returns returned posts)
            (posts_exact p memory m stands terms meaning kept e y may used good here q vars same_path longer over found_there ready is_ready Completion.Throws thrown errors))

  -- ---- the call

  pub answers_exact : (ks : List (PureNext S)) → AnswersCall p memory stands terms kept e used y here ks → AreExactCall p memory m stands e used y here ks
  answers_exact ks (inl (doubt, (unfit, (cause, (is, shows))))) =
      let (q, (among, told)) = one_param (λ q. IsDoubtOver y.path.vars y.path.conds (IsUnfit y.path.vars y.path.conds (running_store y.path.stack) used.params q) doubt) used.params unfit in
      subst (AreExactCall p memory m stands e used y here) (sym is)
      (subst (IsRightCall p memory m stands e used y here) (sym shows) (right (IsUnfit y.path.vars y.path.conds (running_store y.path.stack) used.params q) (unfit_fault q among) doubt told), tt)
  answers_exact ks (inr (fit, inl (s, (is_state, (doubt, (told, (cause, (is, shows)))))))) =
      let over = doubt_over s y.path.vars y.path.conds (MatchFails p memory stands terms kept e used y here s) doubt (state_vars stands terms y.path y.facts s is_state) (state_conds stands terms y.path y.facts s is_state) told in
      subst (AreExactCall p memory m stands e used y here) (sym is)
      (subst (IsRightCall p memory m stands e used y here) (sym shows) (right (MatchFails p memory stands terms kept e used y here s) (match_fault fit s is_state) doubt over), tt)
  answers_exact ks (inr (fit, inr answers)) =
      each_gathered (AnswersMatch p memory stands terms kept e used y here) (IsMatch stands terms kept answers.state (If fit answers.state answers.is_state) (Gives fit answers.state answers.is_state)) (IsExactCall p memory m stands e used y here) answers.matches ks answers.nexts
      (λ q ns answer match. match_exact fit answers.state answers.is_state q match ns answer) answers.all.matched
