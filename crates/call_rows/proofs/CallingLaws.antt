-- The answers of a call by specification cover what the checked states lead to by it.
use Rattle.std.proofs.Common.{◌≡◌, inl, inr, List, [], ◌∷◌, length, true, None, sym, ap, subst, ◌∙◌}
use Rattle.std.proofs.lemmas.List.{append-nil}
use Rattle.gil_values.specs.declared.places.Place.{Place}
use Rattle.gil_values.specs.Pure.{PureValue}
use Rattle.gil_machine.specs.Step.{bind_all}
use Rattle.gil_syntax.specs.Evaluation.{Store}
use Rattle.gil_syntax.specs.Pure.{PureParts, PureSpec}
use Rattle.gil_syntax.specs.Valid.{IsValid, param_names}
use Rattle.mem_model.specs.declared.keys.MemoryName.{MemoryName}
use Rattle.mem_model.specs.Actions.{Actions}
use Rattle.mem_model.specs.Heaps.{Heap}
use Rattle.assert_logic.specs.LogicStates.{LogicState}
use Rattle.assert_logic.specs.Matching.{Match, matched, match_assertion}
use Rattle.checked_runs.specs.Checked.{Checked, Outcome, Entry, logic_state, Called, CalledIfFit}
use Rattle.checked_runs.specs.Specifications.{fit_params, entry_store}
use Rattle.checked_runs.proofs.Stores.{IsGoodSpec}
use Rattle.footprint.specs.Consuming.{Matches}
use Rattle.footprint.specs.Leaves.{IsMatch}
use Rattle.footprint.specs.Pure.{PureMatch}
use Rattle.sym_evaluation.specs.Meaning.{IsStoreOver, StandsFor}
use Rattle.sym_model.specs.Laws.{IsMeaning}
use Rattle.sym_model.specs.Lists.{Each, OneOf}
use Rattle.sym_model.specs.Terms.{StateTerms}
use Rattle.sym_model.proofs.ListLaws.{each_append, one_left, one_right}
use Rattle.sym_paths.proofs.Moving.{running_stands, running_each}
use Rattle.sym_paths.specs.Frames.{running_store}
use Rattle.pure_terms.specs.Meaning.{IsOver}
use Rattle.pure_terms.specs.Pure.{term_of}
use Rattle.sym_states.specs.Meaning as states
use Rattle.sym_states.specs.Meaning.{Serves}
use Rattle.sym_states.specs.Pure.{PureState}
use Rattle.checked_paths.specs.Covering.{CoversOutcome}
use Rattle.checked_paths.specs.Meaning.{IsEntryOver, StandsForChecked, IsCheckedOver, MayGoOn}
use Rattle.checked_paths.specs.declared.nexts.Cause.{Cause}
use Rattle.checked_paths.specs.Pure.{PureEntry, PureChecking, PureNext, caused}
use Rattle.checked_rows.specs.States.{IsStateOf}
use Rattle.checked_rows.proofs.MatchLaws.{one_of_each, Found, one_matches}
use Rattle.checked_rows.proofs.StateLaws.{state_stands, state_over, state_vars}
use Rattle.call_rows.specs.declared.leaving.Completion.{Completion}
use Rattle.call_rows.specs.Arguments.{HasArguments, FitParams}
use Rattle.call_rows.specs.Matches.{MatchOver, scope_of, StaysAt, AreCalled, AnswersReady, AnswersMatch, AnswersMatches, AnswersCall}
use Rattle.call_rows.specs.Posts.{PureReady, IsReady, IsReadyIfAny}
use Rattle.call_rows.proofs.ArgumentLaws.{fit_values, fit_arguments}
use Rattle.call_rows.proofs.GatheringLaws.{one_gathered, each_gathered}
use Rattle.call_rows.proofs.PostLaws.{IsMatched, post_reads, error_reads, may_name, posts_cover, posts_stay}

module _ {S : Type 0} (stands : S → List PureValue → Heap → Type 0) (terms : S → StateTerms) (kept : S → Type 0) (e : PureEntry) (y : PureChecking S) (over : IsCheckedOver terms e y) (s : PureState S) (is : IsStateOf stands terms y.path y.facts s) where
  -- ---- the state where the procedure begins

  pub begun_over : states.IsOverTable terms s
  begun_over = state_over stands terms y.path y.facts s is over.path over.facts

  pub running_over : IsStoreOver s.vars (running_store y.path.stack)
  running_over = subst (λ vars. IsStoreOver vars (running_store y.path.stack)) (sym (state_vars stands terms y.path y.facts s is)) (running_each (IsOver y.path.vars) y.path.stack over.path.stores)

  pub begun_serves : (v : List PureValue) (entry : Entry) (c : Checked) → StandsForChecked stands e y v entry c → Serves stands terms s (running_store y.path.stack) v c.machine.current.store (logic_state c)
  begun_serves v entry c stand = record {
    over = begun_over;
    store_over = running_over;
    store = running_stands v y.path.stack c.machine.current c.machine.callers stand.path.frames;
    state = state_stands stands terms y.path y.facts s is v c.machine c.facts stand.path stand.facts;
  }

  -- a match has the path's table
  pub match_vars : (If : _) (Gives : _) (q : PureMatch S) → IsMatch stands terms kept s If Gives q → q.state.vars ≡ y.path.vars
  match_vars If Gives q match = ap (λ (r : PureState S). r.vars) match.later.same_else ∙ state_vars stands terms y.path y.facts s is

  pub match_over : (If : _) (Gives : _) (q : PureMatch S) → IsMatch stands terms kept s If Gives q → MatchOver terms e y.path.given q
  match_over If Gives q match =
      let same : q.state.vars ≡ s.vars = ap (λ (r : PureState S). r.vars) match.later.same_else in
      record {
        state = match.later.over;
        store = subst (λ vars. IsStoreOver vars q.store) (sym same) match.store_over;
        entry = subst (λ vars. IsEntryOver vars e) (sym (match_vars If Gives q match)) over.entry;
        assumed = subst (λ vars. Each (λ a. IsOver vars (term_of a)) y.path.given) (sym (match_vars If Gives q match)) over.path.given;
      }

module _ {S : Type 0} (p : PureParts) (memory : MemoryName) (m : Actions) (stands : S → List PureValue → Heap → Type 0) (terms : S → StateTerms) (meaning : IsMeaning memory stands terms) (kept : S → Type 0) (e : PureEntry) (y : PureChecking S) (may : MayGoOn p terms e y) (used : PureSpec)
    (good : IsGoodSpec memory used.name used) (there_is : Place) where
  -- ---- one match

  module _ (q : PureMatch S) (q_vars : q.state.vars ≡ y.path.vars) (over : MatchOver terms e y.path.given q) where
    module _ (v : List PureValue) (entry : Entry) (c : Checked) (args : List PureValue) (found : Match) (is : IsMatched p stands terms e used y q v entry c args found) (here : Place) (out : Outcome) where
      ready_covers : (ready : PureReady S) (ks : List (PureNext S)) → IsReady (scope_of used) q ready → AnswersReady p memory stands terms kept e used y there_is ready ks → Called p memory m entry used args here (matched found) c out → OneOf (CoversOutcome stands e entry v out) ks
      ready_covers ready ks is_ready (returned, (thrown, (posts, errors, are))) (inl comes) =
          subst (OneOf (CoversOutcome stands e entry v out)) (sym are)
          (one_left (CoversOutcome stands e entry v out) returned thrown
          (posts_cover p memory m stands terms meaning kept e y may used q q_vars over v entry c args found is used.posts Completion.Returns here out comes (post_reads memory used good comes.number comes.items comes.is_post) ready is_ready there_is 0 returned posts))
      ready_covers ready ks is_ready (returned, (thrown, (posts, errors, are))) (inr comes) =
          subst (OneOf (CoversOutcome stands e entry v out)) (sym are)
          (one_right (CoversOutcome stands e entry v out) returned thrown
          (posts_cover p memory m stands terms meaning kept e y may used q q_vars over v entry c args found is used.errors Completion.Throws here out comes (error_reads memory used good comes.number comes.items comes.is_post) ready is_ready there_is (length used.posts) thrown errors))

      no_result : IsReadyIfAny (scope_of used) q None → ¬ Called p memory m entry used args here (matched found) c out
      no_result none (inl comes) = none v found.store comes.store (may_name p memory m stands terms meaning kept e y may used q q_vars over v entry c args found is used.posts Completion.Returns here out comes)
      no_result none (inr comes) = none v found.store comes.store (may_name p memory m stands terms meaning kept e y may used q q_vars over v entry c args found is used.errors Completion.Throws here out comes)

      pub match_covers : (ks : List (PureNext S)) → AnswersMatch p memory stands terms kept e used y there_is q ks → Called p memory m entry used args here (matched found) c out → OneOf (CoversOutcome stands e entry v out) ks
      match_covers ks (inl (none, nothing)) called = absurd (no_result none called)
      match_covers ks (inr (ready, (is_ready, answers))) called = ready_covers ready ks is_ready answers called

    pub match_stays : IsValid p → (ks : List (PureNext S)) → AnswersMatch p memory stands terms kept e used y there_is q ks → Each (StaysAt p terms e y) ks
    match_stays valid ks (inl (none, nothing)) = subst (Each (StaysAt p terms e y)) (sym nothing) tt
    match_stays valid ks (inr (ready, (is_ready, (returned, (thrown, (posts, errors, are)))))) =
        subst (Each (StaysAt p terms e y)) (sym are)
        (each_append (StaysAt p terms e y) returned thrown
        (posts_stay p memory m stands terms meaning kept e y may used q q_vars over valid ready is_ready Completion.Returns there_is 0 used.posts returned posts)
        (posts_stay p memory m stands terms meaning kept e y may used q q_vars over valid ready is_ready Completion.Throws there_is (length used.posts) used.errors thrown errors))

  -- ---- all matches

  module _ (ks : List (PureNext S)) (answers : AnswersMatches p memory stands terms kept e used y there_is ks) where
    abbrev s : PureState S
    s = answers.state

    abbrev If : List PureValue → Store → LogicState → Type 0
    If = Serves stands terms s (running_store y.path.stack)

    abbrev Gives : List PureValue → Store → LogicState → Store → LogicState → Type 0
    Gives = Matches p.preds (scope_of used) used.pre

    module _ (v : List PureValue) (entry : Entry) (c : Checked) (args : List PureValue) (here : Place) (out : Outcome) (stand : StandsForChecked stands e y v entry c) (arguments : HasArguments used args c) where
      store_is : c.machine.current.store ≡ entry_store used args []
      store_is = arguments.bound ∙ sym (append-nil (bind_all (param_names used.params) args))

      found_covers : (q : PureMatch S) (ns : List (PureNext S)) → AnswersMatch p memory stands terms kept e used y there_is q ns → Found stands terms kept s If Gives v c.machine.current.store (logic_state c) q × IsMatch stands terms kept s If Gives q
          → Called p memory m entry used args here (match_assertion p.preds (scope_of used) used.pre (entry_store used args []) (logic_state c)) c out → OneOf (CoversOutcome stands e entry v out) ns
      found_covers q ns answer ((t', (l', ((taken, matches), serves))), match) called =
          let found : Match = record { store = t'; state = l'; taken = taken } in
          let matches_there : match_assertion p.preds (scope_of used) used.pre (entry_store used args []) (logic_state c) ≡ matched found = subst (λ t. match_assertion p.preds (scope_of used) used.pre t (logic_state c) ≡ matched found) store_is matches in
          match_covers q (match_vars stands terms kept e y may.over s answers.is_state If Gives q match) (match_over stands terms kept e y may.over s answers.is_state If Gives q match) v entry c args found
          (record { standing = stand; arguments = arguments; matches = matches_there; serves = serves }) here out ns answer (subst (λ o. Called p memory m entry used args here o c out) matches_there called)

      matches_cover : Called p memory m entry used args here (match_assertion p.preds (scope_of used) used.pre (entry_store used args []) (logic_state c)) c out → OneOf (CoversOutcome stands e entry v out) ks
      matches_cover called =
          one_gathered (AnswersMatch p memory stands terms kept e used y there_is) (λ q. Found stands terms kept s If Gives v c.machine.current.store (logic_state c) q × IsMatch stands terms kept s If Gives q) (CoversOutcome stands e entry v out) answers.matches ks answers.nexts
          (λ q ns answer both. found_covers q ns answer both called)
          (one_of_each (IsMatch stands terms kept s If Gives) (Found stands terms kept s If Gives v c.machine.current.store (logic_state c)) (λ q. Found stands terms kept s If Gives v c.machine.current.store (logic_state c) q × IsMatch stands terms kept s If Gives q) answers.matches
          (λ q match found. (found, match)) answers.all.matched
          (one_matches stands terms kept s If Gives answers.matches v c.machine.current.store (logic_state c) answers.all (begun_serves stands terms kept e y may.over s answers.is_state v entry c stand)))

    matches_stay : IsValid p → Each (StaysAt p terms e y) ks
    matches_stay valid =
        each_gathered (AnswersMatch p memory stands terms kept e used y there_is) (IsMatch stands terms kept s If Gives) (StaysAt p terms e y) answers.matches ks answers.nexts
        (λ q ns answer match. match_stays q (match_vars stands terms kept e y may.over s answers.is_state If Gives q match) (match_over stands terms kept e y may.over s answers.is_state If Gives q match) valid ns answer) answers.all.matched

  -- ---- the call

  pub arguments_fit : (v : List PureValue) (entry : Entry) (c : Checked) (args : List PureValue) → FitParams y.path.vars y.path.conds (running_store y.path.stack) used.params used.params → StandsForChecked stands e y v entry c → HasArguments used args c → fit_params used.params args ≡ true
  arguments_fit v entry c args fit stand arguments =
      fit_values used.params args good.distinct arguments.as_many
      (fit_arguments y.path.vars y.path.conds (running_store y.path.stack) used.params used.params v (bind_all (param_names used.params) args) (record { proper = stand.path.proper; true_there = stand.path.meets }) (running_each (IsOver y.path.vars) y.path.stack may.over.path.stores)
      (subst (StandsFor v (running_store y.path.stack)) arguments.bound (running_stands v y.path.stack c.machine.current c.machine.callers stand.path.frames)) fit)

  alone_calls : (ks : List (PureNext S)) (cause : Cause) → ks ≡ caused cause ∷ [] → AreCalled p memory m stands terms e used y ks
  alone_calls ks cause is = subst (AreCalled p memory m stands terms e used y) (sym is) (record { cover = λ v entry c args here out stand arguments leads. inl tt; follow = (tt, tt) })

  pub call_answers : IsValid p → (ks : List (PureNext S)) → AnswersCall p memory stands terms kept e used y there_is ks → AreCalled p memory m stands terms e used y ks
  call_answers valid ks (inl (doubt, (unfit, (cause, (is, shows))))) = alone_calls ks cause is
  call_answers valid ks (inr (fit, inl (s, (is_state, (doubt, (told, (cause, (is, shows)))))))) = alone_calls ks cause is
  call_answers valid ks (inr (fit, inr answers)) = record {
    cover = λ v entry c args here out stand arguments leads.
        matches_cover ks answers v entry c args here out stand arguments (subst (λ b. CalledIfFit p memory m entry b used args here c out) (arguments_fit v entry c args fit stand arguments) leads);
    follow = matches_stay ks answers valid;
  }
