-- The row of a call is exact: checked runs follow each path that goes on, and come to each cause.
use Rattle.std.proofs.Common.{◌≡◌, ⊎_elim, inl, ℕ, ℤ, List, [], ◌∷◌, ◌++◌, length, Bool, true, false, if◌then◌else◌, Option, Some, None, Ok, Err, is_some, refl, sym, ap, subst, ◌∙◌, true≢false, append-nil}
use Rattle.std.specs.Prelude.{◌==◌}
use Rattle.gil_values.specs.declared.places.Place.{Place}
use Rattle.gil_values.specs.Operators.{Outcome}
use Rattle.gil_values.specs.Pure.{PureValue, integer, boolean, text, symbol, procedure, kind, list}
use Rattle.gil_syntax.specs.Evaluation.{Outcomes, evaluate, evaluate_all}
use Rattle.gil_syntax.specs.Programs.{find_proc, find_spec}
use Rattle.gil_syntax.specs.Pure.{PureParts, PureProc, PureExpr, PureCommand, call, PureNumberedCommand, PureSpec}
use Rattle.gil_syntax.specs.Valid.{IsValid}
use Rattle.gil_syntax.specs.WellMade.{is_well_made}
use Rattle.gil_machine.specs.Choices.{with_choice}
use Rattle.gil_machine.specs.State.{State, End, Step, goes_on, ends}
use Rattle.gil_machine.specs.Step.{do_command, step, with_value, with_values, enter_value, enter_found, handler_label}
use Rattle.mem_model.specs.declared.keys.MemoryName.{MemoryName}
use Rattle.mem_model.specs.Actions.{Actions}
use Rattle.mem_model.specs.Heaps.{Heap}
use Rattle.assert_logic.specs.Modes.{HasModes}
use Rattle.checked_runs.specs.Checked.{Checked, Outcome as CheckedOutcome, Entry, moved, Entered, Calls, CalledIfFit, is_call}
use Rattle.checked_runs.specs.Specifications.{fit_params}
use Rattle.checked_runs.proofs.Stores.{good_spec}
use Rattle.pure_terms.specs.Meaning.{Satisfies}
use Rattle.pure_terms.specs.Pure.{PureAtom}
use Rattle.sym_engine.specs.Placed.{GoesOnAtCommands}
use Rattle.sym_model.proofs.ListLaws.{not_none, same_some}
use Rattle.sym_model.specs.Laws.{IsMeaning}
use Rattle.sym_model.specs.Lists.{Each}
use Rattle.sym_model.specs.Terms.{StateTerms}
use Rattle.sym_paths.proofs.Silent.{stands_at, step-is}
use Rattle.sym_paths.specs.Meaning.{Stands, StandsForStep, command_of_path}
use Rattle.sym_paths.specs.Pure.{PureFrame, PureEnd, returned, failed, threw, missed, vanished, cut, unknown, PurePath}
use Rattle.sym_paths.specs.Steps.{Extends, IsUnknown, IsPlaceOf, new_sorts, makes_choice, Grows, IsRecorded, IsExact, StaysSatisfiable, IsRightlyUnknown, AreNextPaths}
use Rattle.checked_paths.proofs.Answering.{goes_there}
use Rattle.checked_paths.proofs.Exact.{IsLeave, HasNoSpec, IsLawful, call_leads, exact_end}
use Rattle.checked_paths.proofs.Machine.{IsNoLeave, Stays}
use Rattle.checked_paths.specs.declared.nexts.FaultKind.{FaultKind}
use Rattle.checked_paths.specs.Causes.{PureCause, fault, shown_of, caused_by, ShowsStop, ShowsEnd}
use Rattle.checked_paths.specs.Choosing.{choice_if_fit, choice_of_entered, choice_of_call, LeadsAlong}
use Rattle.checked_paths.specs.Covering.{FollowsOn}
use Rattle.checked_paths.specs.Exactness.{HaveMore, CanBeMet, IsSurely, IsRightCause, IsExactNext, AreExact}
use Rattle.checked_paths.specs.Following.{GoesOnWith, IsAnswerTo, IsAnswered}
use Rattle.checked_paths.specs.Meaning.{StandsForChecked, MayGoOn}
use Rattle.checked_paths.specs.Pure.{PureEntry, PureChecking, PureNext, further, over as done_over, caused}
use Rattle.checked_rows.proofs.ExactLaws.{same_values_there, leads_along}
use Rattle.checked_rows.proofs.RowLaws.{answered_follows}
use Rattle.checked_rows.specs.Rows.{IsExactRowOf}
use Rattle.call_rows.specs.Calling.{spec_there, called_by, IsCall, AnswersFurther, AnswersNext, IsCalled, EachIsCalled}
use Rattle.call_rows.specs.Matches.{AnswersCall}
use Rattle.call_rows.proofs.Called.{Begun, call_exact}
use Rattle.call_rows.proofs.CallLaws.{Begins, call_begins, spec_running, found_there, has_arguments}
use Rattle.call_rows.proofs.GatheringLaws.{each_gathered}
use Rattle.call_rows.proofs.MatchExact.{answers_exact}

-- ---- a call ends neither by a return nor by a throw

value_stays : (r : Outcome) (here : Place) (s : State) (go : PureValue → Step) → ((v : PureValue) → Stays (go v)) → Stays (with_value r here s go)
value_stays (Ok v) here s go stays = stays v
value_stays (Err f) here s go stays = tt

values_stay : (r : Outcomes) (here : Place) (s : State) (go : List PureValue → Step) → ((vs : List PureValue) → Stays (go vs)) → Stays (with_values r here s go)
values_stay (Ok vs) here s go stay = stay vs
values_stay (Err f) here s go stay = tt

either_stays : (b : Bool) (first second : Step) → Stays first → Stays second → Stays (if b then first else second)
either_stays true first second a b = a
either_stays false first second a b = b

found_stays : (o : Option PureProc) (x : List ℕ) (handler : Option ℕ) (args : List PureValue) (here : Place) (s : State) → Stays (enter_found o x handler args here s)
found_stays None x handler args here s = tt
found_stays (Some q) x handler args here s = either_stays (length args == length q.params) _ _ tt tt

entered_stays : (p : PureParts) (v : PureValue) (x : List ℕ) (handler : Option ℕ) (args : List PureValue) (here : Place) (s : State) → Stays (enter_value p v x handler args here s)
entered_stays p (procedure f) x handler args here s = found_stays (find_proc p.procs f) x handler args here s
entered_stays p (integer n) x handler args here s = tt
entered_stays p (boolean b) x handler args here s = tt
entered_stays p (text t) x handler args here s = tt
entered_stays p (symbol n) x handler args here s = tt
entered_stays p (kind k) x handler args here s = tt
entered_stays p (list vs) x handler args here s = tt

call_stays : (p : PureParts) (m : Actions) (x : List ℕ) (e : PureExpr) (es : List PureExpr) (handler : Option ℤ) (here : Place) (s : State) → Stays (do_command p m [] (call x e es handler) here s)
call_stays p m x e es handler here s =
    value_stays (evaluate e s.current.store) here s _ (λ f. values_stay (evaluate_all es s.current.store) here s _ (λ args. entered_stays p f x (handler_label handler) args here s))

-- ---- one next path

no_spec : (p : PureParts) (fs : List PureFrame) → spec_there p fs ≡ None → HasNoSpec p fs
no_spec p [] none = tt
no_spec p (f ∷ fs) none = none

module _ {S : Type 0} (p : PureParts) (memory : MemoryName) (m : Actions) (stands : S → List PureValue → Heap → Type 0) (terms : S → StateTerms) (meaning : IsMeaning memory stands terms) (kept : S → Type 0) (e : PureEntry) (x : PureChecking S) (may : MayGoOn p terms e x)
    (made : is_well_made p ≡ true) (valid : IsValid p) (modes : HasModes p memory) (here : Place) (is_place : IsPlaceOf p x.path.stack here) (n : PureNumberedCommand) (at : command_of_path p x.path ≡ Some n)
    (out : List ℕ) (f : PureExpr) (es : List PureExpr) (handler : Option ℤ) (this : n.command ≡ call out f es handler) where
  abbrev place_of : Checked → Place
  place_of c = record { proc = c.machine.current.procedure; at = n.at }

  does : (v : List PureValue) (entry : Entry) (c : Checked) → StandsForChecked stands e x v entry c → step p m [] c.machine ≡ do_command p m [] (call out f es handler) (place_of c) c.machine
  does v entry c standing = step-is p m [] c.machine n (call out f es handler) (sym (stands_at p v x.path.stack c.machine standing.path.frames) ∙ at) this

  module _ (next : PurePath S) (laws : IsLawful p m stands terms x.path next) where
    -- no variable is new, and no choice is made
    no_new : next.vars ≡ x.path.vars
    no_new = ⊎_elim (λ grown. grown ∙ (ap (λ k. x.path.vars ++ new_sorts m k) this ∙ append-nil x.path.vars)) (λ same. same.0) (laws.recorded.variables n at)

    extends : (v : List PureValue) (c : Checked) → Extends [] c.machine x.path next v v
    extends v c = record { new_vars = []; new_values = []; vars = no_new ∙ sym (append-nil x.path.vars); values = sym (append-nil v); in_turn = tt }

    -- the step of a state under whose valuation the next path's conditions are true
    stood : ¬ IsUnknown next.ending → (v : List PureValue) (entry : Entry) (c : Checked) → StandsForChecked stands e x v entry c → Satisfies next.vars v next.conds → StandsForStep p m stands next v c.machine next.ending (step p m [] c.machine)
    stood known v entry c standing meets = (laws.exact [] v v c.machine standing.path (extends v c) known meets).1

    -- ---- where a procedure begins that has a specification

    module _ (still : next.ending ≡ None) (y : PureChecking S) (with_it : GoesOnWith stands terms x.facts x.passed next y) (may_y : MayGoOn p terms e y) (used : PureSpec) (there : spec_there p next.stack ≡ Some used) where
      known : ¬ IsUnknown next.ending
      known is = subst IsUnknown still is

      same_vars : y.path.vars ≡ x.path.vars
      same_vars = ap (λ (q : PurePath S). q.vars) with_it.same_path ∙ no_new

      none_chosen : (chosen : Option ℕ) → is_some chosen ≡ false → next.choices ≡ x.path.choices ++ with_choice chosen [] → next.choices ≡ x.path.choices
      none_chosen None none is = is ∙ append-nil x.path.choices
      none_chosen (Some c) none is = absurd (true≢false none)

      same_choices : y.path.choices ≡ x.path.choices
      same_choices =
          let (chosen, (is, may_choose, makes)) = laws.recorded.choice n at in
          ap (λ (q : PurePath S). q.choices) with_it.same_path ∙ none_chosen chosen (makes (inl still) ∙ ap makes_choice this) is

      longer : HaveMore x.path.conds y.path.conds
      longer = (laws.growth.new_conds, ap (λ (q : PurePath S). q.conds) with_it.same_path ∙ laws.growth.conds)

      can : CanBeMet x y.path.vars y.path.conds
      can v meets = subst (λ (q : PurePath S). (w : List PureValue) × Satisfies q.vars w q.conds) (sym with_it.same_path) (laws.satisfiable v meets known)

      abbrev Begins_so : List PureValue → Entry → Checked → Type 0
      Begins_so v entry c = Begun p memory m stands e used y here x same_vars same_choices longer can may_y.over.path.conds is_place v entry c

      module _ (v : List PureValue) (entry : Entry) (c : Checked) (standing : StandsForChecked stands e x v entry c) (t : State) (goes : step p m [] c.machine ≡ goes_on t) (path_t : Stands stands next v t) where
        goes_so : do_command p m [] (call out f es handler) (place_of c) c.machine ≡ goes_on t
        goes_so = sym (does v entry c standing) ∙ goes

        begun : Begins p es c.machine t
        begun = call_begins p m out f es handler (place_of c) c.machine t goes_so

        finds : find_spec p.specs t.current.procedure ≡ Some used
        finds = sym (spec_running v p next.stack t.current t.callers path_t.frames) ∙ there

        along : (chosen : Option ℕ) (to : CheckedOutcome) (leads : CalledIfFit p memory m entry (fit_params used.params begun.args) used begun.args (place_of c) (moved c t) to)
            → choice_if_fit p memory m entry (fit_params used.params begun.args) used begun.args (place_of c) (moved c t) to leads ≡ chosen → LeadsAlong p memory m entry c chosen to
        along chosen to leads choice =
            leads_along p memory m stands x.path v entry c n (call out f es handler) standing.path at this chosen to
            (subst (λ r. (l : Calls p memory m entry (evaluate_all es c.machine.current.store) (place_of c) c r to) × (choice_of_call p memory m entry (evaluate_all es c.machine.current.store) (place_of c) c r to l ≡ chosen)) (sym goes_so)
            (subst (λ o. (l : Entered p memory m entry o (evaluate_all es c.machine.current.store) (place_of c) c t to) × (choice_of_entered p memory m entry o (evaluate_all es c.machine.current.store) (place_of c) c t to l ≡ chosen)) (sym finds)
            (subst (λ os. (l : Entered p memory m entry (Some used) os (place_of c) c t to) × (choice_of_entered p memory m entry (Some used) os (place_of c) c t to l ≡ chosen)) (sym begun.args_are) (leads, choice))))

        begins_there : Begins_so v entry c
        begins_there = record {
          state = moved c t;
          args = begun.args;
          place = place_of c;
          standing = goes_there p memory m stands terms meaning e x may.over next (further y) v v entry c [] standing (extends v c) y t with_it path_t;
          arguments = has_arguments p memory m stands terms meaning kept e x may made valid modes here es c.machine t (moved c t) used begun refl finds begun.args begun.args_are;
          same_counter = begun.counter;
          along = along;
        }

      begins_by : (v : List PureValue) (entry : Entry) (c : Checked) → StandsForChecked stands e x v entry c → (r : Step) → step p m [] c.machine ≡ r → StandsForStep p m stands next v c.machine None r → Begins_so v entry c
      begins_by v entry c standing (ends end) is stood_there = absurd stood_there
      begins_by v entry c standing (goes_on t) is stood_there = begins_there v entry c standing t is stood_there

      begins : (v : List PureValue) (entry : Entry) (c : Checked) → StandsForChecked stands e x v entry c → Satisfies y.path.vars v y.path.conds → Begins_so v entry c
      begins v entry c standing meets =
          begins_by v entry c standing (step p m [] c.machine) refl
          (subst (λ o. StandsForStep p m stands next v c.machine o (step p m [] c.machine)) still (stood known v entry c standing (subst (λ (q : PurePath S). Satisfies q.vars v q.conds) with_it.same_path meets)))

      specified_exact : (ks : List (PureNext S)) → AnswersCall p memory stands terms kept e used y here ks → AreExact p memory m stands e x ks
      specified_exact ks answers =
          call_exact p memory m stands e used y here x same_vars same_choices longer can may_y.over.path.conds is_place begins ks
          (answers_exact p memory m stands terms meaning kept e y may_y used (good_spec p memory used.name used made valid modes (found_there p next.stack used there)) here ks answers)

    -- ---- where a path goes on or ends as the machine's

    -- no step of a call ends so
    leaves_never : (how : PureEnd) → next.ending ≡ Some how → ¬ IsUnknown (Some how) → ((v : List PureValue) (c : Checked) (end : End) → IsNoLeave end.ending → StandsForStep p m stands next v c.machine (Some how) (ends end) → ⊥)
        → (Is : List PureValue → CheckedOutcome → Type 0) → IsSurely p memory m stands e x Is (shown_of here next)
    leaves_never how ending known never Is = record {
      at = record { place = is_place; table = (laws.growth.new_vars, laws.growth.vars); longer = (laws.growth.new_conds, laws.growth.conds); known = λ u is. not_none is };
      met = λ v meets. laws.satisfiable v meets (λ is. known (subst IsUnknown ending is));
      exact = λ v w entry c under.
          let same : w ≡ v = same_values_there c.machine.counter x.path.vars next.vars v w no_new under.continued in
          let there = subst (λ o. StandsForStep p m stands next v c.machine o (step p m [] c.machine)) ending (stood (λ is. known (subst IsUnknown ending is)) v entry c under.standing (subst (λ u. Satisfies next.vars u next.conds) same under.meets)) in
          absurd (by v c (step p m [] c.machine) (subst Stays (sym (does v entry c under.standing)) (call_stays p m out f es handler (place_of c) c.machine)) there);
    }
      where
        by : (v : List PureValue) (c : Checked) (r : Step) → Stays r → StandsForStep p m stands next v c.machine (Some how) r → ⊥
        by v c (goes_on t) stays there = there
        by v c (ends end) stays there = never v c end stays there

    by_cause : (k : PureNext S) (cause : PureCause) → caused_by k ≡ Some cause → IsRightCause p memory m stands e x cause → IsExactNext p memory m stands e x k
    by_cause (caused c) cause is right = subst (IsRightCause p memory m stands e x) (sym (same_some is)) right
    by_cause (further y) cause is right = not_none is
    by_cause done_over cause is right = not_none is

    module _ (no_spec_there : next.ending ≡ None → HasNoSpec p next.stack) where
      machine_next : (k : PureNext S) (o : Option PureEnd) → next.ending ≡ o → IsAnswerTo stands terms x.facts x.passed next o k → ShowsStop o (shown_of here next) (Some k) → ¬ IsLeave o → IsExactNext p memory m stands e x k
      machine_next k o ending answer shows no_leave =
          exact_end p memory m stands terms meaning e x may.over here is_place n at next laws (call_leads p memory m stands terms meaning e x may.over here is_place n at next (ap is_call this) no_spec_there) k o ending answer shows (λ leave. absurd (no_leave leave))

      next_exact : (k : PureNext S) (o : Option PureEnd) → next.ending ≡ o → IsAnswerTo stands terms x.facts x.passed next o k → ShowsStop o (shown_of here next) (Some k) → IsExactNext p memory m stands e x k
      next_exact k (Some (returned t)) ending answer shows = by_cause k (fault FaultKind.Post (shown_of here next)) shows (leaves_never (returned t) ending (λ is. is) (λ v c end no_leave is. subst IsNoLeave is.ending.1.1 no_leave) _)
      next_exact k (Some (threw t place)) ending answer shows = by_cause k (fault FaultKind.Post (shown_of here next)) shows (leaves_never (threw t place) ending (λ is. is) (λ v c end no_leave is. subst IsNoLeave is.ending.1.1 no_leave) _)
      next_exact k None ending answer shows = machine_next k None ending answer shows (λ leave. leave)
      next_exact k (Some (failed t place)) ending answer shows = machine_next k (Some (failed t place)) ending answer shows (λ leave. leave)
      next_exact k (Some (missed key place)) ending answer shows = machine_next k (Some (missed key place)) ending answer shows (λ leave. leave)
      next_exact k (Some vanished) ending answer shows = machine_next k (Some vanished) ending answer shows (λ leave. leave)
      next_exact k (Some cut) ending answer shows = machine_next k (Some cut) ending answer shows (λ leave. leave)
      next_exact k (Some (unknown place reason)) ending answer shows = machine_next k (Some (unknown place reason)) ending answer shows (λ leave. leave)

    -- ---- the answers of the next path

    -- a path that isn't called by a specification is the one answer
    none_alone : (o : Option PureSpec) (k : PureNext S) (ks : List (PureNext S)) → o ≡ None → AnswersNext p memory stands terms kept e here o k ks → ks ≡ k ∷ []
    none_alone None (further y) ks none are = are
    none_alone None done_over ks none are = are
    none_alone None (caused cause) ks none are = are
    none_alone (Some used) k ks none are = not_none (sym none)

    module _ (k : PureNext S) (ks : List (PureNext S)) (answered : IsAnswered stands terms x.facts x.passed next k) (shows : ShowsEnd here next k) (answers : AnswersNext p memory stands terms kept e here (called_by p next.ending next.stack) k ks) (placed : GoesOnAtCommands p next) where
      alone_exact : called_by p next.ending next.stack ≡ None → (next.ending ≡ None → HasNoSpec p next.stack) → AreExact p memory m stands e x ks
      alone_exact none no_spec_there = subst (AreExact p memory m stands e x) (sym (none_alone (called_by p next.ending next.stack) k ks none answers)) (next_exact no_spec_there k next.ending refl answered shows, tt)

      by_spec : next.ending ≡ None → (o : Option PureSpec) → spec_there p next.stack ≡ o → AreExact p memory m stands e x ks
      by_spec ending None there = alone_exact (ap (λ o. called_by p o next.stack) ending ∙ there) (λ is. no_spec p next.stack there)
      by_spec ending (Some used) there =
          let (y, (is, with_it)) = subst (λ o. IsAnswerTo stands terms x.facts x.passed next o k) ending answered in
          let may_y : MayGoOn p terms e y = (subst (FollowsOn p terms e x) is (answered_follows p memory stands terms meaning e x may.over next.ending next k refl answered laws.growth placed)).0 in
          let calls : AnswersCall p memory stands terms kept e used y here ks =
          subst (λ o. AnswersFurther p memory stands terms kept e here o y ks) (ap (λ o. called_by p o next.stack) ending ∙ there) (subst (λ j. AnswersNext p memory stands terms kept e here (called_by p next.ending next.stack) j ks) is answers) in
          specified_exact ending y with_it may_y used there ks calls

      called_exact : (o : Option PureEnd) → next.ending ≡ o → AreExact p memory m stands e x ks
      called_exact (Some how) ending = alone_exact (ap (λ o. called_by p o next.stack) ending) (λ is. not_none (sym (sym ending ∙ is)))
      called_exact None ending = by_spec ending (spec_there p next.stack) refl

  -- ---- all next paths

  abbrev IsGood : PurePath S → Type 0
  IsGood next = IsLawful p m stands terms x.path next × GoesOnAtCommands p next

  all_exact : (nexts : List (PurePath S)) (ks : List (PureNext S)) → EachIsCalled p memory stands terms kept e here x.facts x.passed nexts ks → Each IsGood nexts → AreExact p memory m stands e x ks
  all_exact nexts ks are good =
      each_gathered (IsCalled p memory stands terms kept e here x.facts x.passed) IsGood (IsExactNext p memory m stands e x) nexts ks are
      (λ next ns (k, (answered, shows, answers)) (laws, placed). called_exact next laws k ns answered shows answers placed next.ending refl) good

all_good : {S : Type 0} (p : PureParts) (m : Actions) (stands : S → List PureValue → Heap → Type 0) (terms : S → StateTerms) (path : PurePath S) (nexts : List (PurePath S)) → Each (Grows terms path) nexts → Each (IsRecorded p m path) nexts → Each (IsExact p m stands path) nexts
    → Each (StaysSatisfiable path) nexts → Each (λ next. IsRightlyUnknown p path next next.ending) nexts → Each (GoesOnAtCommands p) nexts → Each (λ next. IsLawful p m stands terms path next × GoesOnAtCommands p next) nexts
all_good p m stands terms path [] growth recorded exact satisfiable rightly placed = tt
all_good p m stands terms path (next ∷ nexts) growth recorded exact satisfiable rightly placed = (
  (record { growth = growth.0; recorded = recorded.0; exact = exact.0; satisfiable = satisfiable.0; unknown_rightly = rightly.0 }, placed.0),
  all_good p m stands terms path nexts growth.1 recorded.1 exact.1 satisfiable.1 rightly.1 placed.1,
)

pub row_exact : {S : Type 0} (p : PureParts) (memory : MemoryName) (m : Actions) (stands : S → List PureValue → Heap → Type 0) (terms : S → StateTerms) (meaning : IsMeaning memory stands terms) (kept : S → Type 0) (own by_memory : PureAtom → Type 0) (e : PureEntry) (x : PureChecking S)
    → is_well_made p ≡ true → IsValid p → HasModes p memory → (here : Place) (nexts : List (PurePath S)) (ks : List (PureNext S)) → EachIsCalled p memory stands terms kept e here x.facts x.passed nexts ks → AreNextPaths p m stands terms own by_memory x.path nexts → Each (GoesOnAtCommands p) nexts
    → (command : PureCommand) → IsCall command → IsExactRowOf p memory m stands terms e x command here ks
row_exact p memory m stands terms meaning kept own by_memory e x made valid modes here nexts ks are laws placed (call out f es handler) is n may at this is_place =
    all_exact p memory m stands terms meaning kept e x may made valid modes here is_place n at out f es handler this nexts ks are
    (all_good p m stands terms x.path nexts laws.growth laws.recorded laws.exact laws.satisfiable laws.unknown_rightly placed)
row_exact p memory m stands terms meaning kept own by_memory e x made valid modes here nexts ks are laws placed command is n may at this is_place = absurd is
