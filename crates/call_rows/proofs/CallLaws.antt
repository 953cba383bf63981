-- The row of a call covers what the checked states lead to.
use Rattle.std.proofs.Common.{◌≡◌, ◌⊎◌, inl, inr, List, [], ◌∷◌, ◌++◌, length, Bool, true, false, cond, if◌then◌else◌, Option, Some, None, IfSome, Ok, Err, IsTrue, refl, sym, ap, subst, ◌∙◌, append_assoc}
use Rattle.std.specs.Prelude.{ℕ, ℤ, ◌+◌, ◌==◌, codes}
use Rattle.std.specs.Option.{option_map}
use Rattle.std.specs.Str.{bytes_eq}
use Rattle.std.proofs.lemmas.Bool.Decides.{Decides-eqb}
use Rattle.gil_values.specs.declared.places.Place.{Place}
use Rattle.gil_values.specs.Operators.{Outcome}
use Rattle.gil_values.specs.Pure.{PureValue, integer, boolean, text, symbol, procedure, kind, list}
use Rattle.gil_syntax.specs.Evaluation.{Outcomes, evaluate, evaluate_all}
use Rattle.gil_syntax.specs.Programs.{find_proc, find_spec}
use Rattle.gil_syntax.specs.Pure.{PureParts, PureProc, PureExpr, PureCommand, call, PureNumberedCommand, PureSpec}
use Rattle.gil_syntax.specs.Valid.{IsValid, is_among, param_names}
use Rattle.gil_syntax.specs.WellMade.{is_well_made}
use Rattle.gil_machine.specs.State.{Frame, State, End, Step, goes_on, ends}
use Rattle.gil_machine.specs.Step.{bind_all, first_frame, command_at, do_command, step, with_value, with_values, enter, fails_with, enter_value, enter_found, handler_label}
use Rattle.gil_machine.proofs.Placed.{found_name}
use Rattle.mem_model.specs.declared.keys.MemoryName.{MemoryName}
use Rattle.mem_model.specs.Actions.{Actions}
use Rattle.mem_model.specs.Heaps.{Heap}
use Rattle.assert_logic.specs.Modes.{HasModes}
use Rattle.addable_programs.proofs.AddableLaws.{programs_are_addable}
use Rattle.checked_runs.specs.Checked.{Checked, Outcome as CheckedOutcome, goes_on_to, Entry, moved, stepped, Entered, Calls, CalledIfFit, LeadsBy, LeadsAt, is_call, used_in, used_by}
use Rattle.checked_runs.specs.Specifications.{fit_params}
use Rattle.checked_runs.proofs.Readable.{names_length, same_ok}
use Rattle.checked_runs.proofs.Stores.{good_spec, spec_at}
use Rattle.pure_terms.specs.Meaning.{Satisfies}
use Rattle.sym_engine.specs.Placed.{GoesOnAtCommands}
use Rattle.sym_model.proofs.ListLaws.{not_none, same_some, each_append, each_to}
use Rattle.sym_model.specs.Laws.{IsMeaning}
use Rattle.sym_model.specs.Lists.{Each, OneOf}
use Rattle.sym_model.specs.Terms.{StateTerms}
use Rattle.sym_leaving.specs.Leaving.{HasFrame, HasCaller}
use Rattle.sym_states.proofs.Names.{among_left, among_right, or_left, same_name}
use Rattle.sym_states.specs.Pure.{PureFact}
use Rattle.sym_paths.proofs.Silent.{stands_at, step-is}
use Rattle.sym_paths.specs.Meaning.{AreFrames, IsOverTable, StandsForStep, command_of_frames, command_of_path}
use Rattle.sym_paths.specs.Frames.{waiting}
use Rattle.sym_paths.specs.Origins.{GoesOnFrom, Follows}
use Rattle.sym_paths.specs.Pure.{PureFrame, PureEnd, returned, failed, threw, missed, vanished, cut, unknown, PurePath}
use Rattle.sym_paths.specs.Steps.{Extends, IsUnknown, HasInput, Covers, Grows}
use Rattle.checked_paths.proofs.Answering.{answer_covers}
use Rattle.checked_paths.proofs.Growing.{entry_over_more, facts_over_more, passed_by_over_more}
use Rattle.checked_paths.proofs.Lists.{kept_each}
use Rattle.checked_paths.specs.Covering.{StandsForNext, CoversOutcome, IsCaused, FollowsOn, AreNexts}
use Rattle.checked_paths.specs.Following.{IsAnswerTo, IsAnswered}
use Rattle.checked_paths.specs.Meaning.{StandsForChecked, AreFactsOver, IsEntryOver, IsPassedOver, IsCheckedOver, MayGoOn}
use Rattle.checked_paths.specs.Pure.{PureEntry, PurePassed, PureChecking, PureNext, further, over as done_over, caused}
use Rattle.checked_rows.specs.Rows.{AreRowOf}
use Rattle.checked_rows.proofs.MatchLaws.{one_of_each}
use Rattle.checked_rows.proofs.RowLaws.{answer_of_cause, answered_follows}
use Rattle.call_rows.specs.Arguments.{HasArguments}
use Rattle.call_rows.specs.Calling.{spec_there, called_by, name_of, IsSpecOf, IsCall, IsAtCall, IsNamedNext, AreNamed, IsNextOver, AnswersFurther, AnswersNext, IsCalled, EachIsCalled}
use Rattle.call_rows.specs.Matches.{StaysAt, AreCalled, AnswersCall}
use Rattle.call_rows.proofs.CallingLaws.{call_answers}
use Rattle.call_rows.proofs.GatheringLaws.{one_gathered, each_gathered, gathered_or}

-- ---- a call needs no input

value_input : (r : Outcome) (here : Place) (s : State) (go : PureValue → Step) → ((v : PureValue) → HasInput (go v)) → HasInput (with_value r here s go)
value_input (Ok v) here s go has = has v
value_input (Err f) here s go has = λ fault. fault

values_input : (r : Outcomes) (here : Place) (s : State) (go : List PureValue → Step) → ((vs : List PureValue) → HasInput (go vs)) → HasInput (with_values r here s go)
values_input (Ok vs) here s go has = has vs
values_input (Err f) here s go has = λ fault. fault

either_input : (b : Bool) (first second : Step) → HasInput first → HasInput second → HasInput (if b then first else second)
either_input true first second a b = a
either_input false first second a b = b

found_input : (o : Option PureProc) (x : List ℕ) (handler : Option ℕ) (args : List PureValue) (here : Place) (s : State) → HasInput (enter_found o x handler args here s)
found_input None x handler args here s = λ fault. fault
found_input (Some q) x handler args here s = either_input (length args == length q.params) _ _ tt (λ fault. fault)

entered_input : (p : PureParts) (v : PureValue) (x : List ℕ) (handler : Option ℕ) (args : List PureValue) (here : Place) (s : State) → HasInput (enter_value p v x handler args here s)
entered_input p (procedure f) x handler args here s = found_input (find_proc p.procs f) x handler args here s
entered_input p (integer n) x handler args here s = λ fault. fault
entered_input p (boolean b) x handler args here s = λ fault. fault
entered_input p (text t) x handler args here s = λ fault. fault
entered_input p (symbol n) x handler args here s = λ fault. fault
entered_input p (kind k) x handler args here s = λ fault. fault
entered_input p (list vs) x handler args here s = λ fault. fault

call_input : (p : PureParts) (m : Actions) (x : List ℕ) (e : PureExpr) (es : List PureExpr) (handler : Option ℤ) (here : Place) (s : State) → HasInput (do_command p m [] (call x e es handler) here s)
call_input p m x e es handler here s =
    value_input (evaluate e s.current.store) here s _ (λ f. values_input (evaluate_all es s.current.store) here s _ (λ args. entered_input p f x (handler_label handler) args here s))

-- ---- where the procedure begins

-- what the frame that begins has
pub record Begins (p : PureParts) (es : List PureExpr) (s t : State) : Type 0 where
  pub args : List PureValue
  pub args_are : evaluate_all es s.current.store ≡ Ok args
  pub proc : PureProc
  pub found : find_proc p.procs proc.name ≡ Some proc
  pub as_many : length args ≡ length proc.params
  pub current : t.current ≡ first_frame proc.name proc.params args
  pub counter : t.counter ≡ s.counter

going_on : (s t : State) → goes_on s ≡ goes_on t → s ≡ t
going_on s t is = cc

named_so : (qs : List PureProc) (f : List ℕ) (q : PureProc) → find_proc qs f ≡ Some q → find_proc qs q.name ≡ Some q
named_so qs f q found = ap (find_proc qs) (found_name qs f q found) ∙ found

module _ (p : PureParts) (x : List ℕ) (handler : Option ℕ) (es : List PureExpr) (here : Place) (s t : State) where
  by_count : (args : List PureValue) (q : PureProc) → evaluate_all es s.current.store ≡ Ok args → find_proc p.procs q.name ≡ Some q → (b : Bool) → (length args == length q.params) ≡ b → cond b (enter q x handler args s) (fails_with (text (codes "arity")) here s) ≡ goes_on t → Begins p es s t
  by_count args q args_are found true count is = record {
    args = args;
    args_are = args_are;
    proc = q;
    found = found;
    as_many = (Decides-eqb (length args) (length q.params)).0 count;
    current = ap (λ (k : State). k.current) (sym (going_on _ t is));
    counter = ap (λ (k : State). k.counter) (sym (going_on _ t is));
  }
  by_count args q args_are found false count is = absurd (cc)

  by_found : (args : List PureValue) (f : List ℕ) → evaluate_all es s.current.store ≡ Ok args → (o : Option PureProc) → find_proc p.procs f ≡ o → enter_found o x handler args here s ≡ goes_on t → Begins p es s t
  by_found args f args_are None found is = absurd (cc)
  by_found args f args_are (Some q) found is = by_count args q args_are (named_so p.procs f q found) (length args == length q.params) refl is

  by_callee : (args : List PureValue) (v : PureValue) → evaluate_all es s.current.store ≡ Ok args → enter_value p v x handler args here s ≡ goes_on t → Begins p es s t
  by_callee args (procedure f) args_are is = by_found args f args_are (find_proc p.procs f) refl is
  by_callee args (integer n) args_are is = absurd (cc)
  by_callee args (boolean b) args_are is = absurd (cc)
  by_callee args (text cs) args_are is = absurd (cc)
  by_callee args (symbol n) args_are is = absurd (cc)
  by_callee args (kind k) args_are is = absurd (cc)
  by_callee args (list vs) args_are is = absurd (cc)

  by_values : (o : Outcome) (os : Outcomes) → evaluate_all es s.current.store ≡ os → with_value o here s (λ f. with_values os here s (λ args. enter_value p f x handler args here s)) ≡ goes_on t → Begins p es s t
  by_values (Ok f) (Ok args) args_are is = by_callee args f args_are is
  by_values (Ok f) (Err fault) args_are is = absurd (cc)
  by_values (Err fault) os args_are is = absurd (cc)

pub call_begins : (p : PureParts) (m : Actions) (x : List ℕ) (e : PureExpr) (es : List PureExpr) (handler : Option ℤ) (here : Place) (s t : State) → do_command p m [] (call x e es handler) here s ≡ goes_on t → Begins p es s t
call_begins p m x e es handler here s t is = by_values p x (handler_label handler) es here s t (evaluate e s.current.store) (evaluate_all es s.current.store) refl is

-- ---- what the call leads to

pub spec_running : (v : List PureValue) (p : PureParts) (fs : List PureFrame) (g : Frame) (gs : List Frame) → AreFrames v fs (g ∷ gs) → spec_there p fs ≡ find_spec p.specs g.procedure
spec_running v p [] g gs are = absurd are
spec_running v p (f ∷ fs) g gs are = ap (find_spec p.specs) are.0.procedure

pub found_there : (p : PureParts) (fs : List PureFrame) (used : PureSpec) → spec_there p fs ≡ Some used → find_spec p.specs used.name ≡ Some used
found_there p [] used there = not_none there
found_there p (f ∷ fs) used there = ap (find_spec p.specs) (spec_at p.specs f.procedure used there).0 ∙ there

-- what covers under a longer valuation
longer_covers : {S : Type 0} (stands : S → List PureValue → Heap → Type 0) (e : PureEntry) (entry : Entry) (v w : List PureValue) (out : CheckedOutcome) (k : PureNext S) → (more : List PureValue) → w ≡ v ++ more → CoversOutcome stands e entry w out k → CoversOutcome stands e entry v out k
longer_covers stands e entry v w out (further y) more longer (d, (u, (is, (rest, u_longer), stand))) = (d, (u, (is, (more ++ rest, u_longer ∙ ap (λ z. z ++ rest) longer ∙ append_assoc v more rest), stand)))
longer_covers stands e entry v w out done_over more longer is = is
longer_covers stands e entry v w out (caused cause) more longer is = tt

one_longer : {S : Type 0} (stands : S → List PureValue → Heap → Type 0) (e : PureEntry) (entry : Entry) (v w : List PureValue) (out : CheckedOutcome) (ks : List (PureNext S)) (more : List PureValue) → w ≡ v ++ more → OneOf (CoversOutcome stands e entry w out) ks → OneOf (CoversOutcome stands e entry v out) ks
one_longer stands e entry v w out [] more longer one = absurd one
one_longer stands e entry v w out (k ∷ ks) more longer (inl here) = inl (longer_covers stands e entry v w out k more longer here)
one_longer stands e entry v w out (k ∷ ks) more longer (inr later) = inr (one_longer stands e entry v w out ks more longer later)

same_next : (c d : Checked) → goes_on_to c ≡ goes_on_to d → c ≡ d
same_next c d is = cc

module _ {S : Type 0} (p : PureParts) (memory : MemoryName) (m : Actions) (stands : S → List PureValue → Heap → Type 0) (terms : S → StateTerms) (meaning : IsMeaning memory stands terms) (kept : S → Type 0) (e : PureEntry) (x : PureChecking S) (may : MayGoOn p terms e x)
    (made : is_well_made p ≡ true) (valid : IsValid p) (modes : HasModes p memory) (there_is : Place) where
  -- the specification is that of a procedure with its parameters
  pub has_arguments : (es : List PureExpr) (s t : State) (c : Checked) (used : PureSpec) → Begins p es s t → c.machine ≡ t → find_spec p.specs t.current.procedure ≡ Some used → (args : List PureValue) → evaluate_all es s.current.store ≡ Ok args → HasArguments used args c
  has_arguments es s t c used begins same finds args args_are =
      let named : t.current.procedure ≡ begins.proc.name = ap (λ (f : Frame). f.procedure) begins.current in
      let (q, (there, params)) = (programs_are_addable p memory made valid modes).procs used begins.proc.name (ap (find_spec p.specs) (sym named) ∙ finds) in
      let params_are : begins.proc.params ≡ param_names used.params = ap (λ (r : PureProc). r.params) (same_some (sym begins.found ∙ there)) ∙ params in
      let same_args : begins.args ≡ args = same_ok begins.args args (sym begins.args_are ∙ args_are) in
      record {
        as_many = sym (names_length used.params) ∙ ap length (sym params_are) ∙ sym begins.as_many ∙ ap length same_args;
        bound = ap (λ (k : State). k.current.store) same ∙ ap (λ (f : Frame). f.store) begins.current ∙ (λ i. bind_all (params_are i) (same_args i));
      }

  module _ (next : PurePath S) (k : PureNext S) (ks : List (PureNext S)) (answered : IsAnswered stands terms x.facts x.passed next k) (answers : AnswersNext p memory stands terms kept e there_is (called_by p next.ending next.stack) k ks) where
    alone_covers : (P : PureNext S → Type 0) → P k → ks ≡ k ∷ [] → OneOf P ks
    alone_covers P here are = subst (OneOf P) (sym are) (inl here)

    -- a path that isn't called by a specification is the one answer
    none_alone : (o : Option PureSpec) (j : PureNext S) → o ≡ None → AnswersNext p memory stands terms kept e there_is o j ks → ks ≡ j ∷ []
    none_alone None (further y) none are = are
    none_alone None done_over none are = are
    none_alone None (caused cause) none are = are
    none_alone (Some used) j none are = not_none (sym none)

    ended_alone : (how : PureEnd) → next.ending ≡ Some how → ks ≡ k ∷ []
    ended_alone how ending = none_alone (called_by p next.ending next.stack) k (ap (λ o. called_by p o next.stack) ending) answers

    -- the path that is called by a specification
    begun : next.ending ≡ None → (y : PureChecking S) × (k ≡ further y)
    begun ending = let (y, (is, with_it)) = subst (λ o. IsAnswerTo stands terms x.facts x.passed next o k) ending answered in (y, is)

    calls_of : (used : PureSpec) (y : PureChecking S) → next.ending ≡ None → spec_there p next.stack ≡ Some used → k ≡ further y → AnswersCall p memory stands terms kept e used y there_is ks
    calls_of used y ending there is =
        subst (λ o. AnswersFurther p memory stands terms kept e there_is o y ks) (ap (λ o. called_by p o next.stack) ending ∙ there) (subst (λ j. AnswersNext p memory stands terms kept e there_is (called_by p next.ending next.stack) j ks) is answers)

    module _ (growth : Grows terms x.path next) (placed : GoesOnAtCommands p next) where
      follows_k : FollowsOn p terms e x k
      follows_k = answered_follows p memory stands terms meaning e x may.over next.ending next k refl answered growth placed

      may_of : (y : PureChecking S) → k ≡ further y → MayGoOn p terms e y × (y.path.steps ≡ x.path.steps + 1)
      may_of y is = subst (FollowsOn p terms e x) is follows_k

      called_is : (used : PureSpec) (y : PureChecking S) → next.ending ≡ None → spec_there p next.stack ≡ Some used → find_spec p.specs used.name ≡ Some used → k ≡ further y → AreCalled p memory m stands terms e used y ks
      called_is used y ending there finds is =
          call_answers p memory m stands terms meaning kept e y (may_of y is).0 used (good_spec p memory used.name used made valid modes finds) there_is valid ks (calls_of used y ending there is)

      -- ---- what follows

      stays_follows : (y : PureChecking S) → k ≡ further y → (j : PureNext S) → StaysAt p terms e y j → FollowsOn p terms e x j
      stays_follows y is (further z) stays = (stays.0, stays.1 ∙ (may_of y is).1)
      stays_follows y is done_over stays = tt
      stays_follows y is (caused cause) stays = tt

      specified_follow : (used : PureSpec) → next.ending ≡ None → spec_there p next.stack ≡ Some used → find_spec p.specs used.name ≡ Some used → Each (FollowsOn p terms e x) ks
      specified_follow used ending there finds =
          let (y, is) = begun ending in
          each_to (StaysAt p terms e y) (FollowsOn p terms e x) ks (stays_follows y is) (called_is used y ending there finds is).follow

      alone_follow : ks ≡ k ∷ [] → Each (FollowsOn p terms e x) ks
      alone_follow are = subst (Each (FollowsOn p terms e x)) (sym are) (follows_k, tt)

      called_follow : Each (FollowsOn p terms e x) ks
      called_follow = by next.ending refl
        where
          by_spec : next.ending ≡ None → (o : Option PureSpec) → spec_there p next.stack ≡ o → Each (FollowsOn p terms e x) ks
          by_spec ending (Some used) there = specified_follow used ending there (found_there p next.stack used there)
          by_spec ending None there = alone_follow (none_alone (called_by p next.ending next.stack) k (ap (λ o. called_by p o next.stack) ending ∙ there) answers)

          by : (o : Option PureEnd) → next.ending ≡ o → Each (FollowsOn p terms e x) ks
          by (Some how) ending = alone_follow (ended_alone how ending)
          by None ending = by_spec ending (spec_there p next.stack) refl

      -- ---- what is covered

      module _ (v w : List PureValue) (entry : Entry) (c : Checked) (standing : StandsForChecked stands e x v entry c) (ext : Extends [] c.machine x.path next v w) where
        abbrev Stood : Option PureEnd → Step → Type 0
        Stood o r = StandsForStep p m stands next w c.machine o r ⊎ (IsUnknown o × Satisfies next.vars w next.conds)

        covers_k : Stood next.ending (step p m [] c.machine) → CoversOutcome stands e entry v (stepped p memory m entry c (step p m [] c.machine)) k
        covers_k stood = answer_covers p memory m stands terms meaning e x may.over next k v w entry c [] answered standing ext stood

        -- where the path is unknown there is a cause
        unknown_caused : (how : PureEnd) → next.ending ≡ Some how → IsUnknown (Some how) → IsCaused k
        unknown_caused (unknown place reason) ending is = subst (λ o. IsAnswerTo stands terms x.facts x.passed next o k) ending answered
        unknown_caused how ending is = absurd is

        module _ (es : List PureExpr) (args : Outcomes) (args_are : evaluate_all es c.machine.current.store ≡ args) (begins : (t : State) → step p m [] c.machine ≡ goes_on t → Begins p es c.machine t) (here : Place) (out : CheckedOutcome) where
          abbrev Covered : Type 0
          Covered = OneOf (CoversOutcome stands e entry v out) ks

          entered_plain : (o : Option PureSpec) (s : State) → o ≡ None → Entered p memory m entry o args here c s out → out ≡ stepped p memory m entry c (goes_on s)
          entered_plain None s none entered = entered
          entered_plain (Some spec) s none entered = not_none (sym none)

          entered_args : (s : State) (used : PureSpec) (us : List PureValue) → args ≡ Ok us → Entered p memory m entry (Some used) args here c s out → CalledIfFit p memory m entry (fit_params used.params us) used us here (moved c s) out
          entered_args s used us is entered = subst (λ o. Entered p memory m entry (Some used) o here c s out) is entered

          -- the procedure that begins has a specification
          specified_covers : (s : State) (used : PureSpec) → step p m [] c.machine ≡ goes_on s → next.ending ≡ None → spec_there p next.stack ≡ Some used → find_spec p.specs s.current.procedure ≡ Some used → Stood next.ending (step p m [] c.machine)
              → Entered p memory m entry (find_spec p.specs s.current.procedure) args here c s out → Covered
          specified_covers s used is ending there finds stood entered =
              let (y, is_k) = begun ending in
              let covered : StandsForNext stands e entry v (stepped p memory m entry c (step p m [] c.machine)) y = subst (CoversOutcome stands e entry v (stepped p memory m entry c (step p m [] c.machine))) is_k (covers_k stood) in
              let (d, (u, (leads, (more, longer), stand))) = covered in
              let same : moved c s ≡ d = same_next (moved c s) d (ap (stepped p memory m entry c) (sym is) ∙ leads) in
              let b = begins s is in
              let named : find_spec p.specs used.name ≡ Some used = found_there p next.stack used there in
              let leads_so = entered_args s used b.args (sym args_are ∙ b.args_are) (subst (λ o. Entered p memory m entry o args here c s out) finds entered) in
              one_longer stands e entry v u out ks more longer
              ((called_is used y ending there named is_k).cover u entry (moved c s) b.args here out (subst (λ j. StandsForChecked stands e y u entry j) (sym same) stand) (has_arguments es c.machine s (moved c s) used b refl finds b.args b.args_are) leads_so)

          plain_covers : (r : Step) → step p m [] c.machine ≡ r → ks ≡ k ∷ [] → Stood next.ending (step p m [] c.machine) → out ≡ stepped p memory m entry c r → Covered
          plain_covers r is are stood leads =
              alone_covers (CoversOutcome stands e entry v out) (subst (λ o. CoversOutcome stands e entry v o k) (sym (leads ∙ ap (stepped p memory m entry c) (sym is))) (covers_k stood)) are

          caused_covers : IsCaused k → ks ≡ k ∷ [] → Covered
          caused_covers cause are = alone_covers (CoversOutcome stands e entry v out) (answer_of_cause stands e entry v out k cause) are

          goes_on_covers : (s : State) → step p m [] c.machine ≡ goes_on s → Calls p memory m entry args here c (goes_on s) out → (o : Option PureEnd) → next.ending ≡ o → Stood o (goes_on s) → Covered
          goes_on_covers s is calls (Some how) ending (inl stood) = absurd stood
          goes_on_covers s is calls (Some how) ending (inr both) = caused_covers (unknown_caused how ending both.0) (ended_alone how ending)
          goes_on_covers s is calls None ending (inr both) = absurd both.0
          goes_on_covers s is calls None ending (inl stood) = by (spec_there p next.stack) refl
            where
              runs : spec_there p next.stack ≡ find_spec p.specs s.current.procedure
              runs = spec_running w p next.stack s.current s.callers stood.frames

              stood_so : Stood next.ending (step p m [] c.machine)
              stood_so = subst (λ o. Stood o (step p m [] c.machine)) (sym ending) (subst (Stood None) (sym is) (inl stood))

              by : (o : Option PureSpec) → spec_there p next.stack ≡ o → Covered
              by None there =
                  plain_covers (goes_on s) is (none_alone (called_by p next.ending next.stack) k (ap (λ o. called_by p o next.stack) ending ∙ there) answers) stood_so
                  (entered_plain (find_spec p.specs s.current.procedure) s (sym runs ∙ there) calls)
              by (Some used) there = specified_covers s used is ending there (sym runs ∙ there) stood_so calls

          ends_covers : (end : End) → step p m [] c.machine ≡ ends end → Calls p memory m entry args here c (ends end) out → (o : Option PureEnd) → next.ending ≡ o → Stood o (ends end) → Covered
          ends_covers end is calls None ending (inl stood) = absurd stood
          ends_covers end is calls None ending (inr both) = absurd both.0
          ends_covers end is calls (Some how) ending stood =
              plain_covers (ends end) is (ended_alone how ending) (subst (λ o. Stood o (step p m [] c.machine)) (sym ending) (subst (Stood (Some how)) (sym is) stood)) calls

          called_covers : (r : Step) → step p m [] c.machine ≡ r → Calls p memory m entry args here c r out → Stood next.ending (step p m [] c.machine) → Covered
          called_covers (goes_on s) is calls stood = goes_on_covers s is calls next.ending refl (subst (Stood next.ending) is stood)
          called_covers (ends end) is calls stood = ends_covers end is calls next.ending refl (subst (Stood next.ending) is stood)

        -- ---- what is used

        uses_named : (names : List (List ℕ)) (used : PureSpec) (r : Step) → ((s : PureSpec) → called_by p next.ending next.stack ≡ Some s → IsTrue (is_among names s.name)) → step p m [] c.machine ≡ r → used_in p r ≡ Some used → (o : Option PureEnd) → next.ending ≡ o → Stood o r
            → IsTrue (is_among names used.name) ⊎ OneOf IsCaused ks
        uses_named names used (ends end) named is uses o ending stood = not_none uses
        uses_named names used (goes_on s) named is uses (Some how) ending (inl stood) = absurd stood
        uses_named names used (goes_on s) named is uses (Some how) ending (inr both) = inr (alone_covers IsCaused (unknown_caused how ending both.0) (ended_alone how ending))
        uses_named names used (goes_on s) named is uses None ending (inr both) = absurd both.0
        uses_named names used (goes_on s) named is uses None ending (inl stood) =
            inl (named used (ap (λ o. called_by p o next.stack) ending ∙ spec_running w p next.stack s.current s.callers stood.frames ∙ uses))

  -- ---- all next paths

  -- a next path of which this is known
  record IsGoodNext (names : List (List ℕ)) (next : PurePath S) : Type 0 where
    growth : Grows terms x.path next
    placed : GoesOnAtCommands p next
    named : (used : PureSpec) → called_by p next.ending next.stack ≡ Some used → IsTrue (is_among names used.name)

  each_good : (names : List (List ℕ)) (qs : List (PurePath S)) → Each (Grows terms x.path) qs → Each (GoesOnAtCommands p) qs → AreNamed p names qs → Each (IsGoodNext names) qs
  each_good names [] growth placed named = tt
  each_good names (q ∷ qs) growth placed named = (record { growth = growth.0; placed = placed.0; named = named.0 }, each_good names qs growth.1 placed.1 named.1)

  module _ (nexts : List (PurePath S)) (ks : List (PureNext S)) (names : List (List ℕ)) (are : EachIsCalled p memory stands terms kept e there_is x.facts x.passed nexts ks) (cover : Covers p m stands x.path nexts) (good : Each (IsGoodNext names) nexts)
      (n : PureNumberedCommand) (at : command_of_path p x.path ≡ Some n) (y : List ℕ) (f : PureExpr) (es : List PureExpr) (handler : Option ℤ) (this : n.command ≡ call y f es handler) where
    abbrev place_of : Checked → Place
    place_of c = record { proc = c.machine.current.procedure; at = n.at }

    at_state : (v : List PureValue) (entry : Entry) (c : Checked) → StandsForChecked stands e x v entry c → command_at p c.machine.current ≡ Some n
    at_state v entry c standing = sym (stands_at p v x.path.stack c.machine standing.path.frames) ∙ at

    does : (v : List PureValue) (entry : Entry) (c : Checked) → StandsForChecked stands e x v entry c → step p m [] c.machine ≡ do_command p m [] (call y f es handler) (place_of c) c.machine
    does v entry c standing = step-is p m [] c.machine n (call y f es handler) (at_state v entry c standing) this

    has_input : (v : List PureValue) (entry : Entry) (c : Checked) → StandsForChecked stands e x v entry c → HasInput (step p m [] c.machine)
    has_input v entry c standing = subst HasInput (sym (does v entry c standing)) (call_input p m y f es handler (place_of c) c.machine)

    begins_so : (v : List PureValue) (entry : Entry) (c : Checked) → StandsForChecked stands e x v entry c → (t : State) → step p m [] c.machine ≡ goes_on t → Begins p es c.machine t
    begins_so v entry c standing t is = call_begins p m y f es handler (place_of c) c.machine t (sym (does v entry c standing) ∙ is)

    -- one of the paths stands for what the step comes to
    abbrev Reached : List PureValue → Checked → PurePath S → Type 0
    Reached v c next =
        IsGoodNext names next
        × ((w : List PureValue) × (Extends [] c.machine x.path next v w × (StandsForStep p m stands next w c.machine next.ending (step p m [] c.machine) ⊎ (IsUnknown next.ending × Satisfies next.vars w next.conds))))

    reached : (v : List PureValue) (entry : Entry) (c : Checked) → StandsForChecked stands e x v entry c → OneOf (Reached v c) nexts
    reached v entry c standing = one_of_each (IsGoodNext names) _ (Reached v c) nexts (λ next g one. (g, one)) good (cover [] v c.machine standing.path (has_input v entry c standing))

    all_called : AreNexts p memory m stands terms e x names ks
    all_called = record {
      cover = λ v entry c out standing above leads.
          let by = subst (λ o. LeadsAt p memory m entry o c out) (at_state v entry c standing) leads in
          let led : Calls p memory m entry (evaluate_all es c.machine.current.store) (place_of c) c (do_command p m [] (call y f es handler) (place_of c) c.machine) out = subst (λ j. LeadsBy p memory m entry j (place_of c) c out) this by in
          let calls : Calls p memory m entry (evaluate_all es c.machine.current.store) (place_of c) c (step p m [] c.machine) out =
          subst (λ r. Calls p memory m entry (evaluate_all es c.machine.current.store) (place_of c) c r out) (sym (does v entry c standing)) led in
          one_gathered (IsCalled p memory stands terms kept e there_is x.facts x.passed) (Reached v c) (CoversOutcome stands e entry v out) nexts ks are
          (λ next ns (k, (answered, shows, answers)) (g, (w, (ext, stood))).
          called_covers next k ns answered answers g.growth g.placed v w entry c standing ext es (evaluate_all es c.machine.current.store) refl (begins_so v entry c standing) (place_of c) out (step p m [] c.machine) refl calls stood)
          (reached v entry c standing);
      uses = λ v entry c used standing uses.
          let there : used_by p m (Some n) c.machine ≡ Some used = subst (λ o. used_by p m o c.machine ≡ Some used) (at_state v entry c standing) uses in
          let used_there : used_in p (step p m [] c.machine) ≡ Some used = sym (ap (λ j. if is_call j then used_in p (step p m [] c.machine) else None) this) ∙ there in
          gathered_or (IsCalled p memory stands terms kept e there_is x.facts x.passed) (IsTrue (is_among names used.name)) (Reached v c) IsCaused nexts ks are
          (λ next ns (k, (answered, shows, answers)) (g, (w, (ext, stood))).
          uses_named next k ns answered answers g.growth g.placed v w entry c standing ext names used (step p m [] c.machine) g.named refl used_there next.ending refl stood)
          (reached v entry c standing);
      follow = each_gathered (IsCalled p memory stands terms kept e there_is x.facts x.passed) (IsGoodNext names) (FollowsOn p terms e x) nexts ks are (λ next ns (k, (answered, shows, answers)) g. called_follow next k ns answered answers g.growth g.placed) good;
    }

pub row_covers : {S : Type 0} (p : PureParts) (memory : MemoryName) (m : Actions) (stands : S → List PureValue → Heap → Type 0) (terms : S → StateTerms) (meaning : IsMeaning memory stands terms) (kept : S → Type 0) (e : PureEntry) (x : PureChecking S) → is_well_made p ≡ true → IsValid p → HasModes p memory → (there_is : Place)
    → (nexts : List (PurePath S)) (ks : List (PureNext S)) (names : List (List ℕ)) → EachIsCalled p memory stands terms kept e there_is x.facts x.passed nexts ks → Covers p m stands x.path nexts → Each (Grows terms x.path) nexts → Each (GoesOnAtCommands p) nexts → AreNamed p names nexts
    → (command : PureCommand) → IsCall command → AreRowOf p memory m stands terms e x command names ks
row_covers p memory m stands terms meaning kept e x made valid modes there_is nexts ks names are cover growth placed named (call y f es handler) is n may at this =
    all_called p memory m stands terms meaning kept e x may made valid modes there_is nexts ks names are cover (each_good p memory m stands terms meaning kept e x may made valid modes there_is names nexts growth placed named) n at y f es handler this
row_covers p memory m stands terms meaning kept e x made valid modes there_is nexts ks names are cover growth placed named command is n may at this = absurd is

-- ---- what the row's parts need

frame_waits : (p : PureParts) (x : List ℕ) (handler : Option ℕ) (fs : List PureFrame) (n : PureNumberedCommand) → command_of_frames p fs ≡ Some n → HasFrame (waiting x handler fs)
frame_waits p x handler [] n at = not_none at
frame_waits p x handler (f ∷ fs) n at = tt

waits_there : {S : Type 0} (p : PureParts) (m : Actions) (terms : S → StateTerms) (path next : PurePath S) (command : PureCommand) (n : PureNumberedCommand) → IsCall command → command_of_path p path ≡ Some n → GoesOnFrom p m terms path next command → HasCaller next.stack
waits_there p m terms path next (call x e es handler) n is at (keeps, hands) = subst HasCaller (sym hands.stack) (frame_waits p x (handler_label handler) path.stack n at)
waits_there p m terms path next command n is at goes = absurd is

next_over : {S : Type 0} (p : PureParts) (m : Actions) (terms : S → StateTerms) (e : PureEntry) (x : PureChecking S) → IsCheckedOver terms e x → IsAtCall p x.path → (next : PurePath S) → Grows terms x.path next → Follows p m terms x.path next → IsNextOver terms e x.facts x.passed next
next_over p m terms e x over (n, (at, is)) next grows follows = record {
  entry = subst (λ vars. IsEntryOver vars e) (sym grows.vars) (entry_over_more x.path.vars grows.new_vars e over.entry);
  path = grows.over;
  facts_over = subst (λ vars. AreFactsOver vars x.facts) (sym grows.vars) (facts_over_more x.path.vars grows.new_vars x.facts over.facts);
  passed_over = subst (λ vars. Each (Each (IsPassedOver terms vars)) x.passed) (sym grows.vars) (passed_by_over_more x.path.vars grows.new_vars terms x.passed over.passed);
  waits = λ still. waits_there p m terms x.path next n.command n is at (follows.going n at still);
}

pub nexts_over : {S : Type 0} (p : PureParts) (m : Actions) (terms : S → StateTerms) (e : PureEntry) (x : PureChecking S) → IsCheckedOver terms e x → IsAtCall p x.path → (qs : List (PurePath S)) → Each (Grows terms x.path) qs → Each (Follows p m terms x.path) qs → Each (IsNextOver terms e x.facts x.passed) qs
nexts_over p m terms e x over at [] growth follows = tt
nexts_over p m terms e x over at (q ∷ qs) growth follows = (next_over p m terms e x over at q growth.0 follows.0, nexts_over p m terms e x over at qs growth.1 follows.1)

same_further : {S : Type 0} (y z : PureChecking S) → further y ≡ further z → y ≡ z
same_further y z is = cc

-- a path that is answered to go on
pub further_over : {S : Type 0} (stands : S → List PureValue → Heap → Type 0) (terms : S → StateTerms) (e : PureEntry) (facts : List PureFact) (passed : List (List (PurePassed S))) (next : PurePath S) (y : PureChecking S) → IsNextOver terms e facts passed next
    → (o : Option PureEnd) → next.ending ≡ o → IsAnswerTo stands terms facts passed next o (further y) → IsCheckedOver terms e y × HasCaller y.path.stack
further_over {S = S} stands terms e facts passed next y over None still (z, (is, with_it)) = subst (λ k. IsCheckedOver terms e k × HasCaller k.path.stack) (sym (same_further y z is)) (
  record {
    entry = subst (λ (q : PurePath S). IsEntryOver q.vars e) (sym with_it.same_path) over.entry;
    path = subst (IsOverTable terms) (sym with_it.same_path) over.path;
    facts = subst (λ (q : PurePath S). AreFactsOver q.vars z.facts) (sym with_it.same_path) (subst (AreFactsOver next.vars) (sym with_it.same_facts) over.facts_over);
    passed = subst (λ (q : PurePath S). Each (Each (IsPassedOver terms q.vars)) z.passed) (sym with_it.same_path) (with_it.kept.over next.vars (kept_each (Each (IsPassedOver terms next.vars)) tt (length next.stack) passed over.passed_over));
  },
  subst (λ (q : PurePath S). HasCaller q.stack) (sym with_it.same_path) (over.waits still),
)
further_over stands terms e facts passed next y over (Some vanished) still answer = absurd (cc)
further_over stands terms e facts passed next y over (Some (returned t)) still answer = absurd answer
further_over stands terms e facts passed next y over (Some (failed t place)) still answer = absurd answer
further_over stands terms e facts passed next y over (Some (threw t place)) still answer = absurd answer
further_over stands terms e facts passed next y over (Some (missed k place)) still answer = absurd answer
further_over stands terms e facts passed next y over (Some cut) still answer = absurd answer
further_over stands terms e facts passed next y over (Some (unknown place reason)) still answer = absurd answer

-- the specification that was found is one of the program
pub if_used : {X : Type 0} (p : PureParts) (view : X → PureSpec) (o : Option X) (ending : Option PureEnd) (fs : List PureFrame) → option_map view o ≡ called_by p ending fs → IfSome o (λ s. IsSpecOf p (view s))
if_used p view None ending fs is = tt
if_used p view (Some s) None fs is = found_there p fs (view s) (sym is)
if_used p view (Some s) (Some how) fs is = absurd (cc)

-- names of further paths
pub named_last : {S : Type 0} (p : PureParts) (names : List (List ℕ)) (qs : List (PurePath S)) (q : PurePath S) → AreNamed p names qs → AreNamed p (names ++ name_of (called_by p q.ending q.stack)) (qs ++ q ∷ [])
named_last {S} p names qs q named =
    each_append (IsNamedNext p (names ++ name_of (called_by p q.ending q.stack))) qs (q ∷ [])
    (each_to (IsNamedNext p names) (IsNamedNext p (names ++ name_of (called_by p q.ending q.stack))) qs (λ r one used is. among_left names (name_of (called_by p q.ending q.stack)) used.name (one used is)) named)
    (λ used is. among_right names (name_of (called_by p q.ending q.stack)) used.name (subst (λ o. is_among (name_of o) used.name ≡ true) (sym is) (or_left (bytes_eq used.name used.name) false (same_name used.name))), tt)
