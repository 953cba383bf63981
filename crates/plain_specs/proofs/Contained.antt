-- The checked runs of a contained specification are runs of the machine.
use Rattle.std.proofs.Common.{◌≡◌, ◌⊎◌, ⊎_elim, inl, inr, ℕ, zero, suc, ◌+◌, ◌<◌, ◌≤◌, List, [], ◌∷◌, ◌++◌, length, Bool, true, false, cond, Option, Some, None, IsSome, slice_get, refl, sym, ap, subst, ◌∙◌, append_assoc, arith}
use Rattle.std.specs.Prelude.{⊤}
use Rattle.std.specs.List.{list_all}
use Rattle.std.proofs.lemmas.List.Elements.{All-nil}
use Rattle.gil_values.specs.declared.kinds.Kind.{Kind}
use Rattle.gil_values.specs.declared.places.Place.{Place}
use Rattle.gil_values.specs.Pure.{PureValue, procedure}
use Rattle.gil_syntax.specs.Evaluation.{Store, Outcomes, evaluate_all}
use Rattle.gil_syntax.specs.Programs.{find_spec}
use Rattle.gil_syntax.specs.Pure.{PureExpr, literal, PureCommand, assign, call, act, usym, isym, ifgoto, return, fail, throw, vanish, fold_use, unfold_use, assert_that, loop_invariant, PureNumberedCommand, PureSpec, PureParts}
use Rattle.gil_syntax.specs.Valid.{IsValid}
use Rattle.gil_syntax.specs.WellMade.{is_well_made}
use Rattle.gil_machine.specs.Choices.{miss_at}
use Rattle.gil_machine.specs.Run.{after, run, and_then, reached, start}
use Rattle.gil_machine.specs.State.{State, Ending, returned, threw, failed, vanished, no_input, bad_input, cut, End, Step, goes_on, ends, end_at, IsFailed}
use Rattle.gil_machine.specs.Step.{command_at, assigned, draw, do_command, step_at, step}
use Rattle.gil_machine.proofs.Runs.{cut_at_its_bound}
use Rattle.mem_model.specs.declared.keys.Key.{Key}
use Rattle.mem_model.specs.declared.keys.MemoryName.{MemoryName}
use Rattle.mem_model.specs.Actions.{Actions}
use Rattle.mem_model.specs.Heaps.{Heap}
use Rattle.assert_logic.specs.Laws.{is_core_item}
use Rattle.assert_logic.specs.Modes.{HasModes}
use Rattle.checked_runs.specs.Checked.{Checked, Fault, Outcome, goes_on_to, is_over, has_fault, Entry, moved, over_or, fails_or_misses, some_matches, result_store, logic_state, ended, stepped, Draws, Entered, Calls, LeadsBy, LeadsAt, Leads, IsReachedIn, used_in, used_by, is_call}
use Rattle.checked_runs.specs.Specifications.{MeetsOne}
use Rattle.checked_runs.proofs.Forms.{Form}
use Rattle.checked_runs.proofs.Runs.{step_form}
use Rattle.plain_specs.specs.Contained.{HasCommand, CallsByName, MayCall, directly, through, MayRun, is_told_by_itself, IsContained, EndsAlone, RunsAlone}
use Rattle.plain_specs.specs.Laws.{ContainedSpecificationsAreDecided}
use Rattle.plain_specs.proofs.Beginning.{BeginsAlone, begins_alone}
use Rattle.plain_specs.proofs.Declared.{IsReadable, post_readable, error_readable}
use Rattle.plain_specs.proofs.Ends.{some_match}
use Rattle.plain_specs.proofs.Frames.{same_some, no_value, AreIn, Stays, IsNoDraw, command-stays, NamesCurrent, call-names}

-- ---- runs, one step more

module _ (p : PureParts) (m : Actions) (inputs : List PureValue) where
  one_more : (n : ℕ) (s t u : State) → reached p m inputs n s ≡ Some t → step p m inputs t ≡ goes_on u → reached p m inputs (suc n) s ≡ Some u
  one_more zero s t u there is = ap (λ st. and_then st (reached p m inputs zero)) (ap (step p m inputs) (same_some there) ∙ is)
  one_more (suc n) s t u there is = by (step p m inputs s) (λ x later. one_more n x t u later is) there
    where
      by : (st : Step) → ((x : State) → reached p m inputs n x ≡ Some t → reached p m inputs (suc n) x ≡ Some u) → and_then st (reached p m inputs n) ≡ Some t → and_then st (reached p m inputs (suc n)) ≡ Some u
      by (goes_on x) later at = later x at
      by (ends e) later at = no_value t at

  goes_further : (n j : ℕ) (s t : State) → reached p m inputs n s ≡ Some t → run p m inputs (n + j) s ≡ run p m inputs j t
  goes_further zero j s t there = let none : zero + j ≡ j = omega arith in ap (λ k. run p m inputs k s) none ∙ ap (run p m inputs j) (same_some there)
  goes_further (suc n) j s t there =
      let one : suc n + j ≡ suc (n + j) = omega arith in
      ap (λ k. run p m inputs k s) one ∙ by (step p m inputs s) (λ x later. goes_further n j x t later) there
    where
      by : (st : Step) → ((x : State) → reached p m inputs n x ≡ Some t → run p m inputs (n + j) x ≡ run p m inputs j t) → and_then st (reached p m inputs n) ≡ Some t → after st (run p m inputs (n + j)) ≡ run p m inputs j t
      by (goes_on x) later at = later x at
      by (ends e) later at = no_value t at

  was_there : (k n : ℕ) (s t : State) → k ≤ n → reached p m inputs n s ≡ Some t → IsSome (reached p m inputs k s)
  was_there zero n s t le there = refl
  was_there (suc k) zero s t le there = absurd (omega (arith, le))
  was_there (suc k) (suc n) s t le there = by (step p m inputs s) (λ x later. was_there k n x t (omega (arith, le)) later) there
    where
      by : (st : Step) → ((x : State) → reached p m inputs n x ≡ Some t → IsSome (reached p m inputs k x)) → and_then st (reached p m inputs n) ≡ Some t → IsSome (and_then st (reached p m inputs k))
      by (goes_on x) later at = later x at
      by (ends e) later at = no_value t at

next_input : (before : List PureValue) (v : PureValue) (rest : List PureValue) → slice_get (before ++ v ∷ rest) (length before) ≡ Some v
next_input [] v rest = refl
next_input (w ∷ before) v rest = next_input before v rest

longer : (before drawn : List PureValue) → length (before ++ drawn) ≡ length before + length drawn
longer [] drawn = omega arith
longer (w ∷ before) drawn = let later = longer before drawn in omega (arith, later)

-- ---- one step

module _ (p : PureParts) (memory : MemoryName) (m : Actions) (s : PureSpec) (contained : IsContained p s) (args : List PureValue) (variables : Store) where
  abbrev entry : Entry
  entry = record { spec = s; args = args; variables = variables }

  abbrev Inside : List ℕ → Type 0
  Inside f = MayRun p s.name f

  abbrev Goes : List PureValue → Checked → Step → Type 0
  Goes drawn c (goes_on t) = (t.draws ≡ c.machine.draws + length drawn) × AreIn Inside t
  Goes drawn c (ends e) = ⊤

  -- The checked state leads where the machine does, wherever the next inputs are these.
  record IsMachineStep (c : Checked) (out : Outcome) : Type 0 where
    drawn : List PureValue
    made : Step
    out_is : out ≡ stepped p memory m entry c made
    step_is : (before rest : List PureValue) → length before ≡ c.machine.draws → step p m (before ++ (drawn ++ rest)) c.machine ≡ made
    goes : Goes drawn c made

  module _ (c : Checked) (inside : AreIn Inside c.machine) where
    abbrev here_at : ℕ → Place
    here_at n = record { proc = c.machine.current.procedure; at = n }

    abbrev StepsBy : PureCommand → Place → Type 0
    StepsBy k here = (inputs : List PureValue) → step p m inputs c.machine ≡ do_command p m inputs k here c.machine

    same_draws : (st : Step) → Stays Inside c.machine.draws st → Goes [] c st
    same_draws (goes_on t) h = (let same = h.0 in omega (arith, same), h.1)
    same_draws (ends e) h = tt

    calls_inside : (k : PureCommand) → HasCommand p c.machine.current.procedure k → (x : List ℕ) (es : List PureExpr) (handler : _) (f : List ℕ) → k ≡ call x (literal (procedure f)) es handler → MayCall p s.name f
    calls_inside k has x es handler f same =
        let by_name : CallsByName p c.machine.current.procedure f = (x, (es, (handler, record { index = has.index; numbered = has.numbered; there = has.there; command = has.command ∙ same }))) in
        ⊎_elim (λ own. directly (subst (λ g. CallsByName p g f) own by_name)) (λ called. through called by_name) inside.current

    -- a command that isn't a draw or a call
    plain_step : (k : PureCommand) (here : Place) (out : Outcome) → HasCommand p c.machine.current.procedure k → StepsBy k here → IsNoDraw Inside k
        → ((inputs : List PureValue) → do_command p m inputs k here c.machine ≡ do_command p m [] k here c.machine) → out ≡ stepped p memory m entry c (do_command p m [] k here c.machine) → IsMachineStep c out
    plain_step k here out has steps no_draw same is = record {
      drawn = [];
      made = do_command p m [] k here c.machine;
      out_is = is;
      step_is = λ before rest counted. steps (before ++ rest) ∙ same (before ++ rest);
      goes = same_draws (do_command p m [] k here c.machine)
          (command-stays Inside p m [] k here c.machine (contained.by_themselves c.machine.current.procedure k inside.current has) (λ x es handler f is_call. inr (calls_inside k has x es handler f is_call)) no_draw inside);
    }

    draw_step : (x : List ℕ) (kind : Kind) (here : Place) (out : Outcome) → StepsBy (isym x kind) here → Draws p memory m entry x kind c out → IsMachineStep c out
    draw_step x kind here out steps (v, (of_kind, is)) = record {
      drawn = v ∷ [];
      made = assigned x v (record c.machine { draws = c.machine.draws + 1 });
      out_is = is;
      step_is = λ before rest counted.
          steps (before ++ v ∷ rest)
          ∙ ap (λ o. draw o x kind (record c.machine { draws = c.machine.draws + 1 })) (ap (slice_get (before ++ v ∷ rest)) (sym counted) ∙ next_input before v rest)
          ∙ ap (λ b. cond b (assigned x v (record c.machine { draws = c.machine.draws + 1 })) (ends (end_at (record c.machine { draws = c.machine.draws + 1 }) (bad_input (c.machine.draws + 1))))) of_kind;
      goes = (refl, record { current = inside.current; callers = inside.callers });
    }

    abbrev Unspecified : List ℕ → Type 0
    Unspecified f = find_spec p.specs f ≡ None

    call_names : (x : List ℕ) (e : PureExpr) (es : List PureExpr) (handler : _) (here : Place) → HasCommand p c.machine.current.procedure (call x e es handler) → (inputs : List PureValue) → NamesCurrent Unspecified (do_command p m inputs (call x e es handler) here c.machine)
    call_names x e es handler here has inputs =
        call-names Unspecified p m inputs x e es handler here c.machine (contained.by_themselves c.machine.current.procedure (call x e es handler) inside.current has)
        (λ f same. contained.unspecified f (calls_inside (call x e es handler) has x es handler f (ap (λ d. call x d es handler) same)))

    entered_alone : (o : _) (os : Outcomes) (here : Place) (t : State) (out : Outcome) → o ≡ None → Entered p memory m entry o os here c t out → out ≡ stepped p memory m entry c (goes_on t)
    entered_alone None os here t out none is = is
    entered_alone (Some spec) os here t out none is = no_value spec (sym none)

    calls_alone : (os : Outcomes) (here : Place) (st : Step) (out : Outcome) → NamesCurrent Unspecified st → Calls p memory m entry os here c st out → out ≡ stepped p memory m entry c st
    calls_alone os here (goes_on t) out named is = entered_alone (find_spec p.specs t.current.procedure) os here t out named is
    calls_alone os here (ends e) out named is = is

    call_step : (x : List ℕ) (e : PureExpr) (es : List PureExpr) (handler : _) (here : Place) (out : Outcome) → HasCommand p c.machine.current.procedure (call x e es handler) → StepsBy (call x e es handler) here
        → Calls p memory m entry (evaluate_all es c.machine.current.store) here c (do_command p m [] (call x e es handler) here c.machine) out → IsMachineStep c out
    call_step x e es handler here out has steps is =
        plain_step (call x e es handler) here out has steps tt (λ inputs. refl)
        (calls_alone (evaluate_all es c.machine.current.store) here (do_command p m [] (call x e es handler) here c.machine) out (call_names x e es handler here has []) is)

    no_logic : {P : Type 0} (k : PureCommand) → HasCommand p c.machine.current.procedure k → is_told_by_itself k ≡ false → P
    no_logic k has isnt = absurd (cc (contained.by_themselves c.machine.current.procedure k inside.current has, isnt))

    by_command : (k : PureCommand) (here : Place) (out : Outcome) → HasCommand p c.machine.current.procedure k → StepsBy k here → LeadsBy p memory m entry k here c out → IsMachineStep c out
    by_command (isym x kind) here out has steps is = draw_step x kind here out steps is
    by_command (call x e es handler) here out has steps is = call_step x e es handler here out has steps is
    by_command (assign x e) here out has steps is = plain_step (assign x e) here out has steps tt (λ inputs. refl) is
    by_command (act x a es) here out has steps is = plain_step (act x a es) here out has steps tt (λ inputs. refl) is
    by_command (usym x) here out has steps is = plain_step (usym x) here out has steps tt (λ inputs. refl) is
    by_command (ifgoto e i) here out has steps is = plain_step (ifgoto e i) here out has steps tt (λ inputs. refl) is
    by_command (return e) here out has steps is = plain_step (return e) here out has steps tt (λ inputs. refl) is
    by_command (fail e) here out has steps is = plain_step (fail e) here out has steps tt (λ inputs. refl) is
    by_command (throw e) here out has steps is = plain_step (throw e) here out has steps tt (λ inputs. refl) is
    by_command vanish here out has steps is = plain_step vanish here out has steps tt (λ inputs. refl) is
    by_command (fold_use u) here out has steps is = no_logic (fold_use u) has refl
    by_command (unfold_use u) here out has steps is = no_logic (unfold_use u) has refl
    by_command (assert_that items) here out has steps is = no_logic (assert_that items) has refl
    by_command (loop_invariant xs ps items) here out has steps is = no_logic (loop_invariant xs ps items) has refl

    machine_step : (out : Outcome) → Leads p memory m entry c out → IsMachineStep c out
    machine_step out = by (command_at p c.machine.current) refl
      where
        by : (o : Option PureNumberedCommand) → command_at p c.machine.current ≡ o → LeadsAt p memory m entry o c out → IsMachineStep c out
        by None at is = record {
          drawn = [];
          made = goes_on c.machine;
          out_is = is;
          step_is = λ before rest counted. ap (λ o. step_at p m (before ++ rest) o c.machine) at;
          goes = (omega arith, inside);
        }
        by (Some n) at is =
            by_command n.command (here_at n.at) out (record { index = c.machine.current.next; numbered = n; there = at; command = refl }) (λ inputs. ap (λ o. step_at p m inputs o c.machine) at) is

    -- no specification is used
    uses_none : (used : PureSpec) → ¬ (used_by p m (command_at p c.machine.current) c.machine ≡ Some used)
    uses_none used = by (command_at p c.machine.current) refl
      where
        by_used : (st : Step) → NamesCurrent Unspecified st → ¬ (used_in p st ≡ Some used)
        by_used (goes_on t) named is = no_value used (sym named ∙ is)
        by_used (ends e) named is = no_value used is

        by_kind : (k : PureCommand) (here : Place) → HasCommand p c.machine.current.procedure k → StepsBy k here → ¬ (cond (is_call k) (used_in p (step p m [] c.machine)) None ≡ Some used)
        by_kind (call x e es handler) here has steps is =
            by_used (do_command p m [] (call x e es handler) here c.machine) (call_names x e es handler here has []) (ap (used_in p) (sym (steps [])) ∙ is)
        by_kind (isym x sort) here has steps is = no_value used is
        by_kind (assign x e) here has steps is = no_value used is
        by_kind (act x a es) here has steps is = no_value used is
        by_kind (usym x) here has steps is = no_value used is
        by_kind (ifgoto e i) here has steps is = no_value used is
        by_kind (return e) here has steps is = no_value used is
        by_kind (fail e) here has steps is = no_value used is
        by_kind (throw e) here has steps is = no_value used is
        by_kind vanish here has steps is = no_value used is
        by_kind (fold_use u) here has steps is = no_value used is
        by_kind (unfold_use u) here has steps is = no_value used is
        by_kind (assert_that items) here has steps is = no_value used is
        by_kind (loop_invariant xs ps items) here has steps is = no_value used is

        by : (o : Option PureNumberedCommand) → command_at p c.machine.current ≡ o → ¬ (used_by p m o c.machine ≡ Some used)
        by None at is = no_value used is
        by (Some n) at is =
            by_kind n.command (here_at n.at) (record { index = c.machine.current.next; numbered = n; there = at; command = refl }) (λ inputs. ap (λ o. step_at p m inputs o c.machine) at) is

  -- ---- ends

  isnt_next : (b : Bool) (fault : Fault) (d : Checked) → ¬ (over_or b fault ≡ goes_on_to d)
  isnt_next true fault d is = absurd (cc)
  isnt_next false fault d is = absurd (cc)

  end_isnt_next : (c : Checked) (e : Ending) (d : Checked) → ¬ (ended p memory m entry c e ≡ goes_on_to d)
  end_isnt_next c (returned v) d is = isnt_next _ _ d is
  end_isnt_next c (threw v place) d is = isnt_next _ _ d is
  end_isnt_next c (failed v place) d is = by (miss_at p m c.machine) is
    where
      by : (o : Option Key) → ¬ (fails_or_misses o v ≡ goes_on_to d)
      by (Some k) same = absurd (cc)
      by None same = absurd (cc)
  end_isnt_next c vanished d is = absurd (cc)
  end_isnt_next c (no_input k) d is = absurd (cc)
  end_isnt_next c (bad_input k) d is = absurd (cc)
  end_isnt_next c cut d is = absurd (cc)

  over_isnt_fault : (fault : Fault) → ¬ (is_over ≡ has_fault fault)
  over_isnt_fault fault is = absurd (cc)

-- ---- checked runs

module _ (p : PureParts) (memory : MemoryName) (m : Actions) (made : is_well_made p ≡ true) (valid : IsValid p) (modes : HasModes p memory)
    (s : PureSpec) (found : find_spec p.specs s.name ≡ Some s) (contained : IsContained p s) (args : List PureValue) (variables : Store) where
  -- The checked state is that of a run of the machine, without facts, in procedures that may run.
  record IsAlong (n : ℕ) (c : Checked) : Type 0 where
    origin : Checked
    begins : BeginsAlone p memory s args variables origin
    no_facts : c.facts ≡ []
    before : List PureValue
    counted : length before ≡ c.machine.draws
    there : (rest : List PureValue) → reached p m (before ++ rest) n (start p s.name args begins.heap begins.counter) ≡ Some c.machine
    inside : AreIn (MayRun p s.name) c.machine

  next_along : (n : ℕ) (c d : Checked) (a : IsAlong n c) (q : IsMachineStep p memory m s contained args variables c (goes_on_to d)) → IsAlong (suc n) d
  next_along n c d a q = by q.made q.out_is q.step_is q.goes
    where
      by : (st : Step) → goes_on_to d ≡ stepped p memory m (entry p memory m s contained args variables) c st
          → ((before rest : List PureValue) → length before ≡ c.machine.draws → step p m (before ++ (q.drawn ++ rest)) c.machine ≡ st) → Goes p memory m s contained args variables q.drawn c st → IsAlong (suc n) d
      by (goes_on t) is steps (draws, inside) =
          let same : moved c t ≡ d = cc in
          subst (IsAlong (suc n)) same (record {
            origin = a.origin;
            begins = a.begins;
            no_facts = a.no_facts;
            before = a.before ++ q.drawn;
            counted = longer a.before q.drawn ∙ ap (λ k. k + length q.drawn) a.counted ∙ sym draws;
            there = λ rest.
                ap (λ inputs. reached p m inputs (suc n) (start p s.name args a.begins.heap a.begins.counter)) (append_assoc a.before q.drawn rest)
                ∙ one_more p m (a.before ++ (q.drawn ++ rest)) n (start p s.name args a.begins.heap a.begins.counter) c.machine t (a.there (q.drawn ++ rest)) (steps a.before rest a.counted);
            inside = inside;
          })
      by (ends e) is steps goes = absurd (end_isnt_next p memory m s contained args variables c e.ending d (sym is))

  along : (n : ℕ) (c : Checked) → IsReachedIn p memory m (entry p memory m s contained args variables) n c → IsAlong n c
  along zero c st =
      let b = begins_alone p memory m made valid modes s found contained args variables c st in
      record {
        origin = c;
        begins = b;
        no_facts = b.no_facts;
        before = [];
        counted = ap (λ x. x.draws) (sym b.machine);
        there = λ rest. ap Some (sym b.machine);
        inside = subst (AreIn (MayRun p s.name)) (sym b.machine) (record { current = inl refl; callers = All-nil (λ f. MayRun p s.name f.procedure) });
      }
  along (suc n) c (before, (there, leads)) =
      let a = along n before there in
      next_along n before c a (machine_step p memory m s contained args variables before a.inside (goes_on_to c) leads)

  module _ (most : ℕ) (alone : RunsAlone p memory m s most) where
    ends_alone : (n : ℕ) (c : Checked) (a : IsAlong n c) (inputs : List PureValue)
        → EndsAlone p s args variables (run p m inputs most (start p s.name args a.begins.heap a.begins.counter)).ending (run p m inputs most (start p s.name args a.begins.heap a.begins.counter)).heap
    ends_alone n c a inputs = alone args variables a.begins.heap a.begins.counter inputs a.begins.entered a.begins.meets a.begins.proper a.begins.variables_below

    isnt_cut : (e : Ending) (h : Heap) → EndsAlone p s args variables e h → ¬ (e ≡ cut)
    isnt_cut e h is same = subst (λ x. EndsAlone p s args variables x h) same is

    -- no run is under way after the bound, so fewer steps were done
    within : (n : ℕ) (c : Checked) (a : IsAlong n c) → n < most
    within n c a = by (le_or_lt most n)
      where
        le_or_lt : (j k : ℕ) → (j ≤ k) ⊎ (k < j)
        le_or_lt zero k = inl (omega arith)
        le_or_lt (suc j) zero = inr (omega arith)
        le_or_lt (suc j) (suc k) = ⊎_elim (λ le. inl (omega (arith, le))) (λ lt. inr (omega (arith, lt))) (le_or_lt j k)

        by : (most ≤ n) ⊎ (n < most) → n < most
        by (inr lt) = lt
        by (inl le) =
            let first = start p s.name args a.begins.heap a.begins.counter in
            let is_cut = (cut_at_its_bound p m (a.before ++ []) most first).1 (was_there p m (a.before ++ []) most n first c.machine le (a.there [])) in
            absurd (isnt_cut (run p m (a.before ++ []) most first).ending (run p m (a.before ++ []) most first).heap (ends_alone n c a (a.before ++ [])) is_cut)

    none_is_cut : (c : Checked) → ¬ IsReachedIn p memory m (entry p memory m s contained args variables) most c
    none_is_cut c there = let lt = within most c (along most c there) in absurd (omega (arith, lt))

    -- what the run ends as, which the checked state's next step ends
    end_is : (n : ℕ) (c : Checked) (a : IsAlong n c) (inputs : List PureValue) (e : End) → reached p m inputs n (start p s.name args a.begins.heap a.begins.counter) ≡ Some c.machine → step p m inputs c.machine ≡ ends e
        → EndsAlone p s args variables e.ending e.heap
    end_is n c a inputs e there is =
        let lt = within n c a in
        let (k, sum) = apart n most lt in
        subst (λ (x : End). EndsAlone p s args variables x.ending x.heap)
        (ap (λ j. run p m inputs j (start p s.name args a.begins.heap a.begins.counter)) (sym sum) ∙ goes_further p m inputs n (suc k) (start p s.name args a.begins.heap a.begins.counter) c.machine there ∙ ap (λ st. after st (run p m inputs k)) is)
        (ends_alone n c a inputs)
      where
        apart : (i j : ℕ) → i < j → (k : ℕ) × (i + suc k ≡ j)
        apart zero zero lt = absurd (omega (arith, lt))
        apart zero (suc j) lt = (j, omega arith)
        apart (suc i) zero lt = absurd (omega (arith, lt))
        apart (suc i) (suc j) lt = let (k, sum) = apart i j (omega (arith, lt)) in (k, omega (arith, sum))

    no_end_fault : (n : ℕ) (c : Checked) (a : IsAlong n c) (inputs : List PureValue) (e : End) (fault : Fault) → reached p m inputs n (start p s.name args a.begins.heap a.begins.counter) ≡ Some c.machine → step p m inputs c.machine ≡ ends e
        → ¬ (ended p memory m (entry p memory m s contained args variables) c e.ending ≡ has_fault fault)
    no_end_fault n c a inputs e fault there is_end = by e.ending refl (end_is n c a inputs e there is_end)
      where
        own : Entry
        own = entry p memory m s contained args variables

        alone_state : logic_state c ≡ record { heap = c.machine.heap; facts = [] }
        alone_state = λ i. record { heap = c.machine.heap; facts = a.no_facts i }

        same_heap : ¬ IsFailed e.ending → e.heap ≡ c.machine.heap
        same_heap not_failed = ⊎_elim (λ there_too. there_too.same_heap) (λ is_failed. absurd (not_failed is_failed)) (subst (λ st. Form c.machine st) is_end (step_form p m inputs c.machine))

        matches : (v : PureValue) (posts : _) → list_all (list_all is_core_item) posts ≡ true → ((i : ℕ) (items : _) → slice_get posts i ≡ Some items → IsReadable p memory made valid modes s found items) → MeetsOne p s args variables v posts c.machine.heap
            → some_matches p own posts (result_store own v) (logic_state c) ≡ true
        matches v posts core readable one =
            ap (some_matches p own posts (result_store own v)) alone_state
            ∙ some_match p memory made valid modes s found args variables a.begins.entered a.begins.heap a.begins.meets v c.machine.heap posts core readable one

        by : (ending : Ending) → e.ending ≡ ending → EndsAlone p s args variables ending e.heap → ¬ (ended p memory m own c ending ≡ has_fault fault)
        by (returned v) same told is =
            over_isnt_fault p memory m s contained args variables fault
            (sym (ap (λ b. over_or b Fault.post) (matches v s.posts contained.core_postconditions (post_readable p memory made valid modes s found) (subst (MeetsOne p s args variables v s.posts) (same_heap (λ is_failed. subst IsFailed same is_failed)) told))) ∙ is)
        by (threw v place) same told is =
            over_isnt_fault p memory m s contained args variables fault
            (sym (ap (λ b. over_or b Fault.post) (matches v s.errors contained.core_errors (error_readable p memory made valid modes s found) (subst (MeetsOne p s args variables v s.errors) (same_heap (λ is_failed. subst IsFailed same is_failed)) told))) ∙ is)
        by (failed v place) same told is = told
        by vanished same told is = over_isnt_fault p memory m s contained args variables fault is
        by (no_input k) same told is = over_isnt_fault p memory m s contained args variables fault is
        by (bad_input k) same told is = over_isnt_fault p memory m s contained args variables fault is
        by cut same told is = told

    no_fault : (n : ℕ) (c : Checked) (fault : Fault) → IsReachedIn p memory m (entry p memory m s contained args variables) n c → ¬ Leads p memory m (entry p memory m s contained args variables) c (has_fault fault)
    no_fault n c fault reached_there leads =
        let a = along n c reached_there in
        let q = machine_step p memory m s contained args variables c a.inside (has_fault fault) leads in
        by a q q.made q.out_is (q.step_is a.before [] a.counted)
      where
        by : (a : IsAlong n c) (q : IsMachineStep p memory m s contained args variables c (has_fault fault)) (st : Step) → has_fault fault ≡ stepped p memory m (entry p memory m s contained args variables) c st → step p m (a.before ++ (q.drawn ++ [])) c.machine ≡ st → ⊥
        by a q (goes_on t) is steps = absurd (cc)
        by a q (ends e) is steps = no_end_fault n c a (a.before ++ (q.drawn ++ [])) e fault (a.there (q.drawn ++ [])) steps (sym is)

    used_none : (n : ℕ) (c : Checked) (used : PureSpec) → IsReachedIn p memory m (entry p memory m s contained args variables) n c → ¬ (used_by p m (command_at p c.machine.current) c.machine ≡ Some used)
    used_none n c used there = let a = along n c there in uses_none p memory m s contained args variables c a.inside used

pub contained_specifications_are_decided : ContainedSpecificationsAreDecided
contained_specifications_are_decided p memory m s n made valid modes found contained alone = record {
  no_fault = λ args variables k c fault there. no_fault p memory m made valid modes s found contained args variables n alone k c fault there;
  uses_none = λ args variables k c used there is. absurd (used_none p memory m made valid modes s found contained args variables n alone k c used there is);
  none_is_cut = λ args variables c. none_is_cut p memory m made valid modes s found contained args variables n alone c;
}
