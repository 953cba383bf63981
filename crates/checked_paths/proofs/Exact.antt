-- What is answered of the next paths of a step is exact: checked runs follow the paths that go on, and come to the causes.
use Rattle.std.proofs.Common.{◌≡◌, ◌+◌, List, [], ◌∷◌, ◌++◌, true, Option, Some, None, Result, Ok, Err, IsTrue, codes, refl, sym, ap, subst, ◌∙◌, arith}
use Rattle.std.specs.Prelude.{IfOk, ⊤}
use Rattle.gil_values.specs.declared.places.Place.{Place}
use Rattle.gil_values.specs.Pure.{PureValue, text}
use Rattle.gil_syntax.specs.Programs.{find_spec}
use Rattle.gil_syntax.specs.Pure.{PureParts, PureNumberedCommand}
use Rattle.gil_machine.specs.Choices.{choice_at}
use Rattle.gil_machine.specs.State.{State, Ending, cut as machine_cut, IsOver, End, Step, goes_on, ends}
use Rattle.gil_machine.specs.Step.{command_at, step}
use Rattle.gil_machine.proofs.Steps.{Keeps, step-keeps}
use Rattle.mem_model.specs.declared.keys.MemoryName.{MemoryName}
use Rattle.mem_model.specs.Actions.{Actions}
use Rattle.mem_model.specs.Heaps.{Heap}
use Rattle.checked_runs.specs.Checked.{Checked, Outcome, has_fault, Entry, moved, ended, fails_or_misses, stepped, missing, is_call, used_in}
use Rattle.pure_terms.specs.declared.variables.Sort.{Sort}
use Rattle.pure_terms.specs.Meaning.{Satisfies}
use Rattle.pure_terms.specs.Pure.{PureTerm, PureAtom}
use Rattle.sym_step.proofs.RunSteps.{step_does}
use Rattle.sym_model.specs.Laws.{IsMeaning}
use Rattle.sym_model.specs.Lists.{Each}
use Rattle.sym_model.specs.Pure.{PureKey}
use Rattle.sym_model.specs.Terms.{StateTerms}
use Rattle.sym_model.proofs.ListLaws.{same_some, not_none}
use Rattle.sym_paths.specs.Meaning.{AreFrames, frames_of, Stands, IsEnding, StandsForStep, command_of_path}
use Rattle.sym_paths.specs.Pure.{PureFrame, PureEnd, returned, failed, threw, missed, vanished, cut, unknown, PurePath}
use Rattle.sym_paths.specs.Steps.{Extends, IsChosen, IsInputFault, HasInput, IsUnknown, IsPlaceOf, counter_past, fresh_count, Grows, IsRecorded, IsExact, StaysSatisfiable, IsRightlyUnknown, AddsOwn, AreNextPaths}
use Rattle.sym_paths.proofs.Recording.{past_is, fresh_append, symbols_taken, symbols_recorded}
use Rattle.sym_paths.proofs.Silent.{stands_at}
use Rattle.checked_paths.specs.Causes.{PureShown, PureCause, failure, fault, bound, undecided, shown_in, shown_of, caused_by, ShowsStop, ShowsEnd, EachShowsEnd}
use Rattle.checked_paths.specs.declared.nexts.FaultKind.{FaultKind}
use Rattle.checked_paths.specs.Choosing.{LeadsAlong}
use Rattle.checked_paths.specs.Exactness.{IsUnder, LeadsOn, IsFollowed, IsShownAt, IsSurely, FailsWith, IsRightCause, IsExactNext, AreExact, HaveMoreOf, AddsOnly}
use Rattle.checked_paths.specs.Following.{GoesOnWith, IsAnswerTo, IsAnswered, EachIsAnswered, StaysInFrame, stays_in_frame, is_of_machine}
use Rattle.checked_paths.specs.Meaning.{EachWith, IsCheckedOver, MayGoOn}
use Rattle.checked_paths.specs.Pure.{PureEntry, PureChecking, PureNext, further, over, caused}
use Rattle.checked_paths.proofs.Answering.{goes_there}
use Rattle.checked_paths.proofs.Lists.{each_across}
use Rattle.checked_paths.proofs.Machine.{drawn_values, next_values, others_and, others_go_on, leads_along, leads_by_call, IsNoLeave, Stays, step_stays, machine_if_stays}

pub if_ok_both : {X E : Type 0} (P Q T : X → Type 0) (r : Result X E) → ((x : X) → P x → Q x → T x) → IfOk r P → IfOk r Q → IfOk r T
if_ok_both P Q T (Ok x) go p q = go x p q
if_ok_both P Q T (Err e) go p q = tt

-- ---- ends

end_has_input : (p : PureParts) (m : Actions) (v : List PureValue) (s : State) (how : PureEnd) (e : Ending) → IsEnding p m v s how e → ¬ IsInputFault e
end_has_input p m v s (returned t) e (w, (is, same)) input_fault = subst IsInputFault same input_fault
end_has_input p m v s (failed t place) e (w, (is, none, same)) input_fault = subst IsInputFault same input_fault
end_has_input p m v s (threw t place) e (w, (is, same)) input_fault = subst IsInputFault same input_fault
end_has_input p m v s (missed k place) e (q, (key, missed_there, same)) input_fault = subst IsInputFault same input_fault
end_has_input p m v s vanished e same input_fault = subst IsInputFault same input_fault
end_has_input p m v s cut e same input_fault = subst IsInputFault same input_fault
end_has_input p m v s (unknown place reason) e is input_fault = absurd is

step_has_input : {S : Type 0} (p : PureParts) (m : Actions) (stands : S → List PureValue → Heap → Type 0) (next : PurePath S) (w : List PureValue) (s : State) (o : Option PureEnd) (r : Step)
    → StandsForStep p m stands next w s o r → HasInput r
step_has_input p m stands next w s None (goes_on t) stood = tt
step_has_input p m stands next w s None (ends e) stood = absurd stood
step_has_input p m stands next w s (Some how) (goes_on t) stood = absurd stood
step_has_input p m stands next w s (Some how) (ends e) stood = end_has_input p m w s how e.ending stood.ending

no_end_of_bound : (e : End) → IsOver e.ending → e.ending ≡ machine_cut → ⊥
no_end_of_bound e is_over is = subst IsOver is is_over

-- an end with which the entry is left
abbrev pub IsLeave : Option PureEnd → Type 0
IsLeave (Some (returned t)) = ⊤
IsLeave (Some (threw t place)) = ⊤
IsLeave (Some (failed t place)) = ⊥
IsLeave (Some (missed k place)) = ⊥
IsLeave (Some vanished) = ⊥
IsLeave (Some cut) = ⊥
IsLeave (Some (unknown place reason)) = ⊥
IsLeave None = ⊥

-- the procedure that runs has no specification
abbrev pub HasNoSpec : PureParts → List PureFrame → Type 0
HasNoSpec p [] = ⊤
HasNoSpec p (f ∷ fs) = find_spec p.specs f.procedure ≡ None

no_spec_there : (p : PureParts) (w : List PureValue) (fs : List PureFrame) (s : State) → HasNoSpec p fs → AreFrames w fs (frames_of s) → find_spec p.specs s.current.procedure ≡ None
no_spec_there p w [] s none are = absurd are
no_spec_there p w (f ∷ fs) s none are = ap (find_spec p.specs) (sym are.0.procedure) ∙ none

-- ---- one next path

-- what is promised of it
pub record IsLawful {S : Type 0} (p : PureParts) (m : Actions) (stands : S → List PureValue → Heap → Type 0) (terms : S → StateTerms) (path next : PurePath S) : Type 0 where
  pub growth : Grows terms path next
  pub recorded : IsRecorded p m path next
  pub exact : IsExact p m stands path next
  pub satisfiable : StaysSatisfiable path next
  pub unknown_rightly : IsRightlyUnknown p path next next.ending

module _ {S : Type 0} (p : PureParts) (memory : MemoryName) (m : Actions) (stands : S → List PureValue → Heap → Type 0) (terms : S → StateTerms) (meaning : IsMeaning memory stands terms)
    (e : PureEntry) (x : PureChecking S) (is_over_table : IsCheckedOver terms e x) (here : Place) (is_place : IsPlaceOf p x.path.stack here)
    (n : PureNumberedCommand) (at : command_of_path p x.path ≡ Some n) where
  at_state : (v : List PureValue) (c : Checked) → Stands stands x.path v c.machine → command_at p c.machine.current ≡ Some n
  at_state v c is = sym (stands_at p v x.path.stack c.machine is.frames) ∙ at

  -- the step of a state for which a next path stands is one of a checked run
  abbrev pub LeadsThere : PurePath S → Type 0
  LeadsThere next =
      (w : List PureValue) (entry : Entry) (c : Checked) (inputs : List PureValue) → command_at p c.machine.current ≡ Some n
      → StandsForStep p m stands next w c.machine next.ending (step p m inputs c.machine) → LeadsAlong p memory m entry c (choice_at p m c.machine) (stepped p memory m entry c (step p m inputs c.machine))

  pub machine_leads : (next : PurePath S) → IsTrue (is_of_machine n.command) → LeadsThere next
  machine_leads next machine w entry c inputs there stood =
      leads_along p memory m entry n c inputs there machine (step_has_input p m stands next w c.machine next.ending (step p m inputs c.machine) stood)

  -- where a call goes on in a procedure without a specification
  enters_none : (next : PurePath S) (w : List PureValue) (s : State) (o : Option PureEnd) (r : Step) → (o ≡ None → HasNoSpec p next.stack) → StandsForStep p m stands next w s o r → used_in p r ≡ None
  enters_none next w s o (ends e) none stood = refl
  enters_none next w s (Some how) (goes_on t) none stood = absurd stood
  enters_none next w s None (goes_on t) none stood = no_spec_there p w next.stack t (none refl) stood.frames

  pub call_leads : (next : PurePath S) → is_call n.command ≡ true → (next.ending ≡ None → HasNoSpec p next.stack) → LeadsThere next
  call_leads next is none w entry c inputs there stood = leads_by_call p memory m entry n c inputs there is (enters_none next w c.machine next.ending (step p m inputs c.machine) none stood)

  module _ (next : PurePath S) (laws : IsLawful p m stands terms x.path next) (led : LeadsThere next) where
    -- what the step of a state does that is under the valuations
    record Does (v w : List PureValue) (entry : Entry) (c : Checked) (new_vars : List Sort) : Type 0 where
      pub inputs : List PureValue
      pub extends : Extends inputs c.machine x.path next v w
      pub same_vars : extends.new_vars ≡ new_vars
      pub chosen : IsChosen x.path next (choice_at p m c.machine)
      pub stood : StandsForStep p m stands next w c.machine next.ending (step p m inputs c.machine)
      pub leads : LeadsAlong p memory m entry c (choice_at p m c.machine) (stepped p memory m entry c (step p m inputs c.machine))

    does : ¬ IsUnknown next.ending → (v w : List PureValue) (entry : Entry) (c : Checked) (under : IsUnder stands e x next.vars next.conds v w entry c) → Does v w entry c under.continued.new_vars
    does known v w entry c under =
        let new_vars = under.continued.new_vars in
        let new_values = under.continued.new_values in
        let inputs : List PureValue = others_and c.machine.draws (drawn_values new_vars new_values) in
        let extends : Extends inputs c.machine x.path next v w = record {
          new_vars = new_vars;
          new_values = new_values;
          vars = under.continued.table;
          values = under.continued.values;
          in_turn = next_values new_vars new_values c.machine.counter c.machine.draws inputs under.continued.in_turn (others_go_on c.machine.draws (drawn_values new_vars new_values));
        } in
        let (chosen, stood) = laws.exact inputs v w c.machine under.standing.path extends known under.meets in
        record {
          inputs = inputs;
          extends = extends;
          same_vars = refl;
          chosen = chosen;
          stood = stood;
          leads = led w entry c inputs (at_state v c under.standing.path) stood;
        }

    -- ---- a path that goes on

    module _ (y : PureChecking S) (with_it : GoesOnWith stands terms x.facts x.passed next y) (still : next.ending ≡ None) where
      known_still : ¬ IsUnknown next.ending
      known_still is = subst IsUnknown still is

      under_next : (v w : List PureValue) (entry : Entry) (c : Checked) → IsUnder stands e x y.path.vars y.path.conds v w entry c → IsUnder stands e x next.vars next.conds v w entry c
      under_next v w entry c under = record {
        standing = under.standing;
        above = under.above;
        continued = record {
          new_vars = under.continued.new_vars;
          new_values = under.continued.new_values;
          table = ap (λ (q : PurePath S). q.vars) (sym with_it.same_path) ∙ under.continued.table;
          values = under.continued.values;
          in_turn = under.continued.in_turn;
        };
        meets = subst (λ (q : PurePath S). Satisfies q.vars w q.conds) with_it.same_path under.meets;
      }

      counted_on : (v w : List PureValue) (entry : Entry) (c : Checked) (new_vars : List Sort) (t : State) (did : Does v w entry c new_vars) → command_at p c.machine.current ≡ Some n → step p m did.inputs c.machine ≡ goes_on t
          → t.counter ≡ counter_past new_vars c.machine.counter
      counted_on v w entry c new_vars t did there goes =
          let counted : t.counter ≡ c.machine.counter + symbols_taken m n.command = (step_does p m did.inputs c.machine t n there goes).counter_is in
          let recorded : fresh_count next.vars ≡ fresh_count x.path.vars + symbols_taken m n.command = symbols_recorded p m x.path next laws.recorded n at still in
          let table : next.vars ≡ x.path.vars ++ new_vars = did.extends.vars ∙ ap (λ ss. x.path.vars ++ ss) did.same_vars in
          let all : fresh_count next.vars ≡ fresh_count x.path.vars + fresh_count new_vars = ap fresh_count table ∙ fresh_append x.path.vars new_vars in
          let past : counter_past new_vars c.machine.counter ≡ c.machine.counter + fresh_count new_vars = past_is new_vars c.machine.counter in
          omega (arith, counted, recorded, all, past)

      leads_on : (v w : List PureValue) (entry : Entry) (c : Checked) (new_vars : List Sort) (under : IsUnder stands e x next.vars next.conds v w entry c) (did : Does v w entry c new_vars) (r : Step)
          → step p m did.inputs c.machine ≡ r → StandsForStep p m stands next w c.machine None r → LeadsOn p memory m stands e x y w entry c new_vars
      leads_on v w entry c new_vars under did (goes_on t) goes stood = record {
        state = moved c t;
        chosen = choice_at p m c.machine;
        choices = ap (λ (q : PurePath S). q.choices) with_it.same_path ∙ did.chosen;
        leads = subst (λ r. LeadsAlong p memory m entry c (choice_at p m c.machine) (stepped p memory m entry c r)) goes did.leads;
        stands_for = goes_there p memory m stands terms meaning e x is_over_table next (further y) v w entry c did.inputs under.standing did.extends y t with_it stood;
        counted = counted_on v w entry c new_vars t did (at_state v c under.standing.path) goes;
      }
      leads_on v w entry c new_vars under did (ends end) goes stood = absurd stood

      followed : IsFollowed p memory m stands e x y
      unfolding under_next
      followed = record {
        table = (laws.growth.new_vars, ap (λ (q : PurePath S). q.vars) with_it.same_path ∙ laws.growth.vars);
        longer = (laws.growth.new_conds, ap (λ (q : PurePath S). q.conds) with_it.same_path ∙ laws.growth.conds);
        met = λ v meets. subst (λ (q : PurePath S). (w : List PureValue) × Satisfies q.vars w q.conds) (sym with_it.same_path) (laws.satisfiable v meets known_still);
        exact = λ v w entry c under.
            let next_under = under_next v w entry c under in
            let did = does known_still v w entry c next_under in
            leads_on v w entry c under.continued.new_vars next_under did (step p m did.inputs c.machine) refl
            (subst (λ o. StandsForStep p m stands next w c.machine o (step p m did.inputs c.machine)) still did.stood);
      }

    -- ---- causes

    abbrev shown : PureShown
    shown = shown_of here next

    shown_there : IsShownAt x p shown
    shown_there = record {
      place = is_place;
      table = (laws.growth.new_vars, laws.growth.vars);
      longer = (laws.growth.new_conds, laws.growth.conds);
      known = λ u is. not_none is;
    }

    -- The path has this end, and wherever it is that of a step there is such an outcome.
    surely : (Is : List PureValue → Outcome → Type 0) (how : PureEnd) → next.ending ≡ Some how → ¬ IsUnknown (Some how)
        → ((w : List PureValue) (entry : Entry) (c : Checked) (inputs : List PureValue) (end : End) → command_at p c.machine.current ≡ Some n → step p m inputs c.machine ≡ ends end
        → IsEnding p m w c.machine how end.ending → Is w (ended p memory m entry c end.ending)) → IsSurely p memory m stands e x Is shown
    surely Is how still known leads_to = record {
      at = shown_there;
      met = λ v meets. laws.satisfiable v meets known_there;
      exact = λ v w entry c under.
          let did = does known_there v w entry c under in
          record {
            chosen = choice_at p m c.machine;
            choices = did.chosen;
            outcome = stepped p memory m entry c (step p m did.inputs c.machine);
            leads = did.leads;
            is = by v w entry c did.inputs (at_state v c under.standing.path) (step p m did.inputs c.machine) refl
                (subst (λ o. StandsForStep p m stands next w c.machine o (step p m did.inputs c.machine)) still did.stood);
          };
    }
      where
        known_there : ¬ IsUnknown next.ending
        known_there is = known (subst IsUnknown still is)

        by : (v w : List PureValue) (entry : Entry) (c : Checked) (inputs : List PureValue) → command_at p c.machine.current ≡ Some n → (r : Step) → step p m inputs c.machine ≡ r
            → StandsForStep p m stands next w c.machine (Some how) r → Is w (stepped p memory m entry c r)
        by v w entry c inputs there (ends end) does_it stood = leads_to w entry c inputs end there does_it stood.ending
        by v w entry c inputs there (goes_on t) does_it stood = absurd stood

    fails_surely : (t : PureTerm) (place : Place) → next.ending ≡ Some (failed t place) → IsSurely p memory m stands e x (FailsWith t) shown
    fails_surely t place still = surely (FailsWith t) (failed t place) still (λ is. is) by
      where
        by : (w : List PureValue) (entry : Entry) (c : Checked) (inputs : List PureValue) (end : End) → command_at p c.machine.current ≡ Some n → step p m inputs c.machine ≡ ends end
            → IsEnding p m w c.machine (failed t place) end.ending → FailsWith t w (ended p memory m entry c end.ending)
        by w entry c inputs end there does_it (u, (value_is, none, ends_so)) =
            (u, (value_is, ap (ended p memory m entry c) ends_so ∙ ap (λ o. fails_or_misses o u) none))

    misses_surely : (k : PureKey) (place : Place) → next.ending ≡ Some (missed k place) → IsSurely p memory m stands e x (λ w out. out ≡ has_fault missing) shown
    misses_surely k place still = surely (λ w out. out ≡ has_fault missing) (missed k place) still (λ is. is) by
      where
        by : (w : List PureValue) (entry : Entry) (c : Checked) (inputs : List PureValue) (end : End) → command_at p c.machine.current ≡ Some n → step p m inputs c.machine ≡ ends end
            → IsEnding p m w c.machine (missed k place) end.ending → ended p memory m entry c end.ending ≡ has_fault missing
        by w entry c inputs end there does_it (q, (key_is, missed_there, ends_so)) =
            ap (ended p memory m entry c) ends_so ∙ ap (λ o. fails_or_misses o (text (codes "missing"))) missed_there

    -- no step ends so
    never : (Is : List PureValue → Outcome → Type 0) (how : PureEnd) → next.ending ≡ Some how → ¬ IsUnknown (Some how)
        → ((w : List PureValue) (s : State) (inputs : List PureValue) (end : End) → command_at p s.current ≡ Some n → step p m inputs s ≡ ends end → ¬ IsEnding p m w s how end.ending)
        → IsSurely p memory m stands e x Is shown
    never Is how still known none = surely Is how still known (λ w entry c inputs end there does_it is. absurd (none w c.machine inputs end there does_it is))

    cuts_surely : (Is : List PureValue → Outcome → Type 0) → next.ending ≡ Some cut → IsSurely p memory m stands e x Is shown
    cuts_surely Is still = never Is cut still (λ is. is) (λ w s inputs end there does_it is. no_end_of_bound end (subst (Keeps 0) does_it (step-keeps p m inputs 0 s (omega arith))).1 is)

    leaves_surely : (Is : List PureValue → Outcome → Type 0) (how : PureEnd) → next.ending ≡ Some how → ¬ IsUnknown (Some how) → IsTrue (stays_in_frame n.command)
        → ((w : List PureValue) (s : State) (ending : Ending) → IsNoLeave ending → ¬ IsEnding p m w s how ending) → IsSurely p memory m stands e x Is shown
    leaves_surely Is how still known stays none =
        never Is how still known (λ w s inputs end there does_it is. none w s end.ending (subst Stays does_it (step_stays p m inputs n s there stays)) is)

    by_cause : (k : PureNext S) (cause : PureCause) → caused_by k ≡ Some cause → IsRightCause p memory m stands e x cause → IsExactNext p memory m stands e x k
    by_cause (caused c) cause is right = subst (IsRightCause p memory m stands e x) (sym (same_some is)) right
    by_cause (further y) cause is right = not_none is
    by_cause over cause is right = not_none is

    pub exact_end : (k : PureNext S) (o : Option PureEnd) → next.ending ≡ o → IsAnswerTo stands terms x.facts x.passed next o k → ShowsStop o shown (Some k) → (IsLeave o → IsTrue (stays_in_frame n.command))
        → IsExactNext p memory m stands e x k
    exact_end k None still (y, (is, with_it)) shows stays = subst (IsExactNext p memory m stands e x) (sym is) (followed y with_it still)
    exact_end k (Some vanished) still answer shows stays = subst (IsExactNext p memory m stands e x) (sym answer) tt
    exact_end k (Some (failed t place)) still answer shows stays = by_cause k (failure t shown) shows (fails_surely t place still)
    exact_end k (Some (missed key place)) still answer shows stays = by_cause k (fault FaultKind.Missing shown) shows (misses_surely key place still)
    exact_end k (Some (returned t)) still answer shows stays =
        by_cause k (fault FaultKind.Post shown) shows (leaves_surely _ (returned t) still (λ is. is) (stays tt) (λ w s ending no_leave is. subst IsNoLeave is.1.1 no_leave))
    exact_end k (Some (threw t place)) still answer shows stays =
        by_cause k (fault FaultKind.Post shown) shows (leaves_surely _ (threw t place) still (λ is. is) (stays tt) (λ w s ending no_leave is. subst IsNoLeave is.1.1 no_leave))
    exact_end k (Some cut) still answer shows stays = by_cause k (bound shown) shows (cuts_surely _ still)
    exact_end k (Some (unknown place reason)) still answer shows stays =
        let rightly = subst (IsRightlyUnknown p x.path next) still laws.unknown_rightly in
        by_cause k (undecided reason shown) shows (record { at = shown_there; chosen = laws.growth.chosen; choices = laws.growth.choices; outside = rightly.0; first = rightly.1 })

-- ---- all next paths

each_with_both : {A B : Type 0} (R T : A → B → Type 0) (xs : List A) (ys : List B) → EachWith R xs ys → EachWith T xs ys → EachWith (λ x y. R x y × T x y) xs ys
each_with_both R T [] [] first second = tt
each_with_both R T (x ∷ xs) (y ∷ ys) first second = ((first.0, second.0), each_with_both R T xs ys first.1 second.1)
each_with_both R T [] (y ∷ ys) first second = absurd first
each_with_both R T (x ∷ xs) [] first second = absurd first

all_lawful : {S : Type 0} (p : PureParts) (m : Actions) (stands : S → List PureValue → Heap → Type 0) (terms : S → StateTerms) (path : PurePath S) (nexts : List (PurePath S)) → Each (Grows terms path) nexts
    → Each (IsRecorded p m path) nexts → Each (IsExact p m stands path) nexts → Each (StaysSatisfiable path) nexts → Each (λ next. IsRightlyUnknown p path next next.ending) nexts
    → Each (IsLawful p m stands terms path) nexts
all_lawful p m stands terms path [] growth recorded exact satisfiable rightly = tt
all_lawful p m stands terms path (next ∷ nexts) growth recorded exact satisfiable rightly = (
  record { growth = growth.0; recorded = recorded.0; exact = exact.0; satisfiable = satisfiable.0; unknown_rightly = rightly.0 },
  all_lawful p m stands terms path nexts growth.1 recorded.1 exact.1 satisfiable.1 rightly.1,
)

-- the answers of a step at a command with which no frame begins or ends
pub machine_exact : {S : Type 0} (p : PureParts) (memory : MemoryName) (m : Actions) (stands : S → List PureValue → Heap → Type 0) (terms : S → StateTerms) → IsMeaning memory stands terms
    → (own by_memory : PureAtom → Type 0) (x : PureChecking S) (nexts : List (PurePath S)) (ns : List (PureNext S)) (here : Place) → AreNextPaths p m stands terms own by_memory x.path nexts
    → EachIsAnswered stands terms x.facts x.passed nexts ns → EachShowsEnd here nexts ns → (e : PureEntry) → MayGoOn p terms e x → StaysInFrame p x.path → IsPlaceOf p x.path.stack here
    → AreExact p memory m stands e x ns
machine_exact p memory m stands terms meaning own by_memory x nexts ns here laws are show e may (n, (at, stays)) is_place =
    each_across (λ next k. IsAnswered stands terms x.facts x.passed next k × ShowsEnd here next k) (IsLawful p m stands terms x.path) (IsExactNext p memory m stands e x) nexts ns
    (each_with_both (IsAnswered stands terms x.facts x.passed) (ShowsEnd here) nexts ns are show)
    (λ next k answer lawful. exact_end p memory m stands terms meaning e x may.over here is_place n at next lawful
    (machine_leads p memory m stands terms meaning e x may.over here is_place n at next (machine_if_stays n.command stays)) k next.ending refl answer.0 answer.1 (λ leave. stays))
    (all_lawful p m stands terms x.path nexts laws.growth laws.recorded laws.exact laws.satisfiable laws.unknown_rightly)

-- ---- the conditions that are added

own_cause : {S : Type 0} (own : PureAtom → Type 0) (x : PureChecking S) (k : PureNext S) (cause : PureCause) → caused_by k ≡ Some cause → HaveMoreOf own x.path.conds (shown_in cause).conds → AddsOnly own x k
own_cause own x (caused c) cause is adds = subst (λ d. HaveMoreOf own x.path.conds (shown_in d).conds) (sym (same_some is)) adds
own_cause own x (further y) cause is adds = not_none is
own_cause own x over cause is adds = not_none is

own_end : {S : Type 0} (stands : S → List PureValue → Heap → Type 0) (terms : S → StateTerms) (own : PureAtom → Type 0) (x : PureChecking S) (here : Place) (next : PurePath S) (k : PureNext S) (o : Option PureEnd)
    → IsAnswerTo stands terms x.facts x.passed next o k → ShowsStop o (shown_of here next) (Some k) → AddsOwn own x.path next → AddsOnly own x k
own_end {S = S} stands terms own x here next k None (y, (is, with_it)) shows adds = subst (AddsOnly own x) (sym is) (adds.added, (ap (λ (q : PurePath S). q.conds) with_it.same_path ∙ adds.conds, adds.each))
own_end stands terms own x here next k (Some vanished) answer shows adds = subst (AddsOnly own x) (sym answer) tt
own_end stands terms own x here next k (Some (failed t place)) answer shows adds = own_cause own x k (failure t (shown_of here next)) shows (adds.added, (adds.conds, adds.each))
own_end stands terms own x here next k (Some (missed key place)) answer shows adds = own_cause own x k (fault FaultKind.Missing (shown_of here next)) shows (adds.added, (adds.conds, adds.each))
own_end stands terms own x here next k (Some (returned t)) answer shows adds = own_cause own x k (fault FaultKind.Post (shown_of here next)) shows (adds.added, (adds.conds, adds.each))
own_end stands terms own x here next k (Some (threw t place)) answer shows adds = own_cause own x k (fault FaultKind.Post (shown_of here next)) shows (adds.added, (adds.conds, adds.each))
own_end stands terms own x here next k (Some cut) answer shows adds = own_cause own x k (bound (shown_of here next)) shows (adds.added, (adds.conds, adds.each))
own_end stands terms own x here next k (Some (unknown place reason)) answer shows adds = own_cause own x k (undecided reason (shown_of here next)) shows (adds.added, (adds.conds, adds.each))

pub adds_own : {S : Type 0} (stands : S → List PureValue → Heap → Type 0) (terms : S → StateTerms) (own : PureAtom → Type 0) (x : PureChecking S) (here : Place) (nexts : List (PurePath S)) (ns : List (PureNext S))
    → EachIsAnswered stands terms x.facts x.passed nexts ns → EachShowsEnd here nexts ns → Each (AddsOwn own x.path) nexts → Each (AddsOnly own x) ns
adds_own stands terms own x here nexts ns are show adds =
    each_across (λ next k. IsAnswered stands terms x.facts x.passed next k × ShowsEnd here next k) (AddsOwn own x.path) (AddsOnly own x) nexts ns
    (each_with_both (IsAnswered stands terms x.facts x.passed) (ShowsEnd here) nexts ns are show)
    (λ next k answer. own_end stands terms own x here next k next.ending answer.0 answer.1) adds
