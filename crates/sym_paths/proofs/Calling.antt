-- What the next paths are at a call.
use Rattle.std.proofs.Common.{◌≡◌, ◌⊎◌, ⊎_elim, inl, inr, ℕ, ◌+◌, ◌<◌, ℤ, List, [], ◌∷◌, ◌++◌, length, Bool, true, false, ◌==◌, if◌then◌else◌, slice_get, Option, Some, None, Ok, Err, codes, refl, sym, ap, subst, ◌∙◌, arith}
use Rattle.std.specs.Option.{option_and_then}
use Rattle.std.proofs.lemmas.Bool.{eqb-true}
use Rattle.std.proofs.lemmas.List.{append-nil, append_cancel_left}
use Rattle.gil_values.specs.declared.places.Place.{Place}
use Rattle.gil_values.specs.Operators.{fault_text, Outcome}
use Rattle.gil_values.specs.Pure.{PureValue, integer, boolean, text, symbol, kind, procedure, list}
use Rattle.gil_syntax.specs.Evaluation.{Outcomes, evaluate, evaluate_all}
use Rattle.gil_syntax.specs.Programs.{find_proc}
use Rattle.gil_syntax.specs.Pure.{PureProc, PureParts, PureExpr, PureNumberedCommand, call}
use Rattle.gil_machine.specs.Choices.{miss_at, result_of, missed_key, with_choice}
use Rattle.gil_machine.specs.State.{State, Ending, End, Step, goes_on, ends, end_at, IsFailed}
use Rattle.gil_machine.specs.State as machine
use Rattle.gil_machine.specs.Step.{command_at, do_command, step, first_frame, enter, enter_found, enter_value, fails_with, with_value, with_values, handler_label}
use Rattle.gil_machine.proofs.Placed.{found_name}
use Rattle.mem_model.specs.Actions.{Actions, ActionResult}
use Rattle.mem_model.specs.Heaps.{Heap}
use Rattle.pure_terms.specs.declared.variables.Sort.{Sort}
use Rattle.pure_terms.specs.Meaning.{value, Satisfies}
use Rattle.pure_terms.specs.Pure.{PureTerm}
use Rattle.sym_model.specs.Lists.{Each, OneOf}
use Rattle.sym_model.specs.Pure.{PureKey}
use Rattle.sym_model.specs.Terms.{StateTerms}
use Rattle.sym_model.proofs.ListLaws.{same_some, not_none, each_at, each_by_place}
use Rattle.sym_paths.specs.Frames.{waiting, called_frame}
use Rattle.sym_paths.specs.Meaning.{AreFrames, frames_of, StandsForStep, Stands, command_of_path}
use Rattle.sym_paths.specs.Origins.{Follows, HandsOver, GoesOnFrom, IsFailing, IsText}
use Rattle.sym_paths.specs.Pure.{PureEnd, returned, failed, threw, missed, vanished, cut, unknown, PurePath}
use Rattle.sym_paths.specs.Steps.{Extends, IsUnknown, IsInputFault, HasInput, new_sorts, choice_count, MayChoose, drawn_from, Grows, IsRecorded, Covers, IsExact}
use Rattle.sym_paths.proofs.Moving.{none_next, nothing_more}
use Rattle.sym_paths.proofs.Silent.{stands_at, step-is, extended_by, same_and_none}
use Rattle.sym_paths.specs.Calling.{CallsWith, GoesIn, FailsThere, IsNeverMet, EndsCall, ComesOfCall, CoverCall, CallsLead}

-- ---- what a call comes to

-- it goes on, or fails at the place
abbrev FailsOrGoes : State → Place → Step → Type 0
FailsOrGoes s here (goes_on t) = Unit {0}
FailsOrGoes s here (ends e) = (w : PureValue) × (e ≡ end_at s (machine.failed w here))

value_leads : (o : Outcome) (here : Place) (s : State) (go_on : PureValue → Step) → ((v : PureValue) → FailsOrGoes s here (go_on v)) → FailsOrGoes s here (with_value o here s go_on)
value_leads (Ok v) here s go_on all = all v
value_leads (Err f) here s go_on all = (text (fault_text f), refl)

values_leads : (o : Outcomes) (here : Place) (s : State) (go_on : List PureValue → Step) → ((vs : List PureValue) → FailsOrGoes s here (go_on vs)) → FailsOrGoes s here (with_values o here s go_on)
values_leads (Ok vs) here s go_on all = all vs
values_leads (Err f) here s go_on all = (text (fault_text f), refl)

either_leads : (b : Bool) (s : State) (here : Place) (r t : Step) → FailsOrGoes s here r → FailsOrGoes s here t → FailsOrGoes s here (if b then r else t)
either_leads true s here r t first second = first
either_leads false s here r t first second = second

module _ (x : List ℕ) (label : Option ℕ) (args : List PureValue) (here : Place) (s : State) where
  found_leads : (o : Option PureProc) → FailsOrGoes s here (enter_found o x label args here s)
  found_leads None = (text (codes "proc"), refl)
  found_leads (Some q) = either_leads (length args == length q.params) s here (enter q x label args s) (fails_with (text (codes "arity")) here s) tt (text (codes "arity"), refl)

  entering_leads : (p : PureParts) (w : PureValue) → FailsOrGoes s here (enter_value p w x label args here s)
  entering_leads p (procedure f) = found_leads (find_proc p.procs f)
  entering_leads p (integer n) = (text (codes "proc"), refl)
  entering_leads p (boolean b) = (text (codes "proc"), refl)
  entering_leads p (text cs) = (text (codes "proc"), refl)
  entering_leads p (symbol n) = (text (codes "proc"), refl)
  entering_leads p (kind k) = (text (codes "proc"), refl)
  entering_leads p (list vs) = (text (codes "proc"), refl)

abbrev call_step : PureParts → Outcome → Outcomes → List ℕ → Option ℕ → Place → State → Step
call_step p o os x label here s = with_value o here s (λ f. with_values os here s (λ args. enter_value p f x label args here s))

call_leads : (p : PureParts) (o : Outcome) (os : Outcomes) (x : List ℕ) (label : Option ℕ) (here : Place) (s : State) → FailsOrGoes s here (call_step p o os x label here s)
call_leads p o os x label here s = value_leads o here s _ (λ f. values_leads os here s _ (λ args. entering_leads x label args here s p f))

-- ---- where it goes on

abbrev Goes : Step → Type 0
Goes (goes_on t) = Unit {0}
Goes (ends e) = ⊥

-- the procedure that is entered
record IsEntered (p : PureParts) (o : Outcome) (os : Outcomes) (x : List ℕ) (label : Option ℕ) (s : State) (r : Step) : Type 0 where
  name : List ℕ
  entered : PureProc
  args : List PureValue
  callee : o ≡ Ok (procedure name)
  values : os ≡ Ok args
  found : find_proc p.procs name ≡ Some entered
  as_many : length args ≡ length entered.params
  leads : r ≡ enter entered x label args s

module _ (p : PureParts) (x : List ℕ) (label : Option ℕ) (args : List PureValue) (here : Place) (s : State) where
  by_arity : (q : PureProc) (name : List ℕ) (b : Bool) → (length args == length q.params) ≡ b → find_proc p.procs name ≡ Some q
      → Goes (if b then enter q x label args s else fails_with (text (codes "arity")) here s)
      → IsEntered p (Ok (procedure name)) (Ok args) x label s (if b then enter q x label args s else fails_with (text (codes "arity")) here s)
  by_arity q name true same found goes = record {
    name = name;
    entered = q;
    args = args;
    callee = refl;
    values = refl;
    found = found;
    as_many = eqb-true (length args) (length q.params) same;
    leads = refl;
  }
  by_arity q name false other found goes = absurd goes

  by_name : (name : List ℕ) (r : Option PureProc) → find_proc p.procs name ≡ r → Goes (enter_found r x label args here s) → IsEntered p (Ok (procedure name)) (Ok args) x label s (enter_found r x label args here s)
  by_name name None found goes = absurd goes
  by_name name (Some q) found goes = by_arity q name (length args == length q.params) refl found goes

  by_value : (w : PureValue) → Goes (enter_value p w x label args here s) → IsEntered p (Ok w) (Ok args) x label s (enter_value p w x label args here s)
  by_value (procedure name) goes = by_name name (find_proc p.procs name) refl goes
  by_value (integer n) goes = absurd goes
  by_value (boolean b) goes = absurd goes
  by_value (text cs) goes = absurd goes
  by_value (symbol n) goes = absurd goes
  by_value (kind k) goes = absurd goes
  by_value (list vs) goes = absurd goes

call_goes : (p : PureParts) (o : Outcome) (os : Outcomes) (x : List ℕ) (label : Option ℕ) (here : Place) (s : State) → Goes (call_step p o os x label here s) → IsEntered p o os x label s (call_step p o os x label here s)
call_goes p (Ok w) (Ok args) x label here s goes = by_value p x label args here s w goes
call_goes p (Ok w) (Err f) x label here s goes = absurd goes
call_goes p (Err f) os x label here s goes = absurd goes

-- the state in which the procedure begins
abbrev entered_state : List ℕ → Option ℕ → PureProc → List PureValue → State → State
entered_state x label q args s = record s {
  current = first_frame q.name q.params args;
  callers = record s.current { next = s.current.next + 1; waits = Some x; handler = label } ∷ s.callers;
}

-- ---- lists

one_both : {A : Type 0} (P Q R : A → Type 0) (xs : List A) → Each P xs → OneOf Q xs → ((x : A) → P x → Q x → R x) → OneOf R xs
one_both P Q R [] all one f = absurd one
one_both P Q R (x ∷ xs) all one f = ⊎_elim (λ here. inl (f x all.0 here)) (λ later. inr (one_both P Q R xs all.1 later f)) one

no_choice : (o : Option ℕ) → ((n : ℕ) → o ≡ Some n → n < 0) → o ≡ None
no_choice None may = refl
no_choice (Some n) may = let less : n < 0 = may n refl in absurd (omega (arith, less))

-- ---- the next paths

module _ {S : Type 0} (p : PureParts) (m : Actions) (stands : S → List PureValue → Heap → Type 0) (terms : S → StateTerms) (path : PurePath S) (nexts : List (PurePath S))
    (c : PureNumberedCommand) (x : List ℕ) (e : PureExpr) (es : List PureExpr) (handler : Option ℤ) (at : command_of_path p path ≡ Some c) (is_call : c.command ≡ call x e es handler)
    (recorded : Each (IsRecorded p m path) nexts) where
  abbrev here : State → Place
  here s = record { proc = s.current.procedure; at = c.at }

  abbrev comes_to : State → Step
  comes_to s = call_step p (evaluate e s.current.store) (evaluate_all es s.current.store) x (handler_label handler) (here s) s

  standing : (v : List PureValue) (s : State) → Stands stands path v s → command_at p s.current ≡ Some c
  standing v s is = sym (stands_at p v path.stack s is.frames) ∙ at

  did : (inputs v : List PureValue) (s : State) → Stands stands path v s → step p m inputs s ≡ comes_to s
  did inputs v s is = step-is p m inputs s c (call x e es handler) (standing v s is) is_call

  leads : (inputs v : List PureValue) (s : State) → Stands stands path v s → FailsOrGoes s (here s) (step p m inputs s)
  leads inputs v s is = subst (FailsOrGoes s (here s)) (sym (did inputs v s is)) (call_leads p (evaluate e s.current.store) (evaluate_all es s.current.store) x (handler_label handler) (here s) s)

  misses_nothing : (v : List PureValue) (s : State) → Stands stands path v s → miss_at p m s ≡ None
  misses_nothing v s is =
      ap (λ o. option_and_then (λ (r : ActionResult). missed_key r.outcome) (option_and_then (λ (d : PureNumberedCommand). result_of p m d.command s) o)) (standing v s is)
      ∙ ap (λ k. option_and_then (λ (r : ActionResult). missed_key r.outcome) (result_of p m k s)) is_call

  -- ---- the table

  no_variable : Each (λ next. next.vars ≡ path.vars) nexts
  no_variable = each_by_place (λ next. next.vars ≡ path.vars) nexts (λ i next there.
      ⊎_elim
      (λ whole. whole ∙ ap (λ k. path.vars ++ new_sorts m k) is_call ∙ append-nil path.vars)
      (λ ended. ended.0)
      ((each_at (IsRecorded p m path) nexts i next recorded there).variables c at))

  module _ (growth : Each (Grows terms path) nexts) (exact : Each (IsExact p m stands path) nexts) (origin : Each (Follows p m terms path) nexts) (i : ℕ) (next : PurePath S) (there : slice_get nexts i ≡ Some next) where
    vars_are : next.vars ≡ path.vars
    vars_are = each_at (λ next. next.vars ≡ path.vars) nexts i next no_variable there

    drawn_are : next.drawn ≡ path.drawn
    drawn_are =
        let grows = each_at (Grows terms path) nexts i next growth there in
        let none : grows.new_vars ≡ [] = append_cancel_left path.vars grows.new_vars [] (sym grows.vars ∙ same_and_none next.vars path.vars vars_are) in
        grows.drawn ∙ ap (λ ss. path.drawn ++ drawn_from (length path.vars) ss) none ∙ append-nil path.drawn

    choices_are : next.choices ≡ path.choices
    choices_are =
        let (chosen, (is, may, sure)) = (each_at (IsRecorded p m path) nexts i next recorded there).choice c at in
        let none : chosen ≡ None = no_choice chosen (λ n some. subst (λ k. n < choice_count k) is_call (may n some)) in
        is ∙ ap (λ o. path.choices ++ with_choice o []) none ∙ append-nil path.choices

    same_table : (inputs v : List PureValue) (s : State) → Extends inputs s path next v v
    same_table inputs v s = record { new_vars = []; new_values = []; vars = same_and_none next.vars path.vars vars_are; values = same_and_none v v refl; in_turn = tt }

    stands_next : (how : Option PureEnd) → next.ending ≡ how → ¬ IsUnknown how → (inputs v : List PureValue) (s : State) → Stands stands path v s → Satisfies next.vars v next.conds → StandsForStep p m stands next v s how (step p m inputs s)
    stands_next how is known inputs v s stood meets =
        subst (λ o. StandsForStep p m stands next v s o (step p m inputs s)) is
        ((each_at (IsExact p m stands path) nexts i next exact there) inputs v v s stood (same_table inputs v s) (λ hidden. known (subst IsUnknown is hidden)) meets).1

    -- ---- where it goes on

    stood_goes : (v : List PureValue) (s : State) (r : Step) → StandsForStep p m stands next v s None r → Goes r
    stood_goes v s (goes_on t) is = tt
    stood_goes v s (ends end) is = absurd is

    module _ (going : next.ending ≡ None) where
      from_call : (terms next.memory ≡ terms path.memory) × HandsOver p m terms path next x e es handler
      from_call = subst (GoesOnFrom p m terms path next) is_call ((each_at (Follows p m terms path) nexts i next origin there).going c at going)

      over_hands : HandsOver p m terms path next x e es handler
      over_hands = from_call.1

      same_procedure : (v : List PureValue) (s : State) (o : Outcome) (os : Outcomes) (r : Step) (k : IsEntered p o os x (handler_label handler) s r) → StandsForStep p m stands next v s None r → k.entered ≡ over_hands.procedure
      same_procedure v s o os r k stood =
          let stands_there : Stands stands next v (entered_state x (handler_label handler) k.entered k.args s) = subst (StandsForStep p m stands next v s None) k.leads stood in
          let frames : AreFrames v (called_frame over_hands.procedure over_hands.store ∷ waiting x (handler_label handler) path.stack) (frames_of (entered_state x (handler_label handler) k.entered k.args s)) =
          subst (λ fs. AreFrames v fs (frames_of (entered_state x (handler_label handler) k.entered k.args s))) over_hands.stack stands_there.frames in
          let same_name : over_hands.procedure.name ≡ k.entered.name = frames.0.procedure in
          let same_found : over_hands.callee ≡ k.name = sym (found_name p.procs over_hands.callee over_hands.procedure over_hands.found) ∙ same_name ∙ found_name p.procs k.name k.entered k.found in
          sym (same_some (sym over_hands.found ∙ ap (find_proc p.procs) same_found ∙ k.found))

      with_values_of : (inputs v : List PureValue) (s : State) → Stands stands path v s → Satisfies next.vars v next.conds
          → CallsWith p m stands terms path x e es handler inputs s over_hands.procedure
      with_values_of inputs v s is meets =
          let stood : StandsForStep p m stands next v s None (comes_to s) = subst (StandsForStep p m stands next v s None) (did inputs v s is) (stands_next None going (λ none. none) inputs v s is meets) in
          let k : IsEntered p (evaluate e s.current.store) (evaluate_all es s.current.store) x (handler_label handler) s (comes_to s) =
          call_goes p (evaluate e s.current.store) (evaluate_all es s.current.store) x (handler_label handler) (here s) s (stood_goes v s (comes_to s) stood) in
          subst (CallsWith p m stands terms path x e es handler inputs s) (same_procedure v s _ _ (comes_to s) k stood) (record {
            callee = k.callee ∙ ap (λ f. Ok (procedure f)) (sym (found_name p.procs k.name k.entered k.found));
            args = k.args;
            values = k.values;
            as_many = k.as_many;
            leads = did inputs v s is ∙ k.leads;
          })

      goes_in : GoesIn p m stands terms path x e es handler next
      goes_in = record {
        memory_stays = from_call.0;
        hands_over = over_hands;
        calls = λ inputs v s is meets. (with_values_of inputs v s is meets, stands_next None going (λ none. none) inputs v s is meets);
      }

    -- ---- where it ends

    failed_is : (t : PureTerm) (place : Place) (v : List PureValue) (s : State) (r : Step) → StandsForStep p m stands next v s (Some (failed t place)) r → FailsOrGoes s (here s) r
        → (w : PureValue) × ((value v t ≡ Some w) × (r ≡ fails_with w place s))
    failed_is t place v s (goes_on u) stood is = absurd stood
    failed_is t place v s (ends end) stood (w, is) =
        let (u, (val, none, same)) = stood.ending in
        (u, (val, ap ends (is ∙ ap (end_at s) (sym (ap (λ (d : End). d.ending) is) ∙ same))))

    fails_there : (t : PureTerm) (place : Place) → next.ending ≡ Some (failed t place) → FailsThere p m stands terms path x e es handler next t place
    fails_there t place is = record {
      text = ⊎_elim (λ one. one) (λ bad. absurd (subst (λ k. IsFailing m terms path k t) is_call bad)) ((each_at (Follows p m terms path) nexts i next origin there).failing c t place at is);
      fails = λ inputs v s stood meets. failed_is t place v s (step p m inputs s) (stands_next (Some (failed t place)) is (λ none. none) inputs v s stood meets) (leads inputs v s stood);
    }

    failing_end : (s : State) (end : End) → FailsOrGoes s (here s) (ends end) → (how : Ending) → end.ending ≡ how → IsFailed how
    failing_end s end (w, is) how same = subst IsFailed (sym (ap (λ (d : End). d.ending) is) ∙ same) tt

    not_returned : (t : PureTerm) (v : List PureValue) (s : State) (r : Step) → StandsForStep p m stands next v s (Some (returned t)) r → FailsOrGoes s (here s) r → ⊥
    not_returned t v s (goes_on u) stood is = stood
    not_returned t v s (ends end) stood is = failing_end s end is _ stood.ending.1.1

    not_thrown : (t : PureTerm) (place : Place) (v : List PureValue) (s : State) (r : Step) → StandsForStep p m stands next v s (Some (threw t place)) r → FailsOrGoes s (here s) r → ⊥
    not_thrown t place v s (goes_on u) stood is = stood
    not_thrown t place v s (ends end) stood is = failing_end s end is _ stood.ending.1.1

    not_missed : (v : List PureValue) (s : State) (r : Step) (k : PureKey) (place : Place) → miss_at p m s ≡ None → StandsForStep p m stands next v s (Some (missed k place)) r → ⊥
    not_missed v s (goes_on u) k place none stood = stood
    not_missed v s (ends end) k place none stood = not_none (sym none ∙ stood.ending.1.1)

    not_vanished : (v : List PureValue) (s : State) (r : Step) → StandsForStep p m stands next v s (Some vanished) r → FailsOrGoes s (here s) r → ⊥
    not_vanished v s (goes_on u) stood is = stood
    not_vanished v s (ends end) stood is = failing_end s end is _ stood.ending

    not_cut : (v : List PureValue) (s : State) (r : Step) → StandsForStep p m stands next v s (Some cut) r → FailsOrGoes s (here s) r → ⊥
    not_cut v s (goes_on u) stood is = stood
    not_cut v s (ends end) stood is = failing_end s end is _ stood.ending

    ends_call : (how : Option PureEnd) → next.ending ≡ how → EndsCall p m stands terms path x e es handler next how
    ends_call None is = goes_in is
    ends_call (Some (failed t place)) is = fails_there t place is
    ends_call (Some (unknown place reason)) is = tt
    ends_call (Some (returned t)) is = λ v s stood meets. not_returned t v s (step p m [] s) (stands_next (Some (returned t)) is (λ none. none) [] v s stood meets) (leads [] v s stood)
    ends_call (Some (threw t place)) is = λ v s stood meets. not_thrown t place v s (step p m [] s) (stands_next (Some (threw t place)) is (λ none. none) [] v s stood meets) (leads [] v s stood)
    ends_call (Some (missed k place)) is = λ v s stood meets. not_missed v s (step p m [] s) k place (misses_nothing v s stood) (stands_next (Some (missed k place)) is (λ none. none) [] v s stood meets)
    ends_call (Some vanished) is = λ v s stood meets. not_vanished v s (step p m [] s) (stands_next (Some vanished) is (λ none. none) [] v s stood meets) (leads [] v s stood)
    ends_call (Some cut) is = λ v s stood meets. not_cut v s (step p m [] s) (stands_next (Some cut) is (λ none. none) [] v s stood meets) (leads [] v s stood)

    comes_of_call : ComesOfCall p m stands terms path x e es handler next
    comes_of_call = record { vars = vars_are; drawn = drawn_are; choices = choices_are; ends = ends_call next.ending refl }

  pub each_comes : Each (Grows terms path) nexts → Each (IsExact p m stands path) nexts → Each (Follows p m terms path) nexts → Each (ComesOfCall p m stands terms path x e es handler) nexts
  each_comes growth exact origin = each_by_place (ComesOfCall p m stands terms path x e es handler) nexts (comes_of_call growth exact origin)

  -- ---- cover

  has_input : (s : State) (r : Step) → FailsOrGoes s (here s) r → HasInput r
  has_input s (goes_on t) is = tt
  has_input s (ends end) (w, is) = subst (λ (how : Ending). ¬ IsInputFault how) (sym (ap (λ (d : End). d.ending) is)) (λ none. none)

  pub covers_call : Covers p m stands path nexts → CoverCall p m stands terms path x e es handler nexts
  covers_call cover inputs v s is =
      one_both (λ next. next.vars ≡ path.vars) (λ next. (w : List PureValue) × (Extends inputs s path next v w × (StandsForStep p m stands next w s next.ending (step p m inputs s) ⊎ (IsUnknown next.ending × Satisfies next.vars w next.conds))))
      (λ next. StandsForStep p m stands next v s next.ending (step p m inputs s) ⊎ (IsUnknown next.ending × Satisfies next.vars v next.conds)) nexts no_variable (cover inputs v s is (has_input s (step p m inputs s) (leads inputs v s is)))
      (λ next vars covered.
      let (w, (ext, stood)) = covered in
      let (ws, (same, in_turn)) = extended_by inputs s path next [] v w (same_and_none next.vars path.vars vars) ext in
      let is_v : w ≡ v = same ∙ sym (nothing_more v ws (none_next inputs s.counter s.draws ws in_turn)) in
      subst (λ u. StandsForStep p m stands next u s next.ending (step p m inputs s) ⊎ (IsUnknown next.ending × Satisfies next.vars u next.conds)) is_v stood)

pub calls_lead : {S : Type 0} (m : Actions) (stands : S → List PureValue → Heap → Type 0) (terms : S → StateTerms) → CallsLead m stands terms
calls_lead m stands terms = record {
  each = λ p path nexts c x e es handler at is_call growth recorded exact origin. each_comes p m stands terms path nexts c x e es handler at is_call recorded growth exact origin;
  cover = λ p path nexts c x e es handler at is_call recorded cover. covers_call p m stands terms path nexts c x e es handler at is_call recorded cover;
}
