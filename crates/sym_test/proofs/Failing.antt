-- A step that fails, or throws what nothing catches, does so at the place of its command.
use Rattle.std.proofs.Common.{◌≡◌, ℕ, List, [], ◌∷◌, length, Bool, true, false, ◌==◌, if◌then◌else◌, slice_get, Option, Some, None, Ok, Err, sym, ap, subst, ◌∙◌}
use Rattle.std.specs.Prelude.{ℤ, pos, negsuc, codes}
use Rattle.gil_values.specs.declared.kinds.Kind.{Kind}
use Rattle.gil_values.specs.declared.places.Place.{Place}
use Rattle.gil_values.specs.Equality.{same_kind}
use Rattle.gil_values.specs.Operators.{fault_text, Outcome}
use Rattle.gil_values.specs.Pure.{PureValue, integer, boolean, text, symbol, kind, procedure, list, kind_of}
use Rattle.gil_syntax.specs.Evaluation.{Outcomes, evaluate, evaluate_all}
use Rattle.gil_syntax.specs.Programs.{find_proc}
use Rattle.gil_syntax.specs.Pure.{PureCommand, assign, call, act, usym, isym, ifgoto, return, fail, throw, vanish, fold_use, unfold_use, assert_that, loop_invariant, PureNumberedCommand, PureProc, PureParts}
use Rattle.mem_model.specs.Actions.{Actions}
use Rattle.mem_model.specs.Pure.{PureOutcome, done, failed as action_failed, miss}
use Rattle.gil_machine.specs.State.{Frame, State, End, returned, failed, told, vanished, no_input, bad_input, Step, goes_on, ends, end_at}
use Rattle.gil_machine.specs.Step.{command_at, with_value, with_values, enter_found, enter_value, leave, after_action, action_result, draw, branch, to_label, do_command, step, step_at, handler_label, Handling, handling, throw_to}

-- where the end is a failure, it is one at this place
abbrev pub EndsHere : Place → Step → Type 0
EndsHere here (goes_on s) = Unit {0}
EndsHere here (ends e) = (w : PureValue) (place : Place) → told e.ending ≡ failed w place → place ≡ here

same_place : (v w : PureValue) (here place : Place) → failed v here ≡ failed w place → place ≡ here
same_place v w here place is = cc

fails : (v : PureValue) (here : Place) (s : State) → EndsHere here (ends (end_at s (failed v here)))
fails v here s w place is = same_place v w here place is

of_value : (o : Outcome) (here : Place) (s : State) (go_on : PureValue → Step) → ((v : PureValue) → EndsHere here (go_on v)) → EndsHere here (with_value o here s go_on)
of_value (Ok v) here s go_on so = so v
of_value (Err f) here s go_on so = fails (text (fault_text f)) here s

of_values : (o : Outcomes) (here : Place) (s : State) (go_on : List PureValue → Step) → ((vs : List PureValue) → EndsHere here (go_on vs)) → EndsHere here (with_values o here s go_on)
of_values (Ok vs) here s go_on so = so vs
of_values (Err f) here s go_on so = fails (text (fault_text f)) here s

if_enters : (b : Bool) (here : Place) (s t : State) (why : PureValue) → EndsHere here (if b then goes_on t else ends (end_at s (failed why here)))
if_enters true here s t why = tt
if_enters false here s t why = fails why here s

enters_found : (o : Option PureProc) (x : List ℕ) (handler : Option ℕ) (args : List PureValue) (here : Place) (s : State) → EndsHere here (enter_found o x handler args here s)
enters_found None x handler args here s = fails (text (codes "proc")) here s
enters_found (Some q) x handler args here s = if_enters (length args == length q.params) here s _ (text (codes "arity"))

enters : (p : PureParts) (v : PureValue) (x : List ℕ) (handler : Option ℕ) (args : List PureValue) (here : Place) (s : State) → EndsHere here (enter_value p v x handler args here s)
enters p (procedure f) x handler args here s = enters_found (find_proc p.procs f) x handler args here s
enters p (integer n) x handler args here s = fails (text (codes "proc")) here s
enters p (boolean b) x handler args here s = fails (text (codes "proc")) here s
enters p (text cs) x handler args here s = fails (text (codes "proc")) here s
enters p (symbol n) x handler args here s = fails (text (codes "proc")) here s
enters p (kind k) x handler args here s = fails (text (codes "proc")) here s
enters p (list vs) x handler args here s = fails (text (codes "proc")) here s

not_returned : (v : PureValue) (here : Place) (w : PureValue) (place : Place) → returned v ≡ failed w place → place ≡ here
not_returned v here w place is = cc

not_drawn : (k : ℕ) (here : Place) (w : PureValue) (place : Place) → bad_input k ≡ failed w place → place ≡ here
not_drawn k here w place is = cc

not_there : (k : ℕ) (here : Place) (w : PureValue) (place : Place) → no_input k ≡ failed w place → place ≡ here
not_there k here w place is = cc

not_vanished : (here : Place) (w : PureValue) (place : Place) → vanished ≡ failed w place → place ≡ here
not_vanished here w place is = cc

leaves : (callers : List Frame) (v : PureValue) (here : Place) (s : State) → EndsHere here (leave callers v s)
leaves [] v here s = not_returned v here
leaves (caller ∷ callers) v here s = tt

labels : (i : ℤ) (here : Place) (s : State) → EndsHere here (to_label i s)
labels (pos i) here s = tt
labels (negsuc i) here s = tt

throws : (o : Option Handling) (v : PureValue) (here : Place) (s : State) → EndsHere here (throw_to o v here s)
throws (Some h) v here s = tt
throws None v here s = fails v here s

acts : (o : PureOutcome) (x : List ℕ) (here : Place) (s : State) → EndsHere here (after_action o x here s)
acts (done v) x here s = tt
acts (action_failed v) x here s = fails v here s
acts (miss k) x here s = fails (text (codes "missing")) here s

if_fits : (b : Bool) (here : Place) (s t : State) (k : ℕ) → EndsHere here (if b then goes_on t else ends (end_at s (bad_input k)))
if_fits true here s t k = tt
if_fits false here s t k = not_drawn k here

draws : (o : Option PureValue) (x : List ℕ) (k : Kind) (here : Place) (s : State) → EndsHere here (draw o x k s)
draws None x k here s = not_there s.draws here
draws (Some v) x k here s = if_fits (same_kind (kind_of v) k) here s _ s.draws

branches : (v : PureValue) (i : ℤ) (here : Place) (s : State) → EndsHere here (branch v i here s)
branches (boolean true) i here s = labels i here s
branches (boolean false) i here s = tt
branches (integer n) i here s = fails (text (codes "type")) here s
branches (text cs) i here s = fails (text (codes "type")) here s
branches (symbol n) i here s = fails (text (codes "type")) here s
branches (kind k) i here s = fails (text (codes "type")) here s
branches (procedure f) i here s = fails (text (codes "type")) here s
branches (list vs) i here s = fails (text (codes "type")) here s

module _ (p : PureParts) (m : Actions) (inputs : List PureValue) where
  does : (c : PureCommand) (here : Place) (s : State) → EndsHere here (do_command p m inputs c here s)
  does (assign x e) here s = of_value (evaluate e s.current.store) here s _ (λ v. tt)
  does (call x e es handler) here s = of_value (evaluate e s.current.store) here s _ (λ f. of_values (evaluate_all es s.current.store) here s _ (λ args. enters p f x (handler_label handler) args here s))
  does (act x a es) here s = of_values (evaluate_all es s.current.store) here s _ (λ args. acts (action_result (m.takes_symbol a) m a args s).outcome x here _)
  does (usym x) here s = tt
  does (isym x k) here s = draws (slice_get inputs s.draws) x k here _
  does (ifgoto e i) here s = of_value (evaluate e s.current.store) here s _ (λ v. branches v i here s)
  does (return e) here s = of_value (evaluate e s.current.store) here s _ (λ v. leaves s.callers v here s)
  does (fail e) here s = of_value (evaluate e s.current.store) here s _ (λ v. fails v here s)
  does (throw e) here s = of_value (evaluate e s.current.store) here s _ (λ v. throws (handling s.callers) v here s)
  does vanish here s = not_vanished here
  does (fold_use u) here s = tt
  does (unfold_use u) here s = tt
  does (assert_that items) here s = tt
  does (loop_invariant xs ps items) here s = tt

  pub fails_here : (s : State) (c : PureNumberedCommand) (e : End) (w : PureValue) (place : Place) → command_at p s.current ≡ Some c → step p m inputs s ≡ ends e → told e.ending ≡ failed w place
      → place ≡ record { proc = s.current.procedure; at = c.at }
  fails_here s c e w place at leads is =
      let here : Place = record { proc = s.current.procedure; at = c.at } in
      let same : step p m inputs s ≡ do_command p m inputs c.command here s = ap (λ o. step_at p m inputs o s) at in
      (subst (EndsHere here) (sym same ∙ leads) (does c.command here s)) w place is
