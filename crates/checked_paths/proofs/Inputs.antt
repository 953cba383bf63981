-- A command that draws nothing never ends for want of a fitting input, and a draw leads to any value of its kind.
use Rattle.std.proofs.Common.{◌≡◌, ℕ, zero, suc, ◌+◌, ℤ, pos, negsuc, List, [], ◌∷◌, Bool, true, false, cond, Option, Some, None, Ok, Err, slice_get, IsTrue, refl, sym, ap, subst, ◌∙◌, true≢false}
use Rattle.gil_values.specs.declared.kinds.Kind.{Kind}
use Rattle.gil_values.specs.declared.places.Place.{Place}
use Rattle.gil_values.specs.Equality.{same_kind}
use Rattle.gil_values.specs.Operators.{Outcome}
use Rattle.gil_values.specs.Pure.{PureValue, integer, boolean, text, symbol, kind, procedure, list, kind_of}
use Rattle.gil_syntax.specs.Pure.{PureCommand, assign, call, act, usym, isym, ifgoto, return, fail, throw, vanish, fold_use, unfold_use, assert_that, loop_invariant, PureParts}
use Rattle.gil_syntax.specs.Evaluation.{Outcomes, evaluate, evaluate_all}
use Rattle.gil_machine.specs.State.{Frame, State, End, bad_input, Step, ends, end_at}
use Rattle.gil_machine.specs.Step.{to_label, assigned, with_value, with_values, branch, leave, Handling, handling, throw_to, after_action, do_action, draw, do_command}
use Rattle.mem_model.specs.Actions.{Actions}
use Rattle.mem_model.specs.Pure.{PureOutcome, done, failed as action_failed, miss}
use Rattle.mem_model.specs.declared.keys.MemoryName.{MemoryName}
use Rattle.checked_runs.specs.Checked.{Checked, Outcome as CheckedOutcome, Entry, stepped, Draws, LeadsBy}
use Rattle.sym_paths.specs.Steps.{HasInput}
use Rattle.checked_paths.specs.Following.{is_of_machine}

value_input : (r : Outcome) (here : Place) (s : State) (go : PureValue → Step) → ((v : PureValue) → HasInput (go v)) → HasInput (with_value r here s go)
value_input (Ok v) here s go has = has v
value_input (Err f) here s go has = λ fault. fault

values_input : (r : Outcomes) (here : Place) (s : State) (go : List PureValue → Step) → ((vs : List PureValue) → HasInput (go vs)) → HasInput (with_values r here s go)
values_input (Ok vs) here s go has = has vs
values_input (Err f) here s go has = λ fault. fault

label_input : (i : ℤ) (s : State) → HasInput (to_label i s)
label_input (pos i) s = tt
label_input (negsuc i) s = tt

branch_input : (v : PureValue) (i : ℤ) (here : Place) (s : State) → HasInput (branch v i here s)
branch_input (boolean true) i here s = label_input i s
branch_input (boolean false) i here s = tt
branch_input (integer n) i here s = λ fault. fault
branch_input (text cs) i here s = λ fault. fault
branch_input (symbol n) i here s = λ fault. fault
branch_input (kind k) i here s = λ fault. fault
branch_input (procedure f) i here s = λ fault. fault
branch_input (list vs) i here s = λ fault. fault

leave_input : (frames : List Frame) (v : PureValue) (s : State) → HasInput (leave frames v s)
leave_input [] v s = λ fault. fault
leave_input (f ∷ fs) v s = tt

throw_input : (o : Option Handling) (v : PureValue) (here : Place) (s : State) → HasInput (throw_to o v here s)
throw_input (Some h) v here s = tt
throw_input None v here s = λ fault. fault

action_input : (o : PureOutcome) (x : List ℕ) (here : Place) (s : State) → HasInput (after_action o x here s)
action_input (done v) x here s = tt
action_input (action_failed v) x here s = λ fault. fault
action_input (miss k) x here s = λ fault. fault

do_action_input : (takes : Bool) (m : Actions) (x a : List ℕ) (args : List PureValue) (here : Place) (s : State) → HasInput (do_action takes m x a args here s)
do_action_input true m x a args here s = action_input (m.act a (Some s.counter) args s.heap).outcome x here (record s { heap = (m.act a (Some s.counter) args s.heap).heap; counter = s.counter + 1 })
do_action_input false m x a args here s = action_input (m.act a None args s.heap).outcome x here (record s { heap = (m.act a None args s.heap).heap })

-- ---- the input that is drawn

-- inputs of which the n-th is the value
abbrev inputs_with : ℕ → PureValue → List PureValue
inputs_with zero v = v ∷ []
inputs_with (suc n) v = v ∷ inputs_with n v

drawn_there : (n : ℕ) (v : PureValue) → slice_get (inputs_with n v) n ≡ Some v
drawn_there zero v = refl
drawn_there (suc n) v = drawn_there n v

pub drawn_so : (b : Bool) (a : Step) (e : End) → b ≡ true → cond b a (ends e) ≡ a
drawn_so true a e is = refl
drawn_so false a e is = absurd (true≢false (sym is))

draw_is : (n : ℕ) (v : PureValue) (x : List ℕ) (k : Kind) (s : State) → same_kind (kind_of v) k ≡ true → draw (slice_get (inputs_with n v) n) x k s ≡ assigned x v s
draw_is n v x k s same = ap (λ o. draw o x k s) (drawn_there n v) ∙ drawn_so (same_kind (kind_of v) k) (assigned x v s) (end_at s (bad_input s.draws)) same

-- ---- what a command of the machine leads to

module _ (p : PureParts) (memory : MemoryName) (m : Actions) (entry : Entry) where
  -- with some inputs the step is the one that leads to the outcome
  pub record IsStepTo (command : PureCommand) (here : Place) (c : Checked) (out : CheckedOutcome) : Type 0 where
    pub inputs : List PureValue
    pub is : out ≡ stepped p memory m entry c (do_command p m inputs command here c.machine)
    pub has : HasInput (do_command p m inputs command here c.machine)

  plainly : (command : PureCommand) (here : Place) (c : Checked) (out : CheckedOutcome) → out ≡ stepped p memory m entry c (do_command p m [] command here c.machine)
      → HasInput (do_command p m [] command here c.machine) → IsStepTo command here c out
  plainly command here c out is has = record { inputs = []; is = is; has = has }

  drawn : (x : List ℕ) (k : Kind) (here : Place) (c : Checked) (out : CheckedOutcome) → Draws p memory m entry x k c out → IsStepTo (isym x k) here c out
  drawn x k here c out (v, (same, is)) =
      let goes = draw_is c.machine.draws v x k (record c.machine { draws = c.machine.draws + 1 }) same in
      record {
        inputs = inputs_with c.machine.draws v;
        is = is ∙ ap (stepped p memory m entry c) (sym goes);
        has = subst HasInput (sym goes) tt;
      }

  pub step_to : (command : PureCommand) (here : Place) (c : Checked) (out : CheckedOutcome) → IsTrue (is_of_machine command) → LeadsBy p memory m entry command here c out
      → IsStepTo command here c out
  step_to (isym x k) here c out machine leads = drawn x k here c out leads
  step_to (assign x e) here c out machine leads = plainly (assign x e) here c out leads (value_input (evaluate e c.machine.current.store) here c.machine _ (λ v. tt))
  step_to (act x a es) here c out machine leads = plainly (act x a es) here c out leads (values_input (evaluate_all es c.machine.current.store) here c.machine _ (λ args. do_action_input (m.takes_symbol a) m x a args here c.machine))
  step_to (usym x) here c out machine leads = plainly (usym x) here c out leads tt
  step_to (ifgoto e i) here c out machine leads = plainly (ifgoto e i) here c out leads (value_input (evaluate e c.machine.current.store) here c.machine _ (λ v. branch_input v i here c.machine))
  step_to (return e) here c out machine leads = plainly (return e) here c out leads (value_input (evaluate e c.machine.current.store) here c.machine _ (λ v. leave_input c.machine.callers v c.machine))
  step_to (fail e) here c out machine leads = plainly (fail e) here c out leads (value_input (evaluate e c.machine.current.store) here c.machine _ (λ v. λ fault. fault))
  step_to (throw e) here c out machine leads = plainly (throw e) here c out leads (value_input (evaluate e c.machine.current.store) here c.machine _ (λ v. throw_input (handling c.machine.callers) v here c.machine))
  step_to vanish here c out machine leads = plainly vanish here c out leads (λ fault. fault)
  step_to (call x e es handler) here c out machine leads = absurd (true≢false (sym machine))
  step_to (fold_use u) here c out machine leads = absurd (true≢false (sym machine))
  step_to (unfold_use u) here c out machine leads = absurd (true≢false (sym machine))
  step_to (assert_that items) here c out machine leads = absurd (true≢false (sym machine))
  step_to (loop_invariant xs ps items) here c out machine leads = absurd (true≢false (sym machine))
