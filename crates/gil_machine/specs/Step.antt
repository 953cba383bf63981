-- A step of the machine: what one command does, as a function of the program, the meaning of its memory, the inputs
-- and a state. From Gillian, Part I (PLDI 2020), where every command is a rule; logic commands, of Part II (CAV 2021),
-- go on unchanged. Throws and the handlers of calls are this project's own.
use Rattle.std.specs.Prelude.{ℕ, ◌+◌, ℤ, pos, negsuc, List, [], ◌∷◌, Bool, true, false, ◌==◌, if◌then◌else◌, length, slice_get, Option, Some, None, Ok, Err, codes}
use Rattle.gil_values.specs.declared.kinds.Kind.{Kind}
use Rattle.gil_values.specs.declared.places.Place.{Place}
use Rattle.gil_values.specs.Pure.{PureValue, boolean, text, symbol, procedure, kind_of}
use Rattle.gil_values.specs.Equality.{same_kind}
use Rattle.gil_values.specs.Operators.{fault_text, Outcome}
use Rattle.gil_syntax.specs.Pure.{PureCommand, assign, call, act, usym, isym, ifgoto, return, fail, throw, vanish, fold_use, unfold_use, assert_that, loop_invariant, PureNumberedCommand, PureProc, PureParts}
use Rattle.gil_syntax.specs.Programs.{find_proc}
use Rattle.gil_syntax.specs.Evaluation.{Store, bind, Outcomes, evaluate, evaluate_all}
use Rattle.mem_model.specs.Pure.{PureOutcome, done, failed as action_failed, miss}
use Rattle.mem_model.specs.Actions.{Actions, ActionResult}
use Rattle.gil_machine.specs.State.{Frame, State, returned, threw, failed, vanished, no_input, bad_input, Step, goes_on, ends, end_at}

abbrev pub command_of : Option PureProc → ℕ → Option PureNumberedCommand
command_of (Some q) i = slice_get q.body i
command_of None i = None

-- the command at which a frame stands
abbrev pub command_at : PureParts → Frame → Option PureNumberedCommand
command_at p frame = command_of (find_proc p.procs frame.procedure) frame.next

-- the parameters with their arguments
abbrev pub bind_all : List (List ℕ) → List PureValue → Store
bind_all (x ∷ xs) (v ∷ vs) = bind x v (bind_all xs vs)
bind_all _ _ = []

-- the frame of a call that begins
abbrev pub first_frame : List ℕ → List (List ℕ) → List PureValue → Frame
first_frame f params args = record { procedure = f; next = 0; store = bind_all params args; waits = None; handler = None }

-- the current frame goes to the next command, or to that with an index
abbrev pub to_next : State → Step
to_next s = goes_on (record s { current = record s.current { next = s.current.next + 1 } })

-- a label below 0 is no command: the run stays where it is, and is cut in the end
abbrev pub to_label : ℤ → State → Step
to_label (pos i) s = goes_on (record s { current = record s.current { next = i } })
to_label (negsuc i) s = goes_on s

-- the variable has the value, and the run goes to the next command
abbrev pub assigned : List ℕ → PureValue → State → Step
assigned x v s = to_next (record s { current = record s.current { store = bind x v s.current.store } })

abbrev pub fails_with : PureValue → Place → State → Step
fails_with v here s = ends (end_at s (failed v here))

-- what goes on with the value of an expression; a fault fails with its text
abbrev pub with_value : Outcome → Place → State → (PureValue → Step) → Step
with_value (Ok v) here s go_on = go_on v
with_value (Err f) here s go_on = fails_with (text (fault_text f)) here s

abbrev pub with_values : Outcomes → Place → State → (List PureValue → Step) → Step
with_values (Ok vs) here s go_on = go_on vs
with_values (Err f) here s go_on = fails_with (text (fault_text f)) here s

-- the label of a call's handler; one below 0 is no command, and a call that has it has no handler
abbrev pub handler_label : Option ℤ → Option ℕ
handler_label (Some (pos i)) = Some i
handler_label (Some (negsuc i)) = None
handler_label None = None

-- A call of a procedure of the program, with as many arguments as it has parameters. A call of another value or with another
-- number of arguments fails, which no handler takes.
abbrev pub enter : PureProc → List ℕ → Option ℕ → List PureValue → State → Step
enter q x handler args s = goes_on (record s {
  current = first_frame q.name q.params args;
  callers = record s.current { next = s.current.next + 1; waits = Some x; handler = handler } ∷ s.callers;
})

abbrev pub enter_found : Option PureProc → List ℕ → Option ℕ → List PureValue → Place → State → Step
enter_found None x handler args here s = fails_with (text (codes "proc")) here s
enter_found (Some q) x handler args here s =
    if length args == length q.params then enter q x handler args s else fails_with (text (codes "arity")) here s

abbrev pub enter_value : PureParts → PureValue → List ℕ → Option ℕ → List PureValue → Place → State → Step
enter_value p (procedure f) x handler args here s = enter_found (find_proc p.procs f) x handler args here s
enter_value p _ x handler args here s = fails_with (text (codes "proc")) here s

-- a call ends with a value: the variable that waits gets it, and the entry's return ends the run
abbrev pub resumed : Option (List ℕ) → PureValue → Frame → Frame
resumed (Some x) v frame = record frame { store = bind x v frame.store; waits = None; handler = None }
resumed None v frame = frame

abbrev pub leave : List Frame → PureValue → State → Step
leave [] v s = ends (end_at s (returned v))
leave (caller ∷ callers) v s = goes_on (record s { current = resumed caller.waits v caller; callers = callers })

-- where a throw is taken: the label of the handler, the frame whose call has it, and the frames below that one
pub record Handling : Type 0 where
  pub label : ℕ
  pub frame : Frame
  pub callers : List Frame

-- the first of these frames, the latest first, whose call has a handler
abbrev pub handled_or : Option ℕ → Frame → List Frame → Option Handling → Option Handling
handled_or (Some i) frame callers below = Some (record { label = i; frame = frame; callers = callers })
handled_or None frame callers below = below

abbrev pub handling : List Frame → Option Handling
handling [] = None
handling (caller ∷ callers) = handled_or caller.handler caller callers (handling callers)

-- the variable that waits gets the value thrown, and the frame goes on at the handler
abbrev pub caught : ℕ → PureValue → Frame → Frame
caught i v frame = record (resumed frame.waits v frame) { next = i }

-- A throw drops the frame that throws and each frame whose call has no handler. Where no frame is left, the run ends.
abbrev pub throw_to : Option Handling → PureValue → Place → State → Step
throw_to (Some h) v here s = goes_on (record s { current = caught h.label v h.frame; callers = h.callers })
throw_to None v here s = ends (end_at s (threw v here))

-- what an action made of the heap; a miss fails
abbrev pub after_action : PureOutcome → List ℕ → Place → State → Step
after_action (done v) x here s = assigned x v s
after_action (action_failed v) x here s = fails_with v here s
after_action (miss k) x here s = fails_with (text (codes "missing")) here s

abbrev pub acted : ActionResult → List ℕ → Place → State → Step
acted r x here s = after_action r.outcome x here (record s { heap = r.heap })

-- What an action makes of the heap of a state. Where it takes a new symbol, the counter's is handed to it.
abbrev pub action_result : Bool → Actions → List ℕ → List PureValue → State → ActionResult
action_result true m a args s = m.act a (Some s.counter) args s.heap
action_result false m a args s = m.act a None args s.heap

-- the state in which the symbol that was taken, if any, is counted
abbrev pub counted : Bool → State → State
counted true s = record s { counter = s.counter + 1 }
counted false s = s

-- the action, and then what its result leads to
abbrev pub do_action : Bool → Actions → List ℕ → List ℕ → List PureValue → Place → State → Step
do_action takes m x a args here s = acted (action_result takes m a args s) x here (counted takes s)

abbrev pub new_symbol : List ℕ → State → Step
new_symbol x s = assigned x (symbol s.counter) (record s { counter = s.counter + 1 })

-- the next input, which must be there and have the kind; s is the state in which the draw is counted
abbrev pub draw : Option PureValue → List ℕ → Kind → State → Step
draw None x k s = ends (end_at s (no_input s.draws))
draw (Some v) x k s = if same_kind (kind_of v) k then assigned x v s else ends (end_at s (bad_input s.draws))

-- a guard must be a boolean
abbrev pub branch : PureValue → ℤ → Place → State → Step
branch (boolean true) i here s = to_label i s
branch (boolean false) i here s = to_next s
branch _ i here s = fails_with (text (codes "type")) here s

module _ (p : PureParts) (m : Actions) (inputs : List PureValue) where
  -- the command table
  abbrev pub do_command : PureCommand → Place → State → Step
  do_command (assign x e) here s = with_value (evaluate e s.current.store) here s (λ v. assigned x v s)
  do_command (call x e es handler) here s =
      with_value (evaluate e s.current.store) here s
      (λ f. with_values (evaluate_all es s.current.store) here s (λ args. enter_value p f x (handler_label handler) args here s))
  do_command (act x a es) here s =
      with_values (evaluate_all es s.current.store) here s (λ args. do_action (m.takes_symbol a) m x a args here s)
  do_command (usym x) here s = new_symbol x s
  do_command (isym x k) here s = draw (slice_get inputs s.draws) x k (record s { draws = s.draws + 1 })
  do_command (ifgoto e i) here s = with_value (evaluate e s.current.store) here s (λ v. branch v i here s)
  do_command (return e) here s = with_value (evaluate e s.current.store) here s (λ v. leave s.callers v s)
  do_command (fail e) here s = with_value (evaluate e s.current.store) here s (λ v. fails_with v here s)
  do_command (throw e) here s = with_value (evaluate e s.current.store) here s (λ v. throw_to (handling s.callers) v here s)
  do_command vanish here s = ends (end_at s vanished)
  do_command (fold_use u) here s = to_next s
  do_command (unfold_use u) here s = to_next s
  do_command (assert_that items) here s = to_next s
  do_command (loop_invariant xs ps items) here s = to_next s

  -- Past the end of a body, or in a procedure that the program lacks, there is no command: the run stays where it is,
  -- and is cut in the end. No run of a valid program comes to such a state.
  abbrev pub step_at : Option PureNumberedCommand → State → Step
  step_at (Some c) s = do_command c.command (record { proc = s.current.procedure; at = c.at }) s
  step_at None s = goes_on s

  abbrev pub step : State → Step
  step s = step_at (command_at p s.current) s
