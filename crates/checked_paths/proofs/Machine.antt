-- A step of the machine with some inputs is one of a checked run, and inputs that give new variables their values.
use Rattle.std.proofs.Common.{◌≡◌, ℕ, zero, suc, ◌+◌, ℤ, pos, negsuc, List, [], ◌∷◌, Bool, true, false, cond, Option, Some, None, Ok, Err, slice_get, IsTrue, refl, sym, ap, subst, ◌∙◌, true≢false, arith}
use Rattle.std.specs.Prelude.{⊤}
use Rattle.gil_values.specs.declared.kinds.Kind.{Kind}
use Rattle.gil_values.specs.declared.places.Place.{Place}
use Rattle.gil_values.specs.Equality.{same_kind}
use Rattle.gil_values.specs.Operators.{Outcome}
use Rattle.gil_values.specs.Pure.{PureValue, integer, boolean, text, symbol, kind, procedure, list, kind_of}
use Rattle.gil_syntax.specs.Pure.{PureCommand, assign, call, act, usym, isym, ifgoto, return, fail, throw, vanish, fold_use, unfold_use, assert_that, loop_invariant, PureNumberedCommand, PureSpec, PureParts}
use Rattle.gil_syntax.specs.Programs.{find_spec}
use Rattle.gil_syntax.specs.Evaluation.{Outcomes, evaluate, evaluate_all}
use Rattle.gil_machine.specs.Choices.{choice_at, choice_of}
use Rattle.gil_machine.specs.State.{State, Ending, returned, threw, failed, vanished, no_input, bad_input, cut, End, Step, goes_on, ends, end_at}
use Rattle.gil_machine.specs.Step.{command_at, to_label, assigned, with_value, with_values, branch, after_action, action_result, draw, do_command, step}
use Rattle.mem_model.specs.declared.keys.MemoryName.{MemoryName}
use Rattle.mem_model.specs.Actions.{Actions}
use Rattle.mem_model.specs.Pure.{PureOutcome, done, failed as action_failed, miss}
use Rattle.checked_runs.specs.Checked.{Checked, Entry, stepped, Entered, Calls, is_call, used_in}
use Rattle.pure_terms.specs.declared.variables.Sort.{Sort}
use Rattle.sym_model.proofs.ListLaws.{not_none}
use Rattle.sym_paths.specs.Steps.{IsNext, AreNext, counter_after, draws_after, HasInput}
use Rattle.sym_paths.proofs.Silent.{step-is, choice-is}
use Rattle.checked_paths.specs.Choosing.{choice_of_entered, choice_of_call, LeadsAlongBy, LeadsAlongAt, LeadsAlong}
use Rattle.checked_paths.specs.Exactness.{IsNewValue, AreNewValues}
use Rattle.checked_paths.specs.Following.{is_of_machine, stays_in_frame}
use Rattle.checked_paths.proofs.Inputs.{drawn_so}

-- ---- inputs for new variables

abbrev drawn_and : Sort → PureValue → List PureValue → List PureValue
drawn_and Sort.Fresh w later = later
drawn_and sort w later = w ∷ later

-- the values of those that are draws
abbrev pub drawn_values : List Sort → List PureValue → List PureValue
drawn_values [] ws = []
drawn_values (sort ∷ sorts) [] = []
drawn_values (sort ∷ sorts) (w ∷ ws) = drawn_and sort w (drawn_values sorts ws)

-- from the d-th on the inputs are these
abbrev pub GoOnFrom : ℕ → List PureValue → List PureValue → Type 0
GoOnFrom d inputs ws = (i : ℕ) → slice_get inputs (d + i) ≡ slice_get ws i

first_on : (d : ℕ) (inputs : List PureValue) (w : PureValue) (ws : List PureValue) → GoOnFrom d inputs (w ∷ ws) → slice_get inputs d ≡ Some w
first_on d inputs w ws on = let same : d ≡ d + 0 = omega arith in ap (slice_get inputs) same ∙ on 0

later_on : (d : ℕ) (inputs : List PureValue) (w : PureValue) (ws : List PureValue) → GoOnFrom d inputs (w ∷ ws) → GoOnFrom (suc d) inputs ws
later_on d inputs w ws on i = let same : suc d + i ≡ d + suc i = omega arith in ap (slice_get inputs) same ∙ on (suc i)

next_value : (sort : Sort) (n d : ℕ) (inputs : List PureValue) (w : PureValue) (ws : List PureValue) → GoOnFrom d inputs (drawn_and sort w ws) → IsNewValue n sort w
    → IsNext inputs n d sort w × GoOnFrom (draws_after sort d) inputs ws
next_value Sort.Fresh n d inputs w ws on is = (is, on)
next_value sort n d inputs w ws on is = (first_on d inputs w ws on, later_on d inputs w ws on)

pub next_values : (sorts : List Sort) (ws : List PureValue) (n d : ℕ) (inputs : List PureValue) → AreNewValues n sorts ws → GoOnFrom d inputs (drawn_values sorts ws)
    → AreNext inputs n d sorts ws
next_values [] [] n d inputs are on = tt
next_values (sort ∷ sorts) (w ∷ ws) n d inputs are on =
    let first = next_value sort n d inputs w (drawn_values sorts ws) on are.0 in
    (first.0, next_values sorts ws (counter_after sort n) (draws_after sort d) inputs are.1 first.1)
next_values [] (w ∷ ws) n d inputs are on = absurd are
next_values (sort ∷ sorts) [] n d inputs are on = absurd are

-- so many other inputs, and then these
abbrev pub others_and : ℕ → List PureValue → List PureValue
others_and zero ws = ws
others_and (suc d) ws = boolean true ∷ others_and d ws

pub others_go_on : (d : ℕ) (ws : List PureValue) → GoOnFrom d (others_and d ws) ws
others_go_on zero ws i = let same : zero + i ≡ i = omega arith in ap (slice_get ws) same
others_go_on (suc d) ws i = let same : suc d + i ≡ suc (d + i) = omega arith in ap (slice_get (boolean true ∷ others_and d ws)) same ∙ others_go_on d ws i

-- ---- a step is one of a checked run

drew_if : (b : Bool) (x : List ℕ) (v : PureValue) (s : State) (e : End) → HasInput (cond b (assigned x v s) (ends e)) → ¬ HasInput (ends e) → b ≡ true
drew_if true x v s e has none = refl
drew_if false x v s e has none = absurd (none has)

drew : (o : Option PureValue) (x : List ℕ) (k : Kind) (s : State) → HasInput (draw o x k s) → (v : PureValue) × ((same_kind (kind_of v) k ≡ true) × (draw o x k s ≡ assigned x v s))
drew None x k s has = absurd (has tt)
drew (Some v) x k s has =
    let same : same_kind (kind_of v) k ≡ true = drew_if (same_kind (kind_of v) k) x v s (end_at s (bad_input s.draws)) has (λ fits. fits tt) in
    (v, (same, drawn_so (same_kind (kind_of v) k) (assigned x v s) (end_at s (bad_input s.draws)) same))

module _ (p : PureParts) (memory : MemoryName) (m : Actions) (entry : Entry) where
  along : (k : PureCommand) (here : Place) (c : Checked) (inputs : List PureValue) → IsTrue (is_of_machine k) → HasInput (do_command p m inputs k here c.machine)
      → LeadsAlongBy p memory m entry k here c (choice_at p m c.machine) (stepped p memory m entry c (do_command p m inputs k here c.machine))
  along (isym x k) here c inputs machine has =
      let (v, (same, is)) = drew (slice_get inputs c.machine.draws) x k (record c.machine { draws = c.machine.draws + 1 }) has in
      ((v, (same, ap (stepped p memory m entry c) is)), refl)
  along (assign x e) here c inputs machine has = (refl, refl)
  along (act x a es) here c inputs machine has = (refl, refl)
  along (usym x) here c inputs machine has = (refl, refl)
  along (ifgoto e i) here c inputs machine has = (refl, refl)
  along (return e) here c inputs machine has = (refl, refl)
  along (fail e) here c inputs machine has = (refl, refl)
  along (throw e) here c inputs machine has = (refl, refl)
  along vanish here c inputs machine has = (refl, refl)
  along (call x e es handler) here c inputs machine has = absurd (true≢false (sym machine))
  along (fold_use u) here c inputs machine has = absurd (true≢false (sym machine))
  along (unfold_use u) here c inputs machine has = absurd (true≢false (sym machine))
  along (assert_that items) here c inputs machine has = absurd (true≢false (sym machine))
  along (loop_invariant xs ps items) here c inputs machine has = absurd (true≢false (sym machine))

  pub leads_along : (n : PureNumberedCommand) (c : Checked) (inputs : List PureValue) → command_at p c.machine.current ≡ Some n → IsTrue (is_of_machine n.command)
      → HasInput (step p m inputs c.machine) → LeadsAlong p memory m entry c (choice_at p m c.machine) (stepped p memory m entry c (step p m inputs c.machine))
  leads_along n c inputs at machine has =
      let here : Place = record { proc = c.machine.current.procedure; at = n.at } in
      let does : step p m inputs c.machine ≡ do_command p m inputs n.command here c.machine = step-is p m inputs c.machine n n.command at refl in
      subst (λ r. LeadsAlong p memory m entry c (choice_at p m c.machine) (stepped p memory m entry c r)) (sym does)
      (subst (λ o. LeadsAlongAt p memory m entry o c (choice_at p m c.machine) (stepped p memory m entry c (do_command p m inputs n.command here c.machine))) (sym at)
      (along n.command here c inputs machine (subst HasInput does has)))

  -- ---- a call of a procedure without a specification

  entered_along : (o : Option PureSpec) (args : Outcomes) (here : Place) (c : Checked) (s : State) → o ≡ None
      → (leads : Entered p memory m entry o args here c s (stepped p memory m entry c (goes_on s))) × (choice_of_entered p memory m entry o args here c s (stepped p memory m entry c (goes_on s)) leads ≡ None)
  entered_along None args here c s none = (refl, refl)
  entered_along (Some spec) args here c s none = absurd (not_none (sym none))

  called_along : (args : Outcomes) (here : Place) (c : Checked) (r : Step) → used_in p r ≡ None
      → (leads : Calls p memory m entry args here c r (stepped p memory m entry c r)) × (choice_of_call p memory m entry args here c r (stepped p memory m entry c r) leads ≡ None)
  called_along args here c (ends e) none = (refl, refl)
  called_along args here c (goes_on s) none = entered_along (find_spec p.specs s.current.procedure) args here c s none

  call_along : (k : PureCommand) (here : Place) (c : Checked) (inputs : List PureValue) → is_call k ≡ true → used_in p (do_command p m inputs k here c.machine) ≡ None
      → LeadsAlongBy p memory m entry k here c None (stepped p memory m entry c (do_command p m inputs k here c.machine))
  call_along (call x e es handler) here c inputs is none = called_along (evaluate_all es c.machine.current.store) here c (do_command p m [] (call x e es handler) here c.machine) none
  call_along (assign x e) here c inputs is none = absurd (true≢false (sym is))
  call_along (act x a es) here c inputs is none = absurd (true≢false (sym is))
  call_along (usym x) here c inputs is none = absurd (true≢false (sym is))
  call_along (isym x k) here c inputs is none = absurd (true≢false (sym is))
  call_along (ifgoto e i) here c inputs is none = absurd (true≢false (sym is))
  call_along (return e) here c inputs is none = absurd (true≢false (sym is))
  call_along (fail e) here c inputs is none = absurd (true≢false (sym is))
  call_along (throw e) here c inputs is none = absurd (true≢false (sym is))
  call_along vanish here c inputs is none = absurd (true≢false (sym is))
  call_along (fold_use u) here c inputs is none = absurd (true≢false (sym is))
  call_along (unfold_use u) here c inputs is none = absurd (true≢false (sym is))
  call_along (assert_that items) here c inputs is none = absurd (true≢false (sym is))
  call_along (loop_invariant xs ps items) here c inputs is none = absurd (true≢false (sym is))

  no_choice : (k : PureCommand) (s : State) → is_call k ≡ true → choice_of p m k s ≡ None
  no_choice (call x e es handler) s is = refl
  no_choice (assign x e) s is = refl
  no_choice (act x a es) s is = absurd (true≢false (sym is))
  no_choice (usym x) s is = refl
  no_choice (isym x k) s is = refl
  no_choice (ifgoto e i) s is = absurd (true≢false (sym is))
  no_choice (return e) s is = refl
  no_choice (fail e) s is = refl
  no_choice (throw e) s is = refl
  no_choice vanish s is = refl
  no_choice (fold_use u) s is = refl
  no_choice (unfold_use u) s is = refl
  no_choice (assert_that items) s is = refl
  no_choice (loop_invariant xs ps items) s is = refl

  pub leads_by_call : (n : PureNumberedCommand) (c : Checked) (inputs : List PureValue) → command_at p c.machine.current ≡ Some n → is_call n.command ≡ true
      → used_in p (step p m inputs c.machine) ≡ None → LeadsAlong p memory m entry c (choice_at p m c.machine) (stepped p memory m entry c (step p m inputs c.machine))
  leads_by_call n c inputs at is none =
      let here : Place = record { proc = c.machine.current.procedure; at = n.at } in
      let does : step p m inputs c.machine ≡ do_command p m inputs n.command here c.machine = step-is p m inputs c.machine n n.command at refl in
      let chosen : choice_at p m c.machine ≡ None = choice-is p m inputs c.machine n n.command at refl ∙ no_choice n.command c.machine is in
      subst (λ r. LeadsAlong p memory m entry c (choice_at p m c.machine) (stepped p memory m entry c r)) (sym does)
      (subst (λ o. LeadsAlongAt p memory m entry o c (choice_at p m c.machine) (stepped p memory m entry c (do_command p m inputs n.command here c.machine))) (sym at)
      (subst (λ chosen. LeadsAlongBy p memory m entry n.command here c chosen (stepped p memory m entry c (do_command p m inputs n.command here c.machine))) (sym chosen)
      (call_along n.command here c inputs is (subst (λ r. used_in p r ≡ None) does none))))

-- ---- a command with which no frame ends

-- it ends neither by a return nor by a throw
abbrev pub IsNoLeave : Ending → Type 0
IsNoLeave (returned v) = ⊥
IsNoLeave (threw v place) = ⊥
IsNoLeave (failed v place) = ⊤
IsNoLeave vanished = ⊤
IsNoLeave (no_input k) = ⊤
IsNoLeave (bad_input k) = ⊤
IsNoLeave cut = ⊤

abbrev pub Stays : Step → Type 0
Stays (goes_on s) = ⊤
Stays (ends e) = IsNoLeave e.ending

value_stays : (r : Outcome) (here : Place) (s : State) (go : PureValue → Step) → ((v : PureValue) → Stays (go v)) → Stays (with_value r here s go)
value_stays (Ok v) here s go stays = stays v
value_stays (Err f) here s go stays = tt

values_stay : (r : Outcomes) (here : Place) (s : State) (go : List PureValue → Step) → ((vs : List PureValue) → Stays (go vs)) → Stays (with_values r here s go)
values_stay (Ok vs) here s go stay = stay vs
values_stay (Err f) here s go stay = tt

label_stays : (i : ℤ) (s : State) → Stays (to_label i s)
label_stays (pos i) s = tt
label_stays (negsuc i) s = tt

branch_stays : (v : PureValue) (i : ℤ) (here : Place) (s : State) → Stays (branch v i here s)
branch_stays (boolean true) i here s = label_stays i s
branch_stays (boolean false) i here s = tt
branch_stays (integer n) i here s = tt
branch_stays (text cs) i here s = tt
branch_stays (symbol n) i here s = tt
branch_stays (kind k) i here s = tt
branch_stays (procedure f) i here s = tt
branch_stays (list vs) i here s = tt

action_stays : (o : PureOutcome) (x : List ℕ) (here : Place) (s : State) → Stays (after_action o x here s)
action_stays (done v) x here s = tt
action_stays (action_failed v) x here s = tt
action_stays (miss k) x here s = tt

fit_stays : (b : Bool) (x : List ℕ) (v : PureValue) (s : State) (k : ℕ) → Stays (cond b (assigned x v s) (ends (end_at s (bad_input k))))
fit_stays true x v s k = tt
fit_stays false x v s k = tt

draw_stays : (o : Option PureValue) (x : List ℕ) (k : Kind) (s : State) → Stays (draw o x k s)
draw_stays None x k s = tt
draw_stays (Some v) x k s = fit_stays (same_kind (kind_of v) k) x v s s.draws

module _ (p : PureParts) (m : Actions) (inputs : List PureValue) where
  command_stays : (k : PureCommand) (here : Place) (s : State) → IsTrue (stays_in_frame k) → Stays (do_command p m inputs k here s)
  command_stays (assign x e) here s stays = value_stays (evaluate e s.current.store) here s _ (λ v. tt)
  command_stays (act x a es) here s stays = values_stay (evaluate_all es s.current.store) here s _ (λ args. action_stays (action_result (m.takes_symbol a) m a args s).outcome x here _)
  command_stays (usym x) here s stays = tt
  command_stays (isym x k) here s stays = draw_stays (slice_get inputs s.draws) x k (record s { draws = s.draws + 1 })
  command_stays (ifgoto e i) here s stays = value_stays (evaluate e s.current.store) here s _ (λ v. branch_stays v i here s)
  command_stays (fail e) here s stays = value_stays (evaluate e s.current.store) here s _ (λ v. tt)
  command_stays vanish here s stays = tt
  command_stays (return e) here s stays = absurd (true≢false (sym stays))
  command_stays (throw e) here s stays = absurd (true≢false (sym stays))
  command_stays (call x e es handler) here s stays = absurd (true≢false (sym stays))
  command_stays (fold_use u) here s stays = absurd (true≢false (sym stays))
  command_stays (unfold_use u) here s stays = absurd (true≢false (sym stays))
  command_stays (assert_that items) here s stays = absurd (true≢false (sym stays))
  command_stays (loop_invariant xs ps items) here s stays = absurd (true≢false (sym stays))

  pub step_stays : (n : PureNumberedCommand) (s : State) → command_at p s.current ≡ Some n → IsTrue (stays_in_frame n.command) → Stays (step p m inputs s)
  step_stays n s at stays =
      let here : Place = record { proc = s.current.procedure; at = n.at } in
      subst Stays (sym (step-is p m inputs s n n.command at refl)) (command_stays n.command here s stays)

pub machine_if_stays : (k : PureCommand) → IsTrue (stays_in_frame k) → IsTrue (is_of_machine k)
machine_if_stays (return e) stays = refl
machine_if_stays (throw e) stays = refl
machine_if_stays k stays = stays
