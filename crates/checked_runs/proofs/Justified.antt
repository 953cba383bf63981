-- Each invariant that a frame passed was passed in a run: there it left what is kept. It holds of each state of a checked run.
use Rattle.std.proofs.Common.{◌≡◌, inl, inr, ℕ, zero, suc, ◌+◌, ◌-◌, ◌<◌, ◌≤◌, List, [], ◌∷◌, ◌++◌, length, drop, Bool, true, false, cond, All, Option, Some, None, Ok, Err, refl, sym, ap, subst, ◌∙◌, arith, length-append}
use Rattle.std.specs.Prelude.{nat_lt}
use Rattle.std.proofs.lemmas.Bool.Decides.{Decides-ltb}
use Rattle.std.proofs.lemmas.List.Elements.{All-nil, All-cons, All-head, All-tail, All-weaker}
use Rattle.gil_values.specs.declared.places.Place.{Place}
use Rattle.gil_values.specs.Pure.{PureValue}
use Rattle.gil_syntax.specs.declared.assertions.Param.{Param}
use Rattle.gil_syntax.specs.Pure.{PureItem, PureCommand, assign, call, act, usym, isym, ifgoto, return, fail, throw, vanish, fold_use, unfold_use, assert_that, loop_invariant, PureNumberedCommand, PureSpec, PureParts, PurePredDef}
use Rattle.gil_syntax.specs.Evaluation.{Store, Outcomes, evaluate_all}
use Rattle.gil_syntax.specs.Programs.{find_spec, find_pred}
use Rattle.mem_model.specs.declared.cores.Core.{Core}
use Rattle.mem_model.specs.declared.keys.Key.{Key}
use Rattle.mem_model.specs.declared.keys.MemoryName.{MemoryName}
use Rattle.mem_model.specs.Actions.{Actions}
use Rattle.mem_model.specs.CoreNames.{core_of}
use Rattle.gil_machine.specs.Choices.{miss_at}
use Rattle.gil_machine.specs.State.{Frame, State, Ending, returned, threw, failed, vanished, no_input, bad_input, cut, Step, goes_on, ends}
use Rattle.gil_machine.specs.Step.{command_at, handling, throw_to, leave, to_next, assigned, do_command}
use Rattle.assert_logic.specs.LogicStates.{Fact, LogicState}
use Rattle.assert_logic.specs.Matching.{Match, Matching, matched, stops, CaseMatch, FoundFact, match_assertion, match_fold}
use Rattle.checked_runs.specs.Specifications.{entry_store, fit_params}
use Rattle.checked_runs.specs.Checked.{Passed, Checked, goes_on_to, is_over, has_fault, Fault, Entry, logic_state, with_logic, kept_for, moved, over_or, unlisted_in, passed_at, current_passed, with_passed, fails_or_misses, ended, stepped, Comes, Called, CalledIfFit, Entered, Calls, folded, fold_by, UnfoldsFound, UnfoldsBy, asserted, invariant_match, at_invariant, Visits, LeadsBy, LeadsAt, Leads, IsStart, IsReachedIn}
use Rattle.checked_runs.proofs.Forms.{IsCalm, Waits, MovesFrames, Form, leave-form, throw-form, command_form, drawn_form, next_form}

nat_lt_false : (a b : ℕ) → b ≤ a → nat_lt a b ≡ false
nat_lt_false a b le = by (nat_lt a b) refl
  where
    by : (r : Bool) → nat_lt a b ≡ r → r ≡ false
    by true is = absurd (let lt : a < b = (Decides-ltb a b).0 is in omega (arith, lt, le))
    by false is = refl

nat_lt_true : (a b : ℕ) → a < b → nat_lt a b ≡ true
nat_lt_true a b lt = (Decides-ltb a b).1 lt

pub same_next : (c d : Checked) → goes_on_to c ≡ goes_on_to d → c ≡ d
same_next c d is = cc

module _ (p : PureParts) (memory : MemoryName) (m : Actions) (entry : Entry) where
  -- a state at the invariant was reached, which hadn't passed it and left this
  pub record IsJustified (counter : ℕ) (proc : List ℕ) (callers : List Frame) (q : Passed) : Type 0 where
    pub steps : ℕ
    pub before : Checked
    pub reached : IsReachedIn p memory m entry steps before
    pub same_callers : before.machine.callers ≡ callers
    pub same_procedure : before.machine.current.procedure ≡ proc
    pub is_calm : IsCalm before.machine.current
    pub stands : before.machine.current.next ≡ q.at
    pub not_higher : before.machine.counter ≤ counter
    pub not_passed : passed_at before.machine.current.next (current_passed before.passed) ≡ None
    pub xs : List (List ℕ)
    pub ps : List Param
    pub items : List PureItem
    pub numbered : PureNumberedCommand
    pub at : command_at p before.machine.current ≡ Some numbered
    pub command : numbered.command ≡ loop_invariant xs ps items
    pub found : Match
    pub matches : invariant_match p memory m entry xs ps items before ≡ Some found
    pub remainder : found.state ≡ q.remainder
    pub unlisted : unlisted_in xs before.machine.current.store ≡ q.unlisted

  abbrev pub AreJustified : ℕ → List Frame → List (List Passed) → Type 0
  AreJustified counter [] [] = Unit {0}
  AreJustified counter [] (qs ∷ qss) = ⊥
  AreJustified counter (f ∷ fs) [] = ⊥
  AreJustified counter (f ∷ fs) (qs ∷ qss) = All (IsJustified counter f.procedure fs) qs × AreJustified counter fs qss

  pub record Justified (c : Checked) : Type 0 where
    pub calm : IsCalm c.machine.current
    pub wait : All Waits c.machine.callers
    pub all : AreJustified c.machine.counter (c.machine.current ∷ c.machine.callers) c.passed

  raised : (c d : ℕ) → c ≤ d → (fs : List Frame) (qss : List (List Passed)) → AreJustified c fs qss → AreJustified d fs qss
  raised c d le [] [] j = tt
  raised c d le [] (qs ∷ qss) j = absurd j
  raised c d le (f ∷ fs) [] j = absurd j
  raised c d le (f ∷ fs) (qs ∷ qss) j = (All-weaker (IsJustified c f.procedure fs) (IsJustified d f.procedure fs) each qs j.0, raised c d le fs qss j.1)
    where
      each : (q : Passed) → IsJustified c f.procedure fs q → IsJustified d f.procedure fs q
      each q is = record {
        steps = is.steps;
        before = is.before;
        reached = is.reached;
        same_callers = is.same_callers;
        same_procedure = is.same_procedure;
        is_calm = is.is_calm;
        stands = is.stands;
        not_higher = let lower = is.not_higher in omega (arith, lower, le);
        not_passed = is.not_passed;
        xs = is.xs;
        ps = is.ps;
        items = is.items;
        numbered = is.numbered;
        at = is.at;
        command = is.command;
        found = is.found;
        matches = is.matches;
        remainder = is.remainder;
        unlisted = is.unlisted;
      }

  one_each : (c : ℕ) (fs : List Frame) (qss : List (List Passed)) → AreJustified c fs qss → length qss ≡ length fs
  one_each c [] [] j = refl
  one_each c [] (qs ∷ qss) j = absurd j
  one_each c (f ∷ fs) [] j = absurd j
  one_each c (f ∷ fs) (qs ∷ qss) j = ap suc (one_each c fs qss j.1)

  other_top : (c : ℕ) (f g : Frame) (fs : List Frame) (qss : List (List Passed)) → g.procedure ≡ f.procedure → AreJustified c (f ∷ fs) qss → AreJustified c (g ∷ fs) qss
  other_top c f g fs [] same j = absurd j
  other_top c f g fs (qs ∷ qss) same j = (subst (λ x. All (IsJustified c x fs) qs) (sym same) j.0, j.1)

  dropped : (c : ℕ) (front fs : List Frame) (qss : List (List Passed)) → AreJustified c (front ++ fs) qss → AreJustified c fs (drop (length front) qss)
  dropped c [] fs qss j = j
  dropped c (f ∷ front) fs [] j = absurd j
  dropped c (f ∷ front) fs (qs ∷ qss) j = dropped c front fs qss j.1

  waits_in : (front : List Frame) (f : Frame) (fs : List Frame) → All Waits (front ++ f ∷ fs) → Waits f × All Waits fs
  waits_in [] f fs all = (All-head Waits f fs all, All-tail Waits f fs all)
  waits_in (g ∷ front) f fs all = waits_in front f fs (All-tail Waits g (front ++ f ∷ fs) all)

  kept_same : (fs : List Frame) (qss : List (List Passed)) → length qss ≡ length fs + 1 → kept_for fs qss ≡ qss
  kept_same fs qss as_many =
      (λ i. cond (nat_lt_false (length qss) (length fs + 1) (omega (arith, as_many)) i) ([] ∷ qss) (drop (length qss - (length fs + 1)) qss))
      ∙ ap (λ n. drop n qss) none
    where
      none : length qss - (length fs + 1) ≡ 0
      none = omega (arith, as_many)

  kept_more : (fs : List Frame) (qss : List (List Passed)) → length qss < length fs + 1 → kept_for fs qss ≡ [] ∷ qss
  kept_more fs qss fewer = ap (λ b. cond b ([] ∷ qss) (drop (length qss - (length fs + 1)) qss)) (nat_lt_true (length qss) (length fs + 1) fewer)

  kept_fewer : (fs : List Frame) (qss : List (List Passed)) (n : ℕ) → length qss ≡ n + (length fs + 1) → kept_for fs qss ≡ drop n qss
  kept_fewer fs qss n as_many =
      (λ i. cond (nat_lt_false (length qss) (length fs + 1) (omega (arith, as_many)) i) ([] ∷ qss) (drop (length qss - (length fs + 1)) qss))
      ∙ ap (λ k. drop k qss) rest
    where
      rest : length qss - (length fs + 1) ≡ n
      rest = omega (arith, as_many)

  -- ---- frames that move

  moves_justified : (c : Checked) (t : State) → Justified c → MovesFrames c.machine t → c.machine.counter ≤ t.counter → Justified (moved c t)
  moves_justified c t j (inl stays) le =
      let same : t.current.procedure ≡ c.machine.current.procedure = ap (λ f. f.procedure) stays.same_frame in
      let as_many = one_each c.machine.counter (c.machine.current ∷ c.machine.callers) c.passed j.all in
      let kept : kept_for t.callers c.passed ≡ c.passed =
      ap (λ fs. kept_for fs c.passed) stays.same_callers ∙ kept_same c.machine.callers c.passed (omega (arith, as_many)) in
      record {
        calm = record { no_wait = ap (λ f. f.waits) stays.same_frame ∙ j.calm.no_wait; no_handler = ap (λ f. f.handler) stays.same_frame ∙ j.calm.no_handler };
        wait = subst (All Waits) (sym stays.same_callers) j.wait;
        all = raised c.machine.counter t.counter le (t.current ∷ t.callers) (kept_for t.callers c.passed)
            (subst (λ fs. AreJustified c.machine.counter (t.current ∷ fs) (kept_for t.callers c.passed)) (sym stays.same_callers)
            (subst (AreJustified c.machine.counter (t.current ∷ c.machine.callers)) (sym kept) (other_top c.machine.counter c.machine.current t.current c.machine.callers c.passed same j.all)));
      }
  moves_justified c t j (inr (inl enters)) le =
      let caller : Frame = record c.machine.current { next = c.machine.current.next + 1; waits = Some enters.var; handler = enters.label } in
      let as_many = one_each c.machine.counter (c.machine.current ∷ c.machine.callers) c.passed j.all in
      let kept : kept_for t.callers c.passed ≡ [] ∷ c.passed =
      ap (λ fs. kept_for fs c.passed) enters.more_callers ∙ kept_more (caller ∷ c.machine.callers) c.passed (omega (arith, as_many)) in
      record {
        calm = enters.is_calm;
        wait = subst (All Waits) (sym enters.more_callers) (All-cons Waits caller c.machine.callers (enters.var, refl) j.wait);
        all = raised c.machine.counter t.counter le (t.current ∷ t.callers) (kept_for t.callers c.passed)
            (subst (λ fs. AreJustified c.machine.counter (t.current ∷ fs) (kept_for t.callers c.passed)) (sym enters.more_callers)
            (subst (AreJustified c.machine.counter (t.current ∷ caller ∷ c.machine.callers)) (sym kept)
            (All-nil (IsJustified c.machine.counter t.current.procedure (caller ∷ c.machine.callers)), other_top c.machine.counter c.machine.current caller c.machine.callers c.passed refl j.all)));
      }
  moves_justified c t j (inr (inr leaves)) le =
      let as_many = one_each c.machine.counter (c.machine.current ∷ c.machine.callers) c.passed j.all in
      let size : length c.machine.callers ≡ length leaves.front + length (leaves.frame ∷ t.callers) = ap length leaves.fewer_callers ∙ length-append leaves.front (leaves.frame ∷ t.callers) in
      let kept : kept_for t.callers c.passed ≡ drop (suc (length leaves.front)) c.passed = kept_fewer t.callers c.passed (suc (length leaves.front)) (omega (arith, as_many, size)) in
      let (waits, later) = waits_in leaves.front leaves.frame t.callers (subst (All Waits) leaves.fewer_callers j.wait) in
      let below = dropped c.machine.counter (c.machine.current ∷ leaves.front) (leaves.frame ∷ t.callers) c.passed (subst (λ fs. AreJustified c.machine.counter (c.machine.current ∷ fs) c.passed) leaves.fewer_callers j.all) in
      record {
        calm = leaves.becomes_calm waits;
        wait = later;
        all = raised c.machine.counter t.counter le (t.current ∷ t.callers) (kept_for t.callers c.passed)
            (subst (AreJustified c.machine.counter (t.current ∷ t.callers)) (sym kept) (other_top c.machine.counter leaves.frame t.current t.callers (drop (suc (length leaves.front)) c.passed) leaves.same_procedure below));
      }

  -- ---- rows

  fault_goes_on : {P : Type 0} (f : Fault) (d : Checked) → has_fault f ≡ goes_on_to d → P
  fault_goes_on f d is = absurd (cc)

  over_goes_on : {P : Type 0} (b : Bool) (f : Fault) (d : Checked) → over_or b f ≡ goes_on_to d → P
  over_goes_on true f d is = absurd (cc)
  over_goes_on false f d is = absurd (cc)

  over : {P : Type 0} (d : Checked) → is_over ≡ goes_on_to d → P
  over d is = absurd (cc)

  missed_goes_on : {P : Type 0} (o : Option Key) (v : PureValue) (d : Checked) → fails_or_misses o v ≡ goes_on_to d → P
  missed_goes_on (Some k) v d is = absurd (cc)
  missed_goes_on None v d is = absurd (cc)

  end_goes_on : {P : Type 0} (c : Checked) (e : Ending) (d : Checked) → ended p memory m entry c e ≡ goes_on_to d → P
  end_goes_on c (returned v) d is = over_goes_on _ _ d is
  end_goes_on c (threw v place) d is = over_goes_on _ _ d is
  end_goes_on c (failed v place) d is = missed_goes_on (miss_at p m c.machine) v d is
  end_goes_on c vanished d is = over d is
  end_goes_on c (no_input k) d is = over d is
  end_goes_on c (bad_input k) d is = over d is
  end_goes_on c cut d is = over d is

  stepped_justified : (c : Checked) (st : Step) (d : Checked) → Form c.machine st → Justified c → goes_on_to d ≡ stepped p memory m entry c st → Justified d
  stepped_justified c (goes_on t) d form j is = subst Justified (sym (same_next d (moved c t) is)) (moves_justified c t j form.0 form.1)
  stepped_justified c (ends e) d form j is = end_goes_on c e.ending d (sym is)

  with_logic_justified : (s : LogicState) (counter : ℕ) (c : Checked) → c.machine.counter ≤ counter → Justified c → Justified (with_logic s counter c)
  with_logic_justified s counter c le j = record { calm = j.calm; wait = j.wait; all = raised c.machine.counter counter le (c.machine.current ∷ c.machine.callers) c.passed j.all }

  comes_justified : (spec : PureSpec) (args : List PureValue) (known : Store) (left : LogicState) (posts : List (List PureItem)) (after : PureValue → State → Step) (c d : Checked)
      → ((v : PureValue) (s : State) → s.callers ≡ c.machine.callers → Form s (after v s)) → Justified c → Comes p memory m entry spec args known left posts after c (goes_on_to d) → Justified d
  comes_justified spec args known left posts after c d form j comes =
      stepped_justified (with_logic comes.state comes.counter c) (after comes.result (with_logic comes.state comes.counter c).machine) d (form comes.result (with_logic comes.state comes.counter c).machine refl)
      (with_logic_justified comes.state comes.counter c comes.not_lower j) comes.leads

  called_justified : (spec : PureSpec) (args : List PureValue) (here : Place) (o : Matching) (c d : Checked) → Justified c → Called p memory m entry spec args here o c (goes_on_to d) → Justified d
  called_justified spec args here (stops n) c d j is = fault_goes_on _ d (sym is)
  called_justified spec args here (matched found) c d j (inl comes) = comes_justified spec args found.store found.state spec.posts (leave c.machine.callers) c d (λ v s are. leave-form c.machine.callers v s are) j comes
  called_justified spec args here (matched found) c d j (inr comes) =
      comes_justified spec args found.store found.state spec.errors (λ v. throw_to (handling c.machine.callers) v here) c d (λ v s are. throw-form c.machine.callers v here s are) j comes

  fit_justified : (b : Bool) (spec : PureSpec) (args : List PureValue) (here : Place) (c d : Checked) → Justified c → CalledIfFit p memory m entry b spec args here c (goes_on_to d) → Justified d
  fit_justified false spec args here c d j is = fault_goes_on _ d (sym is)
  fit_justified true spec args here c d j is = called_justified spec args here (match_assertion p.preds (spec.params ++ spec.logicals) spec.pre (entry_store spec args []) (logic_state c)) c d j is

  entered_justified : (o : Option PureSpec) (args : Outcomes) (here : Place) (c : Checked) (s : State) (d : Checked) → Form c.machine (goes_on s) → Justified c → Entered p memory m entry o args here c s (goes_on_to d) → Justified d
  entered_justified (Some spec) (Ok args) here c s d form j is = fit_justified (fit_params spec.params args) spec args here (moved c s) d (moves_justified c s j form.0 form.1) is
  entered_justified (Some spec) (Err f) here c s d form j is = stepped_justified c (goes_on s) d form j is
  entered_justified None args here c s d form j is = stepped_justified c (goes_on s) d form j is

  calls_justified : (args : Outcomes) (here : Place) (c : Checked) (st : Step) (d : Checked) → Form c.machine st → Justified c → Calls p memory m entry args here c st (goes_on_to d) → Justified d
  calls_justified args here c (goes_on s) d form j is = entered_justified (find_spec p.specs s.current.procedure) args here c s d form j is
  calls_justified args here c (ends e) d form j is = stepped_justified c (ends e) d form j is

  folded_justified : (o : Option CaseMatch) (f : Fact) (c d : Checked) → Justified c → goes_on_to d ≡ folded p memory m entry o f c → Justified d
  folded_justified None f c d j is = fault_goes_on _ d (sym is)
  folded_justified (Some found) f c d j is =
      let next : Checked = with_logic (record found.state { facts = found.state.facts ++ f ∷ [] }) c.machine.counter c in
      stepped_justified next (to_next next.machine) d (next_form next.machine) (with_logic_justified (record found.state { facts = found.state.facts ++ f ∷ [] }) c.machine.counter c (omega arith) j) is

  fold_justified : (core : Option Core) (x : List ℕ) (ins outs : Outcomes) (c d : Checked) → Justified c → goes_on_to d ≡ fold_by p memory m entry core x ins outs c → Justified d
  fold_justified None x (Ok ins) (Ok outs) c d j is = folded_justified (match_fold p.preds x ins outs (logic_state c)) (record { pred = x; ins = ins; outs = outs }) c d j is
  fold_justified None x (Ok ins) (Err f) c d j is = fault_goes_on _ d (sym is)
  fold_justified None x (Err f) outs c d j is = fault_goes_on _ d (sym is)
  fold_justified (Some core) x ins outs c d j is = fault_goes_on _ d (sym is)

  found_justified : (o : Option FoundFact) (q : Option PurePredDef) (c d : Checked) → Justified c → UnfoldsFound p memory m entry o q c (goes_on_to d) → Justified d
  found_justified (Some found) (Some q) c d j u =
      let next_justified : Justified u.next = subst Justified (sym u.adds.is_next) (with_logic_justified u.adds.state u.counter c u.adds.not_lower j) in
      stepped_justified u.next (to_next u.next.machine) d (next_form u.next.machine) next_justified u.leads
  found_justified (Some found) None c d j is = fault_goes_on _ d (sym is)
  found_justified None q c d j is = fault_goes_on _ d (sym is)

  unfold_justified : (core : Option Core) (x : List ℕ) (ins outs : Outcomes) (c d : Checked) → Justified c → UnfoldsBy p memory m entry core x ins outs c (goes_on_to d) → Justified d
  unfold_justified None x (Ok ins) (Ok outs) c d j is = found_justified _ (find_pred p.preds x) c d j is
  unfold_justified None x (Ok ins) (Err f) c d j is = fault_goes_on _ d (sym is)
  unfold_justified None x (Err f) outs c d j is = fault_goes_on _ d (sym is)
  unfold_justified (Some core) x ins outs c d j is = fault_goes_on _ d (sym is)

  asserted_justified : (o : Matching) (c d : Checked) → Justified c → goes_on_to d ≡ asserted p memory m entry o c → Justified d
  asserted_justified (matched found) c d j is = stepped_justified c (to_next c.machine) d (next_form c.machine) j is
  asserted_justified (stops n) c d j is = fault_goes_on _ d (sym is)

  passed_more : (counter : ℕ) (f : Frame) (fs : List Frame) (q : Passed) (qss : List (List Passed)) → IsJustified counter f.procedure fs q → AreJustified counter (f ∷ fs) qss → AreJustified counter (f ∷ fs) (with_passed q qss)
  passed_more counter f fs q [] is j = absurd j
  passed_more counter f fs q (qs ∷ qss) is j = (All-cons (IsJustified counter f.procedure fs) q qs is j.0, j.1)

  visits_justified : (n : ℕ) (xs : List (List ℕ)) (ps : List Param) (items : List PureItem) (c d : Checked) (numbered : PureNumberedCommand) → IsReachedIn p memory m entry n c → command_at p c.machine.current ≡ Some numbered → numbered.command ≡ loop_invariant xs ps items → Justified c
      → (o : Option Passed) → passed_at c.machine.current.next (current_passed c.passed) ≡ o → (q : Option Match) → invariant_match p memory m entry xs ps items c ≡ q → Visits p memory m entry o q xs ps items c (goes_on_to d) → Justified d
  visits_justified n xs ps items c d numbered reached at command j o passed None matches is = fault_goes_on _ d (sym (none o is))
    where
      none : (o : Option Passed) → Visits p memory m entry o None xs ps items c (goes_on_to d) → goes_on_to d ≡ has_fault Fault.invariant
      none (Some q) is = is
      none None is = is
  visits_justified n xs ps items c d numbered reached at command j None passed (Some found) matches first =
      let q : Passed = record { at = c.machine.current.next; remainder = found.state; unlisted = unlisted_in xs c.machine.current.store } in
      let is : IsJustified c.machine.counter c.machine.current.procedure c.machine.callers q = record {
        steps = n;
        before = c;
        reached = reached;
        same_callers = refl;
        same_procedure = refl;
        is_calm = j.calm;
        stands = refl;
        not_higher = omega arith;
        not_passed = passed;
        xs = xs;
        ps = ps;
        items = items;
        numbered = numbered;
        at = at;
        command = command;
        found = found;
        matches = matches;
        remainder = refl;
        unlisted = refl;
      } in
      let kept : Justified (at_invariant p memory m entry xs found.state first.store c) = record {
        calm = record { no_wait = j.calm.no_wait; no_handler = j.calm.no_handler };
        wait = j.wait;
        all = other_top c.machine.counter c.machine.current (record c.machine.current { store = first.store }) c.machine.callers (with_passed q c.passed) refl (passed_more c.machine.counter c.machine.current c.machine.callers q c.passed is j.all);
      } in
      let next_justified : Justified first.next =
      subst Justified (sym first.adds.is_next) (with_logic_justified first.adds.state first.counter (at_invariant p memory m entry xs found.state first.store c) first.adds.not_lower kept) in
      stepped_justified first.next (to_next first.next.machine) d (next_form first.next.machine) next_justified first.leads
  visits_justified n xs ps items c d numbered reached at command j (Some q) passed (Some found) matches (inl second) = over d (sym second.1)
  visits_justified n xs ps items c d numbered reached at command j (Some q) passed (Some found) matches (inr second) = fault_goes_on _ d (sym second.1)

  command_justified : (n : ℕ) (c d : Checked) (numbered : PureNumberedCommand) → IsReachedIn p memory m entry n c → command_at p c.machine.current ≡ Some numbered → Justified c → (here : Place) (command : PureCommand) → numbered.command ≡ command → LeadsBy p memory m entry command here c (goes_on_to d) → Justified d
  command_justified n c d numbered reached at j here (isym x k) is (v, (same, leads)) = stepped_justified c (assigned x v (record c.machine { draws = c.machine.draws + 1 })) d (drawn_form x v c.machine (c.machine.draws + 1)) j leads
  command_justified n c d numbered reached at j here (call x e es handler) is leads = calls_justified (evaluate_all es c.machine.current.store) here c (do_command p m [] (call x e es handler) here c.machine) d (command_form p m [] (call x e es handler) here c.machine tt) j leads
  command_justified n c d numbered reached at j here (fold_use u) is leads = fold_justified (core_of u.pred) u.pred _ _ c d j leads
  command_justified n c d numbered reached at j here (unfold_use u) is leads = unfold_justified (core_of u.pred) u.pred _ _ c d j leads
  command_justified n c d numbered reached at j here (assert_that items) is leads = asserted_justified _ c d j leads
  command_justified n c d numbered reached at j here (loop_invariant xs ps items) is leads = visits_justified n xs ps items c d numbered reached at is j _ refl _ refl leads
  command_justified n c d numbered reached at j here (assign x e) is leads = stepped_justified c (do_command p m [] (assign x e) here c.machine) d (command_form p m [] (assign x e) here c.machine tt) j leads
  command_justified n c d numbered reached at j here (act x a es) is leads = stepped_justified c (do_command p m [] (act x a es) here c.machine) d (command_form p m [] (act x a es) here c.machine tt) j leads
  command_justified n c d numbered reached at j here (usym x) is leads = stepped_justified c (do_command p m [] (usym x) here c.machine) d (command_form p m [] (usym x) here c.machine tt) j leads
  command_justified n c d numbered reached at j here (ifgoto e i) is leads = stepped_justified c (do_command p m [] (ifgoto e i) here c.machine) d (command_form p m [] (ifgoto e i) here c.machine tt) j leads
  command_justified n c d numbered reached at j here (return e) is leads = stepped_justified c (do_command p m [] (return e) here c.machine) d (command_form p m [] (return e) here c.machine tt) j leads
  command_justified n c d numbered reached at j here (fail e) is leads = stepped_justified c (do_command p m [] (fail e) here c.machine) d (command_form p m [] (fail e) here c.machine tt) j leads
  command_justified n c d numbered reached at j here (throw e) is leads = stepped_justified c (do_command p m [] (throw e) here c.machine) d (command_form p m [] (throw e) here c.machine tt) j leads
  command_justified n c d numbered reached at j here vanish is leads = stepped_justified c (do_command p m [] vanish here c.machine) d (command_form p m [] vanish here c.machine tt) j leads

  row_justified : (n : ℕ) (c d : Checked) → IsReachedIn p memory m entry n c → Justified c → Leads p memory m entry c (goes_on_to d) → Justified d
  row_justified n c d reached j leads = by (command_at p c.machine.current) refl leads
    where
      by : (o : Option PureNumberedCommand) → command_at p c.machine.current ≡ o → LeadsAt p memory m entry o c (goes_on_to d) → Justified d
      by None at is = stepped_justified c (goes_on c.machine) d (inl (record { same_callers = refl; same_frame = refl }), omega arith) j is
      by (Some numbered) at is = command_justified n c d numbered reached at j (record { proc = c.machine.current.procedure; at = numbered.at }) numbered.command refl is

  start_justified : (c : Checked) → IsStart p memory m entry c → Justified c
  start_justified c s = subst Justified (sym s.is_start) (record {
    calm = record { no_wait = refl; no_handler = refl };
    wait = All-nil Waits;
    all = (All-nil (IsJustified s.counter entry.spec.name []), tt);
  })

  pub reached_justified : (n : ℕ) (c : Checked) → IsReachedIn p memory m entry n c → Justified c
  reached_justified zero c start = start_justified c start
  reached_justified (suc n) c (before, (reached, leads)) = row_justified n before c reached (reached_justified n before reached) leads
