-- What is answered of the next paths of a step covers what the checked state leads to.
use Rattle.std.proofs.Common.{◌≡◌, ◌⊎◌, inl, inr, ℕ, suc, ◌+◌, List, [], ◌∷◌, ◌++◌, length, Bool, true, false, cond, Option, Some, None, IsTrue, refl, sym, ap, subst, ◌∙◌, true≢false, arith}
use Rattle.gil_values.specs.Pure.{PureValue}
use Rattle.gil_syntax.specs.Pure.{PureParts, PureCommand, assign, call, act, usym, isym, ifgoto, return, fail, throw, vanish, fold_use, unfold_use, assert_that, loop_invariant, PureNumberedCommand, PureSpec}
use Rattle.gil_machine.specs.State.{Frame, State, Step, goes_on, ends}
use Rattle.gil_machine.specs.Step.{command_at, do_command, step}
use Rattle.mem_model.specs.declared.keys.MemoryName.{MemoryName}
use Rattle.mem_model.specs.Actions.{Actions}
use Rattle.mem_model.specs.Heaps.{Heap}
use Rattle.checked_runs.specs.Checked.{Checked, Outcome, goes_on_to, Entry, moved, kept_for, ended, stepped, LeadsAt, used_in, used_by, is_call}
use Rattle.pure_terms.specs.Meaning.{Satisfies}
use Rattle.pure_terms.specs.Pure.{PureAtom}
use Rattle.sym_engine.specs.Placed.{AreAtCommands, GoesOnAtCommands}
use Rattle.sym_model.specs.Laws.{IsMeaning}
use Rattle.sym_model.specs.Lists.{Each}
use Rattle.sym_model.specs.Terms.{StateTerms}
use Rattle.sym_model.proofs.ListLaws.{not_none}
use Rattle.sym_paths.specs.Meaning.{AreFrames, frames_of, Stands, StandsForStep, IsOverTable, command_of_path}
use Rattle.sym_paths.specs.Pure.{PureFrame, PureEnd, returned, failed, threw, missed, vanished, cut, unknown, PurePath}
use Rattle.sym_paths.specs.Steps.{Extends, IsUnknown, HasInput, Covers, Grows, AreNextPaths}
use Rattle.sym_paths.proofs.Silent.{stands_at, step-is}
use Rattle.sym_states.specs.Meaning.{AreFacts}
use Rattle.checked_paths.specs.Covering.{CoversOutcome, IsCaused, CoversLeads, NamesUses, FollowsOn, AreNexts}
use Rattle.checked_paths.specs.Following.{GoesOnWith, IsAnswerTo, IsAnswered, EachIsAnswered, IsAtMachineCommand, is_of_machine}
use Rattle.checked_paths.specs.Meaning.{StandsForChecked, IsEntered, ArePassed, ArePassedBy, AreFactsOver, IsEntryOver, IsPassedOver, IsCheckedOver, MayGoOn, kept_by}
use Rattle.checked_paths.specs.Pure.{PureEntry, PureChecking, PureNext, further, over, caused}
use Rattle.checked_paths.proofs.Growing.{entered_more, facts_more, passed_by_more, entry_over_more, facts_over_more, passed_by_over_more}
use Rattle.checked_paths.proofs.Inputs.{step_to}
use Rattle.checked_paths.proofs.Lists.{kept_related, kept_each, one_across, each_across}

each_both : {A : Type 0} (P Q : A → Type 0) (xs : List A) → Each P xs → Each Q xs → Each (λ x. P x × Q x) xs
each_both P Q [] first second = tt
each_both P Q (x ∷ xs) first second = ((first.0, second.0), each_both P Q xs first.1 second.1)

frames_length : (v : List PureValue) (fs : List PureFrame) (gs : List Frame) → AreFrames v fs gs → length fs ≡ length gs
frames_length v [] [] are = refl
frames_length v (f ∷ fs) (g ∷ gs) are = ap suc (frames_length v fs gs are.1)
frames_length v [] (g ∷ gs) are = absurd are
frames_length v (f ∷ fs) [] are = absurd are

cause_covers : {S : Type 0} (stands : S → List PureValue → Heap → Type 0) (e : PureEntry) (entry : Entry) (v : List PureValue) (out : Outcome) (n : PureNext S) → IsCaused n → CoversOutcome stands e entry v out n
cause_covers stands e entry v out (caused cause) is = tt
cause_covers stands e entry v out (further x) is = absurd is
cause_covers stands e entry v out over is = absurd is

no_call : (k : PureCommand) → IsTrue (is_of_machine k) → is_call k ≡ false
no_call (assign x e) is = refl
no_call (act x action es) is = refl
no_call (usym x) is = refl
no_call (isym x k) is = refl
no_call (ifgoto e i) is = refl
no_call (return e) is = refl
no_call (fail e) is = refl
no_call (throw e) is = refl
no_call vanish is = refl
no_call (call x e es handler) is = absurd (true≢false (sym is))
no_call (fold_use u) is = absurd (true≢false (sym is))
no_call (unfold_use u) is = absurd (true≢false (sym is))
no_call (assert_that items) is = absurd (true≢false (sym is))
no_call (loop_invariant xs ps items) is = absurd (true≢false (sym is))

module _ {S : Type 0} (p : PureParts) (memory : MemoryName) (m : Actions) (stands : S → List PureValue → Heap → Type 0) (terms : S → StateTerms) (meaning : IsMeaning memory stands terms)
    (e : PureEntry) (x : PureChecking S) (is_over_table : IsCheckedOver terms e x) where
  module _ (next : PurePath S) (n : PureNext S) (v w : List PureValue) (entry : Entry) (c : Checked) (inputs : List PureValue) (standing : StandsForChecked stands e x v entry c) (ext : Extends inputs c.machine x.path next v w) where
    abbrev Covers-it : Outcome → Type 0
    Covers-it out = CoversOutcome stands e entry v out n

    passed_kept : (y : PureChecking S) (t : State) → GoesOnWith stands terms x.facts x.passed next y → Stands stands next w t → ArePassedBy stands w y.passed (kept_for t.callers c.passed)
    passed_kept y t with_it is =
        let counted : length next.stack ≡ length t.callers + 1 = frames_length w next.stack (frames_of t) is.frames ∙ omega arith in
        let longer = subst (λ u. ArePassedBy stands u x.passed c.passed) (sym ext.values) (passed_by_more x.path.vars v ext.new_values standing.path.proper.one_each memory stands terms meaning x.passed c.passed is_over_table.passed standing.passed) in
        with_it.kept.stand w (kept_for t.callers c.passed) (subst (λ k. ArePassedBy stands w (kept_by (length next.stack) x.passed) (kept_by k c.passed)) counted (kept_related (ArePassed stands w) tt (length next.stack) x.passed c.passed longer))

    pub goes_there : (y : PureChecking S) (t : State) → GoesOnWith stands terms x.facts x.passed next y → Stands stands next w t → StandsForChecked stands e y w entry (moved c t)
    goes_there y t with_it is = record {
      entered = subst (λ u. IsEntered u e entry) (sym ext.values) (entered_more x.path.vars v ext.new_values standing.path.proper.one_each e entry is_over_table.entry standing.entered);
      path = subst (λ q. Stands stands q w t) (sym with_it.same_path) is;
      facts = subst (λ cs. AreFacts w cs c.facts) (sym with_it.same_facts) (subst (λ u. AreFacts u x.facts c.facts) (sym ext.values) (facts_more x.path.vars v ext.new_values standing.path.proper.one_each x.facts c.facts is_over_table.facts standing.facts));
      passed = passed_kept y t with_it is;
    }

    abbrev StandsOrUnknown : Option PureEnd → Step → Type 0
    StandsOrUnknown o r = StandsForStep p m stands next w c.machine o r ⊎ (IsUnknown o × Satisfies next.vars w next.conds)

    by_cause : (r : Step) → IsCaused n → Covers-it (stepped p memory m entry c r)
    by_cause r is = cause_covers stands e entry v (stepped p memory m entry c r) n is

    covers_end : (o : Option PureEnd) (r : Step) → IsAnswerTo stands terms x.facts x.passed next o n → StandsOrUnknown o r → Covers-it (stepped p memory m entry c r)
    covers_end None (goes_on t) (y, (is, with_it)) (inl stood) =
        subst (CoversOutcome stands e entry v (goes_on_to (moved c t))) (sym is) (moved c t, (w, (refl, (ext.new_values, ext.values), goes_there y t with_it stood)))
    covers_end None (ends end) answer (inl stood) = absurd stood
    covers_end None r answer (inr (unknown_one, meets)) = absurd unknown_one
    covers_end (Some vanished) (ends end) answer (inl stood) =
        subst (CoversOutcome stands e entry v (ended p memory m entry c end.ending)) (sym answer) (ap (ended p memory m entry c) stood.ending)
    covers_end (Some vanished) (goes_on t) answer (inl stood) = absurd stood
    covers_end (Some vanished) r answer (inr (unknown_one, meets)) = absurd unknown_one
    covers_end (Some (returned t)) r answer stood = by_cause r answer
    covers_end (Some (failed t place)) r answer stood = by_cause r answer
    covers_end (Some (threw t place)) r answer stood = by_cause r answer
    covers_end (Some (missed k place)) r answer stood = by_cause r answer
    covers_end (Some cut) r answer stood = by_cause r answer
    covers_end (Some (unknown place reason)) r answer stood = by_cause r answer

  pub answer_covers : (next : PurePath S) (n : PureNext S) (v w : List PureValue) (entry : Entry) (c : Checked) (inputs : List PureValue) → IsAnswered stands terms x.facts x.passed next n
      → StandsForChecked stands e x v entry c → Extends inputs c.machine x.path next v w
      → StandsForStep p m stands next w c.machine next.ending (step p m inputs c.machine) ⊎ (IsUnknown next.ending × Satisfies next.vars w next.conds)
      → CoversOutcome stands e entry v (stepped p memory m entry c (step p m inputs c.machine)) n
  answer_covers next n v w entry c inputs answer standing ext stood = covers_end next n v w entry c inputs standing ext next.ending (step p m inputs c.machine) answer stood

  -- ---- the paths that go on

  abbrev IsPlacedNext : PurePath S → Type 0
  IsPlacedNext next = (next.ending ≡ None) → AreAtCommands p next.stack

  over_next : (next : PurePath S) (y : PureChecking S) → Grows terms x.path next → GoesOnWith stands terms x.facts x.passed next y → IsCheckedOver terms e y
  over_next next y grows with_it =
      let of_path : y.path.vars ≡ x.path.vars ++ grows.new_vars = ap (λ q. q.vars) with_it.same_path ∙ grows.vars in
      let passed = passed_by_over_more x.path.vars grows.new_vars terms x.passed is_over_table.passed in
      record {
        entry = subst (λ vars. IsEntryOver vars e) (sym of_path) (entry_over_more x.path.vars grows.new_vars e is_over_table.entry);
        path = subst (IsOverTable terms) (sym with_it.same_path) grows.over;
        facts = subst (λ vars. AreFactsOver vars y.facts) (sym of_path) (subst (AreFactsOver (x.path.vars ++ grows.new_vars)) (sym with_it.same_facts) (facts_over_more x.path.vars grows.new_vars x.facts is_over_table.facts));
        passed = subst (λ vars. Each (Each (IsPassedOver terms vars)) y.passed) (sym of_path)
            (with_it.kept.over (x.path.vars ++ grows.new_vars) (kept_each (Each (IsPassedOver terms (x.path.vars ++ grows.new_vars))) tt (length next.stack) x.passed passed));
      }

  goes_on_next : (next : PurePath S) (y : PureChecking S) → next.ending ≡ None → Grows terms x.path next → IsPlacedNext next → GoesOnWith stands terms x.facts x.passed next y → MayGoOn p terms e y × (y.path.steps ≡ x.path.steps + 1)
  goes_on_next next y still grows placed with_it = (
    record {
      no_end = ap (λ q. q.ending) with_it.same_path ∙ still;
      placed = subst (AreAtCommands p) (ap (λ q. q.stack) (sym with_it.same_path)) (placed still);
      over = over_next next y grows with_it;
    },
    ap (λ q. q.steps) with_it.same_path ∙ grows.steps,
  )

  cause_follows : (n : PureNext S) → IsCaused n → FollowsOn p terms e x n
  cause_follows (caused cause) is = tt
  cause_follows over is = tt
  cause_follows (further y) is = absurd is

  follows_end : (next : PurePath S) (n : PureNext S) (o : Option PureEnd) → next.ending ≡ o → IsAnswerTo stands terms x.facts x.passed next o n → Grows terms x.path next → IsPlacedNext next → FollowsOn p terms e x n
  follows_end next n None still (y, (is, with_it)) grows placed = subst (FollowsOn p terms e x) (sym is) (goes_on_next next y still grows placed with_it)
  follows_end next n (Some vanished) still answer grows placed = subst (FollowsOn p terms e x) (sym answer) tt
  follows_end next n (Some (returned t)) still answer grows placed = cause_follows n answer
  follows_end next n (Some (failed t place)) still answer grows placed = cause_follows n answer
  follows_end next n (Some (threw t place)) still answer grows placed = cause_follows n answer
  follows_end next n (Some (missed k place)) still answer grows placed = cause_follows n answer
  follows_end next n (Some cut) still answer grows placed = cause_follows n answer
  follows_end next n (Some (unknown place reason)) still answer grows placed = cause_follows n answer

  pub answers_follow : (nexts : List (PurePath S)) (ns : List (PureNext S)) → EachIsAnswered stands terms x.facts x.passed nexts ns → Each (λ next. Grows terms x.path next × IsPlacedNext next) nexts → Each (FollowsOn p terms e x) ns
  answers_follow nexts ns are =
      each_across (IsAnswered stands terms x.facts x.passed) (λ next. Grows terms x.path next × IsPlacedNext next) (FollowsOn p terms e x) nexts ns are
      (λ next n answer grows. follows_end next n next.ending refl answer grows.0 grows.1)

  -- ---- at a command of the machine

  module _ (nexts : List (PurePath S)) (ns : List (PureNext S)) (are : EachIsAnswered stands terms x.facts x.passed nexts ns) (cover : Covers p m stands x.path nexts)
      (n : PureNumberedCommand) (at : command_of_path p x.path ≡ Some n) (machine : IsTrue (is_of_machine n.command)) where
    at_state : (v : List PureValue) (c : Checked) → Stands stands x.path v c.machine → command_at p c.machine.current ≡ Some n
    at_state v c is = sym (stands_at p v x.path.stack c.machine is.frames) ∙ at

    pub covers_machine : CoversLeads p memory m stands e x ns
    covers_machine v entry c out standing above leads =
        let here = at_state v c standing.path in
        let by = subst (λ o. LeadsAt p memory m entry o c out) here leads in
        let to = step_to p memory m entry n.command (record { proc = c.machine.current.procedure; at = n.at }) c out machine by in
        let does : step p m to.inputs c.machine ≡ do_command p m to.inputs n.command (record { proc = c.machine.current.procedure; at = n.at }) c.machine = step-is p m to.inputs c.machine n n.command here refl in
        let same : out ≡ stepped p memory m entry c (step p m to.inputs c.machine) = to.is ∙ ap (stepped p memory m entry c) (sym does) in
        one_across (IsAnswered stands terms x.facts x.passed) _ (CoversOutcome stands e entry v out) nexts ns are
        (λ next k answer one. subst (λ o. CoversOutcome stands e entry v o k) (sym same) (answer_covers next k v one.0 entry c to.inputs answer standing one.1.0 one.1.1))
        (cover to.inputs v c.machine standing.path (subst HasInput (sym does) to.has))

    pub names_none : (names : List (List ℕ)) → NamesUses p memory m stands e x names ns
    names_none names v entry c used standing uses =
        absurd (by (is_call n.command) (used_in p (step p m [] c.machine)) (no_call n.command machine) (subst (λ o. used_by p m o c.machine ≡ Some used) (at_state v c standing.path) uses))
      where
        by : (b : Bool) (o : Option PureSpec) → b ≡ false → cond b o None ≡ Some used → ⊥
        by true o is some = true≢false is
        by false o is some = not_none some

-- the paths of a step at a command of the machine, where each is answered
pub machine_nexts : {S : Type 0} (p : PureParts) (memory : MemoryName) (m : Actions) (stands : S → List PureValue → Heap → Type 0) (terms : S → StateTerms) → IsMeaning memory stands terms
    → (own by_memory : PureAtom → Type 0) (x : PureChecking S) (nexts : List (PurePath S)) (ns : List (PureNext S)) → AreNextPaths p m stands terms own by_memory x.path nexts → Each (GoesOnAtCommands p) nexts
    → IsAtMachineCommand p x.path → EachIsAnswered stands terms x.facts x.passed nexts ns → (e : PureEntry) → MayGoOn p terms e x → AreNexts p memory m stands terms e x [] ns
machine_nexts p memory m stands terms meaning own by_memory x nexts ns laws placed (n, (at, machine)) are e may = record {
  cover = covers_machine p memory m stands terms meaning e x may.over nexts ns are laws.cover n at machine;
  uses = names_none p memory m stands terms meaning e x may.over nexts ns are laws.cover n at machine [];
  follow = answers_follow p memory m stands terms meaning e x may.over nexts ns are (each_both (Grows terms x.path) (GoesOnAtCommands p) nexts laws.growth placed);
}
