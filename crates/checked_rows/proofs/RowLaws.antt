-- What every row needs: what its command leads to, and what the checked path stands for that goes on.
use Rattle.sym_paths.specs.Steps.{Grows}
use Rattle.std.proofs.Common.{◌≡◌, inl, inr, ℕ, suc, ◌+◌, List, [], ◌∷◌, ◌++◌, length, false, if◌then◌else◌, Some, None, refl, sym, ap, subst, ◌∙◌, arith, Option}
use Rattle.std.proofs.lemmas.List.{append-nil}
use Rattle.gil_values.specs.Pure.{PureValue}
use Rattle.gil_syntax.specs.Pure.{PureParts, PureCommand, PureNumberedCommand}
use Rattle.gil_syntax.specs.Valid.{ends_body, IsValid}
use Rattle.gil_machine.specs.State.{Frame, State}
use Rattle.gil_machine.specs.Step.{command_at, step}
use Rattle.mem_model.specs.declared.keys.MemoryName.{MemoryName}
use Rattle.mem_model.specs.Actions.{Actions}
use Rattle.mem_model.specs.Heaps.{Heap}
use Rattle.checked_runs.specs.Checked.{Checked, Outcome, goes_on_to, Entry, kept_for, moved, LeadsBy, LeadsAt, Leads, is_call, used_in, used_by}
use Rattle.pure_terms.specs.declared.variables.Sort.{Sort}
use Rattle.sym_engine.specs.Placed.{AreAtCommands, GoesOnAtCommands}
use Rattle.sym_engine.proofs.Placing.{advanced_there}
use Rattle.sym_model.proofs.ListLaws.{not_none}
use Rattle.sym_model.specs.Laws.{IsMeaning}
use Rattle.sym_model.specs.Lists.{Each}
use Rattle.sym_model.specs.Terms.{StateTerms}
use Rattle.sym_paths.specs.Frames.{running_store}
use Rattle.sym_paths.specs.Meaning.{AreFrames, frames_of, Stands, IsOverTable, command_of_path}
use Rattle.sym_paths.specs.Moves.{passing}
use Rattle.sym_paths.specs.Pure.{PureFrame, PurePath, PureEnd, returned, failed, threw, missed, vanished, cut, unknown}
use Rattle.sym_paths.proofs.Silent.{stands_at}
use Rattle.sym_states.specs.Meaning.{AreFacts}
use Rattle.sym_states.specs.Pure.{PureFact}
use Rattle.checked_paths.proofs.Growing.{entered_more, passed_by_more, entry_over_more, facts_over_more, passed_by_over_more}
use Rattle.checked_paths.proofs.Lists.{kept_related, kept_each}
use Rattle.checked_paths.specs.Covering.{CoversOutcome, NamesUses, FollowsOn, AreNexts, IsCaused}
use Rattle.checked_paths.specs.Following.{GoesOnWith, IsAnswerTo}
use Rattle.checked_paths.specs.Meaning.{ArePassed, ArePassedBy, IsEntered, StandsForChecked, AreFactsOver, IsEntryOver, IsPassedOver, IsCheckedOver, kept_by}
use Rattle.checked_paths.specs.Pure.{PureEntry, PurePassed, PureChecking, PureNext, further, over as done_over, caused}
use Rattle.checked_rows.specs.Rows.{AreRowOf, IsCauseAlone}

frame_count : (v : List PureValue) (fs : List PureFrame) (gs : List Frame) → AreFrames v fs gs → length fs ≡ length gs
frame_count v [] [] are = refl
frame_count v [] (g ∷ gs) are = absurd are
frame_count v (f ∷ fs) [] are = absurd are
frame_count v (f ∷ fs) (g ∷ gs) are = ap suc (frame_count v fs gs are.1)

pub nothing_more : {A : Type 0} (v : List A) → v ≡ v ++ []
nothing_more v = sym (append-nil v)

-- ---- where the path stands

module _ (p : PureParts) (memory : MemoryName) (m : Actions) {S : Type 0} (stands : S → List PureValue → Heap → Type 0) where
  -- what the command leads to
  pub leads_by : (path : PurePath S) (v : List PureValue) (entry : Entry) (c : Checked) (out : Outcome) (n : PureNumberedCommand) (command : PureCommand) → Stands stands path v c.machine → command_of_path p path ≡ Some n → n.command ≡ command
      → Leads p memory m entry c out → LeadsBy p memory m entry command (record { proc = c.machine.current.procedure; at = n.at }) c out
  leads_by path v entry c out n command stand at is leads =
      let there : command_at p c.machine.current ≡ Some n = sym (stands_at p v path.stack c.machine stand.frames) ∙ at in
      let by : LeadsBy p memory m entry n.command (record { proc = c.machine.current.procedure; at = n.at }) c out = subst (λ o. LeadsAt p memory m entry o c out) there leads in
      subst (λ k. LeadsBy p memory m entry k (record { proc = c.machine.current.procedure; at = n.at }) c out) is by

-- ---- what goes on

module _ (memory : MemoryName) {S : Type 0} (stands : S → List PureValue → Heap → Type 0) (terms : S → StateTerms) (meaning : IsMeaning memory stands terms) (e : PureEntry) (x : PureChecking S) (over : IsCheckedOver terms e x) where
  -- what was passed, under a longer valuation
  pub passed_longer : (v w more : List PureValue) (entry : Entry) (c : Checked) → w ≡ v ++ more → StandsForChecked stands e x v entry c → ArePassedBy stands w x.passed c.passed
  passed_longer v w more entry c longer stand =
      subst (λ u. ArePassedBy stands u x.passed c.passed) (sym longer) (passed_by_more x.path.vars v more stand.path.proper.one_each memory stands terms meaning x.passed c.passed over.passed stand.passed)

  module _ (next : PurePath S) (facts : List PureFact) (passed : List (List (PurePassed S))) (y : PureChecking S) (with_it : GoesOnWith stands terms facts passed next y) where
    -- The next path stands for the state t, with these facts and passed invariants under a longer valuation.
    pub goes_stands : (v w more : List PureValue) (entry : Entry) (c d : Checked) (t : State) → w ≡ v ++ more → StandsForChecked stands e x v entry c → Stands stands next w t → AreFacts w facts d.facts
        → ArePassedBy stands w passed d.passed → StandsForChecked stands e y w entry (moved d t)
    goes_stands v w more entry c d t longer stand is are are_passed =
        let counted : length next.stack ≡ length t.callers + 1 = frame_count w next.stack (frames_of t) is.frames ∙ omega arith in
        record {
          entered = subst (λ u. IsEntered u e entry) (sym longer) (entered_more x.path.vars v more stand.path.proper.one_each e entry over.entry stand.entered);
          path = subst (λ q. Stands stands q w t) (sym with_it.same_path) is;
          facts = subst (λ cs. AreFacts w cs d.facts) (sym with_it.same_facts) are;
          passed = with_it.kept.stand w (kept_for t.callers d.passed) (subst (λ k. ArePassedBy stands w (kept_by (length next.stack) passed) (kept_by k d.passed)) counted (kept_related (ArePassed stands w) tt (length next.stack) passed d.passed are_passed));
        }

    pub goes_covers : (v w more : List PureValue) (entry : Entry) (c d : Checked) (t : State) (out : Outcome) → w ≡ v ++ more → StandsForChecked stands e x v entry c → Stands stands next w t → AreFacts w facts d.facts
        → ArePassedBy stands w passed d.passed → out ≡ goes_on_to (moved d t) → CoversOutcome stands e entry v out (further y)
    goes_covers v w more entry c d t out longer stand is are are_passed leads = (moved d t, (w, (leads, (more, longer), goes_stands v w more entry c d t longer stand is are are_passed)))

    pub goes_on_next : (p : PureParts) (sorts : List Sort) → next.ending ≡ None → AreAtCommands p next.stack → IsOverTable terms next → AreFactsOver next.vars facts → Each (Each (IsPassedOver terms next.vars)) passed → next.vars ≡ x.path.vars ++ sorts
        → next.steps ≡ x.path.steps + 1 → FollowsOn p terms e x (further y)
    goes_on_next p sorts still placed next_over facts_over passed_over vars steps = (
      record {
        no_end = ap (λ (q : PurePath S). q.ending) with_it.same_path ∙ still;
        placed = subst (AreAtCommands p) (ap (λ (q : PurePath S). q.stack) (sym with_it.same_path)) placed;
        over =
            let same : y.path.vars ≡ next.vars = ap (λ (q : PurePath S). q.vars) with_it.same_path in
            record {
              entry = subst (λ vs. IsEntryOver vs e) (sym (same ∙ vars)) (entry_over_more x.path.vars sorts e over.entry);
              path = subst (IsOverTable terms) (sym with_it.same_path) next_over;
              facts = subst (λ vs. AreFactsOver vs y.facts) (sym same) (subst (AreFactsOver next.vars) (sym with_it.same_facts) facts_over);
              passed = subst (λ vs. Each (Each (IsPassedOver terms vs)) y.passed) (sym same) (with_it.kept.over next.vars (kept_each (Each (IsPassedOver terms next.vars)) tt (length next.stack) passed passed_over));
            };
      },
      ap (λ (q : PurePath S). q.steps) with_it.same_path ∙ steps,
    )

-- ---- rows

-- one answer that is a cause says nothing of what comes
pub cause_covers : (p : PureParts) (memory : MemoryName) (m : Actions) {S : Type 0} (stands : S → List PureValue → Heap → Type 0) (terms : S → StateTerms) (e : PureEntry) (x : PureChecking S) (command : PureCommand) (names : List (List ℕ)) (nexts : List (PureNext S)) → IsCauseAlone nexts
    → AreRowOf p memory m stands terms e x command names nexts
cause_covers p memory m stands terms e x command names nexts (cause, is) n may at this = subst (AreNexts p memory m stands terms e x names) (sym is) (record {
  cover = λ v entry c out stand above leads. inl tt;
  uses = λ v entry c used stand uses. inr (inl tt);
  follow = (tt, tt);
})

-- a command that is no call uses nothing
pub uses_nothing : (p : PureParts) (memory : MemoryName) (m : Actions) {S : Type 0} (stands : S → List PureValue → Heap → Type 0) (e : PureEntry) (x : PureChecking S) (n : PureNumberedCommand) (names : List (List ℕ)) (nexts : List (PureNext S)) → command_of_path p x.path ≡ Some n → is_call n.command ≡ false
    → NamesUses p memory m stands e x names nexts
uses_nothing p memory m stands e x n names nexts at none v entry c used stand uses =
    let there : command_at p c.machine.current ≡ Some n = sym (stands_at p v x.path.stack c.machine stand.path.frames) ∙ at in
    let this : used_by p m (Some n) c.machine ≡ Some used = subst (λ o. used_by p m o c.machine ≡ Some used) there uses in
    not_none (sym (ap (λ b. if b then used_in p (step p m [] c.machine) else None) none) ∙ this)

-- the frames where a command was passed
pub passed_there : {S : Type 0} (p : PureParts) (path : PurePath S) (n : PureNumberedCommand) → IsValid p → command_of_path p path ≡ Some n → ends_body n.command ≡ false → AreAtCommands p path.stack → AreAtCommands p (passing path).stack
passed_there p path n valid at stays placed = advanced_there p valid path.stack (running_store path.stack) n at stays placed

-- ---- answers

pub answer_of_cause : {S : Type 0} (stands : S → List PureValue → Heap → Type 0) (e : PureEntry) (entry : Entry) (v : List PureValue) (out : Outcome) (n : PureNext S) → IsCaused n → CoversOutcome stands e entry v out n
answer_of_cause stands e entry v out (caused cause) is = tt
answer_of_cause stands e entry v out (further x) is = absurd is
answer_of_cause stands e entry v out done_over is = absurd is

pub cause_follows : {S : Type 0} (p : PureParts) (terms : S → StateTerms) (e : PureEntry) (x : PureChecking S) (n : PureNext S) → IsCaused n → FollowsOn p terms e x n
cause_follows p terms e x (caused cause) is = tt
cause_follows p terms e x done_over is = tt
cause_follows p terms e x (further y) is = absurd is

-- what is answered of a next path of the engine's step may go on
pub answered_follows : {S : Type 0} (p : PureParts) (memory : MemoryName) (stands : S → List PureValue → Heap → Type 0) (terms : S → StateTerms) (meaning : IsMeaning memory stands terms) (e : PureEntry) (x : PureChecking S) (over : IsCheckedOver terms e x)
    (o : Option PureEnd) (next : PurePath S) (k : PureNext S) → next.ending ≡ o → IsAnswerTo stands terms x.facts x.passed next o k → Grows terms x.path next → GoesOnAtCommands p next → FollowsOn p terms e x k
answered_follows p memory stands terms meaning e x over None next k still (y, (same, with_it)) grows placed =
    subst (FollowsOn p terms e x) (sym same)
    (goes_on_next memory stands terms meaning e x over next x.facts x.passed y with_it p grows.new_vars still (placed still) grows.over
    (subst (λ vars. AreFactsOver vars x.facts) (sym grows.vars) (facts_over_more x.path.vars grows.new_vars x.facts over.facts))
    (subst (λ vars. Each (Each (IsPassedOver terms vars)) x.passed) (sym grows.vars) (passed_by_over_more x.path.vars grows.new_vars terms x.passed over.passed)) grows.vars grows.steps)
answered_follows p memory stands terms meaning e x over (Some vanished) next k still answer grows placed = subst (FollowsOn p terms e x) (sym answer) tt
answered_follows p memory stands terms meaning e x over (Some (returned t)) next k still answer grows placed = cause_follows p terms e x k answer
answered_follows p memory stands terms meaning e x over (Some (failed t place)) next k still answer grows placed = cause_follows p terms e x k answer
answered_follows p memory stands terms meaning e x over (Some (threw t place)) next k still answer grows placed = cause_follows p terms e x k answer
answered_follows p memory stands terms meaning e x over (Some (missed q place)) next k still answer grows placed = cause_follows p terms e x k answer
answered_follows p memory stands terms meaning e x over (Some cut) next k still answer grows placed = cause_follows p terms e x k answer
answered_follows p memory stands terms meaning e x over (Some (unknown place reason)) next k still answer grows placed = cause_follows p terms e x k answer
