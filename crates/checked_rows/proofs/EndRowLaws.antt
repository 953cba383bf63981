-- The row of `return` and `throw` covers what the checked states lead to.
use Rattle.std.proofs.Common.{◌≡◌, ◌⊎◌, inl, inr, List, [], ◌∷◌, ◌++◌, false, Option, Some, None, IsTrue, refl, sym, ap, subst, ◌∙◌}
use Rattle.gil_values.specs.declared.places.Place.{Place}
use Rattle.gil_values.specs.Pure.{PureValue}
use Rattle.gil_syntax.specs.Pure.{PureParts, PureItem, PureCommand, return, throw, PureSpec}
use Rattle.gil_machine.specs.State.{Step, goes_on, ends}
use Rattle.gil_machine.specs.Step.{command_at, do_command, step}
use Rattle.mem_model.specs.declared.keys.MemoryName.{MemoryName}
use Rattle.mem_model.specs.Actions.{Actions}
use Rattle.mem_model.specs.Heaps.{Heap}
use Rattle.assert_logic.specs.LogicStates.{LogicState}
use Rattle.checked_runs.specs.Checked.{Checked, Outcome, Entry, logic_state, over_or, post, ended, stepped, some_matches, result_store, Passed, LeadsAt, is_call}
use Rattle.pure_terms.specs.declared.variables.Sort.{Sort}
use Rattle.pure_terms.specs.Meaning.{value, all_true, IsProper, IsOver, Satisfies}
use Rattle.pure_terms.specs.Pure.{PureTerm, term_of}
use Rattle.sym_engine.specs.Placed.{GoesOnAtCommands}
use Rattle.sym_model.proofs.ListLaws.{same_some, not_none}
use Rattle.sym_model.specs.Laws.{IsMeaning}
use Rattle.sym_model.specs.Lists.{Each}
use Rattle.sym_model.specs.Terms.{StateTerms, all_of, AreEachOver}
use Rattle.sym_paths.proofs.Growing.{path_over}
use Rattle.sym_paths.proofs.Silent.{stands_at, step-is}
use Rattle.sym_paths.specs.Meaning.{StandsForStep, end_terms}
use Rattle.sym_paths.specs.Pure.{PureEnd, returned, failed, threw, missed, vanished, cut, unknown, PurePath}
use Rattle.sym_paths.specs.Steps.{Extends, IsUnknown, HasInput, Covers, Grows}
use Rattle.sym_states.specs.Meaning as states
use Rattle.sym_states.specs.Pure.{PureState}
use Rattle.checked_paths.proofs.Answering.{answer_covers}
use Rattle.checked_paths.proofs.Growing.{entered_more, passed_by_more, entry_over_more, facts_over_more}
use Rattle.checked_paths.proofs.Inputs.{step_to}
use Rattle.checked_paths.proofs.Lists.{one_across, each_across}
use Rattle.checked_paths.specs.Covering.{CoversOutcome, FollowsOn}
use Rattle.checked_paths.specs.Following.{IsAnswered, is_of_machine}
use Rattle.checked_paths.specs.Meaning.{StandsForChecked, IsEntered, IsPassed, IsPassedOver, IsEntryOver, AreFactsOver, IsCheckedOver, MayGoOn}
use Rattle.checked_paths.specs.Pure.{PureEntry, PurePassed, PureChecking, PureNext}
use Rattle.footprint.specs.Leaves.{IsLonger}
use Rattle.checked_rows.specs.Doubts.{PureDoubt, always, under, beyond, IsDoubtIn}
use Rattle.checked_rows.specs.Ending.{Finishes, MeetsNone, FinishesExactly, at_end, PureFinish, by_return, by_throw, finish_at, MayEnd, IsThere, IsEndedBy, IsEnded, EachIsEnded, IsLeaving}
use Rattle.checked_rows.specs.Rows.{AreRowOf}
use Rattle.checked_rows.specs.States.{IsStateOf}
use Rattle.checked_rows.proofs.RowLaws.{answer_of_cause, cause_follows, answered_follows, uses_nothing}

pub leaving_is_of_machine : (k : PureCommand) → IsLeaving k → IsTrue (is_of_machine k)
leaving_is_of_machine (return e) is = refl
leaving_is_of_machine (throw e) is = refl
leaving_is_of_machine k is = absurd is

leaving_is_no_call : (k : PureCommand) → IsLeaving k → is_call k ≡ false
leaving_is_no_call (return e) is = refl
leaving_is_no_call (throw e) is = refl
leaving_is_no_call k is = absurd is

module _ {S : Type 0} (stands : S → List PureValue → Heap → Type 0) (terms : S → StateTerms) (e : PureEntry) (x : PureChecking S) (s : PureState S) (is : IsStateOf stands terms x.path x.facts s) (over : IsCheckedOver terms e x) where
  -- the state where a next path ends names only variables of its table
  pub may_end : (next : PurePath S) → Grows terms x.path next → MayEnd terms e s next
  may_end next grows =
      let grown = path_over terms x.path grows.new_vars over.path in
      let same : s.facts ≡ x.facts = ap (λ (q : PureState S). q.facts) is.is in
      let given : s.given ≡ x.path.given = ap (λ (q : PureState S). q.given) is.is in
      record {
        state = record {
          conds = grows.over.conds;
          given = subst (λ vars. Each (λ a. IsOver vars (term_of a)) s.given) (sym grows.vars) (subst (Each (λ a. IsOver (x.path.vars ++ grows.new_vars) (term_of a))) (sym given) grown.given);
          memory = subst (λ vars. AreEachOver vars (all_of (terms s.memory))) (sym grows.vars) (subst (λ ts. AreEachOver (x.path.vars ++ grows.new_vars) (all_of ts)) (sym is.same_terms) grown.memory);
          facts = subst (λ vars. AreFactsOver vars s.facts) (sym grows.vars) (subst (AreFactsOver (x.path.vars ++ grows.new_vars)) (sym same) (facts_over_more x.path.vars grows.new_vars x.facts over.facts));
        };
        entry = subst (λ vars. IsEntryOver vars e) (sym grows.vars) (entry_over_more x.path.vars grows.new_vars e over.entry);
        ending = grows.over.ending;
      }

module _ {S : Type 0} (p : PureParts) (memory : MemoryName) (m : Actions) (stands : S → List PureValue → Heap → Type 0) (terms : S → StateTerms) (meaning : IsMeaning memory stands terms) (e : PureEntry) (x : PureChecking S) (is_over_table : IsCheckedOver terms e x)
    (s : PureState S) (is : IsStateOf stands terms x.path x.facts s) where
  -- memory and facts before the step, under a longer valuation
  kept_there : (v more : List PureValue) (entry : Entry) (c : Checked) → StandsForChecked stands e x v entry c → IsPassed stands (v ++ more) (record { at = 0; memory = s.memory; facts = x.facts; unlisted = [] }) (record { at = 0; remainder = logic_state c; unlisted = [] })
  kept_there v more entry c standing =
      let q : PurePassed S = record { at = 0; memory = s.memory; facts = x.facts; unlisted = [] } in
      let r : Passed = record { at = 0; remainder = logic_state c; unlisted = [] } in
      let over_q : IsPassedOver terms x.path.vars q = record {
        memory = subst (λ ts. AreEachOver x.path.vars (all_of ts)) (sym is.same_terms) is_over_table.path.memory;
        facts = is_over_table.facts;
        unlisted = λ y t none. not_none none;
      } in
      let now : IsPassed stands v q r = record { at = refl; memory = is.stands_for v c.machine.heap standing.path.memory; facts = standing.facts; unlisted = λ y. tt } in
      let all = passed_by_more x.path.vars v more standing.path.proper.one_each memory stands terms meaning ((q ∷ []) ∷ []) ((r ∷ []) ∷ []) ((over_q, tt), tt) ((now, tt), tt) in
      all.0.0

  module _ (next : PurePath S) (k : PureNext S) (v w : List PureValue) (entry : Entry) (c : Checked) (inputs : List PureValue) (standing : StandsForChecked stands e x v entry c) (ext : Extends inputs c.machine x.path next v w) where
    pub entered_there : IsEntered w e entry
    entered_there = subst (λ u. IsEntered u e entry) (sym ext.values) (entered_more x.path.vars v ext.new_values standing.path.proper.one_each e entry is_over_table.entry standing.entered)

    pub stands_there : IsProper next.vars w → IsTrue (all_true w next.conds) → states.Stands stands (at_end s next) w (logic_state c)
    stands_there proper met =
        let kept = subst (λ u. IsPassed stands u (record { at = 0; memory = s.memory; facts = x.facts; unlisted = [] }) (record { at = 0; remainder = logic_state c; unlisted = [] })) (sym ext.values) (kept_there v ext.new_values entry c standing) in
        record {
          proper = proper;
          meets = met;
          memory = kept.memory;
          facts = subst (λ cs. states.AreFacts w cs c.facts) (sym (ap (λ (q : PureState S). q.facts) is.is)) kept.facts;
        }

    -- the entry ends with a result
    finishes : (posts : List (List PureItem)) (t : PureTerm) (out : Outcome) (a : PureValue) → Finishes p stands e posts t (at_end s next) k → IsProper next.vars w → IsTrue (all_true w next.conds) → value w t ≡ Some a
        → out ≡ over_or (some_matches p entry posts (result_store entry a) (logic_state c)) post → CoversOutcome stands e entry v out k
    finishes posts t out a (inl cause) proper met val leads = answer_of_cause stands e entry v out k cause
    finishes posts t out a (inr (done, law)) proper met val leads =
        subst (CoversOutcome stands e entry v out) (sym done) (leads ∙ ap (λ b. over_or b post) (law w entry (logic_state c) a entered_there (stands_there proper met) val))

    abbrev Stood : Option PureEnd → Step → Type 0
    Stood o r = StandsForStep p m stands next w c.machine o r ⊎ (IsUnknown o × Satisfies next.vars w next.conds)

    returns_there : (t : PureTerm) (r : Step) → Finishes p stands e e.spec.posts t (at_end s next) k → Stood (Some (returned t)) r → CoversOutcome stands e entry v (stepped p memory m entry c r) k
    returns_there t (ends end) finish (inl stood) =
        let (a, (val, same)) = stood.ending in
        finishes e.spec.posts t (stepped p memory m entry c (ends end)) a finish stood.proper stood.meets val
        (ap (ended p memory m entry c) same ∙ ap (λ (k : PureSpec). over_or (some_matches p entry k.posts (result_store entry a) (logic_state c)) post) standing.entered.spec)
    returns_there t (goes_on u) finish (inl stood) = absurd stood
    returns_there t r finish (inr (unknown_one, meets)) = absurd unknown_one

    throws_there : (t : PureTerm) (place : Place) (r : Step) → Finishes p stands e e.spec.errors t (at_end s next) k → Stood (Some (threw t place)) r → CoversOutcome stands e entry v (stepped p memory m entry c r) k
    throws_there t place (ends end) finish (inl stood) =
        let (a, (val, same)) = stood.ending in
        finishes e.spec.errors t (stepped p memory m entry c (ends end)) a finish stood.proper stood.meets val
        (ap (ended p memory m entry c) same ∙ ap (λ (k : PureSpec). over_or (some_matches p entry k.errors (result_store entry a) (logic_state c)) post) standing.entered.spec)
    throws_there t place (goes_on u) finish (inl stood) = absurd stood
    throws_there t place r finish (inr (unknown_one, meets)) = absurd unknown_one

    elsewhere : IsAnswered stands terms x.facts x.passed next k → Stood next.ending (step p m inputs c.machine) → CoversOutcome stands e entry v (stepped p memory m entry c (step p m inputs c.machine)) k
    elsewhere answered stood = answer_covers p memory m stands terms meaning e x is_over_table next k v w entry c inputs answered standing ext stood

    covers_by : (o : Option PureEnd) → next.ending ≡ o → IsEndedBy p stands terms e s x.facts x.passed next (finish_at o) k → Stood next.ending (step p m inputs c.machine)
        → CoversOutcome stands e entry v (stepped p memory m entry c (step p m inputs c.machine)) k
    covers_by (Some (returned t)) same by stood = returns_there t (step p m inputs c.machine) by (subst (λ o. Stood o (step p m inputs c.machine)) same stood)
    covers_by (Some (threw t place)) same by stood = throws_there t place (step p m inputs c.machine) by (subst (λ o. Stood o (step p m inputs c.machine)) same stood)
    covers_by (Some (failed t place)) same by stood = elsewhere by stood
    covers_by (Some (missed q place)) same by stood = elsewhere by stood
    covers_by (Some vanished) same by stood = elsewhere by stood
    covers_by (Some cut) same by stood = elsewhere by stood
    covers_by (Some (unknown place reason)) same by stood = elsewhere by stood
    covers_by None same by stood = elsewhere by stood

  -- ---- what follows

  module _ (may : MayGoOn p terms e x) where
    finish_follows : (posts : List (List PureItem)) (t : PureTerm) (next : PurePath S) (k : PureNext S) → Finishes p stands e posts t (at_end s next) k → FollowsOn p terms e x k
    finish_follows posts t next k (inl cause) = cause_follows p terms e x k cause
    finish_follows posts t next k (inr (done, law)) = subst (FollowsOn p terms e x) (sym done) tt

    follows_by : (f : Option PureFinish) (next : PurePath S) (k : PureNext S) → IsEndedBy p stands terms e s x.facts x.passed next f k → Grows terms x.path next → GoesOnAtCommands p next → FollowsOn p terms e x k
    follows_by (Some (by_return t)) next k by grows placed = finish_follows e.spec.posts t next k by
    follows_by (Some (by_throw t)) next k by grows placed = finish_follows e.spec.errors t next k by
    follows_by None next k by grows placed = answered_follows p memory stands terms meaning e x is_over_table next.ending next k refl by grows placed

  each_and : (qs : List (PurePath S)) → Each (Grows terms x.path) qs → Each (GoesOnAtCommands p) qs → Each (λ next. Grows terms x.path next × GoesOnAtCommands p next) qs
  each_and [] first second = tt
  each_and (q ∷ qs) first second = ((first.0, second.0), each_and qs first.1 second.1)

  -- ---- the row

  pub end_covers : (nexts : List (PurePath S)) (ks : List (PureNext S)) → EachIsEnded p stands terms e s x.facts x.passed nexts ks → Covers p m stands x.path nexts → Each (Grows terms x.path) nexts → Each (GoesOnAtCommands p) nexts
      → (command : PureCommand) → IsLeaving command → AreRowOf p memory m stands terms e x command [] ks
  end_covers nexts ks are cover growth placed command leaving n may at this = record {
    cover = λ v entry c out standing above leads.
        let machine : IsTrue (is_of_machine n.command) = subst (λ j. IsTrue (is_of_machine j)) (sym this) (leaving_is_of_machine command leaving) in
        let here : command_at p c.machine.current ≡ Some n = sym (stands_at p v x.path.stack c.machine standing.path.frames) ∙ at in
        let by = subst (λ o. LeadsAt p memory m entry o c out) here leads in
        let to = step_to p memory m entry n.command (record { proc = c.machine.current.procedure; at = n.at }) c out machine by in
        let does : step p m to.inputs c.machine ≡ do_command p m to.inputs n.command (record { proc = c.machine.current.procedure; at = n.at }) c.machine = step-is p m to.inputs c.machine n n.command here refl in
        let same : out ≡ stepped p memory m entry c (step p m to.inputs c.machine) = to.is ∙ ap (stepped p memory m entry c) (sym does) in
        one_across (IsEnded p stands terms e s x.facts x.passed) _ (CoversOutcome stands e entry v out) nexts ks are
        (λ next k by one. subst (λ o. CoversOutcome stands e entry v o k) (sym same) (covers_by next k v one.0 entry c to.inputs standing one.1.0 next.ending refl by one.1.1))
        (cover to.inputs v c.machine standing.path (subst HasInput (sym does) to.has));
    uses = uses_nothing p memory m stands e x n [] ks at (ap is_call this ∙ leaving_is_no_call command leaving);
    follow = each_across (IsEnded p stands terms e s x.facts x.passed) (λ next. Grows terms x.path next × GoesOnAtCommands p next) (FollowsOn p terms e x) nexts ks are
        (λ next k by both. follows_by may (finish_at next.ending) next k by both.0 both.1) (each_and nexts growth placed);
  }

-- ---- the term of an end

pub return_over : (vars : List Sort) (o : Option PureEnd) (t : PureTerm) → finish_at o ≡ Some (by_return t) → AreEachOver vars (end_terms o) → IsOver vars t
return_over vars (Some (returned u)) t is over = subst (IsOver vars) (same_return (same_some is)) over.0
  where
    same_return : by_return u ≡ by_return t → u ≡ t
    same_return e = cc
return_over vars (Some (threw u place)) t is over = absurd (cc)
return_over vars (Some (failed u place)) t is over = not_none is
return_over vars (Some (missed k place)) t is over = not_none is
return_over vars (Some vanished) t is over = not_none is
return_over vars (Some cut) t is over = not_none is
return_over vars (Some (unknown place reason)) t is over = not_none is
return_over vars None t is over = not_none is

pub throw_over : (vars : List Sort) (o : Option PureEnd) (t : PureTerm) → finish_at o ≡ Some (by_throw t) → AreEachOver vars (end_terms o) → IsOver vars t
throw_over vars (Some (threw u place)) t is over = subst (IsOver vars) (same_throw (same_some is)) over.0
  where
    same_throw : by_throw u ≡ by_throw t → u ≡ t
    same_throw e = cc
throw_over vars (Some (returned u)) t is over = absurd (cc)
throw_over vars (Some (failed u place)) t is over = not_none is
throw_over vars (Some (missed k place)) t is over = not_none is
throw_over vars (Some vanished) t is over = not_none is
throw_over vars (Some cut) t is over = not_none is
throw_over vars (Some (unknown place reason)) t is over = not_none is
throw_over vars None t is over = not_none is

-- ---- the state there

module _ {S : Type 0} (stands : S → List PureValue → Heap → Type 0) (terms : S → StateTerms) (s r : PureState S) (is : IsThere stands terms s r) where
  pub there_over : states.IsOverTable terms s → states.IsOverTable terms r
  there_over over = subst (states.IsOverTable terms) (sym is.is) (record { conds = over.conds; given = over.given; memory = subst (λ ts. AreEachOver s.vars (all_of ts)) (sym is.same_terms) over.memory; facts = over.facts })

  there_stands : (v : List PureValue) (l : LogicState) → states.Stands stands s v l → states.Stands stands r v l
  there_stands v l stand = subst (λ q. states.Stands stands q v l) (sym is.is) (record { proper = stand.proper; meets = stand.meets; memory = is.stands_for v l.heap stand.memory; facts = stand.facts })

  pub there_vars : r.vars ≡ s.vars
  there_vars = ap (λ (q : PureState S). q.vars) is.is

  pub finishes_there : (p : PureParts) (e : PureEntry) (posts : List (List PureItem)) (t : PureTerm) (k : PureNext S) → Finishes p stands e posts t r k → Finishes p stands e posts t s k
  finishes_there p e posts t k (inl cause) = inl cause
  finishes_there p e posts t k (inr (done, law)) = inr (done, λ v entry l w entered stand val. law v entry l w entered (there_stands v l stand) val)

  there_conds : r.conds ≡ s.conds
  there_conds = ap (λ (q : PureState S). q.conds) is.is

  pub exactly_there : (p : PureParts) (e : PureEntry) (posts : List (List PureItem)) (t : PureTerm) (here : Place) (path : PurePath S) (k : PureNext S) → FinishesExactly p stands e posts t here path r k
      → FinishesExactly p stands e posts t here path s k
  exactly_there p e posts t here path k (inl done) = inl done
  exactly_there p e posts t here path k (inr (doubt, (is_in, shows))) = inr (doubt, (doubted doubt is_in, shows))
    where
      none_there : (v : List PureValue) → MeetsNone p stands e posts t r v → MeetsNone p stands e posts t s v
      none_there v none entry l w entered stand val = none entry l w entered (there_stands v l stand) val

      doubted : (doubt : PureDoubt) → IsDoubtIn r (MeetsNone p stands e posts t r) doubt → IsDoubtIn s (MeetsNone p stands e posts t s) doubt
      doubted always fails = λ v met. none_there v (fails v (subst (λ cs. IsTrue (all_true v cs)) (sym there_conds) met))
      doubted (under conds u) (longer, meets, fails) = (
        subst (λ cs. IsLonger cs conds) there_conds longer,
        subst (λ vars. Satisfies vars u conds) there_vars meets,
        λ v met. none_there v (fails v met),
      )
      doubted (beyond conds reason) (longer, outside) = (subst (λ cs. IsLonger cs conds) there_conds longer, outside)
