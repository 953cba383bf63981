-- The row of `unfold` is exact: checked runs follow the cases that go on, and have the faults that are told.
use Rattle.std.proofs.Common.{◌≡◌, inl, inr, ℕ, ◌+◌, ◌≤◌, List, [], ◌∷◌, ◌++◌, length, map, true, false, Option, Some, None, Ok, Err, refl, sym, ap, subst, ◌∙◌, append-nil}
use Rattle.gil_values.specs.declared.places.Place.{Place}
use Rattle.gil_values.specs.Operators.{Fault}
use Rattle.gil_values.specs.Pure.{PureValue}
use Rattle.gil_values.specs.Symbols.{AreBelow}
use Rattle.gil_machine.specs.State.{State}
use Rattle.gil_machine.specs.Step.{to_next}
use Rattle.gil_syntax.specs.Evaluation.{Outcomes, evaluate_all}
use Rattle.gil_syntax.specs.Programs.{find_pred}
use Rattle.gil_syntax.specs.Pure.{PureParts, PurePredUse, PurePredDef, PureNumberedCommand, unfold_use}
use Rattle.gil_syntax.specs.Valid.{IsValid}
use Rattle.gil_syntax.specs.WellMade.{is_well_made}
use Rattle.mem_model.specs.CoreNames.{core_of}
use Rattle.mem_model.specs.declared.cores.Core.{Core}
use Rattle.mem_model.specs.declared.keys.MemoryName.{MemoryName}
use Rattle.mem_model.specs.Actions.{Actions}
use Rattle.mem_model.specs.Heaps.{Heap}
use Rattle.assert_logic.specs.LogicStates.{LogicState}
use Rattle.assert_logic.specs.Matching.{FoundFact, first_fact, fits_fact}
use Rattle.assert_logic.specs.Modes.{HasModes}
use Rattle.checked_runs.specs.Checked.{Checked, Outcome, goes_on_to, has_fault, fold_body, Entry, IsAbove, moved, names_at, logic_state, with_logic, Unfolds, UnfoldsFound, UnfoldsBy}
use Rattle.pure_terms.specs.declared.deciders.Reason.{Reason}
use Rattle.pure_terms.specs.declared.variables.Sort.{Sort}
use Rattle.pure_terms.specs.Meaning.{all_true, Satisfies}
use Rattle.pure_terms.specs.Pure.{PureTerm}
use Rattle.sym_paths.specs.Asking.{IsOutside}
use Rattle.sym_evaluation.specs.Pure.{PureStore}
use Rattle.sym_model.proofs.ListLaws.{not_none}
use Rattle.sym_model.specs.Laws.{IsMeaning}
use Rattle.sym_model.specs.Lists.{Each}
use Rattle.sym_model.specs.Meaning.{has_open}
use Rattle.sym_model.specs.Terms.{StateTerms}
use Rattle.sym_paths.proofs.Beginning.{as_many}
use Rattle.sym_paths.specs.Meaning.{command_of_path}
use Rattle.sym_paths.specs.Moves.{passing}
use Rattle.sym_paths.specs.Pure.{PurePath}
use Rattle.sym_paths.specs.Steps.{IsPlaceOf, counter_past}
use Rattle.sym_states.proofs.Conditions.{added_is, none_open}
use Rattle.sym_states.specs.Meaning as states
use Rattle.sym_states.specs.Producing.{added_conds}
use Rattle.sym_states.specs.Pure.{PureState}
use Rattle.sym_unfolding.proofs.AddLaws.{both_each, each_for_all}
use Rattle.sym_unfolding.specs.Further.{IsFurther}
use Rattle.sym_unfolding.specs.Unfolding.{PureUnfoldedCase, IsMetAfter, HasArguments, IsUnfoldingOf, StandForUnfoldings}
use Rattle.footprint.proofs.Parts.{longer_both}
use Rattle.footprint.specs.Leaves.{IsLonger}
use Rattle.checked_paths.proofs.Above.{stands_above}
use Rattle.checked_paths.proofs.Lists.{each_across}
use Rattle.checked_paths.specs.declared.nexts.FaultKind.{FaultKind}
use Rattle.checked_paths.specs.Causes.{shown_of}
use Rattle.checked_paths.specs.Choosing.{choice_of_case, choice_of_unfolding, LeadsAlong}
use Rattle.checked_paths.specs.Exactness.{IsUnder, LeadsOn, IsFollowed, IsUndecided, IsRightCause, IsExactNext, AreExact}
use Rattle.checked_paths.specs.Following.{GoesOnWith}
use Rattle.checked_paths.specs.Meaning.{StandsForChecked, MayGoOn}
use Rattle.checked_paths.specs.Pure.{PureEntry, PureChecking, PureNext, further}
use Rattle.checked_rows.specs.Doubts.{always, DoubtsAlone, IsRightDoubt}
use Rattle.checked_rows.specs.Folding.{GoesOnIn}
use Rattle.checked_rows.specs.Names.{AreNames}
use Rattle.checked_rows.specs.Reading.{AreRead, AreUnread}
use Rattle.checked_rows.specs.States.{IsStateOf, with_state}
use Rattle.checked_rows.specs.Unfolding.{chosen_case, IsUnfoldedNext, EachUnfolded, HasNoFact, AreAsMany, AreUnfoldings, UnfoldsOuts}
use Rattle.checked_rows.proofs.ArityLaws.{as_many_there, evaluated_length}
use Rattle.checked_rows.proofs.ExactLaws.{leads_along, right_alone, right_doubts}
use Rattle.checked_rows.proofs.FoldLaws.{read_vars}
use Rattle.checked_rows.proofs.NewValueLaws.{counter_rises, new_values_below}
use Rattle.checked_rows.proofs.StateLaws.{state_conds, state_vars}
use Rattle.checked_rows.proofs.StepLaws.{answer, state_there}
use Rattle.checked_rows.proofs.UnfoldLaws.{pred_named, serves_before, serves_after, vars_of}

-- ---- what unfolding leads to, with its choice

module _ (p : PureParts) (memory : MemoryName) (m : Actions) (entry : Entry) (u : PurePredUse) (c : Checked) where
  abbrev Along : Outcome → Option Core → Outcomes → Outcomes → Option ℕ → Type 0
  Along out o a b chosen = (leads : UnfoldsBy p memory m entry o u.pred a b c out) × (choice_of_unfolding p memory m entry o u.pred a b c out leads ≡ chosen)

  abbrev AlongFound : Outcome → Option FoundFact → Option PurePredDef → Option ℕ → Type 0
  AlongFound out found d chosen = (leads : UnfoldsFound p memory m entry found d c out) × (choice_of_case p memory m entry found d c out leads ≡ chosen)

  abbrev Fails : Option Core → Outcomes → Outcomes → Type 0
  Fails o a b = Along (has_fault fold_body) o a b None

  by_values : (out : Outcome) (o : Option Core) (a b : Outcomes) (ws us : List PureValue) (chosen : Option ℕ) → o ≡ None → a ≡ Ok ws → b ≡ Ok us → AlongFound out (first_fact (fits_fact u.pred ws (map Some us)) c.facts) (find_pred p.preds u.pred) chosen → Along out o a b chosen
  by_values out o a b ws us chosen none first second along =
      subst (λ k. Along out k a b chosen) (sym none) (subst (λ k. Along out None k b chosen) (sym first) (subst (λ k. Along out None (Ok ws) k chosen) (sym second) along))

  case_along : (out : Outcome) (d : PurePredDef) (o : Option FoundFact) (found : FoundFact) → o ≡ Some found → find_pred p.preds u.pred ≡ Some d → (un : Unfolds p memory m entry d found.fact (record (logic_state c) { facts = found.others }) c out)
      → AlongFound out o (find_pred p.preds u.pred) (Some un.number)
  case_along out d o found is_there finds un =
      subst (λ k. AlongFound out k (find_pred p.preds u.pred) (Some un.number)) (sym is_there) (subst (λ k. AlongFound out (Some found) k (Some un.number)) (sym finds) (un, refl))

  core_fails : (core : Core) (a b : Outcomes) → Fails (Some core) a b
  core_fails core a b = (refl, refl)

  no_ins : (o : Option Core) (a b : Outcomes) (fault : Fault) → a ≡ Err fault → Fails o a b
  no_ins (Some core) a b fault is = (refl, refl)
  no_ins None a b fault is = subst (λ k. Fails None k b) (sym is) (refl, refl)

  no_outs : (o : Option Core) (a b : Outcomes) (fault : Fault) → b ≡ Err fault → Fails o a b
  no_outs (Some core) a b fault is = (refl, refl)
  no_outs None (Err other) b fault is = (refl, refl)
  no_outs None (Ok ws) b fault is = subst (λ k. Fails None (Ok ws) k) (sym is) (refl, refl)

  no_fact : (o : Option FoundFact) → o ≡ None → AlongFound (has_fault fold_body) o (find_pred p.preds u.pred) None
  no_fact o none = subst (λ k. AlongFound (has_fault fold_body) k (find_pred p.preds u.pred) None) (sym none) (refl, refl)

  no_pred_found : (o : Option FoundFact) (d : Option PurePredDef) → d ≡ None → AlongFound (has_fault fold_body) o d None
  no_pred_found None d none = (refl, refl)
  no_pred_found (Some found) d none = subst (λ k. AlongFound (has_fault fold_body) (Some found) k None) (sym none) (refl, refl)

  no_pred : (o : Option Core) (a b : Outcomes) → find_pred p.preds u.pred ≡ None → Fails o a b
  no_pred (Some core) a b none = (refl, refl)
  no_pred None (Err fault) b none = (refl, refl)
  no_pred None (Ok ws) (Err fault) none = (refl, refl)
  no_pred None (Ok ws) (Ok us) none = no_pred_found (first_fact (fits_fact u.pred ws (map Some us)) c.facts) (find_pred p.preds u.pred) none

-- ---- faults under every valuation

module _ (p : PureParts) (memory : MemoryName) (m : Actions) {S : Type 0} (stands : S → List PureValue → Heap → Type 0) (e : PureEntry) (x : PureChecking S) (u : PurePredUse) (n : PureNumberedCommand) (at : command_of_path p x.path ≡ Some n)
    (this : n.command ≡ unfold_use u) where
  along_there : (v : List PureValue) (entry : Entry) (c : Checked) (out : Outcome) (chosen : Option ℕ) → StandsForChecked stands e x v entry c → Along p memory m entry u c out (core_of u.pred) (evaluate_all u.ins (names_at entry c)) (evaluate_all u.outs (names_at entry c)) chosen
      → LeadsAlong p memory m entry c chosen out
  along_there v entry c out chosen stand along = leads_along p memory m stands x.path v entry c n (unfold_use u) stand.path at this chosen out along

  -- a core predicate isn't unfolded
  pub core_is_fault : (core : Core) → core_of u.pred ≡ Some core → IsRightDoubt p memory m stands e x FaultKind.FoldBody always
  core_is_fault core is v entry c stand met =
      along_there v entry c (has_fault fold_body) None stand
      (subst (λ o. Fails p memory m entry u c o (evaluate_all u.ins (names_at entry c)) (evaluate_all u.outs (names_at entry c))) (sym is)
      (core_fails p memory m entry u c core (evaluate_all u.ins (names_at entry c)) (evaluate_all u.outs (names_at entry c))))

  -- nor is a predicate that the program doesn't have
  pub unknown_is_fault : find_pred p.preds u.pred ≡ None → IsRightDoubt p memory m stands e x FaultKind.FoldBody always
  unknown_is_fault none v entry c stand met =
      along_there v entry c (has_fault fold_body) None stand (no_pred p memory m entry u c (core_of u.pred) (evaluate_all u.ins (names_at entry c)) (evaluate_all u.outs (names_at entry c)) none)

-- ---- a predicate of the program

module _ (p : PureParts) (memory : MemoryName) (m : Actions) {S : Type 0} (stands : S → List PureValue → Heap → Type 0) (terms : S → StateTerms) (meaning : IsMeaning memory stands terms) (kept : S → Type 0) (e : PureEntry) (x : PureChecking S)
    (u : PurePredUse) (user : core_of u.pred ≡ None) (d : PurePredDef) (finds : find_pred p.preds u.pred ≡ Some d) (made : is_well_made p ≡ true) (modes : HasModes p memory)
    (s : PureState S) (bs : PureStore) (is : IsStateOf stands terms x.path x.facts s) (names : AreNames x.path.stack e.variables bs)
    (n : PureNumberedCommand) (may : MayGoOn p terms e x) (at : command_of_path p x.path ≡ Some n) (this : n.command ≡ unfold_use u) (here : Place) (place : IsPlaceOf p x.path.stack here) where
  fails_there : (v : List PureValue) (entry : Entry) (c : Checked) → StandsForChecked stands e x v entry c → Fails p memory m entry u c (core_of u.pred) (evaluate_all u.ins (names_at entry c)) (evaluate_all u.outs (names_at entry c))
      → LeadsAlong p memory m entry c None (has_fault fold_body)
  fails_there v entry c stand fails = along_there p memory m stands e x u n at this v entry c (has_fault fold_body) None stand fails

  -- ---- where the ins can't be read

  ins_unread : (v : List PureValue) (entry : Entry) (c : Checked) → StandsForChecked stands e x v entry c → AreUnread stands terms s bs u.ins v → LeadsAlong p memory m entry c None (has_fault fold_body)
  ins_unread v entry c stand fails =
      let (fault, err) = fails (names_at entry c) (logic_state c) (serves_before p memory m stands terms meaning kept e x u user d finds made modes s bs is names v entry c may stand) in
      fails_there v entry c stand (no_ins p memory m entry u c (core_of u.pred) (evaluate_all u.ins (names_at entry c)) (evaluate_all u.outs (names_at entry c)) fault err)

  pub unread_is_exact : (nexts : List (PureNext S)) → DoubtsAlone FaultKind.FoldBody here x s (AreUnread stands terms s bs u.ins) nexts → AreExact p memory m stands e x nexts
  unread_is_exact nexts doubts =
      right_doubts p memory m stands e x FaultKind.FoldBody s (AreUnread stands terms s bs u.ins) (state_vars stands terms x.path x.facts s is) ([], state_conds stands terms x.path x.facts s is ∙ sym (append-nil x.path.conds))
      (λ v entry c stand. (serves_before p memory m stands terms meaning kept e x u user d finds made modes s bs is names v entry c may stand).state.meets) ins_unread here place nexts doubts

  module _ (valid : IsValid p) (r : PureState S) (ins : List PureTerm) (read_ins : AreRead stands terms s bs u.ins r ins) where
    served_in : (v : List PureValue) (entry : Entry) (c : Checked) → StandsForChecked stands e x v entry c → states.Serves stands terms r bs v (names_at entry c) (logic_state c)
    served_in v entry c stand = serves_after p memory m stands terms meaning kept e x u user d finds made modes s bs is names valid r ins read_ins v entry c may stand

    r_vars : r.vars ≡ x.path.vars
    r_vars = read_vars stands terms s r bs u.ins ins read_ins ∙ state_vars stands terms x.path x.facts s is

    r_longer : IsLonger x.path.conds r.conds
    r_longer = subst (λ cs. IsLonger cs r.conds) (state_conds stands terms x.path x.facts s is) read_ins.longer

    -- ---- where the outs can't be read

    outs_unread : (v : List PureValue) (entry : Entry) (c : Checked) → StandsForChecked stands e x v entry c → AreUnread stands terms r bs u.outs v → LeadsAlong p memory m entry c None (has_fault fold_body)
    outs_unread v entry c stand fails =
        let (fault, err) = fails (names_at entry c) (logic_state c) (served_in v entry c stand) in
        fails_there v entry c stand (no_outs p memory m entry u c (core_of u.pred) (evaluate_all u.ins (names_at entry c)) (evaluate_all u.outs (names_at entry c)) fault err)

    module _ (q : PureState S) (outs : List PureTerm) (read_outs : AreRead stands terms r bs u.outs q outs) where
      -- the arguments in a checked state for which the path stands
      record AreThere (v : List PureValue) (entry : Entry) (c : Checked) : Type 0 where
        ws : List PureValue
        us : List PureValue
        ok_ins : evaluate_all u.ins (names_at entry c) ≡ Ok ws
        ok_outs : evaluate_all u.outs (names_at entry c) ≡ Ok us
        has : HasArguments memory stands terms kept d ins outs q v (logic_state c) ws us

      are_there : (v : List PureValue) (entry : Entry) (c : Checked) → StandsForChecked stands e x v entry c → AreThere v entry c
      are_there v entry c stand =
          let (ws, (ok_ins, have_ins, stand_r)) = read_ins.have v (names_at entry c) (logic_state c) (serves_before p memory m stands terms meaning kept e x u user d finds made modes s bs is names v entry c may stand) in
          let (us, (ok_outs, have_outs, stand_q)) = read_outs.have v (names_at entry c) (logic_state c) (served_in v entry c stand) in
          record { ws = ws; us = us; ok_ins = ok_ins; ok_outs = ok_outs; has = record { stands_for = stand_q; ins_are = have_ins; outs_are = have_outs } }

      longer_q : IsLonger x.path.conds q.conds
      longer_q = longer_both x.path.conds r.conds q.conds r_longer read_outs.longer

      -- ---- where there is no such fact, or the predicate has other numbers of ins and outs

      no_fact_there : (v : List PureValue) (entry : Entry) (c : Checked) → StandsForChecked stands e x v entry c → HasNoFact memory stands terms kept d q ins outs v → LeadsAlong p memory m entry c None (has_fault fold_body)
      no_fact_there v entry c stand none =
          let a = are_there v entry c stand in
          let none_there : first_fact (fits_fact u.pred a.ws (map Some a.us)) c.facts ≡ None = subst (λ name. first_fact (fits_fact name a.ws (map Some a.us)) c.facts ≡ None) (pred_named p.preds u.pred d finds) (none (logic_state c) a.ws a.us a.has) in
          fails_there v entry c stand
          (by_values p memory m entry u c (has_fault fold_body) (core_of u.pred) (evaluate_all u.ins (names_at entry c)) (evaluate_all u.outs (names_at entry c)) a.ws a.us None user a.ok_ins a.ok_outs
          (no_fact p memory m entry u c (first_fact (fits_fact u.pred a.ws (map Some a.us)) c.facts) none_there))

      are_as_many : (v : List PureValue) (entry : Entry) (c : Checked) → StandsForChecked stands e x v entry c → AreAsMany d ins outs
      are_as_many v entry c stand =
          let a = are_there v entry c stand in
          let (many_ins, many_outs) = as_many_there p valid u d user finds x.path.stack n at this in (
            sym (as_many v ins a.ws a.has.ins_are) ∙ (evaluated_length (names_at entry c) u.ins a.ws a.ok_ins ∙ many_ins),
            sym (as_many v outs a.us a.has.outs_are) ∙ (evaluated_length (names_at entry c) u.outs a.us a.ok_outs ∙ many_outs),
          )

      -- ---- a case that goes on

      same_choices : (k : PureState S) → IsFurther terms kept q k → k.path ≡ x.path.choices
      same_choices k f =
          ap (λ (h : PureState S). h.path) f.same_else ∙ (ap (λ (h : PureState S). h.path) read_outs.same_else ∙ (ap (λ (h : PureState S). h.path) read_ins.same_else ∙ ap (λ (h : PureState S). h.path) is.is))

      further_vars : (k : PureState S) (f : IsFurther terms kept q k) → k.vars ≡ x.path.vars ++ f.sorts
      further_vars k f = vars_of p memory m stands terms meaning kept e x u user d finds made modes s bs is names valid r ins read_ins q outs read_outs k f

      longer_further : (k : PureState S) → IsFurther terms kept q k → IsLonger x.path.conds k.conds
      longer_further k f = longer_both x.path.conds q.conds k.conds longer_q (f.more, f.conds)

      -- arguments under a valuation, and values of new variables
      record IsAsked : Type 0 where
        before : List PureValue
        values : List PureValue
        state : LogicState
        ws : List PureValue
        us : List PureValue
        has : HasArguments memory stands terms kept d ins outs q before state ws us

      abbrev StandsSo : IsAsked → PureUnfoldedCase S → Type 0
      StandsSo a k = IsMetAfter q k.state (a.before ++ a.values) → IsUnfoldingOf memory stands terms kept d ins outs q a.state a.ws a.us (a.before ++ a.values) k

      abbrev StandsExactly : PureUnfoldedCase S → Type 0
      StandsExactly k = (a : IsAsked) → StandsSo a k

      module _ (k : PureUnfoldedCase S) (next : PureNext S) (f : IsFurther terms kept q k.state) (law : StandsExactly k) (no_form : has_open k.state.conds ≡ false) (goes : GoesOnIn stands terms x (chosen_case k.number k.state) k.state.facts next) where
        abbrev Answer : (y : PureChecking S) × ((next ≡ further y) × GoesOnWith stands terms k.state.facts x.passed (passing (with_state x.path (chosen_case k.number k.state))) y)
        Answer = answer p memory m stands terms meaning e x may (chosen_case k.number k.state) k.state.facts next goes f.sorts (further_vars k.state f)

        abbrev y : PureChecking S
        y = Answer.0

        y_vars : y.path.vars ≡ k.state.vars
        y_vars = ap (λ (h : PurePath S). h.vars) Answer.1.1.same_path

        y_conds : y.path.conds ≡ k.state.conds
        y_conds = ap (λ (h : PurePath S). h.conds) Answer.1.1.same_path

        none_added : has_open (added_conds q k.state) ≡ false
        none_added = ap has_open (added_is q k.state f.more f.conds) ∙ (none_open q.conds f.more (ap has_open (sym f.conds) ∙ no_form)).1

        module _ (v w : List PureValue) (entry : Entry) (c : Checked) (under_it : IsUnder stands e x y.path.vars y.path.conds v w entry c) where
          abbrev new_vars : List Sort
          new_vars = under_it.continued.new_vars

          abbrev values : List PureValue
          values = under_it.continued.new_values

          abbrev counter : ℕ
          counter = counter_past new_vars c.machine.counter

          abbrev there : AreThere v entry c
          there = are_there v entry c under_it.standing

          met_after : IsMetAfter q k.state (v ++ values)
          met_after = record {
            meets = subst (λ u. Satisfies k.state.vars u k.state.conds) under_it.continued.values (subst (λ (h : PurePath S). Satisfies h.vars w h.conds) Answer.1.1.same_path under_it.meets);
            no_form = none_added;
          }

          abbrev un : IsUnfoldingOf memory stands terms kept d ins outs q (logic_state c) there.ws there.us (v ++ values) k
          un = law (record { before = v; values = values; state = logic_state c; ws = there.ws; us = there.us; has = there.has }) met_after

          is_there : first_fact (fits_fact u.pred there.ws (map Some there.us)) c.facts ≡ Some un.found
          is_there = subst (λ name. first_fact (fits_fact name there.ws (map Some there.us)) c.facts ≡ Some un.found) (pred_named p.preds u.pred d finds) un.is_found

          abbrev after : Checked
          after = with_logic un.next counter c

          abbrev advanced : State
          advanced = record after.machine { current = record after.machine.current { next = after.machine.current.next + 1 } }

          stands_there : states.Stands stands k.state w un.next
          stands_there = subst (λ u. states.Stands stands k.state u un.next) (sym under_it.continued.values) un.stands_for

          below : AreBelow counter values
          below = new_values_below new_vars values c.machine.counter under_it.continued.in_turn

          stands_on : StandsForChecked stands e y w entry (moved after advanced)
          stands_on =
              state_there p memory m stands terms meaning e x may (chosen_case k.number k.state) k.state.facts next goes f.sorts (further_vars k.state f) v w values entry c un.next un.next.facts counter under_it.continued.values under_it.standing
              (record { proper = stands_there.proper; meets = stands_there.meets; memory = stands_there.memory; facts = stands_there.facts }) (counter_rises new_vars c.machine.counter) below stands_there.facts

          is_above : IsAbove after
          is_above =
              let above = stands_above memory stands terms meaning e y w entry (moved after advanced) stands_on in
              record { heap_below = above.heap_below; current_below = above.current_below; callers_below = above.callers_below; facts_below = above.facts_below }

          unfolds : Unfolds p memory m entry d un.found.fact (record (logic_state c) { facts = un.found.others }) c (goes_on_to (moved after advanced))
          unfolds = record {
            number = k.number;
            items = un.added.items;
            case = un.added.case;
            store = un.store;
            ins_agree = un.added.ins_agree;
            outs_agree = un.added.outs_agree;
            sorts = un.added.sorts;
            counter = counter;
            next = after;
            adds = record { state = un.next; adding = un.added.adding; not_lower = counter_rises new_vars c.machine.counter; is_next = refl; above = is_above };
            leads = refl;
          }

          leads_on : LeadsOn p memory m stands e x y w entry c new_vars
          unfolding unfolds
          leads_on = record {
            state = moved after advanced;
            chosen = Some k.number;
            choices = ap (λ (h : PurePath S). h.choices) Answer.1.1.same_path ∙ ap (λ cs. cs ++ k.number ∷ []) (same_choices k.state f);
            leads = along_there p memory m stands e x u n at this v entry c (goes_on_to (moved after advanced)) (Some k.number) under_it.standing
                (by_values p memory m entry u c (goes_on_to (moved after advanced)) (core_of u.pred) (evaluate_all u.ins (names_at entry c)) (evaluate_all u.outs (names_at entry c)) there.ws there.us (Some k.number) user there.ok_ins there.ok_outs
                (case_along p memory m entry u c (goes_on_to (moved after advanced)) d (first_fact (fits_fact u.pred there.ws (map Some there.us)) c.facts) un.found is_there finds unfolds));
            stands_for = stands_on;
            counted = refl;
          }

        followed : (w : List PureValue) → Satisfies k.state.vars w k.state.conds → IsFollowed p memory m stands e x y
        followed w meets = record {
          table = (f.sorts, y_vars ∙ further_vars k.state f);
          longer = let (more, grown) = longer_further k.state f in (more, y_conds ∙ grown);
          met = λ v before. (w, subst (λ (h : PurePath S). Satisfies h.vars w h.conds) (sym Answer.1.1.same_path) meets);
          exact = leads_on;
        }

      -- ---- what is answered of each case

      undecided_there : (k : PureUnfoldedCase S) → IsFurther terms kept q k.state → (reason : Reason) → IsOutside k.state.conds reason
          → IsUndecided x p reason (record (shown_of here (with_state x.path (chosen_case k.number k.state))) { conds = k.state.conds })
      undecided_there k f reason outside = record {
        at = record { place = place; table = (f.sorts, further_vars k.state f); longer = longer_further k.state f; known = λ u none. not_none none };
        chosen = Some k.number;
        choices = ap (λ cs. cs ++ k.number ∷ []) (same_choices k.state f);
        outside = outside.outside;
        first = outside.first;
      }

      exact_case : (k : PureUnfoldedCase S) (next : PureNext S) → IsUnfoldedNext stands terms here x k.number k.state next → IsFurther terms kept q k.state × StandsExactly k → IsExactNext p memory m stands e x next
      exact_case k next (inr (inl (done, unsat))) (f, law) = subst (IsExactNext p memory m stands e x) (sym done) tt
      exact_case k next (inr (inr (reason, (outside, (cause, (is_cause, shows)))))) (f, law) =
          subst (IsExactNext p memory m stands e x) (sym is_cause) (subst (IsRightCause p memory m stands e x) (sym shows) (undecided_there k f reason outside))
      exact_case k next (inl (no_form, ((w, meets), goes))) (f, law) = subst (IsExactNext p memory m stands e x) (sym (Answer k next f law no_form goes).1.0) (followed k next f law no_form goes w meets)

      unfoldings_exact : (nexts : List (PureNext S)) → AreUnfoldings memory stands terms kept here d x q ins outs nexts → AreExact p memory m stands e x nexts
      unfoldings_exact nexts (inl doubts) =
          right_doubts p memory m stands e x FaultKind.FoldBody q (HasNoFact memory stands terms kept d q ins outs) (read_vars stands terms r q bs u.outs outs read_outs ∙ r_vars) longer_q
          (λ v entry c stand. (are_there v entry c stand).has.stands_for.meets) no_fact_there here place nexts doubts
      unfoldings_exact nexts (inr (inl (others, alone))) =
          right_alone p memory m stands e x FaultKind.FoldBody here place always (λ v entry c stand met. absurd (others (are_as_many v entry c stand))) nexts alone
      unfoldings_exact nexts (inr (inr (counts, (rs, (all, later, exactly, each))))) =
          each_across (λ k next. IsUnfoldedNext stands terms here x k.number k.state next) (λ k. IsFurther terms kept q k.state × StandsExactly k) (IsExactNext p memory m stands e x) rs nexts each exact_case
          (both_each (λ k. IsFurther terms kept q k.state) StandsExactly (λ k. IsFurther terms kept q k.state × StandsExactly k) rs (λ k f law. (f, law)) later
          (each_for_all StandsSo rs (λ a. exactly a.before a.values a.state a.ws a.us a.has)))

    pub unfold_exact : (nexts : List (PureNext S)) → UnfoldsOuts memory stands terms kept here d x bs u r ins nexts → AreExact p memory m stands e x nexts
    unfold_exact nexts (inl doubts) =
        right_doubts p memory m stands e x FaultKind.FoldBody r (AreUnread stands terms r bs u.outs) r_vars r_longer
        (λ v entry c stand. (served_in v entry c stand).state.meets) outs_unread here place nexts doubts
    unfold_exact nexts (inr (inl (none, never))) = subst (AreExact p memory m stands e x) (sym none) tt
    unfold_exact nexts (inr (inr (q, (outs, (read, unfoldings))))) = unfoldings_exact q outs read nexts unfoldings
