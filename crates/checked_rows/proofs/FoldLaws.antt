-- The row of `fold` covers what the checked states lead to, and is exact.
use Rattle.std.proofs.Common.{◌≡◌, inl, inr, ℕ, ◌+◌, List, [], ◌∷◌, ◌++◌, Option, Some, None, Ok, Err, IsTrue, refl, sym, ap, subst, ◌∙◌, arith, append-nil}
use Rattle.gil_values.specs.declared.places.Place.{Place}
use Rattle.gil_values.specs.Operators.{Fault}
use Rattle.gil_machine.specs.State.{State}
use Rattle.gil_values.specs.Pure.{PureValue}
use Rattle.gil_syntax.specs.Evaluation.{Store, Outcomes, evaluate_all}
use Rattle.gil_syntax.specs.Pure.{PureParts, PureExpr, PurePredUse, PureNumberedCommand, fold_use}
use Rattle.gil_syntax.specs.Valid.{ends_body, IsValid}
use Rattle.mem_model.specs.CoreNames.{core_of}
use Rattle.mem_model.specs.declared.cores.Core.{Core}
use Rattle.mem_model.specs.declared.keys.MemoryName.{MemoryName}
use Rattle.mem_model.specs.Actions.{Actions}
use Rattle.mem_model.specs.Heaps.{Heap}
use Rattle.assert_logic.specs.LogicStates.{Fact, LogicState}
use Rattle.assert_logic.specs.Matching.{match_fold}
use Rattle.checked_runs.specs.Checked.{Checked, Outcome, goes_on_to, has_fault, fold_body, Entry, is_call, moved, names_at, logic_state, with_logic, folded, fold_by}
use Rattle.pure_terms.specs.Meaning.{all_true, IsOver, Satisfies}
use Rattle.pure_terms.specs.Pure.{PureTerm}
use Rattle.sym_evaluation.specs.Meaning.{HaveValues, IsStoreOver}
use Rattle.sym_evaluation.specs.Pure.{PureStore}
use Rattle.sym_model.proofs.ListLaws.{same_some, not_none, each_append}
use Rattle.sym_model.specs.Laws.{IsMeaning}
use Rattle.sym_model.specs.Lists.{Each, OneOf}
use Rattle.sym_model.specs.Terms.{StateTerms, AreEachOver}
use Rattle.sym_paths.specs.Meaning.{command_of_path}
use Rattle.sym_paths.specs.Moves.{passing}
use Rattle.sym_paths.specs.Pure.{PurePath}
use Rattle.sym_paths.specs.Steps.{IsPlaceOf}
use Rattle.sym_states.proofs.Values.{facts_more}
use Rattle.sym_states.specs.Meaning as states
use Rattle.sym_states.specs.Meaning.{Serves}
use Rattle.sym_states.specs.Pure.{PureFact, PureState}
use Rattle.footprint.proofs.Parts.{longer_both}
use Rattle.footprint.specs.Consuming.{IsFolding, Folds}
use Rattle.footprint.specs.Leaves.{IsLonger, IsMatch, AreAll}
use Rattle.footprint.specs.Pure.{PureMatch}
use Rattle.checked_paths.proofs.Lists.{one_across, each_across}
use Rattle.checked_paths.specs.Covering.{CoversOutcome, CoversLeads, FollowsOn, AreNexts}
use Rattle.checked_paths.specs.declared.nexts.FaultKind.{FaultKind}
use Rattle.checked_paths.specs.Choosing.{LeadsAlong}
use Rattle.checked_paths.specs.Exactness.{IsUnder, LeadsOn, IsFollowed, IsExactNext, AreExact}
use Rattle.checked_paths.specs.Following.{GoesOnWith}
use Rattle.checked_paths.specs.Meaning.{StandsForChecked, AreFactsOver, MayGoOn}
use Rattle.checked_paths.specs.Pure.{PureEntry, PureChecking, PureNext, further}
use Rattle.checked_rows.specs.Doubts.{always, beyond, DoubtsAlone, IsRightDoubt}
use Rattle.checked_rows.specs.Folding.{GoesOnIn, fact_of, IsFoldedNext, EachFolded, FoldFails, AreFoldings, FoldsOuts}
use Rattle.checked_rows.specs.Names.{AreNames}
use Rattle.checked_rows.specs.Reading.{AreRead, AreUnread}
use Rattle.checked_rows.specs.Rows.{AreRowOf}
use Rattle.checked_rows.specs.States.{IsStateOf, with_state}
use Rattle.checked_rows.proofs.ExactLaws.{same_values_there, same_counter, leads_along, chosen_there, right_next, right_doubts, doubt_is_cause}
use Rattle.checked_rows.proofs.MatchLaws.{one_of_each, Found, serves_there}
use Rattle.checked_rows.proofs.RowLaws.{leads_by, nothing_more, cause_covers, uses_nothing}
use Rattle.checked_rows.proofs.StateLaws.{state_conds, state_vars}
use Rattle.checked_rows.proofs.StepLaws.{none_below, answer, state_there, state_covers, state_follows}

-- one list of values
same_values : (v : List PureValue) (ts : List PureTerm) (ws us : List PureValue) → HaveValues v ts ws → HaveValues v ts us → ws ≡ us
same_values v ts ws us first second = same_some (sym first ∙ second)

module _ {S : Type 0} (stands : S → List PureValue → Heap → Type 0) (terms : S → StateTerms) (s r : PureState S) (bs : PureStore) (es : List PureExpr) (ts : List PureTerm) (read : AreRead stands terms s bs es r ts) where
  pub read_vars : r.vars ≡ s.vars
  read_vars = ap (λ (q : PureState S). q.vars) read.same_else

  -- what was served is served where the expressions are read
  pub read_serves : (v : List PureValue) (t : Store) (l : LogicState) → Serves stands terms s bs v t l → states.Stands stands r v l → Serves stands terms r bs v t l
  read_serves v t l serves stand = record {
    over = read.over;
    store_over = subst (λ vars. IsStoreOver vars bs) (sym read_vars) serves.store_over;
    store = serves.store;
    state = stand;
  }

-- where there is a fault or a value, and no core predicate
fold_of : (p : PureParts) (memory : MemoryName) (m : Actions) (entry : Entry) (o : Option Core) (name : List ℕ) (a b : Outcomes) (ws us : List PureValue) (c : Checked) → o ≡ None → a ≡ Ok ws → b ≡ Ok us
    → fold_by p memory m entry o name a b c ≡ folded p memory m entry (match_fold p.preds name ws us (logic_state c)) (record { pred = name; ins = ws; outs = us }) c
fold_of p memory m entry o name a b ws us c none first second =
    ap (λ k. fold_by p memory m entry k name a b c) none ∙ (ap (λ k. fold_by p memory m entry None name k b c) first ∙ ap (λ k. fold_by p memory m entry None name (Ok ws) k c) second)

-- where ins or outs have no values
no_ins : (p : PureParts) (memory : MemoryName) (m : Actions) (entry : Entry) (o : Option Core) (name : List ℕ) (a b : Outcomes) (fault : Fault) (c : Checked) → a ≡ Err fault → fold_by p memory m entry o name a b c ≡ has_fault fold_body
no_ins p memory m entry (Some core) name a b fault c is = refl
no_ins p memory m entry None name a b fault c is = ap (λ k. fold_by p memory m entry None name k b c) is

no_outs : (p : PureParts) (memory : MemoryName) (m : Actions) (entry : Entry) (o : Option Core) (name : List ℕ) (a b : Outcomes) (fault : Fault) (c : Checked) → b ≡ Err fault → fold_by p memory m entry o name a b c ≡ has_fault fold_body
no_outs p memory m entry (Some core) name a b fault c is = refl
no_outs p memory m entry None name (Err other) b fault c is = refl
no_outs p memory m entry None name (Ok ws) b fault c is = ap (λ k. fold_by p memory m entry None name (Ok ws) k c) is

module _ (p : PureParts) (memory : MemoryName) (m : Actions) {S : Type 0} (stands : S → List PureValue → Heap → Type 0) (terms : S → StateTerms) (meaning : IsMeaning memory stands terms) (kept : S → Type 0) (e : PureEntry) (x : PureChecking S)
    (u : PurePredUse) (user : core_of u.pred ≡ None) (s : PureState S) (bs : PureStore) (is : IsStateOf stands terms x.path x.facts s) (names : AreNames x.path.stack e.variables bs) where
  -- nothing comes where nothing is served
  pub never_covers : (q : PureState S) → ((v : List PureValue) (entry : Entry) (c : Checked) → MayGoOn p terms e x → StandsForChecked stands e x v entry c → Serves stands terms q bs v (names_at entry c) (logic_state c))
      → ((v : List PureValue) (t : Store) (l : LogicState) → ¬ Serves stands terms q bs v t l) → AreRowOf p memory m stands terms e x (fold_use u) [] []
  never_covers q serves never n may at this = record {
    cover = λ v entry c out stand above leads. absurd (never v (names_at entry c) (logic_state c) (serves v entry c may stand));
    uses = uses_nothing p memory m stands e x n [] [] at (ap is_call this);
    follow = tt;
  }

  pub serves_first : (v : List PureValue) (entry : Entry) (c : Checked) → MayGoOn p terms e x → StandsForChecked stands e x v entry c → Serves stands terms s bs v (names_at entry c) (logic_state c)
  serves_first v entry c may stand = serves_there stands terms kept e x s bs may.over is names v entry c stand

  module _ (valid : IsValid p) (r : PureState S) (ins : List PureTerm) (read_ins : AreRead stands terms s bs u.ins r ins) where
    serves_second : (v : List PureValue) (entry : Entry) (c : Checked) → MayGoOn p terms e x → StandsForChecked stands e x v entry c → Serves stands terms r bs v (names_at entry c) (logic_state c)
    serves_second v entry c may stand =
        let serves = serves_first v entry c may stand in
        let (ws, (ok, have, stand_r)) = read_ins.have v (names_at entry c) (logic_state c) serves in
        read_serves stands terms s r bs u.ins ins read_ins v (names_at entry c) (logic_state c) serves stand_r

    module _ (q : PureState S) (outs : List PureTerm) (read_outs : AreRead stands terms r bs u.outs q outs) (ms : List (PureMatch S)) (all : AreAll stands terms kept q (IsFolding stands terms q ins outs) (Folds p.preds u.pred ins outs) ms) (nexts : List (PureNext S))
        (here : Place) (each : EachFolded stands terms here x (fact_of u.pred ins outs) ms nexts) (n : PureNumberedCommand) (may : MayGoOn p terms e x) (at : command_of_path p x.path ≡ Some n) (this : n.command ≡ fold_use u) where
      vars_of : (k : PureMatch S) → IsMatch stands terms kept q (IsFolding stands terms q ins outs) (Folds p.preds u.pred ins outs) k → k.state.vars ≡ x.path.vars ++ []
      vars_of k match =
          ap (λ (h : PureState S). h.vars) match.later.same_else ∙ (read_vars stands terms r q bs u.outs outs read_outs ∙ (read_vars stands terms s r bs u.ins ins read_ins ∙ (state_vars stands terms x.path x.facts s is ∙ nothing_more x.path.vars)))

      abbrev FoundAt : List PureValue → LogicState → PureMatch S → Type 0
      FoundAt v l k = Found stands terms kept q (IsFolding stands terms q ins outs) (Folds p.preds u.pred ins outs) v [] l k × (k.state.vars ≡ x.path.vars ++ [])

      found_covers : (v : List PureValue) (entry : Entry) (c : Checked) (out : Outcome) (ws us : List PureValue) → StandsForChecked stands e x v entry c → HaveValues v ins ws → HaveValues v outs us
          → out ≡ folded p memory m entry (match_fold p.preds u.pred ws us (logic_state c)) (record { pred = u.pred; ins = ws; outs = us }) c
          → (k : PureMatch S) (next : PureNext S) → IsFoldedNext stands terms here x (fact_of u.pred ins outs) k.state next → FoundAt v (logic_state c) k → CoversOutcome stands e entry v out next
      found_covers v entry c out ws us stand have_ins have_outs led k next (inr (inl (done, unsat))) ((t', (l', (folds, serves))), vars) =
          absurd (unsat v (record { proper = serves.state.proper; true_there = serves.state.meets }))
      found_covers v entry c out ws us stand have_ins have_outs led k next (inr (inr (reason, (outside, (cause, (is_cause, shows)))))) found = subst (CoversOutcome stands e entry v out) (sym is_cause) tt
      found_covers v entry c out ws us stand have_ins have_outs led k next (inl (met, goes)) ((t', (l', (folds, serves))), vars) =
          let f : Fact = record { pred = u.pred; ins = ws; outs = us } in
          let left : states.Stands stands k.state v folds.found.state = subst (states.Stands stands k.state v) (sym folds.left) serves.state in
          let matches : match_fold p.preds u.pred ws us (logic_state c) ≡ Some folds.found =
          subst (λ ys. match_fold p.preds u.pred ws ys (logic_state c) ≡ Some folds.found) (same_values v outs folds.us us folds.have_outs have_outs)
          (subst (λ ys. match_fold p.preds u.pred ys folds.us (logic_state c) ≡ Some folds.found) (same_values v ins folds.ws ws folds.have_ins have_ins) folds.folds) in
          let facts : states.AreFacts v (k.state.facts ++ fact_of u.pred ins outs ∷ []) (folds.found.state.facts ++ f ∷ []) =
          facts_more v k.state.facts folds.found.state.facts (fact_of u.pred ins outs) f left.facts (record { pred = refl; ins = have_ins; outs = have_outs }) in
          state_covers p memory m stands terms meaning e x may k.state (k.state.facts ++ fact_of u.pred ins outs ∷ []) next goes [] vars v v [] entry c folds.found.state (folds.found.state.facts ++ f ∷ []) c.machine.counter out (nothing_more v) stand left facts
          (omega arith) (none_below c.machine.counter) (led ∙ ap (λ o. folded p memory m entry o f c) matches)

      covers : CoversLeads p memory m stands e x nexts
      covers v entry c out stand above leads =
          let t = names_at entry c in
          let l = logic_state c in
          let (ws, (ok_ins, have_ins, stand_r)) = read_ins.have v t l (serves_first v entry c may stand) in
          let (us, (ok_outs, have_outs, stand_q)) = read_outs.have v t l (serves_second v entry c may stand) in
          let led : out ≡ fold_by p memory m entry (core_of u.pred) u.pred (evaluate_all u.ins t) (evaluate_all u.outs t) c = leads_by p memory m stands x.path v entry c out n (fold_use u) stand.path at this leads in
          let folding : IsFolding stands terms q ins outs v [] l = record {
            serves = record { over = read_outs.over; store_over = λ y term none. not_none none; store = λ y. tt; state = stand_q };
            ws = ws;
            us = us;
            have_ins = have_ins;
            have_outs = have_outs;
          } in
          let one : OneOf (FoundAt v l) ms =
          one_of_each (IsMatch stands terms kept q (IsFolding stands terms q ins outs) (Folds p.preds u.pred ins outs)) (λ k. IsTrue (all_true v k.state.conds)) (FoundAt v l) ms (λ k match met. (match.exact v [] l folding met, vars_of k match)) all.matched (all.cover v [] l folding) in
          one_across (λ k next. IsFoldedNext stands terms here x (fact_of u.pred ins outs) k.state next) (FoundAt v l) (CoversOutcome stands e entry v out) ms nexts each
          (found_covers v entry c out ws us stand have_ins have_outs (led ∙ fold_of p memory m entry (core_of u.pred) u.pred (evaluate_all u.ins t) (evaluate_all u.outs t) ws us c user ok_ins ok_outs)) one

      fact_over : (k : PureMatch S) → IsMatch stands terms kept q (IsFolding stands terms q ins outs) (Folds p.preds u.pred ins outs) k → AreFactsOver k.state.vars (k.state.facts ++ fact_of u.pred ins outs ∷ [])
      fact_over k match =
          let of_q : k.state.vars ≡ q.vars = ap (λ (h : PureState S). h.vars) match.later.same_else in
          let of_r : k.state.vars ≡ r.vars = of_q ∙ read_vars stands terms r q bs u.outs outs read_outs in
          let of_s : k.state.vars ≡ s.vars = of_r ∙ read_vars stands terms s r bs u.ins ins read_ins in
          each_append (λ h. AreEachOver k.state.vars (h.ins ++ h.outs)) k.state.facts (fact_of u.pred ins outs ∷ []) match.later.over.facts
          (each_append (IsOver k.state.vars) ins outs (subst (λ vars. AreEachOver vars ins) (sym of_s) read_ins.terms_over) (subst (λ vars. AreEachOver vars outs) (sym of_r) read_outs.terms_over), tt)

      follows_one : (k : PureMatch S) (next : PureNext S) → IsFoldedNext stands terms here x (fact_of u.pred ins outs) k.state next → IsMatch stands terms kept q (IsFolding stands terms q ins outs) (Folds p.preds u.pred ins outs) k → FollowsOn p terms e x next
      follows_one k next (inr (inl (done, unsat))) match = subst (FollowsOn p terms e x) (sym done) tt
      follows_one k next (inr (inr (reason, (outside, (cause, (is_cause, shows)))))) match = subst (FollowsOn p terms e x) (sym is_cause) tt
      follows_one k next (inl (met, goes)) match =
          state_follows p memory m stands terms meaning e x may k.state (k.state.facts ++ fact_of u.pred ins outs ∷ []) next goes [] (vars_of k match) n valid at (ap (λ h. ends_body h) this) match.later.over (fact_over k match)

      follow : Each (FollowsOn p terms e x) nexts
      follow =
          each_across (λ k next. IsFoldedNext stands terms here x (fact_of u.pred ins outs) k.state next) (IsMatch stands terms kept q (IsFolding stands terms q ins outs) (Folds p.preds u.pred ins outs)) (FollowsOn p terms e x) ms nexts each follows_one all.matched

      all_nexts : AreNexts p memory m stands terms e x [] nexts
      all_nexts = record { cover = covers; uses = uses_nothing p memory m stands e x n [] nexts at (ap is_call this); follow = follow }

      -- ---- what is answered is exact

      longer_q : IsLonger x.path.conds q.conds
      longer_q =
          longer_both x.path.conds r.conds q.conds
          (subst (λ cs. IsLonger cs r.conds) (state_conds stands terms x.path x.facts s is) read_ins.longer) read_outs.longer

      same_choices : (k : PureMatch S) → IsMatch stands terms kept q (IsFolding stands terms q ins outs) (Folds p.preds u.pred ins outs) k → k.state.path ≡ x.path.choices
      same_choices k match =
          ap (λ (h : PureState S). h.path) match.later.same_else ∙ (ap (λ (h : PureState S). h.path) read_outs.same_else ∙ (ap (λ (h : PureState S). h.path) read_ins.same_else ∙ ap (λ (h : PureState S). h.path) is.is))

      module _ (k : PureMatch S) (next : PureNext S) (match : IsMatch stands terms kept q (IsFolding stands terms q ins outs) (Folds p.preds u.pred ins outs) k)
          (goes : GoesOnIn stands terms x k.state (k.state.facts ++ fact_of u.pred ins outs ∷ []) next) where
        abbrev Answer : (y : PureChecking S) × ((next ≡ further y) × GoesOnWith stands terms (k.state.facts ++ fact_of u.pred ins outs ∷ []) x.passed (passing (with_state x.path k.state)) y)
        Answer = answer p memory m stands terms meaning e x may k.state (k.state.facts ++ fact_of u.pred ins outs ∷ []) next goes [] (vars_of k match)

        abbrev y : PureChecking S
        y = Answer.0

        y_vars : y.path.vars ≡ x.path.vars
        y_vars = ap (λ (h : PurePath S). h.vars) Answer.1.1.same_path ∙ (vars_of k match ∙ append-nil x.path.vars)

        y_conds : y.path.conds ≡ k.state.conds
        y_conds = ap (λ (h : PurePath S). h.conds) Answer.1.1.same_path

        goes_on_as : (v w : List PureValue) (entry : Entry) (c : Checked) (under_it : IsUnder stands e x y.path.vars y.path.conds v w entry c) → LeadsOn p memory m stands e x y w entry c under_it.continued.new_vars
        goes_on_as v w entry c under_it =
            let stand = under_it.standing in
            let same : w ≡ v = same_values_there c.machine.counter x.path.vars y.path.vars v w y_vars under_it.continued in
            let met : IsTrue (all_true v k.state.conds) = subst (λ h. IsTrue (all_true h k.state.conds)) same (subst (λ cs. IsTrue (all_true w cs)) y_conds under_it.meets.true_there) in
            let t = names_at entry c in
            let l = logic_state c in
            let (ws, (ok_ins, have_ins, stand_r)) = read_ins.have v t l (serves_first v entry c may stand) in
            let (us, (ok_outs, have_outs, stand_q)) = read_outs.have v t l (serves_second v entry c may stand) in
            let folding : IsFolding stands terms q ins outs v [] l = record {
              serves = record { over = read_outs.over; store_over = λ z term none. not_none none; store = λ z. tt; state = stand_q };
              ws = ws;
              us = us;
              have_ins = have_ins;
              have_outs = have_outs;
            } in
            let (t', (l', (folds, serves))) = match.exact v [] l folding met in
            let f : Fact = record { pred = u.pred; ins = ws; outs = us } in
            let left : states.Stands stands k.state v folds.found.state = subst (states.Stands stands k.state v) (sym folds.left) serves.state in
            let matches : match_fold p.preds u.pred ws us l ≡ Some folds.found =
            subst (λ ys. match_fold p.preds u.pred ws ys l ≡ Some folds.found) (same_values v outs folds.us us folds.have_outs have_outs)
            (subst (λ ys. match_fold p.preds u.pred ys folds.us l ≡ Some folds.found) (same_values v ins folds.ws ws folds.have_ins have_ins) folds.folds) in
            let facts : states.AreFacts v (k.state.facts ++ fact_of u.pred ins outs ∷ []) (folds.found.state.facts ++ f ∷ []) =
            facts_more v k.state.facts folds.found.state.facts (fact_of u.pred ins outs) f left.facts (record { pred = refl; ins = have_ins; outs = have_outs }) in
            let after : LogicState = record folds.found.state { facts = folds.found.state.facts ++ f ∷ [] } in
            let d : Checked = with_logic after c.machine.counter c in
            let next_state : State = record d.machine { current = record d.machine.current { next = d.machine.current.next + 1 } } in
            let on : StandsForChecked stands e y v entry (moved d next_state) =
            state_there p memory m stands terms meaning e x may k.state (k.state.facts ++ fact_of u.pred ins outs ∷ []) next goes [] (vars_of k match) v v [] entry c folds.found.state (folds.found.state.facts ++ f ∷ []) c.machine.counter (nothing_more v) stand left
            (omega arith) (none_below c.machine.counter) facts in
            let led : goes_on_to (moved d next_state) ≡ fold_by p memory m entry (core_of u.pred) u.pred (evaluate_all u.ins t) (evaluate_all u.outs t) c =
            sym (fold_of p memory m entry (core_of u.pred) u.pred (evaluate_all u.ins t) (evaluate_all u.outs t) ws us c user ok_ins ok_outs ∙ ap (λ o. folded p memory m entry o f c) matches) in
            record {
              state = moved d next_state;
              chosen = None;
              choices = ap (λ (h : PurePath S). h.choices) Answer.1.1.same_path ∙ (same_choices k match ∙ sym (append-nil x.path.choices));
              leads = leads_along p memory m stands x.path v entry c n (fold_use u) stand.path at this None (goes_on_to (moved d next_state))
                  (led, chosen_there p memory m stands x.path v entry c n (fold_use u) stand.path at this);
              stands_for = subst (λ h. StandsForChecked stands e y h entry (moved d next_state)) (sym same) on;
              counted = same_counter c.machine.counter x.path.vars y.path.vars v w y_vars under_it.continued c.machine.counter refl;
            }

        followed : (w : List PureValue) → Satisfies k.state.vars w k.state.conds → IsFollowed p memory m stands e x y
        followed w meets = record {
          table = ([], y_vars ∙ sym (append-nil x.path.vars));
          longer = let (more, grown) = longer_both x.path.conds q.conds k.state.conds longer_q match.later.longer in (more, y_conds ∙ grown);
          met = λ v before. (w, subst (λ (h : PurePath S). Satisfies h.vars w h.conds) (sym Answer.1.1.same_path) meets);
          exact = goes_on_as;
        }

      exact_one : IsPlaceOf p x.path.stack here → (k : PureMatch S) (next : PureNext S) → IsFoldedNext stands terms here x (fact_of u.pred ins outs) k.state next → IsMatch stands terms kept q (IsFolding stands terms q ins outs) (Folds p.preds u.pred ins outs) k
          → IsExactNext p memory m stands e x next
      exact_one place k next (inr (inl (done, unsat))) match = subst (IsExactNext p memory m stands e x) (sym done) tt
      exact_one place k next (inr (inr (reason, (outside, doubt)))) match =
          right_next p memory m stands e x FaultKind.FoldBody here place (beyond k.state.conds reason) (longer_both x.path.conds q.conds k.state.conds longer_q match.later.longer, outside) next doubt
      exact_one place k next (inl ((w, meets), goes)) match = subst (IsExactNext p memory m stands e x) (sym (Answer k next match goes).1.0) (followed k next match goes w meets)

      all_exact : IsPlaceOf p x.path.stack here → AreExact p memory m stands e x nexts
      all_exact place =
          each_across (λ k next. IsFoldedNext stands terms here x (fact_of u.pred ins outs) k.state next) (IsMatch stands terms kept q (IsFolding stands terms q ins outs) (Folds p.preds u.pred ins outs)) (IsExactNext p memory m stands e x) ms nexts each (exact_one place) all.matched

    by_folding : (here : Place) (q : PureState S) (outs : List PureTerm) → AreRead stands terms r bs u.outs q outs → (nexts : List (PureNext S)) → AreFoldings stands terms kept here p.preds x q u.pred ins outs nexts → AreRowOf p memory m stands terms e x (fold_use u) [] nexts
    by_folding here q outs read nexts (inl doubts) = cause_covers p memory m stands terms e x (fold_use u) [] nexts (doubt_is_cause FaultKind.FoldBody here x q (FoldFails stands terms p.preds q u.pred ins outs) nexts doubts)
    by_folding here q outs read nexts (inr (ms, (all, each))) = λ n may at this. all_nexts q outs read ms all nexts here each n may at this

    pub fold_covers : (here : Place) (nexts : List (PureNext S)) → FoldsOuts stands terms kept here p.preds x bs u r ins nexts → AreRowOf p memory m stands terms e x (fold_use u) [] nexts
    fold_covers here nexts (inl doubts) = cause_covers p memory m stands terms e x (fold_use u) [] nexts (doubt_is_cause FaultKind.FoldBody here x r (AreUnread stands terms r bs u.outs) nexts doubts)
    fold_covers here nexts (inr (inl (none, never))) = subst (AreRowOf p memory m stands terms e x (fold_use u) []) (sym none) (never_covers r serves_second never)
    fold_covers here nexts (inr (inr (q, (outs, (read, foldings))))) = by_folding here q outs read nexts foldings

    -- ---- doubts

    module _ (n : PureNumberedCommand) (may : MayGoOn p terms e x) (at : command_of_path p x.path ≡ Some n) (this : n.command ≡ fold_use u) (here : Place) (place : IsPlaceOf p x.path.stack here) where
      -- the row has its fault
      faulty : (v : List PureValue) (entry : Entry) (c : Checked) → StandsForChecked stands e x v entry c
          → has_fault fold_body ≡ fold_by p memory m entry (core_of u.pred) u.pred (evaluate_all u.ins (names_at entry c)) (evaluate_all u.outs (names_at entry c)) c → LeadsAlong p memory m entry c None (has_fault fold_body)
      faulty v entry c stand is_fault =
          leads_along p memory m stands x.path v entry c n (fold_use u) stand.path at this None (has_fault fold_body) (is_fault, chosen_there p memory m stands x.path v entry c n (fold_use u) stand.path at this)

      r_vars : r.vars ≡ x.path.vars
      r_vars = read_vars stands terms s r bs u.ins ins read_ins ∙ state_vars stands terms x.path x.facts s is

      r_longer : IsLonger x.path.conds r.conds
      r_longer = subst (λ cs. IsLonger cs r.conds) (state_conds stands terms x.path x.facts s is) read_ins.longer

      outs_unread : (v : List PureValue) (entry : Entry) (c : Checked) → StandsForChecked stands e x v entry c → AreUnread stands terms r bs u.outs v → LeadsAlong p memory m entry c None (has_fault fold_body)
      outs_unread v entry c stand fails =
          let (fault, err) = fails (names_at entry c) (logic_state c) (serves_second v entry c may stand) in
          faulty v entry c stand (sym (no_outs p memory m entry (core_of u.pred) u.pred (evaluate_all u.ins (names_at entry c)) (evaluate_all u.outs (names_at entry c)) fault c err))

      fails_to_fold : (q : PureState S) (outs : List PureTerm) → AreRead stands terms r bs u.outs q outs → (v : List PureValue) (entry : Entry) (c : Checked) → StandsForChecked stands e x v entry c
          → FoldFails stands terms p.preds q u.pred ins outs v → LeadsAlong p memory m entry c None (has_fault fold_body)
      fails_to_fold q outs read_outs v entry c stand fails =
          let t = names_at entry c in
          let l = logic_state c in
          let (ws, (ok_ins, have_ins, stand_r)) = read_ins.have v t l (serves_first v entry c may stand) in
          let (us, (ok_outs, have_outs, stand_q)) = read_outs.have v t l (serves_second v entry c may stand) in
          let folding : IsFolding stands terms q ins outs v [] l = record {
            serves = record { over = read_outs.over; store_over = λ z term none. not_none none; store = λ z. tt; state = stand_q };
            ws = ws;
            us = us;
            have_ins = have_ins;
            have_outs = have_outs;
          } in
          faulty v entry c stand (sym (fold_of p memory m entry (core_of u.pred) u.pred (evaluate_all u.ins t) (evaluate_all u.outs t) ws us c user ok_ins ok_outs
          ∙ ap (λ o. folded p memory m entry o (record { pred = u.pred; ins = ws; outs = us }) c) (fails [] l folding ws us have_ins have_outs)))

      meets_r : (v : List PureValue) (entry : Entry) (c : Checked) → StandsForChecked stands e x v entry c → IsTrue (all_true v r.conds)
      meets_r v entry c stand = (serves_second v entry c may stand).state.meets

      meets_q : (q : PureState S) (outs : List PureTerm) → AreRead stands terms r bs u.outs q outs → (v : List PureValue) (entry : Entry) (c : Checked) → StandsForChecked stands e x v entry c → IsTrue (all_true v q.conds)
      meets_q q outs read_outs v entry c stand = let (us, (ok, have, stand_q)) = read_outs.have v (names_at entry c) (logic_state c) (serves_second v entry c may stand) in stand_q.meets

      exact_folding : (q : PureState S) (outs : List PureTerm) → AreRead stands terms r bs u.outs q outs → (nexts : List (PureNext S)) → AreFoldings stands terms kept here p.preds x q u.pred ins outs nexts → AreExact p memory m stands e x nexts
      exact_folding q outs read nexts (inl doubts) =
          right_doubts p memory m stands e x FaultKind.FoldBody q (FoldFails stands terms p.preds q u.pred ins outs) (read_vars stands terms r q bs u.outs outs read ∙ r_vars) (longer_both x.path.conds r.conds q.conds r_longer read.longer) (meets_q q outs read)
          (fails_to_fold q outs read) here place nexts doubts
      exact_folding q outs read nexts (inr (ms, (all, each))) = all_exact q outs read ms all nexts here each n may at this place

      pub fold_exact : (nexts : List (PureNext S)) → FoldsOuts stands terms kept here p.preds x bs u r ins nexts → AreExact p memory m stands e x nexts
      fold_exact nexts (inl doubts) =
          right_doubts p memory m stands e x FaultKind.FoldBody r (AreUnread stands terms r bs u.outs) r_vars r_longer meets_r outs_unread here place nexts doubts
      fold_exact nexts (inr (inl (none, never))) = subst (AreExact p memory m stands e x) (sym none) tt
      fold_exact nexts (inr (inr (q, (outs, (read, foldings))))) = exact_folding q outs read nexts foldings

  -- ---- where the ins can't be read

  module _ (n : PureNumberedCommand) (may : MayGoOn p terms e x) (at : command_of_path p x.path ≡ Some n) (this : n.command ≡ fold_use u) (here : Place) (place : IsPlaceOf p x.path.stack here) where
    ins_unread : (v : List PureValue) (entry : Entry) (c : Checked) → StandsForChecked stands e x v entry c → AreUnread stands terms s bs u.ins v → LeadsAlong p memory m entry c None (has_fault fold_body)
    ins_unread v entry c stand fails =
        let (fault, err) = fails (names_at entry c) (logic_state c) (serves_first v entry c may stand) in
        leads_along p memory m stands x.path v entry c n (fold_use u) stand.path at this None (has_fault fold_body)
        (sym (no_ins p memory m entry (core_of u.pred) u.pred (evaluate_all u.ins (names_at entry c)) (evaluate_all u.outs (names_at entry c)) fault c err), chosen_there p memory m stands x.path v entry c n (fold_use u) stand.path at this)

    pub unread_exact : (nexts : List (PureNext S)) → DoubtsAlone FaultKind.FoldBody here x s (AreUnread stands terms s bs u.ins) nexts → AreExact p memory m stands e x nexts
    unread_exact nexts doubts =
        right_doubts p memory m stands e x FaultKind.FoldBody s (AreUnread stands terms s bs u.ins) (state_vars stands terms x.path x.facts s is) ([], state_conds stands terms x.path x.facts s is ∙ sym (append-nil x.path.conds))
        (λ v entry c stand. (serves_first v entry c may stand).state.meets) ins_unread here place nexts doubts

-- a core predicate isn't folded
pub core_exact : (p : PureParts) (memory : MemoryName) (m : Actions) {S : Type 0} (stands : S → List PureValue → Heap → Type 0) (e : PureEntry) (x : PureChecking S) (u : PurePredUse) (core : Core) → core_of u.pred ≡ Some core → (n : PureNumberedCommand)
    → command_of_path p x.path ≡ Some n → n.command ≡ fold_use u → IsRightDoubt p memory m stands e x FaultKind.FoldBody always
core_exact p memory m stands e x u core is n at this v entry c stand met =
    leads_along p memory m stands x.path v entry c n (fold_use u) stand.path at this None (has_fault fold_body)
    (sym (ap (λ o. fold_by p memory m entry o u.pred (evaluate_all u.ins (names_at entry c)) (evaluate_all u.outs (names_at entry c)) c) is), chosen_there p memory m stands x.path v entry c n (fold_use u) stand.path at this)
