-- The row of `assert` covers what the checked states lead to, and is exact.
use Rattle.std.proofs.Common.{◌≡◌, ◌+◌, inl, List, [], ◌∷◌, Some, None, refl, sym, ap, subst, ◌∙◌, append-nil}
use Rattle.gil_values.specs.Pure.{PureValue}
use Rattle.gil_syntax.specs.declared.assertions.Param.{Param}
use Rattle.gil_syntax.specs.Pure.{PureParts, PureItem, PureNumberedCommand, PureSpec, assert_that}
use Rattle.gil_syntax.specs.Valid.{ends_body, IsValid}
use Rattle.mem_model.specs.declared.keys.MemoryName.{MemoryName}
use Rattle.mem_model.specs.Actions.{Actions}
use Rattle.mem_model.specs.Heaps.{Heap}
use Rattle.assert_logic.specs.Matching.{Matching, matched, stops, match_assertion}
use Rattle.checked_runs.specs.Checked.{Checked, Entry, is_call, moved, logicals_in, names_at, logic_state, asserted}
use Rattle.gil_machine.specs.State.{State}
use Rattle.pure_terms.specs.Meaning.{Satisfies}
use Rattle.sym_model.specs.Laws.{IsMeaning}
use Rattle.sym_model.specs.Terms.{StateTerms}
use Rattle.sym_paths.specs.Meaning.{command_of_path}
use Rattle.sym_paths.specs.Moves.{passing}
use Rattle.sym_paths.specs.Pure.{PurePath}
use Rattle.footprint.specs.Pure.{PureMatch, PureStop, all_match}
use Rattle.checked_paths.specs.declared.nexts.FaultKind.{FaultKind}
use Rattle.checked_paths.specs.Choosing.{LeadsAlong}
use Rattle.checked_paths.specs.Exactness.{IsUnder, LeadsOn, IsFollowed, AreExact}
use Rattle.checked_paths.specs.Covering.{CoversLeads, AreNexts}
use Rattle.checked_paths.specs.Following.{GoesOnWith, IsAnswerTo, IsAnswered}
use Rattle.checked_paths.specs.Meaning.{StandsForChecked, MayGoOn}
use Rattle.checked_paths.specs.Pure.{PureEntry, PureChecking, PureNext, further}
use Rattle.checked_rows.specs.Doubts.{under, IsRightDoubt}
use Rattle.checked_rows.specs.Matching.{IsFound, IsStopThere, MatchesThere}
use Rattle.checked_rows.specs.Names.{logicals_there}
use Rattle.checked_rows.specs.Rows.{AreRowOf}
use Rattle.checked_rows.proofs.ExactLaws.{same_values_there, same_counter, leads_along, chosen_there}
use Rattle.checked_rows.proofs.MatchLaws.{found_one}
use Rattle.checked_rows.proofs.NameLaws.{same_logicals}
use Rattle.checked_rows.proofs.RowLaws.{leads_by, nothing_more, goes_stands, goes_covers, goes_on_next, uses_nothing, passed_there}
use Rattle.checked_rows.proofs.StateLaws.{passing_stands, passing_over}

module _ (p : PureParts) (memory : MemoryName) (m : Actions) {S : Type 0} (stands : S → List PureValue → Heap → Type 0) (terms : S → StateTerms) (meaning : IsMeaning memory stands terms) (e : PureEntry) (x : PureChecking S) (items : List PureItem) (ms : List (PureMatch S))
    (there : MatchesThere stands terms e x p.preds (logicals_there x.path.stack e.spec.logicals) items (all_match ms)) where
  module _ (may : MayGoOn p terms e x) (n : PureNumberedCommand) (at : command_of_path p x.path ≡ Some n) (this : n.command ≡ assert_that items) (y : PureChecking S) (with_it : GoesOnWith stands terms x.facts x.passed (passing x.path) y) where
    covers : CoversLeads p memory m stands e x (further y ∷ [])
    covers v entry c out stand above leads =
        let led : out ≡ asserted p memory m entry (match_assertion p.preds (logicals_in c.machine.callers entry) items (names_at entry c) (logic_state c)) c =
        leads_by p memory m stands x.path v entry c out n (assert_that items) stand.path at this leads in
        let scope : logicals_there x.path.stack e.spec.logicals ≡ logicals_in c.machine.callers entry =
        ap (λ (s : PureSpec). logicals_there x.path.stack s.logicals) (sym stand.entered.spec) ∙ same_logicals v x.path.stack c.machine.current c.machine.callers entry stand.path.frames in
        found_one (IsFound stands terms e x p.preds (logicals_there x.path.stack e.spec.logicals) items v entry c) ms
        (λ k found.
        let is : match_assertion p.preds (logicals_in c.machine.callers entry) items (names_at entry c) (logic_state c) ≡ matched found.found =
        subst (λ ps. match_assertion p.preds ps items (names_at entry c) (logic_state c) ≡ matched found.found) scope found.matches in
        inl (goes_covers memory stands terms meaning e x may.over (passing x.path) x.facts x.passed y with_it v v [] entry c c (record c.machine { current = record c.machine.current { next = c.machine.current.next + 1 } }) out (nothing_more v) stand
        (passing_stands stands terms x.path v c.machine stand.path) stand.facts stand.passed (led ∙ ap (λ r. asserted p memory m entry r c) is)))
        (there.0 v entry c stand)

  pub assert_covers : IsValid p → (k : PureNext S) → (MayGoOn p terms e x → IsAnswered stands terms x.facts x.passed (passing x.path) k) → (nexts : List (PureNext S)) → nexts ≡ k ∷ [] → AreRowOf p memory m stands terms e x (assert_that items) [] nexts
  assert_covers valid k answered nexts is n may at this =
      let (y, (same, with_it)) = subst (λ o. IsAnswerTo stands terms x.facts x.passed (passing x.path) o k) may.no_end (answered may) in
      subst (AreNexts p memory m stands terms e x []) (sym (is ∙ ap (λ j. j ∷ []) same)) (record {
        cover = covers may n at this y with_it;
        uses = uses_nothing p memory m stands e x n [] (further y ∷ []) at (ap is_call this);
        follow = (
          goes_on_next memory stands terms meaning e x may.over (passing x.path) x.facts x.passed y with_it p [] may.no_end (passed_there p x.path n valid at (ap (λ k. ends_body k) this) may.placed)
              (passing_over stands terms x.path may.over.path) may.over.facts may.over.passed (nothing_more x.path.vars) refl,
          tt,
        );
      })

-- ---- what is answered is exact

module _ (p : PureParts) (memory : MemoryName) (m : Actions) {S : Type 0} (stands : S → List PureValue → Heap → Type 0) (terms : S → StateTerms) (meaning : IsMeaning memory stands terms) (e : PureEntry) (x : PureChecking S) (items : List PureItem) (n : PureNumberedCommand)
    (at : command_of_path p x.path ≡ Some n) (this : n.command ≡ assert_that items) where
  abbrev Scope : List Param
  Scope = logicals_there x.path.stack e.spec.logicals

  -- the state makes no choice, and the assertion is matched in it or not
  asserts : (v : List PureValue) (entry : Entry) (c : Checked) (found : Matching) → StandsForChecked stands e x v entry c → match_assertion p.preds Scope items (names_at entry c) (logic_state c) ≡ found
      → LeadsAlong p memory m entry c None (asserted p memory m entry found c)
  asserts v entry c found stand is =
      let scope : Scope ≡ logicals_in c.machine.callers entry =
      ap (λ (s : PureSpec). logicals_there x.path.stack s.logicals) (sym stand.entered.spec) ∙ same_logicals v x.path.stack c.machine.current c.machine.callers entry stand.path.frames in
      let there : match_assertion p.preds (logicals_in c.machine.callers entry) items (names_at entry c) (logic_state c) ≡ found =
      subst (λ ps. match_assertion p.preds ps items (names_at entry c) (logic_state c) ≡ found) scope is in
      leads_along p memory m stands x.path v entry c n (assert_that items) stand.path at this None (asserted p memory m entry found c)
      (ap (λ r. asserted p memory m entry r c) (sym there), chosen_there p memory m stands x.path v entry c n (assert_that items) stand.path at this)

  pub stop_is_right : (k : PureStop) (u : List PureValue) → IsStopThere stands terms e x p.preds Scope items k u → IsRightDoubt p memory m stands e x FaultKind.FoldBody (under k.conds u)
  stop_is_right k u stop = (stop.longer, stop.meets, λ v entry c stand met. asserts v entry c (stops k.item) stand (stop.stops v entry c stand met))

  module _ (ms : List (PureMatch S)) (there : MatchesThere stands terms e x p.preds Scope items (all_match ms)) (may : MayGoOn p terms e x) (y : PureChecking S) (with_it : GoesOnWith stands terms x.facts x.passed (passing x.path) y) where
    goes_on_as : (v w : List PureValue) (entry : Entry) (c : Checked) (under_it : IsUnder stands e x y.path.vars y.path.conds v w entry c) → LeadsOn p memory m stands e x y w entry c under_it.continued.new_vars
    goes_on_as v w entry c under_it =
        let stand = under_it.standing in
        let same : w ≡ v = same_values_there c.machine.counter x.path.vars y.path.vars v w (ap (λ (q : PurePath S). q.vars) with_it.same_path) under_it.continued in
        let t : State = record c.machine { current = record c.machine.current { next = c.machine.current.next + 1 } } in
        let on : StandsForChecked stands e y v entry (moved c t) =
        goes_stands memory stands terms meaning e x may.over (passing x.path) x.facts x.passed y with_it v v [] entry c c t (nothing_more v) stand (passing_stands stands terms x.path v c.machine stand.path) stand.facts stand.passed in
        found_one (IsFound stands terms e x p.preds Scope items v entry c) ms
        (λ k found. record {
          state = moved c t;
          chosen = None;
          choices = ap (λ (q : PurePath S). q.choices) with_it.same_path ∙ sym (append-nil x.path.choices);
          leads = asserts v entry c (matched found.found) stand found.matches;
          stands_for = subst (λ u. StandsForChecked stands e y u entry (moved c t)) (sym same) on;
          counted = same_counter c.machine.counter x.path.vars y.path.vars v w (ap (λ (q : PurePath S). q.vars) with_it.same_path) under_it.continued c.machine.counter refl;
        })
        (there.0 v entry c stand)

    pub assert_followed : IsFollowed p memory m stands e x y
    assert_followed = record {
      table = ([], ap (λ (q : PurePath S). q.vars) with_it.same_path ∙ sym (append-nil x.path.vars));
      longer = ([], ap (λ (q : PurePath S). q.conds) with_it.same_path ∙ sym (append-nil x.path.conds));
      met = λ v meets. (v, subst (λ (q : PurePath S). Satisfies q.vars v q.conds) (sym with_it.same_path) meets);
      exact = goes_on_as;
    }

  pub assert_exact : (ms : List (PureMatch S)) → MatchesThere stands terms e x p.preds Scope items (all_match ms) → MayGoOn p terms e x → (k : PureNext S) → IsAnswered stands terms x.facts x.passed (passing x.path) k → (nexts : List (PureNext S)) → nexts ≡ k ∷ []
      → AreExact p memory m stands e x nexts
  assert_exact ms there may k answered nexts is =
      let (y, (same, with_it)) = subst (λ o. IsAnswerTo stands terms x.facts x.passed (passing x.path) o k) may.no_end answered in
      subst (AreExact p memory m stands e x) (sym (is ∙ ap (λ j. j ∷ []) same)) (assert_followed ms there may y with_it, tt)
