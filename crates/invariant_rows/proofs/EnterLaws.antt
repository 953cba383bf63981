-- A first visit: whatever values the listed names have from then on, the checked path in the loop stands for them.
use Rattle.std.proofs.Common.{◌≡◌, inl, inr, ℕ, ◌≤◌, List, [], ◌∷◌, ◌++◌, Bool, true, false, Some, None, IsTrue, refl, sym, subst, ◌∙◌}
use Rattle.gil_values.specs.Pure.{PureValue}
use Rattle.gil_values.specs.Symbols.{IsBelow, AreBelow}
use Rattle.gil_syntax.specs.declared.assertions.Param.{Param}
use Rattle.gil_syntax.specs.Evaluation.{Store, value_of}
use Rattle.gil_syntax.specs.Pure.{PureParts, PureItem}
use Rattle.gil_syntax.specs.Valid.{is_among}
use Rattle.gil_machine.specs.State.{Frame}
use Rattle.mem_model.specs.declared.keys.MemoryName.{MemoryName}
use Rattle.mem_model.specs.Actions.{Actions}
use Rattle.mem_model.specs.Heaps.{Heap}
use Rattle.assert_logic.specs.LogicStates.{LogicState}
use Rattle.assert_logic.specs.Sorts.{fits_sorts}
use Rattle.checked_runs.proofs.Stores.{first_value}
use Rattle.checked_runs.specs.Checked.{Checked, Outcome, Entry, IsAbove, variables_in, logicals_in, with_logic, unlisted_in, at_invariant, PassesFirst}
use Rattle.pure_terms.specs.Laws.{AgreeOn}
use Rattle.pure_terms.specs.Meaning.{IsProper, IsOver}
use Rattle.pure_terms.specs.Pure.{variables}
use Rattle.sym_evaluation.specs.Meaning.{AreSame, StandsFor}
use Rattle.sym_evaluation.specs.Pure.{PureStore, term_at}
use Rattle.sym_model.specs.Laws.{IsMeaning}
use Rattle.sym_model.specs.Lists.{OneOf}
use Rattle.sym_model.specs.Terms.{StateTerms, all_of}
use Rattle.sym_model.proofs.ListLaws.{each_to}
use Rattle.sym_states.specs.Naming.{MayName, IsNamedAs, NamesAll}
use Rattle.sym_paths.proofs.Growing.{all_true-more, path_stands}
use Rattle.sym_paths.proofs.Moving.{running_stands}
use Rattle.sym_paths.specs.Frames.{running_store}
use Rattle.sym_paths.specs.Meaning.{AreFrames, Stands}
use Rattle.sym_paths.specs.Pure.{PureFrame}
use Rattle.sym_states.specs.Meaning as states
use Rattle.sym_states.specs.Pure.{PureState}
use Rattle.checked_paths.proofs.Growing.{entered_more, facts_more, store_more, agree_more}
use Rattle.checked_paths.specs.Meaning.{IsPassed, StandsForChecked, IsCheckedOver}
use Rattle.checked_paths.specs.Pure.{PureEntry, PureChecking}
use Rattle.checked_rows.proofs.BelowLaws.{each_below}
use Rattle.checked_rows.proofs.RowLaws.{passed_longer}
use Rattle.checked_rows.specs.Matching.{IsOfPath}
use Rattle.checked_rows.specs.States.{with_state}
use Rattle.invariant_rows.specs.Entering.{running_with, running_next, opened, IsInLoop}
use Rattle.invariant_rows.specs.Listed.{AreUnlisted}
use Rattle.invariant_rows.proofs.ListedLaws.{unlisted_value, unlisted_some, unlisted_stand, one_has_value}
use Rattle.invariant_rows.proofs.LoopLaws.{loop_vars, loop_more, left_over}
use Rattle.invariant_rows.proofs.PassedLaws.{one_passed}

-- the frame that runs with another store
frames_with : (v : List PureValue) (bs : PureStore) (t : Store) (fs : List PureFrame) (g : Frame) (gs : List Frame) → StandsFor v bs t → AreFrames v fs (g ∷ gs) → AreFrames v (running_with bs fs) (record g { store = t } ∷ gs)
frames_with v bs t [] g gs store are = absurd are
frames_with v bs t (f ∷ fs) g gs store are = (
  record { procedure = are.0.procedure; next = are.0.next; store = store; waits = are.0.waits; handler = are.0.handler },
  are.1,
)

pub next_of_frames : (v : List PureValue) (fs : List PureFrame) (g : Frame) (gs : List Frame) → AreFrames v fs (g ∷ gs) → running_next fs ≡ g.next
next_of_frames v [] g gs are = absurd are
next_of_frames v (f ∷ fs) g gs are = are.0.next

one_holds : (P : PureValue → Type 0) (Q : List ℕ → PureValue → Type 0) (xs : List (List ℕ)) (w : PureValue) → ((x : List ℕ) → Q x w → P w) → OneOf (λ x. Q x w) xs → P w
one_holds P Q [] w go one = absurd one
one_holds P Q (x ∷ xs) w go (inl here) = go x here
one_holds P Q (x ∷ xs) w go (inr later) = one_holds P Q xs w go later

-- ---- a checked path in the loop stands for the state that begins there

module _ (p : PureParts) (memory : MemoryName) (m : Actions) {S : Type 0} (stands : S → List PureValue → Heap → Type 0) (terms : S → StateTerms) (meaning : IsMeaning memory stands terms) (e : PureEntry) (xs : List (List ℕ)) (qs : List Param)
    (bs : PureStore) (x : PureChecking S) (s : PureState S) (over : IsCheckedOver terms e x) (of_path : IsOfPath terms x s) (unlisted : AreUnlisted xs (running_store x.path.stack) bs)
    (v : List PureValue) (entry : Entry) (c : Checked) (left : LogicState) (stand : StandsForChecked stands e x v entry c) (is_left : states.Stands stands s v left) where
  pub unlisted_there : StandsFor v bs (unlisted_in xs c.machine.current.store)
  unlisted_there = unlisted_stand xs (running_store x.path.stack) bs v c.machine.current.store unlisted (running_stands v x.path.stack c.machine.current c.machine.callers stand.path.frames)

  -- the checked state in the loop, with this counter and this store, before the assertion is added
  abbrev pub begun_with : ℕ → Store → Checked
  begun_with counter store = with_logic left counter (at_invariant p memory m entry xs left store c)

  module _ (y : PureChecking S) (inside : IsInLoop stands terms qs xs bs x s y) (values : List PureValue) (proper : IsProper inside.named.vars (v ++ values)) (counter : ℕ) (not_lower : c.machine.counter ≤ counter) (below : AreBelow counter values)
      (store : Store) (store_there : StandsFor (v ++ values) inside.named.store store) where
    abbrev w : List PureValue
    w = v ++ values

    grown : Stands stands (record x.path { vars = x.path.vars ++ inside.naming.more }) w (record c.machine { counter = counter })
    grown =
        path_stands memory stands terms meaning x.path v c.machine inside.naming.more values counter over.path stand.path
        (subst (λ vs. IsProper vs w) (sym (loop_vars stands terms e qs xs bs x s y over of_path unlisted inside) ∙ loop_more stands terms e qs xs bs x s y over of_path unlisted inside) proper) not_lower below

    path_there : Stands stands (opened (with_state x.path s) inside.named) w (begun_with counter store).machine
    path_there = record {
      proper = proper;
      meets = all_true-more s.vars v values is_left.proper.one_each s.conds of_path.over.conds ∙ is_left.meets;
      frames = frames_with w inside.named.store store x.path.stack c.machine.current c.machine.callers store_there grown.frames;
      memory = meaning.local s.memory v w left.heap (each_to (IsOver s.vars) (λ t. AgreeOn (variables t) v w) (all_of (terms s.memory)) (agree_more s.vars v values is_left.proper.one_each) of_path.over.memory) is_left.memory;
      symbols_below = grown.symbols_below;
      draws = stand.path.draws;
    }

    kept_there : IsPassed stands w (record { at = running_next x.path.stack; memory = s.memory; facts = s.facts; unlisted = bs })
        (record { at = c.machine.current.next; remainder = left; unlisted = unlisted_in xs c.machine.current.store })
    kept_there = record {
      at = next_of_frames v x.path.stack c.machine.current c.machine.callers stand.path.frames;
      memory = path_there.memory;
      facts = facts_more s.vars v values is_left.proper.one_each s.facts left.facts of_path.over.facts is_left.facts;
      unlisted = store_more s.vars v values is_left.proper.one_each bs (unlisted_in xs c.machine.current.store) (left_over terms e xs bs x s over of_path unlisted) unlisted_there;
    }

    pub begins_there : StandsForChecked stands e y w entry (begun_with counter store)
    begins_there = record {
      entered = entered_more x.path.vars v values stand.path.proper.one_each e entry over.entry stand.entered;
      path = subst (λ q. Stands stands q w (begun_with counter store).machine) (sym inside.same_path) path_there;
      facts = subst (λ cs. states.AreFacts w cs left.facts) (sym inside.same_facts) kept_there.facts;
      passed = inside.passed.stand w (begun_with counter store).passed
          (one_passed stands w (record { at = running_next x.path.stack; memory = s.memory; facts = s.facts; unlisted = bs }) (record { at = c.machine.current.next; remainder = left; unlisted = unlisted_in xs c.machine.current.store })
          x.passed c.passed kept_there (passed_longer memory stands terms meaning e x over v w values entry c refl stand));
    }

module _ (p : PureParts) (memory : MemoryName) (m : Actions) {S : Type 0} (stands : S → List PureValue → Heap → Type 0) (terms : S → StateTerms) (meaning : IsMeaning memory stands terms) (e : PureEntry) (xs : List (List ℕ)) (ps qs : List Param) (items : List PureItem)
    (bs : PureStore) (x : PureChecking S) (s : PureState S) (over : IsCheckedOver terms e x) (of_path : IsOfPath terms x s) (unlisted : AreUnlisted xs (running_store x.path.stack) bs)
    (v : List PureValue) (entry : Entry) (c : Checked) (out : Outcome) (left : LogicState) (stand : StandsForChecked stands e x v entry c) (is_left : states.Stands stands s v left) (visit : PassesFirst p memory m entry xs ps items left c out)
    (same_scope : qs ≡ logicals_in c.machine.callers entry ++ ps) where
  -- what the names may be from then on
  pub may_be_named : MayName qs xs s.vars bs v (unlisted_in xs c.machine.current.store) visit.store
  may_be_named = record {
    proper = is_left.proper;
    over = left_over terms e xs bs x s over of_path unlisted;
    stands = unlisted_there p memory m stands terms meaning e xs qs bs x s over of_path unlisted v entry c left stand is_left;
    extends = λ y w is. unlisted_some xs visit.store y w (visit.others_stay y ∙ is);
    sorts = λ y w is. subst (λ rs. IsTrue (fits_sorts rs y w)) (sym same_scope) (visit.sorts y w (visit.known_stay y w (first_value visit.store (variables_in c.machine.callers entry) y w is)));
    known = λ y among. one_has_value xs visit.store y visit.listed_have_values among;
  }

  pub never_unnamed : ¬ NamesAll qs xs s.vars bs None
  never_unnamed none = none v (unlisted_in xs c.machine.current.store) visit.store may_be_named

  pub above_next : IsAbove (with_logic visit.adds.state visit.counter (at_invariant p memory m entry xs left visit.store c))
  above_next = subst IsAbove visit.adds.is_next visit.adds.above

  -- the checked state in the loop, before the assertion is added
  abbrev pub begun : Checked
  begun = with_logic left visit.counter (at_invariant p memory m entry xs left visit.store c)

  module _ (y : PureChecking S) (inside : IsInLoop stands terms qs xs bs x s y) where
    abbrev n : IsNamedAs qs xs s.vars bs v (unlisted_in xs c.machine.current.store) visit.store inside.named
    n = inside.naming.cover v (unlisted_in xs c.machine.current.store) visit.store may_be_named

    -- the values of the new variables
    abbrev pub values_of : List PureValue
    values_of = n.values

    store_there : StandsFor (v ++ n.values) inside.named.store visit.store
    store_there z = subst (AreSame (v ++ n.values) (term_at inside.named.store z)) (by (is_among xs z) refl) (n.stands z)
      where
        by : (b : Bool) → is_among xs z ≡ b → value_of n.store z ≡ value_of visit.store z
        by true listed = n.listed z listed
        by false isnt = n.others z isnt ∙ (sym (visit.others_stay z) ∙ unlisted_value xs visit.store z isnt)

    values_below : AreBelow visit.counter n.values
    values_below =
        each_below visit.counter n.values
        (each_to (λ u. OneOf (λ z. value_of visit.store z ≡ Some u) xs) (IsBelow visit.counter) n.values
        (λ u one. one_holds (IsBelow visit.counter) (λ z k. value_of visit.store z ≡ Some k) xs u (λ z at. above_next.current_below z u at) one) n.come)

    pub begun_stands : StandsForChecked stands e y (v ++ n.values) entry begun
    begun_stands = begins_there p memory m stands terms meaning e xs qs bs x s over of_path unlisted v entry c left stand is_left y inside n.values n.proper visit.counter visit.adds.not_lower values_below visit.store store_there
