-- The candidates of `ifgoto` keep the laws.
use Rattle.std.proofs.Common.{◌≡◌, ◌⊎◌, ⊎_elim, inl, inr, ℕ, ◌<◌, ℤ, pos, negsuc, List, [], ◌∷◌, ◌++◌, Bool, true, false, Option, Some, None, IsTrue, codes, refl, sym, ap, subst, ◌∙◌, true≢false, arith}
use Rattle.gil_values.specs.declared.places.Place.{Place}
use Rattle.gil_values.specs.Pure.{PureValue, integer, boolean, text, symbol, kind, procedure, list}
use Rattle.gil_syntax.specs.Evaluation.{evaluate}
use Rattle.gil_syntax.specs.Pure.{PureParts, PureExpr, PureNumberedCommand, ifgoto}
use Rattle.gil_machine.specs.Choices.{choice_of, guard_choice}
use Rattle.gil_machine.specs.State.{Frame, State, Step}
use Rattle.gil_machine.specs.Step.{do_command, branch, to_label, to_next, fails_with}
use Rattle.mem_model.specs.Actions.{Actions}
use Rattle.mem_model.specs.Heaps.{Heap}
use Rattle.pure_terms.specs.Meaning.{value, all_true, IsOver}
use Rattle.pure_terms.specs.Pure.{PureTerm, PureAtom, term_of}
use Rattle.sym_evaluation.specs.Meaning.{HasValue, IsSideWhere, is_true, is_false, is_no_boolean, AreSidesOf}
use Rattle.sym_evaluation.specs.Pure.{PureGoodCase, PureCases, PureSides}
use Rattle.sym_evaluation.specs.Questions.{IsAsked, IsGuardTerm, AsksBoolean, IsGuardCondition, EachCondition, OnConditions, OnResult, OnSide, SidesComeFrom}
use Rattle.sym_evaluation.proofs.SideOrigins.{boolean_is_condition}
use Rattle.sym_model.specs.Lists.{Each, OneOf}
use Rattle.sym_model.specs.Terms.{StateTerms}
use Rattle.sym_model.proofs.ListLaws.{same_some, each_append, each_to, one_left, one_right}
use Rattle.sym_paths.specs.Valued.{place_at}
use Rattle.sym_paths.specs.Frames.{AreMoved}
use Rattle.sym_paths.specs.Meaning.{AreFrames, Stands, StandsForStep, OfEachName, IsOverTable, command_of_path}
use Rattle.sym_paths.specs.Moves.{running_store, advanced, NoOwn}
use Rattle.sym_paths.specs.Pure.{PureFrame, PurePath}
use Rattle.sym_paths.specs.Settling.{Candidate, AreCandidates}
use Rattle.sym_paths.specs.Steps.{new_sorts, makes_choice, IsChosen, MayChoose, MayAssume}
use Rattle.sym_paths.proofs.Assuming.{assumes_rightly}
use Rattle.sym_evaluation.proofs.AskedAtoms.{NeedsNone, asked_closed, boolean_closed}
use Rattle.sym_paths.proofs.Closed.{closed_each}
use Rattle.sym_paths.proofs.Growing.{all_true-more}
use Rattle.sym_paths.proofs.Moving.{open_is_known, advanced_frames, running_stands, running_each, advanced_each}
use Rattle.sym_paths.proofs.Origins.{stays_moved, advanced_moved, follows_going}
use Rattle.sym_paths.proofs.Recording.{records_by}
use Rattle.sym_paths.proofs.Silent.{same_and_none}
use Rattle.sym_paths.specs.Cases.{AreOfCases, failing_with}
use Rattle.sym_paths.specs.Guards.{at_label, for_side, turning, turns, Turns, IsAskedByGuard, IsGuardEvaluated, GuardsKeepTheLaws}
use Rattle.sym_paths.proofs.Following.{with_outcome, of_outcome, IsEvaluation, second_true, store_over, at_command, MakesNext, MakesSame, Covered, same_next, covered_same, along_chosen, failing_makes, are_candidates}
use Rattle.sym_paths.proofs.Naming.{guard_over}
use Rattle.sym_paths.proofs.Outcomes.{with_value-outcome, of_value-outcome}

-- ---- values of guards

true_value : (a : PureValue) → is_true a ≡ true → a ≡ boolean true
true_value (boolean b) is = ap boolean is
true_value (integer n) is = absurd (true≢false (sym is))
true_value (text cs) is = absurd (true≢false (sym is))
true_value (symbol n) is = absurd (true≢false (sym is))
true_value (kind k) is = absurd (true≢false (sym is))
true_value (procedure f) is = absurd (true≢false (sym is))
true_value (list ws) is = absurd (true≢false (sym is))

false_value : (a : PureValue) → is_false a ≡ true → a ≡ boolean false
false_value (boolean true) is = absurd (true≢false (sym is))
false_value (boolean false) is = refl
false_value (integer n) is = absurd (true≢false (sym is))
false_value (text cs) is = absurd (true≢false (sym is))
false_value (symbol n) is = absurd (true≢false (sym is))
false_value (kind k) is = absurd (true≢false (sym is))
false_value (procedure f) is = absurd (true≢false (sym is))
false_value (list ws) is = absurd (true≢false (sym is))

chosen_true : (a : PureValue) → guard_choice a ≡ Some 1 → is_true a ≡ true
chosen_true (boolean true) is = refl
chosen_true (boolean false) is = cc
chosen_true (integer n) is = cc
chosen_true (text cs) is = cc
chosen_true (symbol n) is = cc
chosen_true (kind k) is = cc
chosen_true (procedure f) is = cc
chosen_true (list ws) is = cc

chosen_false : (a : PureValue) → guard_choice a ≡ Some 0 → is_false a ≡ true
chosen_false (boolean true) is = cc
chosen_false (boolean false) is = refl
chosen_false (integer n) is = cc
chosen_false (text cs) is = cc
chosen_false (symbol n) is = cc
chosen_false (kind k) is = cc
chosen_false (procedure f) is = cc
chosen_false (list ws) is = cc

no_branch : (a : PureValue) (i : ℤ) (here : Place) (s : State) → is_no_boolean a ≡ true → (branch a i here s ≡ fails_with (text (codes "type")) here s) × (guard_choice a ≡ None)
no_branch (boolean b) i here s is = absurd (true≢false (sym is))
no_branch (integer n) i here s is = (refl, refl)
no_branch (text cs) i here s is = (refl, refl)
no_branch (symbol n) i here s is = (refl, refl)
no_branch (kind k) i here s is = (refl, refl)
no_branch (procedure f) i here s is = (refl, refl)
no_branch (list ws) i here s is = (refl, refl)

some_side : (a : PureValue) → (is_true a ≡ true) ⊎ ((is_false a ≡ true) ⊎ (is_no_boolean a ≡ true))
some_side (boolean true) = inl refl
some_side (boolean false) = inr (inl refl)
some_side (integer n) = inr (inr refl)
some_side (text cs) = inr (inr refl)
some_side (symbol n) = inr (inr refl)
some_side (kind k) = inr (inr refl)
some_side (procedure f) = inr (inr refl)
some_side (list ws) = inr (inr refl)

-- ---- frames

label_moved : (i : ℤ) (fs : List PureFrame) → AreMoved fs (at_label i fs)
label_moved (pos n) [] = tt
label_moved (pos n) (f ∷ fs) = (refl, refl)
label_moved (negsuc n) fs = stays_moved fs

-- ---- sides

side_taken : (v : List PureValue) (b : Bool) (o : Option (List PureAtom)) (more : List PureAtom) → o ≡ Some more → IsSideWhere v b o → IsTrue (all_true v more) → b ≡ true
side_taken v true o more is side met = refl
side_taken v false o more is side met =
    let closed : all_true v more ≡ false = subst (IsSideWhere v false) is side in absurd (true≢false (sym met ∙ closed))

side_met : (v : List PureValue) (b : Bool) (o : Option (List PureAtom)) (more : List PureAtom) → o ≡ Some more → IsSideWhere v b o → b ≡ true → IsTrue (all_true v more)
side_met v b o more is side taken = let there : IsSideWhere v true (Some more) = subst (λ c. IsSideWhere v c (Some more)) taken (subst (IsSideWhere v b) is side) in there

module _ {S : Type 0} (P : Candidate S → Type 0) (make : List PureAtom → Candidate S) where
  each_side : (o : Option (List PureAtom)) → ((more : List PureAtom) → o ≡ Some more → P (make more)) → Each P (for_side make o)
  each_side None each = tt
  each_side (Some more) each = (each more refl, tt)

  taken_side : (v : List PureValue) (o : Option (List PureAtom)) → IsSideWhere v true o → ((more : List PureAtom) → o ≡ Some more → IsTrue (all_true v more) → P (make more)) → OneOf P (for_side make o)
  taken_side v None side there = absurd side
  taken_side v (Some more) side there = inl (there more refl side)

  one_side : (v : List PureValue) (b : Bool) (o : Option (List PureAtom)) → IsSideWhere v b o → b ≡ true → ((more : List PureAtom) → o ≡ Some more → IsTrue (all_true v more) → P (make more)) → OneOf P (for_side make o)
  one_side v b o side taken there = taken_side v o (subst (λ c. IsSideWhere v c o) taken side) there

side_each : (P : PureAtom → Type 0) (o : Option (List PureAtom)) (more : List PureAtom) → o ≡ Some more → OnSide P o → Each P more
side_each P o more is each = subst (OnSide P) is each

-- ---- frames

label_frames : (v : List PureValue) (fs : List PureFrame) (g : Frame) (gs : List Frame) (n : ℕ) → AreFrames v fs (g ∷ gs) → AreFrames v (at_label (pos n) fs) (record g { next = n } ∷ gs)
label_frames v [] g gs n are = absurd are
label_frames v (f ∷ fs) g gs n are = (
  record {
    procedure = are.0.procedure;
    next = refl;
    store = are.0.store;
    waits = are.0.waits;
    handler = are.0.handler;
  },
  are.1,
)

label_each : (P : PureTerm → Type 0) (label : ℤ) (fs : List PureFrame) → Each (λ f. OfEachName P f.store) fs → Each (λ f. OfEachName P f.store) (at_label label fs)
label_each P (pos n) [] all = tt
label_each P (pos n) (f ∷ fs) all = (all.0, all.1)
label_each P (negsuc n) fs all = all

-- ---- candidates

module _ {S : Type 0} (stands : S → List PureValue → Heap → Type 0) (terms : S → StateTerms) (p : PureParts) (m : Actions) (path : PurePath S) (c : PureNumberedCommand) (e : PureExpr) (label : ℤ) (cases : PureCases PureTerm)
    (over : IsOverTable terms path) (no_end : path.ending ≡ None) (at : command_of_path p path ≡ Some c) (command : c.command ≡ ifgoto e label) (evaluated : IsGuardEvaluated (running_store path.stack) e cases) where
  abbrev Own : PureAtom → Type 0
  Own = IsAskedByGuard (running_store path.stack) e

  abbrev go_on : Place → State → PureValue → Step
  go_on place s a = branch a label place s

  abbrev chooses : State → PureValue → Option ℕ
  chooses s a = guard_choice a

  abbrev Asked : PureAtom → Type 0
  Asked = IsAsked (running_store path.stack) e

  asked_so : (P : PureAtom → Type 0) → ((a : PureAtom) → Asked a → P a) → EachCondition P cases
  asked_so P so = (each_to (λ d. Each Asked d.conds) (λ d. Each P d.conds) cases.faults (λ d. each_to Asked P d.conds so) evaluated.origin.0.0, good_so cases.good evaluated.origin.0.1) where
    good_so : (o : Option (PureGoodCase PureTerm)) → OnConditions Asked o → OnConditions P o
    good_so None asked = tt
    good_so (Some g) asked = each_to Asked P g.conds so asked

  evaluation : IsEvaluation (running_store path.stack) HasValue IsOver (evaluate e) Own c.command cases
  evaluation = record {
    says = evaluated.are_cases;
    origin = asked_so Own (λ a is. inl is);
    assumed = subst (λ k. EachCondition (MayAssume Own (running_store path.stack) k) cases) (sym command) (asked_so (MayAssume Own (running_store path.stack) (ifgoto e label)) (λ a is. inl is));
    closed = asked_so NeedsNone (asked_closed (running_store path.stack) e);
    names = evaluated.names;
  }

  does : (inputs : List PureValue) (place : Place) (s : State) → do_command p m inputs c.command place s ≡ with_outcome (evaluate e s.current.store) place s (go_on place s)
  does inputs place s = ap (λ k. do_command p m inputs k place s) command ∙ with_value-outcome (evaluate e s.current.store) place s (go_on place s)

  choice : (s : State) → choice_of p m c.command s ≡ of_outcome (chooses s) (evaluate e s.current.store)
  choice s = ap (λ k. choice_of p m k s) command ∙ of_value-outcome guard_choice (evaluate e s.current.store)

  abbrev Makes : PureGoodCase PureTerm → List PureAtom → Candidate S → Type 0
  Makes = MakesSame stands terms p m path c over at HasValue IsOver (evaluate e) go_on chooses Own NoOwn cases evaluation does choice

  abbrev OverTable : PureAtom → Type 0
  OverTable a = IsOver path.vars (term_of a)

  module _ (g : PureGoodCase PureTerm) (is_good : cases.good ≡ Some g) (sides : PureSides) (are : AreSidesOf g.result sides) (come : SidesComeFrom g.result sides) where
    good_over : Each OverTable g.conds
    good_over = subst (OnConditions OverTable) is_good (evaluated.names path.vars (store_over stands terms p m path c over at)).0.1

    result_over : IsOver path.vars g.result
    result_over = subst (OnResult (IsOver path.vars)) is_good (evaluated.names path.vars (store_over stands terms p m path c over at)).1

    from : IsGuardTerm (running_store path.stack) e g.result
    from = subst (OnResult (IsGuardTerm (running_store path.stack) e)) is_good evaluated.origin.1

    more_over : (more : List PureAtom) → Each (IsGuardCondition g.result) more → Each OverTable more
    more_over more = each_to (IsGuardCondition g.result) OverTable more (λ a. guard_over path.vars g.result a result_over)

    more_own : (more : List PureAtom) → Each (IsGuardCondition g.result) more → Each Own more
    more_own more = each_to (IsGuardCondition g.result) Own more (λ a is. inr (g.result, (from, is)))

    -- that the guard is a boolean is one of its conditions, and may be assumed
    as_conditions : (more : List PureAtom) → Each (AsksBoolean g.result) more → Each (IsGuardCondition g.result) more
    as_conditions more = each_to (AsksBoolean g.result) (IsGuardCondition g.result) more (boolean_is_condition g.result)

    may_more : (more : List PureAtom) → Each (AsksBoolean g.result) more → Each (MayAssume Own (running_store path.stack) c.command) more
    may_more more asks =
        subst (λ k. Each (MayAssume Own (running_store path.stack) k) more) (sym command)
        (each_to (AsksBoolean g.result) (MayAssume Own (running_store path.stack) (ifgoto e label)) more (λ a is. inr (g.result, (from, is))) asks)

    says : (v : List PureValue) (s : State) (a : PureValue) → Stands stands path v s → value v g.result ≡ Some a
        → IsSideWhere v (is_true a) sides.when_true × IsSideWhere v (is_false a) sides.when_false × IsSideWhere v (is_no_boolean a) sides.when_no_boolean
    says v s a is val = are path.vars v a is.proper result_over val

    -- a side that is taken: the frames and the choice are those of the step
    module _ (fs : List PureFrame) (side : ℕ) (small : side < 2) (more : List PureAtom) (from_guard : Each (IsGuardCondition g.result) more) (stores : Each (λ f. OfEachName (IsOver path.vars) f.store) fs) (moved : AreMoved path.stack fs)
        (takes : (v : List PureValue) (s : State) (a : PureValue) → Stands stands path v s → value v g.result ≡ Some a → IsTrue (all_true v (path.conds ++ (g.conds ++ more)))
        → (guard_choice a ≡ Some side) × StandsForStep p m stands (turning path fs side g more).path v s None (branch a label (at_command stands terms p m path c over at s) s))
        (met : (v : List PureValue) (s : State) (a : PureValue) → Stands stands path v s → value v g.result ≡ Some a → guard_choice a ≡ Some side → IsTrue (all_true v more)) where
      abbrev tp : PurePath S
      tp = (turning path fs side g more).path

      may_choose : MayChoose c.command (Some side)
      may_choose = subst (λ k. MayChoose k (Some side)) (sym command) (λ n is. subst (λ i. i < 2) (same_some is) small)

      turning_makes : Makes g more (turning path fs side g more)
      turning_makes = record {
        growth = (
          record {
            new_vars = [];
            vars = same_and_none path.vars path.vars refl;
            sorts = tt;
            drawn = same_and_none path.drawn path.drawn refl;
            new_conds = g.conds ++ more;
            conds = refl;
            new_given = [];
            given = same_and_none path.given path.given refl;
            assumed = tt;
            chosen = Some side;
            choices = refl;
            steps = refl;
            over = record {
              conds = each_append OverTable path.conds (g.conds ++ more) over.conds (each_append OverTable g.conds more good_over (more_over more from_guard));
              given = over.given;
              stores = stores;
              memory = over.memory;
              drawn = over.drawn;
              ending = over.ending;
            };
          },
          tt,
        );
        recorded = records_by p m path tp c at [] (Some side) (same_and_none path.vars path.vars refl) (sym (ap (new_sorts m) command)) refl may_choose (sym (ap makes_choice command));
        known = open_is_known path.ending no_end;
        vars = refl;
        conds = refl;
        own_more = more_own more from_guard;
        assumes = assumes_rightly p Own NoOwn path c at (turning path fs side g more) [] (same_and_none path.given path.given refl) tt tt (inr (inr refl));
        origin = λ no_form. follows_going p m terms path tp c at (ifgoto e label) command no_end (refl, moved);
        exact = λ inputs v s a is ok val true_there closed.
            let (which, there) = takes v s a is val true_there in (
              subst (IsChosen path tp) (sym which) refl,
              subst (λ o. StandsForStep p m stands tp v s o (branch a label (at_command stands terms p m path c over at s) s)) (sym no_end) there,
            );
        along = λ inputs v ws s is given which goes.
            along_chosen stands terms p m path c over at HasValue IsOver (evaluate e) go_on chooses Own NoOwn cases evaluation does choice [] g is_good more v ws s tp side refl is which
            (λ a ok val chose. all_true-more path.vars v ws is.proper.one_each more (more_over more from_guard) ∙ met v s a is val chose);
      }

    abbrev true_frames : List PureFrame
    true_frames = at_label label path.stack

    abbrev false_frames : List PureFrame
    false_frames = advanced (running_store path.stack) path.stack

    to_label_stands : (more : List PureAtom) (i : ℤ) (v : List PureValue) (s : State) → Stands stands path v s → IsTrue (all_true v (path.conds ++ (g.conds ++ more)))
        → StandsForStep p m stands (turning path (at_label i path.stack) 1 g more).path v s None (to_label i s)
    to_label_stands more (pos n) v s is met = record {
      proper = is.proper;
      meets = met;
      frames = label_frames v path.stack s.current s.callers n is.frames;
      memory = is.memory;
      symbols_below = is.symbols_below;
      draws = is.draws;
    }
    to_label_stands more (negsuc n) v s is met = record {
      proper = is.proper;
      meets = met;
      frames = is.frames;
      memory = is.memory;
      symbols_below = is.symbols_below;
      draws = is.draws;
    }

    to_next_stands : (more : List PureAtom) (v : List PureValue) (s : State) → Stands stands path v s → IsTrue (all_true v (path.conds ++ (g.conds ++ more)))
        → StandsForStep p m stands (turning path false_frames 0 g more).path v s None (to_next s)
    to_next_stands more v s is met = record {
      proper = is.proper;
      meets = met;
      frames = advanced_frames v path.stack s.current s.callers (running_store path.stack) s.current.store is.frames (running_stands v path.stack s.current s.callers is.frames);
      memory = is.memory;
      symbols_below = is.symbols_below;
      draws = is.draws;
    }

    later_met : (v : List PureValue) (more : List PureAtom) → IsTrue (all_true v (path.conds ++ (g.conds ++ more))) → IsTrue (all_true v more)
    later_met v more met = second_true v g.conds more (second_true v path.conds (g.conds ++ more) met)

    true_makes : (more : List PureAtom) → sides.when_true ≡ Some more → Makes g more (turning path true_frames 1 g more)
    true_makes more is_side =
        turning_makes true_frames 1 (omega arith) more (side_each (IsGuardCondition g.result) sides.when_true more is_side come.0) (label_each (IsOver path.vars) label path.stack over.stores) (label_moved label path.stack)
        (λ v s a is val met.
        let a_true : a ≡ boolean true = true_value a (side_taken v (is_true a) sides.when_true more is_side (says v s a is val).0 (later_met v more met)) in (
          ap guard_choice a_true,
          subst (λ b. StandsForStep p m stands (turning path true_frames 1 g more).path v s None (branch b label (at_command stands terms p m path c over at s) s)) (sym a_true) (to_label_stands more label v s is met),
        ))
        (λ v s a is val chose. side_met v (is_true a) sides.when_true more is_side (says v s a is val).0 (chosen_true a chose))

    false_makes : (more : List PureAtom) → sides.when_false ≡ Some more → Makes g more (turning path false_frames 0 g more)
    false_makes more is_side =
        turning_makes false_frames 0 (omega arith) more (side_each (IsGuardCondition g.result) sides.when_false more is_side come.1)
        (advanced_each (IsOver path.vars) path.stack (running_store path.stack) over.stores (running_each (IsOver path.vars) path.stack over.stores)) (advanced_moved path.stack)
        (λ v s a is val met.
        let a_false : a ≡ boolean false = false_value a (side_taken v (is_false a) sides.when_false more is_side (says v s a is val).1 (later_met v more met)) in (
          ap guard_choice a_false,
          subst (λ b. StandsForStep p m stands (turning path false_frames 0 g more).path v s None (branch b label (at_command stands terms p m path c over at s) s)) (sym a_false) (to_next_stands more v s is met),
        ))
        (λ v s a is val chose. side_met v (is_false a) sides.when_false more is_side (says v s a is val).1 (chosen_false a chose))

    other_makes : (more : List PureAtom) → sides.when_no_boolean ≡ Some more → Makes g more (failing_with path (place_at path.stack c) (codes "type") g more)
    other_makes more is_side =
        let asks : Each (AsksBoolean g.result) more = side_each (AsksBoolean g.result) sides.when_no_boolean more is_side come.2 in
        failing_makes stands terms p m path c over at HasValue IsOver (evaluate e) go_on chooses Own NoOwn cases evaluation does choice g more (codes "type") is_good
        (more_own more (as_conditions more asks)) (may_more more asks) (more_over more (as_conditions more asks))
        (closed_each more (each_to (AsksBoolean g.result) NeedsNone more (boolean_closed g.result) asks))
        (λ v s a is val met. no_branch a label (at_command stands terms p m path c over at s) s (side_taken v (is_no_boolean a) sides.when_no_boolean more is_side (says v s a is val).2 met))

    -- ---- all of them

    module _ (P : Candidate S → Type 0) (good : (more : List PureAtom) (d : Candidate S) → Makes g more d → P d) where
      each_turn : Each P (turns path label (place_at path.stack c) g sides)
      each_turn =
          each_append P (for_side (turning path true_frames 1 g) sides.when_true) (for_side (turning path false_frames 0 g) sides.when_false ++ for_side (failing_with path (place_at path.stack c) (codes "type") g) sides.when_no_boolean)
          (each_side P (turning path true_frames 1 g) sides.when_true (λ more is. good more (turning path true_frames 1 g more) (true_makes more is)))
          (each_append P (for_side (turning path false_frames 0 g) sides.when_false) (for_side (failing_with path (place_at path.stack c) (codes "type") g) sides.when_no_boolean)
          (each_side P (turning path false_frames 0 g) sides.when_false (λ more is. good more (turning path false_frames 0 g more) (false_makes more is)))
          (each_side P (failing_with path (place_at path.stack c) (codes "type") g) sides.when_no_boolean (λ more is. good more (failing_with path (place_at path.stack c) (codes "type") g more) (other_makes more is))))

    module _ (P : Candidate S → Type 0) (v : List PureValue) (good : (more : List PureAtom) (d : Candidate S) → Makes g more d → IsTrue (all_true v more) → P d) where
      abbrev rest : List (Candidate S)
      rest = for_side (turning path false_frames 0 g) sides.when_false ++ for_side (failing_with path (place_at path.stack c) (codes "type") g) sides.when_no_boolean

      one_turn : (s : State) (a : PureValue) → Stands stands path v s → value v g.result ≡ Some a → OneOf P (turns path label (place_at path.stack c) g sides)
      one_turn s a is val =
          let (when_true, when_false, otherwise) = says v s a is val in
          ⊎_elim
          (λ which. one_left P (for_side (turning path true_frames 1 g) sides.when_true) rest
          (one_side P (turning path true_frames 1 g) v (is_true a) sides.when_true when_true which (λ more there met. good more (turning path true_frames 1 g more) (true_makes more there) met)))
          (λ other. one_right P (for_side (turning path true_frames 1 g) sides.when_true) rest
          (⊎_elim
          (λ which. one_left P (for_side (turning path false_frames 0 g) sides.when_false) (for_side (failing_with path (place_at path.stack c) (codes "type") g) sides.when_no_boolean)
          (one_side P (turning path false_frames 0 g) v (is_false a) sides.when_false when_false which (λ more there met. good more (turning path false_frames 0 g more) (false_makes more there) met)))
          (λ which. one_right P (for_side (turning path false_frames 0 g) sides.when_false) (for_side (failing_with path (place_at path.stack c) (codes "type") g) sides.when_no_boolean)
          (one_side P (failing_with path (place_at path.stack c) (codes "type") g) v (is_no_boolean a) sides.when_no_boolean otherwise which (λ more there met. good more (failing_with path (place_at path.stack c) (codes "type") g more) (other_makes more there) met)))
          other))
          (some_side a)

  abbrev Next : PureGoodCase PureTerm → Candidate S → Type 0
  Next g d = (more : List PureAtom) × MakesNext stands terms p m path c over at HasValue IsOver (evaluate e) go_on chooses Own NoOwn cases evaluation does choice [] g more d

  guard_candidates : (cs : List (Candidate S)) → AreOfCases path (place_at path.stack c) (Turns path label (place_at path.stack c)) cases cs → AreCandidates p m stands terms Own NoOwn path cs
  guard_candidates =
      are_candidates stands terms p m path c over at HasValue IsOver (evaluate e) go_on chooses Own NoOwn cases evaluation does choice [] (Turns path label (place_at path.stack c))
      (λ g ds is_good (sides, (are, come, made)).
      subst (Each (Next g)) (sym made)
      (each_turn g is_good sides are come (Next g)
      (λ more d makes. (more, same_next stands terms p m path c over at HasValue IsOver (evaluate e) go_on chooses Own NoOwn cases evaluation does choice g more d makes))))
      (λ g ds is_good (sides, (are, come, made)) inputs v s a is ok val met.
      subst (OneOf (Covered stands terms p m path c over at HasValue IsOver (evaluate e) go_on chooses Own NoOwn cases evaluation does choice inputs v s)) (sym made)
      (one_turn g is_good sides are come (Covered stands terms p m path c over at HasValue IsOver (evaluate e) go_on chooses Own NoOwn cases evaluation does choice inputs v s) v
      (λ more d makes there. covered_same stands terms p m path c over at HasValue IsOver (evaluate e) go_on chooses Own NoOwn cases evaluation does choice g more d is_good makes inputs v s is met there)
      s a is val))

pub guards_keep_the_laws : {S : Type 0} (stands : S → List PureValue → Heap → Type 0) (terms : S → StateTerms) → GuardsKeepTheLaws stands terms
guards_keep_the_laws stands terms p m path c e label cases cs over no_end at command evaluated = guard_candidates stands terms p m path c e label cases over no_end at command evaluated cs
