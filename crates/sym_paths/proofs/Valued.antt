-- The candidates of commands that take the value of one expression keep the laws.
use Rattle.std.proofs.Common.{◌≡◌, ◌⊎◌, ⊎_elim, inl, inr, ℕ, List, [], ◌∷◌, ◌++◌, map, false, slice_get, Option, Some, None, Ok, Err, IsTrue, refl, sym, ap, subst, ◌∙◌, true≢false}
use Rattle.std.proofs.lemmas.Bool.{and_from, and_parts}
use Rattle.std.proofs.lemmas.List.{append-nil}
use Rattle.std.proofs.lemmas.List.Folds.{list_all-append}
use Rattle.gil_values.specs.declared.places.Place.{Place}
use Rattle.gil_values.specs.Operators.{fault_text, Outcome}
use Rattle.gil_values.specs.Pure.{PureValue, text}
use Rattle.gil_values.proofs.OperatorSymbols.{none_contained}
use Rattle.gil_syntax.specs.Evaluation.{evaluate, bind}
use Rattle.gil_syntax.specs.Pure.{PureParts, PureExpr, PureCommand, PureNumberedCommand, assign, fail}
use Rattle.gil_machine.specs.Choices.{choice_at, choice_of, miss_at}
use Rattle.gil_machine.specs.State.{State, Step}
use Rattle.gil_machine.specs.State as machine
use Rattle.gil_machine.specs.Step.{command_at, do_command, step, fails_with, with_value}
use Rattle.gil_machine.specs.Step as machine_step
use Rattle.mem_model.specs.Actions.{Actions}
use Rattle.mem_model.specs.Heaps.{Heap}
use Rattle.pure_terms.specs.declared.deciders.Reason.{Reason}
use Rattle.pure_terms.specs.Meaning.{value, truth, all_true, IsProper, IsOver, Satisfies}
use Rattle.pure_terms.specs.declared.literals.Literal.{Literal}
use Rattle.pure_terms.specs.Pure.{PureTerm, literal, PureAtom, term_of}
use Rattle.sym_evaluation.specs.Meaning.{IsTaken, IsClosed, IsGood, SayOutcome, HasValue}
use Rattle.sym_evaluation.specs.Pure.{PureStore, term_at, PureFaultCase, PureGoodCase, PureCases}
use Rattle.sym_evaluation.specs.Questions.{IsAsked, IsTermOf, OnConditions, OnResult}
use Rattle.sym_model.specs.Lists.{Each, OneOf, IsAmong}
use Rattle.sym_model.specs.Meaning.{has_open}
use Rattle.sym_model.specs.Terms.{StateTerms}
use Rattle.sym_model.proofs.ListLaws.{not_none, each_append, each_at, each_map, each_to, each_by_place, one_map, one_left, one_right}
use Rattle.sym_paths.specs.Valued.{place_at, faulted, assigned, failing, Assigns, Fails, IsResult, AreForCases, IsEvaluated, ValuedCandidates}
use Rattle.sym_paths.specs.Laws.{IsBound}
use Rattle.sym_paths.specs.Meaning.{AreFrames, Stands, StandsForStep, IsOverTable, command_of_path}
use Rattle.sym_paths.specs.Moves.{running_store, NoOwn}
use Rattle.sym_paths.specs.Origins.{Follows}
use Rattle.sym_paths.specs.Pure.{PureFrame, failed, PurePath}
use Rattle.sym_paths.specs.Settling.{Candidate, ended_unknown, AssumesRightly, AreCandidates}
use Rattle.sym_paths.specs.Steps.{Extends, IsUnknown, IsChosen, GoesOnAs, Grows, IsRecorded, new_sorts, makes_choice, AddsOwn, MayAssume, IsExact, HoldsAlong}
use Rattle.sym_paths.proofs.Assuming.{assumes_rightly}
use Rattle.sym_paths.proofs.Binding.{agree_bound, each_bound}
use Rattle.sym_evaluation.proofs.AskedAtoms.{NeedsNone, asked_closed}
use Rattle.sym_paths.proofs.Closed.{closed_each, closed_both}
use Rattle.sym_paths.proofs.Growing.{later_among}
use Rattle.sym_paths.proofs.Missing.{misses_nothing}
use Rattle.sym_paths.proofs.Moving.{nothing_more, none_next, advanced_frames, running_stands, running_each, advanced_each, open_is_known}
use Rattle.sym_paths.proofs.Origins.{follows_going, follows_failing}
use Rattle.sym_paths.proofs.Recording.{same_records, ended_records}
use Rattle.sym_paths.proofs.Silent.{stands_at, step-is, choice-is, extended_by, same_and_none}

-- ---- conditions in two parts

both_true : (v : List PureValue) (a b : List PureAtom) → IsTrue (all_true v a) → IsTrue (all_true v b) → IsTrue (all_true v (a ++ b))
both_true v a b first second = list_all-append (truth v) a b ∙ and_from (all_true v a) (all_true v b) first second

second_true : (v : List PureValue) (a b : List PureAtom) → IsTrue (all_true v (a ++ b)) → IsTrue (all_true v b)
second_true v a b whole = (and_parts (all_true v a) (all_true v b) (sym (list_all-append (truth v) a b) ∙ whole)).1

first_true : (v : List PureValue) (a b : List PureAtom) → IsTrue (all_true v (a ++ b)) → IsTrue (all_true v a)
first_true v a b whole = (and_parts (all_true v a) (all_true v b) (sym (list_all-append (truth v) a b) ∙ whole)).0

-- ---- what cases say

-- what is said of one fault case
abbrev FaultSays : List PureValue → Outcome → PureFaultCase → Type 0
FaultSays v (Ok a) fc = all_true v fc.conds ≡ false
FaultSays v (Err f) fc = IsTaken v fc → fc.fault ≡ f

fault_says : (v : List PureValue) (o : Outcome) (cases : PureCases PureTerm) (i : ℕ) (fc : PureFaultCase) → SayOutcome v (HasValue v) o cases → slice_get cases.faults i ≡ Some fc → FaultSays v o fc
fault_says v (Ok a) cases i fc says at = each_at (λ c. all_true v c.conds ≡ false) cases.faults i fc says.1 at
fault_says v (Err f) cases i fc says at = each_at (λ c. IsTaken v c → c.fault ≡ f) cases.faults i fc says.2 at

fault_leads : (v : List PureValue) (o : Outcome) (fc : PureFaultCase) (here : Place) (s : State) (go_on : PureValue → Step) → FaultSays v o fc → IsTaken v fc
    → with_value o here s go_on ≡ fails_with (text (fault_text fc.fault)) here s
fault_leads v (Ok a) fc here s go_on says taken = absurd (true≢false (sym taken ∙ says))
fault_leads v (Err f) fc here s go_on says taken = ap (λ g. fails_with (text (fault_text g)) here s) (sym (says taken))

closed_false : (v : List PureValue) (o : Option (PureGoodCase PureTerm)) (g : PureGoodCase PureTerm) → o ≡ Some g → IsClosed v o → all_true v g.conds ≡ false
closed_false v o g is closed = subst (IsClosed v) is closed

good_leads : (v : List PureValue) (o : Outcome) (cases : PureCases PureTerm) (g : PureGoodCase PureTerm) → SayOutcome v (HasValue v) o cases → cases.good ≡ Some g → IsTrue (all_true v g.conds)
    → (a : PureValue) × ((o ≡ Ok a) × (value v g.result ≡ Some a))
good_leads v (Ok a) cases g says is met = (a, (refl, (subst (IsGood v (λ t. HasValue v t a)) is says.0).1))
good_leads v (Err f) cases g says is met = absurd (true≢false (sym met ∙ closed_false v cases.good g is says.0))

going_on_met : (v : List PureValue) (o : Outcome) (cases : PureCases PureTerm) (g : PureGoodCase PureTerm) (here : Place) (s : State) (go_on : PureValue → Step) → SayOutcome v (HasValue v) o cases → cases.good ≡ Some g
    → GoesOnAs None (with_value o here s go_on) → IsTrue (all_true v g.conds)
going_on_met v (Ok a) cases g here s go_on says is goes = (subst (IsGood v (λ t. HasValue v t a)) is says.0).0
going_on_met v (Err f) cases g here s go_on says is goes = absurd goes

-- ---- candidates

-- what the candidate for a result must do
record GoodLaws {S : Type 0} (stands : S → List PureValue → Heap → Type 0) (terms : S → StateTerms) (p : PureParts) (m : Actions) (own : PureAtom → Type 0) (path : PurePath S) (g : PureGoodCase PureTerm) (d : Candidate S) : Type 0 where
  growth : Grows terms path d.path × Each (λ a. IsAmong a d.path.conds) d.no_fault
  recorded : IsRecorded p m path d.path
  known : ¬ IsUnknown d.path.ending
  vars : d.path.vars ≡ path.vars
  conds : d.path.conds ≡ path.conds ++ g.conds
  leads : (inputs v : List PureValue) (s : State) → Stands stands path v s → IsTrue (all_true v (path.conds ++ g.conds)) → StandsForStep p m stands d.path v s d.path.ending (step p m inputs s)
  exact : IsExact p m stands path d.path
  along : HoldsAlong p m stands path d.path × ((place : Place) (reason : Reason) → HoldsAlong p m stands path (ended_unknown d place reason))
  own_conditions : AddsOwn own path d.path
  assumes : AssumesRightly p own NoOwn path d
  origin : Follows p m terms path d.path

module _ {S : Type 0} (stands : S → List PureValue → Heap → Type 0) (terms : S → StateTerms) (p : PureParts) (m : Actions) (path : PurePath S) (c : PureNumberedCommand) (e : PureExpr) (cases : PureCases PureTerm)
    (over : IsOverTable terms path) (no_end : path.ending ≡ None) (at : command_of_path p path ≡ Some c) (k : PureCommand) (go_on : Place → State → PureValue → Step) (command : c.command ≡ k)
    (does : (inputs : List PureValue) (here : Place) (s : State) → do_command p m inputs k here s ≡ with_value (evaluate e s.current.store) here s (go_on here s)) (chooses : (s : State) → choice_of p m k s ≡ None)
    (evaluated : IsEvaluated (running_store path.stack) e cases) (may : (a : PureAtom) → IsAsked (running_store path.stack) e a → MayAssume (IsAsked (running_store path.stack) e) (running_store path.stack) k a) where
  abbrev here : Place
  here = place_at path.stack c

  standing : (v : List PureValue) (s : State) → Stands stands path v s → command_at p s.current ≡ Some c
  standing v s is = sym (stands_at p v path.stack s is.frames) ∙ at

  says : (v : List PureValue) (s : State) → Stands stands path v s → SayOutcome v (HasValue v) (evaluate e s.current.store) cases
  says v s is = evaluated.are_cases path.vars v s.current.store (record {
    proper = is.proper;
    over = running_each (IsOver path.vars) path.stack over.stores;
    stands = running_stands v path.stack s.current s.callers is.frames;
  })

  abbrev at_command : State → Place
  at_command s = record { proc = s.current.procedure; at = c.at }

  stepped : (inputs v : List PureValue) (s : State) → Stands stands path v s → step p m inputs s ≡ with_value (evaluate e s.current.store) (at_command s) s (go_on (at_command s) s)
  stepped inputs v s is = step-is p m inputs s c k (standing v s is) command ∙ does inputs (at_command s) s

  chosen_none : (next : PurePath S) (v : List PureValue) (s : State) → next.choices ≡ path.choices → Stands stands path v s → IsChosen path next (choice_at p m s)
  chosen_none next v s same is = subst (IsChosen path next) (sym (choice-is p m [] s c k (standing v s is) command ∙ chooses s)) (same_and_none next.choices path.choices same)

  nothing_missed : (v : List PureValue) (s : State) → Stands stands path v s → miss_at p m s ≡ None
  nothing_missed v s is = misses_nothing p m s (choice-is p m [] s c k (standing v s is) command ∙ chooses s)

  same_place : (v : List PureValue) (fs : List PureFrame) (s : State) → AreFrames v fs (s.current ∷ s.callers) → at_command s ≡ place_at fs c
  same_place v [] s are = absurd are
  same_place v (f ∷ fs) s are = ap (λ (q : List ℕ). record { proc = q; at = c.at }) (sym are.0.procedure)

  unchanged : (inputs v w : List PureValue) (s : State) (next : PurePath S) → next.vars ≡ path.vars → Extends inputs s path next v w → w ≡ v
  unchanged inputs v w s next same ext =
      let (ws, (is, in_turn)) = extended_by inputs s path next [] v w (same_and_none next.vars path.vars same) ext in
      is ∙ sym (nothing_more v ws (none_next inputs s.counter s.draws ws in_turn))

  not_extended : (inputs v : List PureValue) (s : State) (next : PurePath S) → next.vars ≡ path.vars → Extends inputs s path next v v
  not_extended inputs v s next same = record { new_vars = []; new_values = []; vars = same_and_none next.vars path.vars same; values = sym (append-nil v); in_turn = tt }

  met_at : (v w : List PureValue) (s : State) (more : List PureAtom) → Stands stands path v s → w ≡ v → IsTrue (all_true w more) → IsTrue (all_true w (path.conds ++ more))
  met_at v w s more is same met = both_true w path.conds more (subst (λ u. IsTrue (all_true u path.conds)) (sym same) is.meets) met

  abbrev Own : PureAtom → Type 0
  Own = IsAsked (running_store path.stack) e

  may_each : (atoms : List PureAtom) → Each Own atoms → Each (MayAssume Own (running_store path.stack) c.command) atoms
  may_each atoms all = subst (λ j. Each (MayAssume Own (running_store path.stack) j) atoms) (sym command) (each_to Own (MayAssume Own (running_store path.stack) k) atoms may all)

  all_closed : (atoms : List PureAtom) → Each Own atoms → has_open atoms ≡ false
  all_closed atoms all = closed_each atoms (each_to Own NeedsNone atoms (asked_closed (running_store path.stack) e) all)

  abbrev OverTable : PureAtom → Type 0
  OverTable a = IsOver path.vars (term_of a)

  store_over : (y : List ℕ) (t : PureTerm) → term_at (running_store path.stack) y ≡ Some t → IsOver path.vars t
  store_over = running_each (IsOver path.vars) path.stack over.stores

  -- ---- a fault

  module _ (i : ℕ) (fc : PureFaultCase) (which : slice_get cases.faults i ≡ Some fc) where
    abbrev fp : PurePath S
    fp = (faulted path here fc).path

    fault_stands : (inputs v : List PureValue) (s : State) → Stands stands path v s → IsTrue (all_true v (path.conds ++ fc.conds))
        → StandsForStep p m stands fp v s fp.ending (step p m inputs s)
    fault_stands inputs v s is met =
        let fails : step p m inputs s ≡ fails_with (text (fault_text fc.fault)) (at_command s) s =
        stepped inputs v s is ∙ fault_leads v (evaluate e s.current.store) fc (at_command s) s (go_on (at_command s) s)
        (fault_says v (evaluate e s.current.store) cases i fc (says v s is) which) (second_true v path.conds fc.conds met) in
        subst (StandsForStep p m stands fp v s fp.ending) (sym fails) (record {
          proper = is.proper;
          meets = met;
          ending = (text (fault_text fc.fault), (refl, nothing_missed v s is, ap (machine.failed (text (fault_text fc.fault))) (same_place v path.stack s is.frames)));
          memory = is.memory;
          symbols_below = is.symbols_below;
          draws = is.draws;
        })

    fault_exact : IsExact p m stands path fp
    fault_exact inputs v w s is ext known sat =
        let same : w ≡ v = unchanged inputs v w s fp refl ext in (
          chosen_none fp v s refl is,
          subst (λ u. StandsForStep p m stands fp u s fp.ending (step p m inputs s)) (sym same)
              (fault_stands inputs v s is (subst (λ u. IsTrue (all_true u (path.conds ++ fc.conds))) same sat.true_there)),
        )

    fault_along : HoldsAlong p m stands path fp
    fault_along inputs v w s is ext sat chosen goes =
        met_at v w s fc.conds is (unchanged inputs v w s fp refl ext) (second_true w path.given fc.conds sat.true_there)

    fault_along_unknown : (place : Place) (reason : Reason) → HoldsAlong p m stands path (ended_unknown (faulted path here fc) place reason)
    fault_along_unknown place reason inputs v w s is ext sat chosen goes =
        met_at v w s fc.conds is (unchanged inputs v w s (ended_unknown (faulted path here fc) place reason) refl ext)
        (second_true w path.given fc.conds (first_true w (path.given ++ fc.conds) [] sat.true_there))

    fault_over : Each OverTable fc.conds
    fault_over = each_at (λ (d : PureFaultCase). Each OverTable d.conds) cases.faults i fc (evaluated.names path.vars store_over).0.0 which

    fault_grows : Grows terms path fp
    fault_grows = record {
      new_vars = [];
      vars = same_and_none path.vars path.vars refl;
      sorts = tt;
      drawn = same_and_none path.drawn path.drawn refl;
      new_conds = fc.conds;
      conds = refl;
      new_given = fc.conds;
      given = refl;
      assumed = later_among path.conds fc.conds;
      chosen = None;
      choices = same_and_none path.choices path.choices refl;
      steps = refl;
      over = record {
        conds = each_append OverTable path.conds fc.conds over.conds fault_over;
        given = each_append OverTable path.given fc.conds over.given fault_over;
        stores = over.stores;
        memory = over.memory;
        drawn = over.drawn;
        ending = (λ y has. absurd (none_contained y has), tt);
      };
    }

    fault_own : AddsOwn (IsAsked (running_store path.stack) e) path fp
    fault_own = record {
      added = fc.conds;
      conds = refl;
      each = each_at (λ (d : PureFaultCase). Each (IsAsked (running_store path.stack) e) d.conds) cases.faults i fc evaluated.origin.0.0 which;
    }

  fault_assumes : (i : ℕ) (fc : PureFaultCase) → slice_get cases.faults i ≡ Some fc → AssumesRightly p Own NoOwn path (faulted path here fc)
  fault_assumes i fc which =
      assumes_rightly p Own NoOwn path c at (faulted path here fc) fc.conds refl (may_each fc.conds (each_at (λ (d : PureFaultCase). Each Own d.conds) cases.faults i fc evaluated.origin.0.0 which)) tt
      (inr (inl (refl, λ going. not_none (sym going))))

  good_asked : (g : PureGoodCase PureTerm) → cases.good ≡ Some g → Each Own g.conds
  good_asked g is_good = subst (OnConditions Own) is_good evaluated.origin.0.1

  fault_follows : (i : ℕ) (fc : PureFaultCase) → slice_get cases.faults i ≡ Some fc → Follows p m terms path (faulted path here fc).path
  fault_follows i fc which =
      follows_failing p m terms path (faulted path here fc).path c at k command (literal (Literal.Str (fault_text fc.fault))) here refl
      (inl (fault_text fc.fault, refl))

  result_from : (g : PureGoodCase PureTerm) → cases.good ≡ Some g → IsTermOf (running_store path.stack) e g.result
  result_from g is_good = subst (OnResult (IsTermOf (running_store path.stack) e)) is_good evaluated.origin.1

  -- ---- the result

  module _ (x : List ℕ) (goes_to : (here : Place) (s : State) (a : PureValue) → go_on here s a ≡ machine_step.assigned x a s) (g : PureGoodCase PureTerm) (bs : PureStore) (is_good : cases.good ≡ Some g) (bound : IsBound (running_store path.stack) x g.result bs)
      (quiet : (makes_choice k ≡ false) × (new_sorts m k ≡ [])) (kind : k ≡ assign x e) where
    abbrev gp : PurePath S
    gp = (assigned path bs g).path

    good_stands : (inputs v : List PureValue) (s : State) → Stands stands path v s → IsTrue (all_true v (path.conds ++ g.conds))
        → StandsForStep p m stands gp v s path.ending (step p m inputs s)
    good_stands inputs v s is met =
        let (a, (ok, val)) = good_leads v (evaluate e s.current.store) cases g (says v s is) is_good (second_true v path.conds g.conds met) in
        let leads : step p m inputs s ≡ machine_step.assigned x a s = stepped inputs v s is ∙ ap (λ o. with_value o (at_command s) s (go_on (at_command s) s)) ok ∙ goes_to (at_command s) s a in
        subst (λ o. StandsForStep p m stands gp v s o (step p m inputs s)) (sym no_end)
        (subst (StandsForStep p m stands gp v s None) (sym leads) (record {
          proper = is.proper;
          meets = met;
          frames = advanced_frames v path.stack s.current s.callers bs (bind x a s.current.store) is.frames
              (agree_bound v (running_store path.stack) bs s.current.store x g.result a bound val (running_stands v path.stack s.current s.callers is.frames));
          memory = is.memory;
          symbols_below = is.symbols_below;
          draws = is.draws;
        }))

    good_exact : IsExact p m stands path gp
    good_exact inputs v w s is ext known sat =
        let same : w ≡ v = unchanged inputs v w s gp refl ext in (
          chosen_none gp v s refl is,
          subst (λ u. StandsForStep p m stands gp u s path.ending (step p m inputs s)) (sym same)
              (good_stands inputs v s is (subst (λ u. IsTrue (all_true u (path.conds ++ g.conds))) same sat.true_there)),
        )

    good_along : HoldsAlong p m stands path gp
    good_along inputs v w s is ext sat chosen goes =
        let same : w ≡ v = unchanged inputs v w s gp refl ext in
        met_at v w s g.conds is same (subst (λ u. IsTrue (all_true u g.conds)) (sym same)
        (going_on_met v (evaluate e s.current.store) cases g (at_command s) s (go_on (at_command s) s) (says v s is) is_good
        (subst (GoesOnAs None) (stepped inputs v s is) (subst (λ o. GoesOnAs o (step p m inputs s)) no_end goes))))

    good_along_unknown : (place : Place) (reason : Reason) → HoldsAlong p m stands path (ended_unknown (assigned path bs g) place reason)
    good_along_unknown place reason inputs v w s is ext sat chosen goes =
        met_at v w s g.conds is (unchanged inputs v w s (ended_unknown (assigned path bs g) place reason) refl ext) (second_true w path.given g.conds sat.true_there)

    good_over : Each OverTable g.conds
    good_over = subst (OnConditions OverTable) is_good (evaluated.names path.vars store_over).0.1

    good_grows : Grows terms path gp
    good_grows = record {
      new_vars = [];
      vars = same_and_none path.vars path.vars refl;
      sorts = tt;
      drawn = same_and_none path.drawn path.drawn refl;
      new_conds = g.conds;
      conds = refl;
      new_given = [];
      given = same_and_none path.given path.given refl;
      assumed = tt;
      chosen = None;
      choices = same_and_none path.choices path.choices refl;
      steps = refl;
      over = record {
        conds = each_append OverTable path.conds g.conds over.conds good_over;
        given = over.given;
        stores = advanced_each (IsOver path.vars) path.stack bs over.stores
            (each_bound (IsOver path.vars) (running_store path.stack) bs x g.result bound (subst (OnResult (IsOver path.vars)) is_good (evaluated.names path.vars store_over).1) store_over);
        memory = over.memory;
        drawn = over.drawn;
        ending = over.ending;
      };
    }

    good_own : AddsOwn (IsAsked (running_store path.stack) e) path gp
    good_own = record {
      added = g.conds;
      conds = refl;
      each = subst (OnConditions (IsAsked (running_store path.stack) e)) is_good evaluated.origin.0.1;
    }

    assigned_keeps : GoodLaws stands terms p m (IsAsked (running_store path.stack) e) path g (assigned path bs g)
    assigned_keeps = record {
      growth = (good_grows, later_among path.conds g.conds);
      recorded = same_records p m path gp c at (ap (new_sorts m) command ∙ quiet.1) (ap makes_choice command ∙ quiet.0) refl refl;
      known = open_is_known path.ending no_end;
      vars = refl;
      conds = refl;
      leads = good_stands;
      exact = good_exact;
      along = (good_along, good_along_unknown);
      own_conditions = good_own;
      assumes = assumes_rightly p Own NoOwn path c at (assigned path bs g) [] (same_and_none path.given path.given refl) tt (may_each g.conds (good_asked g is_good)) (inr (inl (refl, λ going. refl)));
      origin = follows_going p m terms path gp c at (assign x e) (command ∙ kind) no_end (refl, (g.result, (result_from g is_good, (bs, (bound, refl)))));
    }

  -- ---- failing with the result

  module _ (fails_to : (here : Place) (s : State) (a : PureValue) → go_on here s a ≡ fails_with a here s) (g : PureGoodCase PureTerm) (is_good : cases.good ≡ Some g) (kind : k ≡ fail e) where
    abbrev tp : PurePath S
    tp = (failing path here g).path

    failing_stands : (inputs v : List PureValue) (s : State) → Stands stands path v s → IsTrue (all_true v (path.conds ++ g.conds))
        → StandsForStep p m stands tp v s tp.ending (step p m inputs s)
    failing_stands inputs v s is met =
        let (a, (ok, val)) = good_leads v (evaluate e s.current.store) cases g (says v s is) is_good (second_true v path.conds g.conds met) in
        let fails : step p m inputs s ≡ fails_with a (at_command s) s = stepped inputs v s is ∙ ap (λ o. with_value o (at_command s) s (go_on (at_command s) s)) ok ∙ fails_to (at_command s) s a in
        subst (StandsForStep p m stands tp v s tp.ending) (sym fails) (record {
          proper = is.proper;
          meets = met;
          ending = (a, (val, nothing_missed v s is, ap (machine.failed a) (same_place v path.stack s is.frames)));
          memory = is.memory;
          symbols_below = is.symbols_below;
          draws = is.draws;
        })

    failing_exact : IsExact p m stands path tp
    failing_exact inputs v w s is ext known sat =
        let same : w ≡ v = unchanged inputs v w s tp refl ext in (
          chosen_none tp v s refl is,
          subst (λ u. StandsForStep p m stands tp u s tp.ending (step p m inputs s)) (sym same)
              (failing_stands inputs v s is (subst (λ u. IsTrue (all_true u (path.conds ++ g.conds))) same sat.true_there)),
        )

    failing_along : HoldsAlong p m stands path tp
    failing_along inputs v w s is ext sat chosen goes =
        met_at v w s g.conds is (unchanged inputs v w s tp refl ext) (second_true w path.given g.conds sat.true_there)

    failing_along_unknown : (place : Place) (reason : Reason) → HoldsAlong p m stands path (ended_unknown (failing path here g) place reason)
    failing_along_unknown place reason inputs v w s is ext sat chosen goes =
        met_at v w s g.conds is (unchanged inputs v w s (ended_unknown (failing path here g) place reason) refl ext)
        (second_true w path.given g.conds (first_true w (path.given ++ g.conds) [] sat.true_there))

    failing_over : Each OverTable g.conds
    failing_over = subst (OnConditions OverTable) is_good (evaluated.names path.vars store_over).0.1

    failing_keeps : GoodLaws stands terms p m (IsAsked (running_store path.stack) e) path g (failing path here g)
    failing_keeps = record {
      growth = (
        record {
          new_vars = [];
          vars = same_and_none path.vars path.vars refl;
          sorts = tt;
          drawn = same_and_none path.drawn path.drawn refl;
          new_conds = g.conds;
          conds = refl;
          new_given = g.conds;
          given = refl;
          assumed = later_among path.conds g.conds;
          chosen = None;
          choices = same_and_none path.choices path.choices refl;
          steps = refl;
          over = record {
            conds = each_append OverTable path.conds g.conds over.conds failing_over;
            given = each_append OverTable path.given g.conds over.given failing_over;
            stores = over.stores;
            memory = over.memory;
            drawn = over.drawn;
            ending = (subst (OnResult (IsOver path.vars)) is_good (evaluated.names path.vars store_over).1, tt);
          };
        },
        tt,
      );
      recorded = ended_records p m path tp refl refl (closed_both path.conds g.conds (all_closed g.conds (good_asked g is_good))) (failed g.result here) refl;
      known = λ unknown. unknown;
      vars = refl;
      conds = refl;
      leads = failing_stands;
      exact = failing_exact;
      along = (failing_along, failing_along_unknown);
      own_conditions = record {
        added = g.conds;
        conds = refl;
        each = subst (OnConditions (IsAsked (running_store path.stack) e)) is_good evaluated.origin.0.1;
      };
      assumes = assumes_rightly p Own NoOwn path c at (failing path here g) g.conds refl (may_each g.conds (good_asked g is_good)) tt (inr (inl (refl, λ going. not_none (sym going))));
      origin = follows_failing p m terms path tp c at (fail e) (command ∙ kind) g.result here refl (inr (result_from g is_good));
    }

  -- ---- all of them

  one_of_each : {A : Type 0} (P Q : A → Type 0) (xs : List A) → Each (λ y. P y → Q y) xs → OneOf P xs → OneOf Q xs
  one_of_each P Q [] all one = absurd one
  one_of_each P Q (y ∷ xs) all one = ⊎_elim (λ here. inl (all.0 here)) (λ later. inr (one_of_each P Q xs all.1 later)) one

  module _ (Makes : PureGoodCase PureTerm → Candidate S → Type 0) (good_laws : (g : PureGoodCase PureTerm) (d : Candidate S) → cases.good ≡ Some g → Makes g d → GoodLaws stands terms p m Own path g d) where
    each_result : (P : Candidate S → Type 0) → ((g : PureGoodCase PureTerm) (d : Candidate S) → GoodLaws stands terms p m Own path g d → P d)
        → (o : Option (PureGoodCase PureTerm)) → cases.good ≡ o → (last : List (Candidate S)) → IsResult Makes o last → Each P last
    each_result P good None is last result = subst (Each P) (sym result) tt
    each_result P good (Some g) is last (d, (makes, one)) = subst (Each P) (sym one) (good g d (good_laws g d is makes), tt)

    each_candidate : (P : Candidate S → Type 0) → ((i : ℕ) (fc : PureFaultCase) → slice_get cases.faults i ≡ Some fc → P (faulted path here fc))
        → ((g : PureGoodCase PureTerm) (d : Candidate S) → GoodLaws stands terms p m Own path g d → P d)
        → (cs : List (Candidate S)) → AreForCases path here Makes cases cs → Each P cs
    each_candidate P faults good cs (last, (is, result)) =
        subst (Each P) (sym is) (each_append P (map (faulted path here) cases.faults) last
        (each_map P (faulted path here) cases.faults (each_by_place (λ fc. P (faulted path here fc)) cases.faults faults))
        (each_result P good cases.good refl last result))

    module _ (inputs v : List PureValue) (s : State) (is : Stands stands path v s) where
      abbrev Covered : Candidate S → Type 0
      Covered d =
          (w : List PureValue) × (Extends inputs s path d.path v w × Satisfies d.path.vars w d.path.conds
          × (StandsForStep p m stands d.path w s d.path.ending (step p m inputs s) ⊎ IsTrue (has_open d.path.conds)))

      fault_covers : (i : ℕ) (fc : PureFaultCase) → slice_get cases.faults i ≡ Some fc → IsTaken v fc → Covered (faulted path here fc)
      fault_covers i fc which taken =
          let met : IsTrue (all_true v (path.conds ++ fc.conds)) = both_true v path.conds fc.conds is.meets taken in
          (v, (not_extended inputs v s (faulted path here fc).path refl, record { proper = is.proper; true_there = met }, inl (fault_stands i fc which inputs v s is met)))

      good_covers : (g : PureGoodCase PureTerm) (d : Candidate S) → GoodLaws stands terms p m Own path g d → IsTrue (all_true v g.conds) → Covered d
      good_covers g d laws conds =
          let met : IsTrue (all_true v (path.conds ++ g.conds)) = both_true v path.conds g.conds is.meets conds in (
            v,
            (
              not_extended inputs v s d.path laws.vars,
              record { proper = subst (λ sorts. IsProper sorts v) (sym laws.vars) is.proper; true_there = subst (λ atoms. IsTrue (all_true v atoms)) (sym laws.conds) met },
              inl (laws.leads inputs v s is met),
            ),
          )

      one_result : (a : PureValue) (o : Option (PureGoodCase PureTerm)) → cases.good ≡ o → IsGood v (λ t. HasValue v t a) o → (last : List (Candidate S)) → IsResult Makes o last → OneOf Covered last
      one_result a None same good last result = absurd good
      one_result a (Some g) same good last (d, (makes, one)) = subst (OneOf Covered) (sym one) (inl (good_covers g d (good_laws g d same makes) good.0))

      covers_by : (o : Outcome) → SayOutcome v (HasValue v) o cases → (last : List (Candidate S)) → IsResult Makes cases.good last → OneOf Covered (map (faulted path here) cases.faults ++ last)
      covers_by (Ok a) said last result = one_right Covered (map (faulted path here) cases.faults) last (one_result a cases.good refl said.0 last result)
      covers_by (Err f) said last result =
          one_left Covered (map (faulted path here) cases.faults) last (one_map Covered (faulted path here) cases.faults
          (one_of_each (IsTaken v) (λ fc. Covered (faulted path here fc)) cases.faults (each_by_place (λ fc. IsTaken v fc → Covered (faulted path here fc)) cases.faults fault_covers) said.1))

    are_candidates : (cs : List (Candidate S)) → AreForCases path here Makes cases cs → AreCandidates p m stands terms Own NoOwn path cs
    are_candidates cs are = record {
      growth = each_candidate (λ d. Grows terms path d.path × Each (λ a. IsAmong a d.path.conds) d.no_fault) (λ i fc which. (fault_grows i fc which, tt)) (λ g d laws. laws.growth) cs are;
      recorded = each_candidate (λ d. IsRecorded p m path d.path) (λ i fc which. ended_records p m path (fp i fc which) refl refl (closed_both path.conds fc.conds (all_closed fc.conds (each_at (λ (d : PureFaultCase). Each Own d.conds) cases.faults i fc evaluated.origin.0.0 which))) (failed (literal (Literal.Str (fault_text fc.fault))) here) refl) (λ g d laws. laws.recorded) cs are;
      known = each_candidate (λ d. ¬ IsUnknown d.path.ending) (λ i fc which unknown. unknown) (λ g d laws. laws.known) cs are;
      cover = λ inputs v s is has. subst (OneOf (Covered inputs v s is)) (sym are.1.0) (covers_by inputs v s is (evaluate e s.current.store) (says v s is) are.0 are.1.1);
      exact = each_candidate (λ d. has_open d.path.conds ≡ false → IsExact p m stands path d.path) (λ i fc which no_form. fault_exact i fc which) (λ g d laws no_form. laws.exact) cs are;
      along = each_candidate (λ d. HoldsAlong p m stands path d.path × ((place : Place) (reason : Reason) → HoldsAlong p m stands path (ended_unknown d place reason)))
          (λ i fc which. (fault_along i fc which, fault_along_unknown i fc which)) (λ g d laws. laws.along) cs are;
      own_conditions = each_candidate (λ d. AddsOwn Own path d.path) fault_own (λ g d laws. laws.own_conditions) cs are;
      assumes = each_candidate (AssumesRightly p Own NoOwn path) fault_assumes (λ g d laws. laws.assumes) cs are;
      origin = each_candidate (λ d. has_open d.path.conds ≡ false → Follows p m terms path d.path) (λ i fc which no_form. fault_follows i fc which) (λ g d laws no_form. laws.origin) cs are;
    }

pub valued_candidates : {S : Type 0} (stands : S → List PureValue → Heap → Type 0) (terms : S → StateTerms) → ValuedCandidates stands terms
valued_candidates {S} stands terms = record {
  of_assignment = λ p m path c x e cases cs over no_end at command evaluated.
      are_candidates stands terms p m path c e cases over no_end at (assign x e) (λ here s a. machine_step.assigned x a s) command (λ inputs here s. refl) (λ s. refl) evaluated (λ a is. is) (Assigns path x)
      (λ g d is_good (made : Assigns path x g d). subst (GoodLaws stands terms p m (IsAsked (running_store path.stack) e) path g) (sym made.1.1)
      (assigned_keeps stands terms p m path c e cases over no_end at (assign x e) (λ here s a. machine_step.assigned x a s) command (λ inputs here s. refl) (λ s. refl) evaluated (λ a is. is) x (λ here s a. refl) g made.0 is_good made.1.0 (refl, refl) refl)) cs;
  of_failure = λ p m path c e cases cs over no_end at command evaluated.
      are_candidates stands terms p m path c e cases over no_end at (fail e) (λ here s a. fails_with a here s) command (λ inputs here s. refl) (λ s. refl) evaluated (λ a is. is) (Fails path (place_at path.stack c))
      (λ g d is_good (made : Fails path (place_at path.stack c) g d). subst (GoodLaws stands terms p m (IsAsked (running_store path.stack) e) path g) (sym made)
      (failing_keeps stands terms p m path c e cases over no_end at (fail e) (λ here s a. fails_with a here s) command (λ inputs here s. refl) (λ s. refl) evaluated (λ a is. is) (λ here s a. refl) g is_good refl)) cs;
}
