-- The candidates for the cases of a command keep the laws, where those for its result do.
use Rattle.std.proofs.Common.{◌≡◌, ◌⊎◌, ⊎_elim, inl, inr, ℕ, List, [], ◌∷◌, ◌++◌, map, Bool, true, false, ◌||◌, slice_get, Option, Some, None, Result, Ok, Err, IsTrue, refl, sym, ap, subst, ◌∙◌, true≢false}
use Rattle.std.specs.List.{list_any}
use Rattle.std.proofs.lemmas.Bool.{and_from, and_parts}
use Rattle.std.proofs.lemmas.List.{append-nil, append_cancel_left}
use Rattle.std.proofs.lemmas.List.Folds.{list_all-append, list_any-append}
use Rattle.gil_values.specs.declared.places.Place.{Place}
use Rattle.gil_values.specs.Operators.{Fault, fault_text}
use Rattle.gil_values.specs.Pure.{PureValue, text}
use Rattle.gil_values.proofs.OperatorSymbols.{none_contained}
use Rattle.gil_syntax.specs.Evaluation.{Store}
use Rattle.gil_syntax.specs.Pure.{PureParts, PureCommand, PureNumberedCommand}
use Rattle.gil_machine.specs.Choices.{choice_at, choice_of, miss_at, with_choice}
use Rattle.gil_machine.specs.State.{State, Step}
use Rattle.gil_machine.specs.State as machine
use Rattle.gil_machine.specs.Step.{command_at, do_command, step, fails_with}
use Rattle.mem_model.specs.Actions.{Actions}
use Rattle.mem_model.specs.Heaps.{Heap}
use Rattle.pure_terms.specs.declared.deciders.Reason.{Reason}
use Rattle.pure_terms.specs.declared.variables.Sort.{Sort}
use Rattle.pure_terms.specs.Meaning.{truth, all_true, IsProper, IsOver, Satisfies}
use Rattle.pure_terms.specs.declared.literals.Literal.{Literal}
use Rattle.pure_terms.specs.Pure.{literal, PureAtom, term_of}
use Rattle.sym_evaluation.specs.Meaning.{Serves, IsTaken, IsClosed, IsGood, SayOutcome}
use Rattle.sym_evaluation.specs.Pure.{PureStore, term_at, PureFaultCase, PureGoodCase, PureCases}
use Rattle.sym_evaluation.specs.Questions.{OnConditions, EachCondition, NameNoOthers}
use Rattle.sym_model.specs.Lists.{Each, OneOf, IsAmong}
use Rattle.sym_model.specs.Meaning.{is_open, has_open}
use Rattle.sym_model.specs.Terms.{StateTerms}
use Rattle.sym_model.proofs.ListLaws.{not_none, each_append, each_at, each_map, each_to, each_by_place, one_map, one_left, one_right}
use Rattle.sym_paths.specs.Valued.{place_at, faulted}
use Rattle.sym_paths.specs.Meaning.{AreFrames, Stands, StandsForStep, IsOverTable, command_of_path}
use Rattle.sym_paths.specs.Moves.{running_store}
use Rattle.sym_paths.specs.Origins.{Follows}
use Rattle.sym_paths.specs.Pure.{PureFrame, failed, PurePath}
use Rattle.sym_paths.specs.Settling.{Candidate, ended_unknown, AssumesRightly, AreCandidates}
use Rattle.sym_paths.specs.Steps.{AreNext, Extends, IsUnknown, IsChosen, GoesOnAs, Grows, IsRecorded, AddsOwn, MayAssume, IsExact, HoldsAlong}
use Rattle.sym_paths.proofs.Assuming.{assumes_rightly}
use Rattle.sym_evaluation.proofs.AskedAtoms.{NeedsNone}
use Rattle.sym_paths.proofs.Closed.{closed_each, closed_both}
use Rattle.sym_paths.proofs.Growing.{all_true-more, later_among}
use Rattle.sym_paths.proofs.Missing.{misses_nothing}
use Rattle.sym_paths.proofs.Moving.{nothing_more, none_next, running_stands, running_each}
use Rattle.sym_paths.proofs.Origins.{follows_failing}
use Rattle.sym_paths.proofs.Recording.{ended_records}
use Rattle.sym_paths.proofs.Silent.{stands_at, step-is, choice-is, extended_by, same_and_none}
use Rattle.sym_paths.specs.Cases.{AreResults, AreOfCases, failing_with}

-- ---- conditions in parts

pub both_true : (v : List PureValue) (a b : List PureAtom) → IsTrue (all_true v a) → IsTrue (all_true v b) → IsTrue (all_true v (a ++ b))
both_true v a b first second = list_all-append (truth v) a b ∙ and_from (all_true v a) (all_true v b) first second

pub second_true : (v : List PureValue) (a b : List PureAtom) → IsTrue (all_true v (a ++ b)) → IsTrue (all_true v b)
second_true v a b whole = (and_parts (all_true v a) (all_true v b) (sym (list_all-append (truth v) a b) ∙ whole)).1

pub first_true : (v : List PureValue) (a b : List PureAtom) → IsTrue (all_true v (a ++ b)) → IsTrue (all_true v a)
first_true v a b whole = (and_parts (all_true v a) (all_true v b) (sym (list_all-append (truth v) a b) ∙ whole)).0

neither : (a b : Bool) → (a || b) ≡ false → b ≡ false
neither true b none = absurd (true≢false none)
neither false b none = none

-- no form is needed in the later part
pub closed_later : (a b : List PureAtom) → has_open (a ++ b) ≡ false → has_open b ≡ false
closed_later a b none = neither (list_any is_open a) (list_any is_open b) (sym (list_any-append is_open a b) ∙ none)

open_after : (a b : Bool) → b ≡ true → (a || b) ≡ true
open_after true b is = refl
open_after false b is = is

pub open_later : (a b : List PureAtom) → IsTrue (has_open b) → IsTrue (has_open (a ++ b))
open_later a b needs = list_any-append is_open a b ∙ open_after (list_any is_open a) (list_any is_open b) needs

-- ---- outcomes

-- what goes on with what was evaluated; a fault fails with its text
abbrev pub with_outcome : {A : Type 0} → Result A Fault → Place → State → (A → Step) → Step
with_outcome (Ok a) here s go_on = go_on a
with_outcome (Err f) here s go_on = fails_with (text (fault_text f)) here s

abbrev pub of_outcome : {A B : Type 0} → (A → Option B) → Result A Fault → Option B
of_outcome f (Ok a) = f a
of_outcome f (Err fault) = None

-- the cases are those of what is evaluated, ask what is own and may be assumed at the command, and no literal form, and name only variables
-- of the store
pub record IsEvaluation {X A : Type 0} (bs : PureStore) (Is : List PureValue → X → A → Type 0) (Over : List Sort → X → Type 0) (outcome : Store → Result A Fault) (own : PureAtom → Type 0) (command : PureCommand) (cases : PureCases X) : Type 0 where
  pub says : (vars : List Sort) (v : List PureValue) (s : Store) → Serves vars v bs s → SayOutcome v (Is v) (outcome s) cases
  pub origin : EachCondition own cases
  pub assumed : EachCondition (MayAssume own bs command) cases
  pub closed : EachCondition NeedsNone cases
  pub names : NameNoOthers Over bs cases

-- what is said of one fault case
abbrev FaultSays : {A : Type 0} → List PureValue → Result A Fault → PureFaultCase → Type 0
FaultSays v (Ok a) fc = all_true v fc.conds ≡ false
FaultSays v (Err f) fc = IsTaken v fc → fc.fault ≡ f

closed_false : {X : Type 0} (v : List PureValue) (o : Option (PureGoodCase X)) (g : PureGoodCase X) → o ≡ Some g → IsClosed v o → all_true v g.conds ≡ false
closed_false v o g is closed = subst (IsClosed v) is closed

module _ {A : Type 0} where
  fault_is : (v : List PureValue) (o : Result A Fault) (fc : PureFaultCase) → FaultSays v o fc → IsTaken v fc → o ≡ Err fc.fault
  fault_is v (Ok a) fc says taken = absurd (true≢false (sym taken ∙ says))
  fault_is v (Err f) fc says taken = ap (λ g. Err g) (sym (says taken))

  goes_on_with : (o : Result A Fault) (here : Place) (s : State) (go_on : A → Step) → GoesOnAs None (with_outcome o here s go_on) → (a : A) × (o ≡ Ok a)
  goes_on_with (Ok a) here s go_on goes = (a, refl)
  goes_on_with (Err f) here s go_on goes = absurd goes

  chooses_with : {B : Type 0} (o : Result A Fault) (f : A → Option B) (k : B) → of_outcome f o ≡ Some k → (a : A) × ((o ≡ Ok a) × (f a ≡ Some k))
  chooses_with (Ok a) f k is = (a, (refl, is))
  chooses_with (Err fault) f k is = not_none is

module _ {X A : Type 0} where
  fault_says : (v : List PureValue) (Is : X → A → Type 0) (o : Result A Fault) (cases : PureCases X) (i : ℕ) (fc : PureFaultCase) → SayOutcome v Is o cases → slice_get cases.faults i ≡ Some fc → FaultSays v o fc
  fault_says v Is (Ok a) cases i fc says at = each_at (λ c. all_true v c.conds ≡ false) cases.faults i fc says.1 at
  fault_says v Is (Err f) cases i fc says at = each_at (λ c. IsTaken v c → c.fault ≡ f) cases.faults i fc says.2 at

  pub good_leads : (v : List PureValue) (Is : X → A → Type 0) (o : Result A Fault) (cases : PureCases X) (g : PureGoodCase X) → SayOutcome v Is o cases → cases.good ≡ Some g → IsTrue (all_true v g.conds)
      → (a : A) × ((o ≡ Ok a) × Is g.result a)
  good_leads v Is (Ok a) cases g says is met = (a, (refl, (subst (IsGood v (λ t. Is t a)) is says.0).1))
  good_leads v Is (Err f) cases g says is met = absurd (true≢false (sym met ∙ closed_false v cases.good g is says.0))

  good_met : (v : List PureValue) (Is : X → A → Type 0) (o : Result A Fault) (a : A) (cases : PureCases X) (g : PureGoodCase X) → SayOutcome v Is o cases → o ≡ Ok a → cases.good ≡ Some g
      → IsTrue (all_true v g.conds) × Is g.result a
  good_met v Is o a cases g says ok is =
      let said : SayOutcome v Is (Ok a) cases = subst (λ r. SayOutcome v Is r cases) ok says in
      subst (IsGood v (λ t. Is t a)) is said.0

one_choice : (o : Option ℕ) (k : ℕ) → with_choice o [] ≡ k ∷ [] → o ≡ Some k
one_choice (Some j) k is = cc
one_choice None k is = cc

pub one_of_each : {A : Type 0} (P Q : A → Type 0) (xs : List A) → Each (λ y. P y → Q y) xs → OneOf P xs → OneOf Q xs
one_of_each P Q [] all one = absurd one
one_of_each P Q (y ∷ xs) all one = ⊎_elim (λ here. inl (all.0 here)) (λ later. inr (one_of_each P Q xs all.1 later)) one

-- ---- candidates

module _ {S : Type 0} (stands : S → List PureValue → Heap → Type 0) (terms : S → StateTerms) (p : PureParts) (m : Actions) (path : PurePath S) (c : PureNumberedCommand) (over : IsOverTable terms path) (at : command_of_path p path ≡ Some c) where
  abbrev pub here : Place
  here = place_at path.stack c

  abbrev pub at_command : State → Place
  at_command s = record { proc = s.current.procedure; at = c.at }

  pub standing : (v : List PureValue) (s : State) → Stands stands path v s → command_at p s.current ≡ Some c
  standing v s is = sym (stands_at p v path.stack s is.frames) ∙ at

  pub same_place : (v : List PureValue) (fs : List PureFrame) (s : State) → AreFrames v fs (s.current ∷ s.callers) → at_command s ≡ place_at fs c
  same_place v [] s are = absurd are
  same_place v (f ∷ fs) s are = ap (λ (q : List ℕ). record { proc = q; at = c.at }) (sym are.0.procedure)

  pub store_over : (y : List ℕ) → (t : _) → term_at (running_store path.stack) y ≡ Some t → IsOver path.vars t
  store_over = running_each (IsOver path.vars) path.stack over.stores

  pub serves : (v : List PureValue) (s : State) → Stands stands path v s → Serves path.vars v (running_store path.stack) s.current.store
  serves v s is = record {
    proper = is.proper;
    over = store_over;
    stands = running_stands v path.stack s.current s.callers is.frames;
  }

  module _ {X A : Type 0} (Is : List PureValue → X → A → Type 0) (Over : List Sort → X → Type 0) (outcome : Store → Result A Fault) (go_on : Place → State → A → Step) (chooses : State → A → Option ℕ) (own by_memory : PureAtom → Type 0) (cases : PureCases X)
      (evaluated : IsEvaluation (running_store path.stack) Is Over outcome own c.command cases)
      (does : (inputs : List PureValue) (place : Place) (s : State) → do_command p m inputs c.command place s ≡ with_outcome (outcome s.current.store) place s (go_on place s))
      (choice : (s : State) → choice_of p m c.command s ≡ of_outcome (chooses s) (outcome s.current.store)) where
    says : (v : List PureValue) (s : State) → Stands stands path v s → SayOutcome v (Is v) (outcome s.current.store) cases
    says v s is = evaluated.says path.vars v s.current.store (serves v s is)

    stepped : (inputs v : List PureValue) (s : State) → Stands stands path v s → step p m inputs s ≡ with_outcome (outcome s.current.store) (at_command s) s (go_on (at_command s) s)
    stepped inputs v s is = step-is p m inputs s c c.command (standing v s is) refl ∙ does inputs (at_command s) s

    chosen : (v : List PureValue) (s : State) → Stands stands path v s → choice_at p m s ≡ of_outcome (chooses s) (outcome s.current.store)
    chosen v s is = choice-is p m [] s c c.command (standing v s is) refl ∙ choice s

    -- where no choice is made, nothing is missed
    nothing_missed : (v : List PureValue) (s : State) → Stands stands path v s → of_outcome (chooses s) (outcome s.current.store) ≡ None → miss_at p m s ≡ None
    nothing_missed v s is none = misses_nothing p m s (chosen v s is ∙ none)

    abbrev pub May : PureAtom → Type 0
    May = MayAssume own (running_store path.stack) c.command

    pub good_closed : (g : PureGoodCase X) → cases.good ≡ Some g → has_open g.conds ≡ false
    good_closed g is_good = closed_each g.conds (subst (OnConditions NeedsNone) is_good evaluated.closed.1)

    pub good_may : (g : PureGoodCase X) → cases.good ≡ Some g → Each May g.conds
    good_may g is_good = subst (OnConditions May) is_good evaluated.assumed.1

    -- what a candidate for the result of a good case must do, with these new variables and further conditions
    pub record MakesNext (sorts : List Sort) (g : PureGoodCase X) (more : List PureAtom) (d : Candidate S) : Type 0 where
      pub growth : Grows terms path d.path × Each (λ a. IsAmong a d.path.conds) d.no_fault
      pub recorded : IsRecorded p m path d.path
      pub known : ¬ IsUnknown d.path.ending
      pub vars : d.path.vars ≡ path.vars ++ sorts
      pub conds : d.path.conds ≡ path.conds ++ (g.conds ++ more)
      pub own_more : Each own more
      pub assumes : AssumesRightly p own by_memory path d
      pub origin : has_open more ≡ false → Follows p m terms path d.path
      pub exact : (inputs v ws : List PureValue) (s : State) (a : A) → Stands stands path v s → AreNext inputs s.counter s.draws sorts ws → IsProper (path.vars ++ sorts) (v ++ ws) → outcome s.current.store ≡ Ok a → Is v g.result a
          → IsTrue (all_true (v ++ ws) d.path.conds) → has_open more ≡ false → IsChosen path d.path (chooses s a) × StandsForStep p m stands d.path (v ++ ws) s d.path.ending (go_on (at_command s) s a)
      pub along : (inputs v ws : List PureValue) (s : State) → Stands stands path v s → AreNext inputs s.counter s.draws sorts ws → IsTrue (all_true (v ++ ws) d.path.given)
          → IsChosen path d.path (choice_at p m s) → GoesOnAs d.path.ending (step p m inputs s) ⊎ IsTrue (all_true (v ++ ws) d.no_fault) → IsTrue (all_true (v ++ ws) (g.conds ++ more))

    abbrev pub Covered : List PureValue → List PureValue → State → Candidate S → Type 0
    Covered inputs v s d =
        (w : List PureValue) × (Extends inputs s path d.path v w × Satisfies d.path.vars w d.path.conds
        × (StandsForStep p m stands d.path w s d.path.ending (step p m inputs s) ⊎ IsTrue (has_open d.path.conds)))

    -- ---- one candidate for the result

    module _ (sorts : List Sort) (g : PureGoodCase X) (more : List PureAtom) (d : Candidate S) (is_good : cases.good ≡ Some g) (makes : MakesNext sorts g more d) where
      good_over : Each (λ a. IsOver path.vars (term_of a)) g.conds
      good_over = subst (OnConditions (λ a. IsOver path.vars (term_of a))) is_good (evaluated.names path.vars store_over).0.1

      still_met : (v ws : List PureValue) (s : State) → Stands stands path v s → IsTrue (all_true v g.conds) → IsTrue (all_true (v ++ ws) g.conds)
      still_met v ws s is met = all_true-more path.vars v ws is.proper.one_each g.conds good_over ∙ met

      met_before : (v ws : List PureValue) (s : State) → Stands stands path v s → IsTrue (all_true (v ++ ws) g.conds) → IsTrue (all_true v g.conds)
      met_before v ws s is met = sym (all_true-more path.vars v ws is.proper.one_each g.conds good_over) ∙ met

      old_met : (v ws : List PureValue) (s : State) → Stands stands path v s → IsTrue (all_true (v ++ ws) path.conds)
      old_met v ws s is = all_true-more path.vars v ws is.proper.one_each path.conds over.conds ∙ is.meets

      leads : (inputs v ws : List PureValue) (s : State) → Stands stands path v s → AreNext inputs s.counter s.draws sorts ws → IsProper (path.vars ++ sorts) (v ++ ws) → IsTrue (all_true (v ++ ws) d.path.conds) → has_open more ≡ false
          → IsChosen path d.path (choice_at p m s) × StandsForStep p m stands d.path (v ++ ws) s d.path.ending (step p m inputs s)
      leads inputs v ws s is in_turn proper met closed =
          let whole : IsTrue (all_true (v ++ ws) (path.conds ++ (g.conds ++ more))) = subst (λ atoms. IsTrue (all_true (v ++ ws) atoms)) makes.conds met in
          let good : IsTrue (all_true v g.conds) = met_before v ws s is (first_true (v ++ ws) g.conds more (second_true (v ++ ws) path.conds (g.conds ++ more) whole)) in
          let (a, (ok, val)) = good_leads v (Is v) (outcome s.current.store) cases g (says v s is) is_good good in
          let (which, there) = makes.exact inputs v ws s a is in_turn proper ok val met closed in (
            subst (IsChosen path d.path) (sym (chosen v s is ∙ ap (of_outcome (chooses s)) ok)) which,
            subst (StandsForStep p m stands d.path (v ++ ws) s d.path.ending) (sym (stepped inputs v s is ∙ ap (λ o. with_outcome o (at_command s) s (go_on (at_command s) s)) ok)) there,
          )

      closed_more : has_open d.path.conds ≡ false → has_open more ≡ false
      closed_more none = closed_later g.conds more (closed_later path.conds (g.conds ++ more) (sym (ap has_open makes.conds) ∙ none))

      good_exact : has_open d.path.conds ≡ false → IsExact p m stands path d.path
      good_exact none inputs v w s is ext known sat =
          let (ws, (same, in_turn)) = extended_by inputs s path d.path sorts v w makes.vars ext in
          let proper : IsProper (path.vars ++ sorts) (v ++ ws) = subst (λ u. IsProper (path.vars ++ sorts) u) same (subst (λ vars. IsProper vars w) makes.vars sat.proper) in
          let (which, there) = leads inputs v ws s is in_turn proper (subst (λ u. IsTrue (all_true u d.path.conds)) same sat.true_there) (closed_more none) in
          (which, subst (λ u. StandsForStep p m stands d.path u s d.path.ending (step p m inputs s)) (sym same) there)

      all_met : (v ws : List PureValue) (s : State) → Stands stands path v s → IsTrue (all_true (v ++ ws) (g.conds ++ more)) → IsTrue (all_true (v ++ ws) d.path.conds)
      all_met v ws s is met = subst (λ atoms. IsTrue (all_true (v ++ ws) atoms)) (sym makes.conds) (both_true (v ++ ws) path.conds (g.conds ++ more) (old_met v ws s is) met)

      good_along : HoldsAlong p m stands path d.path
      good_along inputs v w s is ext sat which goes =
          let (ws, (same, in_turn)) = extended_by inputs s path d.path sorts v w makes.vars ext in
          subst (λ u. IsTrue (all_true u d.path.conds)) (sym same)
          (all_met v ws s is (makes.along inputs v ws s is in_turn (subst (λ u. IsTrue (all_true u d.path.given)) same sat.true_there) which (inl goes)))

      good_along_unknown : (place : Place) (reason : Reason) → HoldsAlong p m stands path (ended_unknown d place reason)
      good_along_unknown place reason inputs v w s is ext sat which goes =
          let (ws, (same, in_turn)) = extended_by inputs s path (ended_unknown d place reason) sorts v w makes.vars ext in
          let given : IsTrue (all_true (v ++ ws) (d.path.given ++ d.no_fault)) = subst (λ u. IsTrue (all_true u (d.path.given ++ d.no_fault))) same sat.true_there in
          subst (λ u. IsTrue (all_true u d.path.conds)) (sym same)
          (all_met v ws s is (makes.along inputs v ws s is in_turn (first_true (v ++ ws) d.path.given d.no_fault given) which (inr (second_true (v ++ ws) d.path.given d.no_fault given))))

      good_own : AddsOwn own path d.path
      good_own = record {
        added = g.conds ++ more;
        conds = makes.conds;
        each = each_append own g.conds more (subst (OnConditions own) is_good evaluated.origin.1) makes.own_more;
      }

      by_form : (inputs v ws : List PureValue) (s : State) → Stands stands path v s → AreNext inputs s.counter s.draws sorts ws → IsProper (path.vars ++ sorts) (v ++ ws) → IsTrue (all_true (v ++ ws) d.path.conds) → (b : Bool) → has_open more ≡ b
          → StandsForStep p m stands d.path (v ++ ws) s d.path.ending (step p m inputs s) ⊎ IsTrue (has_open d.path.conds)
      by_form inputs v ws s is in_turn proper met true form = inr (ap has_open makes.conds ∙ open_later path.conds (g.conds ++ more) (open_later g.conds more form))
      by_form inputs v ws s is in_turn proper met false form = inl (leads inputs v ws s is in_turn proper met form).1

      -- where the further conditions are true too, what the step comes to is covered
      pub covered_by : (inputs v ws : List PureValue) (s : State) → Stands stands path v s → AreNext inputs s.counter s.draws sorts ws → IsProper (path.vars ++ sorts) (v ++ ws) → IsTrue (all_true v g.conds) → IsTrue (all_true (v ++ ws) more) → Covered inputs v s d
      covered_by inputs v ws s is in_turn proper good further =
          let met : IsTrue (all_true (v ++ ws) d.path.conds) = all_met v ws s is (both_true (v ++ ws) g.conds more (still_met v ws s is good) further) in (
            v ++ ws,
            (
              record { new_vars = sorts; new_values = ws; vars = makes.vars; values = refl; in_turn = in_turn },
              record { proper = subst (λ vars. IsProper vars (v ++ ws)) (sym makes.vars) proper; true_there = met },
              by_form inputs v ws s is in_turn proper met (has_open more) refl,
            ),
          )

    -- ---- a fault

    unchanged : (inputs v w : List PureValue) (s : State) (next : PurePath S) → next.vars ≡ path.vars → Extends inputs s path next v w → w ≡ v
    unchanged inputs v w s next same ext =
        let (ws, (is, in_turn)) = extended_by inputs s path next [] v w (same_and_none next.vars path.vars same) ext in
        is ∙ sym (nothing_more v ws (none_next inputs s.counter s.draws ws in_turn))

    module _ (i : ℕ) (fc : PureFaultCase) (which : slice_get cases.faults i ≡ Some fc) where
      abbrev fp : PurePath S
      fp = (faulted path here fc).path

      fault_leads : (inputs v : List PureValue) (s : State) → Stands stands path v s → IsTrue (all_true v (path.conds ++ fc.conds))
          → IsChosen path fp (choice_at p m s) × StandsForStep p m stands fp v s fp.ending (step p m inputs s)
      fault_leads inputs v s is met =
          let fails : outcome s.current.store ≡ Err fc.fault =
          fault_is v (outcome s.current.store) fc (fault_says v (Is v) (outcome s.current.store) cases i fc (says v s is) which) (second_true v path.conds fc.conds met) in (
            subst (IsChosen path fp) (sym (chosen v s is ∙ ap (of_outcome (chooses s)) fails)) (same_and_none path.choices path.choices refl),
            subst (StandsForStep p m stands fp v s fp.ending) (sym (stepped inputs v s is ∙ ap (λ o. with_outcome o (at_command s) s (go_on (at_command s) s)) fails)) (record {
              proper = is.proper;
              meets = met;
              ending = (text (fault_text fc.fault), (refl, nothing_missed v s is (ap (of_outcome (chooses s)) fails), ap (machine.failed (text (fault_text fc.fault))) (same_place v path.stack s is.frames)));
              memory = is.memory;
              symbols_below = is.symbols_below;
              draws = is.draws;
            }),
          )

      fault_exact : IsExact p m stands path fp
      fault_exact inputs v w s is ext known sat =
          let same : w ≡ v = unchanged inputs v w s fp refl ext in
          let (choice, there) = fault_leads inputs v s is (subst (λ u. IsTrue (all_true u (path.conds ++ fc.conds))) same sat.true_there) in
          (choice, subst (λ u. StandsForStep p m stands fp u s fp.ending (step p m inputs s)) (sym same) there)

      met_at : (v w : List PureValue) (s : State) → Stands stands path v s → w ≡ v → IsTrue (all_true w fc.conds) → IsTrue (all_true w (path.conds ++ fc.conds))
      met_at v w s is same met = both_true w path.conds fc.conds (subst (λ u. IsTrue (all_true u path.conds)) (sym same) is.meets) met

      fault_along : HoldsAlong p m stands path fp
      fault_along inputs v w s is ext sat choice goes = met_at v w s is (unchanged inputs v w s fp refl ext) (second_true w path.given fc.conds sat.true_there)

      fault_along_unknown : (place : Place) (reason : Reason) → HoldsAlong p m stands path (ended_unknown (faulted path here fc) place reason)
      fault_along_unknown place reason inputs v w s is ext sat choice goes =
          met_at v w s is (unchanged inputs v w s (ended_unknown (faulted path here fc) place reason) refl ext)
          (second_true w path.given fc.conds (first_true w (path.given ++ fc.conds) [] sat.true_there))

      fault_over : Each (λ a. IsOver path.vars (term_of a)) fc.conds
      fault_over = each_at (λ (d : PureFaultCase). Each (λ a. IsOver path.vars (term_of a)) d.conds) cases.faults i fc (evaluated.names path.vars store_over).0.0 which

      fault_grows : Grows terms path fp
      fault_grows = record {
        new_vars = [];
        vars = same_and_none path.vars path.vars refl;
        sorts = tt;
        drawn = same_and_none path.drawn path.drawn refl;
        new_conds = fc.conds;
        conds = refl;
        new_given = fc.conds;
        given = refl;
        assumed = later_among path.conds fc.conds;
        chosen = None;
        choices = same_and_none path.choices path.choices refl;
        steps = refl;
        over = record {
          conds = each_append (λ a. IsOver path.vars (term_of a)) path.conds fc.conds over.conds fault_over;
          given = each_append (λ a. IsOver path.vars (term_of a)) path.given fc.conds over.given fault_over;
          stores = over.stores;
          memory = over.memory;
          drawn = over.drawn;
          ending = (λ y has. absurd (none_contained y has), tt);
        };
      }

      fault_own : AddsOwn own path fp
      fault_own = record {
        added = fc.conds;
        conds = refl;
        each = each_at (λ (d : PureFaultCase). Each own d.conds) cases.faults i fc evaluated.origin.0 which;
      }

      fault_closed : has_open path.conds ≡ false → has_open fp.conds ≡ false
      fault_closed = closed_both path.conds fc.conds (closed_each fc.conds (each_at (λ (d : PureFaultCase). Each NeedsNone d.conds) cases.faults i fc evaluated.closed.0 which))

      fault_assumes : AssumesRightly p own by_memory path (faulted path here fc)
      fault_assumes = assumes_rightly p own by_memory path c at (faulted path here fc) fc.conds refl (each_at (λ (d : PureFaultCase). Each May d.conds) cases.faults i fc evaluated.assumed.0 which) tt
          (inr (inl (refl, λ going. not_none (sym going))))

      fault_follows : Follows p m terms path fp
      fault_follows =
          follows_failing p m terms path fp c at c.command refl (literal (Literal.Str (fault_text fc.fault))) here refl (inl (fault_text fc.fault, refl))

    -- ---- all of them

    module _ (sorts : List Sort) (Make : PureGoodCase X → List (Candidate S) → Type 0)
        (make_next : (g : PureGoodCase X) (ds : List (Candidate S)) → cases.good ≡ Some g → Make g ds → Each (λ d. (more : List PureAtom) × MakesNext sorts g more d) ds)
        (cover : (g : PureGoodCase X) (ds : List (Candidate S)) → cases.good ≡ Some g → Make g ds → (inputs v : List PureValue) (s : State) (a : A) → Stands stands path v s → outcome s.current.store ≡ Ok a
        → Is v g.result a → IsTrue (all_true v g.conds) → OneOf (Covered inputs v s) ds) where
      each_result : (P : Candidate S → Type 0) → ((g : PureGoodCase X) (more : List PureAtom) (d : Candidate S) → cases.good ≡ Some g → MakesNext sorts g more d → P d)
          → (o : Option (PureGoodCase X)) → cases.good ≡ o → (last : List (Candidate S)) → AreResults Make o last → Each P last
      each_result P good None is last result = subst (Each P) (sym result) tt
      each_result P good (Some g) is last result = each_to (λ d. (more : List PureAtom) × MakesNext sorts g more d) P last (λ d (more, makes). good g more d is makes) (make_next g last is result)

      each_candidate : (P : Candidate S → Type 0) → ((i : ℕ) (fc : PureFaultCase) → slice_get cases.faults i ≡ Some fc → P (faulted path here fc))
          → ((g : PureGoodCase X) (more : List PureAtom) (d : Candidate S) → cases.good ≡ Some g → MakesNext sorts g more d → P d)
          → (cs : List (Candidate S)) → AreOfCases path here Make cases cs → Each P cs
      each_candidate P faults good cs (last, (is, result)) =
          subst (Each P) (sym is) (each_append P (map (faulted path here) cases.faults) last
          (each_map P (faulted path here) cases.faults (each_by_place (λ fc. P (faulted path here fc)) cases.faults faults))
          (each_result P good cases.good refl last result))

      fault_covers : (inputs v : List PureValue) (s : State) → Stands stands path v s → (i : ℕ) (fc : PureFaultCase) → slice_get cases.faults i ≡ Some fc → IsTaken v fc → Covered inputs v s (faulted path here fc)
      fault_covers inputs v s is i fc which taken =
          let met : IsTrue (all_true v (path.conds ++ fc.conds)) = both_true v path.conds fc.conds is.meets taken in (
            v,
            (
              record { new_vars = []; new_values = []; vars = same_and_none path.vars path.vars refl; values = sym (append-nil v); in_turn = tt },
              record { proper = is.proper; true_there = met },
              inl (fault_leads i fc which inputs v s is met).1,
            ),
          )

      one_result : (inputs v : List PureValue) (s : State) → Stands stands path v s → (a : A) → outcome s.current.store ≡ Ok a → (o : Option (PureGoodCase X)) → cases.good ≡ o → IsGood v (λ t. Is v t a) o → (last : List (Candidate S)) → AreResults Make o last
          → OneOf (Covered inputs v s) last
      one_result inputs v s is a same None there good last made = absurd good
      one_result inputs v s is a same (Some g) there good last made = cover g last there made inputs v s a is same good.1 good.0

      covers_by : (inputs v : List PureValue) (s : State) → Stands stands path v s → (o : Result A Fault) → outcome s.current.store ≡ o → SayOutcome v (Is v) o cases → (last : List (Candidate S)) → AreResults Make cases.good last
          → OneOf (Covered inputs v s) (map (faulted path here) cases.faults ++ last)
      covers_by inputs v s is (Ok a) same said last result =
          one_right (Covered inputs v s) (map (faulted path here) cases.faults) last (one_result inputs v s is a same cases.good refl said.0 last result)
      covers_by inputs v s is (Err f) same said last result =
          one_left (Covered inputs v s) (map (faulted path here) cases.faults) last (one_map (Covered inputs v s) (faulted path here) cases.faults
          (one_of_each (IsTaken v) (λ fc. Covered inputs v s (faulted path here fc)) cases.faults (each_by_place (λ fc. IsTaken v fc → Covered inputs v s (faulted path here fc)) cases.faults (fault_covers inputs v s is)) said.1))

      pub are_candidates : (cs : List (Candidate S)) → AreOfCases path here Make cases cs → AreCandidates p m stands terms own by_memory path cs
      are_candidates cs are = record {
        growth = each_candidate (λ d. Grows terms path d.path × Each (λ a. IsAmong a d.path.conds) d.no_fault) (λ i fc which. (fault_grows i fc which, tt)) (λ g more d is makes. makes.growth) cs are;
        recorded = each_candidate (λ d. IsRecorded p m path d.path) (λ i fc which. ended_records p m path (fp i fc which) refl refl (fault_closed i fc which) (failed (literal (Literal.Str (fault_text fc.fault))) here) refl) (λ g more d is makes. makes.recorded) cs are;
        known = each_candidate (λ d. ¬ IsUnknown d.path.ending) (λ i fc which unknown. unknown) (λ g more d is makes. makes.known) cs are;
        cover = λ inputs v s is has. subst (OneOf (Covered inputs v s)) (sym are.1.0) (covers_by inputs v s is (outcome s.current.store) refl (says v s is) are.0 are.1.1);
        exact = each_candidate (λ d. has_open d.path.conds ≡ false → IsExact p m stands path d.path) (λ i fc which no_form. fault_exact i fc which) (λ g more d is makes. good_exact sorts g more d is makes) cs are;
        along = each_candidate (λ d. HoldsAlong p m stands path d.path × ((place : Place) (reason : Reason) → HoldsAlong p m stands path (ended_unknown d place reason)))
            (λ i fc which. (fault_along i fc which, fault_along_unknown i fc which)) (λ g more d is makes. (good_along sorts g more d is makes, good_along_unknown sorts g more d is makes)) cs are;
        own_conditions = each_candidate (λ d. AddsOwn own path d.path) fault_own (λ g more d is makes. good_own sorts g more d is makes) cs are;
        assumes = each_candidate (AssumesRightly p own by_memory path) fault_assumes (λ g more d is makes. makes.assumes) cs are;
        origin = each_candidate (λ d. has_open d.path.conds ≡ false → Follows p m terms path d.path) (λ i fc which no_form. fault_follows i fc which) (λ g more d is makes no_form. makes.origin (closed_more sorts g more d is makes no_form)) cs are;
      }

    -- ---- why all conditions hold along a path

    module _ (sorts : List Sort) (g : PureGoodCase X) (is_good : cases.good ≡ Some g) (more : List PureAtom) where
      -- there is a result, so the conditions of the good case are true; the others are true by what is evaluated
      along_result : (v ws : List PureValue) (s : State) (a : A) → Stands stands path v s → outcome s.current.store ≡ Ok a → (Is v g.result a → IsTrue (all_true (v ++ ws) more)) → IsTrue (all_true (v ++ ws) (g.conds ++ more))
      along_result v ws s a is ok so =
          let (met, val) = good_met v (Is v) (outcome s.current.store) a cases g (says v s is) ok is_good in
          both_true (v ++ ws) g.conds more
          (all_true-more path.vars v ws is.proper.one_each g.conds (subst (OnConditions (λ b. IsOver path.vars (term_of b))) is_good (evaluated.names path.vars store_over).0.1) ∙ met) (so val)

      -- a path that goes on without a choice
      pub along_going : (inputs v ws : List PureValue) (s : State) → Stands stands path v s → ((a : A) → Is v g.result a → IsTrue (all_true (v ++ ws) more))
          → GoesOnAs None (step p m inputs s) ⊎ IsTrue (all_true (v ++ ws) g.conds) → IsTrue (all_true (v ++ ws) (g.conds ++ more))
      along_going inputs v ws s is so (inl goes) =
          let (a, ok) = goes_on_with (outcome s.current.store) (at_command s) s (go_on (at_command s) s) (subst (GoesOnAs None) (stepped inputs v s is) goes) in
          along_result v ws s a is ok (so a)
      along_going inputs v ws s is so (inr given) =
          let there : IsTrue (all_true v g.conds) =
          sym (all_true-more path.vars v ws is.proper.one_each g.conds (subst (OnConditions (λ b. IsOver path.vars (term_of b))) is_good (evaluated.names path.vars store_over).0.1)) ∙ given in
          let (a, (ok, val)) = good_leads v (Is v) (outcome s.current.store) cases g (says v s is) is_good there in
          both_true (v ++ ws) g.conds more given (so a val)

      -- a path that makes a choice
      pub along_chosen : (v ws : List PureValue) (s : State) (next : PurePath S) (k : ℕ) → next.choices ≡ path.choices ++ k ∷ [] → Stands stands path v s → IsChosen path next (choice_at p m s)
          → ((a : A) → outcome s.current.store ≡ Ok a → Is v g.result a → chooses s a ≡ Some k → IsTrue (all_true (v ++ ws) more)) → IsTrue (all_true (v ++ ws) (g.conds ++ more))
      along_chosen v ws s next k choices is which so =
          let this : choice_at p m s ≡ Some k = one_choice (choice_at p m s) k (append_cancel_left path.choices (with_choice (choice_at p m s) []) (k ∷ []) (sym which ∙ choices)) in
          let (a, (ok, chose)) = chooses_with (outcome s.current.store) (chooses s) k (sym (chosen v s is) ∙ this) in
          along_result v ws s a is ok (λ val. so a ok val chose)

    -- ---- candidates without new variables

    -- what a candidate must do that adds no variable
    pub record MakesSame (g : PureGoodCase X) (more : List PureAtom) (d : Candidate S) : Type 0 where
      pub growth : Grows terms path d.path × Each (λ a. IsAmong a d.path.conds) d.no_fault
      pub recorded : IsRecorded p m path d.path
      pub known : ¬ IsUnknown d.path.ending
      pub vars : d.path.vars ≡ path.vars
      pub conds : d.path.conds ≡ path.conds ++ (g.conds ++ more)
      pub own_more : Each own more
      pub assumes : AssumesRightly p own by_memory path d
      pub origin : has_open more ≡ false → Follows p m terms path d.path
      pub exact : (inputs v : List PureValue) (s : State) (a : A) → Stands stands path v s → outcome s.current.store ≡ Ok a → Is v g.result a
          → IsTrue (all_true v d.path.conds) → has_open more ≡ false → IsChosen path d.path (chooses s a) × StandsForStep p m stands d.path v s d.path.ending (go_on (at_command s) s a)
      pub along : (inputs v ws : List PureValue) (s : State) → Stands stands path v s → IsTrue (all_true (v ++ ws) d.path.given)
          → IsChosen path d.path (choice_at p m s) → GoesOnAs d.path.ending (step p m inputs s) ⊎ IsTrue (all_true (v ++ ws) d.no_fault) → IsTrue (all_true (v ++ ws) (g.conds ++ more))

    pub same_next : (g : PureGoodCase X) (more : List PureAtom) (d : Candidate S) → MakesSame g more d → MakesNext [] g more d
    same_next g more d makes = record {
      growth = makes.growth;
      recorded = makes.recorded;
      known = makes.known;
      vars = same_and_none d.path.vars path.vars makes.vars;
      conds = makes.conds;
      own_more = makes.own_more;
      assumes = makes.assumes;
      origin = makes.origin;
      exact = λ inputs v ws s a is in_turn proper ok val met closed.
          let same : v ≡ v ++ ws = nothing_more v ws (none_next inputs s.counter s.draws ws in_turn) in
          let (which, there) = makes.exact inputs v s a is ok val (subst (λ u. IsTrue (all_true u d.path.conds)) (sym same) met) closed in
          (which, subst (λ u. StandsForStep p m stands d.path u s d.path.ending (go_on (at_command s) s a)) same there);
      along = λ inputs v ws s is in_turn. makes.along inputs v ws s is;
    }

    pub covered_same : (g : PureGoodCase X) (more : List PureAtom) (d : Candidate S) → cases.good ≡ Some g → MakesSame g more d → (inputs v : List PureValue) (s : State) → Stands stands path v s → IsTrue (all_true v g.conds) → IsTrue (all_true v more) → Covered inputs v s d
    covered_same g more d is_good makes inputs v s is good further =
        covered_by [] g more d is_good (same_next g more d makes) inputs v [] s is tt
        (subst (λ xs. IsProper xs (v ++ [])) (sym (append-nil path.vars)) (subst (IsProper path.vars) (sym (append-nil v)) is.proper))
        good (subst (λ u. IsTrue (all_true u more)) (sym (append-nil v)) further)

    pub good_is_over : (g : PureGoodCase X) → cases.good ≡ Some g → Each (λ a. IsOver path.vars (term_of a)) g.conds
    good_is_over g is_good = subst (OnConditions (λ a. IsOver path.vars (term_of a))) is_good (evaluated.names path.vars store_over).0.1

    -- ---- failing with a text

    module _ (g : PureGoodCase X) (more : List PureAtom) (why : List ℕ) (is_good : cases.good ≡ Some g) (own_more : Each own more) (may_more : Each (MayAssume own (running_store path.stack) c.command) more) (more_over : Each (λ a. IsOver path.vars (term_of a)) more) (no_form : has_open more ≡ false)
        (fails : (v : List PureValue) (s : State) (a : A) → Stands stands path v s → Is v g.result a → IsTrue (all_true v more) → (go_on (at_command s) s a ≡ fails_with (text why) (at_command s) s) × (chooses s a ≡ None)) where
      abbrev wp : PurePath S
      wp = (failing_with path here why g more).path

      fails_there : (inputs v : List PureValue) (s : State) (a : A) → Stands stands path v s → outcome s.current.store ≡ Ok a → Is v g.result a → IsTrue (all_true v (path.conds ++ (g.conds ++ more))) → IsChosen path wp (chooses s a) × StandsForStep p m stands wp v s wp.ending (go_on (at_command s) s a)
      fails_there inputs v s a is ok val met =
          let (leads, nothing) = fails v s a is val (second_true v g.conds more (second_true v path.conds (g.conds ++ more) met)) in (
            subst (IsChosen path wp) (sym nothing) (same_and_none path.choices path.choices refl),
            subst (StandsForStep p m stands wp v s wp.ending) (sym leads) (record {
              proper = is.proper;
              meets = met;
              ending = (text why, (refl, nothing_missed v s is (ap (of_outcome (chooses s)) ok ∙ nothing), ap (machine.failed (text why)) (same_place v path.stack s is.frames)));
              memory = is.memory;
              symbols_below = is.symbols_below;
              draws = is.draws;
            }),
          )

      failing_over : Each (λ a. IsOver path.vars (term_of a)) (g.conds ++ more)
      failing_over = each_append (λ a. IsOver path.vars (term_of a)) g.conds more (good_is_over g is_good) more_over

      pub failing_makes : MakesSame g more (failing_with path here why g more)
      failing_makes = record {
        growth = (
          record {
            new_vars = [];
            vars = same_and_none path.vars path.vars refl;
            sorts = tt;
            drawn = same_and_none path.drawn path.drawn refl;
            new_conds = g.conds ++ more;
            conds = refl;
            new_given = g.conds ++ more;
            given = refl;
            assumed = later_among path.conds (g.conds ++ more);
            chosen = None;
            choices = same_and_none path.choices path.choices refl;
            steps = refl;
            over = record {
              conds = each_append (λ a. IsOver path.vars (term_of a)) path.conds (g.conds ++ more) over.conds failing_over;
              given = each_append (λ a. IsOver path.vars (term_of a)) path.given (g.conds ++ more) over.given failing_over;
              stores = over.stores;
              memory = over.memory;
              drawn = over.drawn;
              ending = (λ y has. absurd (none_contained y has), tt);
            };
          },
          tt,
        );
        recorded = ended_records p m path wp refl refl (closed_both path.conds (g.conds ++ more) (closed_both g.conds more no_form (good_closed g is_good))) (failed (literal (Literal.Str why)) here) refl;
        known = λ unknown. unknown;
        vars = refl;
        conds = refl;
        own_more = own_more;
        assumes = assumes_rightly p own by_memory path c at (failing_with path here why g more) (g.conds ++ more) refl (each_append May g.conds more (good_may g is_good) may_more) tt (inr (inl (refl, λ going. not_none (sym going))));
        origin = λ no_form. follows_failing p m terms path wp c at c.command refl (literal (Literal.Str why)) here refl (inl (why, refl));
        exact = λ inputs v s a is ok val met closed. fails_there inputs v s a is ok val met;
        along = λ inputs v ws s is given which goes. second_true (v ++ ws) path.given (g.conds ++ more) given;
      }
