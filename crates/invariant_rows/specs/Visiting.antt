-- What visits of an invariant come to: answers that cover what the checked states lead to, of all matches of its assertion.
use Rattle.std.specs.Prelude.{◌≡◌, ◌⊎◌, ℕ, List, Option, Some, None, IsTrue, ⊤}
use Rattle.gil_values.specs.declared.places.Place.{Place}
use Rattle.gil_values.specs.Pure.{PureValue}
use Rattle.gil_syntax.specs.declared.assertions.Param.{Param}
use Rattle.gil_syntax.specs.Pure.{PureParts, PureItem, PureNumberedCommand, loop_invariant}
use Rattle.mem_model.specs.declared.keys.MemoryName.{MemoryName}
use Rattle.mem_model.specs.Actions.{Actions}
use Rattle.mem_model.specs.Heaps.{Heap}
use Rattle.assert_logic.specs.Matching.{Match}
use Rattle.assert_logic.specs.LogicStates.{LogicState}
use Rattle.checked_runs.specs.Checked.{Checked, Outcome, Entry, Passed, IsAbove, IsAsBefore, Visits, invariant_match, unlisted_in, passed_at, current_passed}
use Rattle.pure_terms.specs.declared.variables.Sort.{Sort}
use Rattle.pure_terms.specs.Meaning.{all_true, Satisfies}
use Rattle.pure_terms.specs.Pure.{PureAtom}
use Rattle.sym_paths.specs.Asking.{IsOutside}
use Rattle.sym_evaluation.specs.Meaning.{StandsFor}
use Rattle.sym_evaluation.specs.Pure.{PureStore}
use Rattle.sym_model.specs.Lists.{Each, OneOf}
use Rattle.sym_model.specs.Terms.{StateTerms}
use Rattle.sym_paths.specs.Meaning.{command_of_path}
use Rattle.sym_paths.specs.Steps.{IsPlaceOf}
use Rattle.sym_states.specs.Meaning.{Stands}
use Rattle.sym_states.specs.Pure.{PureState}
use Rattle.checked_paths.specs.Covering.{CoversOutcome, FollowsOn}
use Rattle.checked_paths.specs.declared.nexts.FaultKind.{FaultKind}
use Rattle.checked_paths.specs.Exactness.{AreExact}
use Rattle.checked_paths.specs.Meaning.{IsPassed, IsPassedOver, StandsForChecked, MayGoOn}
use Rattle.checked_paths.specs.Pure.{PureEntry, PurePassed, PureChecking, PureNext, over}
use Rattle.checked_rows.specs.Doubts.{PureDoubt, always, under, beyond, IsDoubtNext}
use Rattle.checked_rows.specs.Matching.{IsOfPath}
use Rattle.footprint.specs.Leaves.{IsLonger}

module _ {S : Type 0} (stands : S → List PureValue → Heap → Type 0) (bs : PureStore) (former : PurePassed S) (s : PureState S) where
  -- in each program, where the state, the store and the passed invariant stand for something, this holds of what is as it was before
  abbrev pub OfBefore : (Type 0 → Type 0) → List PureValue → Type 0
  OfBefore Is v =
      (p : PureParts) (name : MemoryName) (m : Actions) (entry : Entry) (xs : List (List ℕ)) (q : Passed) (left : LogicState) (c : Checked)
      → Stands stands s v left → StandsFor v bs (unlisted_in xs c.machine.current.store) → IsPassed stands v former q
      → Is (IsAsBefore p name m entry xs q left c)

  -- Wherever these conditions are true, which the valuation meets, something isn't as it was before; or they aren't decided.
  abbrev pub DoubtsBefore : PureDoubt → Type 0
  DoubtsBefore always = ⊥
  DoubtsBefore (under conds u) =
      IsLonger s.conds conds × Satisfies s.vars u conds × ((v : List PureValue) → IsTrue (all_true v conds) → OfBefore (λ P. ¬ P) v)
  DoubtsBefore (beyond conds reason) = IsLonger s.conds conds × IsOutside conds reason

  -- What is answered of a visit that leaves the state, after the former one: nothing is left to be looked at, where all is as it was before;
  -- or a doubt
  abbrev pub IsVisitedAgain : Place → PureChecking S → PureNext S → Type 0
  IsVisitedAgain here x k =
      ((k ≡ over) × ((v : List PureValue) → OfBefore (λ P. P) v))
      ⊎ ((doubt : PureDoubt) × (DoubtsBefore doubt × IsDoubtNext FaultKind.Invariant here x.path doubt k))

-- the conditions, with others behind them, aren't decided
abbrev pub IsUndecidedThere : List PureAtom → PureDoubt → Type 0
IsUndecidedThere conds always = ⊥
IsUndecidedThere conds (under atoms u) = ⊥
IsUndecidedThere conds (beyond atoms reason) = IsLonger conds atoms × IsOutside atoms reason

-- what a former visit left names only variables of the table, if there was one
abbrev pub IsFormerOver : {S : Type 0} → (S → StateTerms) → List Sort → Option (PurePassed S) → Type 0
IsFormerOver terms vars None = ⊤
IsFormerOver terms vars (Some q) = IsPassedOver terms vars q

-- the former visits that a checked path and a checked state know of: none, or the same one
abbrev pub ArePassedIfAny : {S : Type 0} → (S → List PureValue → Heap → Type 0) → List PureValue → Option (PurePassed S) → Option Passed → Type 0
ArePassedIfAny stands v None None = ⊤
ArePassedIfAny stands v (Some q) (Some r) = IsPassed stands v q r
ArePassedIfAny stands v _ _ = ⊥

module _ {S : Type 0} (p : PureParts) (memory : MemoryName) (m : Actions) (stands : S → List PureValue → Heap → Type 0)
    (terms : S → StateTerms) (e : PureEntry) (x : PureChecking S) (xs : List (List ℕ)) (ps : List Param) (items : List PureItem)
    (former : Option (PurePassed S)) where
  -- The answers cover each visit after this former one where the match left what one of these states stands for, and go on rightly.
  pub record CoverVisits (lefts : List (PureState S)) (nexts : List (PureNext S)) : Type 0 where
    pub cover : (v : List PureValue) (entry : Entry) (c : Checked) (out : Outcome) (r : Option Passed) (found : Match)
        → StandsForChecked stands e x v entry c → IsAbove c → ArePassedIfAny stands v former r
        → invariant_match p memory m entry xs ps items c ≡ Some found → OneOf (λ s. Stands stands s v found.state) lefts
        → Visits p memory m entry r (Some found) xs ps items c out → OneOf (CoversOutcome stands e entry v out) nexts
    pub follow : Each (FollowsOn p terms e x) nexts

  -- the same, where the path may go on and stands at this invariant
  abbrev pub AreVisits : List (PureState S) → List (PureNext S) → Type 0
  AreVisits lefts nexts =
      (n : PureNumberedCommand) → MayGoOn p terms e x → command_of_path p x.path ≡ Some n → n.command ≡ loop_invariant xs ps items
      → CoverVisits lefts nexts

  -- The state is one that a match leaves: wherever its conditions are true, the invariant is matched and leaves what it stands for.
  pub record IsLeft (s : PureState S) : Type 0 where
    pub of_path : IsOfPath terms x s
    pub left : (v : List PureValue) (entry : Entry) (c : Checked) → StandsForChecked stands e x v entry c → IsTrue (all_true v s.conds)
        → (found : Match) × ((invariant_match p memory m entry xs ps items c ≡ Some found) × Stands stands s v found.state)

  -- The former visit is one that the checked states know of as well, and names only variables of the path's table.
  pub record IsKnown : Type 0 where
    pub known : (v : List PureValue) (entry : Entry) (c : Checked) → StandsForChecked stands e x v entry c
        → ArePassedIfAny stands v former (passed_at c.machine.current.next (current_passed c.passed))
    pub over : IsFormerOver terms x.path.vars former

  -- the answers are exact, where the path may go on and stands at this invariant and this place
  abbrev pub AreExactVisits : Place → List (PureNext S) → Type 0
  AreExactVisits here nexts =
      (n : PureNumberedCommand) → MayGoOn p terms e x → command_of_path p x.path ≡ Some n → n.command ≡ loop_invariant xs ps items
      → IsPlaceOf p x.path.stack here → AreExact p memory m stands e x nexts
