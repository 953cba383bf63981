-- The candidates of `ifgoto`: one for each side of the guard, whose choice is recorded, and a failing one where it is no boolean.
use Rattle.std.specs.Prelude.{◌≡◌, ◌⊎◌, ℕ, ◌+◌, ℤ, pos, List, [], ◌∷◌, ◌++◌, Option, Some, None, codes}
use Rattle.gil_values.specs.declared.places.Place.{Place}
use Rattle.gil_values.specs.Pure.{PureValue}
use Rattle.gil_syntax.specs.Pure.{PureParts, PureExpr, PureNumberedCommand, ifgoto}
use Rattle.mem_model.specs.Actions.{Actions}
use Rattle.mem_model.specs.Heaps.{Heap}
use Rattle.pure_terms.specs.Pure.{PureTerm, PureAtom}
use Rattle.sym_evaluation.specs.Meaning.{AreSidesOf}
use Rattle.sym_evaluation.specs.Pure.{PureStore, PureGoodCase, PureCases, PureSides}
use Rattle.sym_evaluation.specs.Questions.{IsAsked, IsGuardTerm, IsGuardCondition, SidesComeFrom}
use Rattle.sym_model.specs.Terms.{StateTerms}
use Rattle.sym_paths.specs.Meaning.{IsOverTable, command_of_path}
use Rattle.sym_paths.specs.Moves.{running_store, advanced, NoOwn}
use Rattle.sym_paths.specs.Pure.{PureFrame, PurePath}
use Rattle.sym_paths.specs.Settling.{Candidate, AreCandidates}
use Rattle.sym_paths.specs.Valued.{place_at, IsEvaluatedTo}
use Rattle.sym_paths.specs.Cases.{AreOfCases, failing_with}

-- the frame that runs goes to the command with an index; a label below 0 is no command, and the frame stays where it is
abbrev pub at_label : ℤ → List PureFrame → List PureFrame
at_label (pos i) (f ∷ fs) = record f { next = i } ∷ fs
at_label _ fs = fs

abbrev pub for_side : {S : Type 0} → (List PureAtom → Candidate S) → Option (List PureAtom) → List (Candidate S)
for_side make None = []
for_side make (Some more) = make more ∷ []

module _ {S : Type 0} (path : PurePath S) where
  -- the path takes a side under the conditions of the guard's term and of the side
  abbrev pub turning : List PureFrame → ℕ → PureGoodCase PureTerm → List PureAtom → Candidate S
  turning fs side g more = record {
    path = record path {
      conds = path.conds ++ (g.conds ++ more);
      choices = path.choices ++ side ∷ [];
      stack = fs;
      steps = path.steps + 1;
    };
    no_fault = [];
  }

  abbrev pub turns : ℤ → Place → PureGoodCase PureTerm → PureSides → List (Candidate S)
  turns label here g sides =
      for_side (turning (at_label label path.stack) 1 g) sides.when_true
      ++ (for_side (turning (advanced (running_store path.stack) path.stack) 0 g) sides.when_false
      ++ for_side (failing_with path here (codes "type") g) sides.when_no_boolean)

  abbrev pub Turns : ℤ → Place → PureGoodCase PureTerm → List (Candidate S) → Type 0
  Turns label here g ds =
      (sides : PureSides) × (AreSidesOf g.result sides × SidesComeFrom g.result sides × (ds ≡ turns label here g sides))

-- what a guard may ask: what its expression asks, and of a term that may stand for its own, which way it goes
abbrev pub IsAskedByGuard : PureStore → PureExpr → PureAtom → Type 0
IsAskedByGuard bs e a = IsAsked bs e a ⊎ ((t : PureTerm) × (IsGuardTerm bs e t × IsGuardCondition t a))

-- what the cases of a guard promise, whose result may stand for its term
abbrev pub IsGuardEvaluated : PureStore → PureExpr → PureCases PureTerm → Type 0
IsGuardEvaluated bs e cases = IsEvaluatedTo (IsGuardTerm bs e) bs e cases

abbrev pub GuardsKeepTheLaws : {S : Type 0} → (S → List PureValue → Heap → Type 0) → (S → StateTerms) → Type 0
GuardsKeepTheLaws {S} stands terms =
    (p : PureParts) (m : Actions) (path : PurePath S) (c : PureNumberedCommand) (e : PureExpr) (label : ℤ) (cases : PureCases PureTerm)
    (cs : List (Candidate S)) → IsOverTable terms path → path.ending ≡ None → command_of_path p path ≡ Some c → c.command ≡ ifgoto e label
    → IsGuardEvaluated (running_store path.stack) e cases
    → AreOfCases path (place_at path.stack c) (Turns path label (place_at path.stack c)) cases cs
    → AreCandidates p m stands terms (IsAskedByGuard (running_store path.stack) e) NoOwn path cs
