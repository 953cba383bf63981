-- The candidates of a command that takes the value of one expression, as an assignment and `fail`: a failing one for each fault of the
-- expression, and one for its result.
use Rattle.std.specs.Prelude.{◌≡◌, ℕ, ◌+◌, List, [], ◌∷◌, ◌++◌, map, Option, Some, None}
use Rattle.gil_values.specs.declared.places.Place.{Place}
use Rattle.gil_values.specs.Operators.{fault_text}
use Rattle.gil_values.specs.Pure.{PureValue}
use Rattle.gil_syntax.specs.Pure.{PureParts, PureExpr, PureNumberedCommand, assign, fail}
use Rattle.mem_model.specs.Actions.{Actions}
use Rattle.mem_model.specs.Heaps.{Heap}
use Rattle.pure_terms.specs.declared.literals.Literal.{Literal}
use Rattle.pure_terms.specs.Meaning.{IsOver}
use Rattle.pure_terms.specs.Pure.{PureTerm, literal}
use Rattle.sym_evaluation.specs.Meaning.{AreCasesOf}
use Rattle.sym_evaluation.specs.Pure.{PureStore, PureFaultCase, PureGoodCase, PureCases}
use Rattle.sym_evaluation.specs.Questions.{IsAsked, IsTermOf, OnResult, EachCondition, NameNoOthers}
use Rattle.sym_model.specs.Terms.{StateTerms}
use Rattle.sym_paths.specs.Laws.{IsBound}
use Rattle.sym_paths.specs.Meaning.{IsOverTable, command_of_path}
use Rattle.sym_paths.specs.Moves.{running_store, advanced, NoOwn}
use Rattle.sym_paths.specs.Pure.{PureFrame, failed, PurePath}
use Rattle.sym_paths.specs.Settling.{Candidate, AreCandidates}

-- the place of the command at which the first frame stands
abbrev pub place_at : List PureFrame → PureNumberedCommand → Place
place_at [] c = record { proc = []; at = c.at }
place_at (f ∷ fs) c = record { proc = f.procedure; at = c.at }

module _ {S : Type 0} (path : PurePath S) where
  -- the path fails under the conditions of a fault
  abbrev pub faulted : Place → PureFaultCase → Candidate S
  faulted here fc = record {
    path = record path {
      conds = path.conds ++ fc.conds;
      given = path.given ++ fc.conds;
      steps = path.steps + 1;
      ending = Some (failed (literal (Literal.Str (fault_text fc.fault))) here);
    };
    no_fault = [];
  }

  -- the path goes on where there is no fault, with a store in which the variable has the result
  abbrev pub assigned : PureStore → PureGoodCase PureTerm → Candidate S
  assigned bs g = record {
    path = record path { conds = path.conds ++ g.conds; stack = advanced bs path.stack; steps = path.steps + 1 };
    no_fault = g.conds;
  }

  -- the path fails with the result
  abbrev pub failing : Place → PureGoodCase PureTerm → Candidate S
  failing here g = record {
    path = record path {
      conds = path.conds ++ g.conds;
      given = path.given ++ g.conds;
      steps = path.steps + 1;
      ending = Some (failed g.result here);
    };
    no_fault = [];
  }

  -- the candidate for a result is the one that goes on, or the one that fails
  abbrev pub Assigns : List ℕ → PureGoodCase PureTerm → Candidate S → Type 0
  Assigns x g d = (bs : PureStore) × (IsBound (running_store path.stack) x g.result bs × (d ≡ assigned bs g))

  abbrev pub Fails : Place → PureGoodCase PureTerm → Candidate S → Type 0
  Fails here g d = d ≡ failing here g

-- the candidate for the result, where there is one
abbrev pub IsResult : {S : Type 0} → (PureGoodCase PureTerm → Candidate S → Type 0) → Option (PureGoodCase PureTerm) → List (Candidate S)
    → Type 0
IsResult Makes None cs = cs ≡ []
IsResult {S} Makes (Some g) cs = (d : Candidate S) × (Makes g d × (cs ≡ d ∷ []))

abbrev pub AreForCases : {S : Type 0} → PurePath S → Place → (PureGoodCase PureTerm → Candidate S → Type 0) → PureCases PureTerm
    → List (Candidate S) → Type 0
AreForCases {S} path here Makes cases cs =
    (last : List (Candidate S)) × ((cs ≡ map (faulted path here) cases.faults ++ last) × IsResult Makes cases.good last)

-- what the cases of an expression promise, where P holds of the result
pub record IsEvaluatedTo (P : PureTerm → Type 0) (bs : PureStore) (e : PureExpr) (cases : PureCases PureTerm) : Type 0 where
  pub are_cases : AreCasesOf bs e cases
  pub origin : EachCondition (IsAsked bs e) cases × OnResult P cases.good
  pub names : NameNoOthers IsOver bs cases

abbrev pub IsEvaluated : PureStore → PureExpr → PureCases PureTerm → Type 0
IsEvaluated bs e cases = IsEvaluatedTo (IsTermOf bs e) bs e cases

-- Where the cases are those of the expression, these candidates keep the laws, and ask what the expression asks.
pub record ValuedCandidates {S : Type 0} (stands : S → List PureValue → Heap → Type 0) (terms : S → StateTerms) : Type 0 where
  pub of_assignment : (p : PureParts) (m : Actions) (path : PurePath S) (c : PureNumberedCommand) (x : List ℕ) (e : PureExpr)
      (cases : PureCases PureTerm) (cs : List (Candidate S)) → IsOverTable terms path → path.ending ≡ None
      → command_of_path p path ≡ Some c → c.command ≡ assign x e → IsEvaluated (running_store path.stack) e cases
      → AreForCases path (place_at path.stack c) (Assigns path x) cases cs
      → AreCandidates p m stands terms (IsAsked (running_store path.stack) e) NoOwn path cs
  pub of_failure : (p : PureParts) (m : Actions) (path : PurePath S) (c : PureNumberedCommand) (e : PureExpr)
      (cases : PureCases PureTerm) (cs : List (Candidate S)) → IsOverTable terms path → path.ending ≡ None
      → command_of_path p path ≡ Some c → c.command ≡ fail e → IsEvaluated (running_store path.stack) e cases
      → AreForCases path (place_at path.stack c) (Fails path (place_at path.stack c)) cases cs
      → AreCandidates p m stands terms (IsAsked (running_store path.stack) e) NoOwn path cs
