-- The candidates of `return`: the entry ends with the value, and any other call hands it to the frame that waits.
use Rattle.std.specs.Prelude.{◌≡◌, ◌+◌, List, [], ◌∷◌, ◌++◌, Some, None}
use Rattle.gil_syntax.specs.Pure.{PureParts, PureExpr, PureNumberedCommand, return}
use Rattle.gil_values.specs.Pure.{PureValue}
use Rattle.mem_model.specs.Actions.{Actions}
use Rattle.mem_model.specs.Heaps.{Heap}
use Rattle.pure_terms.specs.Pure.{PureTerm}
use Rattle.sym_evaluation.specs.Pure.{PureGoodCase, PureCases}
use Rattle.sym_evaluation.specs.Questions.{IsAsked}
use Rattle.sym_model.specs.Terms.{StateTerms}
pub use Rattle.sym_paths.specs.Frames.{ResumesAt, Resumes}
use Rattle.sym_paths.specs.Meaning.{IsOverTable, command_of_path}
use Rattle.sym_paths.specs.Moves.{running_store, NoOwn}
use Rattle.sym_paths.specs.Pure.{PureFrame, returned, PurePath}
use Rattle.sym_paths.specs.Settling.{Candidate, AreCandidates}
use Rattle.sym_paths.specs.Valued.{place_at, IsEvaluated}
use Rattle.sym_paths.specs.Cases.{AreOfCases}

module _ {S : Type 0} (path : PurePath S) where
  -- the entry returns the result
  abbrev pub returning : PureGoodCase PureTerm → Candidate S
  returning g = record {
    path = record path {
      conds = path.conds ++ g.conds;
      given = path.given ++ g.conds;
      steps = path.steps + 1;
      ending = Some (returned g.result);
    };
    no_fault = [];
  }

  -- the path goes on with these frames
  abbrev pub resuming : List PureFrame → PureGoodCase PureTerm → Candidate S
  resuming fs g = record {
    path = record path { conds = path.conds ++ g.conds; stack = fs; steps = path.steps + 1 };
    no_fault = g.conds;
  }

  abbrev pub Returns : List PureFrame → PureGoodCase PureTerm → List (Candidate S) → Type 0
  Returns [] g ds = ⊥
  Returns (f ∷ []) g ds = ds ≡ returning g ∷ []
  Returns (f ∷ caller ∷ callers) g ds = (next : PureFrame) × (Resumes g.result caller next × (ds ≡ resuming (next ∷ callers) g ∷ []))

abbrev pub ReturnsKeepTheLaws : {S : Type 0} → (S → List PureValue → Heap → Type 0) → (S → StateTerms) → Type 0
ReturnsKeepTheLaws {S} stands terms =
    (p : PureParts) (m : Actions) (path : PurePath S) (c : PureNumberedCommand) (e : PureExpr) (cases : PureCases PureTerm)
    (cs : List (Candidate S)) → IsOverTable terms path → path.ending ≡ None → command_of_path p path ≡ Some c → c.command ≡ return e
    → IsEvaluated (running_store path.stack) e cases → AreOfCases path (place_at path.stack c) (Returns path path.stack) cases cs
    → AreCandidates p m stands terms (IsAsked (running_store path.stack) e) NoOwn path cs
