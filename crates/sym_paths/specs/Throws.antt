-- The candidates of `throw`: the first of the callers whose call has a handler goes on there with the value, and where no call has one,
-- the path ends.
use Rattle.std.specs.Prelude.{◌≡◌, ◌+◌, List, [], ◌∷◌, ◌++◌, Some, None}
use Rattle.gil_syntax.specs.Pure.{PureParts, PureExpr, PureNumberedCommand, throw}
use Rattle.gil_values.specs.declared.places.Place.{Place}
use Rattle.gil_values.specs.Pure.{PureValue}
use Rattle.mem_model.specs.Actions.{Actions}
use Rattle.mem_model.specs.Heaps.{Heap}
use Rattle.pure_terms.specs.Pure.{PureTerm}
use Rattle.sym_evaluation.specs.Pure.{PureGoodCase, PureCases}
use Rattle.sym_evaluation.specs.Questions.{IsAsked}
use Rattle.sym_model.specs.Terms.{StateTerms}
pub use Rattle.sym_paths.specs.Frames.{handling, Catches}
use Rattle.sym_paths.specs.Meaning.{IsOverTable, command_of_path}
use Rattle.sym_paths.specs.Moves.{running_store, NoOwn}
use Rattle.sym_paths.specs.Pure.{PureFrame, threw, PurePath}
use Rattle.sym_paths.specs.Settling.{Candidate, AreCandidates}
use Rattle.sym_paths.specs.Valued.{place_at, IsEvaluated}
use Rattle.sym_paths.specs.Cases.{AreOfCases}
use Rattle.sym_paths.specs.Returns.{resuming}

module _ {S : Type 0} (path : PurePath S) (here : Place) where
  -- nothing catches the result, and no frame is left
  abbrev pub throwing : PureGoodCase PureTerm → Candidate S
  throwing g = record {
    path = record path {
      conds = path.conds ++ g.conds;
      given = path.given ++ g.conds;
      stack = [];
      steps = path.steps + 1;
      ending = Some (threw g.result here);
    };
    no_fault = [];
  }

  -- the first of these frames catches it
  abbrev pub ThrowsTo : List PureFrame → PureGoodCase PureTerm → List (Candidate S) → Type 0
  ThrowsTo [] g ds = ds ≡ throwing g ∷ []
  ThrowsTo (f ∷ fs) g ds = (nexts : List PureFrame) × (Catches g.result (f ∷ fs) nexts × (ds ≡ resuming path nexts g ∷ []))

  abbrev pub Throws : List PureFrame → PureGoodCase PureTerm → List (Candidate S) → Type 0
  Throws [] g ds = ⊥
  Throws (f ∷ callers) g ds = ThrowsTo (handling callers) g ds

abbrev pub ThrowsKeepTheLaws : {S : Type 0} → (S → List PureValue → Heap → Type 0) → (S → StateTerms) → Type 0
ThrowsKeepTheLaws {S} stands terms =
    (p : PureParts) (m : Actions) (path : PurePath S) (c : PureNumberedCommand) (e : PureExpr) (cases : PureCases PureTerm)
    (cs : List (Candidate S)) → IsOverTable terms path → path.ending ≡ None → command_of_path p path ≡ Some c → c.command ≡ throw e
    → IsEvaluated (running_store path.stack) e cases
    → AreOfCases path (place_at path.stack c) (Throws path (place_at path.stack c) path.stack) cases cs
    → AreCandidates p m stands terms (IsAsked (running_store path.stack) e) NoOwn path cs
