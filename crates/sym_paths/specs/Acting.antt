-- The candidates of an action: one for each branch of the memory, whose choice is recorded.
use Rattle.std.specs.Prelude.{◌≡◌, ◌⊎◌, ℕ, ◌+◌, List, [], ◌∷◌, ◌++◌, Bool, Option, Some, None}
use Rattle.gil_values.specs.declared.places.Place.{Place}
use Rattle.gil_values.specs.Pure.{PureValue}
use Rattle.gil_syntax.specs.Pure.{PureParts, PureExpr, PureNumberedCommand, act}
use Rattle.mem_model.specs.Actions.{Actions}
use Rattle.mem_model.specs.Heaps.{Heap}
use Rattle.pure_terms.specs.Pure.{PureTerm, PureAtom}
use Rattle.sym_evaluation.specs.Pure.{PureStore, PureGoodCase, PureCases}
use Rattle.sym_evaluation.specs.Questions.{IsAsked, AreTermsOf}
use Rattle.sym_model.specs.Forms.{OpenWhatMatters}
use Rattle.sym_model.specs.Laws.{ActLaw}
use Rattle.sym_model.specs.Lists.{OneOf}
use Rattle.sym_model.specs.Pure.{PureResult, done, failed, missed, PureBranch}
use Rattle.sym_model.specs.Terms.{StateTerms, asked_of, IsOwnCondition}
pub use Rattle.sym_paths.specs.Frames.{fresh_where, taken}
use Rattle.sym_paths.specs.Laws.{IsBound}
use Rattle.sym_paths.specs.Meaning.{IsOverTable, command_of_path}
use Rattle.sym_paths.specs.Moves.{running_store, advanced}
use Rattle.sym_paths.specs.Pure.{PureFrame, PureEnd, PurePath}
use Rattle.sym_paths.specs.Pure as path_end
use Rattle.sym_paths.specs.Settling.{Candidate, AreCandidates}
use Rattle.sym_paths.specs.Valued.{place_at}
use Rattle.sym_paths.specs.Cases.{AreOfCases, AreEvaluated}

module _ {S : Type 0} (path : PurePath S) (x : List ℕ) (here : Place) (takes : Bool) where
  -- what every branch does: its conditions are assumed, its choice is recorded, and the memory is the branch's
  abbrev pub branched : PureGoodCase (List PureTerm) → PureBranch S → ℕ → List PureFrame → Option PureEnd → Candidate S
  branched g b choice fs ending = record {
    path = record path {
      vars = path.vars ++ taken takes;
      conds = path.conds ++ (g.conds ++ b.conds);
      given = path.given ++ b.conds;
      choices = path.choices ++ choice ∷ [];
      stack = fs;
      memory = b.state;
      steps = path.steps + 1;
      ending = ending;
    };
    no_fault = [];
  }

  abbrev pub ActsTo : PureGoodCase (List PureTerm) → PureBranch S → PureResult → Candidate S → Type 0
  ActsTo g b (done t) d =
      (bs : PureStore) × (IsBound (running_store path.stack) x t bs × (d ≡ branched g b 0 (advanced bs path.stack) None))
  ActsTo g b (failed t) d = d ≡ branched g b 1 path.stack (Some (path_end.failed t here))
  ActsTo g b (missed k) d = d ≡ branched g b 2 path.stack (Some (path_end.missed k here))

  -- one for each branch, in order
  abbrev pub ActsAsEach : PureGoodCase (List PureTerm) → List (PureBranch S) → List (Candidate S) → Type 0
  ActsAsEach g [] ds = ds ≡ []
  ActsAsEach g (b ∷ bs) ds =
      (d : Candidate S) × ((rest : List (Candidate S)) × ((ds ≡ d ∷ rest) × ActsTo g b b.result d × ActsAsEach g bs rest))

-- the branches are lawful ones of the memory's action on the terms of the arguments
abbrev pub Acts : {S : Type 0} → (S → List PureValue → Heap → Type 0) → (S → StateTerms) → Actions
    → (List ℕ → List PureTerm → List PureTerm × List PureTerm) → PurePath S → List ℕ → List ℕ → Place → PureGoodCase (List PureTerm)
    → List (Candidate S) → Type 0
Acts {S} stands terms m asked path x action here g ds =
    (bs : List (PureBranch S)) × (ActLaw stands terms m action (fresh_where (m.takes_symbol action) path.vars) g.result
    (asked action g.result) path.memory bs × ActsAsEach path x here (m.takes_symbol action) g bs ds)

-- the branches need only literal forms on which the memory's action depends
abbrev pub ActsByForms : {S : Type 0} → (S → List PureValue → Heap → Type 0) → (S → StateTerms)
    → (S → List ℕ → List PureTerm → List PureValue → Heap → PureTerm → Type 0) → Actions → PurePath S → List ℕ → List ℕ → Place
    → PureGoodCase (List PureTerm) → List (Candidate S) → Type 0
ActsByForms {S} stands terms depends m path x action here g ds =
    (bs : List (PureBranch S)) × (OpenWhatMatters stands terms depends action (fresh_where (m.takes_symbol action) path.vars) g.result
    path.memory bs × ActsAsEach path x here (m.takes_symbol action) g bs ds)

-- what the memory may ask in an action: of the terms of its arguments, and of its own
abbrev pub IsAskedByMemory : {S : Type 0} → (S → StateTerms) → (List ℕ → List PureTerm → List PureTerm × List PureTerm) → PurePath S → List ℕ
    → List PureExpr → PureAtom → Type 0
IsAskedByMemory terms asked path action es a =
    (args : List PureTerm) × (AreTermsOf (running_store path.stack) es args
    × IsOwnCondition (asked_of (asked action args) (terms path.memory)) a)

-- what an action may ask: what its arguments ask, and what the memory does
abbrev pub IsAskedByAction : {S : Type 0} → (S → StateTerms) → (List ℕ → List PureTerm → List PureTerm × List PureTerm) → PurePath S → List ℕ
    → List PureExpr → PureAtom → Type 0
IsAskedByAction terms asked path action es a =
    OneOf (λ e. IsAsked (running_store path.stack) e a) es ⊎ IsAskedByMemory terms asked path action es a

abbrev pub ActionsKeepTheLaws : {S : Type 0} → (S → List PureValue → Heap → Type 0) → (S → StateTerms)
    → (List ℕ → List PureTerm → List PureTerm × List PureTerm) → Actions → Type 0
ActionsKeepTheLaws {S} stands terms asked m =
    (p : PureParts) (path : PurePath S) (c : PureNumberedCommand) (x action : List ℕ) (es : List PureExpr)
    (cases : PureCases (List PureTerm)) (cs : List (Candidate S)) → IsOverTable terms path → path.ending ≡ None
    → command_of_path p path ≡ Some c → c.command ≡ act x action es → AreEvaluated (running_store path.stack) es cases
    → AreOfCases path (place_at path.stack c) (Acts stands terms m asked path x action (place_at path.stack c)) cases cs
    → AreCandidates p m stands terms (IsAskedByAction terms asked path action es) (IsAskedByMemory terms asked path action es) path cs
