-- What the code of a step promises: candidates that keep the laws of a command, and paths that are those of the step.
use Rattle.std.specs.Prelude.{◌≡◌, ℕ, ℤ, ◌+◌, ◌<◌, ◌^◌, List, [], ◌∷◌, ◌++◌, Some, None}
use Rattle.gil_values.specs.declared.places.Place.{Place}
use Rattle.gil_values.specs.Pure.{PureValue}
use Rattle.gil_syntax.specs.Pure.{PureParts, PureCommand, assign, call, act, usym, isym, ifgoto, return, fail, throw, vanish, fold_use, unfold_use, assert_that, loop_invariant, PureNumberedCommand}
use Rattle.gil_syntax.specs.Valid.{IsValid}
use Rattle.mem_model.specs.Actions.{Actions}
use Rattle.mem_model.specs.Heaps.{Heap}
use Rattle.pure_terms.specs.Pure.{PureTerm, PureAtom}
use Rattle.sym_engine.specs.Placed.{AreAtCommands, GoesOnAtCommands}
use Rattle.sym_evaluation.specs.Questions.{IsAsked}
use Rattle.sym_model.specs.Lists.{Each}
use Rattle.sym_model.specs.Terms.{StateTerms}
use Rattle.sym_paths.specs.Meaning.{IsOverTable, command_of_path}
use Rattle.sym_paths.specs.Moves.{running_store}
use Rattle.sym_paths.specs.Pure.{PureFrame, PurePath}
use Rattle.sym_paths.specs.Settling.{Candidate, AreCandidates}
use Rattle.sym_paths.specs.Valued.{place_at}
use Rattle.sym_paths.specs.Acting.{IsAskedByMemory, IsAskedByAction}
use Rattle.sym_paths.specs.Calls.{IsAskedByCall}
use Rattle.sym_paths.specs.Copies.{AreCopied}
use Rattle.sym_paths.specs.Guards.{IsAskedByGuard}

-- a frame runs, and may go to the command after the one at which it stands
abbrev pub MayAdvance : List PureFrame → Type 0
MayAdvance [] = ⊥
MayAdvance (f ∷ fs) = f.next + 1 < 2 ^ 64

-- the path goes on with these frames where these conditions are true, under which there is no fault
abbrev pub proceeding : {S : Type 0} → PurePath S → List PureFrame → List PureAtom → Candidate S
proceeding path fs conds = record {
  path = record path { conds = path.conds ++ conds; stack = fs; steps = path.steps + 1 };
  no_fault = conds;
}

module _ {S : Type 0} (stands : S → List PureValue → Heap → Type 0) (terms : S → StateTerms)
    (asked : List ℕ → List PureTerm → List PureTerm × List PureTerm) (m : Actions) where
  -- the conditions that are a command's own; commands that ask nothing have none
  abbrev pub IsOwnOf : PurePath S → PureCommand → PureAtom → Type 0
  IsOwnOf path (assign x e) a = IsAsked (running_store path.stack) e a
  IsOwnOf path (fail e) a = IsAsked (running_store path.stack) e a
  IsOwnOf path (throw e) a = IsAsked (running_store path.stack) e a
  IsOwnOf path (return e) a = IsAsked (running_store path.stack) e a
  IsOwnOf path (ifgoto e label) a = IsAskedByGuard (running_store path.stack) e a
  IsOwnOf path (call x e es handler) a = IsAskedByCall (running_store path.stack) e es a
  IsOwnOf path (act x action es) a = IsAskedByAction terms asked path action es a
  IsOwnOf path (usym x) a = ⊥
  IsOwnOf path (isym x k) a = ⊥
  IsOwnOf path vanish a = ⊥
  IsOwnOf path (fold_use u) a = ⊥
  IsOwnOf path (unfold_use u) a = ⊥
  IsOwnOf path (assert_that items) a = ⊥
  IsOwnOf path (loop_invariant xs ps items) a = ⊥

  abbrev pub IsOwnAt : PureParts → PurePath S → PureAtom → Type 0
  IsOwnAt p path a = (c : PureNumberedCommand) × ((command_of_path p path ≡ Some c) × IsOwnOf path c.command a)

  -- those of them that a memory asks: at an action alone
  abbrev pub IsAskedByMemoryOf : PurePath S → PureCommand → PureAtom → Type 0
  IsAskedByMemoryOf path (act x action es) a = IsAskedByMemory terms asked path action es a
  IsAskedByMemoryOf path (assign x e) a = ⊥
  IsAskedByMemoryOf path (call x e es handler) a = ⊥
  IsAskedByMemoryOf path (usym x) a = ⊥
  IsAskedByMemoryOf path (isym x k) a = ⊥
  IsAskedByMemoryOf path (ifgoto e label) a = ⊥
  IsAskedByMemoryOf path (return e) a = ⊥
  IsAskedByMemoryOf path (fail e) a = ⊥
  IsAskedByMemoryOf path (throw e) a = ⊥
  IsAskedByMemoryOf path vanish a = ⊥
  IsAskedByMemoryOf path (fold_use u) a = ⊥
  IsAskedByMemoryOf path (unfold_use u) a = ⊥
  IsAskedByMemoryOf path (assert_that items) a = ⊥
  IsAskedByMemoryOf path (loop_invariant xs ps items) a = ⊥

  abbrev pub IsAskedByMemoryAt : PureParts → PurePath S → PureAtom → Type 0
  IsAskedByMemoryAt p path a = (c : PureNumberedCommand) × ((command_of_path p path ≡ Some c) × IsAskedByMemoryOf path c.command a)

  -- Wherever the path stands at the command, at this place of the program, these are its candidates; and in a valid program they
  -- stand at commands, where the path does.
  abbrev pub AreLawfulIn : PureParts → PurePath S → Place → PureCommand → List (Candidate S) → Type 0
  AreLawfulIn p path here command cs =
      (c : PureNumberedCommand) → IsOverTable terms path → path.ending ≡ None → command_of_path p path ≡ Some c
      → c.command ≡ command → place_at path.stack c ≡ here
      → AreCandidates p m stands terms (IsOwnOf path command) (IsAskedByMemoryOf path command) path cs
      × (IsValid p → AreAtCommands p path.stack → Each (λ d. GoesOnAtCommands p d.path) cs)

  -- the same of every program
  abbrev pub AreLawful : PurePath S → Place → PureCommand → List (Candidate S) → Type 0
  AreLawful path here command cs = (p : PureParts) → AreLawfulIn p path here command cs

-- Where those before are copies of some candidates, those after are copies of these and more.
abbrev pub AddsCopies : {S : Type 0} → (S → List PureValue → Heap → Type 0) → (S → StateTerms)
    → (S → List ℕ → List PureTerm → List PureValue → Heap → PureTerm → Type 0) → (S → ℤ → ℤ → Type 0) → List (Candidate S)
    → List (Candidate S) → List (Candidate S) → Type 0
AddsCopies {S} stands terms depends plain more before after =
    (first : List (Candidate S)) → AreCopied stands terms depends plain first before
    → AreCopied stands terms depends plain (first ++ more) after
