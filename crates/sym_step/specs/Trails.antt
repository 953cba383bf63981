-- Trails: the paths through which a path came from another one, a step for each, and what may be assumed on them.
use Rattle.std.specs.Prelude.{◌≡◌, ◌⊎◌, ℕ, List, [], ◌∷◌, Some, None}
use Rattle.gil_values.specs.Pure.{PureValue}
use Rattle.gil_syntax.specs.Pure.{PureParts, PureNumberedCommand}
use Rattle.mem_model.specs.Actions.{Actions}
use Rattle.mem_model.specs.Heaps.{Heap}
use Rattle.pure_terms.specs.Pure.{PureTerm, PureAtom}
use Rattle.sym_engine.specs.Lawful.{IsOwnAt, IsAskedByMemoryAt}
use Rattle.sym_model.specs.Lists.{OneOf}
use Rattle.sym_model.specs.Terms.{StateTerms}
use Rattle.sym_paths.specs.Frames.{running_store}
use Rattle.sym_paths.specs.Meaning.{command_of_path}
use Rattle.sym_paths.specs.Origins.{Follows}
use Rattle.sym_paths.specs.Pure.{PurePath}
use Rattle.sym_paths.specs.Steps.{Grows, IsRecorded, IsExact, ChoosesAlike, HoldsAlong, AddsOwn, MayAssume, Assumes, NeedsNoForm, StaysSatisfiable, IsRightlyUnknown}

module _ {S : Type 0} (p : PureParts) (m : Actions) (stands : S → List PureValue → Heap → Type 0) (terms : S → StateTerms)
    (asked : List ℕ → List PureTerm → List PureTerm × List PureTerm) where
  -- A path without an end stands at a command, and the next path is one of those that a step of it leads to.
  pub record IsNextPath (path next : PurePath S) : Type 0 where
    pub going : path.ending ≡ None
    pub at_command : (c : PureNumberedCommand) × (command_of_path p path ≡ Some c)
    pub growth : Grows terms path next
    pub recorded : IsRecorded p m path next
    pub exact : IsExact p m stands path next
    pub choices : ChoosesAlike p m stands path next
    pub along : HoldsAlong p m stands path next
    pub own_conditions : AddsOwn (IsOwnAt stands terms asked m p path) path next
    pub assumes : Assumes p (IsOwnAt stands terms asked m p path) (IsAskedByMemoryAt stands terms asked m p path) path next
    pub origin : Follows p m terms path next
    pub no_form : NeedsNoForm path next
    pub satisfiable : StaysSatisfiable path next
    pub unknown_rightly : IsRightlyUnknown p path next next.ending

  -- The path came from the start through these earlier paths, the latest first: each path is the next one of the path before it.
  abbrev pub IsTrail : PurePath S → List (PurePath S) → PurePath S → Type 0
  IsTrail start [] path = path ≡ start
  IsTrail start (before ∷ earlier) path = IsNextPath before path × IsTrail start earlier before

  -- the atom may be assumed at the command at which the path stands
  abbrev pub MayBeAssumedAt : PurePath S → PureAtom → Type 0
  MayBeAssumedAt path a =
      (c : PureNumberedCommand) × ((command_of_path p path ≡ Some c)
      × MayAssume (IsOwnAt stands terms asked m p path) (running_store path.stack) c.command a)

  -- the command of the last step may assume the atom, or the memory in an action of an earlier one
  abbrev pub IsAssumedOn : List (PurePath S) → PureAtom → Type 0
  IsAssumedOn [] a = ⊥
  IsAssumedOn (last ∷ earlier) a = MayBeAssumedAt last a ⊎ OneOf (λ path. IsAskedByMemoryAt stands terms asked m p path a) earlier
