-- What exploration promises of the paths that it has left and of those that it hands out.
use Rattle.std.specs.Prelude.{◌≡◌, ◌⊎◌, ℕ, ◌<◌, ◌≤◌, ℤ, List, [], ◌∷◌, Option, Some, None, IsSome}
use Rattle.gil_values.specs.Pure.{PureValue}
use Rattle.gil_syntax.specs.Pure.{PureParts}
use Rattle.gil_machine.specs.Run.{run}
use Rattle.gil_machine.specs.State.{State}
use Rattle.mem_model.specs.Actions.{Actions}
use Rattle.mem_model.specs.Heaps.{Heap}
use Rattle.pure_terms.specs.Pure.{PureTerm}
use Rattle.sym_step.specs.Plain.{EachStep, StaysPlain}
use Rattle.sym_step.specs.Runs.{AccountsFor}
use Rattle.sym_step.specs.Trails.{IsTrail}
use Rattle.sym_model.specs.Lists.{Each, OneOf}
use Rattle.sym_model.specs.Terms.{StateTerms}
use Rattle.sym_paths.specs.Forms.{NeedsWhatMatters}
use Rattle.sym_paths.specs.Meaning.{Stands}
use Rattle.sym_paths.specs.Pure.{cut, PurePath}
use Rattle.sym_paths.specs.Steps.{IsInputFault}
use Rattle.sym_step.specs.Stepping.{most_steps, MayStep}

-- where the path has no end, a step of it may be done, up to the limit of steps
abbrev pub MayGoOn : {S : Type 0} → PureParts → (S → StateTerms) → PurePath S → Type 0
MayGoOn p terms path = path.ending ≡ None → path.steps < most_steps → MayStep p terms path

-- the path ends where it is
abbrev pub cut_off : {S : Type 0} → PurePath S → PurePath S
cut_off path = record path { ending = Some cut }

abbrev pub or_none : {A : Type 0} → Option A → List A
or_none None = []
or_none (Some x) = x ∷ []

module _ {S : Type 0} (p : PureParts) (m : Actions) (stands : S → List PureValue → Heap → Type 0) (terms : S → StateTerms)
    (asked : List ℕ → List PureTerm → List PureTerm × List PureTerm) (depends : S → List ℕ → List PureTerm → List PureValue → Heap → PureTerm → Type 0)
    (plain : S → ℤ → ℤ → Type 0) (keeps_plain : Type 0) (bound : ℕ) where
  -- the path has a trail from the start, and did no more steps than the bound; at commands of simple form it stays plain, where the
  -- memory does, and at actions it needs only literal forms that matter
  pub record IsFrom (start path : PurePath S) : Type 0 where
    pub earlier : List (PurePath S)
    pub trail : IsTrail p m stands terms asked start earlier path
    pub within : path.steps ≤ bound
    pub simple : keeps_plain → EachStep (StaysPlain p plain) earlier path
    pub forms : EachStep (NeedsWhatMatters p stands depends) earlier path

  -- the path has an end and comes from the start; or a path without an end does, with as many steps as the bound, and it is that one,
  -- cut
  abbrev pub IsEndedFrom : PurePath S → PurePath S → Type 0
  IsEndedFrom start path =
      (IsFrom start path × IsSome path.ending)
      ⊎ ((last : PurePath S) × (IsFrom start last × (last.ending ≡ None) × (last.steps ≡ bound) × (path ≡ cut_off last)))

  -- Wherever paths come from, those that are left come from there too, and those that are handed out do as ended ones.
  abbrev pub KeepTrails : List (PurePath S) → List (PurePath S) → List (PurePath S) → Type 0
  KeepTrails paths ended left = (start : PurePath S) → Each (IsFrom start) paths → Each (IsEndedFrom start) ended × Each (IsFrom start) left

module _ {S : Type 0} (p : PureParts) (m : Actions) (stands : S → List PureValue → Heap → Type 0) (bound : ℕ) where
  -- Each run for which some of the paths accounts, and that doesn't end for want of a fitting input within the bound, some of the others
  -- accounts for too.
  abbrev pub KeepAccounts : List (PurePath S) → List (PurePath S) → Type 0
  KeepAccounts paths others =
      (start : PurePath S) (inputs v0 : List PureValue) (s0 : State) → ¬ IsInputFault (run p m inputs bound s0).ending
      → OneOf (AccountsFor p m stands inputs s0 start v0) paths → OneOf (AccountsFor p m stands inputs s0 start v0) others

  -- Cover: each run from a state for which the start stands, but for those that end for want of a fitting input within the bound, some
  -- path accounts for.
  abbrev pub CoverRuns : PurePath S → List (PurePath S) → Type 0
  CoverRuns start paths =
      (inputs v0 : List PureValue) (s0 : State) → Stands stands start v0 s0 → ¬ IsInputFault (run p m inputs bound s0).ending
      → OneOf (AccountsFor p m stands inputs s0 start v0) paths
