-- Paths beside a run of the machine: what a path says of the run's first steps.
use Rattle.std.specs.Prelude.{◌≡◌, ◌⊎◌, ℕ, suc, ◌+◌, List, ◌++◌, Option, Some, None, IsSome}
use Rattle.gil_values.specs.Pure.{PureValue}
use Rattle.gil_syntax.specs.Pure.{PureParts}
use Rattle.gil_machine.specs.Choices.{choices}
use Rattle.gil_machine.specs.Run.{reached}
use Rattle.gil_machine.specs.State.{State, cut, End, ends, end_at}
use Rattle.gil_machine.specs.Step.{step}
use Rattle.mem_model.specs.Actions.{Actions}
use Rattle.mem_model.specs.Heaps.{Heap}
use Rattle.pure_terms.specs.declared.variables.Sort.{Sort}
use Rattle.pure_terms.specs.Meaning.{Satisfies}
use Rattle.sym_paths.specs.Meaning.{Stands, StandsForEnd}
use Rattle.sym_paths.specs.Pure.{PureEnd, PurePath}
use Rattle.sym_paths.specs.Steps.{Extends, IsUnknown, fresh_count, draws_past}

-- how many of the variables are draws
abbrev pub draw_count : List Sort → ℕ
draw_count vars = draws_past vars 0

module _ (p : PureParts) (m : Actions) (inputs : List PureValue) (s0 : State) where
  -- Within n steps the run ends so: its last step, the n-th, is done from the state s; or n steps lead to s, where it is cut.
  abbrev pub EndsAfter : ℕ → State → End → Type 0
  EndsAfter n s e =
      ((k : ℕ) × ((n ≡ suc k) × (reached p m inputs k s0 ≡ Some s) × (step p m inputs s ≡ ends e)))
      ⊎ ((reached p m inputs n s0 ≡ Some s) × (e ≡ end_at s cut))

  -- the run comes to the last of n steps; where the path has no end, it comes past that one
  abbrev pub ComesTo : ℕ → Option PureEnd → Type 0
  ComesTo n None = IsSome (reached p m inputs n s0)
  ComesTo n (Some how) = (k : ℕ) × ((n ≡ suc k) × IsSome (reached p m inputs k s0))

  -- the first n steps of the run make the choices that the path has more than the start
  abbrev pub MakesChoices : {S : Type 0} → PurePath S → ℕ → PurePath S → Type 0
  MakesChoices start n path = path.choices ≡ start.choices ++ choices p m inputs n s0

module _ {S : Type 0} (p : PureParts) (m : Actions) (stands : S → List PureValue → Heap → Type 0) (inputs : List PureValue)
    (s0 : State) (start : PurePath S) where
  -- n steps lead from the state s0 to the state s, for which the path stands; it has a fresh variable more than the start for each
  -- symbol that was taken, and another variable for each draw
  pub record StandsAt (path : PurePath S) (v : List PureValue) (n : ℕ) (s : State) : Type 0 where
    pub comes_to : reached p m inputs n s0 ≡ Some s
    pub stands_for : Stands stands path v s
    pub symbols : s.counter + fresh_count start.vars ≡ s0.counter + fresh_count path.vars
    pub draws : s.draws + draw_count start.vars ≡ s0.draws + draw_count path.vars

  -- the path stands for what n steps of the run come to: for a state, or for an end
  abbrev pub StandsAfter : PurePath S → List PureValue → ℕ → Option PureEnd → Type 0
  StandsAfter path v n None = (s : State) × StandsAt path v n s
  StandsAfter path v n (Some how) =
      (s : State) × ((e : End) × (EndsAfter p m inputs s0 n s e × StandsForEnd p m stands path v s how e))

  -- Where the start stands for s0 under v0, and the new variables have the symbols and the inputs of the run, the path accounts for the
  -- run: it stands for what as many steps come to as it has done, or is unknown with its whole list true.
  abbrev pub AccountsFor : List PureValue → PurePath S → Type 0
  AccountsFor v0 path =
      (v : List PureValue) × (Extends inputs s0 start path v0 v
      × (StandsAfter path v path.steps path.ending ⊎ (IsUnknown path.ending × Satisfies path.vars v path.conds)))
