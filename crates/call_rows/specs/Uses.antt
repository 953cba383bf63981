-- The specifications that are used at a call: none is named that no checked state uses.
use Rattle.std.specs.Prelude.{◌≡◌, ℕ, List, Some}
use Rattle.gil_values.specs.Pure.{PureValue}
use Rattle.gil_syntax.specs.Pure.{PureParts, PureSpec}
use Rattle.gil_machine.specs.Step.{command_at}
use Rattle.mem_model.specs.Actions.{Actions}
use Rattle.mem_model.specs.Heaps.{Heap}
use Rattle.checked_runs.specs.Checked.{Checked, Entry, used_by}
use Rattle.pure_terms.specs.Meaning.{Satisfies}
use Rattle.pure_terms.specs.Pure.{PureAtom}
use Rattle.sym_model.specs.Lists.{Each, OneOf}
use Rattle.sym_paths.specs.Pure.{PurePath}
use Rattle.checked_paths.specs.Exactness.{HaveMore, CanBeMet}
use Rattle.checked_paths.specs.Meaning.{StandsForChecked}
use Rattle.checked_paths.specs.Pure.{PureEntry, PureChecking}
use Rattle.call_rows.specs.Calling.{called_by}

-- the next path is called by the specification of this name
abbrev pub IsCalledBy : {S : Type 0} → PureParts → List ℕ → PurePath S → Type 0
IsCalledBy p name next = (used : PureSpec) × ((called_by p next.ending next.stack ≡ Some used) × (used.name ≡ name))

-- each of these names is that of a specification by which some next path is called
abbrev pub NamesCalled : {S : Type 0} → PureParts → List (List ℕ) → List (PurePath S) → Type 0
NamesCalled p names nexts = Each (λ name. OneOf (IsCalledBy p name) nexts) names

-- the next step of the state calls by the specification of this name
abbrev pub UsesNamed : PureParts → Actions → List ℕ → Checked → Type 0
UsesNamed p m name c =
    (used : PureSpec) × ((used_by p m (command_at p c.machine.current) c.machine ≡ Some used) × (used.name ≡ name))

module _ {S : Type 0} (p : PureParts) (m : Actions) (stands : S → List PureValue → Heap → Type 0) (e : PureEntry) (x : PureChecking S) where
  -- These conditions go on from the path's, and can be met where those can. Wherever they are met, a checked state for which the path stands
  -- calls by the specification of this name.
  pub record IsUsedThere (name : List ℕ) : Type 0 where
    pub conds : List PureAtom
    pub longer : HaveMore x.path.conds conds
    pub met : CanBeMet x x.path.vars conds
    pub uses : (v : List PureValue) (entry : Entry) (c : Checked) → StandsForChecked stands e x v entry c → Satisfies x.path.vars v conds
        → UsesNamed p m name c

  abbrev pub AreUsedThere : List (List ℕ) → Type 0
  AreUsedThere names = Each IsUsedThere names
