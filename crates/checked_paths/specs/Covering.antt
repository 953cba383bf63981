-- What a step of a checked path must do: its answers cover whatever the checked states lead to for which the path stands, and name the
-- specifications that they use.
use Rattle.std.specs.Prelude.{◌≡◌, ◌⊎◌, ℕ, ◌+◌, List, ◌++◌, Some, IsTrue, ⊤}
use Rattle.gil_values.specs.Pure.{PureValue}
use Rattle.gil_syntax.specs.Pure.{PureParts, PureSpec}
use Rattle.gil_syntax.specs.Valid.{is_among}
use Rattle.gil_machine.specs.Step.{command_at}
use Rattle.mem_model.specs.declared.keys.MemoryName.{MemoryName}
use Rattle.mem_model.specs.Actions.{Actions}
use Rattle.mem_model.specs.Heaps.{Heap}
use Rattle.checked_runs.specs.Checked.{Checked, Outcome, goes_on_to, is_over, Entry, IsAbove, Leads, used_by}
use Rattle.sym_model.specs.Lists.{Each, OneOf}
use Rattle.sym_model.specs.Terms.{StateTerms}
use Rattle.checked_paths.specs.Meaning.{StandsForChecked, MayGoOn}
use Rattle.checked_paths.specs.Pure.{PureEntry, PureChecking, PureNext, further, over, caused}

-- the valuation gives the variables that v has the same values
abbrev pub IsLonger : List PureValue → List PureValue → Type 0
IsLonger v w = (more : List PureValue) × (w ≡ v ++ more)

-- The checked path stands for the state to which the outcome goes on, under a longer valuation.
abbrev pub StandsForNext : {S : Type 0} → (S → List PureValue → Heap → Type 0) → PureEntry → Entry → List PureValue → Outcome
    → PureChecking S → Type 0
StandsForNext stands e entry v out x =
    (d : Checked) × ((w : List PureValue) × ((out ≡ goes_on_to d) × IsLonger v w × StandsForChecked stands e x w entry d))

abbrev pub CoversOutcome : {S : Type 0} → (S → List PureValue → Heap → Type 0) → PureEntry → Entry → List PureValue → Outcome
    → PureNext S → Type 0
CoversOutcome stands e entry v out (further x) = StandsForNext stands e entry v out x
CoversOutcome stands e entry v out over = out ≡ is_over
CoversOutcome stands e entry v out (caused cause) = ⊤

abbrev pub IsCaused : {S : Type 0} → PureNext S → Type 0
IsCaused (further x) = ⊥
IsCaused over = ⊥
IsCaused (caused cause) = ⊤

module _ {S : Type 0} (p : PureParts) (memory : MemoryName) (m : Actions) (stands : S → List PureValue → Heap → Type 0)
    (e : PureEntry) (x : PureChecking S) where
  -- Cover: whatever a state leads to for which the path stands, some answer covers: so where none is a cause, no fault is led to.
  abbrev pub CoversLeads : List (PureNext S) → Type 0
  CoversLeads nexts =
      (v : List PureValue) (entry : Entry) (c : Checked) (out : Outcome) → StandsForChecked stands e x v entry c → IsAbove c
      → Leads p memory m entry c out → OneOf (CoversOutcome stands e entry v out) nexts

  -- Uses: the specification that a state uses for which the path stands has one of these names, unless some answer is a cause.
  abbrev pub NamesUses : List (List ℕ) → List (PureNext S) → Type 0
  NamesUses names nexts =
      (v : List PureValue) (entry : Entry) (c : Checked) (used : PureSpec) → StandsForChecked stands e x v entry c
      → used_by p m (command_at p c.machine.current) c.machine ≡ Some used
      → IsTrue (is_among names used.name) ⊎ OneOf IsCaused nexts

-- a path that goes on may make its next step, and has done one step more
abbrev pub FollowsOn : {S : Type 0} → PureParts → (S → StateTerms) → PureEntry → PureChecking S → PureNext S → Type 0
FollowsOn p terms e x (further y) = MayGoOn p terms e y × (y.path.steps ≡ x.path.steps + 1)
FollowsOn p terms e x over = ⊤
FollowsOn p terms e x (caused cause) = ⊤

-- What is answered of a step of a checked path.
pub record AreNexts {S : Type 0} (p : PureParts) (memory : MemoryName) (m : Actions) (stands : S → List PureValue → Heap → Type 0)
    (terms : S → StateTerms) (e : PureEntry) (x : PureChecking S) (names : List (List ℕ)) (nexts : List (PureNext S)) : Type 0 where
  pub cover : CoversLeads p memory m stands e x nexts
  pub uses : NamesUses p memory m stands e x names nexts
  pub follow : Each (FollowsOn p terms e x) nexts
