-- What is exact of a step's answers: wherever a path stands for a checked state, that state leads to one for which the path that goes on
-- stands, or has the fault that is the cause, under each valuation that meets the later conditions. Exactness beside cover is that of
-- Gillian, Part I (PLDI 2020); checked runs here take the place of the concrete semantics.
use Rattle.std.specs.Prelude.{◌≡◌, ℕ, List, [], ◌∷◌, ◌++◌, Option, Some, ⊤}
use Rattle.gil_values.specs.Pure.{PureValue, symbol}
use Rattle.gil_values.specs.Symbols.{AreBelow}
use Rattle.gil_syntax.specs.Pure.{PureParts}
use Rattle.gil_machine.specs.Choices.{with_choice}
use Rattle.mem_model.specs.declared.keys.MemoryName.{MemoryName}
use Rattle.mem_model.specs.Actions.{Actions}
use Rattle.mem_model.specs.Heaps.{Heap}
use Rattle.checked_runs.specs.Checked.{Checked, Outcome, goes_on_to, has_fault, Entry, IsAbove}
use Rattle.checked_runs.specs.Checked as runs
use Rattle.pure_terms.specs.declared.deciders.Reason.{Reason}
use Rattle.pure_terms.specs.declared.variables.Sort.{Sort}
use Rattle.pure_terms.specs.Fragment.{InFragment}
use Rattle.pure_terms.specs.Meaning.{value, Satisfies}
use Rattle.pure_terms.specs.Pure.{PureTerm, PureAtom}
use Rattle.sym_model.specs.Lists.{Each}
use Rattle.sym_paths.specs.Steps.{counter_after, counter_past, IsFirstOutside, IsPlaceOf}
use Rattle.checked_paths.specs.Causes.{PureShown, PureCause, failure, fault, bound, undecided, cause_view, shown_in, fault_of}
use Rattle.checked_paths.specs.Choosing.{LeadsAlong}
use Rattle.checked_paths.specs.Meaning.{StandsForChecked}
use Rattle.checked_paths.specs.Pure.{PureEntry, PureChecking, PureNext, further, over, caused}

-- ---- valuations of longer tables

-- The value of a new variable where the counter is n: a fresh variable has the next symbol, and any other one a value whose symbols are
-- below the counter.
abbrev pub IsNewValue : ℕ → Sort → PureValue → Type 0
IsNewValue n Sort.Fresh w = w ≡ symbol n
IsNewValue n sort w = AreBelow n (w ∷ [])

-- the same of several new variables in turn
abbrev pub AreNewValues : ℕ → List Sort → List PureValue → Type 0
AreNewValues n [] [] = ⊤
AreNewValues n (sort ∷ sorts) (w ∷ ws) = IsNewValue n sort w × AreNewValues (counter_after sort n) sorts ws
AreNewValues n _ _ = ⊥

-- the later table has variables more, and w is v with such values for them
pub record IsContinued (counter : ℕ) (vars later : List Sort) (v w : List PureValue) : Type 0 where
  pub new_vars : List Sort
  pub new_values : List PureValue
  pub table : later ≡ vars ++ new_vars
  pub values : w ≡ v ++ new_values
  pub in_turn : AreNewValues counter new_vars new_values

-- a list with others behind it
abbrev pub HaveMore : {A : Type 0} → List A → List A → Type 0
HaveMore {A} xs ys = (more : List A) × (ys ≡ xs ++ more)

-- ---- failures

-- the run fails with the term's value
abbrev pub FailsWith : PureTerm → List PureValue → Outcome → Type 0
FailsWith t w out = (r : PureValue) × ((value w t ≡ Some r) × (out ≡ has_fault (runs.fails r)))

-- ---- what goes on from a path

module _ {S : Type 0} (x : PureChecking S) where
  -- where some valuation meets the path's conditions, some meets these
  abbrev pub CanBeMet : List Sort → List PureAtom → Type 0
  CanBeMet vars conds =
      (v : List PureValue) → Satisfies x.path.vars v x.path.conds → (w : List PureValue) × Satisfies vars w conds

  -- these choices are the path's, and then that of the step, if it makes one
  abbrev pub AreChoices : List ℕ → Option ℕ → Type 0
  AreChoices choices chosen = choices ≡ x.path.choices ++ with_choice chosen []

  -- What is shown: the place of the command at which the path stands, a table and conditions that go on from the path's, and a valuation
  -- that meets them, if any.
  pub record IsShownAt (p : PureParts) (shown : PureShown) : Type 0 where
    pub place : IsPlaceOf p x.path.stack shown.place
    pub table : HaveMore x.path.vars shown.vars
    pub longer : HaveMore x.path.conds shown.conds
    pub known : (u : List PureValue) → shown.valuation ≡ Some u → Satisfies shown.vars u shown.conds

  -- The conditions that are shown aren't in the fragment, and the reason names the first of them that isn't by itself.
  pub record IsUndecided (p : PureParts) (reason : Reason) (shown : PureShown) : Type 0 where
    pub at : IsShownAt p shown
    pub chosen : Option ℕ
    pub choices : AreChoices shown.choices chosen
    pub outside : ¬ InFragment shown.conds
    pub first : IsFirstOutside shown.conds reason

-- Under v the path stands for the checked state, and w continues v over a later table and meets these conditions.
pub record IsUnder {S : Type 0} (stands : S → List PureValue → Heap → Type 0) (e : PureEntry) (x : PureChecking S) (vars : List Sort)
    (conds : List PureAtom) (v w : List PureValue) (entry : Entry) (c : Checked) : Type 0 where
  pub standing : StandsForChecked stands e x v entry c
  pub above : IsAbove c
  pub continued : IsContinued c.machine.counter x.path.vars vars v w
  pub meets : Satisfies vars w conds

module _ {S : Type 0} (p : PureParts) (memory : MemoryName) (m : Actions) (stands : S → List PureValue → Heap → Type 0)
    (e : PureEntry) (x : PureChecking S) where
  -- ---- a path that goes on

  -- The state makes the choice that the later path has more, and leads to a state for which that path stands. The counter counts the new
  -- fresh variables.
  pub record LeadsOn (y : PureChecking S) (w : List PureValue) (entry : Entry) (c : Checked) (new_vars : List Sort) : Type 0 where
    pub state : Checked
    pub chosen : Option ℕ
    pub choices : AreChoices x y.path.choices chosen
    pub leads : LeadsAlong p memory m entry c chosen (goes_on_to state)
    pub stands_for : StandsForChecked stands e y w entry state
    pub counted : state.machine.counter ≡ counter_past new_vars c.machine.counter

  -- The later path's conditions can be met, and wherever they are, a state leads to one for which it stands.
  pub record IsFollowed (y : PureChecking S) : Type 0 where
    pub table : HaveMore x.path.vars y.path.vars
    pub longer : HaveMore x.path.conds y.path.conds
    pub met : CanBeMet x y.path.vars y.path.conds
    pub exact : (v w : List PureValue) (entry : Entry) (c : Checked) (under : IsUnder stands e x y.path.vars y.path.conds v w entry c)
        → LeadsOn y w entry c under.continued.new_vars

  -- ---- causes

  -- The state makes the choice that is shown, and leads to such an outcome.
  pub record LeadsTo (Is : Outcome → Type 0) (shown : PureShown) (entry : Entry) (c : Checked) : Type 0 where
    pub chosen : Option ℕ
    pub choices : AreChoices x shown.choices chosen
    pub outcome : Outcome
    pub leads : LeadsAlong p memory m entry c chosen outcome
    pub is : Is outcome

  -- The conditions that are shown can be met, and wherever they are, there is such an outcome.
  pub record IsSurely (Is : List PureValue → Outcome → Type 0) (shown : PureShown) : Type 0 where
    pub at : IsShownAt x p shown
    pub met : CanBeMet x shown.vars shown.conds
    pub exact : (v w : List PureValue) (entry : Entry) (c : Checked) → IsUnder stands e x shown.vars shown.conds v w entry c
        → LeadsTo (Is w) shown entry c

  -- The cause is one to which a checked run comes at the command at which the path stands. No step comes to a bound.
  abbrev pub IsRightCause : PureCause → Type 0
  IsRightCause (failure t shown) = IsSurely (FailsWith t) shown
  IsRightCause (fault kind shown) = IsSurely (λ w out. out ≡ has_fault (fault_of kind)) shown
  IsRightCause (bound shown) = IsSurely (λ w out. ⊥) shown
  IsRightCause (undecided reason shown) = IsUndecided x p reason shown

  -- ---- answers

  abbrev pub IsExactNext : PureNext S → Type 0
  IsExactNext (further y) = IsFollowed y
  IsExactNext over = ⊤
  IsExactNext (caused cause) = IsRightCause (cause_view cause)

  -- Each path that goes on is followed by checked runs, and each cause is one to which they come.
  abbrev pub AreExact : List (PureNext S) → Type 0
  AreExact nexts = Each IsExactNext nexts

-- ---- the conditions that are added

-- a list with others of a class behind it
abbrev pub HaveMoreOf : {A : Type 0} → (A → Type 0) → List A → List A → Type 0
HaveMoreOf {A} P xs ys = (more : List A) × ((ys ≡ xs ++ more) × Each P more)

-- Each condition that an answer has more than the path is one of these.
abbrev pub AddsOnly : {S : Type 0} → (PureAtom → Type 0) → PureChecking S → PureNext S → Type 0
AddsOnly own x (further y) = HaveMoreOf own x.path.conds y.path.conds
AddsOnly own x over = ⊤
AddsOnly own x (caused cause) = HaveMoreOf own x.path.conds (shown_in (cause_view cause)).conds
