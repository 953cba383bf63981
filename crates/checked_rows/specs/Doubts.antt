-- Why a row isn't decided for all valuations, and the causes that this is.
use Rattle.std.specs.Prelude.{◌≡◌, List, [], ◌∷◌, ◌++◌, Some, None, IsTrue}
use Rattle.gil_values.specs.declared.places.Place.{Place}
use Rattle.gil_values.specs.Pure.{PureValue}
use Rattle.gil_syntax.specs.Pure.{PureParts}
use Rattle.mem_model.specs.declared.keys.MemoryName.{MemoryName}
use Rattle.mem_model.specs.Actions.{Actions}
use Rattle.mem_model.specs.Heaps.{Heap}
use Rattle.checked_runs.specs.Checked.{Checked, has_fault, Entry}
use Rattle.pure_terms.specs.declared.deciders.Reason.{Reason}
use Rattle.pure_terms.specs.declared.variables.Sort.{Sort}
use Rattle.pure_terms.specs.Meaning.{all_true, Satisfies}
use Rattle.pure_terms.specs.Pure.{PureAtom}
use Rattle.sym_paths.specs.Asking.{IsOutside}
use Rattle.sym_paths.specs.Pure.{PurePath}
use Rattle.sym_states.specs.Pure.{PureState}
use Rattle.footprint.specs.Leaves.{IsLonger}
use Rattle.checked_paths.specs.declared.nexts.Cause.{Cause}
use Rattle.checked_paths.specs.declared.nexts.FaultKind.{FaultKind}
use Rattle.checked_paths.specs.Causes.{PureShown, PureCause, fault, undecided, cause_view, fault_of, shown_of}
use Rattle.checked_paths.specs.Choosing.{LeadsAlong}
use Rattle.checked_paths.specs.Exactness.{HaveMore}
use Rattle.checked_paths.specs.Meaning.{StandsForChecked}
use Rattle.checked_paths.specs.Pure.{PureEntry, PureChecking, PureNext, caused}

-- there is a fault under every valuation, or wherever these conditions are true, which this one meets; or these conditions aren't decided
pub data PureDoubt : Type 0 where
  always : PureDoubt
  under : List PureAtom → List PureValue → PureDoubt
  beyond : List PureAtom → Reason → PureDoubt

-- the cause that a doubt is, of what is shown of the path
abbrev pub doubt_cause : FaultKind → PureShown → PureDoubt → PureCause
doubt_cause kind s always = fault kind s
doubt_cause kind s (under conds v) = fault kind (record s { conds = conds; valuation = Some v })
doubt_cause kind s (beyond conds reason) = undecided reason (record s { conds = conds })

abbrev pub ShowsDoubt : {S : Type 0} → FaultKind → Place → PurePath S → PureDoubt → Cause → Type 0
ShowsDoubt kind here path doubt cause = cause_view cause ≡ doubt_cause kind (shown_of here path) doubt

-- the answer is the cause that the doubt is, or that is the one answer
abbrev pub IsDoubtNext : {S : Type 0} → FaultKind → Place → PurePath S → PureDoubt → PureNext S → Type 0
IsDoubtNext kind here path doubt n = (cause : Cause) × ((n ≡ caused cause) × ShowsDoubt kind here path doubt cause)

abbrev pub IsDoubtAlone : {S : Type 0} → FaultKind → Place → PurePath S → PureDoubt → List (PureNext S) → Type 0
IsDoubtAlone kind here path doubt nexts = (cause : Cause) × ((nexts ≡ caused cause ∷ []) × ShowsDoubt kind here path doubt cause)

module _ {S : Type 0} (p : PureParts) (memory : MemoryName) (m : Actions) (stands : S → List PureValue → Heap → Type 0)
    (e : PureEntry) (x : PureChecking S) (kind : FaultKind) where
  -- Wherever the conditions are true, each checked state for which the path stands has the fault, and makes no choice.
  abbrev pub HasFaultUnder : List PureAtom → Type 0
  HasFaultUnder conds =
      (v : List PureValue) (entry : Entry) (c : Checked) → StandsForChecked stands e x v entry c → IsTrue (all_true v conds)
      → LeadsAlong p memory m entry c None (has_fault (fault_of kind))

  abbrev pub IsRightDoubt : PureDoubt → Type 0
  IsRightDoubt always = HasFaultUnder x.path.conds
  IsRightDoubt (under conds u) = HaveMore x.path.conds conds × Satisfies x.path.vars u conds × HasFaultUnder conds
  IsRightDoubt (beyond conds reason) = HaveMore x.path.conds conds × IsOutside conds reason

-- ---- in a state

-- The conditions begin with those of the state, and wherever they are true, this fails; or they aren't decided. The valuation meets them.
abbrev pub IsDoubtIn : {S : Type 0} → PureState S → (List PureValue → Type 0) → PureDoubt → Type 0
IsDoubtIn s Fails always = (v : List PureValue) → IsTrue (all_true v s.conds) → Fails v
IsDoubtIn s Fails (under conds u) =
    IsLonger s.conds conds × Satisfies s.vars u conds × ((v : List PureValue) → IsTrue (all_true v conds) → Fails v)
IsDoubtIn s Fails (beyond conds reason) = IsLonger s.conds conds × IsOutside conds reason

-- what a decider tells of conditions and others behind them: none meets them, or this is the doubt
abbrev pub IsToldThere : List Sort → List PureAtom → List PureAtom → PureDoubt → Type 0
IsToldThere vars conds more always = ⊥
IsToldThere vars conds more (under atoms u) = (atoms ≡ conds ++ more) × Satisfies vars u atoms
IsToldThere vars conds more (beyond atoms reason) = (atoms ≡ conds ++ more) × IsOutside atoms reason

-- the one answer is a doubt: where it is told, this fails in the state
abbrev pub DoubtsAlone : {S : Type 0} → FaultKind → Place → PureChecking S → PureState S → (List PureValue → Type 0) → List (PureNext S)
    → Type 0
DoubtsAlone kind here x s Fails nexts =
    (doubt : PureDoubt) × (IsDoubtIn s Fails doubt × IsDoubtAlone kind here x.path doubt nexts)
