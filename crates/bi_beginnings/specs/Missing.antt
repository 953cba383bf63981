-- Runs that miss a key, and are awaited again.
use Rattle.std.specs.Prelude.{◌≡◌, ℕ, List, [], ◌++◌, Some, ⊤}
use Rattle.gil_values.specs.Pure.{PureValue}
use Rattle.mem_model.specs.declared.keys.Key.{Key}
use Rattle.mem_model.specs.declared.keys.MemoryName.{MemoryName}
use Rattle.mem_model.specs.Actions.{Actions}
use Rattle.mem_model.specs.Heaps.{Heap, IsHeapBelow, IsDisjoint, joined}
use Rattle.pure_terms.specs.declared.variables.Sort.{Sort}
use Rattle.pure_terms.specs.Meaning.{Satisfies}
use Rattle.pure_terms.specs.Pure.{PureAtom}
use Rattle.sym_model.specs.Fixing.{MissesAndIsDone}
use Rattle.sym_model.specs.Lists.{OneOf}
use Rattle.sym_model.specs.Meaning.{key_value}
use Rattle.sym_model.specs.Pure.{PureKey}
use Rattle.sym_paths.specs.Steps.{AreNext}
use Rattle.bi_beginnings.specs.declared.again.Again.{Again}
use Rattle.bi_beginnings.specs.Beginnings.{PureBeginning, Awaits}
use Rattle.bi_beginnings.specs.View.{beginnings_view}

-- A run that the beginning awaits has come so far along a path with this table and these conditions, without a draw, as with the beginning's
-- part of the heap alone. There an action misses the key that is named, which is done with the rest.
pub record IsMissed (memory : MemoryName) (m : Actions) (params : List (List ℕ)) (n : ℕ) (b : PureBeginning) (vars : List Sort) (conds : List PureAtom)
    (key : PureKey) (args : List PureValue) (whole : Heap) (counter : ℕ) : Type 0 where
  pub awaited : Awaits params args whole counter n b
  pub whole_below : IsHeapBelow counter whole
  pub new : List Sort
  pub more : List PureValue
  pub table : vars ≡ b.vars ++ new
  pub in_turn : AreNext [] counter 0 new more
  pub meets : Satisfies vars (awaited.values ++ more) conds
  pub heap : Heap
  pub apart : IsDisjoint heap awaited.rest
  pub missed : Key
  pub named : key_value (awaited.values ++ more) key.loc key.sub ≡ Some missed
  pub done : MissesAndIsDone memory m heap (joined heap awaited.rest) missed

-- Each such run is awaited by one of the new beginnings, if there is no term of which nothing is known.
abbrev pub AwaitsAgain : MemoryName → Actions → List (List ℕ) → ℕ → PureBeginning → List Sort → List PureAtom → PureKey → Again → Type 0
AwaitsAgain memory m params n b vars conds key (Again.With bs) =
    (args : List PureValue) (whole : Heap) (counter : ℕ) → IsMissed memory m params n b vars conds key args whole counter
    → OneOf (Awaits params args whole counter n) (beginnings_view bs)
AwaitsAgain memory m params n b vars conds key (Again.Late t) = ⊤

-- there is no new beginning, and no term of which nothing is known
abbrev pub LeavesNothing : Again → Type 0
LeavesNothing (Again.With bs) = beginnings_view bs ≡ []
LeavesNothing (Again.Late t) = ⊥
