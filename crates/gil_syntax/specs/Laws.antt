-- What holds of the evaluation of every expression, and of the faults of every program.
use Rattle.std.specs.Prelude.{◌≡◌, ◌⊎◌, ℕ, List, slice_get, Some, Ok, IsTrue}
use Rattle.std.specs.List.{Contains}
use Rattle.gil_values.specs.Pure.{PureValue}
use Rattle.gil_values.specs.Symbols.{OccursIn}
use Rattle.gil_syntax.specs.declared.validity.InvalidKind.{InvalidKind}
use Rattle.gil_syntax.specs.Pure.{PureExpr, PureParts}
use Rattle.gil_syntax.specs.Evaluation.{Store, value_of, Agrees, evaluate}
use Rattle.gil_syntax.specs.Subexpressions.{names_of}
use Rattle.gil_syntax.specs.WellMade.{is_well_made_expr}
use Rattle.gil_syntax.specs.Valid.{IsNamedFault, IsValid}

-- the stores give the same values to these names
abbrev pub AgreeOn : List (List ℕ) → Store → Store → Type 0
AgreeOn xs s t = (x : List ℕ) → Contains xs x → value_of s x ≡ value_of t x

-- the value of an expression depends only on the names that it has
abbrev pub DependsOnItsNames : Type 0
DependsOnItsNames = (e : PureExpr) (s t : Store) → AgreeOn (names_of e) s t → evaluate e s ≡ evaluate e t

-- A name that stands in two lists has one value in a store that agrees with both. So a predicate with one name among its ins
-- and its outs holds only where these are equal, and a variable that a specification and an invariant of its procedure
-- declare is one variable.
abbrev pub GivesOneValue : Type 0
GivesOneValue =
    (s : Store) (xs ys : List (List ℕ)) (vs ws : List PureValue) (i j : ℕ) (x : List ℕ) (v w : PureValue)
    → Agrees s xs vs → Agrees s ys ws → slice_get xs i ≡ Some x → slice_get vs i ≡ Some v → slice_get ys j ≡ Some x
    → slice_get ws j ≡ Some w
    → v ≡ w

-- a program is valid, or a fault is named
abbrev pub ValidOrNamed : Type 0
ValidOrNamed = (p : PureParts) → IsValid p ⊎ ((kind : InvalidKind) × ((i : ℕ) × IsNamedFault p kind i))

-- no two faults of a program are named
abbrev pub NamesOneFault : Type 0
NamesOneFault =
    (p : PureParts) (kind other : InvalidKind) (i j : ℕ) → IsNamedFault p kind i → IsNamedFault p other j
    → (kind ≡ other) × (i ≡ j)

-- each symbol in the value of an expression occurs in the value of a name of the store
abbrev pub InventsNoSymbol : Type 0
InventsNoSymbol =
    (e : PureExpr) (s : Store) (v : PureValue) (n : ℕ)
    → IsTrue (is_well_made_expr e) → evaluate e s ≡ Ok v → OccursIn n v
    → (x : List ℕ) × ((w : PureValue) × ((value_of s x ≡ Some w) × OccursIn n w))
