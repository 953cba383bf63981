-- The first item that has a fault of a kind.
use Rattle.std.specs.Prelude.{◌≡◌, ℕ, ◌≤◌, Bool, Option, Some, None, IsTrue}
use Rattle.gil_syntax.specs.declared.validity.InvalidKind.{InvalidKind}
use Rattle.gil_syntax.specs.Pure.{PureParts}
use Rattle.gil_syntax.specs.Valid.{IsAtFault}

-- the first number that passes a test, if there is one
abbrev pub IsFirst : (ℕ → Bool) → Option ℕ → Type 0
IsFirst test None = (i : ℕ) → ¬ IsTrue (test i)
IsFirst test (Some i) = IsTrue (test i) × ((j : ℕ) → IsTrue (test j) → i ≤ j)

-- no item has a fault of this kind
abbrev pub HasNone : PureParts → InvalidKind → Type 0
HasNone p kind = (i : ℕ) → ¬ IsAtFault p kind i

-- the fault is of this kind, and at the first item that has it
pub record IsFirstOf (p : PureParts) (kind named : InvalidKind) (i : ℕ) : Type 0 where
  pub same : named ≡ kind
  pub at_fault : IsAtFault p kind i
  pub first : (j : ℕ) → IsAtFault p kind j → i ≤ j
