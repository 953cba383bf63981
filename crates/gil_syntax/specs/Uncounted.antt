-- Faults of parts whose procedures may have any number of commands.
use Rattle.std.specs.Prelude.{ℕ, ◌≤◌, List, length, take, slice_get, Bool, ◌||◌, nat_le, Option, Some, None, IsTrue, false}
use Rattle.std.specs.List.{filter}
use Rattle.gil_syntax.specs.declared.validity.InvalidKind.{InvalidKind}
use Rattle.gil_syntax.specs.declared.validity.InvalidKind.TheVariants.{TooMany}
use Rattle.gil_syntax.specs.Pure.{PureParts}
use Rattle.gil_syntax.specs.Valid.{ProgramItem, items_of, most_items, same_list, has_many_names, has_wide_literal, has_fault, rank}

-- more procedures, specifications or predicates than there may be, more parameters or variables, or a wide literal
abbrev pub passes_limit : PureParts → List ProgramItem → ProgramItem → Bool
passes_limit p before item = nat_le most_items (length (filter (same_list item) before)) || has_many_names item || has_wide_literal p item

-- a fault, where a procedure may have any number of commands
abbrev pub has_fault_but_length : InvalidKind → PureParts → List ProgramItem → ProgramItem → Bool
has_fault_but_length TooMany p before item = passes_limit p before item
has_fault_but_length kind p before item = has_fault kind p before item

abbrev pub has_fault_but_length_if_there : InvalidKind → PureParts → List ProgramItem → Option ProgramItem → Bool
has_fault_but_length_if_there kind p before (Some item) = has_fault_but_length kind p before item
has_fault_but_length_if_there kind p before None = false

-- whether the item with this number has such a fault of this kind
abbrev pub fault_but_length_at : PureParts → InvalidKind → ℕ → Bool
fault_but_length_at p kind i = has_fault_but_length_if_there kind p (take i (items_of p)) (slice_get (items_of p) i)

-- no item has such a fault
abbrev pub IsValidButLength : PureParts → Type 0
IsValidButLength p = (kind : InvalidKind) (i : ℕ) → ¬ IsTrue (fault_but_length_at p kind i)

-- the fault that is named: of the lowest kind that there is, at the first item that has it
pub record IsNamedButLength (p : PureParts) (kind : InvalidKind) (i : ℕ) : Type 0 where
  pub at_fault : IsTrue (fault_but_length_at p kind i)
  pub lowest : (k : InvalidKind) (j : ℕ) → IsTrue (fault_but_length_at p k j) → rank kind ≤ rank k
  pub first : (j : ℕ) → IsTrue (fault_but_length_at p kind j) → i ≤ j
