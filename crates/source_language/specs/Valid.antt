-- Which compiled programs are those of sources: valid ones, the number of commands of a procedure left aside.
use Rattle.std.specs.Prelude.{ℕ, List, take, slice_get, Bool, false, Option, Some, None, IsTrue}
use Rattle.gil_syntax.specs.declared.validity.InvalidKind.{InvalidKind}
use Rattle.gil_syntax.specs.declared.validity.InvalidKind.TheVariants.{Duplicate, BadLabel, NoEnd, UnknownName, Arity, TooMany, Memory}
use Rattle.gil_syntax.specs.Pure.{PureParts}
use Rattle.gil_syntax.specs.Valid.{ProgramItem, items_of, is_duplicate, has_unknown_name, has_wrong_arity}
use Rattle.gil_syntax.specs.Uncounted.{passes_limit}

-- the faults that a source may have: of labels and last commands it has none
abbrev pub has_source_fault : InvalidKind → PureParts → List ProgramItem → ProgramItem → Bool
has_source_fault Duplicate p before item = is_duplicate before item
has_source_fault BadLabel p before item = false
has_source_fault NoEnd p before item = false
has_source_fault UnknownName p before item = has_unknown_name p item
has_source_fault Arity p before item = has_wrong_arity p item
has_source_fault TooMany p before item = passes_limit p before item
has_source_fault Memory p before item = false

abbrev pub has_source_fault_if_there : InvalidKind → PureParts → List ProgramItem → Option ProgramItem → Bool
has_source_fault_if_there kind p before (Some item) = has_source_fault kind p before item
has_source_fault_if_there kind p before None = false

-- whether the item with this number of the compiled program has a fault of this kind
abbrev pub source_fault_at : PureParts → InvalidKind → ℕ → Bool
source_fault_at p kind i = has_source_fault_if_there kind p (take i (items_of p)) (slice_get (items_of p) i)

-- the source of this compiled program has no fault
abbrev pub HasNoSourceFault : PureParts → Type 0
HasNoSourceFault p = (kind : InvalidKind) (i : ℕ) → ¬ IsTrue (source_fault_at p kind i)
