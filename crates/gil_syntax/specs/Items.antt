-- The items of a program by their numbers.
use Rattle.std.specs.Prelude.{◌≡◌, ℕ, ◌<◌, List, ◌++◌, map, length, take, slice_get, Some, Bool, ◌||◌}
use Rattle.std.specs.List.{list_any}
use Rattle.gil_syntax.specs.Pure.{PureParts}
use Rattle.gil_syntax.specs.Valid.{ProgramItem, a_proc, a_spec, a_pred, items_of, same_name, is_core_name}
use Rattle.gil_syntax.specs.View.{proc_view, spec_view, pred_def_view}
use Rattle.gil_syntax.specs.declared.items.ItemRef.{ItemRef}
use Rattle.gil_syntax.specs.declared.items.ItemRef.TheVariants.{Proc, Spec, Pred}

abbrev pub item_of : ItemRef → ProgramItem
item_of (Proc place q) = a_proc (proc_view q.now)
item_of (Spec place s) = a_spec (spec_view s.now)
item_of (Pred place d) = a_pred (pred_def_view d.now)

-- the items before a procedure, a specification or a predicate at a place of its list
abbrev pub before_proc : PureParts → ℕ → List ProgramItem
before_proc p place = map a_proc (take place p.procs)

abbrev pub before_spec : PureParts → ℕ → List ProgramItem
before_spec p place = map a_proc p.procs ++ map a_spec (take place p.specs)

abbrev pub before_pred : PureParts → ℕ → List ProgramItem
before_pred p place = map a_proc p.procs ++ map a_spec p.specs ++ map a_pred (take place p.preds)

abbrev pub items_before : PureParts → ItemRef → List ProgramItem
items_before p (Proc place q) = before_proc p place
items_before p (Spec place s) = before_spec p place
items_before p (Pred place d) = before_pred p place

-- the place is one of its list
abbrev pub IsWithin : PureParts → ItemRef → Type 0
IsWithin p (Proc place q) = place < length p.procs
IsWithin p (Spec place s) = place < length p.specs
IsWithin p (Pred place d) = place < length p.preds

-- the item has this number in the program
pub record StandsAt (p : PureParts) (i : ℕ) (r : ItemRef) : Type 0 where
  pub item : slice_get (items_of p) i ≡ Some (item_of r)
  pub before : take i (items_of p) ≡ items_before p r
  pub within : IsWithin p r

-- the item has the name of one of these, or of a core predicate where it is a predicate
abbrev pub has_name_again : List ProgramItem → ProgramItem → Bool
has_name_again before item = list_any (same_name item) before || is_core_name item
