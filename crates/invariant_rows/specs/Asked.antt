-- What a visit of an invariant asks: the conditions that its answers have more than those with which they begin.
use Rattle.std.specs.Prelude.{◌≡◌, ℕ, List, Some}
use Rattle.gil_syntax.specs.declared.assertions.Param.{Param}
use Rattle.gil_syntax.specs.Pure.{PureParts, PureItem}
use Rattle.pure_terms.specs.Pure.{PureTerm, PureAtom}
use Rattle.sym_evaluation.specs.Pure.{PureStore, term_at}
use Rattle.sym_model.specs.Alternatives.{Alternatives}
use Rattle.sym_model.specs.Lists.{Each}
use Rattle.sym_matching.specs.Origins.{AsksSorts, AsksEqual, AddsOnlyTo}
use Rattle.sym_unfolding.specs.Origins.{IsVariableOf, AsksAdding}
use Rattle.checked_paths.specs.Pure.{PureEntry, PureChecking}
use Rattle.checked_rows.specs.Asking.{AsksVisit}
use Rattle.checked_rows.specs.Names.{AreNames}

-- that a name which has a term has the sorts that are declared for it
abbrev pub AsksNames : List Param → PureStore → PureAtom → Type 0
AsksNames scope bs a = (x : List ℕ) × ((t : PureTerm) × ((term_at bs x ≡ Some t) × AsksSorts scope x t a))

-- that some two terms are equal
abbrev pub AsksTwo : PureAtom → Type 0
AsksTwo a = (s : PureTerm) × ((t : PureTerm) × AsksEqual s t a)

-- each condition of the alternatives asks that two terms are equal
abbrev pub AreComparisons : Alternatives → Type 0
AreComparisons x = Each (Each AsksTwo) x

module _ {S : Type 0} (e : PureEntry) (x : PureChecking S) where
  -- what adding the items asks where names have the terms that they have there
  abbrev pub AsksAddingThere : List PureItem → PureAtom → Type 0
  AsksAddingThere items a = (bs : PureStore) × (AreNames x.path.stack e.variables bs × AsksAdding bs items a)

  -- ... or new variables in place of them
  abbrev pub AsksAddingAnew : List PureItem → PureAtom → Type 0
  AsksAddingAnew items a =
      (bs : PureStore) × (AreNames x.path.stack e.variables bs
      × ((after : PureStore) × (AddsOnlyTo IsVariableOf bs after × AsksAdding after items a)))

  -- what a visit asks where names have the terms that they have there
  abbrev pub AsksVisitThere : PureParts → List Param → List PureItem → PureAtom → Type 0
  AsksVisitThere p scope items a = (bs : PureStore) × (AreNames x.path.stack e.variables bs × AsksVisit p scope items bs a)
