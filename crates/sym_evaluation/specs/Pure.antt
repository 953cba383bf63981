-- Stores of terms, and what an expression may come to over them, as pure data.
use Rattle.std.specs.Prelude.{ℕ, zero, suc, List, [], ◌∷◌, if◌then◌else◌, Option, Some, None}
use Rattle.std.specs.Option.{option_map}
use Rattle.std.specs.Str.{bytes_eq}
use Rattle.gil_values.specs.Operators.{Fault}
use Rattle.pure_terms.specs.Pure.{PureTerm, PureAtom}

-- a name and its term
pub record PureBinding : Type 0 where
  pub name : List ℕ
  pub term : PureTerm

-- A store gives terms to names: of two bindings of one name the first one counts.
abbrev pub PureStore : Type 0
PureStore = List PureBinding

abbrev pub term_at : PureStore → List ℕ → Option PureTerm
term_at [] x = None
term_at (b ∷ bs) x = if bytes_eq b.name x then Some b.term else term_at bs x

-- where the name stands in the list
abbrev pub place_at : PureStore → List ℕ → Option ℕ
place_at [] x = None
place_at (b ∷ bs) x = if bytes_eq b.name x then Some 0 else option_map suc (place_at bs x)

-- the store, in which the binding at a place has another term
abbrev pub with_term : PureStore → ℕ → PureTerm → PureStore
with_term [] i t = []
with_term (b ∷ bs) zero t = record b { term = t } ∷ bs
with_term (b ∷ bs) (suc i) t = b ∷ with_term bs i t

-- a fault, and conditions under which it comes
pub record PureFaultCase : Type 0 where
  pub conds : List PureAtom
  pub fault : Fault

-- a result, and the conditions under which there is one
pub record PureGoodCase (X : Type 0) : Type 0 where
  pub conds : List PureAtom
  pub result : X

-- the faults that there may be, and the result, unless some fault is sure
pub record PureCases (X : Type 0) : Type 0 where
  pub faults : List PureFaultCase
  pub good : Option (PureGoodCase X)

-- The sides of a guard, each with the conditions under which it is taken; a side that can't be taken is missing.
pub record PureSides : Type 0 where
  pub when_true : Option (List PureAtom)
  pub when_false : Option (List PureAtom)
  pub when_no_boolean : Option (List PureAtom)
