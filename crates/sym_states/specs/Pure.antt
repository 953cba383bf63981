-- Symbolic states with facts, as pure data over the states S of a memory. Terms stand where a logic state has values.
use Rattle.std.specs.Prelude.{ℕ, List, ◌++◌}
use Rattle.gil_values.specs.declared.places.Place.{Place}
use Rattle.pure_terms.specs.declared.variables.Sort.{Sort}
use Rattle.pure_terms.specs.Pure.{PureTerm, PureAtom}

-- a user predicate that isn't unfolded
pub record PureFact : Type 0 where
  pub pred : List ℕ
  pub ins : List PureTerm
  pub outs : List PureTerm

-- The table of the variables; the conditions; the memory; the facts; and what queries need of it: what was assumed, the place, and the
-- choices that led there.
pub record PureState (S : Type 0) : Type 0 where
  pub vars : List Sort
  pub conds : List PureAtom
  pub memory : S
  pub facts : List PureFact
  pub given : List PureAtom
  pub place : Place
  pub path : List ℕ

-- the terms of ins and outs, and the conditions under which they are those of the arguments
pub record PureArguments : Type 0 where
  pub conds : List PureAtom
  pub ins : List PureTerm
  pub outs : List PureTerm

-- the state with these conditions behind its own
abbrev pub with_conditions : {S : Type 0} → List PureAtom → PureState S → PureState S
with_conditions more s = record s { conds = s.conds ++ more }
