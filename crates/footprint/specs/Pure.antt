-- What matching an assertion on a state of terms may come to, as pure data over the states S of a memory.
use Rattle.std.specs.Prelude.{ℕ, List}
use Rattle.gil_values.specs.Pure.{PureValue}
use Rattle.pure_terms.specs.declared.deciders.Reason.{Reason}
use Rattle.pure_terms.specs.Pure.{PureAtom}
use Rattle.sym_evaluation.specs.Pure.{PureStore}
use Rattle.sym_states.specs.Pure.{PureState}

-- what is left, and the store with the terms that names got
pub record PureMatch (S : Type 0) : Type 0 where
  pub state : PureState S
  pub store : PureStore

-- the number of the item that isn't matched where all of these conditions are true
pub record PureStop : Type 0 where
  pub item : ℕ
  pub conds : List PureAtom

-- conditions that are outside what is decided, and why
pub record PureUndecided : Type 0 where
  pub conds : List PureAtom
  pub reason : Reason

pub record PureLeaves (S : Type 0) : Type 0 where
  pub matched : List (PureMatch S)
  pub stopped : List PureStop
  pub undecided : List PureUndecided

-- every valuation matches; the number of an item that isn't matched where these conditions are true, which a valuation meets; or
-- conditions for which neither is known
pub data PureMatching (S : Type 0) : Type 0 where
  all_match : List (PureMatch S) → PureMatching S
  unmatched : PureStop → List PureValue → PureMatching S
  unknown : List PureAtom → Reason → PureMatching S
