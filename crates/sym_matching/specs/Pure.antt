-- What may come of matching on terms, as pure data.
use Rattle.std.specs.Prelude.{List, Option}
use Rattle.pure_terms.specs.Pure.{PureTerm, PureAtom}
use Rattle.sym_model.specs.Alternatives.{Alternatives}
use Rattle.sym_evaluation.specs.Pure.{PureGoodCase}

-- The conditions under which a test is met, if it can be, and those under which it isn't.
pub record PureTest : Type 0 where
  pub when : Option (List PureAtom)
  pub otherwise : Alternatives

-- What is found, if something can be, with its conditions, and the conditions under which nothing is.
pub record PureSplit (X : Type 0) : Type 0 where
  pub found : Option (PureGoodCase X)
  pub none : Alternatives

-- the terms of outs that are known
abbrev pub PureOuts : Type 0
PureOuts = List (Option PureTerm)
