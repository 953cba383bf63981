-- Symbolic keys, chunks and branches as pure data. Terms stand where the concrete ones have values.
use Rattle.std.specs.Prelude.{ℕ, List, [], ◌∷◌}
use Rattle.pure_terms.specs.declared.variables.Sort.{Sort}
use Rattle.pure_terms.specs.Pure.{PureTerm, PureAtom}

pub data PureSub : Type 0 where
  named : PureTerm → PureSub
  cell : PureTerm → PureSub
  shape : PureSub
  bound : PureSub
  dom : PureSub
  proto : PureSub
  gone : PureSub

pub record PureKey : Type 0 where
  pub loc : PureTerm
  pub sub : PureSub

-- a key and what it holds
pub record PureChunk : Type 0 where
  pub loc : PureTerm
  pub sub : PureSub
  pub val : PureTerm

pub data PureResult : Type 0 where
  done : PureTerm → PureResult
  failed : PureTerm → PureResult
  missed : PureKey → PureResult

-- what an action may come to where the conditions are true, over a memory's states S
pub record PureBranch (S : Type 0) : Type 0 where
  pub conds : List PureAtom
  pub state : S
  pub result : PureResult

-- the terms of a subkey, and of a result
abbrev pub sub_terms : PureSub → List PureTerm
sub_terms (named t) = t ∷ []
sub_terms (cell t) = t ∷ []
sub_terms _ = []

abbrev pub result_terms : PureResult → List PureTerm
result_terms (done t) = t ∷ []
result_terms (failed t) = t ∷ []
result_terms (missed k) = k.loc ∷ sub_terms k.sub

-- a use of a core predicate, and what fixes a missed key: a core predicate with outs of these sorts
pub record PureUse : Type 0 where
  pub core : List ℕ
  pub ins : List PureTerm
  pub outs : List PureTerm

pub record PureFix : Type 0 where
  pub core : List ℕ
  pub ins : List PureTerm
  pub outs : List Sort
