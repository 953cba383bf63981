-- Specifications that some text has: names are names, reserved or not; logical variables have their `#`; expressions are such as texts
-- have, and those that are items are written between parentheses or begin with `not`; no predicate is called `not`.
use Rattle.std.specs.Prelude.{◌≢◌, ℕ, List, IsTrue, codes}
use Rattle.std.specs.List.{AllByRecursion}
use Rattle.gil_lexer.specs.Bytes.{hash}
use Rattle.gil_lexer.specs.Spelling.{IsName, IsMarkedName}
use Rattle.gil_syntax.specs.declared.assertions.Param.{Param}
use Rattle.gil_syntax.specs.Pure.{PurePredUse, PureItem, pure, uses, PureSpec}
use Rattle.expression_text.specs.Writable.{IsWritableExpr}
use Rattle.specification_text.specs.Reading.{may_be_item}

abbrev pub IsWritableParam : Param → Type 0
IsWritableParam q = IsName q.name

abbrev pub IsWritableLogical : Param → Type 0
IsWritableLogical q = IsMarkedName hash q.name

pub record IsWritableUse (u : PurePredUse) : Type 0 where
  pub named : IsName u.pred
  pub other : u.pred ≢ codes "not"
  pub ins : AllByRecursion IsWritableExpr u.ins
  pub outs : AllByRecursion IsWritableExpr u.outs

abbrev pub IsWritableItem : PureItem → Type 0
IsWritableItem (pure e) = IsWritableExpr e × IsTrue (may_be_item e)
IsWritableItem (uses u) = IsWritableUse u

abbrev pub IsWritableAssertion : List PureItem → Type 0
IsWritableAssertion items = AllByRecursion IsWritableItem items

pub record IsWritableSpec (s : PureSpec) : Type 0 where
  pub named : IsName s.name
  pub params : AllByRecursion IsWritableParam s.params
  pub logicals : AllByRecursion IsWritableLogical s.logicals
  pub pre : IsWritableAssertion s.pre
  pub posts : AllByRecursion IsWritableAssertion s.posts
  pub errors : AllByRecursion IsWritableAssertion s.errors
