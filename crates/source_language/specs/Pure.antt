-- What the trees of every source language have, as pure data.
use Rattle.std.specs.Prelude.{ℕ, List, [], ◌∷◌, Option, Some, None, if◌then◌else◌}
use Rattle.std.specs.Str.{bytes_eq}
use Rattle.gil_syntax.specs.declared.assertions.Param.{Param}
use Rattle.gil_syntax.specs.Pure.{PureItem, PurePredUse, PureSpec, PurePredDef}

-- an invariant, of a loop or by itself: the variables that may change, the logical variables, and the assertion
pub record PureInvariant : Type 0 where
  pub names : List (List ℕ)
  pub logicals : List Param
  pub items : List PureItem

-- what only the proof of a specification looks at
pub data PureLogic : Type 0 where
  fold_use : PurePredUse → PureLogic
  unfold_use : PurePredUse → PureLogic
  assert_that : List PureItem → PureLogic
  invariant_by_itself : PureInvariant → PureLogic

-- a function, with the byte at which it begins
pub record PureFunction (B : Type 0) : Type 0 where
  pub name : List ℕ
  pub params : List (List ℕ)
  pub body : B
  pub at : ℕ

abbrev pub find_function : {B : Type 0} → List (PureFunction B) → List ℕ → Option (PureFunction B)
find_function [] f = None
find_function (g ∷ gs) f = if bytes_eq g.name f then Some g else find_function gs f

-- a program of a language whose functions are of the type F
pub record PureSource (F : Type 0) : Type 0 where
  pub functions : List F
  pub specs : List PureSpec
  pub preds : List PurePredDef
