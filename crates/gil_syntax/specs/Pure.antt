-- The syntax of GIL programs as pure data, without addresses and capacities. Names are their characters; that of a
-- logical variable has its '#', where the program is well made. The syntax is that of Gillian, Part I (PLDI 2020), with
-- the assertions and logic commands of Gillian, Part II (CAV 2021).
use Rattle.std.specs.Prelude.{ℕ, ℤ, List, [], ◌∷◌, Option}
use Rattle.gil_values.specs.declared.kinds.Kind.{Kind}
use Rattle.gil_values.specs.declared.operators.UnOp.{UnOp}
use Rattle.gil_values.specs.declared.operators.BinOp.{BinOp}
use Rattle.gil_values.specs.Pure.{PureValue}
use Rattle.gil_syntax.specs.declared.assertions.Param.{Param}

mutual
  pub data PureExpr : Type 0 where
    literal : PureValue → PureExpr
    name : List ℕ → PureExpr
    logical : List ℕ → PureExpr
    list_of : PureExprs → PureExpr
    unary_of : UnOp → PureExpr → PureExpr
    binary_of : BinOp → PureExpr → PureExpr → PureExpr

  pub data PureExprs : Type 0 where
    no_exprs : PureExprs
    expr_and : PureExpr → PureExprs → PureExprs

-- a list of expressions as the elements of a list expression, and back
abbrev pub from_list : List PureExpr → PureExprs
from_list [] = no_exprs
from_list (e ∷ es) = expr_and e (from_list es)

abbrev pub to_list : PureExprs → List PureExpr
to_list no_exprs = []
to_list (expr_and e es) = e ∷ to_list es

pub record PurePredUse : Type 0 where
  pub pred : List ℕ
  pub ins : List PureExpr
  pub outs : List PureExpr

pub data PureItem : Type 0 where
  pure : PureExpr → PureItem
  uses : PurePredUse → PureItem

-- the first text of a command is the variable that it assigns, the second one of `act` is the action; a call may have the
-- label of a handler
pub data PureCommand : Type 0 where
  assign : List ℕ → PureExpr → PureCommand
  call : List ℕ → PureExpr → List PureExpr → Option ℤ → PureCommand
  act : List ℕ → List ℕ → List PureExpr → PureCommand
  usym : List ℕ → PureCommand
  isym : List ℕ → Kind → PureCommand
  ifgoto : PureExpr → ℤ → PureCommand
  return : PureExpr → PureCommand
  fail : PureExpr → PureCommand
  throw : PureExpr → PureCommand
  vanish : PureCommand
  fold_use : PurePredUse → PureCommand
  unfold_use : PurePredUse → PureCommand
  assert_that : List PureItem → PureCommand
  loop_invariant : List (List ℕ) → List Param → List PureItem → PureCommand

-- a command and the number of its place
pub record PureNumberedCommand : Type 0 where
  pub command : PureCommand
  pub at : ℕ

pub record PureProc : Type 0 where
  pub name : List ℕ
  pub params : List (List ℕ)
  pub body : List PureNumberedCommand

-- `errors` are the error postconditions
pub record PureSpec : Type 0 where
  pub name : List ℕ
  pub params : List Param
  pub logicals : List Param
  pub pre : List PureItem
  pub posts : List (List PureItem)
  pub errors : List (List PureItem)

pub record PurePredDef : Type 0 where
  pub name : List ℕ
  pub ins : List Param
  pub outs : List Param
  pub logicals : List Param
  pub cases : List (List PureItem)

-- the lists of which a program is made
pub record PureParts : Type 0 where
  pub procs : List PureProc
  pub specs : List PureSpec
  pub preds : List PurePredDef
