-- Plain arguments and plain items of assertions: expressions that ask nothing where the names have plain terms. A logical variable counts
-- as a program variable does.
use Rattle.std.specs.Prelude.{ℕ, List, Bool, true, false, ◌&&◌, ◌||◌, IsSome, IsTrue, codes}
use Rattle.std.specs.List.{list_all}
use Rattle.std.specs.Str.{bytes_eq}
use Rattle.gil_values.specs.declared.operators.UnOp.TheVariants.{Not}
use Rattle.gil_values.specs.Pure.{boolean}
use Rattle.gil_syntax.specs.Pure.{PureExpr, literal, name, logical, list_of, unary_of, binary_of, PureExprs, no_exprs, expr_and, PurePredUse, PureItem, pure, uses}
use Rattle.gil_syntax.specs.Simple.{is_literal, compares, is_plain_value}
use Rattle.gil_syntax.specs.Subexpressions.{exprs_of_item}
use Rattle.mem_model.specs.CoreNames.{core_of}
use Rattle.sym_evaluation.specs.Plainly.{has_text_numbers}
use Rattle.sym_evaluation.specs.Pure.{PureCases}
use Rattle.sym_evaluation.specs.Questions.{EachCondition, OnResult}

-- ---- expressions

-- the expression with a program variable for each logical one
abbrev mutual
  pub as_program : PureExpr → PureExpr
  as_program (literal v) = literal v
  as_program (name x) = name x
  as_program (logical x) = name x
  as_program (list_of es) = list_of (all_as_program es)
  as_program (unary_of op e) = unary_of op (as_program e)
  as_program (binary_of op d e) = binary_of op (as_program d) (as_program e)

  pub all_as_program : PureExprs → PureExprs
  all_as_program no_exprs = no_exprs
  all_as_program (expr_and e es) = expr_and (as_program e) (all_as_program es)

-- a literal, a variable, a variable plus or minus a literal, or a list of such
abbrev pub is_plain_argument : PureExpr → Bool
is_plain_argument e = is_plain_value (as_program e)

-- true, a variable, or `=`, `<` or `<=` of two such values
abbrev pub is_bare_form : PureExpr → Bool
is_bare_form (literal (boolean true)) = true
is_bare_form (name x) = true
is_bare_form (binary_of op d e) = compares op && is_plain_value d && is_plain_value e
is_bare_form _ = false

-- such a form, perhaps under `not`
abbrev pub is_program_form : PureExpr → Bool
is_program_form (unary_of Not e) = is_bare_form e
is_program_form e = is_bare_form e

abbrev pub is_plain_form : PureExpr → Bool
is_plain_form e = is_program_form (as_program e)

-- ---- items

abbrev pub is_list : PureExpr → Bool
is_list (list_of es) = true
is_list _ = false

abbrev pub lists_names : List ℕ → Bool
lists_names x = bytes_eq x (codes "shape") || bytes_eq x (codes "dom")

-- A core predicate with plain arguments. An out that lists names is a list, and that of `bound` a literal.
pub record IsPlainUse (u : PurePredUse) : Type 0 where
  pub core : IsSome (core_of u.pred)
  pub ins : IsTrue (list_all is_plain_argument u.ins)
  pub outs : IsTrue (list_all is_plain_argument u.outs)
  pub names : IsTrue (lists_names u.pred) → IsTrue (list_all is_list u.outs)
  pub bound : IsTrue (bytes_eq u.pred (codes "bound")) → IsTrue (list_all is_literal u.outs)

abbrev pub HasPlainForm : PureItem → Type 0
HasPlainForm (pure e) = IsTrue (is_plain_form e)
HasPlainForm (uses u) = IsPlainUse u

-- A plain item: of a plain form, with the numbers of a text.
pub record IsPlainItem (item : PureItem) : Type 0 where
  pub form : HasPlainForm item
  pub numbers : IsTrue (list_all has_text_numbers (exprs_of_item item))

-- ---- cases

-- nothing is asked, and P holds of the result, if there is one
abbrev pub AsksNothing : {X : Type 0} → (X → Type 0) → PureCases X → Type 0
AsksNothing P cases = EachCondition (λ a. ⊥) cases × OnResult P cases.good
