-- Which variables the conditions of guards name.
use Rattle.std.proofs.Common.{⊎_elim, inl, inr, List, [], ◌++◌, sym, subst}
use Rattle.std.proofs.lemmas.List.Elements.{Contains-append_cases}
use Rattle.gil_values.specs.declared.kinds.Kind.{Kind}
use Rattle.gil_values.specs.declared.operators.UnOp.{UnOp}
use Rattle.gil_values.specs.declared.operators.BinOp.{BinOp}
use Rattle.gil_values.proofs.OperatorSymbols.{none_contained}
use Rattle.pure_terms.specs.declared.variables.Sort.{Sort}
use Rattle.pure_terms.specs.declared.variables.Var.{Var}
use Rattle.pure_terms.specs.Meaning.{AreVariablesOf, IsOver}
use Rattle.pure_terms.specs.Pure.{PureTerm, literal, variable, list_of, unary_of, binary_of, PureAtom, positive, negative, opening, term_of, variables}
use Rattle.pure_terms.proofs.KindLaws.{over_left, over_right}
use Rattle.sym_evaluation.specs.Checks.{is_of_kind}
use Rattle.sym_evaluation.specs.Questions.{IsAbout, IsCompared, boolean_parts, SaysPart, IsGuardCondition}
use Rattle.sym_model.specs.Lists.{Each}
use Rattle.sym_model.proofs.ListLaws.{each_append, one_with}

module _ (vars : List Sort) where
  joined_over : (xs ys : List Var) → AreVariablesOf vars xs → AreVariablesOf vars ys → AreVariablesOf vars (xs ++ ys)
  joined_over xs ys first second x has = ⊎_elim (first x) (second x) (Contains-append_cases xs ys x has)

  no_variables : AreVariablesOf vars []
  no_variables x has = absurd (none_contained x has)

  with_literal : (t : PureTerm) → IsOver vars t → AreVariablesOf vars (variables t ++ [])
  with_literal t over = joined_over (variables t) [] over no_variables

  about_over : (u : PureTerm) (a : PureAtom) → IsAbout u a → IsOver vars u → IsOver vars (term_of a)
  about_over u (positive t) about over = subst (IsOver vars) (sym about) over
  about_over u (negative t) about over = subst (IsOver vars) (sym about) over
  about_over u (opening t) about over = absurd about

  compared_over : (u : PureTerm) (a : PureAtom) → IsCompared u a → IsOver vars u → IsOver vars (term_of a)
  compared_over u a (x, (b, (is, sort, whole))) over = subst (λ (k : PureAtom). IsOver vars (term_of k)) (sym whole) (with_literal u over)

  parts_over : (t : PureTerm) → IsOver vars t → Each (IsOver vars) (boolean_parts t)
  parts_over (literal l) over = (over, tt)
  parts_over (variable x) over = (over, tt)
  parts_over (list_of ts) over = (over, tt)
  parts_over (unary_of UnOp.Not t) over = parts_over t over
  parts_over (unary_of UnOp.Neg t) over = (over, tt)
  parts_over (unary_of UnOp.Len t) over = (over, tt)
  parts_over (unary_of UnOp.Kind t) over = (over, tt)
  parts_over (binary_of BinOp.And s t) over =
      (over, each_append (IsOver vars) (boolean_parts s) (boolean_parts t) (parts_over s (over_left vars (variables s) (variables t) over)) (parts_over t (over_right vars (variables s) (variables t) over)))
  parts_over (binary_of BinOp.Or s t) over =
      (over, each_append (IsOver vars) (boolean_parts s) (boolean_parts t) (parts_over s (over_left vars (variables s) (variables t) over)) (parts_over t (over_right vars (variables s) (variables t) over)))
  parts_over (binary_of BinOp.Add s t) over = (over, tt)
  parts_over (binary_of BinOp.Subtract s t) over = (over, tt)
  parts_over (binary_of BinOp.Multiply s t) over = (over, tt)
  parts_over (binary_of BinOp.Divide s t) over = (over, tt)
  parts_over (binary_of BinOp.Remainder s t) over = (over, tt)
  parts_over (binary_of BinOp.Equal s t) over = (over, tt)
  parts_over (binary_of BinOp.Less s t) over = (over, tt)
  parts_over (binary_of BinOp.LessOrEqual s t) over = (over, tt)
  parts_over (binary_of BinOp.Append s t) over = (over, tt)
  parts_over (binary_of BinOp.Nth s t) over = (over, tt)

  -- the condition of a guard names only variables of its term
  pub guard_over : (t : PureTerm) (a : PureAtom) → IsOver vars t → IsGuardCondition t a → IsOver vars (term_of a)
  guard_over t a over (other, may, inl part) =
      one_with (IsOver vars) (SaysPart a) (boolean_parts t) (parts_over t over) part
      (λ u over_u which. ⊎_elim (λ (sort, about). about_over u a about over_u) (λ compared. compared_over u a compared over_u) which)
  guard_over t a over (other, may, inr (known, about)) = about_over (is_of_kind t Kind.Bool) a about (with_literal t over)
