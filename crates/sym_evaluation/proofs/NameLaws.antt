-- Conditions and results name only variables of the store.
use Rattle.std.proofs.Common.{◌≡◌, List, [], ◌∷◌, Option, Some, None, slice_get, subst}
use Rattle.std.specs.Option.{option_map}
use Rattle.gil_syntax.specs.Pure.{PureExpr, literal as value_literal, name, logical, list_of as list_expr, unary_of as unary_expr, binary_of as binary_expr, PureExprs, no_exprs, expr_and, from_list as exprs_from}
use Rattle.gil_syntax.specs.Subexpressions.{subexpressions, subexpressions_of_all}
use Rattle.pure_terms.specs.declared.literals.Literal.{Literal}
use Rattle.pure_terms.specs.declared.variables.Sort.{Sort}
use Rattle.pure_terms.specs.declared.variables.Var.{Var}
use Rattle.pure_terms.specs.Folding.{folded_unary, folded_binary}
use Rattle.pure_terms.specs.Laws.{FoldingReplaces}
use Rattle.pure_terms.specs.Meaning.{IsOver, AreVariablesOf}
use Rattle.pure_terms.specs.Pure.{PureTerm, list_of, from_list, term_of, variables, variables_of_all}
use Rattle.pure_terms.proofs.KindLaws.{over_left, over_right}
use Rattle.sym_model.proofs.ListLaws.{same_some, not_none}
use Rattle.sym_evaluation.specs.Evaluating.{spelled, literal_term, cases_after, all_cases_after}
use Rattle.sym_evaluation.specs.Meaning.{IsStoreOver}
use Rattle.sym_evaluation.specs.Pure.{PureStore}
use Rattle.sym_evaluation.specs.Questions.{substituted, all_substituted, NameNoOthers, AreEachOver}
use Rattle.sym_evaluation.proofs.AskedAtoms.{joined, no_variables, asked_known}
use Rattle.sym_evaluation.proofs.Replacing.{some_of, some_mapped}
use Rattle.sym_evaluation.proofs.FromLaws.{on_result, from_after, all_from_after}
use Rattle.sym_evaluation.proofs.EvaluationLaws.{all_over_after}

module _ (vars : List Sort) where
  -- the variable is of the table
  abbrev IsIn : Var → Type 0
  IsIn x = slice_get vars x.number ≡ Some x.sort

  module _ (folding : FoldingReplaces) (bs : PureStore) (over : IsStoreOver vars bs) where
    literal_over : (o : Option Literal) (u : PureTerm) → literal_term o ≡ Some u → IsOver vars u
    literal_over (Some l) u is = subst (IsOver vars) (same_some is) (no_variables IsIn)
    literal_over None u is = not_none is

    mutual
      substituted_over : (e : PureExpr) (u : PureTerm) → substituted bs e ≡ Some u → IsOver vars u
      substituted_over (value_literal v) u is = literal_over (spelled v) u is
      substituted_over (name x) u is = over x u is
      substituted_over (logical x) u is = over x u is
      substituted_over (list_expr es) u is =
          let (ts, (inner, whole)) = some_mapped (λ ts. list_of (from_list ts)) (all_substituted bs es) u is in
          subst (IsOver vars) whole (all_substituted_over es ts inner)
      substituted_over (unary_expr op e) u is =
          let (t, (inner, whole)) = some_mapped (folded_unary op) (substituted bs e) u is in
          subst (IsOver vars) whole (λ x has. substituted_over e t inner x ((folding.of_one op t).no_more_names x has))
      substituted_over (binary_expr op d e) u is =
          let (s, (first, rest)) = some_of (λ s. option_map (folded_binary op s) (substituted bs e)) (substituted bs d) u is in
          let (t, (second, whole)) = some_mapped (folded_binary op s) (substituted bs e) u rest in
          subst (IsOver vars) whole (λ x has. joined IsIn (variables s) (variables t) (substituted_over d s first) (substituted_over e t second) x ((folding.of_two op s t).no_more_names x has))

      all_substituted_over : (es : PureExprs) (ts : List PureTerm) → all_substituted bs es ≡ Some ts → AreVariablesOf vars (variables_of_all (from_list ts))
      all_substituted_over no_exprs ts is = subst (λ xs. AreVariablesOf vars (variables_of_all (from_list xs))) (same_some is) (no_variables IsIn)
      all_substituted_over (expr_and e es) ts is =
          let (t, (first, rest)) = some_of (λ t. option_map (λ us. t ∷ us) (all_substituted bs es)) (substituted bs e) ts is in
          let (us, (second, whole)) = some_mapped (λ us. t ∷ us) (all_substituted bs es) ts rest in
          subst (λ xs. AreVariablesOf vars (variables_of_all (from_list xs))) whole (joined IsIn (variables t) (variables_of_all (from_list us)) (substituted_over e t first) (all_substituted_over es us second))

  each_over : (ts : List PureTerm) → IsOver vars (list_of (from_list ts)) → AreEachOver vars ts
  each_over [] over = tt
  each_over (t ∷ ts) over = (over_left vars (variables t) (variables_of_all (from_list ts)) over, each_over ts (over_right vars (variables t) (variables_of_all (from_list ts)) over))

pub names_no_others : (folding : FoldingReplaces) (bs : PureStore) (e : PureExpr) → NameNoOthers IsOver bs (cases_after bs [] [] e)
names_no_others folding bs e vars over =
    let found = from_after (λ a. IsOver vars (term_of a)) bs e [] [] (λ a one. (asked_known (IsIn vars) bs (substituted_over vars folding bs over) (subexpressions e) a one).1) tt tt in
    (found.0, on_result (cases_after bs [] [] e).good (λ t is. substituted_over vars folding bs over e t is) found.1)

pub all_name_no_others : (folding : FoldingReplaces) (bs : PureStore) (es : List PureExpr) → NameNoOthers AreEachOver bs (all_cases_after bs [] [] (exprs_from es))
all_name_no_others folding bs es vars over =
    let cases = all_cases_after bs [] [] (exprs_from es) in
    let found = all_from_after (λ a. IsOver vars (term_of a)) bs (exprs_from es) [] [] (λ a one. (asked_known (IsIn vars) bs (substituted_over vars folding bs over) (subexpressions_of_all (exprs_from es)) a one).1) tt tt in
    (found.0, on_result cases.good (λ ts. each_over vars ts) (all_over_after folding vars bs over [] [] (exprs_from es)))
