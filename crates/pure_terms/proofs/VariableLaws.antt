-- Values and truth depend only on the variables that are named, and stay when a table grows.
use Rattle.std.proofs.Common.{◌≡◌, ℕ, zero, suc, ◌<◌, List, [], ◌∷◌, ◌++◌, length, true, false, slice_get, refl, ap, ◌∙◌, arith}
use Rattle.std.specs.Option.{is_some, option_map, option_and_then}
use Rattle.std.specs.Result.{result_ok}
use Rattle.std.proofs.lemmas.List.Elements.{Contains-append_left, Contains-append_right, Contains-push}
use Rattle.std.proofs.lemmas.Option.{slice_get_within}
use Rattle.gil_values.specs.Operators.{unary, binary}
use Rattle.gil_values.specs.Pure.{PureValue, list, from_list}
use Rattle.pure_terms.specs.declared.variables.Sort.{Sort}
use Rattle.pure_terms.specs.declared.variables.Var.{Var}
use Rattle.pure_terms.specs.Laws.{AgreeOn, DependOnVariables, StayWhenTablesGrow}
use Rattle.pure_terms.specs.Meaning.{both, value, values, truth, is_that_boolean, AreVariablesOf}
use Rattle.pure_terms.specs.Pure.{PureTerm, literal, variable, list_of, unary_of, binary_of, PureTerms, no_terms, term_and, PureAtom, positive, negative, opening, term_of, variables, variables_of_all}

agree_left : (xs ys : List Var) (v w : List PureValue) → AgreeOn (xs ++ ys) v w → AgreeOn xs v w
agree_left xs ys v w agree x has = agree x (Contains-append_left xs ys x has)

agree_right : (xs ys : List Var) (v w : List PureValue) → AgreeOn (xs ++ ys) v w → AgreeOn ys v w
agree_right xs ys v w agree x has = agree x (Contains-append_right xs ys x has)

mutual
  value_same : (t : PureTerm) (v w : List PureValue) → AgreeOn (variables t) v w → value v t ≡ value w t
  value_same (literal l) v w agree = refl
  value_same (variable x) v w agree = agree x (Contains-push [] x)
  value_same (list_of ts) v w agree = ap (option_map (λ ws. list (from_list ws))) (values_same ts v w agree)
  value_same (unary_of op t) v w agree = ap (option_and_then (λ a. result_ok (unary op a))) (value_same t v w agree)
  value_same (binary_of op s t) v w agree =
      let left = value_same s v w (agree_left (variables s) (variables t) v w agree) in
      let right = value_same t v w (agree_right (variables s) (variables t) v w agree) in
      λ i. option_and_then (λ a. option_and_then (λ b. result_ok (binary op a b)) (right i)) (left i)

  values_same : (ts : PureTerms) (v w : List PureValue) → AgreeOn (variables_of_all ts) v w → values v ts ≡ values w ts
  values_same no_terms v w agree = refl
  values_same (term_and t ts) v w agree =
      let first = value_same t v w (agree_left (variables t) (variables_of_all ts) v w agree) in
      let rest = values_same ts v w (agree_right (variables t) (variables_of_all ts) v w agree) in
      λ i. both (first i) (rest i)

truth_same : (a : PureAtom) (v w : List PureValue) → AgreeOn (variables (term_of a)) v w → truth v a ≡ truth w a
truth_same (positive t) v w agree = ap (is_that_boolean true) (value_same t v w agree)
truth_same (negative t) v w agree = ap (is_that_boolean false) (value_same t v w agree)
truth_same (opening t) v w agree = ap is_some (value_same t v w agree)

pub depend_on_variables : DependOnVariables
depend_on_variables = record { values = value_same; truths = truth_same }

-- ---- larger tables

pub slice_get-append : {X : Type 0} (xs ys : List X) (i : ℕ) → i < length xs → slice_get (xs ++ ys) i ≡ slice_get xs i
slice_get-append [] ys i below = absurd (omega (arith, below))
slice_get-append (x ∷ xs) ys zero below = refl
slice_get-append (x ∷ xs) ys (suc i) below = slice_get-append xs ys i (omega (arith, below))

pub variables_of-more : (vars more : List Sort) (xs : List Var) → AreVariablesOf vars xs → AreVariablesOf (vars ++ more) xs
variables_of-more vars more xs over x has = slice_get-append vars more x.number (slice_get_within vars x.number x.sort (over x has)) ∙ over x has

agree_when_longer : (vars : List Sort) (v more : List PureValue) (xs : List Var) → AreVariablesOf vars xs → length v ≡ length vars → AgreeOn xs (v ++ more) v
agree_when_longer vars v more xs over one_each x has =
    let within : x.number < length vars = slice_get_within vars x.number x.sort (over x has) in
    slice_get-append v more x.number (omega (arith, within, one_each))

pub stay_when_tables_grow : StayWhenTablesGrow
stay_when_tables_grow = record {
  over = λ t vars more over. variables_of-more vars more (variables t) over;
  values = λ t vars v more over one_each. value_same t (v ++ more) v (agree_when_longer vars v more (variables t) over one_each);
  truths = λ a vars v more over one_each. truth_same a (v ++ more) v (agree_when_longer vars v more (variables (term_of a)) over one_each);
}
