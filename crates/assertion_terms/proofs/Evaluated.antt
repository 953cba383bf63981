-- The values of the expressions that terms are.
use Rattle.std.proofs.Common.{◌≡◌, ℕ, zero, suc, ◌<◌, List, [], ◌∷◌, map, length, Bool, true, false, if◌then◌else◌, Option, Some, None, Result, Ok, Err, slice_get, refl, sym, ap, ◌∙◌, arith}
use Rattle.std.specs.Option.{option_map, option_and_then}
use Rattle.std.specs.Result.{result_ok}
use Rattle.std.proofs.lemmas.Option.{slice_get_within}
use Rattle.std.proofs.lemmas.List.Elements.{Contains-append_left, Contains-append_right, Contains-push}
use Rattle.gil_values.specs.Operators.{Fault, Outcome, unary, binary}
use Rattle.gil_values.specs.Pure.{PureValue, list, from_list as list_elements}
use Rattle.gil_syntax.specs.Evaluation.{Store, value_of, Outcomes, set_or_fault, after_value, as_list, both, evaluate, evaluate_elements, evaluate_all}
use Rattle.gil_syntax.specs.Pure.{PureExpr}
use Rattle.gil_syntax.specs.Pure as expr
use Rattle.gil_syntax.specs.WellMade.{has_hash}
use Rattle.pure_terms.specs.declared.variables.Sort.{Sort}
use Rattle.pure_terms.specs.Meaning.{value, values, IsOver, AreVariablesOf}
use Rattle.pure_terms.specs.Meaning as term
use Rattle.pure_terms.specs.Pure.{PureTerm, literal, variable, list_of, unary_of, binary_of, PureTerms, no_terms, term_and, from_list, variables, variables_of_all}
use Rattle.sym_model.specs.Terms.{AreEachOver}
use Rattle.sym_model.proofs.ListLaws.{same_some, not_none}
use Rattle.assertion_terms.specs.Laws.{NamesValues}
use Rattle.assertion_terms.specs.Named.{named, name_or_none, expr_of, exprs_of}

-- ---- outcomes as options

set_ok : (o : Option PureValue) → result_ok (set_or_fault o) ≡ o
set_ok (Some w) = refl
set_ok None = refl

list_ok : (r : Outcomes) → result_ok (as_list r) ≡ option_map (λ ws. list (list_elements ws)) (result_ok r)
list_ok (Ok ws) = refl
list_ok (Err f) = refl

both_ok : (r : Outcome) (rs : Outcomes) → result_ok (both r rs) ≡ term.both (result_ok r) (result_ok rs)
both_ok (Ok w) (Ok ws) = refl
both_ok (Ok w) (Err f) = refl
both_ok (Err f) (Ok ws) = refl
both_ok (Err f) (Err g) = refl

after_ok : (r : Outcome) (go_on : PureValue → Outcome) → result_ok (after_value r go_on) ≡ option_and_then (λ a. result_ok (go_on a)) (result_ok r)
after_ok (Ok w) go_on = refl
after_ok (Err f) go_on = refl

two_ok : (r q : Outcome) (op : PureValue → PureValue → Outcome) → result_ok (after_value r (λ a. after_value q (op a))) ≡ option_and_then (λ a. option_and_then (λ c. result_ok (op a c)) (result_ok q)) (result_ok r)
two_ok (Ok a) q op = after_ok q (op a)
two_ok (Err f) q op = refl

pub ok_to_some : {X : Type 0} (r : Result X Fault) (x : X) → r ≡ Ok x → result_ok r ≡ Some x
ok_to_some r x is = ap result_ok is

pub some_to_ok : {X : Type 0} (r : Result X Fault) (x : X) → result_ok r ≡ Some x → r ≡ Ok x
some_to_ok (Ok y) x is = ap Ok (same_some is)
some_to_ok (Err f) x is = not_none is

-- ---- names

named_value : (x : List ℕ) (store : Store) → evaluate (named x) store ≡ set_or_fault (value_of store x)
named_value x store = by (has_hash x)
  where
    by : (b : Bool) → evaluate (if b then expr.logical x else expr.name x) store ≡ set_or_fault (value_of store x)
    by true = refl
    by false = refl

pub there_is : {X : Type 0} (xs : List X) (i : ℕ) → i < length xs → (x : X) × (slice_get xs i ≡ Some x)
there_is [] i less = absurd (omega (arith, less))
there_is (x ∷ xs) zero less = (x, refl)
there_is (x ∷ xs) (suc i) less = there_is xs i (omega (arith, less))

-- ---- values

module _ (vars : List Sort) (names : List (List ℕ)) (v : List PureValue) (store : Store) (have : NamesValues vars names v store) where
  variable_value : (n : ℕ) (sort : Sort) → slice_get vars n ≡ Some sort → value_of store (name_or_none (slice_get names n)) ≡ slice_get v n
  variable_value n sort at =
      let less : n < length vars = slice_get_within vars n sort at in
      let as_many = have.names_each in
      let valued = have.values_each in
      let (x, name) = there_is names n (omega (arith, less, as_many)) in
      let (w, value) = there_is v n (omega (arith, less, valued)) in
      ap (λ o. value_of store (name_or_none o)) name ∙ have.agrees n x w name value ∙ sym value

  mutual
    pub value_same : (t : PureTerm) → IsOver vars t → result_ok (evaluate (expr_of names t) store) ≡ value v t
    value_same (literal l) over = refl
    value_same (variable x) over =
        ap result_ok (named_value (name_or_none (slice_get names x.number)) store) ∙ set_ok (value_of store (name_or_none (slice_get names x.number)))
        ∙ variable_value x.number x.sort (over x (Contains-push [] x))
    value_same (list_of ts) over = list_ok (evaluate_elements (exprs_of names ts) store) ∙ ap (option_map (λ ws. list (list_elements ws))) (values_same ts over)
    value_same (unary_of op t) over = after_ok (evaluate (expr_of names t) store) (unary op) ∙ ap (option_and_then (λ a. result_ok (unary op a))) (value_same t over)
    value_same (binary_of op s t) over =
        let first = value_same s (λ x has. over x (Contains-append_left (variables s) (variables t) x has)) in
        let second = value_same t (λ x has. over x (Contains-append_right (variables s) (variables t) x has)) in
        two_ok (evaluate (expr_of names s) store) (evaluate (expr_of names t) store) (binary op)
        ∙ (λ i. option_and_then (λ a. option_and_then (λ c. result_ok (binary op a c)) (second i)) (first i))

    pub values_same : (ts : PureTerms) → AreVariablesOf vars (variables_of_all ts) → result_ok (evaluate_elements (exprs_of names ts) store) ≡ values v ts
    values_same no_terms over = refl
    values_same (term_and t ts) over =
        let first = value_same t (λ x has. over x (Contains-append_left (variables t) (variables_of_all ts) x has)) in
        let rest = values_same ts (λ x has. over x (Contains-append_right (variables t) (variables_of_all ts) x has)) in
        both_ok (evaluate (expr_of names t) store) (evaluate_elements (exprs_of names ts) store) ∙ (λ i. term.both (first i) (rest i))

  pub all_same : (ts : List PureTerm) → AreEachOver vars ts → result_ok (evaluate_all (map (expr_of names) ts) store) ≡ values v (from_list ts)
  all_same [] over = refl
  all_same (t ∷ ts) over = both_ok (evaluate (expr_of names t) store) (evaluate_all (map (expr_of names) ts) store) ∙ (λ i. term.both (value_same t over.0 i) (all_same ts over.1 i))
