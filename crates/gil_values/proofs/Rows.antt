-- Rows of the operator table on lists.
use Rattle.std.proofs.Common.{◌≡◌, ℤ, pos, negsuc, ◌≤ℤ◌, ◌<ℤ◌, List, ◌++◌, length, Ok, Err, ◌⊎◌, sym, refl, ap, ◌∙◌, arith}
use Rattle.std.proofs.lemmas.Int.{ints}
use Rattle.std.proofs.lemmas.Option.{slice_get_past}
use Rattle.gil_values.specs.declared.tree.Value
use Rattle.gil_values.specs.declared.tree.Value.{Value}
use Rattle.gil_values.specs.declared.tree.Values.{Values}
use Rattle.gil_values.specs.Pure.{PureValue, integer, list, from_list, to_list-from_list}
use Rattle.gil_values.specs.Operators.{size, appended, element, element_at, element_or_fault, out_of_range}
use Rattle.gil_values.specs.View.{value_view, values_view}
use Rattle.gil_values.proofs.Views.{value_view-Int, value_view-List}

pub size-List : (a : Value) (vs : Values) → a ≡ Value.List vs → size (value_view a) ≡ Ok (integer (pos (length (values_view vs))))
size-List a vs e =
    ap size (ap value_view e ∙ value_view-List vs) ∙ ap (λ xs. Ok (integer (pos (length xs)))) (to_list-from_list (values_view vs))

pub element-List : (a b : Value) (vs : Values) (i : ℤ) → a ≡ Value.List vs → b ≡ Value.Int i → element (value_view a) (value_view b) ≡ element_at (values_view vs) i
element-List a b vs i e f =
    ap (λ v. element v (value_view b)) (ap value_view e ∙ value_view-List vs)
    ∙ ap (element (list (from_list (values_view vs)))) (ap value_view f ∙ value_view-Int i)
    ∙ ap (λ xs. element_at xs i) (to_list-from_list (values_view vs))

appended-lists : (vs ws : List PureValue) → appended (list (from_list vs)) (list (from_list ws)) ≡ Ok (list (from_list (vs ++ ws)))
appended-lists vs ws = rw (to_list-from_list vs, to_list-from_list ws) refl

pub appended-List : (a b : Value) (vs ws : Values) → a ≡ Value.List vs → b ≡ Value.List ws → appended (value_view a) (value_view b) ≡ Ok (list (from_list (values_view vs ++ values_view ws)))
appended-List a b vs ws e f =
    ap (λ v. appended v (value_view b)) (ap value_view e ∙ value_view-List vs)
    ∙ ap (appended (list (from_list (values_view vs)))) (ap value_view f ∙ value_view-List ws)
    ∙ appended-lists (values_view vs) (values_view ws)

-- outside the list there is no element
pub element_at-outside : (vs : List PureValue) (i : ℤ) → (i <ℤ pos 0) ⊎ (pos (length vs) ≤ℤ i) → Err out_of_range ≡ element_at vs i
element_at-outside vs (pos i) outside = ap element_or_fault (sym (slice_get_past vs i (omega (arith, ints, outside))))
element_at-outside vs (negsuc i) outside = refl
