-- Numbers of simple terms with narrow literals are held, where the valuation's are moderate.
use Rattle.std.proofs.Common.{◌≡◌, ℕ, zero, suc, ◌-◌, ◌^◌, ℤ, pos, neg_ℤ, ◌+ℤ◌, ◌-ℤ◌, ◌≤ℤ◌, int_le, List, [], ◌∷◌, Bool, true, false, ◌&&◌, ◌||◌, not, Option, Some, None, slice_get, IsTrue, refl, sym, ap, ◌∙◌, subst, arith}
use Rattle.std.specs.List.{list_all}
use Rattle.std.specs.Option.{option_and_then}
use Rattle.std.specs.Result.{result_ok}
use Rattle.std.proofs.lemmas.Bool.{false≢true, and_parts, and_from, or_from}
use Rattle.std.proofs.lemmas.Int.{ints}
use Rattle.std.proofs.lemmas.List.Folds.{list_any-append}
use Rattle.gil_values.specs.declared.operators.BinOp.{BinOp}
use Rattle.gil_values.specs.Operators.{binary}
use Rattle.gil_values.specs.Pure.{PureValue, integer, boolean, text, symbol, kind, procedure, list}
use Rattle.pure_terms.specs.declared.literals.Literal.{Literal}
use Rattle.pure_terms.specs.declared.variables.Sort.{Sort}
use Rattle.pure_terms.specs.Deciding.{has_moderate_numbers}
use Rattle.pure_terms.specs.Fragment.{is_shift, is_variable_of, is_integer_literal, is_simple, are_simple, has_literals_between, have_literals_between}
use Rattle.pure_terms.specs.Kinds.{kind_of_sort}
use Rattle.pure_terms.specs.Meaning.{value, literal_value, IsProper, IsOver, AreVariablesOf}
use Rattle.pure_terms.specs.Numbers.{is_between, is_held}
use Rattle.pure_terms.specs.Pure.{PureTerm, literal, variable, list_of, unary_of, binary_of, PureTerms, no_terms, term_and, variables, variables_of_all, subterms, subterms_of_all}
use Rattle.pure_terms.specs.Truth.{have_wide_parts}
use Rattle.pure_terms.specs.Wide.{is_wide, has_wide_part}
use Rattle.pure_terms.proofs.Evaluated.{wide-list, wide-binary}
use Rattle.pure_terms.proofs.KindLaws.{over_left, over_right}
use Rattle.pure_terms.proofs.SimpleLaws.{IsVariableOf, from_is_variable_of, IsIntegerLiteral, from_is_integer_literal, variable-has_value, IsInteger, integer-of_known}
use Rattle.sym_test.specs.Undecided.{is_narrow_term}

-- ---- numbers

from_test : (m n : ℤ) → int_le m n ≡ true → m ≤ℤ n
from_test m n e = grind (arith, ints)

to_test : (m n : ℤ) → m ≤ℤ n → int_le m n ≡ true
to_test m n h = grind (arith, ints)

abbrev low : ℤ
low = neg_ℤ (pos (2 ^ 125))

abbrev high : ℤ
high = pos (2 ^ 125)

abbrev least : ℤ
least = neg_ℤ (pos (2 ^ 80))

abbrev greatest : ℤ
greatest = pos (2 ^ 80)

is_held-from : (z : ℤ) → neg_ℤ (pos (2 ^ 127)) ≤ℤ z → z ≤ℤ pos (2 ^ 127 - 1) → is_held z ≡ true
is_held-from z above below = and_from _ _ (to_test _ z above) (to_test z _ below)

moderate-held : (m : ℤ) → is_between low high m ≡ true → is_held m ≡ true
moderate-held m of_m =
    let parts = and_parts (int_le low m) (int_le m high) of_m in
    let m_low = from_test low m parts.0 in
    let m_high = from_test m high parts.1 in
    is_held-from m (omega (arith, ints)) (omega (arith, ints))

narrow-held : (m : ℤ) → is_between least greatest m ≡ true → is_held m ≡ true
narrow-held m of_m =
    let parts = and_parts (int_le least m) (int_le m greatest) of_m in
    let m_low = from_test least m parts.0 in
    let m_high = from_test m greatest parts.1 in
    is_held-from m (omega (arith, ints)) (omega (arith, ints))

sum-held : (m n : ℤ) → is_between low high m ≡ true → is_between least greatest n ≡ true → is_held (m +ℤ n) ≡ true
sum-held m n of_m of_n =
    let m_parts = and_parts (int_le low m) (int_le m high) of_m in
    let n_parts = and_parts (int_le least n) (int_le n greatest) of_n in
    let m_low = from_test low m m_parts.0 in
    let m_high = from_test m high m_parts.1 in
    let n_low = from_test least n n_parts.0 in
    let n_high = from_test n greatest n_parts.1 in
    is_held-from (m +ℤ n) (omega (arith, ints)) (omega (arith, ints))

difference-held : (m n : ℤ) → is_between low high m ≡ true → is_between least greatest n ≡ true → is_held (m -ℤ n) ≡ true
difference-held m n of_m of_n =
    let m_parts = and_parts (int_le low m) (int_le m high) of_m in
    let n_parts = and_parts (int_le least n) (int_le n greatest) of_n in
    let m_low = from_test low m m_parts.0 in
    let m_high = from_test m high m_parts.1 in
    let n_low = from_test least n n_parts.0 in
    let n_high = from_test n greatest n_parts.1 in
    is_held-from (m -ℤ n) (omega (arith, ints)) (omega (arith, ints))

moderate-at : (v : List PureValue) (i : ℕ) (n : ℤ) → list_all has_moderate_numbers v ≡ true → slice_get v i ≡ Some (integer n) → is_between low high n ≡ true
moderate-at [] i n all is = absurd (cc)
moderate-at (w ∷ v) zero n all is =
    let here : w ≡ integer n = cc in
    ap has_moderate_numbers (sym here) ∙ (and_parts (has_moderate_numbers w) (list_all has_moderate_numbers v) all).0
moderate-at (w ∷ v) (suc i) n all is = moderate-at v i n (and_parts (has_moderate_numbers w) (list_all has_moderate_numbers v) all).1 is

not_wide : (n : ℤ) → is_held n ≡ true → is_wide (Some (integer n)) ≡ false
not_wide n held = ap not held

-- ---- terms

literal-held : (l : Literal) → has_literals_between least greatest (literal l) ≡ true → is_wide (Some (literal_value l)) ≡ false
literal-held (Literal.Int n) narrow = not_wide n (narrow-held n narrow)
literal-held (Literal.Bool b) narrow = refl
literal-held (Literal.Str cs) narrow = refl
literal-held (Literal.Kind k) narrow = refl
literal-held (Literal.Proc f) narrow = refl

found-held : (v : List PureValue) (i : ℕ) (o : Option PureValue) → slice_get v i ≡ o → list_all has_moderate_numbers v ≡ true → is_wide o ≡ false
found-held v i None is all = refl
found-held v i (Some (integer n)) is all = not_wide n (moderate-held n (moderate-at v i n all is))
found-held v i (Some (boolean b)) is all = refl
found-held v i (Some (text cs)) is all = refl
found-held v i (Some (symbol n)) is all = refl
found-held v i (Some (kind k)) is all = refl
found-held v i (Some (procedure f)) is all = refl
found-held v i (Some (list ws)) is all = refl

alone : (b : Bool) → b ≡ false → (b || false) ≡ false
alone b is = or_from b false is refl

module _ (vars : List Sort) (v : List PureValue) (proper : IsProper vars v) (moderate : list_all has_moderate_numbers v ≡ true) where
  both_values : (op : BinOp) (s t : PureTerm) (m n : ℤ) → value v s ≡ Some (integer m) → value v t ≡ Some (integer n) → value v (binary_of op s t) ≡ result_ok (binary op (integer m) (integer n))
  both_values op s t m n at_s at_t = λ i. option_and_then (λ a. option_and_then (λ b. result_ok (binary op a b)) (at_t i)) (at_s i)

  simple-variable : (s : PureTerm) → IsVariableOf Sort.Int s → is_simple s ≡ true
  simple-variable s (x, (is, sort)) = ap is_simple is

  simple-literal : (t : PureTerm) → IsIntegerLiteral t → is_simple t ≡ true
  simple-literal t (n, is) = ap is_simple is

  shift-held : (op : BinOp) (m n : ℤ) (s t : PureTerm) → is_shift op ≡ true → value v s ≡ Some (integer m) → value v t ≡ Some (integer n) → is_between low high m ≡ true → is_between least greatest n ≡ true
      → is_wide (value v (binary_of op s t)) ≡ false
  shift-held BinOp.Add m n s t shift at_s at_t of_m of_n = ap is_wide (both_values BinOp.Add s t m n at_s at_t) ∙ not_wide (m +ℤ n) (sum-held m n of_m of_n)
  shift-held BinOp.Subtract m n s t shift at_s at_t of_m of_n = ap is_wide (both_values BinOp.Subtract s t m n at_s at_t) ∙ not_wide (m -ℤ n) (difference-held m n of_m of_n)
  shift-held op m n s t shift at_s at_t of_m of_n = absurd (false≢true shift)

  sum-part : (op : BinOp) (s t : PureTerm) → IsOver vars (binary_of op s t) → is_simple (binary_of op s t) ≡ true → has_literals_between least greatest (binary_of op s t) ≡ true → is_wide (value v (binary_of op s t)) ≡ false
  sum-part op s t over simple narrow =
      let first = and_parts (is_shift op) (is_variable_of Sort.Int s && is_integer_literal t) simple in
      let second = and_parts (is_variable_of Sort.Int s) (is_integer_literal t) first.1 in
      let literals = and_parts (has_literals_between least greatest s) (has_literals_between least greatest t) narrow in
      let (x, (is_x, sort)) = from_is_variable_of Sort.Int s second.0 in
      let (n, is_n) = from_is_integer_literal t second.1 in
      let over_x : IsOver vars (variable x) = subst (IsOver vars) is_x (over_left vars (variables s) (variables t) over) in
      let whole : IsInteger (value v (variable x)) = integer-of_known vars v (variable x) proper over_x (ap kind_of_sort sort) (variable-has_value vars v x proper over_x) in
      shift-held op whole.0 n s t first.0 (ap (value v) is_x ∙ whole.1) (ap (value v) is_n) (moderate-at v x.number whole.0 moderate whole.1) (ap (has_literals_between least greatest) (sym is_n) ∙ literals.1)

  mutual
    term-held : (t : PureTerm) → IsOver vars t → is_simple t ≡ true → has_literals_between least greatest t ≡ true → has_wide_part v t ≡ false
    term-held (literal l) over simple narrow = alone (is_wide (Some (literal_value l))) (literal-held l narrow)
    term-held (variable x) over simple narrow = alone (is_wide (slice_get v x.number)) (found-held v x.number (slice_get v x.number) refl moderate)
    term-held (list_of ts) over simple narrow = wide-list v ts ∙ terms-held ts over simple narrow
    term-held (unary_of op t) over simple narrow = absurd (false≢true simple)
    term-held (binary_of op s t) over simple narrow =
        let first = and_parts (is_shift op) (is_variable_of Sort.Int s && is_integer_literal t) simple in
        let second = and_parts (is_variable_of Sort.Int s) (is_integer_literal t) first.1 in
        let literals = and_parts (has_literals_between least greatest s) (has_literals_between least greatest t) narrow in
        wide-binary v op s t
        ∙ or_from (is_wide (value v (binary_of op s t))) (has_wide_part v s || has_wide_part v t) (sum-part op s t over simple narrow)
        (or_from (has_wide_part v s) (has_wide_part v t)
        (term-held s (over_left vars (variables s) (variables t) over) (simple-variable s (from_is_variable_of Sort.Int s second.0)) literals.0)
        (term-held t (over_right vars (variables s) (variables t) over) (simple-literal t (from_is_integer_literal t second.1)) literals.1))

    terms-held : (ts : PureTerms) → AreVariablesOf vars (variables_of_all ts) → are_simple ts ≡ true → have_literals_between least greatest ts ≡ true → have_wide_parts v ts ≡ false
    terms-held no_terms over simple narrow = refl
    terms-held (term_and t ts) over simple narrow =
        let simples = and_parts (is_simple t) (are_simple ts) simple in
        let literals = and_parts (has_literals_between least greatest t) (have_literals_between least greatest ts) narrow in
        list_any-append (λ s. is_wide (value v s)) (subterms t) (subterms_of_all ts)
        ∙ or_from (has_wide_part v t) (have_wide_parts v ts)
        (term-held t (over_left vars (variables t) (variables_of_all ts) over) simples.0 literals.0)
        (terms-held ts (over_right vars (variables t) (variables_of_all ts) over) simples.1 literals.1)

pub narrow_is_held : (vars : List Sort) (v : List PureValue) (t : PureTerm) → IsProper vars v → IsOver vars t → IsTrue (list_all has_moderate_numbers v) → is_narrow_term t ≡ true → has_wide_part v t ≡ false
narrow_is_held vars v t proper over moderate narrow =
    let parts = and_parts (is_simple t) (has_literals_between least greatest t) narrow in
    term-held vars v proper moderate t over parts.0 parts.1
