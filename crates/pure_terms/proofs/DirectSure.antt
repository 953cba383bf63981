-- The truth of an atom of the fragment is read off a valuation whose numbers are moderate.
use Rattle.std.proofs.Common.{◌≡◌, ℕ, zero, suc, ◌-◌, ◌^◌, ℤ, pos, neg_ℤ, ◌+ℤ◌, ◌-ℤ◌, ◌≤ℤ◌, int_lt, int_le, List, [], ◌∷◌, Bool, true, false, ◌&&◌, ◌||◌, not, ◌⊎◌, inl, inr, ⊎_elim, if◌then◌else◌, Option, Some, None, slice_get, refl, sym, ap, ◌∙◌, subst, arith}
use Rattle.std.specs.Option.{is_some, option_map}
use Rattle.std.specs.List.{list_all}
use Rattle.std.proofs.lemmas.Bool.{false≢true, and_parts, and_from, or_cases}
use Rattle.std.proofs.lemmas.Int.{ints}
use Rattle.gil_values.specs.declared.kinds.Kind.{Kind}
use Rattle.gil_values.specs.declared.operators.UnOp.{UnOp}
use Rattle.gil_values.specs.declared.operators.BinOp.{BinOp}
use Rattle.gil_values.specs.Equality.{same_kind}
use Rattle.gil_values.specs.Pure.{PureValue, integer, kind_of}
use Rattle.pure_terms.specs.declared.literals.Literal.{Literal}
use Rattle.pure_terms.specs.declared.variables.Sort.{Sort}
use Rattle.pure_terms.specs.Deciding.{has_moderate_numbers}
use Rattle.pure_terms.specs.Direct.{held, integer_in, shifted, number_at, is_readable, are_readable, are_same, boolean_in, is_kind_at, kind_at, equal_at, either_truth, ordered, compared_at, truth_at, IsModerate}
use Rattle.pure_terms.specs.Fragment.{is_integer_literal, is_variable_of, is_shift, is_simple, are_simple, is_kind_of_any, is_kind_literal, is_kind_test, is_integer_side, has_form, any_is_a_side, names_sort, is_fragment_term, has_literals_between, have_literals_between}
use Rattle.pure_terms.specs.Kinds.{kind_of_sort, is_of_kind, known_kind}
use Rattle.pure_terms.specs.Meaning.{value, IsProper, IsOver, AreVariablesOf}
use Rattle.pure_terms.specs.Numbers.{is_between, is_held}
use Rattle.pure_terms.specs.Pure.{PureTerm, literal, variable, list_of, unary_of, binary_of, PureTerms, no_terms, term_and, PureAtom, positive, negative, opening, term_of, variables, variables_of_all}
use Rattle.pure_terms.proofs.KindLaws.{over_left, over_right}
use Rattle.pure_terms.proofs.SimpleLaws.{HasValue, IsVariableOf, from_is_variable_of, IsIntegerLiteral, from_is_integer_literal, variable-has_value, IsInteger, integer-of_known, side-integer, boolean-of_known}

-- ---- numbers

from_test : (m n : ℤ) → int_le m n ≡ true → m ≤ℤ n
from_test m n e = grind (arith, ints)

to_test : (m n : ℤ) → m ≤ℤ n → int_le m n ≡ true
to_test m n h = grind (arith, ints)

abbrev low : ℤ
low = neg_ℤ (pos (2 ^ 125))

abbrev high : ℤ
high = pos (2 ^ 125)

abbrev least : ℤ
least = neg_ℤ (pos (2 ^ 80))

abbrev greatest : ℤ
greatest = pos (2 ^ 80)

is_held-from : (z : ℤ) → neg_ℤ (pos (2 ^ 127)) ≤ℤ z → z ≤ℤ pos (2 ^ 127 - 1) → is_held z ≡ true
is_held-from z above below = and_from _ _ (to_test _ z above) (to_test z _ below)

sum-held : (m n : ℤ) → is_between low high m ≡ true → is_between least greatest n ≡ true → is_held (m +ℤ n) ≡ true
sum-held m n of_m of_n =
    let m_parts = and_parts (int_le low m) (int_le m high) of_m in
    let n_parts = and_parts (int_le least n) (int_le n greatest) of_n in
    let m_low = from_test low m m_parts.0 in
    let m_high = from_test m high m_parts.1 in
    let n_low = from_test least n n_parts.0 in
    let n_high = from_test n greatest n_parts.1 in
    is_held-from (m +ℤ n) (omega (arith, ints)) (omega (arith, ints))

difference-held : (m n : ℤ) → is_between low high m ≡ true → is_between least greatest n ≡ true → is_held (m -ℤ n) ≡ true
difference-held m n of_m of_n =
    let m_parts = and_parts (int_le low m) (int_le m high) of_m in
    let n_parts = and_parts (int_le least n) (int_le n greatest) of_n in
    let m_low = from_test low m m_parts.0 in
    let m_high = from_test m high m_parts.1 in
    let n_low = from_test least n n_parts.0 in
    let n_high = from_test n greatest n_parts.1 in
    is_held-from (m -ℤ n) (omega (arith, ints)) (omega (arith, ints))

held-some : (z : ℤ) → is_held z ≡ true → HasValue (held z)
held-some z is = (z, ap (λ b. if b then Some z else None) is)

shift-some : (op : BinOp) (m n : ℤ) → is_shift op ≡ true → is_between low high m ≡ true → is_between least greatest n ≡ true → HasValue (shifted op (Some m) (Some n))
shift-some BinOp.Add m n is of_m of_n = held-some (m +ℤ n) (sum-held m n of_m of_n)
shift-some BinOp.Subtract m n is of_m of_n = held-some (m -ℤ n) (difference-held m n of_m of_n)
shift-some op m n is of_m of_n = absurd (false≢true is)

moderate-at : (v : List PureValue) (i : ℕ) (n : ℤ) → list_all has_moderate_numbers v ≡ true → slice_get v i ≡ Some (integer n) → is_between low high n ≡ true
moderate-at [] i n all is = absurd (cc)
moderate-at (w ∷ v) zero n all is =
    let here : w ≡ integer n = cc in
    ap has_moderate_numbers (sym here) ∙ (and_parts (has_moderate_numbers w) (list_all has_moderate_numbers v) all).0
moderate-at (w ∷ v) (suc i) n all is = moderate-at v i n (and_parts (has_moderate_numbers w) (list_all has_moderate_numbers v) all).1 is

only_left : (b : Bool) → (b || false) ≡ true → b ≡ true
only_left true is = refl
only_left false is = absurd (false≢true is)

either-sure : (o p : Option Bool) → HasValue o ⊎ HasValue p → HasValue (either_truth o p)
either-sure (Some b) p either = (b, refl)
either-sure None p either = ⊎_elim (λ (b, is). absurd (cc)) (λ found. found) either

abbrev sort_of : PureTerm → Sort
sort_of (variable x) = x.sort
sort_of _ = Sort.Any

some-is : {X : Type 0} (o : Option X) → HasValue o → is_some o ≡ true
some-is o (x, is) = ap is_some is

-- ---- terms under a valuation that is proper and moderate

module _ (vars : List Sort) (v : List PureValue) (proper : IsProper vars v) (moderate : list_all has_moderate_numbers v ≡ true) where
  number-variable : (s : PureTerm) → IsOver vars s → IsVariableOf Sort.Int s → (m : ℤ) × ((number_at v s ≡ Some m) × (is_between low high m ≡ true))
  number-variable s over (x, (is, sort)) =
      let over_x : IsOver vars (variable x) = subst (IsOver vars) is over in
      let whole : IsInteger (value v (variable x)) = integer-of_known vars v (variable x) proper over_x (ap kind_of_sort sort) (variable-has_value vars v x proper over_x) in
      (whole.0, (ap (number_at v) is ∙ ap integer_in whole.1, moderate-at v x.number whole.0 moderate whole.1))

  number-literal : (t : PureTerm) → has_literals_between least greatest t ≡ true → IsIntegerLiteral t → (n : ℤ) × ((number_at v t ≡ Some n) × (is_between least greatest n ≡ true))
  number-literal t narrow (n, is) = (n, (ap (number_at v) is, ap (has_literals_between least greatest) (sym is) ∙ narrow))

  number-shift : (op : BinOp) (s t : PureTerm) → IsOver vars (binary_of op s t) → is_simple (binary_of op s t) ≡ true → has_literals_between least greatest (binary_of op s t) ≡ true → HasValue (number_at v (binary_of op s t))
  number-shift op s t over simple narrow =
      let first = and_parts (is_shift op) (is_variable_of Sort.Int s && is_integer_literal t) simple in
      let second = and_parts (is_variable_of Sort.Int s) (is_integer_literal t) first.1 in
      let literals = and_parts (has_literals_between least greatest s) (has_literals_between least greatest t) narrow in
      let left = number-variable s (over_left vars (variables s) (variables t) over) (from_is_variable_of Sort.Int s second.0) in
      let right = number-literal t literals.1 (from_is_integer_literal t second.1) in
      let made = shift-some op left.0 right.0 first.0 left.1.1 right.1.1 in
      (made.0, (λ i. shifted op (left.1.0 i) (right.1.0 i)) ∙ made.1)

  mutual
    readable-sure : (t : PureTerm) → IsOver vars t → is_simple t ≡ true → has_literals_between least greatest t ≡ true → is_readable v t ≡ true
    readable-sure (literal l) over simple narrow = refl
    readable-sure (variable x) over simple narrow = some-is (slice_get v x.number) (variable-has_value vars v x proper over)
    readable-sure (list_of ts) over simple narrow = readables-sure ts over simple narrow
    readable-sure (unary_of op t) over simple narrow = absurd (false≢true simple)
    readable-sure (binary_of op s t) over simple narrow = some-is (number_at v (binary_of op s t)) (number-shift op s t over simple narrow)

    readables-sure : (ts : PureTerms) → AreVariablesOf vars (variables_of_all ts) → are_simple ts ≡ true → have_literals_between least greatest ts ≡ true → are_readable v ts ≡ true
    readables-sure no_terms over simple narrow = refl
    readables-sure (term_and t ts) over simple narrow =
        let simples = and_parts (is_simple t) (are_simple ts) simple in
        let literals = and_parts (has_literals_between least greatest t) (have_literals_between least greatest ts) narrow in
        and_from (is_readable v t) (are_readable v ts)
        (readable-sure t (over_left vars (variables t) (variables_of_all ts) over) simples.0 literals.0)
        (readables-sure ts (over_right vars (variables t) (variables_of_all ts) over) simples.1 literals.1)

  number-sure : (t : PureTerm) → IsOver vars t → is_integer_side t ≡ true → has_literals_between least greatest t ≡ true → HasValue (number_at v t)
  number-sure (literal (Literal.Int n)) over side narrow = (n, refl)
  number-sure (literal (Literal.Bool b)) over side narrow = absurd (false≢true side)
  number-sure (literal (Literal.Str cs)) over side narrow = absurd (false≢true side)
  number-sure (literal (Literal.Kind k)) over side narrow = absurd (false≢true side)
  number-sure (literal (Literal.Proc f)) over side narrow = absurd (false≢true side)
  number-sure (variable x) over side narrow =
      let whole = side-integer vars v (variable x) proper over side in
      (whole.0, ap integer_in whole.1)
  number-sure (list_of ts) over side narrow =
      absurd (false≢true (and_parts (is_simple (list_of ts)) (is_of_kind (known_kind (list_of ts)) Kind.Int) side).1)
  number-sure (unary_of op t) over side narrow = absurd (false≢true side)
  number-sure (binary_of op s t) over side narrow =
      number-shift op s t over (and_parts (is_simple (binary_of op s t)) (is_of_kind (known_kind (binary_of op s t)) Kind.Int) side).0 narrow

  sides-sure : (s t : PureTerm) → IsOver vars (binary_of BinOp.Less s t) → (is_integer_side s && is_integer_side t) ≡ true
      → (has_literals_between least greatest s && has_literals_between least greatest t) ≡ true → HasValue (number_at v s) × HasValue (number_at v t)
  sides-sure s t over sides narrow =
      let parts = and_parts (is_integer_side s) (is_integer_side t) sides in
      let literals = and_parts (has_literals_between least greatest s) (has_literals_between least greatest t) narrow in (
        number-sure s (over_left vars (variables s) (variables t) over) parts.0 literals.0,
        number-sure t (over_right vars (variables s) (variables t) over) parts.1 literals.1,
      )

  equality-sure : (s t : PureTerm) → IsOver vars (binary_of BinOp.Equal s t) → (is_simple s && is_simple t) ≡ true
      → (has_literals_between least greatest s && has_literals_between least greatest t) ≡ true → HasValue (equal_at v s t)
  equality-sure s t over simple narrow =
      let parts = and_parts (is_simple s) (is_simple t) simple in
      let literals = and_parts (has_literals_between least greatest s) (has_literals_between least greatest t) narrow in
      let left = readable-sure s (over_left vars (variables s) (variables t) over) parts.0 literals.0 in
      let right = readable-sure t (over_right vars (variables s) (variables t) over) parts.1 literals.1 in
      (are_same v s t, λ i. if left i && right i then Some (are_same v s t) else None)

  kind-literal-sure : (u t : PureTerm) → IsOver vars u → is_variable_of Sort.Any u ≡ true → is_kind_literal t ≡ true → HasValue (kind_at v (unary_of UnOp.Kind u) t)
  kind-literal-sure u (literal (Literal.Kind k)) over any of_kind =
      let (x, (is, sort)) = from_is_variable_of Sort.Any u any in
      let found = variable-has_value vars v x proper (subst (IsOver vars) is over) in
      (same_kind (kind_of found.0) k, ap (λ t. is_kind_at v t k) is ∙ ap (option_map (λ w. same_kind (kind_of w) k)) found.1)
  kind-literal-sure u t over any of_kind = absurd (false≢true of_kind)

  kind-sure : (s t : PureTerm) → IsOver vars s → is_kind_of_any s ≡ true → is_kind_literal t ≡ true → HasValue (kind_at v s t)
  kind-sure (unary_of UnOp.Kind u) t over any of_kind = kind-literal-sure u t over any of_kind
  kind-sure s t over any of_kind = absurd (false≢true any)

  compared-sure : (op : BinOp) (s t : PureTerm) → IsOver vars (binary_of op s t) → has_form (binary_of op s t) ≡ true
      → (has_literals_between least greatest s && has_literals_between least greatest t) ≡ true → HasValue (compared_at v op s t)
  compared-sure BinOp.Equal s t over form narrow =
      either-sure (kind_at v s t) (equal_at v s t)
      (⊎_elim (λ simple. inr (equality-sure s t over simple narrow))
      (λ test. let parts = and_parts (is_kind_of_any s) (is_kind_literal t) test in inl (kind-sure s t (over_left vars (variables s) (variables t) over) parts.0 parts.1))
      (or_cases (is_simple s && is_simple t) (is_kind_of_any s && is_kind_literal t) form))
  compared-sure BinOp.Less s t over form narrow =
      let numbers = sides-sure s t over (only_left (is_integer_side s && is_integer_side t) form) narrow in
      (int_lt numbers.0.0 numbers.1.0, λ i. ordered BinOp.Less (numbers.0.1 i) (numbers.1.1 i))
  compared-sure BinOp.LessOrEqual s t over form narrow =
      let numbers = sides-sure s t over (only_left (is_integer_side s && is_integer_side t) form) narrow in
      (int_le numbers.0.0 numbers.1.0, λ i. ordered BinOp.LessOrEqual (numbers.0.1 i) (numbers.1.1 i))
  compared-sure op s t over form narrow = absurd (false≢true form)

  term-sure : (t : PureTerm) → IsOver vars t → has_form t ≡ true → has_literals_between least greatest t ≡ true → HasValue (truth_at v t)
  term-sure (variable x) over form narrow =
      let of_bool = from_is_variable_of Sort.Bool (variable x) (only_left (is_variable_of Sort.Bool (variable x)) form) in
      let same : x.sort ≡ Sort.Bool = ap sort_of of_bool.1.0 ∙ of_bool.1.1 in
      let whole = boolean-of_known vars v (variable x) proper over (ap kind_of_sort same) (variable-has_value vars v x proper over) in
      (whole.0, ap boolean_in whole.1)
  term-sure (binary_of op s t) over form narrow = compared-sure op s t over form narrow
  term-sure (literal l) over form narrow = absurd (false≢true form)
  term-sure (list_of ts) over form narrow = absurd (false≢true form)
  term-sure (unary_of op t) over form narrow = absurd (false≢true form)

fragment-form : (t : PureTerm) → is_fragment_term t ≡ true → has_form t ≡ true
fragment-form t is = (and_parts (has_form t) (not (names_sort Sort.List t) && (is_kind_test t || any_is_a_side t)) is).0

-- the truth of the term of such an atom
pub moderate-truth : (v : List PureValue) (a : PureAtom) → IsModerate v a → HasValue (truth_at v (term_of a))
moderate-truth v (positive t) h = term-sure h.vars v h.proper h.numbers t h.over (fragment-form t h.form) h.literals
moderate-truth v (negative t) h = term-sure h.vars v h.proper h.numbers t h.over (fragment-form t h.form) h.literals
moderate-truth v (opening t) h = absurd (false≢true h.form)
