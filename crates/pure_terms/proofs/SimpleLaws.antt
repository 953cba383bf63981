-- Simple terms have values and, where no variable is of sort any, known kinds; the terms of fragment atoms are booleans.
use Rattle.std.proofs.Common.{◌≡◌, ⊎_elim, ℕ, ◌<◌, ℤ, ◌+ℤ◌, ◌-ℤ◌, int_lt, int_le, List, [], ◌∷◌, length, Bool, true, false, ◌&&◌, ◌||◌, Option, Some, None, slice_get, refl, sym, ap, ◌∙◌, subst, true≢false, arith}
use Rattle.std.specs.Option.{option_map, option_and_then}
use Rattle.std.specs.Result.{result_ok}
use Rattle.std.proofs.lemmas.Bool.{false≢true, and_parts, or_cases}
use Rattle.std.proofs.lemmas.Option.{slice_get_within, slice_get-get_or}
use Rattle.gil_values.specs.declared.kinds.Kind.{Kind}
use Rattle.gil_values.specs.declared.operators.UnOp.{UnOp}
use Rattle.gil_values.specs.declared.operators.BinOp.{BinOp}
use Rattle.gil_values.specs.Equality.{same_value}
use Rattle.gil_values.specs.Operators.{unary, binary}
use Rattle.gil_values.specs.Pure.{PureValue, integer, boolean, text, symbol, kind, procedure, list, kind_of, from_list}
use Rattle.pure_terms.specs.declared.literals.Literal.{Literal}
use Rattle.pure_terms.specs.declared.variables.Sort.{Sort}
use Rattle.pure_terms.specs.declared.variables.Var.{Var}
use Rattle.pure_terms.specs.EqualityLaws.{same_sorts}
use Rattle.pure_terms.specs.Fragment.{is_integer_literal, is_variable_of, is_shift, is_simple, are_simple, is_kind_of_any, is_kind_literal, is_kind_test, is_simple_equality, is_integer_side, is_order, is_comparison, has_form, is_fragment_term, has_fragment_form}
use Rattle.pure_terms.specs.Kinds.{same_sort, kind_of_sort, kind_of_literal, kind_of_binary, is_of_kind, known_kind}
use Rattle.pure_terms.specs.Laws.{SimpleTermsHaveKinds, SimpleTermsHaveValues, FragmentTermsAreBooleans}
use Rattle.pure_terms.specs.Meaning.{literal_value, both, value, values, IsProper, AreVariablesOf, IsOver}
use Rattle.pure_terms.specs.Pure.{PureTerm, literal, variable, list_of, unary_of, binary_of, PureTerms, no_terms, term_and, PureAtom, positive, negative, opening, term_of, variables, variables_of_all}
use Rattle.pure_terms.proofs.KindLaws.{same_kinds, known_kinds_are_right, over_left, over_right, over_variable}

-- ---- forms, taken apart

-- the term is a variable of this sort
abbrev pub IsVariableOf : Sort → PureTerm → Type 0
IsVariableOf s t = (x : Var) × ((t ≡ variable x) × (x.sort ≡ s))

pub from_is_variable_of : (s : Sort) (t : PureTerm) → is_variable_of s t ≡ true → IsVariableOf s t
from_is_variable_of s (variable x) h = (x, (refl, same_sorts x.sort s h))
from_is_variable_of s (literal l) h = absurd (false≢true h)
from_is_variable_of s (list_of ts) h = absurd (false≢true h)
from_is_variable_of s (unary_of op t) h = absurd (false≢true h)
from_is_variable_of s (binary_of op t u) h = absurd (false≢true h)

abbrev pub IsIntegerLiteral : PureTerm → Type 0
IsIntegerLiteral t = (n : ℤ) × (t ≡ literal (Literal.Int n))

pub from_is_integer_literal : (t : PureTerm) → is_integer_literal t ≡ true → IsIntegerLiteral t
from_is_integer_literal (literal (Literal.Int n)) h = (n, refl)
from_is_integer_literal t h = absurd (false≢true h)

-- ---- kinds

shift-kind : (op : BinOp) (k l : Option Kind) → is_shift op ≡ true → kind_of_binary op k l ≡ Some Kind.Int
shift-kind BinOp.Add k l h = refl
shift-kind BinOp.Subtract k l h = refl
shift-kind op k l h = absurd (false≢true h)

sort-kind : (s : Sort) → same_sort s Sort.Any ≡ false → (k : Kind) × (kind_of_sort s ≡ Some k)
sort-kind Sort.Int h = (Kind.Int, refl)
sort-kind Sort.Bool h = (Kind.Bool, refl)
sort-kind Sort.Str h = (Kind.Str, refl)
sort-kind Sort.Sym h = (Kind.Sym, refl)
sort-kind Sort.Fresh h = (Kind.Sym, refl)
sort-kind Sort.List h = (Kind.List, refl)
sort-kind Sort.Any h = absurd (true≢false h)

pub simple_terms_have_kinds : SimpleTermsHaveKinds
simple_terms_have_kinds (literal l) simple none = (kind_of_literal l, refl)
simple_terms_have_kinds (variable x) simple none = sort-kind x.sort none
simple_terms_have_kinds (list_of ts) simple none = (Kind.List, refl)
simple_terms_have_kinds (unary_of op t) simple none = absurd (false≢true simple)
simple_terms_have_kinds (binary_of op s t) simple none =
    (Kind.Int, shift-kind op (known_kind s) (known_kind t) (and_parts (is_shift op) (is_variable_of Sort.Int s && is_integer_literal t) simple).0)

-- ---- values

-- the option has a value
abbrev pub HasValue : {X : Type 0} → Option X → Type 0
HasValue {X} o = (w : X) × (o ≡ Some w)

pub found : {X : Type 0} (xs : List X) (i : ℕ) → i < length xs → HasValue (slice_get xs i)
found [] i below = absurd (omega (arith, below))
found (x ∷ xs) i below = (_, slice_get-get_or (x ∷ xs) i x below)

pub variable-has_value : (vars : List Sort) (v : List PureValue) (x : Var) → IsProper vars v → IsOver vars (variable x) → HasValue (slice_get v x.number)
variable-has_value vars v x proper over =
    let within : x.number < length vars = slice_get_within vars x.number x.sort (over_variable vars x over) in
    found v x.number (omega (arith, within, proper.one_each))

-- a value of kind Int is a whole number
abbrev pub IsInteger : Option PureValue → Type 0
IsInteger o = (n : ℤ) × (o ≡ Some (integer n))

integer-of_kind : (w : PureValue) → kind_of w ≡ Kind.Int → (n : ℤ) × (w ≡ integer n)
integer-of_kind (integer n) is = (n, refl)
integer-of_kind (boolean b) is = cc
integer-of_kind (text cs) is = cc
integer-of_kind (symbol n) is = cc
integer-of_kind (kind k) is = cc
integer-of_kind (procedure name) is = cc
integer-of_kind (list vs) is = cc

-- a term with a value whose kind is known to be Int has a whole number
pub integer-of_known : (vars : List Sort) (v : List PureValue) (t : PureTerm) → IsProper vars v → IsOver vars t → known_kind t ≡ Some Kind.Int → HasValue (value v t) → IsInteger (value v t)
integer-of_known vars v t proper over known (w, is) =
    let whole = integer-of_kind w (known_kinds_are_right vars v t w Kind.Int proper over is known) in
    (whole.0, is ∙ ap Some whole.1)

shifted : (op : BinOp) (a b : Option PureValue) → is_shift op ≡ true → IsInteger a → IsInteger b → HasValue (option_and_then (λ u. option_and_then (λ w. result_ok (binary op u w)) b) a)
shifted BinOp.Add a b h (m, left) (n, right) = (integer (m +ℤ n), rw (left, right) refl)
shifted BinOp.Subtract a b h (m, left) (n, right) = (integer (m -ℤ n), rw (left, right) refl)
shifted op a b h left right = absurd (false≢true h)

both-has_value : (a : Option PureValue) (b : Option (List PureValue)) → HasValue a → HasValue b → HasValue (both a b)
both-has_value a b (w, left) (ws, right) = (w ∷ ws, rw (left, right) refl)

literal-integer : (v : List PureValue) (t : PureTerm) → IsIntegerLiteral t → IsInteger (value v t)
literal-integer v t (n, is) = (n, ap (value v) is)

variable-integer : (vars : List Sort) (v : List PureValue) (s : PureTerm) → IsProper vars v → IsOver vars s → IsVariableOf Sort.Int s → IsInteger (value v s)
variable-integer vars v s proper over (x, (is, sort)) =
    let over_x : IsOver vars (variable x) = subst (IsOver vars) is over in
    let whole : IsInteger (value v (variable x)) = integer-of_known vars v (variable x) proper over_x (ap kind_of_sort sort) (variable-has_value vars v x proper over_x) in
    subst (λ t. IsInteger (value v t)) (sym is) whole

mutual
  pub simple-has_value : (vars : List Sort) (v : List PureValue) (t : PureTerm) → IsProper vars v → IsOver vars t → is_simple t ≡ true → HasValue (value v t)
  simple-has_value vars v (literal l) proper over simple = (literal_value l, refl)
  simple-has_value vars v (variable x) proper over simple = variable-has_value vars v x proper over
  simple-has_value vars v (list_of ts) proper over simple =
      let all = simple-have_values vars v ts proper over simple in
      (list (from_list all.0), ap (option_map (λ ws. list (from_list ws))) all.1)
  simple-has_value vars v (unary_of op t) proper over simple = absurd (false≢true simple)
  simple-has_value vars v (binary_of op s t) proper over simple =
      let first = and_parts (is_shift op) (is_variable_of Sort.Int s && is_integer_literal t) simple in
      let second = and_parts (is_variable_of Sort.Int s) (is_integer_literal t) first.1 in
      let left : IsInteger (value v s) = variable-integer vars v s proper (over_left vars (variables s) (variables t) over) (from_is_variable_of Sort.Int s second.0) in
      shifted op (value v s) (value v t) first.0 left (literal-integer v t (from_is_integer_literal t second.1))

  simple-have_values : (vars : List Sort) (v : List PureValue) (ts : PureTerms) → IsProper vars v → AreVariablesOf vars (variables_of_all ts) → are_simple ts ≡ true → HasValue (values v ts)
  simple-have_values vars v no_terms proper over simple = ([], refl)
  simple-have_values vars v (term_and t ts) proper over simple =
      let parts = and_parts (is_simple t) (are_simple ts) simple in
      both-has_value (value v t) (values v ts)
      (simple-has_value vars v t proper (over_left vars (variables t) (variables_of_all ts) over) parts.0)
      (simple-have_values vars v ts proper (over_right vars (variables t) (variables_of_all ts) over) parts.1)

pub simple_terms_have_values : SimpleTermsHaveValues
simple_terms_have_values = simple-has_value

-- ---- the fragment

abbrev pub IsBoolean : Option PureValue → Type 0
IsBoolean o = (b : Bool) × (o ≡ Some (boolean b))

boolean-of_kind : (w : PureValue) → kind_of w ≡ Kind.Bool → (b : Bool) × (w ≡ boolean b)
boolean-of_kind (boolean b) is = (b, refl)
boolean-of_kind (integer n) is = cc
boolean-of_kind (text cs) is = cc
boolean-of_kind (symbol n) is = cc
boolean-of_kind (kind k) is = cc
boolean-of_kind (procedure name) is = cc
boolean-of_kind (list vs) is = cc

pub boolean-of_known : (vars : List Sort) (v : List PureValue) (t : PureTerm) → IsProper vars v → IsOver vars t → known_kind t ≡ Some Kind.Bool → HasValue (value v t) → IsBoolean (value v t)
boolean-of_known vars v t proper over known (w, is) =
    let whole = boolean-of_kind w (known_kinds_are_right vars v t w Kind.Bool proper over is known) in
    (whole.0, is ∙ ap Some whole.1)

equal-boolean : (a b : Option PureValue) → HasValue a → HasValue b → IsBoolean (option_and_then (λ u. option_and_then (λ w. result_ok (binary BinOp.Equal u w)) b) a)
equal-boolean a b (u, left) (w, right) = (same_value u w, rw (left, right) refl)

order-boolean : (op : BinOp) (a b : Option PureValue) → is_order op ≡ true → IsInteger a → IsInteger b → IsBoolean (option_and_then (λ u. option_and_then (λ w. result_ok (binary op u w)) b) a)
order-boolean BinOp.Less a b h (m, left) (n, right) = (int_lt m n, rw (left, right) refl)
order-boolean BinOp.LessOrEqual a b h (m, left) (n, right) = (int_le m n, rw (left, right) refl)
order-boolean op a b h left right = absurd (false≢true h)

pub from_is_of_kind : (o : Option Kind) (k : Kind) → is_of_kind o k ≡ true → o ≡ Some k
from_is_of_kind (Some l) k h = ap Some (same_kinds l k h)
from_is_of_kind None k h = absurd (false≢true h)

pub side-integer : (vars : List Sort) (v : List PureValue) (t : PureTerm) → IsProper vars v → IsOver vars t → is_integer_side t ≡ true → IsInteger (value v t)
side-integer vars v t proper over side =
    let parts = and_parts (is_simple t) (is_of_kind (known_kind t) Kind.Int) side in
    integer-of_known vars v t proper over (from_is_of_kind (known_kind t) Kind.Int parts.1) (simple-has_value vars v t proper over parts.0)

kind-has_value : (a : Option PureValue) → HasValue a → HasValue (option_and_then (λ u. result_ok (unary UnOp.Kind u)) a)
kind-has_value a (w, is) = (kind (kind_of w), rw is refl)

kind_of_any-has_value : (vars : List Sort) (v : List PureValue) (s : PureTerm) → IsProper vars v → IsOver vars s → is_kind_of_any s ≡ true → HasValue (value v s)
kind_of_any-has_value vars v (unary_of UnOp.Kind t) proper over h =
    let (x, (is, sort)) = from_is_variable_of Sort.Any t h in
    let over_x : IsOver vars (variable x) = subst (IsOver vars) is over in
    kind-has_value (value v t) (subst (λ u. HasValue (value v u)) (sym is) (variable-has_value vars v x proper over_x))
kind_of_any-has_value vars v s proper over h = absurd (false≢true h)

kind_literal-has_value : (v : List PureValue) (t : PureTerm) → is_kind_literal t ≡ true → HasValue (value v t)
kind_literal-has_value v (literal l) h = (literal_value l, refl)
kind_literal-has_value v (variable x) h = absurd (false≢true h)
kind_literal-has_value v (list_of ts) h = absurd (false≢true h)
kind_literal-has_value v (unary_of op t) h = absurd (false≢true h)
kind_literal-has_value v (binary_of op s t) h = absurd (false≢true h)

module _ (vars : List Sort) (v : List PureValue) (proper : IsProper vars v) where
  of_variable : (t : PureTerm) → IsOver vars t → IsVariableOf Sort.Bool t → IsBoolean (value v t)
  of_variable t over (x, (is, sort)) =
      let over_x : IsOver vars (variable x) = subst (IsOver vars) is over in
      let whole : IsBoolean (value v (variable x)) = boolean-of_known vars v (variable x) proper over_x (ap kind_of_sort sort) (variable-has_value vars v x proper over_x) in
      subst (λ u. IsBoolean (value v u)) (sym is) whole

  of_equality : (t : PureTerm) → IsOver vars t → is_simple_equality t ≡ true → IsBoolean (value v t)
  of_equality (binary_of BinOp.Equal s t) over h =
      let parts = and_parts (is_simple s) (is_simple t) h in
      equal-boolean (value v s) (value v t)
      (simple-has_value vars v s proper (over_left vars (variables s) (variables t) over) parts.0)
      (simple-has_value vars v t proper (over_right vars (variables s) (variables t) over) parts.1)
  of_equality t over h = absurd (false≢true h)

  of_comparison : (t : PureTerm) → IsOver vars t → is_comparison t ≡ true → IsBoolean (value v t)
  of_comparison (binary_of op s t) over h =
      let first = and_parts (is_order op) (is_integer_side s && is_integer_side t) h in
      let sides = and_parts (is_integer_side s) (is_integer_side t) first.1 in
      order-boolean op (value v s) (value v t) first.0
      (side-integer vars v s proper (over_left vars (variables s) (variables t) over) sides.0)
      (side-integer vars v t proper (over_right vars (variables s) (variables t) over) sides.1)
  of_comparison (literal l) over h = absurd (false≢true h)
  of_comparison (variable x) over h = absurd (false≢true h)
  of_comparison (list_of ts) over h = absurd (false≢true h)
  of_comparison (unary_of op t) over h = absurd (false≢true h)

  of_kind_test : (t : PureTerm) → IsOver vars t → is_kind_test t ≡ true → IsBoolean (value v t)
  of_kind_test (binary_of BinOp.Equal s t) over h =
      let parts = and_parts (is_kind_of_any s) (is_kind_literal t) h in
      equal-boolean (value v s) (value v t)
      (kind_of_any-has_value vars v s proper (over_left vars (variables s) (variables t) over) parts.0)
      (kind_literal-has_value v t parts.1)
  of_kind_test t over h = absurd (false≢true h)

  pub form-boolean : (t : PureTerm) → IsOver vars t → has_form t ≡ true → IsBoolean (value v t)
  form-boolean t over h =
      ⊎_elim (λ is. of_variable t over (from_is_variable_of Sort.Bool t is))
      (λ rest. ⊎_elim (of_equality t over)
      (λ more. ⊎_elim (of_comparison t over) (of_kind_test t over) (or_cases (is_comparison t) (is_kind_test t) more))
      (or_cases (is_simple_equality t) (is_comparison t || is_kind_test t) rest))
      (or_cases (is_variable_of Sort.Bool t) (is_simple_equality t || (is_comparison t || is_kind_test t)) h)

  fragment_term-boolean : (t : PureTerm) → IsOver vars t → is_fragment_term t ≡ true → IsBoolean (value v t)
  fragment_term-boolean t over h = form-boolean t over (and_parts (has_form t) _ h).0

  pub atom-boolean : (a : PureAtom) → IsOver vars (term_of a) → has_fragment_form a ≡ true → IsBoolean (value v (term_of a))
  atom-boolean (positive t) over h = fragment_term-boolean t over h
  atom-boolean (negative t) over h = fragment_term-boolean t over h
  atom-boolean (opening t) over h = absurd (false≢true h)

pub fragment_terms_are_booleans : FragmentTermsAreBooleans
fragment_terms_are_booleans vars v a proper over h = atom-boolean vars v proper a over h
