-- What folding gives may stand in the place of the operator's term.
use Rattle.std.proofs.Common.{◌≡◌, inl, inr, ℕ, zero, suc, ◌<◌, ◌≤◌, ℤ, pos, negsuc, ◌+ℤ◌, ◌-ℤ◌, List, [], ◌∷◌, ◌++◌, Bool, true, false, ◌&&◌, cond, if◌then◌else◌, Option, Some, None, slice_get, refl, sym, ap, ◌∙◌, subst, arith}
use Rattle.std.specs.Option.{option_map, option_and_then}
use Rattle.std.specs.Result.{result_ok}
use Rattle.std.specs.List.{Contains}
use Rattle.std.proofs.lemmas.Bool.{false≢true, and_parts}
use Rattle.std.proofs.lemmas.Int.{ints}
use Rattle.std.proofs.lemmas.List.Elements.{Contains-append_left, Contains-append_right}
use Rattle.gil_values.specs.declared.operators.UnOp.{UnOp}
use Rattle.gil_values.specs.declared.operators.BinOp.{BinOp}
use Rattle.gil_values.specs.Operators.{unary, binary, element_or_fault}
use Rattle.gil_values.specs.Pure.{PureValue, integer, boolean, text, symbol, kind, procedure, list, from_list as list_elements, to_list as elements_of, to_list-from_list}
use Rattle.gil_values.proofs.OperatorSymbols.{none_contained}
use Rattle.pure_terms.specs.declared.literals.Literal.{Literal}
use Rattle.pure_terms.specs.declared.variables.Var.{Var}
use Rattle.pure_terms.specs.Folding.{literal_of, literal_or, term_or, computed_unary, computed_binary, are_both_not, folded_unary, joined_shift, element_term, folded_with_literal, folded_binary}
use Rattle.pure_terms.specs.Fragment.{is_shift, is_simple}
use Rattle.pure_terms.specs.Laws.{FoldingReplaces}
use Rattle.pure_terms.specs.Meaning.{literal_value, both, value, values}
use Rattle.pure_terms.specs.Numbers.{is_held}
use Rattle.pure_terms.specs.Pure.{PureTerm, literal, variable, list_of, unary_of, binary_of, PureTerms, no_terms, term_and, to_list, size, sizes, variables, variables_of_all}
use Rattle.pure_terms.specs.Rewriting.{NamesNoMore, Replaces}

-- under every valuation, proper or not
abbrev KeepsValues : PureTerm → PureTerm → Type 0
KeepsValues t u = (v : List PureValue) (w : PureValue) → value v t ≡ Some w → value v u ≡ Some w

same : (t : PureTerm) → Replaces t t
same t = record { value_kept = λ vars v w proper over is. is; no_more_names = λ x has. has; simple_stays = λ simple. simple; no_larger = inl refl }

smaller : (t u : PureTerm) → KeepsValues t u → NamesNoMore t u → (is_simple t ≡ true → is_simple u ≡ true) → size u < size t → Replaces t u
smaller t u keeps names simple less = record { value_kept = λ vars v w proper over is. keeps v w is; no_more_names = names; simple_stays = simple; no_larger = inr less }

-- ---- literals

literal_of-value : (w : PureValue) (l : Literal) → literal_of w ≡ Some l → literal_value l ≡ w
literal_of-value (integer n) l is = of_held (is_held n) is where
  of_held : (b : Bool) → cond b (Some (Literal.Int n)) None ≡ Some l → literal_value l ≡ integer n
  of_held true e = let e' : Literal.Int n ≡ l = cc in ap literal_value (sym e')
  of_held false e = cc
literal_of-value (boolean b) l is = let e : Literal.Bool b ≡ l = cc in ap literal_value (sym e)
literal_of-value (text cs) l is = let e : Literal.Str cs ≡ l = cc in ap literal_value (sym e)
literal_of-value (kind k) l is = let e : Literal.Kind k ≡ l = cc in ap literal_value (sym e)
literal_of-value (procedure name) l is = let e : Literal.Proc name ≡ l = cc in ap literal_value (sym e)
literal_of-value (symbol n) l is = cc
literal_of-value (list vs) l is = cc

computed-value : (o : Option PureValue) (l : Literal) → option_and_then literal_of o ≡ Some l → o ≡ Some (literal_value l)
computed-value (Some w) l is = ap Some (sym (literal_of-value w l is))
computed-value None l is = cc

no_names : (t : PureTerm) (l : Literal) → NamesNoMore t (literal l)
no_names t l x has = absurd (none_contained x has)

-- the term has no variables, more than one node, and the computed value
computed : (t : PureTerm) (r : Option PureValue) (o : Option Literal) → ((v : List PureValue) → value v t ≡ r) → option_and_then literal_of r ≡ o → 1 < size t → Replaces t (literal_or t o)
computed t r None same_value is less = same t
computed t r (Some l) same_value is less =
    smaller t (literal l)
    (λ v w has. sym (computed-value r l is) ∙ sym (same_value v) ∙ has)
    (no_names t l) (λ simple. refl) less

-- ---- operators of one operand

twice_not : (o : Option PureValue) (w : PureValue) → option_and_then (λ a. result_ok (unary UnOp.Not a)) (option_and_then (λ a. result_ok (unary UnOp.Not a)) o) ≡ Some w → o ≡ Some w
twice_not (Some (boolean true)) w is = is
twice_not (Some (boolean false)) w is = is
twice_not (Some (integer n)) w is = cc
twice_not (Some (text cs)) w is = cc
twice_not (Some (symbol n)) w is = cc
twice_not (Some (kind k)) w is = cc
twice_not (Some (procedure name)) w is = cc
twice_not (Some (list vs)) w is = cc
twice_not None w is = cc

without_not : (op inner : UnOp) (t : PureTerm) → Replaces (unary_of op (unary_of inner t)) (if are_both_not op inner then t else unary_of op (unary_of inner t))
without_not UnOp.Not UnOp.Not t =
    smaller (unary_of UnOp.Not (unary_of UnOp.Not t)) t (λ v w is. twice_not (value v t) w is) (λ x has. has) (λ simple. absurd (false≢true simple)) (omega arith)
without_not UnOp.Not UnOp.Neg t = same _
without_not UnOp.Not UnOp.Len t = same _
without_not UnOp.Not UnOp.Kind t = same _
without_not UnOp.Neg inner t = same _
without_not UnOp.Len inner t = same _
without_not UnOp.Kind inner t = same _

of_one : (op : UnOp) (t : PureTerm) → Replaces (unary_of op t) (folded_unary op t)
of_one op (literal l) = computed (unary_of op (literal l)) (result_ok (unary op (literal_value l))) (computed_unary op l) (λ v. refl) refl (omega arith)
of_one op (unary_of inner t) = without_not op inner t
of_one op (variable x) = same _
of_one op (list_of ts) = same _
of_one op (binary_of inner s t) = same _

-- ---- shifts

abbrev shifted_by : BinOp → ℤ → Option PureValue → Option PureValue
shifted_by op n o = option_and_then (λ a. result_ok (binary op a (integer n))) o

-- two shifts are one, at every value
abbrev JoinsTo : BinOp → ℤ → BinOp → ℤ → BinOp → ℤ → Type 0
JoinsTo inner m op n joined k = (o : Option PureValue) (w : PureValue) → shifted_by op n (shifted_by inner m o) ≡ Some w → shifted_by joined k o ≡ Some w

never_simple : (b c : Bool) → (b && (false && c)) ≡ true → ⊥
never_simple b c h = false≢true (and_parts b (false && c) h).1

names_left : (t : PureTerm) (x : Var) → Contains (variables t ++ []) x → Contains ((variables t ++ []) ++ []) x
names_left t x has = Contains-append_left (variables t ++ []) [] x has

shift-held : (b : Bool) (t : PureTerm) (inner op joined : BinOp) (m n k : ℤ) → JoinsTo inner m op n joined k
    → Replaces (binary_of op (binary_of inner t (literal (Literal.Int m))) (literal (Literal.Int n)))
    (term_or (binary_of op (binary_of inner t (literal (Literal.Int m))) (literal (Literal.Int n))) (if b then Some (binary_of joined t (literal (Literal.Int k))) else None))
shift-held false t inner op joined m n k joins = same _
shift-held true t inner op joined m n k joins =
    smaller (binary_of op (binary_of inner t (literal (Literal.Int m))) (literal (Literal.Int n))) (binary_of joined t (literal (Literal.Int k)))
    (λ v w is. joins (value v t) w is)
    (λ x has. names_left t x has)
    (λ simple. absurd (never_simple (is_shift op) true simple))
    (omega arith)

sum_joins : (a m n : ℤ) → a +ℤ (m +ℤ n) ≡ (a +ℤ m) +ℤ n
sum_joins a m n = omega (arith, ints)

back_joins : (a m n : ℤ) → a +ℤ (m -ℤ n) ≡ (a +ℤ m) -ℤ n
back_joins a m n = omega (arith, ints)

forth_joins : (a m n : ℤ) → a +ℤ (n -ℤ m) ≡ (a -ℤ m) +ℤ n
forth_joins a m n = omega (arith, ints)

both_back_join : (a m n : ℤ) → a -ℤ (m +ℤ n) ≡ (a -ℤ m) -ℤ n
both_back_join a m n = omega (arith, ints)

add_add : (m n : ℤ) → JoinsTo BinOp.Add m BinOp.Add n BinOp.Add (m +ℤ n)
add_add m n (Some (integer a)) w is = ap (λ z. Some (integer z)) (sum_joins a m n) ∙ is
add_add m n (Some (boolean b)) w is = cc
add_add m n (Some (text cs)) w is = cc
add_add m n (Some (symbol a)) w is = cc
add_add m n (Some (kind k)) w is = cc
add_add m n (Some (procedure name)) w is = cc
add_add m n (Some (list vs)) w is = cc
add_add m n None w is = cc

add_subtract : (m n : ℤ) → JoinsTo BinOp.Add m BinOp.Subtract n BinOp.Add (m -ℤ n)
add_subtract m n (Some (integer a)) w is = ap (λ z. Some (integer z)) (back_joins a m n) ∙ is
add_subtract m n (Some (boolean b)) w is = cc
add_subtract m n (Some (text cs)) w is = cc
add_subtract m n (Some (symbol a)) w is = cc
add_subtract m n (Some (kind k)) w is = cc
add_subtract m n (Some (procedure name)) w is = cc
add_subtract m n (Some (list vs)) w is = cc
add_subtract m n None w is = cc

subtract_add : (m n : ℤ) → JoinsTo BinOp.Subtract m BinOp.Add n BinOp.Add (n -ℤ m)
subtract_add m n (Some (integer a)) w is = ap (λ z. Some (integer z)) (forth_joins a m n) ∙ is
subtract_add m n (Some (boolean b)) w is = cc
subtract_add m n (Some (text cs)) w is = cc
subtract_add m n (Some (symbol a)) w is = cc
subtract_add m n (Some (kind k)) w is = cc
subtract_add m n (Some (procedure name)) w is = cc
subtract_add m n (Some (list vs)) w is = cc
subtract_add m n None w is = cc

subtract_subtract : (m n : ℤ) → JoinsTo BinOp.Subtract m BinOp.Subtract n BinOp.Subtract (m +ℤ n)
subtract_subtract m n (Some (integer a)) w is = ap (λ z. Some (integer z)) (both_back_join a m n) ∙ is
subtract_subtract m n (Some (boolean b)) w is = cc
subtract_subtract m n (Some (text cs)) w is = cc
subtract_subtract m n (Some (symbol a)) w is = cc
subtract_subtract m n (Some (kind k)) w is = cc
subtract_subtract m n (Some (procedure name)) w is = cc
subtract_subtract m n (Some (list vs)) w is = cc
subtract_subtract m n None w is = cc

joined-replaces : (t : PureTerm) (inner : BinOp) (m : ℤ) (op : BinOp) (n : ℤ)
    → Replaces (binary_of op (binary_of inner t (literal (Literal.Int m))) (literal (Literal.Int n)))
    (term_or (binary_of op (binary_of inner t (literal (Literal.Int m))) (literal (Literal.Int n))) (joined_shift t inner m op n))
joined-replaces t BinOp.Add m BinOp.Add n = shift-held (is_held (m +ℤ n)) t BinOp.Add BinOp.Add BinOp.Add m n (m +ℤ n) (add_add m n)
joined-replaces t BinOp.Add m BinOp.Subtract n = shift-held (is_held (m -ℤ n)) t BinOp.Add BinOp.Subtract BinOp.Add m n (m -ℤ n) (add_subtract m n)
joined-replaces t BinOp.Subtract m BinOp.Add n = shift-held (is_held (n -ℤ m)) t BinOp.Subtract BinOp.Add BinOp.Add m n (n -ℤ m) (subtract_add m n)
joined-replaces t BinOp.Subtract m BinOp.Subtract n = shift-held (is_held (m +ℤ n)) t BinOp.Subtract BinOp.Subtract BinOp.Subtract m n (m +ℤ n) (subtract_subtract m n)
joined-replaces t inner m op n = same _

-- ---- elements of list terms

-- a list with a value has one for each element
abbrev AreBoth : Option PureValue → Option (List PureValue) → List PureValue → Type 0
AreBoth a b ws = (w : PureValue) × ((rest : List PureValue) × ((a ≡ Some w) × (b ≡ Some rest) × (ws ≡ w ∷ rest)))

from_both : (a : Option PureValue) (b : Option (List PureValue)) (ws : List PureValue) → both a b ≡ Some ws → AreBoth a b ws
from_both (Some w) (Some rest) ws is = (w, (rest, (refl, refl, cc)))
from_both (Some w) None ws is = cc
from_both None b ws is = cc

element-value : (v : List PureValue) (ts : PureTerms) (ws : List PureValue) (i : ℕ) (t : PureTerm) → values v ts ≡ Some ws → slice_get (to_list ts) i ≡ Some t → slice_get ws i ≡ value v t
element-value v no_terms ws i t all is = cc
element-value v (term_and u us) ws zero t all is =
    let (w, (rest, (first, more, whole))) = from_both (value v u) (values v us) ws all in
    let here : u ≡ t = cc in
    ap (λ xs. slice_get xs 0) whole ∙ sym first ∙ ap (value v) here
element-value v (term_and u us) ws (suc i) t all is =
    let (w, (rest, (first, more, whole))) = from_both (value v u) (values v us) ws all in
    ap (λ xs. slice_get xs (suc i)) whole ∙ element-value v us rest i t more is

element-names : (ts : PureTerms) (i : ℕ) (t : PureTerm) (x : Var) → slice_get (to_list ts) i ≡ Some t → Contains (variables t) x → Contains (variables_of_all ts) x
element-names no_terms i t x is has = cc
element-names (term_and u us) zero t x is has =
    let here : t ≡ u = cc in
    Contains-append_left (variables u) (variables_of_all us) x (subst (λ s. Contains (variables s) x) here has)
element-names (term_and u us) (suc i) t x is has = Contains-append_right (variables u) (variables_of_all us) x (element-names us i t x is has)

element-size : (ts : PureTerms) (i : ℕ) (t : PureTerm) → slice_get (to_list ts) i ≡ Some t → size t ≤ sizes ts
element-size no_terms i t is = cc
element-size (term_and u us) zero t is = let here : size t ≡ size u = (let e : t ≡ u = cc in ap size e) in omega (arith, here)
element-size (term_and u us) (suc i) t is = let rest : size t ≤ sizes us = element-size us i t is in omega (arith, rest)

of_fault : (o : Option PureValue) (w : PureValue) → result_ok (element_or_fault o) ≡ Some w → o ≡ Some w
of_fault (Some u) w is = is
of_fault None w is = cc

nth-value : (v : List PureValue) (ts : PureTerms) (i : ℕ) (t : PureTerm) (o : Option (List PureValue)) (w : PureValue) → values v ts ≡ o → slice_get (to_list ts) i ≡ Some t
    → option_and_then (λ a. result_ok (binary BinOp.Nth a (integer (pos i)))) (option_map (λ ws. list (list_elements ws)) o) ≡ Some w → value v t ≡ Some w
nth-value v ts i t None w all at is = cc
nth-value v ts i t (Some ws) w all at is =
    let found : slice_get (elements_of (list_elements ws)) i ≡ Some w = of_fault _ w is in
    sym (element-value v ts ws i t all at) ∙ ap (λ us. slice_get us i) (sym (to_list-from_list ws)) ∙ found

abbrev nth_of : PureTerms → ℤ → PureTerm
nth_of ts i = binary_of BinOp.Nth (list_of ts) (literal (Literal.Int i))

element-replaces : (ts : PureTerms) (i : ℕ) (o : Option PureTerm) → slice_get (to_list ts) i ≡ o → Replaces (nth_of ts (pos i)) (term_or (nth_of ts (pos i)) o)
element-replaces ts i None at = same _
element-replaces ts i (Some t) at =
    smaller (nth_of ts (pos i)) t
    (λ v w is. nth-value v ts i t (values v ts) w refl at is)
    (λ x has. Contains-append_left (variables_of_all ts) [] x (element-names ts i t x at has))
    (λ simple. absurd (false≢true simple))
    (let le : size t ≤ sizes ts = element-size ts i t at in omega (arith, le))

nth-replaces : (ts : PureTerms) (i : ℤ) → Replaces (nth_of ts i) (term_or (nth_of ts i) (element_term ts i))
nth-replaces ts (pos i) = element-replaces ts i (slice_get (to_list ts) i) refl
nth-replaces ts (negsuc i) = same _

list-replaces : (op : BinOp) (ts : PureTerms) (i : ℤ) → Replaces (binary_of op (list_of ts) (literal (Literal.Int i))) (folded_with_literal op (list_of ts) (Literal.Int i))
list-replaces BinOp.Nth ts i = nth-replaces ts i
list-replaces op ts i = same _

-- ---- operators of two operands

with_literal : (op : BinOp) (s : PureTerm) (l : Literal) → Replaces (binary_of op s (literal l)) (folded_with_literal op s l)
with_literal op (literal k) l = computed (binary_of op (literal k) (literal l)) (result_ok (binary op (literal_value k) (literal_value l))) (computed_binary op k l) (λ v. refl) refl (omega arith)
with_literal op (binary_of inner t (literal (Literal.Int m))) (Literal.Int n) = joined-replaces t inner m op n
with_literal op (list_of ts) (Literal.Int i) = list-replaces op ts i
with_literal op s l = same _

of_two : (op : BinOp) (s t : PureTerm) → Replaces (binary_of op s t) (folded_binary op s t)
of_two op s (literal l) = with_literal op s l
of_two op s t = same _

pub folding_replaces : FoldingReplaces
folding_replaces = record { of_one = of_one; of_two = of_two }
