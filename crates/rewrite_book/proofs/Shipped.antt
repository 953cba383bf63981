-- The answers of the shipped rules may stand in the place of the terms.
use Rattle.std.proofs.Common.{◌≡◌, ℕ, zero, suc, ◌<◌, ◌≤◌, ℤ, pos, negsuc, ◌+ℤ◌, ◌-ℤ◌, ◌*ℤ◌, neg_ℤ, List, [], length, Bool, true, false, ◌&&◌, if◌then◌else◌, cond, Option, Some, None, Result, Ok, Err, IfOk, slice_get, refl, sym, ap, ◌∙◌, subst, arith}
use Rattle.std.specs.declared.alloc.AllocError.{AllocError}
use Rattle.std.specs.Option.{option_map, option_and_then}
use Rattle.std.specs.Result.{result_ok}
use Rattle.std.proofs.lemmas.Bool.{false≢true, and_parts}
use Rattle.std.proofs.lemmas.Int.{ints}
use Rattle.std.proofs.lemmas.Option.{same_Some}
use Rattle.std.proofs.lemmas.List.Elements.{Contains-append_left, Contains-append_right}
use Rattle.gil_values.specs.declared.operators.UnOp.{UnOp}
use Rattle.gil_values.specs.declared.operators.BinOp.{BinOp}
use Rattle.gil_values.specs.EqualityLaws.{same_value-refl}
use Rattle.gil_values.specs.Operators.{unary, binary}
use Rattle.gil_values.specs.Pure.{PureValue, integer, boolean, list, from_list as list_elements, to_list-from_list}
use Rattle.gil_values.proofs.OperatorSymbols.{none_contained}
use Rattle.pure_terms.specs.declared.literals.Literal.{Literal}
use Rattle.pure_terms.specs.declared.terms.Term.{Term}
use Rattle.pure_terms.specs.declared.variables.Sort.{Sort}
use Rattle.pure_terms.specs.Equality.{same_term, same_unary}
use Rattle.pure_terms.specs.EqualityLaws.{same_term-same}
use Rattle.pure_terms.specs.Folding.{element_term, term_or}
use Rattle.pure_terms.specs.Fragment.{is_shift, is_variable_of, is_integer_literal, is_simple}
use Rattle.pure_terms.specs.Meaning.{both, value, values}
use Rattle.pure_terms.specs.Pure.{PureTerm, literal, variable, list_of, unary_of, binary_of, PureTerms, no_terms, term_and, to_list, size, sizes, variables}
use Rattle.pure_terms.specs.Rewriting.{NamesNoMore, Replaces}
use Rattle.pure_terms.specs.View.{term_view}
use Rattle.rewrite_book.specs.Answers.{Simplifies, AnswersWell, AnswersNoTerm}
use Rattle.rewrite_book.specs.declared.rules.Head.{Head}
use Rattle.rewrite_book.specs.declared.shipped_rules.ShippedRule.{ShippedRule}
use Rattle.rewrite_book.specs.declared.shipped_rules.ShippedRule.TheVariants.{PlusZero, MinusZero, TimesZero, TimesOne, NotNot, NegNeg, SameEqual, LenList, NthList}
use Rattle.rewrite_book.specs.Heads.{is_headed}
use Rattle.rewrite_book.specs.ShippedRules.{answer_of, head_of}
use Rattle.rewrite_book.specs.Forms.{number, left_of, other_of, of_operands, of_twice, plus_zero, minus_zero, times_zero, times_one, not_not, neg_neg, same_equal, len_list, nth_list}
use Rattle.rewrite_book.proofs.Congruence.{names-tests}

-- an answer of this form answers well, where that form simplifies
pub answers_well : (t : Term) (r : Result (Option Term) AllocError) (form : PureTerm → Option PureTerm)
    → ((s u : PureTerm) → form s ≡ Some u → Simplifies s u)
    → IfOk r (λ o. option_map term_view o ≡ form (term_view t)) → AnswersWell t r
answers_well t (Ok (Some u)) form simplifies is = simplifies (term_view t) (term_view u) (sym is)
answers_well t (Ok None) form simplifies is = tt
answers_well t (Err e) form simplifies is = tt

simplifies_by : (t u : PureTerm) → ((v : List PureValue) (w : PureValue) → value v t ≡ Some w → value v u ≡ Some w)
    → NamesNoMore t u → (is_simple t ≡ true → is_simple u ≡ true) → size u < size t → Simplifies t u
simplifies_by t u keeps names simple less =
    record { value_kept = λ vars v w proper over is. keeps v w is; fewer_nodes = less; no_more_names = names-tests t u names; simple_stays = simple }

-- ---- operands beside a number

abbrev two : BinOp → Option PureValue → Option PureValue → Option PureValue
two op a b = option_and_then (λ x. option_and_then (λ y. result_ok (binary op x y)) b) a

variable-simple : (s : PureTerm) → is_variable_of Sort.Int s ≡ true → is_simple s ≡ true
variable-simple (variable x) is = refl
variable-simple s is = absurd (false≢true is)

left-simple : (op : BinOp) (s : PureTerm) (n : ℤ) → is_simple (binary_of op s (number n)) ≡ true → is_simple s ≡ true
left-simple op s n simple =
    let parts = and_parts (is_shift op) (is_variable_of Sort.Int s && true) simple in
    variable-simple s (and_parts (is_variable_of Sort.Int s) true parts.1).0

-- the number on the right leaves each value as it is
abbrev LeavesLeft : BinOp → ℤ → Type 0
LeavesLeft op n = (a w : PureValue) → result_ok (binary op a (integer n)) ≡ Some w → a ≡ w

abbrev LeavesRight : BinOp → ℤ → Type 0
LeavesRight op n = (b w : PureValue) → result_ok (binary op (integer n) b) ≡ Some w → b ≡ w

left_kept : (op : BinOp) (n : ℤ) → LeavesLeft op n → (o : Option PureValue) (w : PureValue) → two op o (Some (integer n)) ≡ Some w → o ≡ Some w
left_kept op n leaves (Some a) w is = ap Some (leaves a w is)
left_kept op n leaves None w is = cc

right_kept : (op : BinOp) (n : ℤ) → LeavesRight op n → (o : Option PureValue) (w : PureValue) → two op (Some (integer n)) o ≡ Some w → o ≡ Some w
right_kept op n leaves (Some b) w is = ap Some (leaves b w is)
right_kept op n leaves None w is = cc

to_left : (op : BinOp) (n : ℤ) (s : PureTerm) → LeavesLeft op n → Simplifies (binary_of op s (number n)) s
to_left op n s leaves =
    simplifies_by (binary_of op s (number n)) s
    (λ v w is. left_kept op n leaves (value v s) w is)
    (λ x has. Contains-append_left (variables s) [] x has)
    (left-simple op s n) (omega arith)

never_simple : (b c : Bool) → (b && (false && c)) ≡ true → ⊥
never_simple b c h = false≢true (and_parts b (false && c) h).1

to_right : (op : BinOp) (n : ℤ) (t : PureTerm) → LeavesRight op n → Simplifies (binary_of op (number n) t) t
to_right op n t leaves =
    simplifies_by (binary_of op (number n) t) t
    (λ v w is. right_kept op n leaves (value v t) w is)
    (λ x has. Contains-append_right [] (variables t) x has)
    (λ simple. absurd (never_simple (is_shift op) (is_integer_literal t) simple)) (omega arith)

left-by : (op : BinOp) (n : ℤ) → LeavesLeft op n → (s t u : PureTerm) (b : Bool) → same_term t (number n) ≡ b → cond b (Some s) None ≡ Some u → Simplifies (binary_of op s t) u
left-by op n leaves s t u true here is =
    subst (Simplifies (binary_of op s t)) (same_Some s u is)
    (subst (λ r. Simplifies (binary_of op s r) s) (sym (same_term-same t (number n) here)) (to_left op n s leaves))
left-by op n leaves s t u false here is = cc

right-by : (op : BinOp) (n : ℤ) → LeavesRight op n → (s t u : PureTerm) (b : Bool) → same_term s (number n) ≡ b → cond b (Some t) None ≡ Some u → Simplifies (binary_of op s t) u
right-by op n leaves s t u true here is =
    subst (Simplifies (binary_of op s t)) (same_Some t u is)
    (subst (λ r. Simplifies (binary_of op r t) t) (sym (same_term-same s (number n) here)) (to_right op n t leaves))
right-by op n leaves s t u false here is = cc

other-by : (op : BinOp) (n : ℤ) → LeavesLeft op n → LeavesRight op n → (s t u : PureTerm) (b : Bool) → same_term t (number n) ≡ b → cond b (Some s) (left_of n t s) ≡ Some u → Simplifies (binary_of op s t) u
other-by op n leaves more s t u true here is = left-by op n leaves s t u true here is
other-by op n leaves more s t u false here is = right-by op n more s t u (same_term s (number n)) refl is

-- what is made of the operands of one operator simplifies, where it does so at that operator
of_sum : (f : PureTerm → PureTerm → Option PureTerm) → ((s t u : PureTerm) → f s t ≡ Some u → Simplifies (binary_of BinOp.Add s t) u)
    → (t u : PureTerm) → of_operands BinOp.Add f t ≡ Some u → Simplifies t u
of_sum f h (binary_of BinOp.Add s t) u is = h s t u is
of_sum f h t u is = cc

of_difference : (f : PureTerm → PureTerm → Option PureTerm) → ((s t u : PureTerm) → f s t ≡ Some u → Simplifies (binary_of BinOp.Subtract s t) u)
    → (t u : PureTerm) → of_operands BinOp.Subtract f t ≡ Some u → Simplifies t u
of_difference f h (binary_of BinOp.Subtract s t) u is = h s t u is
of_difference f h t u is = cc

of_product : (f : PureTerm → PureTerm → Option PureTerm) → ((s t u : PureTerm) → f s t ≡ Some u → Simplifies (binary_of BinOp.Multiply s t) u)
    → (t u : PureTerm) → of_operands BinOp.Multiply f t ≡ Some u → Simplifies t u
of_product f h (binary_of BinOp.Multiply s t) u is = h s t u is
of_product f h t u is = cc

of_equality : (f : PureTerm → PureTerm → Option PureTerm) → ((s t u : PureTerm) → f s t ≡ Some u → Simplifies (binary_of BinOp.Equal s t) u)
    → (t u : PureTerm) → of_operands BinOp.Equal f t ≡ Some u → Simplifies t u
of_equality f h (binary_of BinOp.Equal s t) u is = h s t u is
of_equality f h t u is = cc

-- ---- sums and differences with 0, products with 1

plus_zero_left : (m : ℤ) → m ≡ m +ℤ pos 0
plus_zero_left m = omega (arith, ints)

plus_zero_right : (m : ℤ) → m ≡ pos 0 +ℤ m
plus_zero_right m = omega (arith, ints)

minus_zero_left : (m : ℤ) → m ≡ m -ℤ pos 0
minus_zero_left m = omega (arith, ints)

times_one_left : (m : ℤ) → m ≡ m *ℤ pos 1
times_one_left m = omega (arith, ints)

times_one_right : (m : ℤ) → m ≡ pos 1 *ℤ m
times_one_right m = omega (arith, ints)

sum_leaves_left : LeavesLeft BinOp.Add (pos 0)
sum_leaves_left (integer m) w is = ap integer (plus_zero_left m) ∙ same_Some _ _ is
sum_leaves_left a w is = cc

sum_leaves_right : LeavesRight BinOp.Add (pos 0)
sum_leaves_right (integer m) w is = ap integer (plus_zero_right m) ∙ same_Some _ _ is
sum_leaves_right b w is = cc

difference_leaves_left : LeavesLeft BinOp.Subtract (pos 0)
difference_leaves_left (integer m) w is = ap integer (minus_zero_left m) ∙ same_Some _ _ is
difference_leaves_left a w is = cc

product_leaves_left : LeavesLeft BinOp.Multiply (pos 1)
product_leaves_left (integer m) w is = ap integer (times_one_left m) ∙ same_Some _ _ is
product_leaves_left a w is = cc

product_leaves_right : LeavesRight BinOp.Multiply (pos 1)
product_leaves_right (integer m) w is = ap integer (times_one_right m) ∙ same_Some _ _ is
product_leaves_right b w is = cc

pub plus_zero_simplifies : (t u : PureTerm) → plus_zero t ≡ Some u → Simplifies t u
plus_zero_simplifies = of_sum (other_of (pos 0)) (λ s t u is. other-by BinOp.Add (pos 0) sum_leaves_left sum_leaves_right s t u (same_term t (number (pos 0))) refl is)

pub minus_zero_simplifies : (t u : PureTerm) → minus_zero t ≡ Some u → Simplifies t u
minus_zero_simplifies = of_difference (left_of (pos 0)) (λ s t u is. left-by BinOp.Subtract (pos 0) difference_leaves_left s t u (same_term t (number (pos 0))) refl is)

pub times_one_simplifies : (t u : PureTerm) → times_one t ≡ Some u → Simplifies t u
times_one_simplifies = of_product (other_of (pos 1)) (λ s t u is. other-by BinOp.Multiply (pos 1) product_leaves_left product_leaves_right s t u (same_term t (number (pos 1))) refl is)

-- ---- products with 0

times_zero_left : (m : ℤ) → pos 0 ≡ m *ℤ pos 0
times_zero_left m = omega (arith, ints)

times_zero_right : (m : ℤ) → pos 0 ≡ pos 0 *ℤ m
times_zero_right m = omega (arith, ints)

zero_on_right : (o : Option PureValue) (w : PureValue) → two BinOp.Multiply o (Some (integer (pos 0))) ≡ Some w → Some (integer (pos 0)) ≡ Some w
zero_on_right (Some (integer m)) w is = ap (λ n. Some (integer n)) (times_zero_left m) ∙ is
zero_on_right (Some a) w is = cc
zero_on_right None w is = cc

zero_on_left : (o : Option PureValue) (w : PureValue) → two BinOp.Multiply (Some (integer (pos 0))) o ≡ Some w → Some (integer (pos 0)) ≡ Some w
zero_on_left (Some (integer m)) w is = ap (λ n. Some (integer n)) (times_zero_right m) ∙ is
zero_on_left (Some b) w is = cc
zero_on_left None w is = cc

size-positive : (t : PureTerm) → 0 < size t
size-positive (literal l) = omega arith
size-positive (variable x) = omega arith
size-positive (list_of ts) = omega arith
size-positive (unary_of op t) = omega arith
size-positive (binary_of op s t) = omega arith

to_zero : (s t : PureTerm) → ((v : List PureValue) (w : PureValue) → value v (binary_of BinOp.Multiply s t) ≡ Some w → Some (integer (pos 0)) ≡ Some w)
    → Simplifies (binary_of BinOp.Multiply s t) (number (pos 0))
to_zero s t keeps =
    let positive = size-positive s in
    simplifies_by (binary_of BinOp.Multiply s t) (number (pos 0)) keeps (λ x has. absurd (none_contained x has)) (λ simple. refl) (omega (arith, positive))

zero-left-by : (s t u : PureTerm) (b : Bool) → same_term s (number (pos 0)) ≡ b → option_map (λ _. number (pos 0)) (cond b (Some t) None) ≡ Some u → Simplifies (binary_of BinOp.Multiply s t) u
zero-left-by s t u true here is =
    subst (Simplifies (binary_of BinOp.Multiply s t)) (same_Some (number (pos 0)) u is)
    (subst (λ r. Simplifies (binary_of BinOp.Multiply r t) (number (pos 0))) (sym (same_term-same s (number (pos 0)) here))
    (to_zero (number (pos 0)) t (λ v w has. zero_on_left (value v t) w has)))
zero-left-by s t u false here is = cc

zero-by : (s t u : PureTerm) (b : Bool) → same_term t (number (pos 0)) ≡ b → option_map (λ _. number (pos 0)) (cond b (Some s) (left_of (pos 0) t s)) ≡ Some u → Simplifies (binary_of BinOp.Multiply s t) u
zero-by s t u true here is =
    subst (Simplifies (binary_of BinOp.Multiply s t)) (same_Some (number (pos 0)) u is)
    (subst (λ r. Simplifies (binary_of BinOp.Multiply s r) (number (pos 0))) (sym (same_term-same t (number (pos 0)) here))
    (to_zero s (number (pos 0)) (λ v w has. zero_on_right (value v s) w has)))
zero-by s t u false here is = zero-left-by s t u (same_term s (number (pos 0))) refl is

pub times_zero_simplifies : (t u : PureTerm) → times_zero t ≡ Some u → Simplifies t u
times_zero_simplifies =
    of_product (λ s t. option_map (λ _. number (pos 0)) (other_of (pos 0) s t)) (λ s t u is. zero-by s t u (same_term t (number (pos 0))) refl is)

-- ---- operators that stand twice

abbrev one : UnOp → Option PureValue → Option PureValue
one op o = option_and_then (λ a. result_ok (unary op a)) o

twice_not : (o : Option PureValue) (w : PureValue) → one UnOp.Not (one UnOp.Not o) ≡ Some w → o ≡ Some w
twice_not (Some (boolean true)) w is = is
twice_not (Some (boolean false)) w is = is
twice_not (Some a) w is = cc
twice_not None w is = cc

opposite_twice : (m : ℤ) → m ≡ neg_ℤ (neg_ℤ m)
opposite_twice (pos zero) = refl
opposite_twice (pos (suc n)) = refl
opposite_twice (negsuc n) = refl

twice_neg : (o : Option PureValue) (w : PureValue) → one UnOp.Neg (one UnOp.Neg o) ≡ Some w → o ≡ Some w
twice_neg (Some (integer m)) w is = ap (λ n. Some (integer n)) (opposite_twice m) ∙ is
twice_neg (Some a) w is = cc
twice_neg None w is = cc

within : (op : UnOp) (t : PureTerm) → ((o : Option PureValue) (w : PureValue) → one op (one op o) ≡ Some w → o ≡ Some w) → Simplifies (unary_of op (unary_of op t)) t
within op t keeps =
    simplifies_by (unary_of op (unary_of op t)) t (λ v w is. keeps (value v t) w is) (λ x has. has) (λ simple. absurd (false≢true simple)) (omega arith)

pub not_not_simplifies : (t u : PureTerm) → not_not t ≡ Some u → Simplifies t u
not_not_simplifies (unary_of UnOp.Not (unary_of UnOp.Not t)) u is = subst (Simplifies (unary_of UnOp.Not (unary_of UnOp.Not t))) (same_Some t u is) (within UnOp.Not t twice_not)
not_not_simplifies (unary_of UnOp.Not (unary_of inner t)) u is = cc
not_not_simplifies (unary_of op (unary_of inner t)) u is = cc
not_not_simplifies t u is = cc

pub neg_neg_simplifies : (t u : PureTerm) → neg_neg t ≡ Some u → Simplifies t u
neg_neg_simplifies (unary_of UnOp.Neg (unary_of UnOp.Neg t)) u is = subst (Simplifies (unary_of UnOp.Neg (unary_of UnOp.Neg t))) (same_Some t u is) (within UnOp.Neg t twice_neg)
neg_neg_simplifies (unary_of UnOp.Neg (unary_of inner t)) u is = cc
neg_neg_simplifies (unary_of op (unary_of inner t)) u is = cc
neg_neg_simplifies t u is = cc

-- ---- equalities

abbrev truth : PureTerm
truth = literal (Literal.Bool true)

equal_to_itself : (o : Option PureValue) (w : PureValue) → two BinOp.Equal o o ≡ Some w → Some (boolean true) ≡ Some w
equal_to_itself (Some a) w is = ap (λ b. Some (boolean b)) (sym (same_value-refl a)) ∙ is
equal_to_itself None w is = cc

itself : (t : PureTerm) → Simplifies (binary_of BinOp.Equal t t) truth
itself t =
    let positive = size-positive t in
    simplifies_by (binary_of BinOp.Equal t t) truth (λ v w is. equal_to_itself (value v t) w is) (λ x has. absurd (none_contained x has)) (λ simple. refl) (omega (arith, positive))

equal-by : (s t u : PureTerm) (b : Bool) → same_term s t ≡ b → cond b (Some truth) None ≡ Some u → Simplifies (binary_of BinOp.Equal s t) u
equal-by s t u true same is =
    subst (Simplifies (binary_of BinOp.Equal s t)) (same_Some truth u is) (subst (λ r. Simplifies (binary_of BinOp.Equal s r) truth) (same_term-same s t same) (itself s))
equal-by s t u false same is = cc

pub same_equal_simplifies : (t u : PureTerm) → same_equal t ≡ Some u → Simplifies t u
same_equal_simplifies = of_equality (λ s t. if same_term s t then Some truth else None) (λ s t u is. equal-by s t u (same_term s t) refl is)

-- ---- lists

-- a list term has as many values as elements
values-length : (v : List PureValue) (ts : PureTerms) (ws : List PureValue) → values v ts ≡ Some ws → length (to_list ts) ≡ length ws
values-length v no_terms ws is = ap length (same_Some _ _ is)
values-length v (term_and t ts) ws is = by (value v t) (values v ts) (λ us e. values-length v ts us e) is where
  by : (a : Option PureValue) (b : Option (List PureValue)) → ((us : List PureValue) → b ≡ Some us → length (to_list ts) ≡ length us) → both a b ≡ Some ws → suc (length (to_list ts)) ≡ length ws
  by (Some x) (Some us) rest e = ap suc (rest us refl) ∙ ap length (same_Some _ _ e)
  by (Some x) None rest e = cc
  by None b rest e = cc

length-kept : (v : List PureValue) (ts : PureTerms) (o : Option (List PureValue)) (w : PureValue) → values v ts ≡ o
    → one UnOp.Len (option_map (λ ws. list (list_elements ws)) o) ≡ Some w → Some (integer (pos (length (to_list ts)))) ≡ Some w
length-kept v ts (Some ws) w all is =
    ap (λ n. Some (integer (pos n))) (values-length v ts ws all ∙ ap length (sym (to_list-from_list ws))) ∙ is
length-kept v ts None w all is = cc

counted : (ts : PureTerms) → Simplifies (unary_of UnOp.Len (list_of ts)) (number (pos (length (to_list ts))))
counted ts =
    simplifies_by (unary_of UnOp.Len (list_of ts)) (number (pos (length (to_list ts))))
    (λ v w is. length-kept v ts (values v ts) w refl is) (λ x has. absurd (none_contained x has)) (λ simple. refl) (omega arith)

pub len_list_simplifies : (t u : PureTerm) → len_list t ≡ Some u → Simplifies t u
len_list_simplifies (unary_of UnOp.Len (list_of ts)) u is = subst (Simplifies (unary_of UnOp.Len (list_of ts))) (same_Some _ u is) (counted ts)
len_list_simplifies t u is = cc

element-size : (ts : PureTerms) (i : ℕ) (t : PureTerm) → slice_get (to_list ts) i ≡ Some t → size t ≤ sizes ts
element-size no_terms i t is = cc
element-size (term_and u us) zero t is = let here : size t ≡ size u = (let e : t ≡ u = cc in ap size e) in omega (arith, here)
element-size (term_and u us) (suc i) t is = let rest : size t ≤ sizes us = element-size us i t is in omega (arith, rest)

term-size : (ts : PureTerms) (i : ℤ) (t : PureTerm) → element_term ts i ≡ Some t → size t ≤ sizes ts
term-size ts (pos i) t is = element-size ts i t is
term-size ts (negsuc i) t is = cc

abbrev nth_of : PureTerms → ℤ → PureTerm
nth_of ts i = binary_of BinOp.Nth (list_of ts) (literal (Literal.Int i))

element-simplifies : (ts : PureTerms) (i : ℤ) (u : PureTerm) → Replaces (nth_of ts i) (term_or (nth_of ts i) (element_term ts i)) → element_term ts i ≡ Some u → Simplifies (nth_of ts i) u
element-simplifies ts i u replaces is =
    let h : Replaces (nth_of ts i) u = subst (λ o. Replaces (nth_of ts i) (term_or (nth_of ts i) o)) is replaces in
    let small : size u ≤ sizes ts = term-size ts i u is in
    record { value_kept = h.value_kept; fewer_nodes = omega (arith, small); no_more_names = names-tests (nth_of ts i) u h.no_more_names; simple_stays = h.simple_stays }

pub nth_list_simplifies : ((ts : PureTerms) (i : ℤ) → Replaces (nth_of ts i) (term_or (nth_of ts i) (element_term ts i))) → (t u : PureTerm) → nth_list t ≡ Some u → Simplifies t u
nth_list_simplifies law (binary_of BinOp.Nth (list_of ts) (literal (Literal.Int i))) u is = element-simplifies ts i u (law ts i) is
nth_list_simplifies law t u is = cc

-- ---- terms with another head

no_term : {X : Type 0} (x : X) → Some x ≡ None → ⊥
no_term x is = cc

-- an answer of this form is no term, where that form answers none
pub answers_no_term : (t : Term) (r : Result (Option Term) AllocError) (form : PureTerm → Option PureTerm)
    → form (term_view t) ≡ None → IfOk r (λ o. option_map term_view o ≡ form (term_view t)) → AnswersNoTerm r
answers_no_term t (Ok (Some u)) form none is = absurd (no_term (term_view u) (is ∙ none))
answers_no_term t (Ok None) form none is = refl
answers_no_term t (Err e) form none is = tt

operands-headed : (op : BinOp) (f : PureTerm → PureTerm → Option PureTerm) (t : PureTerm) → is_headed (Head.Op2 op) t ≡ false → of_operands op f t ≡ None
operands-headed op f (binary_of other s t) not = ap (λ b. cond b (f s t) None) not
operands-headed op f (literal l) not = refl
operands-headed op f (variable x) not = refl
operands-headed op f (list_of ts) not = refl
operands-headed op f (unary_of other t) not = refl

twice-headed : (op : UnOp) (t : PureTerm) → is_headed (Head.Op1 op) t ≡ false → of_twice op t ≡ None
twice-headed op (unary_of outer (unary_of inner t)) not = ap (λ b. cond (b && same_unary op inner) (Some t) None) not
twice-headed op (unary_of outer (literal l)) not = refl
twice-headed op (unary_of outer (variable x)) not = refl
twice-headed op (unary_of outer (list_of ts)) not = refl
twice-headed op (unary_of outer (binary_of other s t)) not = refl
twice-headed op (literal l) not = refl
twice-headed op (variable x) not = refl
twice-headed op (list_of ts) not = refl
twice-headed op (binary_of other s t) not = refl

len-headed : (t : PureTerm) → is_headed (Head.Op1 UnOp.Len) t ≡ false → len_list t ≡ None
len-headed (unary_of UnOp.Len (list_of ts)) not = absurd (false≢true (sym not))
len-headed t not = refl

nth-headed : (t : PureTerm) → is_headed (Head.Op2 BinOp.Nth) t ≡ false → nth_list t ≡ None
nth-headed (binary_of BinOp.Nth (list_of ts) (literal (Literal.Int i))) not = absurd (false≢true (sym not))
nth-headed t not = refl

-- a shipped rule answers no term that hasn't its head
pub other_heads : (rule : ShippedRule) (t : PureTerm) → is_headed (head_of rule) t ≡ false → answer_of rule t ≡ None
other_heads PlusZero t not = operands-headed BinOp.Add (other_of (pos 0)) t not
other_heads MinusZero t not = operands-headed BinOp.Subtract (left_of (pos 0)) t not
other_heads TimesZero t not = operands-headed BinOp.Multiply (λ s t. option_map (λ _. number (pos 0)) (other_of (pos 0) s t)) t not
other_heads TimesOne t not = operands-headed BinOp.Multiply (other_of (pos 1)) t not
other_heads NotNot t not = twice-headed UnOp.Not t not
other_heads NegNeg t not = twice-headed UnOp.Neg t not
other_heads SameEqual t not = operands-headed BinOp.Equal (λ s t. if same_term s t then Some (literal (Literal.Bool true)) else None) t not
other_heads LenList t not = len-headed t not
other_heads NthList t not = nth-headed t not
