-- Each check passes where the operator table takes the operand.
use Rattle.std.proofs.Common.{◌≡◌, inl, inr, suc, ℤ, pos, int_lt, List, [], ◌∷◌, length, Bool, true, false, not, ◌&&◌, if◌then◌else◌, Option, Some, None, refl, sym, ap, subst, ◌∙◌}
use Rattle.std.specs.Option.{option_and_then, option_map}
use Rattle.std.specs.Ordering.{int_eq}
use Rattle.std.specs.Result.{result_ok}
use Rattle.std.proofs.lemmas.Bool.{and_from}
use Rattle.gil_values.specs.declared.kinds.Kind.{Kind}
use Rattle.gil_values.specs.declared.operators.UnOp.{UnOp}
use Rattle.gil_values.specs.declared.operators.BinOp.{BinOp}
use Rattle.gil_values.specs.Equality.{same_kind}
use Rattle.gil_values.specs.EqualityLaws.{same_value-refl}
use Rattle.gil_values.specs.Operators.{unary, binary}
use Rattle.gil_values.specs.Pure.{PureValue, integer, boolean, text, symbol, kind, procedure, list, PureValues, no_values, kind_of, from_list, to_list, to_list-from_list}
use Rattle.pure_terms.specs.declared.literals.Literal.{Literal}
use Rattle.pure_terms.specs.declared.variables.Sort.{Sort}
use Rattle.pure_terms.specs.Kinds.{known_kind}
use Rattle.pure_terms.specs.Meaning.{value, values, truth, is_that_boolean, all_true, IsProper, IsOver}
use Rattle.pure_terms.specs.Pure.{PureTerm, literal, variable, list_of, unary_of, binary_of, PureTerms, no_terms, term_and, PureAtom, positive, negative}
use Rattle.pure_terms.specs.Pure as terms
use Rattle.pure_terms.proofs.KindLaws.{same_kinds, known_kinds_are_right}
use Rattle.sym_model.proofs.Asking.{both_parts}
use Rattle.sym_model.proofs.ListLaws.{same_some, not_none}
use Rattle.sym_evaluation.specs.Checks.{PureCheck, fails, asks, decided, needs, needs_not, kind_of_term, is_of_kind, none_of, kind_check_by, kind_check, has_length, kinds_with_length, kinds_without_length, length_check_by, length_check, are_of_one_kind, append_check_by, append_check, is_zero, is_negative, divisor_check, start_check, length_of, is_below, end_check_by, end_check}
use Rattle.sym_evaluation.proofs.Stages.{CheckSays, decided_says}

abbrev elements_of : PureValue → PureValues
elements_of (list vs) = vs
elements_of _ = no_values

-- two texts or two lists
abbrev pub are_appendable : Kind → Kind → Bool
are_appendable j k = has_length j && same_kind k j

both_ways : (x y : Bool) → (x ≡ true → y ≡ true) → (y ≡ true → x ≡ true) → x ≡ y
both_ways true y to from = sym (to refl)
both_ways false true to from = from refl
both_ways false false to from = refl

same_itself : (k : Kind) → same_kind k k ≡ true
same_itself k = same_value-refl (kind k)

same_turned : (j k : Kind) → same_kind j k ≡ same_kind k j
same_turned j k =
    both_ways (same_kind j k) (same_kind k j)
    (λ is. subst (λ l. same_kind l j ≡ true) (same_kinds j k is) (same_itself j))
    (λ is. subst (λ l. same_kind l k ≡ true) (same_kinds k j is) (same_itself k))

and_false : (x : Bool) → (x && false) ≡ false
and_false true = refl
and_false false = refl

-- a kind that is the other one, which has a length, may be appended to it
with_kind : (x : Bool) (j k : Kind) → same_kind j k ≡ x → has_length k ≡ true → are_appendable j k ≡ x
with_kind true j k same has =
    let e : k ≡ j = sym (same_kinds j k same) in
    (λ i. has_length (sym e i) && (same_turned k j ∙ same) i) ∙ ap (λ x. x && true) has
with_kind false j k same has = ap (λ x. has_length j && x) (same_turned k j ∙ same) ∙ and_false (has_length j)

-- one that has a length is not appended to one that has none
without_kind : (x : Bool) (j k : Kind) → same_kind j k ≡ x → has_length k ≡ false → are_appendable j k ≡ false
without_kind true j k same has =
    let e : k ≡ j = sym (same_kinds j k same) in
    (λ i. has_length (sym e i) && same_kind k j) ∙ ap (λ x. x && same_kind k j) has
without_kind false j k same has = ap (λ x. has_length j && x) (same_turned k j ∙ same) ∙ and_false (has_length j)

-- what a term that has a value says
module _ (v : List PureValue) where
  true_as : (u : PureTerm) (b : Bool) → value v u ≡ Some (boolean b) → truth v (positive u) ≡ b
  true_as u b is = ap (is_that_boolean true) is

  denied : (b : Bool) → is_that_boolean false (Some (boolean b)) ≡ not b
  denied true = refl
  denied false = refl

  pub false_as : (u : PureTerm) (b : Bool) → value v u ≡ Some (boolean b) → truth v (negative u) ≡ not b
  false_as u b is = ap (is_that_boolean false) is ∙ denied b

  pub alone : (a : PureAtom) (b : Bool) → truth v a ≡ b → all_true v (a ∷ []) ≡ b
  alone a true is = and_from (truth v a) true is refl
  alone a false is = ap (λ x. x && true) is

  needs_by : (u : PureTerm) (b : Bool) → value v u ≡ Some (boolean b) → CheckSays v (needs u) b
  needs_by u true is = (alone (positive u) true (true_as u true is), (alone (negative u) false (false_as u true is), tt))
  needs_by u false is = (alone (positive u) false (true_as u false is), inl (alone (negative u) true (false_as u false is)))

  needs_not_by : (u : PureTerm) (b : Bool) → value v u ≡ Some (boolean b) → CheckSays v (needs_not u) (not b)
  needs_not_by u true is = (alone (negative u) false (false_as u true is), inl (alone (positive u) true (true_as u true is)))
  needs_not_by u false is = (alone (negative u) true (false_as u false is), (alone (positive u) false (true_as u false is), tt))

  one_question : (met bad : List PureAtom) (b : Bool) → all_true v met ≡ b → all_true v bad ≡ not b → CheckSays v (asks met (bad ∷ [])) b
  one_question met bad true first second = (first, (second, tt))
  one_question met bad false first second = (first, inl second)

  append_left : (x : Bool) (j k : Kind) (check : PureCheck) → has_length j ≡ x → CheckSays v check (same_kind k j) → CheckSays v (if x then check else fails) (x && same_kind k j)
  append_left true j k check is says = says
  append_left false j k check is says = refl

  append_right : (x : Bool) (j k : Kind) (u : PureTerm) → has_length k ≡ x → value v u ≡ Some (boolean (same_kind j k)) → CheckSays v (if x then needs u else fails) (are_appendable j k)
  append_right true j k u is has = subst (CheckSays v (needs u)) (sym (with_kind (same_kind j k) j k refl is)) (needs_by u (same_kind j k) has)
  append_right false j k u is has = without_kind (same_kind j k) j k refl is

  ask_both : (x y : Bool) (u : PureTerm) (these others : List PureAtom) → value v u ≡ Some (boolean x) → all_true v these ≡ y → all_true v others ≡ not y → CheckSays v (asks (positive u ∷ these) ((negative u ∷ []) ∷ others ∷ [])) (y && x)
  ask_both true true u these others same these_are others_are = (and_from (truth v (positive u)) (all_true v these) (true_as u true same) these_are, (alone (negative u) false (false_as u true same), (others_are, tt)))
  ask_both true false u these others same these_are others_are = (ap (λ x. truth v (positive u) && x) these_are ∙ and_false (truth v (positive u)), inr (inl others_are))
  ask_both false true u these others same these_are others_are = (ap (λ x. x && all_true v these) (true_as u false same), inl (alone (negative u) true (false_as u false same)))
  ask_both false false u these others same these_are others_are = (ap (λ x. x && all_true v these) (true_as u false same), inl (alone (negative u) true (false_as u false same)))

  abbrev two : BinOp → Option PureValue → Option PureValue → Option PureValue
  two op a b = option_and_then (λ u. option_and_then (λ w. result_ok (binary op u w)) b) a

  kind_term_value : (t : PureTerm) (a : PureValue) → value v t ≡ Some a → value v (kind_of_term t) ≡ Some (kind (kind_of a))
  kind_term_value t a is = ap (option_and_then (λ u. result_ok (unary UnOp.Kind u))) is

  pub kind_value : (t : PureTerm) (k : Kind) (a : PureValue) → value v t ≡ Some a → value v (is_of_kind t k) ≡ Some (boolean (same_kind (kind_of a) k))
  kind_value t k a is = ap (λ o. two BinOp.Equal o (Some (kind k))) (kind_term_value t a is)

  one_kind_value : (s t : PureTerm) (a b : PureValue) → value v s ≡ Some a → value v t ≡ Some b → value v (are_of_one_kind s t) ≡ Some (boolean (same_kind (kind_of a) (kind_of b)))
  one_kind_value s t a b first second = λ i. two BinOp.Equal (kind_term_value s a first i) (kind_term_value t b second i)

  -- ---- kinds

  module _ (vars : List Sort) (proper : IsProper vars v) where
    module _ (t : PureTerm) (a : PureValue) (over : IsOver vars t) (is : value v t ≡ Some a) where
      kind_known : (o : Option Kind) (k : Kind) → known_kind t ≡ o → CheckSays v (kind_check_by o k t) (same_kind (kind_of a) k)
      kind_known (Some j) k known = subst (λ l. CheckSays v (decided (same_kind j k)) (same_kind l k)) (sym (known_kinds_are_right vars v t a j proper over is known)) (decided_says v (same_kind j k))
      kind_known None k known = needs_by (is_of_kind t k) (same_kind (kind_of a) k) (kind_value t k a is)

      pub kind_says : (k : Kind) → CheckSays v (kind_check k t) (same_kind (kind_of a) k)
      kind_says k = kind_known (known_kind t) k refl

      -- that the value's kind is none of these
      abbrev none_same : Kind → List Kind → Bool
      none_same l [] = true
      none_same l (k ∷ ks) = not (same_kind l k) && none_same l ks

      none_true : (ks : List Kind) → all_true v (none_of t ks) ≡ none_same (kind_of a) ks
      none_true [] = refl
      none_true (k ∷ ks) = λ i. false_as (is_of_kind t k) (same_kind (kind_of a) k) (kind_value t k a is) i && none_true ks i

      without_is : (w : PureValue) → none_same (kind_of w) kinds_without_length ≡ has_length (kind_of w)
      without_is (integer n) = refl
      without_is (boolean b) = refl
      without_is (text cs) = refl
      without_is (symbol n) = refl
      without_is (kind k) = refl
      without_is (procedure p) = refl
      without_is (list ws) = refl

      with_is : (w : PureValue) → none_same (kind_of w) kinds_with_length ≡ not (has_length (kind_of w))
      with_is (integer n) = refl
      with_is (boolean b) = refl
      with_is (text cs) = refl
      with_is (symbol n) = refl
      with_is (kind k) = refl
      with_is (procedure p) = refl
      with_is (list ws) = refl

      pub has_length_true : all_true v (none_of t kinds_without_length) ≡ has_length (kind_of a)
      has_length_true = none_true kinds_without_length ∙ without_is a

      pub has_no_length_true : all_true v (none_of t kinds_with_length) ≡ not (has_length (kind_of a))
      has_no_length_true = none_true kinds_with_length ∙ with_is a

      length_known : (o : Option Kind) → known_kind t ≡ o → CheckSays v (length_check_by o t) (has_length (kind_of a))
      length_known (Some j) known = subst (λ l. CheckSays v (decided (has_length j)) (has_length l)) (sym (known_kinds_are_right vars v t a j proper over is known)) (decided_says v (has_length j))
      length_known None known = one_question (none_of t kinds_without_length) (none_of t kinds_with_length) (has_length (kind_of a)) has_length_true has_no_length_true

      pub length_says : CheckSays v (length_check t) (has_length (kind_of a))
      length_says = length_known (known_kind t) refl

    -- ---- texts or lists on both sides

    module _ (s t : PureTerm) (a b : PureValue) (over_s : IsOver vars s) (over_t : IsOver vars t) (is_s : value v s ≡ Some a) (is_t : value v t ≡ Some b) where
      append_known : (j k : Option Kind) → known_kind s ≡ j → known_kind t ≡ k → CheckSays v (append_check_by j k s t) (are_appendable (kind_of a) (kind_of b))
      append_known (Some j) k known_s known_t =
          subst (λ l. CheckSays v (if has_length j then kind_check_by k j t else fails) (are_appendable l (kind_of b))) (sym (known_kinds_are_right vars v s a j proper over_s is_s known_s))
          (append_left (has_length j) j (kind_of b) (kind_check_by k j t) refl (kind_known t b over_t is_t k j known_t))
      append_known None (Some k) known_s known_t =
          subst (λ l. CheckSays v (if has_length k then needs (is_of_kind s k) else fails) (are_appendable (kind_of a) l)) (sym (known_kinds_are_right vars v t b k proper over_t is_t known_t))
          (append_right (has_length k) (kind_of a) k (is_of_kind s k) refl (kind_value s k a is_s))
      append_known None None known_s known_t =
          subst (λ x. CheckSays v (append_check_by None None s t) (has_length (kind_of a) && x)) (same_turned (kind_of a) (kind_of b))
          (ask_both (same_kind (kind_of a) (kind_of b)) (has_length (kind_of a)) (are_of_one_kind s t) (none_of s kinds_without_length) (none_of s kinds_with_length)
          (one_kind_value s t a b is_s is_t) (has_length_true s a over_s is_s) (has_no_length_true s a over_s is_s))

      pub append_says : CheckSays v (append_check s t) (are_appendable (kind_of a) (kind_of b))
      append_says = append_known (known_kind s) (known_kind t) refl refl

  -- ---- numbers

  zero_test : (t : PureTerm) (n : ℤ) → value v t ≡ Some (integer n) → value v (is_zero t) ≡ Some (boolean (int_eq n (pos 0)))
  zero_test t n is = ap (λ o. two BinOp.Equal o (Some (integer (pos 0)))) is

  negative_test : (t : PureTerm) (n : ℤ) → value v t ≡ Some (integer n) → value v (is_negative t) ≡ Some (boolean (int_lt n (pos 0)))
  negative_test t n is = ap (λ o. two BinOp.Less o (Some (integer (pos 0)))) is

  below_test : (t u : PureTerm) (i n : ℤ) → value v t ≡ Some (integer i) → value v u ≡ Some (integer n) → value v (is_below t u) ≡ Some (boolean (int_lt i n))
  below_test t u i n first second = λ k. two BinOp.Less (first k) (second k)

  abbrev number_of : (w : PureValue) → ℤ
  number_of (integer n) = n
  number_of _ = pos 0

  same_number : (m n : ℤ) → Some (integer m) ≡ Some (integer n) → m ≡ n
  same_number m n e = ap number_of (same_some e)

  pub divisor_says : (t : PureTerm) (n : ℤ) → value v t ≡ Some (integer n) → CheckSays v (divisor_check t) (not (int_eq n (pos 0)))
  divisor_says (literal (Literal.Int m)) n is = subst (λ k. CheckSays v (divisor_check (literal (Literal.Int m))) (not (int_eq k (pos 0)))) (same_number m n is) (decided_says v (not (int_eq m (pos 0))))
  divisor_says (literal (Literal.Bool b)) n is = needs_not_by (is_zero (literal (Literal.Bool b))) (int_eq n (pos 0)) (zero_test (literal (Literal.Bool b)) n is)
  divisor_says (literal (Literal.Str cs)) n is = needs_not_by (is_zero (literal (Literal.Str cs))) (int_eq n (pos 0)) (zero_test (literal (Literal.Str cs)) n is)
  divisor_says (literal (Literal.Kind k)) n is = needs_not_by (is_zero (literal (Literal.Kind k))) (int_eq n (pos 0)) (zero_test (literal (Literal.Kind k)) n is)
  divisor_says (literal (Literal.Proc p)) n is = needs_not_by (is_zero (literal (Literal.Proc p))) (int_eq n (pos 0)) (zero_test (literal (Literal.Proc p)) n is)
  divisor_says (variable x) n is = needs_not_by (is_zero (variable x)) (int_eq n (pos 0)) (zero_test (variable x) n is)
  divisor_says (list_of ts) n is = needs_not_by (is_zero (list_of ts)) (int_eq n (pos 0)) (zero_test (list_of ts) n is)
  divisor_says (unary_of op t) n is = needs_not_by (is_zero (unary_of op t)) (int_eq n (pos 0)) (zero_test (unary_of op t) n is)
  divisor_says (binary_of op s t) n is = needs_not_by (is_zero (binary_of op s t)) (int_eq n (pos 0)) (zero_test (binary_of op s t) n is)

  pub start_says : (t : PureTerm) (n : ℤ) → value v t ≡ Some (integer n) → CheckSays v (start_check t) (not (int_lt n (pos 0)))
  start_says (literal (Literal.Int m)) n is = subst (λ k. CheckSays v (start_check (literal (Literal.Int m))) (not (int_lt k (pos 0)))) (same_number m n is) (decided_says v (not (int_lt m (pos 0))))
  start_says (literal (Literal.Bool b)) n is = needs_not_by (is_negative (literal (Literal.Bool b))) (int_lt n (pos 0)) (negative_test (literal (Literal.Bool b)) n is)
  start_says (literal (Literal.Str cs)) n is = needs_not_by (is_negative (literal (Literal.Str cs))) (int_lt n (pos 0)) (negative_test (literal (Literal.Str cs)) n is)
  start_says (literal (Literal.Kind k)) n is = needs_not_by (is_negative (literal (Literal.Kind k))) (int_lt n (pos 0)) (negative_test (literal (Literal.Kind k)) n is)
  start_says (literal (Literal.Proc p)) n is = needs_not_by (is_negative (literal (Literal.Proc p))) (int_lt n (pos 0)) (negative_test (literal (Literal.Proc p)) n is)
  start_says (variable x) n is = needs_not_by (is_negative (variable x)) (int_lt n (pos 0)) (negative_test (variable x) n is)
  start_says (list_of ts) n is = needs_not_by (is_negative (list_of ts)) (int_lt n (pos 0)) (negative_test (list_of ts) n is)
  start_says (unary_of op t) n is = needs_not_by (is_negative (unary_of op t)) (int_lt n (pos 0)) (negative_test (unary_of op t) n is)
  start_says (binary_of op s t) n is = needs_not_by (is_negative (binary_of op s t)) (int_lt n (pos 0)) (negative_test (binary_of op s t) n is)

  -- ---- lengths

  values_length : (ts : PureTerms) (ws : List PureValue) → values v ts ≡ Some ws → length (terms.to_list ts) ≡ length ws
  values_length no_terms ws is = ap length (same_some is)
  values_length (term_and t ts) ws is =
      let (u, (us, (first, second, whole))) = both_parts (value v t) (values v ts) ws is in
      ap suc (values_length ts us second) ∙ ap length (sym whole)

  list_parts : (o : Option (List PureValue)) (vs : PureValues) → option_map (λ ws. list (from_list ws)) o ≡ Some (list vs) → (ws : List PureValue) × ((o ≡ Some ws) × (from_list ws ≡ vs))
  list_parts (Some ws) vs is = (ws, (refl, ap elements_of (same_some is)))
  list_parts None vs is = not_none is

  abbrev pub list_length : PureValues → ℤ
  list_length vs = pos (length (to_list vs))

  pub length_term : (ts : PureTerms) (vs : PureValues) → value v (list_of ts) ≡ Some (list vs) → pos (length (terms.to_list ts)) ≡ list_length vs
  length_term ts vs is =
      let (ws, (all, whole)) = list_parts (values v ts) vs is in
      ap pos (values_length ts ws all ∙ ap length (sym (to_list-from_list ws)) ∙ ap (λ us. length (to_list us)) whole)

  unary_length : (s : PureTerm) (vs : PureValues) → value v s ≡ Some (list vs) → value v (unary_of UnOp.Len s) ≡ Some (integer (list_length vs))
  unary_length s vs is = ap (option_and_then (λ u. result_ok (unary UnOp.Len u))) is

  length_value : (s : PureTerm) (vs : PureValues) → value v s ≡ Some (list vs) → value v (length_of s) ≡ Some (integer (list_length vs))
  length_value (list_of ts) vs is = ap (λ n. Some (integer n)) (length_term ts vs is)
  length_value (literal l) vs is = unary_length (literal l) vs is
  length_value (variable x) vs is = unary_length (variable x) vs is
  length_value (unary_of op t) vs is = unary_length (unary_of op t) vs is
  length_value (binary_of op s t) vs is = unary_length (binary_of op s t) vs is

  needs_below : (t u : PureTerm) (i n : ℤ) → value v t ≡ Some (integer i) → value v u ≡ Some (integer n) → CheckSays v (needs (is_below t u)) (int_lt i n)
  needs_below t u i n first second = needs_by (is_below t u) (int_lt i n) (below_test t u i n first second)

  end_with : (t u : PureTerm) (i n : ℤ) → value v t ≡ Some (integer i) → value v u ≡ Some (integer n) → CheckSays v (end_check_by t u) (int_lt i n)
  end_with (literal (Literal.Int j)) (literal (Literal.Int m)) i n first second =
      subst (λ k. CheckSays v (decided (int_lt j m)) (int_lt k n)) (same_number j i first) (subst (λ k. CheckSays v (decided (int_lt j m)) (int_lt j k)) (same_number m n second) (decided_says v (int_lt j m)))
  end_with (literal (Literal.Int j)) (literal (Literal.Bool b)) i n first second = needs_below (literal (Literal.Int j)) (literal (Literal.Bool b)) i n first second
  end_with (literal (Literal.Int j)) (literal (Literal.Str cs)) i n first second = needs_below (literal (Literal.Int j)) (literal (Literal.Str cs)) i n first second
  end_with (literal (Literal.Int j)) (literal (Literal.Kind k)) i n first second = needs_below (literal (Literal.Int j)) (literal (Literal.Kind k)) i n first second
  end_with (literal (Literal.Int j)) (literal (Literal.Proc p)) i n first second = needs_below (literal (Literal.Int j)) (literal (Literal.Proc p)) i n first second
  end_with (literal (Literal.Int j)) (variable x) i n first second = needs_below (literal (Literal.Int j)) (variable x) i n first second
  end_with (literal (Literal.Int j)) (list_of ts) i n first second = needs_below (literal (Literal.Int j)) (list_of ts) i n first second
  end_with (literal (Literal.Int j)) (unary_of op u) i n first second = needs_below (literal (Literal.Int j)) (unary_of op u) i n first second
  end_with (literal (Literal.Int j)) (binary_of op s u) i n first second = needs_below (literal (Literal.Int j)) (binary_of op s u) i n first second
  end_with (literal (Literal.Bool b)) u i n first second = needs_below (literal (Literal.Bool b)) u i n first second
  end_with (literal (Literal.Str cs)) u i n first second = needs_below (literal (Literal.Str cs)) u i n first second
  end_with (literal (Literal.Kind k)) u i n first second = needs_below (literal (Literal.Kind k)) u i n first second
  end_with (literal (Literal.Proc p)) u i n first second = needs_below (literal (Literal.Proc p)) u i n first second
  end_with (variable x) u i n first second = needs_below (variable x) u i n first second
  end_with (list_of ts) u i n first second = needs_below (list_of ts) u i n first second
  end_with (unary_of op t) u i n first second = needs_below (unary_of op t) u i n first second
  end_with (binary_of op s t) u i n first second = needs_below (binary_of op s t) u i n first second

  pub end_says : (s t : PureTerm) (vs : PureValues) (i : ℤ) → value v s ≡ Some (list vs) → value v t ≡ Some (integer i) → CheckSays v (end_check s t) (int_lt i (list_length vs))
  end_says s t vs i first second = end_with t (length_of s) i (list_length vs) second (length_value s vs first)
