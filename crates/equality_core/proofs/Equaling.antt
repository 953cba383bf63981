-- Equated terms have equal values, and so the equalities of the list are true.
use Rattle.std.proofs.Common.{◌≡◌, ⊎_elim, ◌⊎◌, inl, inr, ℕ, suc, List, length, Bool, true, false, ◌&&◌, Option, Some, None, slice_get, refl, sym, ap, ◌∙◌, subst, arith}
use Rattle.std.specs.Option.{option_map, option_and_then, is_some}
use Rattle.std.proofs.lemmas.Bool.{false≢true, and_from, and_right, not-false, eqb-true}
use Rattle.std.proofs.lemmas.Option.{same_Some}
use Rattle.gil_values.specs.declared.kinds.Kind.{Kind}
use Rattle.gil_values.specs.declared.operators.BinOp.{BinOp}
use Rattle.gil_values.specs.Pure.{PureValue, boolean, list, from_list}
use Rattle.pure_terms.specs.declared.literals.Literal.{Literal}
use Rattle.pure_terms.specs.declared.variables.Sort.{Sort}
use Rattle.pure_terms.specs.declared.variables.Var.{Var}
use Rattle.pure_terms.specs.Fragment.{is_simple, is_flat, is_integer_side}
use Rattle.pure_terms.specs.Kinds.{same_sort, is_of_kind, known_kind}
use Rattle.pure_terms.specs.Meaning.{literal_value, both, value, values, truth, is_that_boolean, IsProper, IsOver, AreVariablesOf}
use Rattle.pure_terms.specs.Pure.{PureTerm, literal, variable, list_of, unary_of, binary_of, PureTerms, no_terms, term_and, to_list, PureAtom, positive, negative, variables_of_all, variables, term_of}
use Rattle.pure_terms.proofs.KindLaws.{same_kinds, over_left, over_right, over_variable}
use Rattle.pure_terms.proofs.SimpleLaws.{simple_terms_have_kinds, simple_terms_have_values}
use Rattle.solver_proof.specs.Chains.{truth_term, Sides, sides_of_variable, equality_of, equality_at, are_other_kinds}
use Rattle.solver_proof.proofs.Truths.{chosen, equality_true, over_sides}
use Rattle.equality_core.specs.Classes.{are_plain}
use Rattle.equality_core.specs.Equating.{Equates, by_atom, turned, by_elements, EquatesNoClash}
use Rattle.equality_core.specs.Valued.{AreFragmentEqualities, FitNumbers, FitKinds}
use Rattle.equality_core.specs.Values.{AreValues}
use Rattle.equality_core.proofs.Exact.{IsListTerm, list_term, plain_sides, no_any_there}
use Rattle.equality_core.proofs.Saying.{SaysEqual, says, plain, plain_element}
use Rattle.equality_core.proofs.Valuing.{NoClash, no_clash, same_literals, class_same, class_literal, value_in, integer_value}

shift_kind : (op : BinOp) (s t : PureTerm) → is_simple (binary_of op s t) ≡ true → known_kind (binary_of op s t) ≡ Some Kind.Int
shift_kind BinOp.Add s t simple = refl
shift_kind BinOp.Subtract s t simple = refl
shift_kind op s t simple = absurd (false≢true simple)

kinds_alike : (k l : Kind) → are_other_kinds (Some k) (Some l) ≡ false → k ≡ l
kinds_alike k l h = same_kinds k l (not-false _ h)

-- whole numbers by form and sort, where one of two equated plain terms is one and they aren't both flat
record AreIntegers (s t : PureTerm) : Type 0 where
  left : is_integer_side s ≡ true
  right : is_integer_side t ≡ true

side_of : (s : PureTerm) → is_simple s ≡ true → known_kind s ≡ Some Kind.Int → is_integer_side s ≡ true
side_of s simple kind = and_from _ _ simple (ap (λ o. is_of_kind o Kind.Int) kind)

are_integers : (s t : PureTerm) → are_plain s t ≡ true → (is_flat s && is_flat t) ≡ false → NoClash s t → (known_kind s ≡ Some Kind.Int) ⊎ (known_kind t ≡ Some Kind.Int) → AreIntegers s t
are_integers s t h flat none whole =
    let sides = plain_sides s t h in
    let any = no_any_there (is_flat s) (is_flat t) s t flat sides.any in
    let (k, is_s) = simple_terms_have_kinds s sides.simple_left any.0 in
    let (l, is_t) = simple_terms_have_kinds t sides.simple_right any.1 in
    let same : k ≡ l = kinds_alike k l ((λ i. are_other_kinds (sym is_s i) (sym is_t i)) ∙ none.kinds) in
    let left : k ≡ Kind.Int = ⊎_elim (λ e. same_Some k Kind.Int (sym is_s ∙ e)) (λ e. same ∙ same_Some l Kind.Int (sym is_t ∙ e)) whole in
    record { left = side_of s sides.simple_left (is_s ∙ ap Some left); right = side_of t sides.simple_right (is_t ∙ ap Some (sym same ∙ left)) }

-- a term that is equated with a list term is one
list_right : (ts : PureTerms) (t : PureTerm) → are_plain (list_of ts) t ≡ true → NoClash (list_of ts) t → IsListTerm t
list_right ts t h none =
    let sides = plain_sides (list_of ts) t h in
    let any = no_any_there false (is_flat t) (list_of ts) t refl sides.any in
    list_term t sides.simple_right sides.no_list_right any.1 (inl none.kinds)

list_left : (s : PureTerm) (us : PureTerms) → are_plain s (list_of us) ≡ true → NoClash s (list_of us) → IsListTerm s
list_left s us h none =
    let sides = plain_sides s (list_of us) h in
    let any = no_any_there (is_flat s) false s (list_of us) (and_right (is_flat s) false refl) sides.any in
    list_term s sides.simple_left sides.no_list_left any.0 (inr none.kinds)

module _ (vars : List Sort) (atoms : List PureAtom) (numbers : List PureValue) (kinds : List Kind) (long : ℕ) (clear : EquatesNoClash atoms) (fit_numbers : FitNumbers vars atoms numbers) (fit_kinds : FitKinds vars atoms kinds) (v : List PureValue) (are : AreValues vars atoms numbers kinds long v) where
  integers : (s t : PureTerm) → AreIntegers s t → IsOver vars s → IsOver vars t → Equates atoms s t → value v s ≡ value v t
  integers s t are_ints over_s over_t e =
      integer_value vars atoms numbers kinds long clear fit_numbers fit_kinds v are s are_ints.left over_s
      ∙ fit_numbers.equated s t e are_ints.left are_ints.right
      ∙ sym (integer_value vars atoms numbers kinds long clear fit_numbers fit_kinds v are t are_ints.right over_t)

  pub variable_literal : (x : Var) (l : Literal) → slice_get vars x.number ≡ Some x.sort → Equates atoms (variable x) (literal l) → value v (variable x) ≡ Some (literal_value l)
  variable_literal x l there e =
      let has = value_in vars atoms numbers kinds long clear fit_numbers fit_kinds v are x there in
      has.at ∙ ap Some (class_literal vars atoms numbers kinds long clear fit_numbers fit_kinds x l has.of_class e has.is)

  variables_same : (x y : Var) → slice_get vars x.number ≡ Some x.sort → slice_get vars y.number ≡ Some y.sort → Equates atoms (variable x) (variable y) → value v (variable x) ≡ value v (variable y)
  variables_same x y there also e =
      let one = value_in vars atoms numbers kinds long clear fit_numbers fit_kinds v are x there in
      let two = value_in vars atoms numbers kinds long clear fit_numbers fit_kinds v are y also in
      one.at ∙ ap Some (class_same vars atoms numbers kinds long clear fit_numbers fit_kinds x y one.of_class two.of_class e one.is two.is) ∙ sym two.at

  clear_of : (s t : PureTerm) → Equates atoms s t → NoClash s t
  clear_of s t e = no_clash s t (clear s t e)

  simple_left : (s t : PureTerm) → are_plain s t ≡ true → is_simple s ≡ true
  simple_left s t h = (plain_sides s t h).simple_left

  simple_right : (s t : PureTerm) → are_plain s t ≡ true → is_simple t ≡ true
  simple_right s t h = (plain_sides s t h).simple_right

  -- the elements of two list terms are equated pair by pair
  record ArePaired (ts us : PureTerms) : Type 0 where
    one : length (to_list ts) ≡ length (to_list us)
    each : (j : ℕ) (s t : PureTerm) → slice_get (to_list ts) j ≡ Some s → slice_get (to_list us) j ≡ Some t → Equates atoms s t × (are_plain s t ≡ true)

  paired : (ts us : PureTerms) → are_plain (list_of ts) (list_of us) ≡ true → Equates atoms (list_of ts) (list_of us) → ArePaired ts us
  paired ts us h e = record {
    one = eqb-true (length (to_list ts)) (length (to_list us)) (not-false _ (clear_of (list_of ts) (list_of us) e).lengths);
    each = λ j s t at_s at_t. (by_elements j e at_s at_t, plain_element ts us j s t h at_s at_t);
  }

  rest_paired : (t u : PureTerm) (ts us : PureTerms) → ArePaired (term_and t ts) (term_and u us) → ArePaired ts us
  rest_paired t u ts us h = record { one = less (length (to_list ts)) (length (to_list us)) h.one; each = λ j s w at_s at_w. h.each (suc j) s w at_s at_w } where
    less : (m n : ℕ) → suc m ≡ suc n → m ≡ n
    less m n e = omega (arith, e)

  mutual
    pub equated_values : (s t : PureTerm) → are_plain s t ≡ true → IsOver vars s → IsOver vars t → Equates atoms s t → value v s ≡ value v t
    equated_values (list_of ts) t h over_s over_t e =
        let is = list_right ts t h (clear_of (list_of ts) t e) in
        let same : t ≡ list_of is.terms = is.is in
        let whole : Equates atoms (list_of ts) (list_of is.terms) = subst (Equates atoms (list_of ts)) same e in
        let form : are_plain (list_of ts) (list_of is.terms) ≡ true = ap (are_plain (list_of ts)) (sym same) ∙ h in
        let over : IsOver vars (list_of is.terms) = subst (IsOver vars) same over_t in
        ap (option_map (λ ws. list (from_list ws))) (equated_elements ts is.terms over_s over (paired ts is.terms form whole)) ∙ ap (value v) (sym same)
    equated_values (literal l) (literal m) h over_s over_t e = ap (λ x. Some (literal_value x)) (same_literals vars atoms numbers kinds long clear fit_numbers fit_kinds l m e)
    equated_values (literal l) (variable x) h over_s over_t e = sym (variable_literal x l (over_variable vars x over_t) (turned e))
    equated_values (literal l) (list_of us) h over_s over_t e = let is = list_left (literal l) us h (clear_of (literal l) (list_of us) e) in let same : literal l ≡ list_of is.terms = is.is in cc
    equated_values (literal l) (unary_of op t) h over_s over_t e = absurd (false≢true (simple_right (literal l) (unary_of op t) h))
    equated_values (literal l) (binary_of op t u) h over_s over_t e =
        integers (literal l) (binary_of op t u) (are_integers (literal l) (binary_of op t u) h refl (clear_of (literal l) (binary_of op t u) e) (inr (shift_kind op t u (simple_right (literal l) (binary_of op t u) h)))) over_s over_t e
    equated_values (variable x) (literal l) h over_s over_t e = variable_literal x l (over_variable vars x over_s) e
    equated_values (variable x) (variable y) h over_s over_t e = variables_same x y (over_variable vars x over_s) (over_variable vars y over_t) e
    equated_values (variable x) (list_of us) h over_s over_t e = let is = list_left (variable x) us h (clear_of (variable x) (list_of us) e) in let same : variable x ≡ list_of is.terms = is.is in cc
    equated_values (variable x) (unary_of op t) h over_s over_t e = absurd (false≢true (simple_right (variable x) (unary_of op t) h))
    equated_values (variable x) (binary_of op t u) h over_s over_t e =
        integers (variable x) (binary_of op t u) (are_integers (variable x) (binary_of op t u) h refl (clear_of (variable x) (binary_of op t u) e) (inr (shift_kind op t u (simple_right (variable x) (binary_of op t u) h)))) over_s over_t e
    equated_values (unary_of op s) t h over_s over_t e = absurd (false≢true (simple_left (unary_of op s) t h))
    equated_values (binary_of op s u) t h over_s over_t e =
        integers (binary_of op s u) t (are_integers (binary_of op s u) t h refl (clear_of (binary_of op s u) t e) (inl (shift_kind op s u (simple_left (binary_of op s u) t h)))) over_s over_t e

    equated_elements : (ts us : PureTerms) → AreVariablesOf vars (variables_of_all ts) → AreVariablesOf vars (variables_of_all us) → ArePaired ts us → values v ts ≡ values v us
    equated_elements no_terms no_terms over_t over_u h = refl
    equated_elements no_terms (term_and u us) over_t over_u h = let e : 0 ≡ suc (length (to_list us)) = h.one in absurd (omega (arith, e))
    equated_elements (term_and t ts) no_terms over_t over_u h = let e : suc (length (to_list ts)) ≡ 0 = h.one in absurd (omega (arith, e))
    equated_elements (term_and t ts) (term_and u us) over_t over_u h =
        let first = h.each 0 t u refl refl in
        let head : value v t ≡ value v u = equated_values t u first.1 (over_left vars (variables t) (variables_of_all ts) over_t) (over_left vars (variables u) (variables_of_all us) over_u) first.0 in
        let tail : values v ts ≡ values v us = equated_elements ts us (over_right vars (variables t) (variables_of_all ts) over_t) (over_right vars (variables u) (variables_of_all us) over_u) (rest_paired t u ts us h) in
        λ i. both (head i) (tail i)

  -- ---- the equalities of the list

  module _ (fragment : AreFragmentEqualities vars atoms) (proper : IsProper vars v) where
    some_there : (o : Option Sides) → is_some o ≡ true → (sides : Sides) × (o ≡ Some sides)
    some_there (Some sides) is = (sides, refl)
    some_there None is = absurd (false≢true is)

    says_at : (i : ℕ) (a : PureAtom) (sides : Sides) → slice_get atoms i ≡ Some a → equality_of a ≡ Some sides → equality_at atoms i ≡ Some sides
    says_at i a sides at is = ap (option_and_then equality_of) at ∙ is

    equal_true : (i : ℕ) (a : PureAtom) (sides : Sides) → slice_get atoms i ≡ Some a → equality_of a ≡ Some sides → SaysEqual a sides → truth v a ≡ true
    equal_true i a sides at is form =
        let some : is_some (equality_of a) ≡ true = ap is_some is in
        let over = over_sides vars BinOp.Equal sides.left sides.right (subst (λ b. IsOver vars (term_of b)) form.is (fragment.over i a at some)) in
        let h : are_plain sides.left sides.right ≡ true = plain a sides is (fragment.forms i a at some) in
        let (w, left) = simple_terms_have_values vars v sides.left proper over.0 (simple_left sides.left sides.right h) in
        let same = equated_values sides.left sides.right h over.0 over.1 (by_atom i (says_at i a sides at is)) in
        ap (truth v) form.is ∙ equality_true v sides.left sides.right w left (sym same ∙ left)

    -- an atom of a Bool variable
    truth_value : (i : ℕ) (a : PureAtom) (b : Bool) (x : Var) → slice_get atoms i ≡ Some a → is_some (equality_of a) ≡ true → term_of a ≡ variable x
        → equality_of a ≡ Some (record { left = variable x; right = truth_term b }) → value v (variable x) ≡ Some (boolean b)
    truth_value i a b x at some form is =
        let there = over_variable vars x (subst (IsOver vars) form (fragment.over i a at some)) in
        variable_literal x (Literal.Bool b) there (by_atom i (says_at i a (record { left = variable x; right = truth_term b }) at is))

    truth_sides : (b : Bool) (x : Var) (sides : Sides) → sides_of_variable b (variable x) ≡ Some sides → sides_of_variable b (variable x) ≡ Some (record { left = variable x; right = truth_term b })
    truth_sides b x sides is = is ∙ ap Some (sym (chosen (same_sort x.sort Sort.Bool) (record { left = variable x; right = truth_term b }) sides is))

    truth_true : (i : ℕ) (a : PureAtom) (sides : Sides) (x : Var) → slice_get atoms i ≡ Some a → equality_of a ≡ Some sides → (a ≡ positive (variable x)) ⊎ (a ≡ negative (variable x)) → truth v a ≡ true
    truth_true i a sides x at is (inl form) =
        let said : equality_of a ≡ Some (record { left = variable x; right = truth_term true }) = ap equality_of form ∙ truth_sides true x sides (ap equality_of (sym form) ∙ is) in
        ap (truth v) form ∙ ap (is_that_boolean true) (truth_value i a true x at (ap is_some is) (ap term_of form) said)
    truth_true i a sides x at is (inr form) =
        let said : equality_of a ≡ Some (record { left = variable x; right = truth_term false }) = ap equality_of form ∙ truth_sides false x sides (ap equality_of (sym form) ∙ is) in
        ap (truth v) form ∙ ap (is_that_boolean false) (truth_value i a false x at (ap is_some is) (ap term_of form) said)

    pub equalities_true : (i : ℕ) (a : PureAtom) → slice_get atoms i ≡ Some a → is_some (equality_of a) ≡ true → truth v a ≡ true
    equalities_true i a at some =
        let (sides, is) = some_there (equality_of a) some in
        ⊎_elim (λ form. equal_true i a sides at is form) (λ form. truth_true i a sides form.x at is form.of) (says a sides is)
