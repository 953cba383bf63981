-- What an atom that is an equality says.
use Rattle.std.proofs.Common.{◌≡◌, ⊎_elim, ◌⊎◌, inl, inr, ℕ, zero, suc, List, Bool, true, false, not, ◌&&◌, ◌||◌, if◌then◌else◌, Option, Some, None, slice_get, refl, sym, ap, ◌∙◌, subst}
use Rattle.std.specs.Option.{option_and_then}
use Rattle.std.proofs.lemmas.Bool.{false≢true, true≢false, and_parts, and_from, and_right, or_parts, or_right, not-true, not_from_false}
use Rattle.std.proofs.lemmas.Option.{option_and_then_some, same_Some}
use Rattle.gil_values.specs.declared.operators.BinOp.{BinOp}
use Rattle.gil_values.specs.declared.operators.UnOp.{UnOp}
use Rattle.pure_terms.specs.declared.literals.Literal.{Literal}
use Rattle.pure_terms.specs.declared.variables.Sort.{Sort}
use Rattle.pure_terms.specs.declared.variables.Var.{Var}
use Rattle.pure_terms.specs.EqualityLaws.{same_sorts}
use Rattle.pure_terms.specs.Fragment.{is_simple, are_simple, is_flat, names_sort, name_sort, is_kind_of_any, is_kind_literal, has_fragment_form}
use Rattle.pure_terms.specs.Kinds.{same_sort}
use Rattle.pure_terms.specs.Pure.{PureTerm, literal, variable, list_of, unary_of, binary_of, PureTerms, no_terms, term_and, to_list, PureAtom, positive, negative, opening}
use Rattle.solver_proof.specs.Chains.{equals, truth_term, Sides, sides_of_equality, sides_of_variable, either_sides, KindFact, kind_fact, kind_fact_of_term, unless_kind_fact, equality_of, equality_at}
use Rattle.solver_proof.specs.Closing.{lists_of, equal_sides_of, equal_lists_at}
use Rattle.solver_proof.proofs.Truths.{chosen}
use Rattle.equality_core.specs.Classes.{are_plain}

-- the atom is an equality of terms, or an atom of a Bool variable
pub record SaysEqual (a : PureAtom) (sides : Sides) : Type 0 where
  pub is : a ≡ positive (equals sides.left sides.right)
  pub no_kind : kind_fact true sides.left sides.right ≡ None

pub record SaysTruth (a : PureAtom) (sides : Sides) : Type 0 where
  pub x : Var
  pub b : Bool
  pub are : sides ≡ record { left = variable x; right = truth_term b }
  pub sort : same_sort x.sort Sort.Bool ≡ true
  pub of : (a ≡ positive (variable x)) ⊎ (a ≡ negative (variable x))

equal_term : (t : PureTerm) (sides : Sides) → sides_of_equality t ≡ Some sides → t ≡ equals sides.left sides.right
equal_term (binary_of BinOp.Equal s t) sides is = ap (λ (p : Sides). equals p.left p.right) (same_Some (record { left = s; right = t }) sides is)
equal_term t sides is = cc

truth_sort : (b : Bool) (x y : Sides) → (if b then Some x else None) ≡ Some y → b ≡ true
truth_sort true x y is = refl
truth_sort false x y is = cc

truth_term_of : (a : PureAtom) (b : Bool) (t : PureTerm) (sides : Sides) → sides_of_variable b t ≡ Some sides → (a ≡ positive t) ⊎ (a ≡ negative t) → SaysTruth a sides
truth_term_of a b (variable x) sides is of = record { x = x; b = b; are = sym (chosen (same_sort x.sort Sort.Bool) _ sides is); sort = truth_sort (same_sort x.sort Sort.Bool) _ sides is; of = of }
truth_term_of a b (literal l) sides is of = cc
truth_term_of a b (list_of ts) sides is of = cc
truth_term_of a b (unary_of op t) sides is of = cc
truth_term_of a b (binary_of op s t) sides is of = cc

equal_says : (t : PureTerm) (o : Option KindFact) (sides : Sides) → kind_fact_of_term true t ≡ o → unless_kind_fact o (sides_of_equality t) ≡ Some sides → SaysEqual (positive t) sides
equal_says t (Some fact) sides same is = cc
equal_says t None sides same is =
    let form = equal_term t sides is in
    record { is = ap positive form; no_kind = ap (kind_fact_of_term true) (sym form) ∙ same }

either : {P : Type 0} (o p : Option Sides) (sides : Sides) → either_sides o p ≡ Some sides → (o ≡ Some sides → P) → (p ≡ Some sides → P) → P
either (Some found) p sides is left right = left is
either None p sides is left right = right is

pub says : (a : PureAtom) (sides : Sides) → equality_of a ≡ Some sides → SaysEqual a sides ⊎ SaysTruth a sides
says (positive t) sides is = either (unless_kind_fact (kind_fact_of_term true t) (sides_of_equality t)) (sides_of_variable true t) sides is (λ e. inl (equal_says t (kind_fact_of_term true t) sides refl e)) (λ e. inr (truth_term_of (positive t) true t sides e (inl refl)))
says (negative t) sides is = inr (truth_term_of (negative t) false t sides is (inr refl))
says (opening t) sides is = cc

-- the two terms of an equality, where the first one is simple
no_kind_fact : (s t : PureTerm) → is_simple s ≡ true → kind_fact true s t ≡ None
no_kind_fact (literal l) t simple = refl
no_kind_fact (variable x) t simple = refl
no_kind_fact (list_of ts) t simple = refl
no_kind_fact (unary_of op s) t simple = absurd (false≢true simple)
no_kind_fact (binary_of op s u) t simple = refl

pub equality_said : (s t : PureTerm) → is_simple s ≡ true → equality_of (positive (equals s t)) ≡ Some (record { left = s; right = t })
equality_said s t simple = ap (λ o. either_sides (unless_kind_fact o (Some (record { left = s; right = t }))) None) (no_kind_fact s t simple)

-- an equality of list terms
abbrev pub list_pair : PureTerms → PureTerms → Sides
list_pair ts us = record { left = list_of ts; right = list_of us }

pub lists_at : (list : List PureAtom) (i : ℕ) (ts us : PureTerms) → equality_at list i ≡ Some (list_pair ts us) → equal_lists_at list i ≡ Some (record { left = ts; right = us })
lists_at list i ts us is = option_and_then_some equality_of (slice_get list i) (list_pair ts us) is (λ a at said. ap (λ o. lists_of (option_and_then equal_sides_of o)) at ∙ from a (says a (list_pair ts us) said)) where
  from : (a : PureAtom) → SaysEqual a (list_pair ts us) ⊎ SaysTruth a (list_pair ts us) → lists_of (equal_sides_of a) ≡ Some (record { left = ts; right = us })
  from a (inl equal) = ap (λ b. lists_of (equal_sides_of b)) equal.is
  from a (inr truth) = let e : list_of ts ≡ variable truth.x = ap (λ (p : Sides). p.left) truth.are in cc

-- ---- equalities of the fragment

not_kind_test : (s t : PureTerm) → kind_fact true s t ≡ None → (is_kind_of_any s && is_kind_literal t) ≡ false
not_kind_test (unary_of UnOp.Kind s) (literal (Literal.Kind k)) none = cc
not_kind_test (unary_of UnOp.Kind s) (literal (Literal.Int n)) none = and_right _ false refl
not_kind_test (unary_of UnOp.Kind s) (literal (Literal.Bool n)) none = and_right _ false refl
not_kind_test (unary_of UnOp.Kind s) (literal (Literal.Str n)) none = and_right _ false refl
not_kind_test (unary_of UnOp.Kind s) (literal (Literal.Proc n)) none = and_right _ false refl
not_kind_test (unary_of UnOp.Kind s) (variable x) none = and_right _ false refl
not_kind_test (unary_of UnOp.Kind s) (list_of ts) none = and_right _ false refl
not_kind_test (unary_of UnOp.Kind s) (unary_of op t) none = and_right _ false refl
not_kind_test (unary_of UnOp.Kind s) (binary_of op t u) none = and_right _ false refl
not_kind_test (unary_of UnOp.Not s) t none = refl
not_kind_test (unary_of UnOp.Neg s) t none = refl
not_kind_test (unary_of UnOp.Len s) t none = refl
not_kind_test (literal l) t none = refl
not_kind_test (variable x) t none = refl
not_kind_test (list_of ts) t none = refl
not_kind_test (binary_of op s u) t none = refl

plain_equality : (s t : PureTerm) (k : Bool) → k ≡ false → (((is_simple s && is_simple t) || (false || k)) && (not (names_sort Sort.List s || names_sort Sort.List t) && (k || ((is_flat s && is_flat t) || (not (names_sort Sort.Any s) && not (names_sort Sort.Any t)))))) ≡ true → are_plain s t ≡ true
plain_equality s t true is h = absurd (true≢false is)
plain_equality s t false is h =
    let parts = and_parts ((is_simple s && is_simple t) || false) _ h in
    let more = and_parts (not (names_sort Sort.List s || names_sort Sort.List t)) _ parts.1 in
    let names = or_parts (names_sort Sort.List s) (names_sort Sort.List t) (not-true _ more.0) in
    and_from _ _ (without_false (is_simple s && is_simple t) parts.0) (and_from _ _ (and_from _ _ (not_from_false _ names.0) (not_from_false _ names.1)) more.1) where
      without_false : (b : Bool) → (b || false) ≡ true → b ≡ true
      without_false true e = refl
      without_false false e = e

truth_plain : (x : Var) (b : Bool) → same_sort x.sort Sort.Bool ≡ true → are_plain (variable x) (truth_term b) ≡ true
truth_plain x b is = subst (λ (s : Sort). are_plain (variable (record { number = x.number; sort = s })) (truth_term b) ≡ true) (sym (same_sorts x.sort Sort.Bool is)) refl

pub plain : (a : PureAtom) (sides : Sides) → equality_of a ≡ Some sides → has_fragment_form a ≡ true → are_plain sides.left sides.right ≡ true
plain a sides is form = ⊎_elim equal truth (says a sides is) where
  equal : SaysEqual a sides → are_plain sides.left sides.right ≡ true
  equal e = plain_equality sides.left sides.right (is_kind_of_any sides.left && is_kind_literal sides.right) (not_kind_test sides.left sides.right e.no_kind) (ap has_fragment_form (sym e.is) ∙ form)

  truth : SaysTruth a sides → are_plain sides.left sides.right ≡ true
  truth e = subst (λ (p : Sides). are_plain p.left p.right ≡ true) (sym e.are) (truth_plain e.x e.b e.sort)

-- ---- elements of plain list terms

element_simple : (ts : PureTerms) (j : ℕ) (s : PureTerm) → are_simple ts ≡ true → slice_get (to_list ts) j ≡ Some s → is_simple s ≡ true
element_simple no_terms j s all at = cc
element_simple (term_and t ts) zero s all at = ap is_simple (sym (same_Some t s at)) ∙ (and_parts (is_simple t) (are_simple ts) all).0
element_simple (term_and t ts) (suc j) s all at = element_simple ts j s (and_parts (is_simple t) (are_simple ts) all).1 at

element_names : (k : Sort) (ts : PureTerms) (j : ℕ) (s : PureTerm) → name_sort k ts ≡ false → slice_get (to_list ts) j ≡ Some s → names_sort k s ≡ false
element_names k no_terms j s none at = cc
element_names k (term_and t ts) zero s none at = ap (names_sort k) (sym (same_Some t s at)) ∙ (or_parts (names_sort k t) (name_sort k ts) none).0
element_names k (term_and t ts) (suc j) s none at = element_names k ts j s (or_parts (names_sort k t) (name_sort k ts) none).1 at

pub plain_element : (ts us : PureTerms) (j : ℕ) (s t : PureTerm) → are_plain (list_of ts) (list_of us) ≡ true → slice_get (to_list ts) j ≡ Some s → slice_get (to_list us) j ≡ Some t → are_plain s t ≡ true
plain_element ts us j s t h at_s at_t =
    let parts = and_parts (are_simple ts && are_simple us) _ h in
    let simple = and_parts (are_simple ts) (are_simple us) parts.0 in
    let names = and_parts (not (name_sort Sort.List ts) && not (name_sort Sort.List us)) _ parts.1 in
    let no_list = and_parts (not (name_sort Sort.List ts)) (not (name_sort Sort.List us)) names.0 in
    let no_any = and_parts (not (name_sort Sort.Any ts)) (not (name_sort Sort.Any us)) names.1 in
    and_from _ _ (and_from _ _ (element_simple ts j s simple.0 at_s) (element_simple us j t simple.1 at_t))
    (and_from _ _ (and_from _ _ (not_from_false _ (element_names Sort.List ts j s (not-true _ no_list.0) at_s)) (not_from_false _ (element_names Sort.List us j t (not-true _ no_list.1) at_t)))
    (or_right _ _ (and_from _ _ (not_from_false _ (element_names Sort.Any ts j s (not-true _ no_any.0) at_s)) (not_from_false _ (element_names Sort.Any us j t (not-true _ no_any.1) at_t)))))
