-- Terms of plain atoms, and of the classes that their equalities make.
use Rattle.std.proofs.Common.{◌≡◌, ⊎_elim, ◌⊎◌, inl, inr, ℕ, zero, suc, ◌^◌, pos, neg_ℤ, List, [], Bool, true, false, not, ◌&&◌, ◌||◌, Some, slice_get, refl, sym, ap, ◌∙◌, subst, arith}
use Rattle.std.specs.List.{Contains}
use Rattle.std.proofs.lemmas.Bool.{false≢true, and_parts, and_from, or_from, or_parts, or_left, or_right, or_cases, not_from_false}
use Rattle.std.proofs.lemmas.Option.{option_and_then_some, same_Some}
use Rattle.gil_values.specs.declared.kinds.Kind.{Kind}
use Rattle.gil_values.specs.declared.operators.BinOp.{BinOp}
use Rattle.pure_terms.specs.declared.literals.Literal.{Literal}
use Rattle.pure_terms.specs.declared.variables.Sort.{Sort}
use Rattle.pure_terms.specs.declared.variables.Var.{Var}
use Rattle.pure_terms.specs.EqualityLaws.{same_sorts}
use Rattle.pure_terms.specs.Fragment.{is_simple, are_simple, is_flat, names_sort, name_sort, is_variable_of, is_integer_literal, is_integer_side, has_literals_between, have_literals_between, has_narrow_literals, is_fragment_term, is_comparison}
use Rattle.pure_terms.specs.Kinds.{kind_of_sort, is_of_kind, same_sort}
use Rattle.pure_terms.specs.Meaning.{IsOver}
use Rattle.pure_terms.specs.Pure.{PureTerm, literal, variable, list_of, unary_of, binary_of, PureTerms, no_terms, term_and, to_list, PureAtom, positive, negative, term_of, variables, variables_of_all}
use Rattle.pure_terms.proofs.KindLaws.{over_left, over_right}
use Rattle.solver_proof.specs.Chains.{equals, Sides, equality_of}
use Rattle.solver_proof.proofs.Truths.{over_sides, over_both}
use Rattle.equality_core.specs.Classes.{are_plain}
use Rattle.equality_core.specs.Equating.{Equates, itself, by_atom, turned, joined, by_elements, HaveFragmentForms}
use Rattle.equality_core.proofs.Exact.{PlainSides, plain_sides}
use Rattle.equality_core.proofs.Saying.{SaysEqual, SaysTruth, says, plain}
use Rattle.solver_rules.specs.Sides.{IsNarrow, IsTableSide}
use Rattle.solver_rules.specs.Steps.{IsPlainAtom, ArePlain, IsSplit}

abbrev pub IsSide : List Sort → PureTerm → Type 0
IsSide vars t = IsTableSide vars t

abbrev pub AreSides : List Sort → PureTerm → PureTerm → Type 0
AreSides vars s t = IsSide vars s × IsSide vars t

pub forms_of : (vars : List Sort) (list : List PureAtom) → ArePlain vars list → HaveFragmentForms list
forms_of vars list plain i a at some = (plain i a at).form

-- ---- sides of equalities

literal_side : (vars : List Sort) (b : Bool) → IsSide vars (literal (Literal.Bool b))
literal_side vars b = record { over = λ x has. absurd (none x has); simple = refl; narrow = refl; no_list = refl } where
  none : (x : Var) → Contains {X = Var} [] x → ⊥
  none x (k, below, is) = omega (arith, below)

pub sides_of : (vars : List Sort) (a : PureAtom) (sides : Sides) → IsPlainAtom vars a → equality_of a ≡ Some sides → AreSides vars sides.left sides.right
sides_of vars a sides h is = ⊎_elim equal truth (says a sides is) where
  forms : are_plain sides.left sides.right ≡ true
  forms = plain a sides is h.form

  parts : PlainSides sides.left sides.right
  parts = plain_sides sides.left sides.right forms

  equal : SaysEqual a sides → AreSides vars sides.left sides.right
  equal e =
      let over = over_sides vars BinOp.Equal sides.left sides.right (subst (λ b. IsOver vars (term_of b)) e.is h.over) in
      let narrow = and_parts (has_literals_between (neg_ℤ (pos (2 ^ 80))) (pos (2 ^ 80)) sides.left) (has_literals_between (neg_ℤ (pos (2 ^ 80))) (pos (2 ^ 80)) sides.right) (ap has_narrow_literals (sym e.is) ∙ h.literals) in
      (record { over = over.0; simple = parts.simple_left; narrow = narrow.0; no_list = parts.no_list_left }, record { over = over.1; simple = parts.simple_right; narrow = narrow.1; no_list = parts.no_list_right })

  truth : SaysTruth a sides → AreSides vars sides.left sides.right
  truth e = subst (λ (p : Sides). AreSides vars p.left p.right) (sym e.are)
      (record { over = ⊎_elim (λ f. subst (λ b. IsOver vars (term_of b)) f h.over) (λ f. subst (λ b. IsOver vars (term_of b)) f h.over) e.of; simple = refl; narrow = refl; no_list = ap (λ s. same_sort s Sort.List) (same_sorts e.x.sort Sort.Bool e.sort) }, literal_side vars e.b)

-- ---- elements

pub element_side : (vars : List Sort) (ts : PureTerms) (j : ℕ) (s : PureTerm) → IsSide vars (list_of ts) → slice_get (to_list ts) j ≡ Some s → IsSide vars s
element_side vars no_terms j s h at = cc
element_side vars (term_and t ts) zero s h at =
    let simple = and_parts (is_simple t) (are_simple ts) h.simple in
    let narrow = and_parts (has_literals_between (neg_ℤ (pos (2 ^ 80))) (pos (2 ^ 80)) t) (have_literals_between (neg_ℤ (pos (2 ^ 80))) (pos (2 ^ 80)) ts) h.narrow in
    let names = or_parts (names_sort Sort.List t) (name_sort Sort.List ts) h.no_list in
    subst (IsSide vars) (same_Some t s at) (record { over = over_left vars (variables t) (variables_of_all ts) h.over; simple = simple.0; narrow = narrow.0; no_list = names.0 })
element_side vars (term_and t ts) (suc j) s h at =
    let simple = and_parts (is_simple t) (are_simple ts) h.simple in
    let narrow = and_parts (has_literals_between (neg_ℤ (pos (2 ^ 80))) (pos (2 ^ 80)) t) (have_literals_between (neg_ℤ (pos (2 ^ 80))) (pos (2 ^ 80)) ts) h.narrow in
    let names = or_parts (names_sort Sort.List t) (name_sort Sort.List ts) h.no_list in
    element_side vars ts j s (record { over = over_right vars (variables t) (variables_of_all ts) h.over; simple = simple.1; narrow = narrow.1; no_list = names.1 }) at

same_lists : (ts us : PureTerms) → list_of ts ≡ list_of us → ts ≡ us
same_lists ts us e = cc

-- ---- equated terms

module _ (vars : List Sort) (list : List PureAtom) (plain_list : ArePlain vars list) where
  pub equated_sides : (s t : PureTerm) → Equates list s t → (s ≡ t) ⊎ AreSides vars s t
  equated_sides s t itself = inl refl
  equated_sides s t (by_atom i e) = inr (option_and_then_some equality_of (slice_get list i) (record { left = s; right = t }) e (λ a at said. sides_of vars a (record { left = s; right = t }) (plain_list i a at) said))
  equated_sides s t (turned e) = ⊎_elim (λ same. inl (sym same)) (λ both. inr (both.1, both.0)) (equated_sides t s e)
  equated_sides s t (joined {t = u} e f) = along (equated_sides s u e) (equated_sides u t f) where
    along : (s ≡ u) ⊎ AreSides vars s u → (u ≡ t) ⊎ AreSides vars u t → (s ≡ t) ⊎ AreSides vars s t
    along (inl a) (inl b) = inl (a ∙ b)
    along (inl a) (inr b) = inr (subst (IsSide vars) (sym a) b.0, b.1)
    along (inr a) (inl b) = inr (a.0, subst (IsSide vars) b a.1)
    along (inr a) (inr b) = inr (a.0, b.1)
  equated_sides s t (by_elements {ts = ts} {us = us} i e at_s at_t) = inside (equated_sides (list_of ts) (list_of us) e) where
    inside : (list_of ts ≡ list_of us) ⊎ AreSides vars (list_of ts) (list_of us) → (s ≡ t) ⊎ AreSides vars s t
    inside (inl same) = inl (same_Some s t (sym at_s ∙ ap (λ xs. slice_get (to_list xs) i) (same_lists ts us same) ∙ at_t))
    inside (inr both) = inr (element_side vars ts i s both.0 at_s, element_side vars us i t both.1 at_t)

-- ---- terms by which a list may be split

two_literals : (s t : PureTerm) → IsNarrow s → IsNarrow t → (has_literals_between (neg_ℤ (pos (2 ^ 80))) (pos (2 ^ 80)) s && has_literals_between (neg_ℤ (pos (2 ^ 80))) (pos (2 ^ 80)) t) ≡ true
two_literals s t a b = and_from _ _ a b

-- the equality of two sides without variables of sort any, or of flat ones
pub equality_plain : (vars : List Sort) (s t : PureTerm) → IsSide vars s → IsSide vars t → ((is_flat s && is_flat t) || (not (names_sort Sort.Any s) && not (names_sort Sort.Any t))) ≡ true → IsPlainAtom vars (positive (equals s t)) × IsPlainAtom vars (negative (equals s t))
equality_plain vars s t a b any = (record { over = over; form = form; literals = literals }, record { over = over; form = form; literals = literals }) where
  over : IsOver vars (equals s t)
  over = over_both vars BinOp.Equal s t a.over b.over

  simple : (is_simple s && is_simple t) ≡ true
  simple = and_from _ _ a.simple b.simple

  form : is_fragment_term (equals s t) ≡ true
  form = and_from _ _ (or_left _ _ simple) (and_from _ _ (not_from_false _ (or_from _ _ a.no_list b.no_list)) (or_right _ _ any))

  literals : (has_literals_between (neg_ℤ (pos (2 ^ 80))) (pos (2 ^ 80)) s && has_literals_between (neg_ℤ (pos (2 ^ 80))) (pos (2 ^ 80)) t) ≡ true
  literals = two_literals s t a.narrow b.narrow

-- Int variables and numbers are flat, and whole numbers
pub number_flat : (t : PureTerm) → (is_variable_of Sort.Int t || is_integer_literal t) ≡ true → is_flat t ≡ true
number_flat (literal l) is = refl
number_flat (variable x) is = refl
number_flat (list_of ts) is = absurd (false≢true is)
number_flat (unary_of op t) is = absurd (false≢true is)
number_flat (binary_of op s t) is = absurd (false≢true is)

pub number_side : (t : PureTerm) → (is_variable_of Sort.Int t || is_integer_literal t) ≡ true → is_integer_side t ≡ true
number_side (literal (Literal.Int n)) is = refl
number_side (literal (Literal.Bool b)) is = absurd (false≢true is)
number_side (literal (Literal.Str cs)) is = absurd (false≢true is)
number_side (literal (Literal.Kind k)) is = absurd (false≢true is)
number_side (literal (Literal.Proc name)) is = absurd (false≢true is)
number_side (variable x) is = ⊎_elim whole (λ never. absurd (false≢true never)) (or_cases (same_sort x.sort Sort.Int) false is) where
  whole : same_sort x.sort Sort.Int ≡ true → is_integer_side (variable x) ≡ true
  whole sort = ap (λ s. is_of_kind (kind_of_sort s) Kind.Int) (same_sorts x.sort Sort.Int sort)
number_side (list_of ts) is = absurd (false≢true is)
number_side (unary_of op t) is = absurd (false≢true is)
number_side (binary_of op s t) is = absurd (false≢true is)

pub equality_split : (vars : List Sort) (s t : PureTerm) → IsSide vars s → IsSide vars t → (is_variable_of Sort.Int s || is_integer_literal s) ≡ true → (is_variable_of Sort.Int t || is_integer_literal t) ≡ true → IsSplit vars (equals s t)
equality_split vars s t a b number_s number_t = record {
  may = or_left (is_simple s && is_simple t) (is_comparison (equals s t)) (and_from _ _ a.simple b.simple);
  true_there = (equality_plain vars s t a b (or_left _ _ (and_from _ _ (number_flat s number_s) (number_flat t number_t)))).0;
  basic = inr (record { op = BinOp.Equal; left = s; right = t; is = refl; form = inl refl; whole_left = number_side s number_s; whole_right = number_side t number_t });
}

pub boolean_split : (vars : List Sort) (t : PureTerm) → IsSide vars t → is_variable_of Sort.Bool t ≡ true → IsSplit vars t
boolean_split vars (variable x) side is = record { may = or_left _ _ is; true_there = record { over = side.over; form = form; literals = refl }; basic = inl is } where
  sort : x.sort ≡ Sort.Bool
  sort = same_sorts x.sort Sort.Bool is

  form : is_fragment_term (variable x) ≡ true
  form = subst (λ (s : Sort). is_fragment_term (variable (record { number = x.number; sort = s })) ≡ true) (sym sort) refl
boolean_split vars (literal l) side is = absurd (false≢true is)
boolean_split vars (list_of ts) side is = absurd (false≢true is)
boolean_split vars (unary_of op t) side is = absurd (false≢true is)
boolean_split vars (binary_of op s t) side is = absurd (false≢true is)

-- the sides of a flat disequality
pub flat_sides : (vars : List Sort) (s t : PureTerm) → IsPlainAtom vars (negative (equals s t)) → is_flat s ≡ true → is_flat t ≡ true → AreSides vars s t
flat_sides vars s t h flat_s flat_t = sides_of vars (positive (equals s t)) (record { left = s; right = t }) (record { over = h.over; form = h.form; literals = h.literals }) (said s flat_s) where
  said : (s : PureTerm) → is_flat s ≡ true → equality_of (positive (equals s t)) ≡ Some (record { left = s; right = t })
  said (literal l) flat = refl
  said (variable x) flat = refl
  said (list_of ts) flat = absurd (false≢true flat)
  said (unary_of op u) flat = absurd (false≢true flat)
  said (binary_of op u w) flat = absurd (false≢true flat)
