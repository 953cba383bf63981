-- Whole numbers that are equal, that differ and that are ordered.
use Rattle.std.proofs.Common.{◌≡◌, ⊎_elim, inl, inr, ℕ, ◌^◌, pos, neg_ℤ, List, [], true, false, ◌&&◌, Some, slice_get, refl, sym, ap, ◌∙◌, subst}
use Rattle.std.specs.Option.{option_and_then}
use Rattle.std.proofs.lemmas.List.Elements.{Contains-push}
use Rattle.std.proofs.lemmas.Bool.{false≢true, and_parts, and_from, or_from, or_left, not_from_false}
use Rattle.gil_values.specs.declared.operators.BinOp.{BinOp}
use Rattle.pure_terms.specs.declared.variables.Sort.{Sort}
use Rattle.pure_terms.specs.EqualityLaws.{same_term-refl}
use Rattle.pure_terms.specs.Fragment.{is_simple, are_simple, is_shift, names_sort, is_variable_of, is_integer_literal, is_integer_side, has_literals_between, is_comparison, is_fragment_term}
use Rattle.pure_terms.specs.Kinds.{same_sort}
use Rattle.pure_terms.specs.Meaning.{IsOver}
use Rattle.pure_terms.specs.Pure.{PureTerm, literal, variable, list_of, unary_of, binary_of, PureAtom, positive, negative}
use Rattle.pure_terms.proofs.SimpleLaws.{from_is_variable_of, from_is_integer_literal}
use Rattle.solver_proof.specs.Chains.{equals, Sides, disequality_at, disequality_of, equality_of, equality_at}
use Rattle.solver_proof.specs.Closing.{at_most, at_most_of, at_most_at, meet}
use Rattle.solver_proof.proofs.Truths.{over_sides, over_both}
use Rattle.equality_core.specs.declared.classes.Wanted.{Wanted}
use Rattle.equality_core.specs.Classes.{PureClasses, given_list}
use Rattle.equality_core.specs.Classified.{is_wanted, first_in_class}
use Rattle.equality_core.specs.Equating.{Equates, by_atom}
use Rattle.equality_core.proofs.Saying.{equality_said}
use Rattle.equality_core.proofs.Valuing.{int_variables}
use Rattle.solver_rules.specs.Rules.{SaysPositive, SaysEqual}
use Rattle.solver_rules.specs.Sides.{IsTableSide}
use Rattle.solver_rules.specs.Steps.{IsPlainAtom, IsNode, IsSplit}
use Rattle.solver_rules.proofs.KindsApart.{first_found, first_side}
use Rattle.solver_rules.proofs.Plain.{equality_split, sides_of}

-- an atom that is the equality of simple terms says that they are equal
pub says_equal_from : (list : List PureAtom) (s t : PureTerm) → is_simple s ≡ true → is_simple t ≡ true → SaysPositive list s t → SaysEqual list s t
says_equal_from list s t simple_s simple_t h = record { place = h.place; at = ⊎_elim (λ e. inl (said s t simple_s e)) (λ e. inr (said t s simple_t e)) h.at } where
  said : (u w : PureTerm) → is_simple u ≡ true → slice_get list h.place ≡ Some (positive (equals u w)) → equality_at list h.place ≡ Some (record { left = u; right = w })
  said u w simple at = ap (option_and_then equality_of) at ∙ equality_said u w simple

-- the numbers of two classes
pub numbers_split : (vars : List Sort) (list : List PureAtom) (c : PureClasses) → IsNode vars list c → (s t m n : PureTerm) → IsTableSide vars s → IsTableSide vars t
    → first_in_class c.nodes Wanted.Number s ≡ Some m → first_in_class c.nodes Wanted.Number t ≡ Some n → IsSplit vars (equals m n)
numbers_split vars list c node s t m n side_s side_t is_m is_n =
    equality_split vars m n (first_side vars list c node Wanted.Number s m side_s is_m) (first_side vars list c node Wanted.Number t n side_t is_n)
    (first_found vars list c node Wanted.Number s m is_m).wanted (first_found vars list c node Wanted.Number t n is_n).wanted

pub number_split : (vars : List Sort) (list : List PureAtom) (c : PureClasses) → IsNode vars list c → (s n m : PureTerm) → IsTableSide vars s → IsTableSide vars n
    → first_in_class c.nodes Wanted.Number s ≡ Some m → is_wanted Wanted.Number n ≡ true → IsSplit vars (equals m n)
number_split vars list c node s n m side_s side_n is_m wanted =
    equality_split vars m n (first_side vars list c node Wanted.Number s m side_s is_m) side_n (first_found vars list c node Wanted.Number s m is_m).wanted wanted

-- the variables of whole numbers are Int ones
pub integer_names : (k : Sort) → same_sort Sort.Int k ≡ false → (t : PureTerm) → is_integer_side t ≡ true → names_sort k t ≡ false
integer_names k other (literal l) side = refl
integer_names k other (variable x) side = ap (λ s. same_sort s k) (int_variables (variable x) side x (Contains-push [] x)) ∙ other
integer_names k other (list_of ts) side = absurd (false≢true (and_parts (are_simple ts) false side).1)
integer_names k other (unary_of op t) side = absurd (false≢true side)
integer_names k other (binary_of op s t) side = or_from _ _ left right where
  form : (is_shift op && (is_variable_of Sort.Int s && is_integer_literal t)) ≡ true
  form = (and_parts (is_shift op && (is_variable_of Sort.Int s && is_integer_literal t)) _ side).0

  parts : (is_variable_of Sort.Int s ≡ true) × (is_integer_literal t ≡ true)
  parts = and_parts (is_variable_of Sort.Int s) (is_integer_literal t) (and_parts (is_shift op) _ form).1

  left : names_sort k s ≡ false
  left = let (x, (is, sort)) = from_is_variable_of Sort.Int s parts.0 in ap (names_sort k) is ∙ ap (λ s. same_sort s k) sort ∙ other

  right : names_sort k t ≡ false
  right = let (n, is) = from_is_integer_literal t parts.1 in ap (names_sort k) is

integer_simple : (t : PureTerm) → is_integer_side t ≡ true → is_simple t ≡ true
integer_simple t side = (and_parts (is_simple t) _ side).0

-- the order of two whole numbers
pub order_split : (vars : List Sort) (s t : PureTerm) → IsOver vars s → IsOver vars t → has_literals_between (neg_ℤ (pos (2 ^ 80))) (pos (2 ^ 80)) s ≡ true → has_literals_between (neg_ℤ (pos (2 ^ 80))) (pos (2 ^ 80)) t ≡ true
    → is_integer_side s ≡ true → is_integer_side t ≡ true → IsSplit vars (at_most s t)
order_split vars s t over_s over_t narrow_s narrow_t side_s side_t = record { may = compared; true_there = record { over = over_both vars BinOp.LessOrEqual s t over_s over_t; form = form; literals = and_from _ _ narrow_s narrow_t }; basic = inr (record { op = BinOp.LessOrEqual; left = s; right = t; is = refl; form = inr refl; whole_left = side_s; whole_right = side_t }) } where
  compared : is_comparison (at_most s t) ≡ true
  compared = and_from _ _ side_s side_t

  form : is_fragment_term (at_most s t) ≡ true
  form = and_from _ _ (or_left (is_comparison (at_most s t)) false compared)
      (and_from _ _ (not_from_false _ (or_from _ _ (integer_names Sort.List refl s side_s) (integer_names Sort.List refl t side_t)))
      (not_from_false _ (or_from _ _ (integer_names Sort.Any refl s side_s) (integer_names Sort.Any refl t side_t))))

pub orders_split : (vars : List Sort) (s t : PureTerm) → IsPlainAtom vars (negative (equals s t)) → is_integer_side s ≡ true → is_integer_side t ≡ true → IsSplit vars (at_most s t) × IsSplit vars (at_most t s)
orders_split vars s t h side_s side_t =
    let over = over_sides vars BinOp.Equal s t h.over in
    let narrow = and_parts (has_literals_between (neg_ℤ (pos (2 ^ 80))) (pos (2 ^ 80)) s) (has_literals_between (neg_ℤ (pos (2 ^ 80))) (pos (2 ^ 80)) t) h.literals in
    (order_split vars s t over.0 over.1 narrow.0 narrow.1 side_s side_t, order_split vars t s over.1 over.0 narrow.1 narrow.0 side_t side_s)

pub meets : (list : List PureAtom) (s t : PureTerm) (i j k : ℕ) → slice_get list i ≡ Some (positive (at_most s t)) → slice_get list j ≡ Some (positive (at_most t s)) → slice_get list k ≡ Some (negative (equals s t))
    → meet (at_most_at list i) (at_most_at list j) (disequality_at list k) ≡ true
meets list s t i j k up down differ =
    (λ h. meet (option_and_then at_most_of (up h)) (option_and_then at_most_of (down h)) (option_and_then disequality_of (differ h)))
    ∙ and_from _ _ (and_from _ _ (same_term-refl s) (same_term-refl t)) (or_left _ _ (and_from _ _ (same_term-refl s) (same_term-refl t)))

-- an equality of the list
pub record IsEqualThere (vars : List Sort) (c : PureClasses) (s t : PureTerm) : Type 0 where
  pub equated : Equates (given_list c) s t
  pub left : IsTableSide vars s
  pub right : IsTableSide vars t

pub equal_there : (vars : List Sort) (list : List PureAtom) (c : PureClasses) → IsNode vars list c → (i : ℕ) (a : PureAtom) (s t : PureTerm) → slice_get list i ≡ Some a → a ≡ positive (equals s t) → is_simple s ≡ true → IsEqualThere vars c s t
equal_there vars list c node i a s t at is simple =
    let sides : Sides = record { left = s; right = t } in
    let said : equality_of a ≡ Some (record { left = s; right = t }) = ap equality_of is ∙ equality_said s t simple in
    let both = sides_of vars a (record { left = s; right = t }) (node.plain i a at) said in
    record { equated = subst (λ l. Equates l s t) (sym node.given) (by_atom i (ap (option_and_then equality_of) at ∙ said)); left = both.0; right = both.1 }
