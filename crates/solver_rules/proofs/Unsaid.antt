-- What a list doesn't say.
use Rattle.std.proofs.Common.{◌≡◌, ⊎_elim, inl, inr, ℕ, List, Bool, true, false, if◌then◌else◌, Option, Some, None, slice_get, ◌^◌, ℤ, pos, neg_ℤ, refl, sym, ap, ◌∙◌, subst, arith}
use Rattle.std.specs.Option.{option_and_then}
use Rattle.std.specs.Prelude.{int_le}
use Rattle.std.proofs.lemmas.Bool.{false≢true, true≢false, false_from_ne_true, both_ways, and_parts, and_from}
use Rattle.std.proofs.lemmas.Int.{ints}
use Rattle.gil_values.specs.declared.kinds.Kind.{Kind}
use Rattle.gil_values.specs.declared.operators.BinOp.{BinOp}
use Rattle.gil_values.specs.Equality.{same_value}
use Rattle.gil_values.specs.EqualityLaws.{same_value-same}
use Rattle.gil_values.specs.Pure.{PureValue, integer, boolean}
use Rattle.pure_terms.specs.declared.literals.Literal.{Literal}
use Rattle.pure_terms.specs.declared.variables.Sort.{Sort}
use Rattle.pure_terms.specs.declared.variables.Var.{Var}
use Rattle.pure_terms.specs.Fragment.{is_simple, is_variable_of, is_integer_side, has_literals_between}
use Rattle.pure_terms.specs.Kinds.{same_sort}
use Rattle.pure_terms.specs.Meaning.{value, truth, is_that_boolean}
use Rattle.pure_terms.specs.Pure.{PureTerm, literal, variable, list_of, unary_of, binary_of, PureAtom, positive, negative}
use Rattle.pure_terms.proofs.DirectLaws.{binary-value}
use Rattle.linear_core.specs.Answers.{IsSolution}
use Rattle.solver_proof.specs.Chains.{equals, kind_is, truth_term, Sides, equality_of, kind_fact_of}
use Rattle.solver_proof.specs.Closing.{at_most}
use Rattle.solver_proof.proofs.Truths.{equality_false, over_sides}
use Rattle.equality_core.specs.declared.classes.Wanted.{Wanted}
use Rattle.equality_core.specs.Classes.{PureClasses, given_list}
use Rattle.equality_core.specs.Classified.{first_in_class, IsEquating}
use Rattle.equality_core.specs.Equating.{Equates, itself, by_atom, joined}
use Rattle.equality_core.proofs.Seeking.{first-none}
use Rattle.solver_rules.specs.Rules.{said, IsUnsaid, IsUndecided, SaysDifferent, SaysPositive, HasKindFact, IsDenied, IsOrderSaid}
use Rattle.solver_rules.specs.Rows.{rows_from}
use Rattle.solver_rules.specs.Steps.{IsNode}
use Rattle.solver_rules.proofs.Disequalities.{flip_values}
use Rattle.solver_rules.proofs.Given.{given_there}
use Rattle.solver_rules.proofs.KindsApart.{first_found, forms_given, clear_given}
use Rattle.solver_rules.proofs.Opened.{plain_there}
use Rattle.solver_rules.proofs.Ordering.{equal_there}
use Rattle.solver_rules.proofs.RowsMet.{order_true}
use Rattle.solver_rules.proofs.RowTruths.{IsSideAt, side_at}

pub different_there : (list : List PureAtom) (s t : PureTerm) (i : ℕ) → slice_get list i ≡ Some (negative (equals s t)) → SaysDifferent list s t
different_there list s t i at = record { place = i; at = inl at }

pub positive_there : (list : List PureAtom) (s t : PureTerm) (i : ℕ) → slice_get list i ≡ Some (positive (equals s t)) → SaysPositive list s t
positive_there list s t i at = record { place = i; at = inl at }

abbrev sides_when : Bool → Var → Bool → Option Sides
sides_when whole x b = if whole then Some (record { left = variable x; right = truth_term b }) else None

module _ (vars : List Sort) (list : List PureAtom) (c : PureClasses) (node : IsNode vars list c) where
  -- a class without a literal
  no_literal : (t : PureTerm) (l : Literal) → first_in_class c.nodes Wanted.Literal t ≡ None → Equates (given_list c) t (literal l) → ⊥
  no_literal t l is e = true≢false (first-none c node.whole (forms_given vars list c node) (clear_given vars list c node) Wanted.Literal t is (literal l) e)

  pub literal_unsaid : (x : Var) (l : Literal) → first_in_class c.nodes Wanted.Literal (variable x) ≡ None → IsUnsaid list (positive (equals (variable x) (literal l)))
  literal_unsaid x l is i at = no_literal (variable x) l is (equal_there vars list c node i (positive (equals (variable x) (literal l))) (variable x) (literal l) at refl refl).equated

  sides_if : (x : Var) (b whole : Bool) → whole ≡ true → sides_when whole x b ≡ Some (record { left = variable x; right = truth_term b })
  sides_if x b whole is = ap (λ (w : Bool). sides_when w x b) is

  truth_equated : (x : Var) (b : Bool) (i : ℕ) → same_sort x.sort Sort.Bool ≡ true → slice_get list i ≡ Some (said b (variable x)) → Equates (given_list c) (variable x) (truth_term b)
  truth_equated x true i sort at = subst (λ l. Equates l (variable x) (truth_term true)) (sym node.given) (by_atom i (ap (option_and_then equality_of) at ∙ sides_if x true (same_sort x.sort Sort.Bool) sort))
  truth_equated x false i sort at = subst (λ l. Equates l (variable x) (truth_term false)) (sym node.given) (by_atom i (ap (option_and_then equality_of) at ∙ sides_if x false (same_sort x.sort Sort.Bool) sort))

  -- a Bool variable in a class without a literal
  truth_undecided : (t : PureTerm) (x : Var) → Equates (given_list c) t (variable x) → same_sort x.sort Sort.Bool ≡ true → first_in_class c.nodes Wanted.Literal t ≡ None → IsUndecided list (variable x)
  truth_undecided t x e sort is = record {
    not_true = λ i at. no_literal t (Literal.Bool true) is (joined e (truth_equated x true i sort at));
    not_false = λ i at. no_literal t (Literal.Bool false) is (joined e (truth_equated x false i sort at));
  }

  pub boolean_undecided : (t u : PureTerm) → first_in_class c.nodes Wanted.KnownKind t ≡ Some u → is_variable_of Sort.Bool u ≡ true → first_in_class c.nodes Wanted.Literal t ≡ None → IsUndecided list u
  boolean_undecided t (variable x) first sort is = truth_undecided t x (first_found vars list c node Wanted.KnownKind t (variable x) first).equated sort is
  boolean_undecided t (literal l) first sort is = absurd (false≢true sort)
  boolean_undecided t (list_of ts) first sort is = absurd (false≢true sort)
  boolean_undecided t (unary_of op u) first sort is = absurd (false≢true sort)
  boolean_undecided t (binary_of op u w) first sort is = absurd (false≢true sort)

  -- the sides of an equality of the list are equated
  pub not_said_equal : (m n : PureTerm) → is_simple m ≡ true → IsEquating c m n false → IsUnsaid list (positive (equals m n))
  not_said_equal m n simple apart i at =
      apart (forms_given vars list c node) (clear_given vars list c node) (equal_there vars list c node i (positive (equals m n)) m n at refl simple).equated

  pub kind_unsaid : (x : Var) → ((k : Kind) → HasKindFact c (variable x) k → ⊥) → (k : Kind) → IsUnsaid (given_list c) (positive (kind_is (variable x) k))
  kind_unsaid x none k i at = none k (record { place = i; fact = record { subject = variable x; kind = k; is_so = true }; at = ap (option_and_then kind_fact_of) at; so = refl; kind = refl; equated = itself })

  -- ---- orders that are denied

  not_at_most : (a b : ℤ) → int_le a b ≡ false → same_value (integer a) (integer b) ≡ false
  not_at_most a b h = false_from_ne_true (same_value (integer a) (integer b)) (λ same. both_ways (int_le a b) h (reflexive a b (same_number (same_value-same (integer a) (integer b) same)))) where
    same_number : integer a ≡ integer b → a ≡ b
    same_number e = cc

    reflexive : (a b : ℤ) → a ≡ b → int_le a b ≡ true
    reflexive a b e = grind (arith, ints)

  module _ (numbers : List PureValue) (solved : IsSolution vars (rows_from c.list) numbers) where
    denied_one : (s t : PureTerm) (a b : ℤ) → value numbers s ≡ Some (integer a) → value numbers t ≡ Some (integer b) → is_integer_side s ≡ true → is_integer_side t ≡ true → IsDenied list (at_most s t) → int_le a b ≡ false
    denied_one s t a b left right whole_s whole_t denied =
        let is : truth numbers (negative (at_most s t)) ≡ true = order_true vars c.list (plain_there vars list c node) numbers solved.proper solved.met denied.place (negative (at_most s t)) (at_most s t) (given_there vars list c node denied.place (negative (at_most s t)) denied.at) (inr refl) (and_from _ _ whole_s whole_t) in
        denied_is (int_le a b) (sym (ap (is_that_boolean false) (binary-value numbers BinOp.LessOrEqual s t (integer a) (integer b) left right)) ∙ is) where
          denied_is : (b : Bool) → is_that_boolean false (Some (boolean b)) ≡ true → b ≡ false
          denied_is true h = absurd (false≢true h)
          denied_is false h = refl

    -- where an order of two whole numbers is denied, they aren't equal with numbers that solve the rows
    pub denied_differ : (i : ℕ) (s t : PureTerm) → slice_get list i ≡ Some (negative (equals s t)) → is_integer_side s ≡ true → is_integer_side t ≡ true → IsOrderSaid list s t → truth numbers (negative (equals s t)) ≡ true
    denied_differ i s t at whole_s whole_t denied =
        let h = node.plain i (negative (equals s t)) at in
        let over = over_sides vars BinOp.Equal s t h.over in
        let narrow = and_parts (has_literals_between (neg_ℤ (pos (2 ^ 80))) (pos (2 ^ 80)) s) (has_literals_between (neg_ℤ (pos (2 ^ 80))) (pos (2 ^ 80)) t) h.literals in
        let left : IsSideAt numbers s = side_at vars numbers solved.proper s whole_s over.0 narrow.0 in
        let right : IsSideAt numbers t = side_at vars numbers solved.proper t whole_t over.1 narrow.1 in
        equality_false numbers s t (integer left.number) (integer right.number) left.has right.has
        (⊎_elim (λ up. not_at_most left.number right.number (denied_one s t left.number right.number left.has right.has whole_s whole_t up))
        (λ down. flip_values (integer right.number) (integer left.number) (not_at_most right.number left.number (denied_one t s right.number left.number right.has left.has whole_t whole_s down))) denied)
