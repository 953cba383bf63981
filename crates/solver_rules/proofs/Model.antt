-- Where no rule has anything to add, the values of classes satisfy the list.
use Rattle.std.proofs.Common.{◌≡◌, ⊎_elim, ◌⊎◌, inl, inr, ℕ, List, Bool, true, false, ◌&&◌, ◌||◌, if◌then◌else◌, Option, Some, None, slice_get, refl, ap, ◌∙◌}
use Rattle.std.specs.Option.{is_some}
use Rattle.std.proofs.lemmas.Bool.{false≢true, and_parts, or_cases}
use Rattle.gil_values.specs.declared.kinds.Kind.{Kind}
use Rattle.gil_values.specs.declared.operators.BinOp.{BinOp}
use Rattle.gil_values.specs.declared.operators.UnOp.{UnOp}
use Rattle.gil_values.specs.Pure.{PureValue}
use Rattle.pure_terms.specs.declared.literals.Literal.{Literal}
use Rattle.pure_terms.specs.declared.variables.Sort.{Sort}
use Rattle.pure_terms.specs.declared.variables.Var.{Var}
use Rattle.pure_terms.specs.Fragment.{is_simple, is_variable_of, is_simple_equality, is_comparison, is_order, is_integer_side, is_kind_test, is_kind_of_any, is_kind_literal, has_form, is_fragment_term}
use Rattle.pure_terms.specs.Meaning.{truth, Satisfies}
use Rattle.pure_terms.specs.Pure.{PureTerm, literal, variable, list_of, unary_of, binary_of, PureAtom, positive, negative, opening, term_of}
use Rattle.pure_terms.proofs.FragmentLaws.{all_pass}
use Rattle.linear_core.specs.Answers.{IsSolution}
use Rattle.solver_proof.specs.Chains.{Sides, equals, KindFact, kind_fact, kind_fact_of, kind_fact_of_term, equality_of, truth_term}
use Rattle.equality_core.specs.Classes.{PureClasses, given_list}
use Rattle.equality_core.specs.Valued.{MeetsApart}
use Rattle.solver_rules.specs.declared.rules.Rule.{Rule}
use Rattle.solver_rules.specs.Rows.{rows_from}
use Rattle.solver_rules.specs.Rules.{AreDone, AreKinds}
use Rattle.solver_rules.specs.Steps.{IsPlainAtom, IsNode}
use Rattle.solver_rules.proofs.Disequalities.{AreGathered}
use Rattle.solver_rules.proofs.Given.{given_there}
use Rattle.solver_rules.proofs.ListValues.{simple_differ}
use Rattle.solver_rules.proofs.Modelling.{fact_true, same_truth}
use Rattle.solver_rules.proofs.Opened.{plain_there}
use Rattle.solver_rules.proofs.RowsMet.{order_true}

-- the atom is an equality, a disequality of simple terms, a comparison, or says something of a kind
abbrev PlainForm : PureAtom → Type 0
PlainForm a = (is_some (equality_of a) ≡ true) ⊎ (((s : PureTerm) × ((t : PureTerm) × ((a ≡ negative (equals s t)) × (is_simple s ≡ true)))) ⊎ (((t : PureTerm) × (((a ≡ positive t) ⊎ (a ≡ negative t)) × (is_comparison t ≡ true))) ⊎ (is_some (kind_fact_of a) ≡ true)))

equality_there : (s t : PureTerm) → is_simple s ≡ true → is_some (equality_of (positive (equals s t))) ≡ true
equality_there (literal l) t simple = refl
equality_there (variable x) t simple = refl
equality_there (list_of ts) t simple = refl
equality_there (unary_of op u) t simple = absurd (false≢true simple)
equality_there (binary_of op u w) t simple = refl

simple_of : (t : PureTerm) → is_simple_equality t ≡ true → (s : PureTerm) × ((u : PureTerm) × ((t ≡ equals s u) × (is_simple s ≡ true)))
simple_of (binary_of BinOp.Equal s u) h = (s, (u, (refl, (and_parts (is_simple s) (is_simple u) h).0)))
simple_of (binary_of op s u) h = absurd (false≢true h)
simple_of t h = absurd (false≢true h)

fact_there : (b : Bool) (s t : PureTerm) → is_kind_of_any s ≡ true → is_kind_literal t ≡ true → is_some (kind_fact b s t) ≡ true
fact_there b (unary_of UnOp.Kind s) (literal (Literal.Kind k)) any kind = refl
fact_there b (unary_of UnOp.Kind s) t any kind = cc
fact_there b s t any kind = cc

test_there : (b : Bool) (t : PureTerm) → is_kind_test t ≡ true → is_some (kind_fact_of_term b t) ≡ true
test_there b (binary_of BinOp.Equal s t) h = let parts = and_parts (is_kind_of_any s) (is_kind_literal t) h in fact_there b s t parts.0 parts.1
test_there b (binary_of op s t) h = absurd (false≢true h)
test_there b t h = absurd (false≢true h)

abbrev sides_if : Var → Bool → Bool → Option Sides
sides_if x b whether = if whether then Some (record { left = variable x; right = truth_term b }) else None

variable_there : (t : PureTerm) → is_variable_of Sort.Bool t ≡ true → (is_some (equality_of (positive t)) ≡ true) × (is_some (equality_of (negative t)) ≡ true)
variable_there (variable x) h = (ap (λ b. is_some (sides_if x true b)) h, ap (λ b. is_some (sides_if x false b)) h)
variable_there (literal l) h = absurd (false≢true h)
variable_there (list_of ts) h = absurd (false≢true h)
variable_there (unary_of op t) h = absurd (false≢true h)
variable_there (binary_of op s t) h = absurd (false≢true h)

form_of : (a : PureAtom) (t : PureTerm) → (a ≡ positive t) ⊎ (a ≡ negative t) → is_fragment_term t ≡ true → PlainForm a
form_of a t is h = ⊎_elim (λ e. a_variable is e) (λ rest. ⊎_elim (λ e. an_equality is e) (λ last. ⊎_elim (λ e. inr (inr (inl (t, (is, e))))) (λ e. a_test is e) (or_cases (is_comparison t) (is_kind_test t) last))
    (or_cases (is_simple_equality t) (is_comparison t || is_kind_test t) rest)) (or_cases (is_variable_of Sort.Bool t) (is_simple_equality t || (is_comparison t || is_kind_test t)) (and_parts (has_form t) _ h).0) where
      a_variable : (a ≡ positive t) ⊎ (a ≡ negative t) → is_variable_of Sort.Bool t ≡ true → PlainForm a
      a_variable (inl is) e = inl (ap (λ b. is_some (equality_of b)) is ∙ (variable_there t e).0)
      a_variable (inr is) e = inl (ap (λ b. is_some (equality_of b)) is ∙ (variable_there t e).1)

      an_equality : (a ≡ positive t) ⊎ (a ≡ negative t) → is_simple_equality t ≡ true → PlainForm a
      an_equality (inl is) e = let (s, (u, (same, simple))) = simple_of t e in inl (ap (λ b. is_some (equality_of b)) (is ∙ ap positive same) ∙ equality_there s u simple)
      an_equality (inr is) e = let (s, (u, (same, simple))) = simple_of t e in inr (inl (s, (u, (is ∙ ap negative same, simple))))

      a_test : (a ≡ positive t) ⊎ (a ≡ negative t) → is_kind_test t ≡ true → PlainForm a
      a_test (inl is) e = inr (inr (inr (ap (λ b. is_some (kind_fact_of b)) is ∙ test_there true t e)))
      a_test (inr is) e = inr (inr (inr (ap (λ b. is_some (kind_fact_of b)) is ∙ test_there false t e)))

plain_form : (vars : List Sort) (a : PureAtom) → IsPlainAtom vars a → PlainForm a
plain_form vars (positive t) h = form_of (positive t) t (inl refl) h.form
plain_form vars (negative t) h = form_of (negative t) t (inr refl) h.form
plain_form vars (opening t) h = absurd (false≢true h.form)

some_fact : (o : Option KindFact) → is_some o ≡ true → (f : KindFact) × (o ≡ Some f)
some_fact (Some f) h = (f, refl)
some_fact None h = absurd (false≢true h)

-- the sides of a comparison
record IsComparison (t : PureTerm) : Type 0 where
  op : BinOp
  left : PureTerm
  right : PureTerm
  is : t ≡ binary_of op left right
  whole_left : is_integer_side left ≡ true
  whole_right : is_integer_side right ≡ true

comparison_of : (t : PureTerm) → is_comparison t ≡ true → IsComparison t
comparison_of (binary_of op s u) h =
    let sides = and_parts (is_integer_side s) (is_integer_side u) (and_parts (is_order op) (is_integer_side s && is_integer_side u) h).1 in
    record { op = op; left = s; right = u; is = refl; whole_left = sides.0; whole_right = sides.1 }
comparison_of (literal l) h = absurd (false≢true h)
comparison_of (variable x) h = absurd (false≢true h)
comparison_of (list_of ts) h = absurd (false≢true h)
comparison_of (unary_of op t) h = absurd (false≢true h)

module _ (vars : List Sort) (list : List PureAtom) (c : PureClasses) (node : IsNode vars list c) (numbers : List PureValue) (solved : IsSolution vars (rows_from c.list) numbers) (kinds : List Kind) (are : AreKinds vars c kinds)
    (one : AreDone Rule.OneKind c numbers) (two : AreDone Rule.TwoKinds c numbers) (numbered : AreDone Rule.Numbers c numbers) (orders : AreDone Rule.Orders c numbers) (lists : AreDone Rule.Lists c numbers)
    (apart : List PureAtom) (gathered : AreGathered c apart) (v : List PureValue) (meets : MeetsApart vars (given_list c) numbers kinds apart v) where
  here : (i : ℕ) (a : PureAtom) → slice_get list i ≡ Some a → slice_get (given_list c) i ≡ Some a
  here i a at = ap (λ l. slice_get l i) node.given ∙ at

  atom_true : (i : ℕ) (a : PureAtom) → slice_get list i ≡ Some a → truth v a ≡ true
  atom_true i a at = by_form (plain_form vars a (node.plain i a at)) where
    by_form : PlainForm a → truth v a ≡ true
    by_form (inl equal) = meets.equal i a (here i a at) equal
    by_form (inr (inl h)) =
        let (s, (t, (is, simple))) = h in
        ap (truth v) is ∙ simple_differ vars list c node numbers kinds are one two numbered orders lists apart gathered v meets i s t (here i a at ∙ ap Some is) simple
    by_form (inr (inr (inl h))) =
        let (t, (is, order)) = h in
        let parts = comparison_of t order in
        let term : term_of a ≡ binary_of parts.op parts.left parts.right = ⊎_elim (λ e. ap term_of e) (λ e. ap term_of e) is ∙ parts.is in
        same_truth vars list c node numbers kinds are one two apart v meets a parts.op parts.left parts.right term (node.plain i a at).over parts.whole_left parts.whole_right
        (order_true vars c.list (plain_there vars list c node) numbers solved.proper solved.met i a t (given_there vars list c node i a at) is order)
    by_form (inr (inr (inr h))) = let (f, is) = some_fact (kind_fact_of a) h in fact_true vars list c node numbers kinds are one two apart v meets i a f (here i a at) is

  pub satisfied : Satisfies vars v list
  satisfied = record { proper = meets.proper; true_there = all_pass (truth v) list atom_true }
