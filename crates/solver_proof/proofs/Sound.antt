-- A list that a proof closes has no proper valuation under which every atom is true.
use Rattle.std.proofs.Common.{if◌then◌else◌, ◌&&◌, ◌≡◌, ⊎_elim, ◌⊎◌, inl, inr, ℕ, zero, suc, List, [], ◌∷◌, ◌++◌, map, length, Bool, true, false, ◌||◌, Option, Some, None, slice_get, refl, sym, ap, ◌∙◌, subst, true≢false, arith}
use Rattle.std.specs.Option.{option_map, option_and_then, IsSomeAnd}
use Rattle.std.proofs.lemmas.Option.{option_and_then_some}
use Rattle.std.specs.List.{Contains}
use Rattle.std.proofs.lemmas.Bool.{false≢true, and_parts, and_from, or_cases, cases_Bool, not-true}
use Rattle.std.proofs.lemmas.List.Elements.{Contains-append_left, Contains-append_right, Contains-append_cases}
use Rattle.gil_values.specs.declared.kinds.Kind.{Kind}
use Rattle.gil_values.specs.declared.operators.BinOp.{BinOp}
use Rattle.gil_values.specs.declared.operators.UnOp.{UnOp}
use Rattle.gil_values.specs.Equality.{same_value}
use Rattle.gil_values.specs.EqualityLaws.{same_value-same, same_value-refl}
use Rattle.gil_values.specs.Pure.{PureValue, integer, boolean, text, symbol, kind, procedure, list, kind_of, from_list as list_elements, to_list as elements_of, to_list-from_list}
use Rattle.gil_values.proofs.OperatorSymbols.{none_contained}
use Rattle.pure_terms.specs.declared.literals.Literal.{Literal}
use Rattle.pure_terms.specs.declared.variables.Sort.{Sort}
use Rattle.pure_terms.specs.declared.variables.Var.{Var}
use Rattle.pure_terms.specs.Fragment.{is_variable_of, is_simple_equality, is_comparison, is_kind_test, has_form}
use Rattle.pure_terms.specs.Meaning.{both, value, values, truth, is_that_boolean, all_true, IsProper, IsOver, AreOver}
use Rattle.pure_terms.specs.Pure.{PureTerm, literal, variable, list_of, binary_of, unary_of, PureTerms, no_terms, term_and, to_list, PureAtom, positive, negative, term_of, variables, variables_of_all, variables_of_atoms}
use Rattle.pure_terms.proofs.KindLaws.{same_kinds, over_left, over_right}
use Rattle.pure_terms.proofs.SimpleLaws.{variable-has_value, form-boolean, IsBoolean}
use Rattle.pure_terms.proofs.VariableLaws.{depend_on_variables}
use Rattle.solver_proof.specs.Chains.{equals, truth_term, kind_is, Sides, disequality_of, disequality_at, KindFact, kind_fact_of, kind_fact_at, are_sides}
use Rattle.pure_terms.specs.Equality.{same_term}
use Rattle.pure_terms.specs.EqualityLaws.{same_term-same}
use Rattle.solver_proof.specs.Closing.{at_most, compares_literals, is_false_comparison, may_split, kinds_of_values, all_kinds, kind_atoms, boolean_atoms, kind_value_atoms, element_equalities, element_disequalities, HaveOneLength, Lists, lists_of_terms, lists_of, equal_sides_of, equal_lists_at, different_lists_at, atoms_of_kind, atoms_of_subject, value_atoms, at_most_of, at_most_at, meet, Closes, CloseEach}
use Rattle.solver_proof.specs.Pure.{PureProof, sum_of, false_at, chain, cases_of, values_at, parts_apart, parts_at, differ_at, split_on, meet_at, PureProofs, no_proofs, proof_and}
use Rattle.solver_proof.specs.Refuting.{ClosedListsHaveNoSolution}
use Rattle.solver_proof.proofs.ChainSound.{chain-closes}
use Rattle.solver_proof.proofs.SumSound.{sum-closes, meet_numbers}
use Rattle.solver_proof.proofs.Truths.{HasKindFact, true_at, true_more, true_one_more, over_more, over_one, over_at, over_sides, over_both, over_literal, SameValues, true_equality, false_equality, equality_true, equality_false, fact-has, kind_is-true}

-- some atom of the list is true
abbrev SomeTrue : List PureValue → List PureAtom → Type 0
SomeTrue v atoms = (i : ℕ) × ((a : PureAtom) × ((slice_get atoms i ≡ Some a) × (truth v a ≡ true)))

-- ---- kinds and values of kinds

kind-listed : (w : PureValue) → (i : ℕ) × (slice_get kinds_of_values i ≡ Some (kind_of w))
kind-listed (integer n) = (0, refl)
kind-listed (boolean b) = (1, refl)
kind-listed (text cs) = (2, refl)
kind-listed (symbol n) = (3, refl)
kind-listed (kind k) = (4, refl)
kind-listed (procedure name) = (5, refl)
kind-listed (list vs) = (6, refl)

all-listed : (k : Kind) → (i : ℕ) × (slice_get all_kinds i ≡ Some k)
all-listed Kind.Int = (0, refl)
all-listed Kind.Bool = (1, refl)
all-listed Kind.Str = (2, refl)
all-listed Kind.Sym = (3, refl)
all-listed Kind.Kind = (4, refl)
all-listed Kind.Proc = (5, refl)
all-listed Kind.List = (6, refl)
all-listed Kind.Undef = (7, refl)
all-listed Kind.Null = (8, refl)

listed-map : {X Y : Type 0} (f : X → Y) (xs : List X) (i : ℕ) (x : X) → slice_get xs i ≡ Some x → slice_get (map f xs) i ≡ Some (f x)
listed-map f [] i x is = cc
listed-map f (y ∷ xs) zero x is = let same : y ≡ x = cc in ap (λ z. Some (f z)) same
listed-map f (y ∷ xs) (suc i) x is = listed-map f xs i x is

some_kind : (v : List PureValue) (x : Var) (w : PureValue) → value v (variable x) ≡ Some w → SomeTrue v (kind_atoms (variable x))
some_kind v x w has =
    let (i, is) = kind-listed w in
    (i, (positive (kind_is (variable x) (kind_of w)), (listed-map (λ k. positive (kind_is (variable x) k)) kinds_of_values i (kind_of w) is, kind_is-true v (variable x) w has)))

some_boolean : (v : List PureValue) (x : Var) (w : PureValue) → value v (variable x) ≡ Some w → kind_of w ≡ Kind.Bool → SomeTrue v (boolean_atoms (variable x))
some_boolean v x (boolean true) has is = (0, (positive (equals (variable x) (truth_term true)), (refl, equality_true v (variable x) (truth_term true) (boolean true) has refl)))
some_boolean v x (boolean false) has is = (1, (positive (equals (variable x) (truth_term false)), (refl, equality_true v (variable x) (truth_term false) (boolean false) has refl)))
some_boolean v x (integer n) has is = cc
some_boolean v x (text cs) has is = cc
some_boolean v x (symbol n) has is = cc
some_boolean v x (kind k) has is = cc
some_boolean v x (procedure name) has is = cc
some_boolean v x (list vs) has is = cc

some_kind_value : (v : List PureValue) (x : Var) (w : PureValue) → value v (variable x) ≡ Some w → kind_of w ≡ Kind.Kind → SomeTrue v (kind_value_atoms (variable x))
some_kind_value v x (kind k) has is =
    let (i, at) = all-listed k in
    (i, (positive (equals (variable x) (literal (Literal.Kind k))), (listed-map (λ l. positive (equals (variable x) (literal (Literal.Kind l)))) all_kinds i k at, equality_true v (variable x) (literal (Literal.Kind k)) (kind k) has refl)))
some_kind_value v x (boolean b) has is = cc
some_kind_value v x (integer n) has is = cc
some_kind_value v x (text cs) has is = cc
some_kind_value v x (symbol n) has is = cc
some_kind_value v x (procedure name) has is = cc
some_kind_value v x (list vs) has is = cc

-- ---- overness of what is appended

over_kind : (vars : List Sort) (x : Var) (k : Kind) → IsOver vars (variable x) → IsOver vars (kind_is (variable x) k)
over_kind vars x k over = over_both vars BinOp.Equal (unary_of UnOp.Kind (variable x)) (literal (Literal.Kind k)) over (over_literal vars (Literal.Kind k))

over_value : (vars : List Sort) (x : Var) (l : Literal) → IsOver vars (variable x) → IsOver vars (equals (variable x) (literal l))
over_value vars x l over = over_both vars BinOp.Equal (variable x) (literal l) over (over_literal vars l)

over_cons : (vars : List Sort) (a : PureAtom) (atoms : List PureAtom) → IsOver vars (term_of a) → AreOver vars atoms → AreOver vars (a ∷ atoms)
over_cons vars a atoms h k x has = ⊎_elim (h x) (k x) (Contains-append_cases (variables (term_of a)) (variables_of_atoms atoms) x has)

over_nil : (vars : List Sort) → AreOver vars []
over_nil vars x has = absurd (none_contained x has)

over_kind_atoms : (vars : List Sort) (x : Var) (ks : List Kind) → IsOver vars (variable x) → AreOver vars (map (λ k. positive (kind_is (variable x) k)) ks)
over_kind_atoms vars x [] over = over_nil vars
over_kind_atoms vars x (k ∷ ks) over = over_cons vars (positive (kind_is (variable x) k)) (map (λ l. positive (kind_is (variable x) l)) ks) (over_kind vars x k over) (over_kind_atoms vars x ks over)

over_kind_values : (vars : List Sort) (x : Var) (ks : List Kind) → IsOver vars (variable x) → AreOver vars (map (λ k. positive (equals (variable x) (literal (Literal.Kind k)))) ks)
over_kind_values vars x [] over = over_nil vars
over_kind_values vars x (k ∷ ks) over =
    over_cons vars (positive (equals (variable x) (literal (Literal.Kind k)))) (map (λ l. positive (equals (variable x) (literal (Literal.Kind l)))) ks) (over_value vars x (Literal.Kind k) over) (over_kind_values vars x ks over)

over_booleans : (vars : List Sort) (x : Var) → IsOver vars (variable x) → AreOver vars (boolean_atoms (variable x))
over_booleans vars x over =
    over_cons vars (positive (equals (variable x) (truth_term true))) (positive (equals (variable x) (truth_term false)) ∷ []) (over_value vars x (Literal.Bool true) over)
    (over_cons vars (positive (equals (variable x) (truth_term false))) [] (over_value vars x (Literal.Bool false) over) (over_nil vars))

over_equalities : (vars : List Sort) (ts us : PureTerms) → IsOver vars (list_of ts) → IsOver vars (list_of us) → AreOver vars (element_equalities ts us)
over_equalities vars (term_and t ts) (term_and u us) h k =
    over_cons vars (positive (equals t u)) (element_equalities ts us)
    (over_both vars BinOp.Equal t u (over_left vars (variables t) (variables_of_all ts) h) (over_left vars (variables u) (variables_of_all us) k))
    (over_equalities vars ts us (over_right vars (variables t) (variables_of_all ts) h) (over_right vars (variables u) (variables_of_all us) k))
over_equalities vars no_terms us h k = over_nil vars
over_equalities vars (term_and t ts) no_terms h k = over_nil vars

over_disequalities : (vars : List Sort) (ts us : PureTerms) → IsOver vars (list_of ts) → IsOver vars (list_of us) → AreOver vars (element_disequalities ts us)
over_disequalities vars (term_and t ts) (term_and u us) h k =
    over_cons vars (negative (equals t u)) (element_disequalities ts us)
    (over_both vars BinOp.Equal t u (over_left vars (variables t) (variables_of_all ts) h) (over_left vars (variables u) (variables_of_all us) k))
    (over_disequalities vars ts us (over_right vars (variables t) (variables_of_all ts) h) (over_right vars (variables u) (variables_of_all us) k))
over_disequalities vars no_terms us h k = over_nil vars
over_disequalities vars (term_and t ts) no_terms h k = over_nil vars

-- ---- list terms

abbrev AreBoth : Option PureValue → Option (List PureValue) → List PureValue → Type 0
AreBoth a b ws = (w : PureValue) × ((rest : List PureValue) × ((a ≡ Some w) × (b ≡ Some rest) × (ws ≡ w ∷ rest)))

from_both : (a : Option PureValue) (b : Option (List PureValue)) (ws : List PureValue) → both a b ≡ Some ws → AreBoth a b ws
from_both (Some w) (Some rest) ws is = (w, (rest, (refl, refl, cc)))
from_both (Some w) None ws is = cc
from_both None b ws is = cc

values-length : (v : List PureValue) (ts : PureTerms) (ws : List PureValue) → values v ts ≡ Some ws → length ws ≡ length (to_list ts)
values-length v no_terms ws is = let empty : ws ≡ [] = cc in ap length empty
values-length v (term_and t ts) ws is =
    let (w, (rest, (first, more, whole))) = from_both (value v t) (values v ts) ws is in
    ap length whole ∙ ap suc (values-length v ts rest more)

-- a list term with a value has one for its elements
from_list_value : (o : Option (List PureValue)) (w : PureValue) → option_map (λ ws. list (list_elements ws)) o ≡ Some w → (ws : List PureValue) × ((o ≡ Some ws) × (w ≡ list (list_elements ws)))
from_list_value (Some ws) w is = (ws, (refl, cc))
from_list_value None w is = cc

list_values : (v : List PureValue) (ts : PureTerms) (w : PureValue) → value v (list_of ts) ≡ Some w → (ws : List PureValue) × ((values v ts ≡ Some ws) × (w ≡ list (list_elements ws)))
list_values v ts w is = from_list_value (values v ts) w is

same_elements_of : (us ws : List PureValue) → list (list_elements us) ≡ list (list_elements ws) → us ≡ ws
same_elements_of us ws e =
    let same : list_elements us ≡ list_elements ws = cc in
    sym (to_list-from_list us) ∙ ap elements_of same ∙ to_list-from_list ws

-- equal list terms have the same values of their elements
equal_lists : (v : List PureValue) (ts us : PureTerms) → SameValues v (list_of ts) (list_of us) → (ws : List PureValue) × ((values v ts ≡ Some ws) × (values v us ≡ Some ws))
equal_lists v ts us same =
    let (xs, (of_ts, is_ts)) = list_values v ts same.value_of_both same.left in
    let (ys, (of_us, is_us)) = list_values v us same.value_of_both same.right in
    (xs, (of_ts, of_us ∙ ap Some (same_elements_of ys xs (sym is_us ∙ is_ts))))

equalities-true : (v : List PureValue) (ts us : PureTerms) (ws : List PureValue) → values v ts ≡ Some ws → values v us ≡ Some ws → all_true v (element_equalities ts us) ≡ true
equalities-true v (term_and t ts) (term_and u us) ws of_ts of_us =
    let (w, (rest, (first, more, whole))) = from_both (value v t) (values v ts) ws of_ts in
    let (x, (others, (first_too, more_too, whole_too))) = from_both (value v u) (values v us) ws of_us in
    let cons : w ∷ rest ≡ x ∷ others = sym whole ∙ whole_too in
    let same : x ≡ w = cc in
    let same_rest : others ≡ rest = cc in
    and_from (truth v (positive (equals t u))) (all_true v (element_equalities ts us))
    (equality_true v t u w first (first_too ∙ ap Some same))
    (equalities-true v ts us rest more (more_too ∙ ap Some same_rest))
equalities-true v no_terms us ws of_ts of_us = refl
equalities-true v (term_and t ts) no_terms ws of_ts of_us = refl

-- lists of one length that differ have elements that differ
some_differ : (v : List PureValue) (ts us : PureTerms) (xs ys : List PureValue) → values v ts ≡ Some xs → values v us ≡ Some ys → length (to_list ts) ≡ length (to_list us) → (xs ≡ ys → ⊥) → SomeTrue v (element_disequalities ts us)
some_differ v no_terms no_terms xs ys of_ts of_us lengths differ =
    let empty : xs ≡ ys = (let e : Some xs ≡ Some ys = sym of_ts ∙ of_us in cc) in
    absurd (differ empty)
some_differ v no_terms (term_and u us) xs ys of_ts of_us lengths differ = cc
some_differ v (term_and t ts) no_terms xs ys of_ts of_us lengths differ = cc
some_differ v (term_and t ts) (term_and u us) xs ys of_ts of_us lengths differ =
    let (a, (rest, (first, more, whole))) = from_both (value v t) (values v ts) xs of_ts in
    let (b, (others, (first_too, more_too, whole_too))) = from_both (value v u) (values v us) ys of_us in
    ⊎_elim
    (λ same.
    let heads : a ≡ b = same_value-same a b same in
    let (i, (atom, (at, is_true))) = some_differ v ts us rest others more more_too (omega (arith, lengths)) (λ e. differ (whole ∙ (λ j. heads j ∷ e j) ∙ sym whole_too)) in
    (suc i, (atom, (at, is_true))))
    (λ other. (0, (negative (equals t u), (refl, equality_false v t u a b first first_too other))))
    (cases_Bool (same_value a b))

-- ---- soundness

first_three : (b c d e : Bool) → (b || (c || d)) ≡ true → (b || (c || (d || e))) ≡ true
first_three true c d e h = refl
first_three false true d e h = refl
first_three false false true e h = refl
first_three false false false e h = absurd (false≢true h)

may_split-form : (t : PureTerm) → may_split t ≡ true → has_form t ≡ true
may_split-form t may = first_three (is_variable_of Sort.Bool t) (is_simple_equality t) (is_comparison t) (is_kind_test t) may

module _ (vars : List Sort) (v : List PureValue) (proper : IsProper vars v) where
  -- a comparison of literals has no variables
  no_variables : (t : PureTerm) → compares_literals t ≡ true → variables t ≡ []
  no_variables (binary_of op (literal k) (literal l)) h = refl
  no_variables t h = absurd (false≢true h)

  compare_literals : (a : PureAtom) → compares_literals (term_of a) ≡ true → truth v a ≡ truth [] a
  compare_literals a h = depend_on_variables.truths a v [] (λ x has. absurd (none_contained x (subst (λ xs. Contains xs x) (no_variables (term_of a) h) has)))

  false-closes : (atoms : List PureAtom) (i : ℕ) (o : Option PureAtom) → slice_get atoms i ≡ o → all_true v atoms ≡ true → is_false_comparison o ≡ true → ⊥
  false-closes atoms i (Some a) here all h =
      let parts = and_parts _ _ h in
      true≢false (sym (true_at v atoms i a all here) ∙ compare_literals a parts.0 ∙ not-true (truth [] a) parts.1)
  false-closes atoms i None here all h = false≢true h

  either_is : (t : PureTerm) → IsBoolean (value v t) → (truth v (positive t) ≡ true) ⊎ (truth v (negative t) ≡ true)
  either_is t (true, is) = inl (ap (is_that_boolean true) is)
  either_is t (false, is) = inr (ap (is_that_boolean false) is)

  split-true : (t : PureTerm) → IsOver vars t → may_split t ≡ true → (truth v (positive t) ≡ true) ⊎ (truth v (negative t) ≡ true)
  split-true t over may = either_is t (form-boolean vars v proper t over (may_split-form t may))

  from_at_most : (a : PureAtom) (sides : Sides) → at_most_of a ≡ Some sides → a ≡ positive (at_most sides.left sides.right)
  from_at_most (positive (binary_of BinOp.LessOrEqual s t)) sides is = let same : record { left = s; right = t } ≡ sides = cc in ap (λ (p : Sides). positive (at_most p.left p.right)) same
  from_at_most a sides is = cc

  at_most_true : (atoms : List PureAtom) (i : ℕ) (sides : Sides) → all_true v atoms ≡ true → at_most_at atoms i ≡ Some sides → truth v (positive (at_most sides.left sides.right)) ≡ true
  at_most_true atoms i sides all is = option_and_then_some at_most_of (slice_get atoms i) sides is (λ a here found. sym (ap (truth v) (from_at_most a sides found)) ∙ true_at v atoms i a all here)

  from_different : (a : PureAtom) (sides : Sides) → disequality_of a ≡ Some sides → a ≡ negative (equals sides.left sides.right)
  from_different (negative (binary_of BinOp.Equal s t)) sides is = let same : record { left = s; right = t } ≡ sides = cc in ap (λ (p : Sides). negative (equals p.left p.right)) same
  from_different a sides is = cc

  different_true : (atoms : List PureAtom) (i : ℕ) (sides : Sides) → all_true v atoms ≡ true → disequality_at atoms i ≡ Some sides → truth v (negative (equals sides.left sides.right)) ≡ true
  different_true atoms i sides all is = option_and_then_some disequality_of (slice_get atoms i) sides is (λ a here found. sym (ap (truth v) (from_different a sides found)) ∙ true_at v atoms i a all here)

  some_different : (s t : PureTerm) (atoms : List PureAtom) (k : ℕ) (o : Option Sides) → disequality_at atoms k ≡ o → all_true v atoms ≡ true → are_sides o s t ≡ true
      → (truth v (negative (equals s t)) ≡ true) ⊎ (truth v (negative (equals t s)) ≡ true)
  some_different s t atoms k (Some sides) is all h =
      let fails = different_true atoms k sides all is in
      ⊎_elim
      (λ straight. let parts = and_parts (same_term sides.left s) (same_term sides.right t) straight in
      inl ((λ j. truth v (negative (equals (sym (same_term-same sides.left s parts.0) j) (sym (same_term-same sides.right t parts.1) j)))) ∙ fails))
      (λ across. let parts = and_parts (same_term sides.left t) (same_term sides.right s) across in
      inr ((λ j. truth v (negative (equals (sym (same_term-same sides.left t parts.0) j) (sym (same_term-same sides.right s parts.1) j)))) ∙ fails))
      (or_cases (same_term sides.left s && same_term sides.right t) (same_term sides.left t && same_term sides.right s) h)
  some_different s t atoms k None is all h = absurd (false≢true h)

  meet-closes : (atoms : List PureAtom) (i j k : ℕ) (o p : Option Sides) → at_most_at atoms i ≡ o → at_most_at atoms j ≡ p → all_true v atoms ≡ true → meet o p (disequality_at atoms k) ≡ true → ⊥
  meet-closes atoms i j k (Some up) (Some down) is_up is_down all h =
      let parts = and_parts (same_term up.left down.right && same_term up.right down.left) (are_sides (disequality_at atoms k) up.left up.right) h in
      let turned = and_parts (same_term up.left down.right) (same_term up.right down.left) parts.0 in
      meet_numbers vars v proper up.left up.right (at_most_true atoms i up all is_up)
      ((λ x. truth v (positive (at_most (same_term-same up.right down.left turned.1 x) (same_term-same up.left down.right turned.0 x)))) ∙ at_most_true atoms j down all is_down)
      (some_different up.left up.right atoms k (disequality_at atoms k) refl all parts.1)
  meet-closes atoms i j k (Some up) None is_up is_down all h = false≢true h
  meet-closes atoms i j k None p is_up is_down all h = false≢true h

  -- ---- lists

  from_lists : (s t : PureTerm) (lists : Lists) → lists_of_terms s t ≡ Some lists → (s ≡ list_of lists.left) × (t ≡ list_of lists.right)
  from_lists (list_of ts) (list_of us) lists is = let same : record { left = ts; right = us } ≡ lists = cc in (ap (λ (l : Lists). list_of l.left) same, ap (λ (l : Lists). list_of l.right) same)
  from_lists s t lists is = cc

  from_equal : (a : PureAtom) (sides : Sides) → equal_sides_of a ≡ Some sides → a ≡ positive (equals sides.left sides.right)
  from_equal (positive (binary_of BinOp.Equal s t)) sides is = let same : record { left = s; right = t } ≡ sides = cc in ap (λ (p : Sides). positive (equals p.left p.right)) same
  from_equal a sides is = cc

  list_equality : (atoms : List PureAtom) (i : ℕ) (o : Option Sides) (lists : Lists) → option_and_then equal_sides_of (slice_get atoms i) ≡ o → lists_of o ≡ Some lists → slice_get atoms i ≡ Some (positive (equals (list_of lists.left) (list_of lists.right)))
  list_equality atoms i (Some sides) lists is found =
      let both = from_lists sides.left sides.right lists found in
      option_and_then_some equal_sides_of (slice_get atoms i) sides is (λ a here e. here ∙ ap Some (from_equal a sides e) ∙ (λ j. Some (positive (equals (both.0 j) (both.1 j)))))
  list_equality atoms i None lists is found = cc

  list_difference : (atoms : List PureAtom) (i : ℕ) (o : Option Sides) (lists : Lists) → disequality_at atoms i ≡ o → lists_of o ≡ Some lists → slice_get atoms i ≡ Some (negative (equals (list_of lists.left) (list_of lists.right)))
  list_difference atoms i (Some sides) lists is found =
      let both = from_lists sides.left sides.right lists found in
      option_and_then_some disequality_of (slice_get atoms i) sides is (λ a here e. here ∙ ap Some (from_different a sides e) ∙ (λ j. Some (negative (equals (both.0 j) (both.1 j)))))
  list_difference atoms i None lists is found = cc

  -- some atom of a variable and the values of the kind that is said of it is true
  abbrev Exhausts : List PureAtom → Type 0
  Exhausts more = SomeTrue v more × AreOver vars more

  of_kind : (x : Var) (k : Kind) (w : PureValue) (more : List PureAtom) → atoms_of_kind (variable x) k ≡ Some more → IsOver vars (variable x) → value v (variable x) ≡ Some w → kind_of w ≡ k → Exhausts more
  of_kind x Kind.Bool w more is over has said =
      let same : boolean_atoms (variable x) ≡ more = cc in subst Exhausts same (some_boolean v x w has said, over_booleans vars x over)
  of_kind x Kind.Kind w more is over has said =
      let same : kind_value_atoms (variable x) ≡ more = cc in subst Exhausts same (some_kind_value v x w has said, over_kind_values vars x all_kinds over)
  of_kind x k w more is over has said = cc

  of_subject : (t : PureTerm) (k : Kind) (w : PureValue) (more : List PureAtom) → atoms_of_subject t k ≡ Some more → IsOver vars t → value v t ≡ Some w → kind_of w ≡ k → Exhausts more
  of_subject (variable x) k w more is over has said = of_kind x k w more is over has said
  of_subject (literal l) k w more is over has said = cc
  of_subject (list_of ts) k w more is over has said = cc
  of_subject (unary_of op t) k w more is over has said = cc
  of_subject (binary_of op s t) k w more is over has said = cc

  if_so : (b : Bool) (o : Option (List PureAtom)) (more : List PureAtom) → (if b then o else None) ≡ Some more → (b ≡ true) × (o ≡ Some more)
  if_so true o more is = (refl, is)
  if_so false o more is = cc

  exhausted : (atoms : List PureAtom) (i : ℕ) (o : Option KindFact) (more : List PureAtom) → kind_fact_at atoms i ≡ o → value_atoms o ≡ Some more → AreOver vars atoms → all_true v atoms ≡ true → Exhausts more
  exhausted atoms i (Some fact) more is found over all =
      let (so, atoms_are) = if_so fact.is_so (atoms_of_subject fact.subject fact.kind) more found in
      let has : HasKindFact vars v fact = option_and_then_some kind_fact_of (slice_get atoms i) fact is (λ a here e. fact-has vars v a fact e (true_at v atoms i a all here) (over_at vars atoms i a over here)) in
      of_subject fact.subject fact.kind has.subject_value more atoms_are has.over_subject has.has (same_kinds (kind_of has.subject_value) fact.kind (has.so ∙ so))
  exhausted atoms i None more is found over all = cc

  -- the proofs refute each true atom of a list, and the proof the list with more atoms
  abbrev Refutes : List PureAtom → PureProofs → Type 0
  Refutes atoms ps = (more : List PureAtom) → AreOver vars more → CloseEach vars atoms more ps → (i : ℕ) (a : PureAtom) → slice_get more i ≡ Some a → truth v a ≡ true → ⊥

  abbrev RefutesMore : List PureAtom → PureProof → Type 0
  RefutesMore atoms p = (more : List PureAtom) → AreOver vars (atoms ++ more) → all_true v (atoms ++ more) ≡ true → Closes vars (atoms ++ more) p → ⊥

  each_value : (atoms : List PureAtom) (i : ℕ) (ps : PureProofs) → Refutes atoms ps → AreOver vars atoms → all_true v atoms ≡ true → (o : Option (List PureAtom)) → value_atoms (kind_fact_at atoms i) ≡ o → IsSomeAnd o (λ more. CloseEach vars atoms more ps) → ⊥
  each_value atoms i ps refutes over all (Some more) is each =
      let ((j, (a, (at, is_true))), over_more) = exhausted atoms i (kind_fact_at atoms i) more refl is over all in
      refutes more over_more each j a at is_true
  each_value atoms i ps refutes over all None is each = each

  lists_apart : (atoms : List PureAtom) (i : ℕ) → all_true v atoms ≡ true → (o : Option Lists) → equal_lists_at atoms i ≡ o → IsSomeAnd o (λ lists. ¬ HaveOneLength lists.left lists.right) → ⊥
  lists_apart atoms i all (Some lists) is apart =
      let here = list_equality atoms i _ lists refl is in
      let (ws, (of_ts, of_us)) = equal_lists v lists.left lists.right (true_equality v (list_of lists.left) (list_of lists.right) (true_at v atoms i _ all here)) in
      apart (sym (values-length v lists.left ws of_ts) ∙ values-length v lists.right ws of_us)
  lists_apart atoms i all None is apart = apart

  lists_parted : (atoms : List PureAtom) (i : ℕ) (p : PureProof) → RefutesMore atoms p → AreOver vars atoms → all_true v atoms ≡ true → (o : Option Lists) → equal_lists_at atoms i ≡ o
      → IsSomeAnd o (λ lists. HaveOneLength lists.left lists.right × Closes vars (atoms ++ element_equalities lists.left lists.right) p) → ⊥
  lists_parted atoms i p refutes over all (Some lists) is closes =
      let here = list_equality atoms i _ lists refl is in
      let (ws, (of_ts, of_us)) = equal_lists v lists.left lists.right (true_equality v (list_of lists.left) (list_of lists.right) (true_at v atoms i _ all here)) in
      let sides = over_sides vars BinOp.Equal (list_of lists.left) (list_of lists.right) (over_at vars atoms i _ over here) in
      refutes (element_equalities lists.left lists.right)
      (over_more vars atoms (element_equalities lists.left lists.right) over (over_equalities vars lists.left lists.right sides.0 sides.1))
      (true_more v atoms (element_equalities lists.left lists.right) all (equalities-true v lists.left lists.right ws of_ts of_us)) closes.1
  lists_parted atoms i p refutes over all None is closes = closes

  lists_differ : (atoms : List PureAtom) (i : ℕ) (ps : PureProofs) → Refutes atoms ps → AreOver vars atoms → all_true v atoms ≡ true → (o : Option Lists) → different_lists_at atoms i ≡ o
      → IsSomeAnd o (λ lists. HaveOneLength lists.left lists.right × CloseEach vars atoms (element_disequalities lists.left lists.right) ps) → ⊥
  lists_differ atoms i ps refutes over all (Some lists) is closes =
      let here = list_difference atoms i (disequality_at atoms i) lists refl is in
      let other = false_equality v (list_of lists.left) (list_of lists.right) (true_at v atoms i _ all here) in
      let (xs, (of_ts, is_ts)) = list_values v lists.left other.first other.left in
      let (ys, (of_us, is_us)) = list_values v lists.right other.second other.right in
      let sides = over_sides vars BinOp.Equal (list_of lists.left) (list_of lists.right) (over_at vars atoms i _ over here) in
      let apart : xs ≡ ys → ⊥ = (λ e. true≢false (sym (same_value-refl other.first) ∙ ap (same_value other.first) (is_ts ∙ ap (λ ws. list (list_elements ws)) e ∙ sym is_us) ∙ other.differ)) in
      let (j, (a, (at, is_true))) = some_differ v lists.left lists.right xs ys of_ts of_us closes.0 apart in
      refutes (element_disequalities lists.left lists.right) (over_disequalities vars lists.left lists.right sides.0 sides.1) closes.1 j a at is_true
  lists_differ atoms i ps refutes over all None is closes = closes

  mutual
    sound : (atoms : List PureAtom) (p : PureProof) → AreOver vars atoms → all_true v atoms ≡ true → Closes vars atoms p → ⊥
    sound atoms (sum_of fs) over all closes = sum-closes vars v proper atoms over all fs closes
    sound atoms (false_at i) over all closes = false-closes atoms i (slice_get atoms i) refl all closes
    sound atoms (chain is end) over all (s, (t, (leads, closes))) = chain-closes vars v proper atoms over all is end s t leads closes
    sound atoms (cases_of (variable x) ps) over all (over_x, is_var, each) =
        let (w, has) = variable-has_value vars v x proper over_x in
        let (i, (a, (at, is_true))) = some_kind v x w has in
        sound_each atoms (kind_atoms (variable x)) ps over (over_kind_atoms vars x kinds_of_values over_x) all each i a at is_true
    sound atoms (cases_of (literal l) ps) over all (over_t, is_var, each) = false≢true is_var
    sound atoms (cases_of (list_of ts) ps) over all (over_t, is_var, each) = false≢true is_var
    sound atoms (cases_of (unary_of op t) ps) over all (over_t, is_var, each) = false≢true is_var
    sound atoms (cases_of (binary_of op s t) ps) over all (over_t, is_var, each) = false≢true is_var
    sound atoms (values_at i ps) over all closes = each_value atoms i ps (λ more over_more each j a at is_true. sound_each atoms more ps over over_more all each j a at is_true) over all (value_atoms (kind_fact_at atoms i)) refl closes
    sound atoms (parts_apart i) over all closes = lists_apart atoms i all (equal_lists_at atoms i) refl closes
    sound atoms (parts_at i p) over all closes = lists_parted atoms i p (λ more over_more all_more closes_more. sound (atoms ++ more) p over_more all_more closes_more) over all (equal_lists_at atoms i) refl closes
    sound atoms (differ_at i ps) over all closes = lists_differ atoms i ps (λ more over_more each j a at is_true. sound_each atoms more ps over over_more all each j a at is_true) over all (different_lists_at atoms i) refl closes
    sound atoms (split_on t p q) over all (over_t, may, first, second) = ⊎_elim
        (λ is_true. sound (atoms ++ positive t ∷ []) p (over_more vars atoms (positive t ∷ []) over (over_one vars (positive t) over_t)) (true_one_more v atoms (positive t) all is_true) first)
        (λ is_false. sound (atoms ++ negative t ∷ []) q (over_more vars atoms (negative t ∷ []) over (over_one vars (negative t) over_t)) (true_one_more v atoms (negative t) all is_false) second)
        (split-true t over_t may)
    sound atoms (meet_at i j k) over all closes = meet-closes atoms i j k (at_most_at atoms i) (at_most_at atoms j) refl refl all closes

    sound_each : (atoms more : List PureAtom) (ps : PureProofs) → AreOver vars atoms → AreOver vars more → all_true v atoms ≡ true → CloseEach vars atoms more ps → (i : ℕ) (a : PureAtom) → slice_get more i ≡ Some a → truth v a ≡ true → ⊥
    sound_each atoms [] no_proofs over over_too all each i a at is_true = cc
    sound_each atoms [] (proof_and p ps) over over_too all each i a at is_true = each
    sound_each atoms (b ∷ more) no_proofs over over_too all each i a at is_true = each
    sound_each atoms (b ∷ more) (proof_and p ps) over over_too all each zero a at is_true =
        let same : a ≡ b = cc in
        sound (atoms ++ b ∷ []) p (over_more vars atoms (b ∷ []) over (over_one vars b (λ x has. over_too x (Contains-append_left (variables (term_of b)) (variables_of_atoms more) x has))))
        (true_one_more v atoms b all (subst (λ c. truth v c ≡ true) same is_true)) each.0
    sound_each atoms (b ∷ more) (proof_and p ps) over over_too all each (suc i) a at is_true =
        sound_each atoms more ps over (λ x has. over_too x (Contains-append_right (variables (term_of b)) (variables_of_atoms more) x has)) all each.1 i a at is_true

pub closed_lists_have_no_solution : ClosedListsHaveNoSolution
closed_lists_have_no_solution vars atoms p over closes v satisfies = sound vars v satisfies.proper atoms p over satisfies.true_there closes
