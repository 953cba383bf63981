-- Guards of narrow commands: what they ask, and their sides, have forms of the fragment, also over variables of sort any.
use Rattle.std.proofs.Common.{◌≡◌, ◌⊎◌, ⊎_elim, inl, inr, ℕ, ◌≤◌, pos, neg_ℤ, List, [], ◌∷◌, slice_get, Bool, true, false, not, ◌&&◌, ◌||◌, MatchBool, Option, Some, None, Ok, Err, IsTrue, refl, sym, ap, subst, ◌∙◌, true≢false, arith}
use Rattle.std.specs.List.{list_any}
use Rattle.std.specs.Option.{option_map, option_and_then}
use Rattle.std.specs.Result.{result_ok}
use Rattle.std.proofs.lemmas.Bool.{and_parts, and_from, or_parts, or_left}
use Rattle.gil_values.specs.declared.kinds.Kind.{Kind}
use Rattle.gil_values.specs.declared.operators.UnOp.{UnOp}
use Rattle.gil_values.specs.declared.operators.BinOp.{BinOp}
use Rattle.gil_values.specs.Equality.{same_kind}
use Rattle.gil_values.specs.Operators.{Outcome, negation}
use Rattle.gil_values.specs.Pure.{PureValue, boolean}
use Rattle.gil_syntax.specs.Evaluation.{evaluate}
use Rattle.gil_syntax.specs.Pure.{PureExpr, literal as value_literal, name, unary_of as unary_expr, binary_of as binary_expr}
use Rattle.gil_syntax.specs.Simple.{is_simple_value, is_bare_guard, is_simple_guard, has_arithmetic, is_list}
use Rattle.gil_syntax.specs.Subexpressions.{subexpressions}
use Rattle.pure_terms.specs.declared.literals.Literal.{Literal}
use Rattle.pure_terms.specs.declared.variables.Sort.{Sort}
use Rattle.pure_terms.specs.declared.variables.Var.{Var}
use Rattle.pure_terms.specs.Folding.{literal_or, folded_unary, folded_binary, computed_binary}
use Rattle.pure_terms.specs.Fragment.{is_simple, is_fragment_term, has_fragment_form, has_literals_between}
use Rattle.pure_terms.specs.Kinds.{same_sort, kind_of_sort, allows, known_kind}
use Rattle.pure_terms.specs.Meaning.{value, all_true, IsProper, IsOver}
use Rattle.pure_terms.specs.Pure.{PureTerm, literal, variable, unary_of, binary_of, PureAtom, positive, negative, opening, size}
use Rattle.pure_terms.specs.Rewriting.{Replaces, IsSameOrSmaller}
use Rattle.pure_terms.proofs.KindLaws.{TellsIfSome, value-tells}
use Rattle.pure_terms.proofs.SimpleLaws.{HasValue, simple-has_value}
use Rattle.sym_engine.specs.Narrow.{IsNarrow}
use Rattle.sym_engine.proofs.Literal.{literal_of}
use Rattle.sym_engine.proofs.NarrowTerms.{is_flat, flat_value, flat_asks, flat_term, pair_parts}
use Rattle.sym_engine.proofs.SomeValuation.{some_values, some_proper, valued, valued_stands}
use Rattle.sym_evaluation.specs.Checks.{is_of_kind}
use Rattle.sym_evaluation.specs.Meaning.{IsStoreOver, SayOutcome}
use Rattle.sym_evaluation.specs.Meaning as meaning
use Rattle.sym_evaluation.specs.Plainly.{text_bound, is_text_number, has_text_numbers}
use Rattle.sym_evaluation.specs.Pure.{PureStore, term_at, PureGoodCase, PureCases, PureSides}
use Rattle.sym_evaluation.specs.Questions.{substituted, IsTermOf, IsAbout, AsksKind, IsAskedOf, IsAsked, MayStandForGuard, SaysPart, AsksBoolean, IsGuardCondition, OnSide, EachSide, SidesComeFrom, OnResult, OnConditions}
use Rattle.sym_evaluation.proofs.GuardTerms.{guard_replaces}
use Rattle.sym_evaluation.proofs.PlainLaws.{literal_parts}
use Rattle.sym_evaluation.proofs.Replacing.{some_of, some_mapped, positive_size}
use Rattle.sym_model.specs.Laws.{IsDecidedWithin}
use Rattle.sym_model.specs.Lists.{Each, OneOf}
use Rattle.sym_model.specs.Plain.{is_narrow}
use Rattle.sym_model.specs.Terms.{is_literal}
use Rattle.sym_model.proofs.ListLaws.{same_some, not_none, each_to, one_parts}
use Rattle.sym_paths.specs.Meaning.{OfEachName}
use Rattle.sym_paths.specs.Valued.{IsEvaluated}

-- ---- forms of expressions

-- a literal, a name, or `=` of two such
abbrev pub is_test : PureExpr → Bool
is_test (value_literal v) = true
is_test (name x) = true
is_test (binary_expr BinOp.Equal d e) = is_flat d && is_flat e
is_test _ = false

-- such a test, perhaps under `not`
abbrev pub is_guard : PureExpr → Bool
is_guard (unary_expr UnOp.Not e) = is_test e
is_guard e = is_test e

bare_test : (e : PureExpr) → is_bare_guard e ≡ true → list_any has_arithmetic (subexpressions e) ≡ false → list_any is_list (subexpressions e) ≡ false → is_test e ≡ true
bare_test (value_literal v) bare plain no_list = refl
bare_test (name x) bare plain no_list = refl
bare_test (binary_expr BinOp.Equal d e) bare plain no_list =
    let (first, second) = and_parts (is_simple_value d) (is_simple_value e) bare in
    let (plain_first, plain_second) = pair_parts has_arithmetic BinOp.Equal d e plain in
    let (list_first, list_second) = pair_parts is_list BinOp.Equal d e no_list in
    and_from (is_flat d) (is_flat e) (flat_value d first plain_first list_first) (flat_value e second plain_second list_second)
bare_test (binary_expr BinOp.Less d e) bare plain no_list = absurd (true≢false plain)
bare_test (binary_expr BinOp.LessOrEqual d e) bare plain no_list = absurd (true≢false plain)
bare_test e bare plain no_list = absurd (true≢false (sym bare))

pub narrow_guard : (e : PureExpr) → is_simple_guard e ≡ true → list_any has_arithmetic (subexpressions e) ≡ false → list_any is_list (subexpressions e) ≡ false → is_guard e ≡ true
narrow_guard (unary_expr UnOp.Not e) simple plain no_list =
    bare_test e simple (or_parts (has_arithmetic (unary_expr UnOp.Not e)) (list_any has_arithmetic (subexpressions e)) plain).1 (or_parts (is_list (unary_expr UnOp.Not e)) (list_any is_list (subexpressions e)) no_list).1
narrow_guard (value_literal v) simple plain no_list = refl
narrow_guard (name x) simple plain no_list = refl
narrow_guard (binary_expr op d e) simple plain no_list = bare_test (binary_expr op d e) simple plain no_list
narrow_guard e simple plain no_list = absurd (true≢false (sym simple))

-- ---- sorts

any_sort : (s : Sort) → kind_of_sort s ≡ None → s ≡ Sort.Any
any_sort Sort.Any none = refl
any_sort s none = not_none (sym none)

bool_or_any : (s : Sort) → allows (kind_of_sort s) Kind.Bool ≡ true → (s ≡ Sort.Bool) ⊎ (s ≡ Sort.Any)
bool_or_any Sort.Bool may = inl refl
bool_or_any Sort.Any may = inr refl
bool_or_any s may = absurd (true≢false (sym may))

-- ---- atoms of the fragment

no_list_left : (c : Bool) → not c ≡ true → (not (c || false) && true) ≡ true
no_list_left false is = refl
no_list_left true is = absurd (true≢false (sym is))

no_list_right : (c : Bool) → not c ≡ true → (not c && true) ≡ true
no_list_right false is = refl
no_list_right true is = absurd (true≢false (sym is))

no_lists : (c d : Bool) → not c ≡ true → not d ≡ true → (not (c || d) && true) ≡ true
no_lists false false is also = refl
no_lists true d is also = absurd (true≢false (sym is))
no_lists false true is also = absurd (true≢false (sym also))

-- `=` of two narrow terms has a form of the fragment
equal_form : (s t : PureTerm) → is_narrow s ≡ true → is_narrow t ≡ true → is_fragment_term (binary_of BinOp.Equal s t) ≡ true
equal_form (literal k) (literal l) first second = refl
equal_form (variable x) (literal l) first second = no_list_left (same_sort x.sort Sort.List) first
equal_form (literal k) (variable y) first second = no_list_right (same_sort y.sort Sort.List) second
equal_form (variable x) (variable y) first second = no_lists (same_sort x.sort Sort.List) (same_sort y.sort Sort.List) first second
equal_form (literal k) t first second = absurd (true≢false (sym second))
equal_form (variable x) t first second = absurd (true≢false (sym second))
equal_form s t first second = absurd (true≢false (sym first))

kind_test : (x : Var) (k : Kind) → x.sort ≡ Sort.Any → is_fragment_term (is_of_kind (variable x) k) ≡ true
kind_test x k any = subst (λ s. is_fragment_term (is_of_kind (variable (record { number = x.number; sort = s })) k) ≡ true) (sym any) refl

boolean_form : (x : Var) → x.sort ≡ Sort.Bool → is_fragment_term (variable x) ≡ true
boolean_form x bool = subst (λ s. is_fragment_term (variable (record { number = x.number; sort = s })) ≡ true) (sym bool) refl

abbrev is_pair : PureTerm → Bool
is_pair (binary_of op s t) = true
is_pair _ = false

module _ (n : ℕ) where
  abbrev Decided : PureAtom → Type 0
  Decided a = IsDecidedWithin (neg_ℤ (pos n)) (pos n) a

  abbrev HasLiterals : PureTerm → Type 0
  HasLiterals t = has_literals_between (neg_ℤ (pos n)) (pos n) t ≡ true

  about_decided : (t : PureTerm) (a : PureAtom) → is_fragment_term t ≡ true → HasLiterals t → IsAbout t a → Decided a
  about_decided t (positive u) form within is = (ap is_fragment_term is ∙ form, ap (has_literals_between (neg_ℤ (pos n)) (pos n)) is ∙ within)
  about_decided t (negative u) form within is = (ap is_fragment_term is ∙ form, ap (has_literals_between (neg_ℤ (pos n)) (pos n)) is ∙ within)
  about_decided t (opening u) form within is = absurd is

  -- ---- forms of terms

  abbrev pub IsTest : PureTerm → Type 0
  IsTest (literal l) = Unit {0}
  IsTest (variable x) = IsTrue (is_narrow (variable x))
  IsTest (binary_of BinOp.Equal s t) = IsNarrow n s × IsNarrow n t
  IsTest _ = ⊥

  -- what may stand under `not`
  abbrev IsOperand : PureTerm → Type 0
  IsOperand (variable x) = IsTrue (is_narrow (variable x)) × ((x.sort ≡ Sort.Bool) ⊎ (x.sort ≡ Sort.Any))
  IsOperand (binary_of BinOp.Equal s t) = IsNarrow n s × IsNarrow n t
  IsOperand _ = ⊥

  abbrev pub IsGuard : PureTerm → Type 0
  IsGuard (unary_of UnOp.Not t) = IsOperand t
  IsGuard t = IsTest t

  -- ---- conditions

  pair_decided : (s t : PureTerm) (a : PureAtom) → IsNarrow n s → IsNarrow n t → IsAbout (binary_of BinOp.Equal s t) a → Decided a
  pair_decided s t a first second is =
      about_decided (binary_of BinOp.Equal s t) a (equal_form s t first.0 second.0) (and_from (has_literals_between (neg_ℤ (pos n)) (pos n) s) (has_literals_between (neg_ℤ (pos n)) (pos n) t) first.1 second.1) is

  kind_asked : (x : Var) (k : Kind) (a : PureAtom) → AsksKind k (variable x) a → Decided a
  kind_asked x k a (none, is) = about_decided (is_of_kind (variable x) k) a (kind_test x k (any_sort x.sort none)) refl is

  -- what a test says of a variable
  variable_said : (x : Var) (a : PureAtom) → is_narrow (variable x) ≡ true → (x.sort ≡ Sort.Bool) ⊎ (x.sort ≡ Sort.Any) → SaysPart a (variable x) → Decided a
  variable_said x a narrow (inl bool) (inl (not_any, is)) = about_decided (variable x) a (boolean_form x bool) refl is
  variable_said x a narrow (inr any) (inl (not_any, is)) = absurd (true≢false (sym (ap (λ s. same_sort s Sort.Any) any) ∙ not_any))
  variable_said x a narrow sort (inr (y, (b, (is, any, at)))) = subst Decided (sym at) (equal_form (variable x) (literal (Literal.Bool b)) narrow refl, refl)

  -- what a test says of a pair
  pair_said : (s t : PureTerm) (a : PureAtom) → IsNarrow n s → IsNarrow n t → SaysPart a (binary_of BinOp.Equal s t) → Decided a
  pair_said s t a first second (inl (not_any, is)) = pair_decided s t a first second is
  pair_said s t a first second (inr (y, (b, (is, any, at)))) = absurd (true≢false (ap is_pair is))

  pub conditions_decided : (t : PureTerm) → IsGuard t → (a : PureAtom) → IsGuardCondition t a → Decided a
  conditions_decided (literal l) form a (no_literal_form, may, asks) = absurd (true≢false no_literal_form)
  conditions_decided (variable x) form a (no_literal_form, may, inl (inl says)) = variable_said x a form (bool_or_any x.sort may) says
  conditions_decided (variable x) form a (no_literal_form, may, inl (inr none)) = absurd none
  conditions_decided (variable x) form a (no_literal_form, may, inr asks) = kind_asked x Kind.Bool a asks
  conditions_decided (binary_of BinOp.Equal s t) form a (no_literal_form, may, inl (inl says)) = pair_said s t a form.0 form.1 says
  conditions_decided (binary_of BinOp.Equal s t) form a (no_literal_form, may, inl (inr none)) = absurd none
  conditions_decided (binary_of BinOp.Equal s t) form a (no_literal_form, may, inr asks) = not_none (sym asks.0)
  conditions_decided (unary_of UnOp.Not (variable x)) form a (no_literal_form, may, inl (inl says)) = variable_said x a form.0 form.1 says
  conditions_decided (unary_of UnOp.Not (variable x)) form a (no_literal_form, may, inl (inr none)) = absurd none
  conditions_decided (unary_of UnOp.Not (variable x)) form a (no_literal_form, may, inr asks) = not_none (sym asks.0)
  conditions_decided (unary_of UnOp.Not (binary_of BinOp.Equal s t)) form a (no_literal_form, may, inl (inl says)) = pair_said s t a form.0 form.1 says
  conditions_decided (unary_of UnOp.Not (binary_of BinOp.Equal s t)) form a (no_literal_form, may, inl (inr none)) = absurd none
  conditions_decided (unary_of UnOp.Not (binary_of BinOp.Equal s t)) form a (no_literal_form, may, inr asks) = not_none (sym asks.0)
  conditions_decided t form a asks = absurd form

  boolean_decided : (t : PureTerm) → IsGuard t → (a : PureAtom) → AsksBoolean t a → Decided a
  boolean_decided (variable x) form a asks = kind_asked x Kind.Bool a asks
  boolean_decided (literal l) form a asks = not_none (sym asks.0)
  boolean_decided (binary_of BinOp.Equal s t) form a asks = not_none (sym asks.0)
  boolean_decided (unary_of UnOp.Not t) form a asks = not_none (sym asks.0)
  boolean_decided t form a asks = absurd form

  side_decided : (P : PureAtom → Type 0) (o : Option (List PureAtom)) → ((a : PureAtom) → P a → Decided a) → OnSide P o → OnSide Decided o
  side_decided P None to side = tt
  side_decided P (Some conds) to side = each_to P Decided conds to side

  pub sides_decided : (t : PureTerm) (sides : PureSides) → IsGuard t → SidesComeFrom t sides → EachSide Decided sides
  sides_decided t sides form come = (
    side_decided (IsGuardCondition t) sides.when_true (conditions_decided t form) come.0,
    side_decided (IsGuardCondition t) sides.when_false (conditions_decided t form) come.1,
    side_decided (AsksBoolean t) sides.when_no_boolean (boolean_decided t form) come.2,
  )

  -- ---- nothing else stands for the term of a guard

  in_place : (u t : PureTerm) → size u ≡ 1 → IsSameOrSmaller u t → t ≡ u
  in_place u t one (inl same) = same
  in_place u t one (inr less) = absurd (omega (arith, less, one, positive_size t))

  pair_stays : (p q t : PureTerm) → IsNarrow n p → IsNarrow n q → MayStandForGuard (binary_of BinOp.Equal p q) t → t ≡ binary_of BinOp.Equal p q
  pair_stays p q t first second stands =
      let u : PureTerm = binary_of BinOp.Equal p q in
      subst (λ c. MatchBool c (t ≡ u) (Replaces u t)) (or_left (has_fragment_form (positive u)) (not (allows (known_kind u) Kind.Bool)) (equal_form p q first.0 second.0)) stands

  variable_stays : (x : Var) (t : PureTerm) → MayStandForGuard (variable x) t → t ≡ variable x
  variable_stays x t stands = in_place (variable x) t refl (guard_replaces (variable x) t stands).no_larger

  pub guard_stays : (u t : PureTerm) → IsGuard u → MayStandForGuard u t → t ≡ u
  guard_stays (literal l) t form stands = in_place (literal l) t refl (guard_replaces (literal l) t stands).no_larger
  guard_stays (variable x) t form stands = variable_stays x t stands
  guard_stays (binary_of BinOp.Equal p q) t form stands = pair_stays p q t form.0 form.1 stands
  guard_stays (unary_of UnOp.Not (variable x)) t form (w, (same, inner)) = same ∙ ap (unary_of UnOp.Not) (variable_stays x w inner)
  guard_stays (unary_of UnOp.Not (binary_of BinOp.Equal p q)) t form (w, (same, inner)) = same ∙ ap (unary_of UnOp.Not) (pair_stays p q w form.0 form.1 inner)
  guard_stays u t form stands = absurd form

  -- ---- the terms of guards

  literal_test : (t : PureTerm) → is_literal t ≡ true → IsTest t
  literal_test (literal l) lit = tt
  literal_test t lit = absurd (true≢false (sym lit))

  narrow_test : (t : PureTerm) → IsNarrow n t → IsTest t
  narrow_test (literal l) narrow = tt
  narrow_test (variable x) narrow = narrow.0
  narrow_test t narrow = absurd (true≢false (sym narrow.0))

  computed_test : (k l : Literal) (o : Option Literal) → IsNarrow n (literal k) → IsNarrow n (literal l) → IsTest (literal_or (binary_of BinOp.Equal (literal k) (literal l)) o)
  computed_test k l (Some j) first second = tt
  computed_test k l None first second = (first, second)

  equal_test : (s t : PureTerm) → IsNarrow n s → IsNarrow n t → IsTest (folded_binary BinOp.Equal s t)
  equal_test (literal k) (literal l) first second = computed_test k l (computed_binary BinOp.Equal k l) first second
  equal_test (variable x) (literal l) first second = (first, second)
  equal_test (literal k) (variable y) first second = (first, second)
  equal_test (variable x) (variable y) first second = (first, second)
  equal_test (literal k) t first second = absurd (true≢false (sym second.0))
  equal_test (variable x) t first second = absurd (true≢false (sym second.0))
  equal_test s t first second = absurd (true≢false (sym first.0))

  -- a value that can be negated is a boolean
  negated_boolean : (o : Option PureValue) → HasValue (option_and_then (λ a. result_ok (negation a)) o) → (c : Bool) × (o ≡ Some (boolean c))
  negated_boolean (Some (boolean c)) has = (c, refl)
  negated_boolean None has = not_none has.1
  negated_boolean (Some w) has = not_none has.1

  negated_sort : (s : Sort) (o : Option PureValue) → TellsIfSome (kind_of_sort s) o → HasValue (option_and_then (λ a. result_ok (negation a)) o) → (s ≡ Sort.Bool) ⊎ (s ≡ Sort.Any)
  negated_sort Sort.Bool o tells has = inl refl
  negated_sort Sort.Any o tells has = inr refl
  negated_sort s o tells has = let (c, is) = negated_boolean o has in absurd (true≢false (ap (λ k. same_kind k Kind.Bool) (subst (TellsIfSome (kind_of_sort s)) is tells)))

  sort_by : (k : Option Kind) (x : Var) (o : Option PureValue) → kind_of_sort x.sort ≡ k → TellsIfSome (kind_of_sort x.sort) o → ((kind_of_sort x.sort ≡ None → ⊥) → HasValue (option_and_then (λ a. result_ok (negation a)) o)) → (x.sort ≡ Sort.Bool) ⊎ (x.sort ≡ Sort.Any)
  sort_by None x o is tells has = inr (any_sort x.sort is)
  sort_by (Some k) x o is tells has = negated_sort x.sort o tells (has (λ none. not_none (sym none ∙ is)))

  no_literal : (l : Literal) (v : List PureValue) → HasValue (value v (folded_unary UnOp.Not (literal l))) → IsGuard (folded_unary UnOp.Not (literal l))
  no_literal (Literal.Bool b) v has = tt
  no_literal l v has = not_none has.1

  -- `not` of a test, which has a value where the kind of the test is known
  pub negated : (vars : List Sort) (v : List PureValue) (w : PureTerm) → IsProper vars v → IsTest w → IsOver vars (folded_unary UnOp.Not w) → ((known_kind w ≡ None → ⊥) → HasValue (value v (folded_unary UnOp.Not w))) → IsGuard (folded_unary UnOp.Not w)
  negated vars v (literal l) proper test over has = no_literal l v (has (λ none. not_none (sym none)))
  negated vars v (variable x) proper test over has =
      (test, sort_by (kind_of_sort x.sort) x (slice_get v x.number) refl (value-tells vars v proper (variable x) over) has)
  negated vars v (binary_of BinOp.Equal s t) proper test over has = test
  negated vars v w proper test over has = absurd test

-- ---- what a guard asks, and its term

narrow_simple : (t : PureTerm) → is_narrow t ≡ true → is_simple t ≡ true
narrow_simple (literal l) narrow = refl
narrow_simple (variable x) narrow = refl
narrow_simple t narrow = absurd (true≢false (sym narrow))

none_of : {P : PureAtom → Type 0} (conds : List PureAtom) → ((a : PureAtom) → P a → ⊥) → Each P conds → conds ≡ []
none_of [] none each = refl
none_of (a ∷ conds) none each = absurd (none a each.0)

module _ (b : ℕ) (enough : text_bound ≤ b) (bs : PureStore) (store : OfEachName (IsNarrow b) bs) (vars : List Sort) (over : IsStoreOver vars bs) where
  abbrev v : List PureValue
  v = some_values 0 vars

  has_value : (x : List ℕ) (t : PureTerm) → term_at bs x ≡ Some t → HasValue (value v t)
  has_value x t is = simple-has_value vars v t (some_proper vars) (over x t is) (narrow_simple t (store x t is).0)

  serves : meaning.Serves vars v bs (valued v bs)
  serves = record { proper = some_proper vars; over = over; stands = valued_stands v bs has_value }

  -- where a result has no condition, it has a value
  outcome_value : (o : Outcome) (cases : PureCases PureTerm) (g : PureGoodCase PureTerm) → cases.good ≡ Some g → g.conds ≡ [] → SayOutcome v (meaning.HasValue v) o cases → HasValue (value v g.result)
  outcome_value (Ok w) cases g good none says = (w, (subst (meaning.IsGood v (λ t. meaning.HasValue v t w)) good says.0).1)
  outcome_value (Err f) cases g good none says = absurd (true≢false (sym (ap (all_true v) none) ∙ subst (meaning.IsClosed v) good says.0))

  -- ---- tests

  test_asks : {X : Type 0} (e : PureExpr) (a : PureAtom) → is_test e ≡ true → OneOf (IsAskedOf bs a) (subexpressions e) → X
  test_asks (value_literal u) a test asked = flat_asks bs (value_literal u) a refl asked
  test_asks (name x) a test asked = flat_asks bs (name x) a refl asked
  test_asks (binary_expr BinOp.Equal d e) a test (inl (s, (t, (is, also, none)))) = absurd none
  test_asks (binary_expr BinOp.Equal d e) a test (inr later) =
      let (first, second) = and_parts (is_flat d) (is_flat e) test in
      ⊎_elim (flat_asks bs d a first) (flat_asks bs e a second) (one_parts (IsAskedOf bs a) (subexpressions d) (subexpressions e) later)
  test_asks e a test asked = absurd (true≢false (sym test))

  pair_texts : (d e : PureExpr) → has_text_numbers (binary_expr BinOp.Equal d e) ≡ true → (has_text_numbers d ≡ true) × (has_text_numbers e ≡ true)
  pair_texts d e texts = literal_parts is_text_number (subexpressions d) (subexpressions e) texts

  test_term : (e : PureExpr) (t : PureTerm) → is_test e ≡ true → has_text_numbers e ≡ true → IsTermOf bs e t → IsTest b t
  test_term (value_literal u) t test texts is = literal_test b t (literal_of bs (value_literal u) t refl is)
  test_term (name x) t test texts is = narrow_test b t (flat_term b enough bs store (name x) t refl texts is)
  test_term (binary_expr BinOp.Equal d e) t test texts is =
      let (first, second) = and_parts (is_flat d) (is_flat e) test in
      let (texts_first, texts_second) = pair_texts d e texts in
      let (s, (is_s, later)) = some_of (λ s. option_map (folded_binary BinOp.Equal s) (substituted bs e)) (substituted bs d) t is in
      let (u, (is_u, whole)) = some_mapped (folded_binary BinOp.Equal s) (substituted bs e) t later in
      subst (IsTest b) whole (equal_test b s u (flat_term b enough bs store d s first texts_first is_s) (flat_term b enough bs store e u second texts_second is_u))
  test_term e t test texts is = absurd (true≢false (sym test))

  -- ---- guards

  not_asks : (e : PureExpr) (a : PureAtom) → is_test e ≡ true → has_text_numbers e ≡ true → OneOf (IsAskedOf bs a) (subexpressions (unary_expr UnOp.Not e)) → (w : PureTerm) × (IsTermOf bs e w × AsksKind Kind.Bool w a)
  not_asks e a test texts (inl asks) = asks
  not_asks e a test texts (inr later) = test_asks e a test later

  operand_asked : (w : PureTerm) (a : PureAtom) → IsTest b w → AsksKind Kind.Bool w a → Decided b a
  operand_asked (variable x) a test asks = kind_asked b x Kind.Bool a asks
  operand_asked (literal l) a test asks = not_none (sym asks.0)
  operand_asked (binary_of BinOp.Equal s t) a test asks = not_none (sym asks.0)
  operand_asked w a test asks = absurd test

  pub guard_asks : (e : PureExpr) (a : PureAtom) → is_guard e ≡ true → has_text_numbers e ≡ true → IsAsked bs e a → Decided b a
  guard_asks (unary_expr UnOp.Not e) a guard texts asked =
      let (w, (is, asks)) = not_asks e a guard texts asked in operand_asked w a (test_term e w guard texts is) asks
  guard_asks (value_literal u) a guard texts asked = test_asks (value_literal u) a guard asked
  guard_asks (name x) a guard texts asked = test_asks (name x) a guard asked
  guard_asks (binary_expr op d e) a guard texts asked = test_asks (binary_expr op d e) a guard asked
  guard_asks e a guard texts asked = absurd (true≢false (sym guard))

  test_is_guard : (t : PureTerm) → IsTest b t → IsGuard b t
  test_is_guard (literal l) test = test
  test_is_guard (variable x) test = test
  test_is_guard (binary_of BinOp.Equal s t) test = test
  test_is_guard t test = absurd test

  -- a question about the operand of `not` leaves its kind open
  no_question : (e : PureExpr) (w : PureTerm) → is_test e ≡ true → has_text_numbers e ≡ true → IsTermOf bs e w → (known_kind w ≡ None → ⊥) → (a : PureAtom) → IsAsked bs (unary_expr UnOp.Not e) a → ⊥
  no_question e w test texts is known a asked =
      let (u, (is_u, asks)) = not_asks e a test texts asked in
      known (ap known_kind (same_some (sym is ∙ is_u)) ∙ asks.0)

  pub guard_term : (e : PureExpr) (cases : PureCases PureTerm) (g : PureGoodCase PureTerm) → is_guard e ≡ true → has_text_numbers e ≡ true → IsEvaluated bs e cases → cases.good ≡ Some g → IsGuard b g.result
  guard_term (unary_expr UnOp.Not e) cases g guard texts evaluated good =
      let is : IsTermOf bs (unary_expr UnOp.Not e) g.result = subst (OnResult (IsTermOf bs (unary_expr UnOp.Not e))) good evaluated.origin.1 in
      let (w, (is_w, whole)) = some_mapped (folded_unary UnOp.Not) (substituted bs e) g.result is in
      let result_over : IsOver vars g.result = subst (OnResult (IsOver vars)) good (evaluated.names vars over).1 in
      let asked : Each (IsAsked bs (unary_expr UnOp.Not e)) g.conds = subst (OnConditions (IsAsked bs (unary_expr UnOp.Not e))) good evaluated.origin.0.1 in
      let says : SayOutcome v (meaning.HasValue v) (evaluate (unary_expr UnOp.Not e) (valued v bs)) cases = evaluated.are_cases vars v (valued v bs) serves in
      subst (IsGuard b) whole
      (negated b vars v w (some_proper vars) (test_term e w guard texts is_w) (subst (IsOver vars) (sym whole) result_over)
      (λ known. subst (λ t. HasValue (value v t)) (sym whole) (outcome_value (evaluate (unary_expr UnOp.Not e) (valued v bs)) cases g good (none_of g.conds (no_question e w guard texts is_w known) asked) says)))
  guard_term (value_literal u) cases g guard texts evaluated good = test_is_guard g.result (test_term (value_literal u) g.result guard texts (subst (OnResult (IsTermOf bs (value_literal u))) good evaluated.origin.1))
  guard_term (name x) cases g guard texts evaluated good = test_is_guard g.result (test_term (name x) g.result guard texts (subst (OnResult (IsTermOf bs (name x))) good evaluated.origin.1))
  guard_term (binary_expr op d e) cases g guard texts evaluated good = test_is_guard g.result (test_term (binary_expr op d e) g.result guard texts (subst (OnResult (IsTermOf bs (binary_expr op d e))) good evaluated.origin.1))
  guard_term e cases g guard texts evaluated good = absurd (true≢false (sym guard))
