-- Where the conditions and the results of tests and splits come from, as they are put together.
use Rattle.std.proofs.Common.{◌≡◌, ◌⊎◌, ⊎_elim, inl, inr, ℕ, List, [], ◌∷◌, ◌++◌, map, length, Bool, true, false, if◌then◌else◌, Option, Some, None, is_some, IsTrue, refl, sym, ap, subst, ◌∙◌, arith}
use Rattle.std.specs.Option.{option_map, option_and_then}
use Rattle.std.specs.Str.{bytes_eq}
use Rattle.gil_values.specs.declared.kinds.Kind.{Kind}
use Rattle.gil_values.specs.declared.operators.BinOp.{BinOp}
use Rattle.gil_values.specs.Equality.{same_kind}
use Rattle.gil_syntax.specs.declared.assertions.Param.{Param}
use Rattle.gil_syntax.specs.declared.assertions.SpecSort.{SpecSort}
use Rattle.gil_syntax.specs.Pure.{PureExpr, literal as value_literal, name, logical, list_of as list_expr, unary_of as unary_expr, binary_of as binary_expr, PurePredDef}
use Rattle.gil_syntax.specs.Subexpressions.{subexpressions}
use Rattle.gil_syntax.proofs.NameLemmas.{bytes_eq-refl}
use Rattle.assert_logic.specs.Matching.{scope_of}
use Rattle.pure_terms.specs.Kinds.{allows, known_kind}
use Rattle.pure_terms.specs.Pure.{PureTerm, literal, variable, list_of, unary_of, binary_of, PureAtom, positive, negative}
use Rattle.sym_model.specs.declared.comparing.Comparison.{Comparison}
use Rattle.sym_model.specs.Alternatives.{Alternatives, always, never, given, equal, by_comparison, kind_is, by_kind}
use Rattle.sym_model.specs.Comparing.{compared}
use Rattle.sym_model.specs.Lists.{Each, OneOf}
use Rattle.sym_model.specs.Terms.{is_literal}
use Rattle.sym_model.proofs.ListLaws.{same_some, not_none, each_append, each_map, each_to, one_left, one_right}
use Rattle.sym_evaluation.specs.Pure.{PureStore, term_at, PureGoodCase, PureCases, PureSides}
use Rattle.sym_evaluation.specs.Questions.{IsTermOf, AsksKind, IsAsked, IsAskedOf, ComesFrom, AsksBoolean, IsGuardCondition, OnSide, SidesComeFrom, OnConditions, OnResult}
use Rattle.sym_matching.specs.Origins.{OnEachIfAny, TestComesFrom, FoundComesFrom, SplitComesFrom, OneOfBoth, AsksSort, AsksSorts, AsksEqual, AsksElements, AsksOuts, AddsOnlyTo, IsNameOf, IsGivenAmong, AsksValue, AsksValues, ValuesComeFrom, IsDefinedBy, AsksPure, PureComesFrom, AreKnownOuts, OutsComeFrom, IsParamGiven, IsGivenToCase, AsksCase, IsStoreOfCase, CaseComesFrom, terms_at}
use Rattle.sym_matching.specs.Parts.{IsThis, GivenComesFrom, GivesTerm, TermComesFrom, KnownComesFrom, AsksBound, BoundComesFrom, Continues, KnowsOneMore, DefinitionComesFrom, TruthComesFrom}
use Rattle.sym_matching.specs.Pure.{PureTest, PureSplit, PureOuts}
use Rattle.sym_matching.specs.Splitting.{behind_conds, also_by, also, passed, failed, last_of, equal_test, kind_test, sort_test, with_sort, out_test, side_alternatives, nothing, sure, case_behind, behind, with_result, where_met, name_without, known_with, with_known, terms_with}

-- ---- tests

module _ (P : PureAtom → Type 0) where
  behind_from : (conds : List PureAtom) (x : Alternatives) → Each P conds → Each (Each P) x → Each (Each P) (behind_conds conds x)
  behind_from conds x first all =
      each_append (Each P) (map (λ c. conds ++ c) x) []
      (each_map (Each P) (λ c. conds ++ c) x (each_to (Each P) (λ c. Each P (conds ++ c)) x (λ c is. each_append P conds c first is) all))
      tt

  when_from : (conds : List PureAtom) (o : Option (List PureAtom)) → Each P conds → OnEachIfAny P o → OnEachIfAny P (option_map (λ more. conds ++ more) o)
  when_from conds None first second = tt
  when_from conds (Some more) first second = each_append P conds more first second

  also_by_from : (o : Option (List PureAtom)) (rest : Alternatives) (test : PureTest) → OnEachIfAny P o → Each (Each P) rest → TestComesFrom P test → TestComesFrom P (also_by o rest test)
  also_by_from None rest test first others second = record { when = tt; otherwise = others }
  also_by_from (Some conds) rest test first others second = record {
    when = when_from conds test.when first second.when;
    otherwise = each_append (Each P) rest (behind_conds conds test.otherwise) others (behind_from conds test.otherwise first second.otherwise);
  }

  also_from : (test more : PureTest) → TestComesFrom P test → TestComesFrom P more → TestComesFrom P (also test more)
  also_from test more first second = also_by_from test.when test.otherwise more first.when first.otherwise second

  pub passed_from : TestComesFrom P passed
  passed_from = record { when = tt; otherwise = tt }

  pub failed_from : TestComesFrom P failed
  failed_from = record { when = tt; otherwise = (tt, tt) }

  compared_when : (c : Comparison) (a : PureAtom) → (c ≡ Comparison.Unsure → P a) → OnEachIfAny P (last_of (by_comparison c always never (given a)))
  compared_when Comparison.Same a is = tt
  compared_when Comparison.Different a is = tt
  compared_when Comparison.Unsure a is = (is refl, tt)

  compared_other : (c : Comparison) (a : PureAtom) → (c ≡ Comparison.Unsure → P a) → Each (Each P) (by_comparison c never always (given a))
  compared_other Comparison.Same a is = tt
  compared_other Comparison.Different a is = (tt, tt)
  compared_other Comparison.Unsure a is = ((is refl, tt), tt)

  tested_when : (b : Bool) → OnEachIfAny P (last_of (if b then always else never))
  tested_when true = tt
  tested_when false = tt

  tested_other : (b : Bool) → Each (Each P) (if b then never else always)
  tested_other true = tt
  tested_other false = (tt, tt)

  kind_when : (o : Option Kind) (k : Kind) (a : PureAtom) → (o ≡ None → P a) → OnEachIfAny P (last_of (by_kind o k always never (given a)))
  kind_when (Some l) k a is = tested_when (same_kind l k)
  kind_when None k a is = (is refl, tt)

  kind_other : (o : Option Kind) (k : Kind) (a : PureAtom) → (o ≡ None → P a) → Each (Each P) (by_kind o k never always (given a))
  kind_other (Some l) k a is = tested_other (same_kind l k)
  kind_other None k a is = ((is refl, tt), tt)

module _ (P Q : PureAtom → Type 0) (f : (a : PureAtom) → P a → Q a) where
  alternatives_to : (x : Alternatives) → Each (Each P) x → Each (Each Q) x
  alternatives_to x all = each_to (Each P) (Each Q) x (λ conds is. each_to P Q conds f is) all

  when_to : (o : Option (List PureAtom)) → OnEachIfAny P o → OnEachIfAny Q o
  when_to None is = tt
  when_to (Some conds) is = each_to P Q conds f is

  pub test_to : (test : PureTest) → TestComesFrom P test → TestComesFrom Q test
  test_to test is = record { when = when_to test.when is.when; otherwise = alternatives_to test.otherwise is.otherwise }

equal_from : (s t : PureTerm) → TestComesFrom (AsksEqual s t) (equal_test s t)
equal_from s t = record {
  when = compared_when (AsksEqual s t) (compared s t) (positive (equal s t)) (λ unsure. (unsure, refl));
  otherwise = compared_other (AsksEqual s t) (compared s t) (negative (equal s t)) (λ unsure. (unsure, refl));
}

kind_from : (t : PureTerm) (k : Kind) → TestComesFrom (AsksKind k t) (kind_test t k)
kind_from t k = record {
  when = kind_when (AsksKind k t) (known_kind t) k (positive (kind_is t k)) (λ none. (none, refl));
  otherwise = kind_other (AsksKind k t) (known_kind t) k (negative (kind_is t k)) (λ none. (none, refl));
}

sort_from : (sort : SpecSort) (t : PureTerm) → TestComesFrom (AsksSort sort t) (sort_test sort t)
sort_from SpecSort.Int t = test_to (AsksKind Kind.Int t) (AsksSort SpecSort.Int t) (λ a asks. (Kind.Int, (refl, asks))) (kind_test t Kind.Int) (kind_from t Kind.Int)
sort_from SpecSort.Bool t = test_to (AsksKind Kind.Bool t) (AsksSort SpecSort.Bool t) (λ a asks. (Kind.Bool, (refl, asks))) (kind_test t Kind.Bool) (kind_from t Kind.Bool)
sort_from SpecSort.Str t = test_to (AsksKind Kind.Str t) (AsksSort SpecSort.Str t) (λ a asks. (Kind.Str, (refl, asks))) (kind_test t Kind.Str) (kind_from t Kind.Str)
sort_from SpecSort.Sym t = test_to (AsksKind Kind.Sym t) (AsksSort SpecSort.Sym t) (λ a asks. (Kind.Sym, (refl, asks))) (kind_test t Kind.Sym) (kind_from t Kind.Sym)
sort_from SpecSort.List t = test_to (AsksKind Kind.List t) (AsksSort SpecSort.List t) (λ a asks. (Kind.List, (refl, asks))) (kind_test t Kind.List) (kind_from t Kind.List)
sort_from SpecSort.Any t = passed_from (AsksSort SpecSort.Any t)

-- one parameter more
module _ (x : List ℕ) (t : PureTerm) (ps : List Param) (q : Param) where
  abbrev Sorts : PureAtom → Type 0
  Sorts a = AsksSorts (ps ++ q ∷ []) x t a

  abbrev HasSort : PureAtom → Param → Type 0
  HasSort a r = IsTrue (bytes_eq r.name x) × AsksSort r.sort t a

  sorts_by : (b : Bool) (test : PureTest) → bytes_eq q.name x ≡ b → TestComesFrom Sorts test → TestComesFrom Sorts (if b then also test (sort_test q.sort t) else test)
  sorts_by true test named before =
      also_from Sorts test (sort_test q.sort t) before
      (test_to (AsksSort q.sort t) Sorts (λ a asks. one_right (HasSort a) ps (q ∷ []) (inl (named, asks))) (sort_test q.sort t) (sort_from q.sort t))
  sorts_by false test other before = before

  pub sorts_from : (test whole : PureTest) → TestComesFrom (AsksSorts ps x t) test → whole ≡ with_sort test q x t → TestComesFrom (AsksSorts (ps ++ q ∷ []) x t) whole
  sorts_from test whole from is =
      subst (TestComesFrom Sorts) (sym is) (sorts_by (bytes_eq q.name x) test refl (test_to (AsksSorts ps x t) Sorts (λ a asks. one_left (HasSort a) ps (q ∷ []) asks) test from))

-- ---- at the same places of two lists

module _ {A B : Type 0} (P : A → B → Type 0) where
  pub both_left : (xs : List A) (ys : List B) (x : A) (y : B) → OneOfBoth P xs ys → OneOfBoth P (xs ++ x ∷ []) (ys ++ y ∷ [])
  both_left [] ys x y one = absurd one
  both_left (z ∷ xs) [] x y one = absurd one
  both_left (z ∷ xs) (w ∷ ys) x y one = ⊎_elim inl (λ later. inr (both_left xs ys x y later)) one

  pub both_last : (xs : List A) (ys : List B) (x : A) (y : B) → length xs ≡ length ys → P x y → OneOfBoth P (xs ++ x ∷ []) (ys ++ y ∷ [])
  both_last [] [] x y same is = inl is
  both_last [] (w ∷ ys) x y same is = absurd (omega (arith, same))
  both_last (z ∷ xs) [] x y same is = absurd (omega (arith, same))
  both_last (z ∷ xs) (w ∷ ys) x y same is = inr (both_last xs ys x y (omega (arith, same)) is)

module _ (ss ts : List PureTerm) (s t : PureTerm) where
  abbrev Elements : PureAtom → Type 0
  Elements a = AsksElements (ss ++ s ∷ []) (ts ++ t ∷ []) a

  pub elements_from : (test whole : PureTest) → length ss ≡ length ts → TestComesFrom (AsksElements ss ts) test → whole ≡ also test (equal_test s t) → TestComesFrom (AsksElements (ss ++ s ∷ []) (ts ++ t ∷ [])) whole
  elements_from test whole same from is =
      subst (TestComesFrom Elements) (sym is)
      (also_from Elements test (equal_test s t) (test_to (AsksElements ss ts) Elements (λ a asks. both_left (λ u w. AsksEqual u w a) ss ts s t asks) test from)
      (test_to (AsksEqual s t) Elements (λ a asks. both_last (λ u w. AsksEqual u w a) ss ts s t same asks) (equal_test s t) (equal_from s t)))

module _ (a : PureAtom) where
  outs_left : (ks : PureOuts) (ts : List PureTerm) (k : Option PureTerm) (t : PureTerm) → AsksOuts ks ts a → AsksOuts (ks ++ k ∷ []) (ts ++ t ∷ []) a
  outs_left [] ts k t asks = absurd asks
  outs_left (None ∷ ks) [] k t asks = absurd asks
  outs_left (Some s ∷ ks) [] k t asks = absurd asks
  outs_left (None ∷ ks) (u ∷ ts) k t asks = outs_left ks ts k t asks
  outs_left (Some s ∷ ks) (u ∷ ts) k t asks = ⊎_elim inl (λ later. inr (outs_left ks ts k t later)) asks

  outs_last : (ks : PureOuts) (ts : List PureTerm) (s t : PureTerm) → length ks ≡ length ts → AsksEqual s t a → AsksOuts (ks ++ Some s ∷ []) (ts ++ t ∷ []) a
  outs_last [] [] s t same asks = inl asks
  outs_last [] (u ∷ ts) s t same asks = absurd (omega (arith, same))
  outs_last (k ∷ ks) [] s t same asks = absurd (omega (arith, same))
  outs_last (None ∷ ks) (u ∷ ts) s t same asks = outs_last ks ts s t (omega (arith, same)) asks
  outs_last (Some r ∷ ks) (u ∷ ts) s t same asks = inr (outs_last ks ts s t (omega (arith, same)) asks)

pub outs_from : (ks : PureOuts) (ts : List PureTerm) (k : Option PureTerm) (t : PureTerm) (test whole : PureTest) → length ks ≡ length ts → TestComesFrom (AsksOuts ks ts) test → whole ≡ also test (out_test k t)
    → TestComesFrom (AsksOuts (ks ++ k ∷ []) (ts ++ t ∷ [])) whole
outs_from ks ts k t test whole same from is =
    subst (TestComesFrom (AsksOuts (ks ++ k ∷ []) (ts ++ t ∷ []))) (sym is)
    (also_from (AsksOuts (ks ++ k ∷ []) (ts ++ t ∷ [])) test (out_test k t)
    (test_to (AsksOuts ks ts) (AsksOuts (ks ++ k ∷ []) (ts ++ t ∷ [])) (λ a asks. outs_left a ks ts k t asks) test from) (by k))
  where
    by : (o : Option PureTerm) → TestComesFrom (AsksOuts (ks ++ o ∷ []) (ts ++ t ∷ [])) (out_test o t)
    by None = passed_from (AsksOuts (ks ++ None ∷ []) (ts ++ t ∷ []))
    by (Some s) = test_to (AsksEqual s t) (AsksOuts (ks ++ Some s ∷ []) (ts ++ t ∷ [])) (λ a asks. outs_last a ks ts s t same asks) (equal_test s t) (equal_from s t)

-- ---- guards

open_kind : (t : PureTerm) → known_kind t ≡ None → is_literal t ≡ false
open_kind (literal l) none = not_none (sym none)
open_kind (variable x) none = refl
open_kind (list_of ts) none = refl
open_kind (unary_of op t) none = refl
open_kind (binary_of op s t) none = refl

boolean_guard : (t : PureTerm) (a : PureAtom) → AsksBoolean t a → IsGuardCondition t a
boolean_guard t a asks = (open_kind t asks.0, subst (λ (o : Option Kind). IsTrue (allows o Kind.Bool)) (sym asks.0) refl, inr asks)

side_when : (P : PureAtom → Type 0) (o : Option (List PureAtom)) → OnSide P o → OnEachIfAny P o
side_when P None on = tt
side_when P (Some conds) on = on

side_from : (P : PureAtom → Type 0) (o : Option (List PureAtom)) → OnSide P o → Each (Each P) (side_alternatives o)
side_from P None on = tt
side_from P (Some conds) on = (on, tt)

pub guard_from : (t : PureTerm) (sides : PureSides) → SidesComeFrom t sides
    → TestComesFrom (IsGuardCondition t) (record { when = sides.when_true; otherwise = side_alternatives sides.when_false ++ side_alternatives sides.when_no_boolean })
guard_from t sides come = record {
  when = side_when (IsGuardCondition t) sides.when_true come.0;
  otherwise = each_append (Each (IsGuardCondition t)) (side_alternatives sides.when_false) (side_alternatives sides.when_no_boolean)
      (side_from (IsGuardCondition t) sides.when_false come.1)
      (alternatives_to (AsksBoolean t) (IsGuardCondition t) (boolean_guard t) (side_alternatives sides.when_no_boolean) (side_from (AsksBoolean t) sides.when_no_boolean come.2));
}

-- ---- splits

module _ {X : Type 0} (P : PureAtom → Type 0) (Q : X → Type 0) where
  case_from : (conds : List PureAtom) (o : Option (PureGoodCase X)) → Each P conds → FoundComesFrom P Q o → FoundComesFrom P Q (option_map (case_behind conds) o)
  case_from conds None first second = tt
  case_from conds (Some g) first second = (each_append P conds g.conds first second.0, second.1)

  behind_splits_from : (conds : List PureAtom) (none : Alternatives) (next : PureSplit X) → Each P conds → Each (Each P) none → SplitComesFrom P Q next → SplitComesFrom P Q (behind conds none next)
  behind_splits_from conds none next first others from = record {
    found = case_from conds next.found first from.found;
    none = each_append (Each P) none (behind_conds conds next.none) others (behind_from P conds next.none first from.none);
  }

  pub never_from : SplitComesFrom P Q (nothing always)
  never_from = record { found = tt; none = (tt, tt) }

  pub sure_from : (x : X) → Q x → SplitComesFrom P Q (sure x)
  sure_from x holds = record { found = (tt, holds); none = tt }

  met_by : (x : X) (o : Option (List PureAtom)) → OnEachIfAny P o → Q x → FoundComesFrom P Q (option_map (with_result x) o)
  met_by x None conds holds = tt
  met_by x (Some conds) first holds = (first, holds)

  met_from : (test : PureTest) (x : X) → TestComesFrom P test → Q x → SplitComesFrom P Q (where_met test x)
  met_from test x of_test holds = record { found = met_by x test.when of_test.when holds; none = of_test.otherwise }

module _ {X : Type 0} (P R : PureAtom → Type 0) (Q S : X → Type 0) (f : (a : PureAtom) → P a → R a) (g : (x : X) → Q x → S x) where
  found_to : (o : Option (PureGoodCase X)) → FoundComesFrom P Q o → FoundComesFrom R S o
  found_to None is = tt
  found_to (Some c) is = (each_to P R c.conds f is.0, g c.result is.1)

  split_to : (x : PureSplit X) → SplitComesFrom P Q x → SplitComesFrom R S x
  split_to x is = record { found = found_to x.found is.found; none = alternatives_to P R f x.none is.none }

module _ {X Y : Type 0} (P : PureAtom → Type 0) (Q : X → Type 0) (R : Y → Type 0) (Cont : X → PureSplit Y → Type 0) (step : (x : X) (next : PureSplit Y) → Cont x next → Q x → SplitComesFrom P R next) where
  continues_by : (o : Option (PureGoodCase X)) (none : Alternatives) (whole : PureSplit Y) → FoundComesFrom P Q o → Each (Each P) none → Continues Cont o none whole → SplitComesFrom P R whole
  continues_by None none whole found others is = subst (SplitComesFrom P R) (sym is) (record { found = tt; none = others })
  continues_by (Some g) none whole found others (next, (cont, is)) =
      subst (SplitComesFrom P R) (sym is) (behind_splits_from P R g.conds none next found.0 others (step g.result next cont found.1))

  continues_from : (first : PureSplit X) (whole : PureSplit Y) → SplitComesFrom P Q first → Continues Cont first.found first.none whole → SplitComesFrom P R whole
  continues_from first whole from is = continues_by first.found first.none whole from.found from.none is

-- ---- stores

module _ (G H : List ℕ → PureTerm → Type 0) (f : (x : List ℕ) (t : PureTerm) → G x t → H x t) where
  adds_to : (bs after : PureStore) → AddsOnlyTo G bs after → AddsOnlyTo H bs after
  adds_to bs after adds x t at = ⊎_elim inl (λ given. inr (f x t given)) (adds x t at)

  adds_then : (bs mid after : PureStore) → AddsOnlyTo H bs mid → AddsOnlyTo G mid after → AddsOnlyTo H bs after
  adds_then bs mid after first second x t at = ⊎_elim (first x t) (λ given. inr (f x t given)) (second x t at)

pub adds_nothing : (G : List ℕ → PureTerm → Type 0) (bs : PureStore) → AddsOnlyTo G bs bs
adds_nothing G bs x t at = inl at

given_adds : (x : List ℕ) (t : PureTerm) (bs after : PureStore) → ((y : List ℕ) → term_at after y ≡ (if bytes_eq x y then Some t else term_at bs y)) → AddsOnlyTo (IsThis x t) bs after
given_adds x t bs after is y u at = by (bytes_eq x y) refl (sym (is y) ∙ at)
  where
    by : (b : Bool) → bytes_eq x y ≡ b → (if b then Some t else term_at bs y) ≡ Some u → (term_at bs y ≡ Some u) ⊎ IsThis x t y u
    by true named there = inr (named, sym (same_some there))
    by false other there = inl there

pub gives_from : (scope : List Param) (x : List ℕ) (t : PureTerm) (bs after : PureStore) (test : PureTest) → TestComesFrom (AsksSorts scope x t) test → ((y : List ℕ) → term_at after y ≡ (if bytes_eq x y then Some t else term_at bs y))
    → GivenComesFrom scope x t bs (where_met test after)
gives_from scope x t bs after test from is = met_from (AsksSorts scope x t) (AddsOnlyTo (IsThis x t) bs) test after from (given_adds x t bs after is)

-- ---- values of expressions

pub evaluated_from : (bs : PureStore) (e : PureExpr) (cases : PureCases PureTerm) → ComesFrom bs e cases → SplitComesFrom (IsAsked bs e) (IsTermOf bs e) (record { found = cases.good; none = map (λ c. c.conds) cases.faults })
evaluated_from bs e cases from = record {
  found = by cases.good from.0.1 from.1;
  none = each_map (Each (IsAsked bs e)) (λ c. c.conds) cases.faults from.0.0;
}
  where
    by : (o : Option (PureGoodCase PureTerm)) → OnConditions (IsAsked bs e) o → OnResult (IsTermOf bs e) o → FoundComesFrom (IsAsked bs e) (IsTermOf bs e) o
    by None asked result = tt
    by (Some g) asked result = (asked, result)

-- the name that an expression is
named : (bs : PureStore) (e : PureExpr) (x y : List ℕ) → name_without bs e ≡ Some x → IsTrue (bytes_eq x y) → IsNameOf y e
named bs (name z) x y is same = by (is_some (term_at bs z)) is
  where
    by : (b : Bool) → (if b then None else Some z) ≡ Some x → IsTrue (bytes_eq z y)
    by true never = not_none never
    by false one = subst (λ w. IsTrue (bytes_eq w y)) (sym (same_some one)) same
named bs (logical z) x y is same = by (is_some (term_at bs z)) is
  where
    by : (b : Bool) → (if b then None else Some z) ≡ Some x → IsTrue (bytes_eq z y)
    by true never = not_none never
    by false one = subst (λ w. IsTrue (bytes_eq w y)) (sym (same_some one)) same
named bs (value_literal v) x y is same = not_none is
named bs (list_expr es) x y is same = not_none is
named bs (unary_expr op e) x y is same = not_none is
named bs (binary_expr op d e) x y is same = not_none is

module _ (bs : PureStore) (e : PureExpr) (values : PureSplit PureTerm) (from : SplitComesFrom (IsAsked bs e) (IsTermOf bs e) values) where
  -- what it asks is asked
  values_to : (P : PureAtom → Type 0) → ((a : PureAtom) → IsAsked bs e a → P a) → SplitComesFrom P (IsTermOf bs e) values
  values_to P f = split_to (IsAsked bs e) P (IsTermOf bs e) (IsTermOf bs e) f (λ r term. term) values from

  -- it is equal to a term
  module _ (t : PureTerm) (scope : List Param) where
    abbrev Equals : PureAtom → Type 0
    Equals a = AsksValue scope bs a e t

    abbrev Keeps : PureStore → Type 0
    Keeps after = AddsOnlyTo (λ x u. IsNameOf x e × (u ≡ t)) bs after

    known_in_scope : (whole : PureSplit PureStore) → Continues (λ r next. next ≡ where_met (equal_test r t) bs) values.found values.none whole → TermComesFrom scope e t bs whole
    known_in_scope whole is =
        continues_from Equals (IsTermOf bs e) Keeps (λ r next. next ≡ where_met (equal_test r t) bs)
        (λ r next cont term. subst (SplitComesFrom Equals Keeps) (sym cont)
        (met_from Equals Keeps (equal_test r t) bs (test_to (AsksEqual r t) Equals (λ a asks. inr (inl (r, (term, asks)))) (equal_test r t) (equal_from r t)) (adds_nothing (λ x u. IsNameOf x e × (u ≡ t)) bs)))
        values whole (values_to Equals (λ a asked. inl asked)) is

  pub known_from : (t : PureTerm) (whole : PureSplit PureStore) → Continues (λ r next. next ≡ where_met (equal_test r t) bs) values.found values.none whole → KnownComesFrom e t bs whole
  known_from t whole is scope = known_in_scope t scope whole is

  -- a name is given its term
  module _ (scope : List Param) (x : List ℕ) where
    abbrev Defines : PureAtom → Type 0
    Defines a = IsAsked bs e a ⊎ ((t : PureTerm) × (IsTermOf bs e t × AsksSorts scope x t a))

    abbrev Defined : List ℕ → PureTerm → Type 0
    Defined y t = IsTrue (bytes_eq x y) × IsTermOf bs e t

    pub definition_from : (whole : PureSplit PureStore) → Continues (λ r next. GivesTerm scope x r bs next) values.found values.none whole → DefinitionComesFrom scope x e bs whole
    definition_from whole is =
        continues_from Defines (IsTermOf bs e) (AddsOnlyTo Defined bs) (λ r next. GivesTerm scope x r bs next)
        (λ r next cont term. split_to (AsksSorts scope x r) Defines (AddsOnlyTo (IsThis x r) bs) (AddsOnlyTo Defined bs) (λ a asks. inr (r, (term, asks)))
        (λ after adds. adds_to (IsThis x r) Defined (λ y u given. (given.0, subst (IsTermOf bs e) (sym given.1) term)) bs after adds) next cont.from)
        values whole (values_to Defines (λ a asked. inl asked)) is

  -- it is true
  pub truth_from : (Cont : PureTerm → PureSplit PureStore → Type 0)
      → ((r : PureTerm) (next : PureSplit PureStore) → Cont r next → (test : PureTest) × (TestComesFrom (IsGuardCondition r) test × (next ≡ where_met test bs)))
      → (whole : PureSplit PureStore) → Continues Cont values.found values.none whole → TruthComesFrom e bs whole
  truth_from Cont tests whole is scope =
      continues_from (AsksPure scope e bs) (IsTermOf bs e) (AddsOnlyTo (IsDefinedBy e bs) bs) Cont
      (λ r next cont term. let (test, (asked, made)) = tests r next cont in
      subst (SplitComesFrom (AsksPure scope e bs) (AddsOnlyTo (IsDefinedBy e bs) bs)) (sym made)
      (met_from (AsksPure scope e bs) (AddsOnlyTo (IsDefinedBy e bs) bs) test bs
      (test_to (IsGuardCondition r) (AsksPure scope e bs) (λ a asks. inr (inl (r, (term, asks)))) test asked) (adds_nothing (IsDefinedBy e bs) bs)))
      values whole (values_to (AsksPure scope e bs) (λ a asked. inl asked)) is

module _ (scope : List Param) (bs : PureStore) (split : PureSplit PureStore) where
  -- a name is matched with a term
  pub name_from : (e : PureExpr) (t : PureTerm) (x : List ℕ) → name_without bs e ≡ Some x → GivenComesFrom scope x t bs split → TermComesFrom scope e t bs split
  name_from e t x is from =
      split_to (AsksSorts scope x t) (λ a. AsksValue scope bs a e t) (AddsOnlyTo (IsThis x t) bs) (AddsOnlyTo (λ y u. IsNameOf y e × (u ≡ t)) bs)
      (λ a asks. inr (inr (x, (named bs e x x is (bytes_eq-refl x), asks))))
      (λ after adds. adds_to (IsThis x t) (λ y u. IsNameOf y e × (u ≡ t)) (λ y u given. (named bs e x y is given.0, given.1)) bs after adds) split from

  -- the right side of an equation gives the name its term
  pub equation_from : (left d : PureExpr) (x : List ℕ) → name_without bs left ≡ Some x → DefinitionComesFrom scope x d bs split → PureComesFrom scope (binary_expr BinOp.Equal left d) bs split
  equation_from left d x is from =
      split_to (λ a. IsAsked bs d a ⊎ ((t : PureTerm) × (IsTermOf bs d t × AsksSorts scope x t a))) (AsksPure scope (binary_expr BinOp.Equal left d) bs)
      (AddsOnlyTo (λ y t. IsTrue (bytes_eq x y) × IsTermOf bs d t) bs) (AddsOnlyTo (IsDefinedBy (binary_expr BinOp.Equal left d) bs) bs)
      (λ a asks. ⊎_elim (λ asked. inl (inr (one_right (IsAskedOf bs a) (subexpressions left) (subexpressions d) asked)))
      (λ (t, (term, sorts)). inr (inr (x, (t, ((d, ((left, (named bs left x x is (bytes_eq-refl x), refl)), term)), sorts))))) asks)
      (λ after adds. adds_to (λ y t. IsTrue (bytes_eq x y) × IsTermOf bs d t) (IsDefinedBy (binary_expr BinOp.Equal left d) bs) (λ y t given. (d, ((left, (named bs left x y is given.0, refl)), given.1))) bs after adds)
      split from

-- ---- expressions and terms, one after another

module _ (scope : List Param) (bs : PureStore) (es : List PureExpr) (ts : List PureTerm) (e : PureExpr) (t : PureTerm) (same : length es ≡ length ts) where
  abbrev Before : List ℕ → PureTerm → Type 0
  Before x u = IsGivenAmong es ts x u

  abbrev After : List ℕ → PureTerm → Type 0
  After x u = IsGivenAmong (es ++ e ∷ []) (ts ++ t ∷ []) x u

  before_after : (x : List ℕ) (u : PureTerm) → Before x u → After x u
  before_after x u given = both_left (λ d w. IsNameOf x d × (u ≡ w)) es ts e t given

  last_after : (x : List ℕ) (u : PureTerm) → IsNameOf x e × (u ≡ t) → After x u
  last_after x u given = both_last (λ d w. IsNameOf x d × (u ≡ w)) es ts e t same given

  abbrev Asks : PureAtom → Type 0
  Asks a = AsksValues scope (es ++ e ∷ []) (ts ++ t ∷ []) bs a

  pub values_from_next : (Cont : PureStore → PureSplit PureStore → Type 0) → ((mid : PureStore) (next : PureSplit PureStore) → Cont mid next → TermComesFrom scope e t mid next)
      → (split whole : PureSplit PureStore) → ValuesComeFrom scope es ts bs split → Continues Cont split.found split.none whole → ValuesComeFrom scope (es ++ e ∷ []) (ts ++ t ∷ []) bs whole
  values_from_next Cont comes split whole from is =
      continues_from Asks (AddsOnlyTo Before bs) (AddsOnlyTo After bs) Cont
      (λ mid next cont adds. split_to (λ a. AsksValue scope mid a e t) Asks (AddsOnlyTo (λ x u. IsNameOf x e × (u ≡ t)) mid) (AddsOnlyTo After bs)
      (λ a asks. (mid, (adds_to Before After before_after bs mid adds, both_last (AsksValue scope mid a) es ts e t same asks)))
      (λ after more. adds_then (λ x u. IsNameOf x e × (u ≡ t)) After last_after bs mid after (adds_to Before After before_after bs mid adds) more) next (comes mid next cont))
      split whole
      (split_to (AsksValues scope es ts bs) Asks (AddsOnlyTo Before bs) (AddsOnlyTo Before bs)
      (λ a (mid, (adds, asks)). (mid, (adds_to Before After before_after bs mid adds, both_left (AsksValue scope mid a) es ts e t asks))) (λ mid adds. adds) split from) is

-- ---- outs that are known

module _ (bs : PureStore) (e : PureExpr) where
  one_more : (k : Option PureTerm) → AreKnownOuts bs (e ∷ []) (k ∷ []) → (es : List PureExpr) (outs : PureOuts) → AreKnownOuts bs es outs → AreKnownOuts bs (es ++ e ∷ []) (outs ++ k ∷ [])
  one_more k last [] [] are = last
  one_more k last [] (o ∷ outs) are = absurd are
  one_more k last (d ∷ es) [] are = absurd are
  one_more k last (d ∷ es) (Some t ∷ outs) are = (are.0, one_more k last es outs are.1)
  one_more k last (d ∷ es) (None ∷ outs) are = one_more k last es outs are

  module _ (outs : PureOuts) where
    pub known_out_from : (values : PureSplit PureTerm) → SplitComesFrom (IsAsked bs e) (IsTermOf bs e) values → SplitComesFrom (IsAsked bs e) (KnowsOneMore bs e outs) (with_known outs values)
    known_out_from values from = record { found = by values.found from.found; none = from.none }
      where
        by : (o : Option (PureGoodCase PureTerm)) → FoundComesFrom (IsAsked bs e) (IsTermOf bs e) o → FoundComesFrom (IsAsked bs e) (KnowsOneMore bs e outs) (option_map (known_with outs) o)
        by None is = tt
        by (Some g) is = (is.0, λ es are. one_more (Some g.result) (is.1, tt) es outs are)

    pub unknown_out_from : SplitComesFrom (IsAsked bs e) (KnowsOneMore bs e outs) (sure (outs ++ None ∷ []))
    unknown_out_from = sure_from (IsAsked bs e) (KnowsOneMore bs e outs) (outs ++ None ∷ []) (λ es are. one_more None tt es outs are)

  module _ (es : List PureExpr) where
    abbrev OneAsks : PureAtom → Type 0
    OneAsks a = OneOf (λ d. IsAsked bs d a) (es ++ e ∷ [])

    pub known_outs_from : (Cont : PureOuts → PureSplit PureOuts → Type 0) → ((outs : PureOuts) (next : PureSplit PureOuts) → Cont outs next → SplitComesFrom (IsAsked bs e) (KnowsOneMore bs e outs) next)
        → (split whole : PureSplit PureOuts) → OutsComeFrom bs es split → Continues Cont split.found split.none whole → OutsComeFrom bs (es ++ e ∷ []) whole
    known_outs_from Cont comes split whole from is =
        continues_from OneAsks (AreKnownOuts bs es) (AreKnownOuts bs (es ++ e ∷ [])) Cont
        (λ outs next cont are. split_to (IsAsked bs e) OneAsks (KnowsOneMore bs e outs) (AreKnownOuts bs (es ++ e ∷ []))
        (λ a asked. one_right (λ d. IsAsked bs d a) es (e ∷ []) (inl asked)) (λ more knows. knows es are) next (comes outs next cont))
        split whole
        (split_to (λ a. OneOf (λ d. IsAsked bs d a) es) OneAsks (AreKnownOuts bs es) (AreKnownOuts bs es) (λ a asked. one_left (λ d. IsAsked bs d a) es (e ∷ []) asked) (λ outs are. are) split from) is

-- ---- parameters

module _ (sorts : List Param) (G H : List ℕ → PureTerm → Type 0) (f : (x : List ℕ) (t : PureTerm) → G x t → H x t) where
  -- in a store to which only such terms were added
  asks_to : (bs mid : PureStore) → AddsOnlyTo H bs mid → (a : PureAtom) → AsksBound sorts G mid a → AsksBound sorts H bs a
  asks_to bs mid adds a (x, (t, (given, asks))) =
      (x, (t, (f x t given, ⊎_elim inl (λ (s, (known, equals)). inr (s, (⊎_elim (adds x s) (λ also_given. inr (f x s also_given)) known, equals))) asks)))

  pub bound_to_from : (bs : PureStore) (split : PureSplit PureStore) → BoundComesFrom sorts G bs split → BoundComesFrom sorts H bs split
  bound_to_from bs split from =
      split_to (AsksBound sorts G bs) (AsksBound sorts H bs) (AddsOnlyTo G bs) (AddsOnlyTo H bs) (asks_to bs bs (adds_nothing H bs)) (λ after adds. adds_to G H f bs after adds) split from

-- what comes after
module _ (sorts : List Param) (G H : List ℕ → PureTerm → Type 0) (f : (x : List ℕ) (t : PureTerm) → G x t → H x t) where
  pub bound_then_from : (F : List ℕ → PureTerm → Type 0) → ((x : List ℕ) (t : PureTerm) → F x t → H x t) → (Cont : PureStore → PureSplit PureStore → Type 0)
      → ((mid : PureStore) (next : PureSplit PureStore) → Cont mid next → BoundComesFrom sorts G mid next) → (bs : PureStore) (split whole : PureSplit PureStore) → BoundComesFrom sorts F bs split
      → Continues Cont split.found split.none whole → BoundComesFrom sorts H bs whole
  bound_then_from F first Cont comes bs split whole from is =
      continues_from (AsksBound sorts H bs) (AddsOnlyTo H bs) (AddsOnlyTo H bs) Cont
      (λ mid next cont adds. split_to (AsksBound sorts G mid) (AsksBound sorts H bs) (AddsOnlyTo G mid) (AddsOnlyTo H bs) (asks_to sorts G H f bs mid adds)
      (λ after more. adds_then G H f bs mid after adds more) next (comes mid next cont))
      split whole
      (split_to (AsksBound sorts F bs) (AsksBound sorts H bs) (AddsOnlyTo F bs) (AddsOnlyTo H bs) (asks_to sorts F H first bs bs (adds_nothing H bs)) (λ after adds. adds_to F H first bs after adds) split from) is

-- a name is given a term, which has its sorts and agrees with one that it has
module _ (sorts : List Param) (x : List ℕ) (t : PureTerm) (bs : PureStore) where
  abbrev Binds : PureAtom → Type 0
  Binds a = AsksBound sorts (IsThis x t) bs a

  agrees_by : (o : Option PureTerm) → term_at bs x ≡ o → TestComesFrom Binds (out_test o t)
  agrees_by None at = passed_from Binds
  agrees_by (Some s) at = test_to (AsksEqual s t) Binds (λ a asks. (x, (t, ((bytes_eq-refl x, refl), inr (s, (inl at, asks)))))) (equal_test s t) (equal_from s t)

  pub bound_term_from : (after : PureStore) (fits test : PureTest) → TestComesFrom (AsksSorts sorts x t) fits → test ≡ also fits (out_test (term_at bs x) t)
      → ((y : List ℕ) → term_at after y ≡ (if bytes_eq x y then Some t else term_at bs y)) → BoundComesFrom sorts (IsThis x t) bs (where_met test after)
  bound_term_from after fits test from made is =
      met_from Binds (AddsOnlyTo (IsThis x t) bs) test after
      (subst (TestComesFrom Binds) (sym made)
      (also_from Binds fits (out_test (term_at bs x) t) (test_to (AsksSorts sorts x t) Binds (λ a asks. (x, (t, ((bytes_eq-refl x, refl), inl asks)))) fits from) (agrees_by (term_at bs x) refl)))
      (given_adds x t bs after is)

pub bound_param_from : (sorts : List Param) (q : Param) (t : PureTerm) (bs : PureStore) (split : PureSplit PureStore) → BoundComesFrom sorts (IsThis q.name t) bs split
    → BoundComesFrom sorts (IsParamGiven (q ∷ []) (Some t ∷ [])) bs split
bound_param_from sorts q t bs split from =
    bound_to_from sorts (IsThis q.name t) (IsParamGiven (q ∷ []) (Some t ∷ [])) (λ x u given. inl (given.0, ap Some (sym given.1))) bs split from

module _ (sorts : List Param) (bs : PureStore) (qs : List Param) (ks : PureOuts) (q : Param) (k : Option PureTerm) (same : length qs ≡ length ks) where
  abbrev One : List ℕ → PureTerm → Param → Option PureTerm → Type 0
  One x t p o = IsTrue (bytes_eq p.name x) × (o ≡ Some t)

  pub params_from_next : (Cont : PureStore → PureSplit PureStore → Type 0) → ((mid : PureStore) (next : PureSplit PureStore) → Cont mid next → BoundComesFrom sorts (IsParamGiven (q ∷ []) (k ∷ [])) mid next)
      → (split whole : PureSplit PureStore) → BoundComesFrom sorts (IsParamGiven qs ks) bs split → Continues Cont split.found split.none whole
      → BoundComesFrom sorts (IsParamGiven (qs ++ q ∷ []) (ks ++ k ∷ [])) bs whole
  params_from_next Cont comes split whole from is =
      bound_then_from sorts (IsParamGiven (q ∷ []) (k ∷ [])) (IsParamGiven (qs ++ q ∷ []) (ks ++ k ∷ []))
      (λ x t given. both_last (One x t) qs ks q k same (⊎_elim (λ here. here) (λ none. absurd none) given))
      (IsParamGiven qs ks) (λ x t given. both_left (One x t) qs ks q k given) Cont comes bs split whole from is

-- ins and then outs
module _ (d : PurePredDef) (ins : List PureTerm) (known : PureOuts) where
  abbrev ToCase : List ℕ → PureTerm → Type 0
  ToCase x t = IsGivenToCase d ins known x t

  pub case_from_parts : (Cont : PureStore → PureSplit PureStore → Type 0) → ((mid : PureStore) (next : PureSplit PureStore) → Cont mid next → BoundComesFrom (scope_of d) (IsParamGiven d.outs known) mid next)
      → (first whole : PureSplit PureStore) → BoundComesFrom (scope_of d) (IsParamGiven d.ins (map Some ins)) [] first → Continues Cont first.found first.none whole → CaseComesFrom d ins known whole
  case_from_parts Cont comes first whole from is =
      split_to (AsksBound (scope_of d) ToCase []) (AsksCase d ins known) (AddsOnlyTo ToCase []) (IsStoreOfCase d ins known)
      (λ a (x, (t, (given, asks))). (x, (t, (given, ⊎_elim inl (λ (s, (known_or, equals)). inr (s, (⊎_elim (λ at. not_none at) (λ also_given. also_given) known_or, equals))) asks))))
      (λ bs adds x t at. ⊎_elim (λ never. not_none never) (λ given. given) (adds x t at)) whole
      (bound_then_from (scope_of d) (IsParamGiven d.outs known) ToCase (λ x t given. inr given) (IsParamGiven d.ins (map Some ins)) (λ x t given. inl given) Cont comes [] first whole from is)

-- ---- the terms of names

pub terms_at_more : (bs : PureStore) (xs : List (List ℕ)) (x : List ℕ) → terms_with (terms_at bs xs) (term_at bs x) ≡ terms_at bs (xs ++ x ∷ [])
terms_at_more bs [] x = by (term_at bs x)
  where
    by : (o : Option PureTerm) → terms_with (Some []) o ≡ option_and_then (λ t. option_map (λ ts. t ∷ ts) (Some [])) o
    by None = refl
    by (Some t) = refl
terms_at_more bs (y ∷ xs) x = by (terms_at_more bs xs x) (term_at bs y)
  where
    inner : (u : PureTerm) (o : Option (List PureTerm)) (k : Option PureTerm) → terms_with (option_map (λ ts. u ∷ ts) o) k ≡ option_map (λ ts. u ∷ ts) (terms_with o k)
    inner u None k = refl
    inner u (Some ts) None = refl
    inner u (Some ts) (Some t) = refl

    by : terms_with (terms_at bs xs) (term_at bs x) ≡ terms_at bs (xs ++ x ∷ []) → (o : Option PureTerm)
        → terms_with (option_and_then (λ t. option_map (λ ts. t ∷ ts) (terms_at bs xs)) o) (term_at bs x) ≡ option_and_then (λ t. option_map (λ ts. t ∷ ts) (terms_at bs (xs ++ x ∷ []))) o
    by later None = refl
    by later (Some u) = inner u (terms_at bs xs) (term_at bs x) ∙ ap (option_map (λ ts. u ∷ ts)) later
