-- What tests of terms say, and what they name.
use Rattle.std.proofs.Common.{◌≡◌, ◌⊎◌, ⊎_elim, inl, inr, List, [], ◌∷◌, ◌++◌, Bool, true, false, if◌then◌else◌, Option, Some, None, IsTrue, slice_get, refl, sym, ap, subst, ◌∙◌, true≢false}
use Rattle.gil_values.specs.declared.kinds.Kind.{Kind}
use Rattle.gil_values.specs.Equality.{same_value, same_kind}
use Rattle.gil_values.specs.EqualityLaws.{same_value-Decides, same_value-refl}
use Rattle.gil_values.specs.Pure.{PureValue, integer, boolean, text, symbol, kind, procedure, list, kind_of}
use Rattle.gil_syntax.specs.declared.assertions.SpecSort.{SpecSort}
use Rattle.assert_logic.specs.Sorts.{has_sort}
use Rattle.pure_terms.specs.declared.variables.Sort.{Sort}
use Rattle.pure_terms.specs.Kinds.{known_kind}
use Rattle.pure_terms.specs.Meaning.{value, all_true, IsProper, IsOver}
use Rattle.pure_terms.specs.Pure.{PureTerm, PureAtom, positive, negative, opening, term_of, variables}
use Rattle.pure_terms.proofs.KindLaws.{same_kinds}
use Rattle.sym_model.specs.declared.comparing.Comparison.{Comparison}
use Rattle.sym_model.specs.Alternatives.{Hold, always, never, given, equal, by_comparison, other, kind_is, by_kind}
use Rattle.sym_model.specs.Comparing.{compared}
use Rattle.sym_model.specs.ConditionLaws.{HaveBoth}
use Rattle.sym_model.proofs.Telling.{same_tells, other_tells, of_kind_tells, not_of_kind_tells}
use Rattle.sym_paths.proofs.Naming.{guard_over}
use Rattle.sym_evaluation.specs.Checks.{is_of_kind}
use Rattle.sym_evaluation.specs.Meaning.{AreSidesOf, IsSideWhere, is_true, is_false, is_no_boolean}
use Rattle.sym_evaluation.specs.Plainly.{AreDecided}
use Rattle.sym_evaluation.specs.Pure.{PureSides}
use Rattle.sym_evaluation.specs.Questions.{IsAbout, OnSide, SaysPart, AsksBoolean, IsGuardCondition, SidesComeFrom, boolean_parts}
use Rattle.sym_evaluation.proofs.AskedAtoms.{joined, no_variables, boolean_closed}
use Rattle.sym_model.specs.Lists.{Each, OneOf}
use Rattle.sym_model.specs.Meaning.{is_open}
use Rattle.sym_model.proofs.ListLaws.{each_append, each_to, one_left, one_right, one_parts}
use Rattle.sym_matching.specs.Meaning.{AreMet, SaysTest, IsCondition, AreConditions, AreConditionsIfAny, IsTestOver}
use Rattle.sym_matching.specs.Parts.{IsTestOf}
use Rattle.sym_matching.specs.Pure.{PureTest}
use Rattle.sym_matching.specs.Splitting.{last_of, equal_test, kind_test, sort_test, side_alternatives}
use Rattle.sym_matching.proofs.Conditions.{passed_says, passed_over}
use Rattle.sym_matching.proofs.Deciding.{guard_decided}

-- ---- alternatives of which there is one at most

module _ (v : List PureValue) (a : PureAtom) where
  compared_met : (c : Comparison) → Hold v (by_comparison c always never (given a)) → AreMet v (last_of (by_comparison c always never (given a)))
  compared_met Comparison.Same holds = refl
  compared_met Comparison.Different holds = absurd holds
  compared_met Comparison.Unsure holds = ⊎_elim (λ here. here) (λ none. absurd none) holds

  compared_holds : (c : Comparison) → AreMet v (last_of (by_comparison c always never (given a))) → Hold v (by_comparison c always never (given a))
  compared_holds Comparison.Same met = inl refl
  compared_holds Comparison.Different met = absurd met
  compared_holds Comparison.Unsure met = inl met

  kind_test_met : (b : Bool) → Hold v (if b then always else never) → AreMet v (last_of (if b then always else never))
  kind_test_met true holds = refl
  kind_test_met false holds = absurd holds

  kind_test_holds : (b : Bool) → AreMet v (last_of (if b then always else never)) → Hold v (if b then always else never)
  kind_test_holds true met = inl refl
  kind_test_holds false met = absurd met

  kind_met : (o : Option Kind) (k : Kind) → Hold v (by_kind o k always never (given a)) → AreMet v (last_of (by_kind o k always never (given a)))
  kind_met (Some l) k holds = kind_test_met (same_kind l k) holds
  kind_met None k holds = ⊎_elim (λ here. here) (λ none. absurd none) holds

  kind_holds : (o : Option Kind) (k : Kind) → AreMet v (last_of (by_kind o k always never (given a))) → Hold v (by_kind o k always never (given a))
  kind_holds (Some l) k met = kind_test_holds (same_kind l k) met
  kind_holds None k met = inl met

-- ---- what they say

not_true : (b : Bool) → ¬ (b ≡ true) → b ≡ false
not_true true is = absurd (is refl)
not_true false is = refl

-- a test that tells exactly whether something is so
told : (v : List PureValue) (x : PureTest) (b : Bool) (P : Type 0) → (b ≡ true → P) → (P → b ≡ true) → (P → AreMet v x.when) → (AreMet v x.when → P) → (¬ P → Hold v x.otherwise) → (Hold v x.otherwise → ¬ P)
    → SaysTest v x b
told v x true P so back met is_met holds is_held = record { cover = inl (met (so refl)); when = λ here. refl; otherwise = λ here. absurd (is_held here (so refl)) }
told v x false P so back met is_met holds is_held = record { cover = inr (holds (λ p. true≢false (sym (back p)))); when = λ here. back (is_met here); otherwise = λ here. refl }

pub equal_says : (vars : List Sort) (v : List PureValue) (s t : PureTerm) (a b : PureValue) → HaveBoth vars v s t a b → SaysTest v (equal_test s t) (same_value a b)
equal_says vars v s t a b have =
    told v (equal_test s t) (same_value a b) (a ≡ b) (same_value-Decides a b).0 (same_value-Decides a b).1
    (λ e. compared_met v (positive (equal s t)) (compared s t) ((same_tells vars v s t a b have).1 e))
    (λ met. (same_tells vars v s t a b have).0 (compared_holds v (positive (equal s t)) (compared s t) met))
    (other_tells vars v s t a b have).1 (other_tells vars v s t a b have).0

kind_says : (vars : List Sort) (v : List PureValue) (t : PureTerm) (k : Kind) (w : PureValue) → IsProper vars v → IsOver vars t → value v t ≡ Some w → SaysTest v (kind_test t k) (same_kind (kind_of w) k)
kind_says vars v t k w proper over is =
    told v (kind_test t k) (same_kind (kind_of w) k) (kind_of w ≡ k) (same_kinds (kind_of w) k) (λ e. ap (λ j. same_kind (kind_of w) j) (sym e) ∙ same_value-refl (kind (kind_of w)))
    (λ e. kind_met v (positive (kind_is t k)) (known_kind t) k ((of_kind_tells vars v t k w proper over is).1 e))
    (λ met. (of_kind_tells vars v t k w proper over is).0 (kind_holds v (positive (kind_is t k)) (known_kind t) k met))
    (not_of_kind_tells vars v t k w proper over is).1 (not_of_kind_tells vars v t k w proper over is).0

of_int : (w : PureValue) → has_sort SpecSort.Int w ≡ same_kind (kind_of w) Kind.Int
of_int (integer n) = refl
of_int (boolean b) = refl
of_int (text cs) = refl
of_int (symbol n) = refl
of_int (kind k) = refl
of_int (procedure f) = refl
of_int (list ws) = refl

of_bool : (w : PureValue) → has_sort SpecSort.Bool w ≡ same_kind (kind_of w) Kind.Bool
of_bool (integer n) = refl
of_bool (boolean b) = refl
of_bool (text cs) = refl
of_bool (symbol n) = refl
of_bool (kind k) = refl
of_bool (procedure f) = refl
of_bool (list ws) = refl

of_str : (w : PureValue) → has_sort SpecSort.Str w ≡ same_kind (kind_of w) Kind.Str
of_str (integer n) = refl
of_str (boolean b) = refl
of_str (text cs) = refl
of_str (symbol n) = refl
of_str (kind k) = refl
of_str (procedure f) = refl
of_str (list ws) = refl

of_sym : (w : PureValue) → has_sort SpecSort.Sym w ≡ same_kind (kind_of w) Kind.Sym
of_sym (integer n) = refl
of_sym (boolean b) = refl
of_sym (text cs) = refl
of_sym (symbol n) = refl
of_sym (kind k) = refl
of_sym (procedure f) = refl
of_sym (list ws) = refl

of_list : (w : PureValue) → has_sort SpecSort.List w ≡ same_kind (kind_of w) Kind.List
of_list (integer n) = refl
of_list (boolean b) = refl
of_list (text cs) = refl
of_list (symbol n) = refl
of_list (kind k) = refl
of_list (procedure f) = refl
of_list (list ws) = refl

module _ (vars : List Sort) (v : List PureValue) (t : PureTerm) (w : PureValue) (proper : IsProper vars v) (over : IsOver vars t) (is : value v t ≡ Some w) where
  by_kind_says : (k : Kind) (b : Bool) → b ≡ same_kind (kind_of w) k → SaysTest v (kind_test t k) b
  by_kind_says k b same_test = subst (SaysTest v (kind_test t k)) (sym same_test) (kind_says vars v t k w proper over is)

  pub sort_says : (sort : SpecSort) → SaysTest v (sort_test sort t) (has_sort sort w)
  sort_says SpecSort.Int = by_kind_says Kind.Int _ (of_int w)
  sort_says SpecSort.Bool = by_kind_says Kind.Bool _ (of_bool w)
  sort_says SpecSort.Str = by_kind_says Kind.Str _ (of_str w)
  sort_says SpecSort.Sym = by_kind_says Kind.Sym _ (of_sym w)
  sort_says SpecSort.List = by_kind_says Kind.List _ (of_list w)
  sort_says SpecSort.Any = passed_says v

-- ---- what they name

module _ (vars : List Sort) where
  pub equal_is_over : (s t : PureTerm) → IsOver vars s → IsOver vars t → IsOver vars (equal s t)
  equal_is_over s t first second = joined (λ x. slice_get vars x.number ≡ Some x.sort) (variables s) (variables t) first second

  kind_is_over : (t : PureTerm) (k : Kind) → IsOver vars t → IsOver vars (kind_is t k)
  kind_is_over t k over = joined (λ x. slice_get vars x.number ≡ Some x.sort) (variables t) [] over (no_variables (λ x. slice_get vars x.number ≡ Some x.sort))

  compared_when_over : (c : Comparison) (a : PureAtom) → IsCondition vars a → AreConditionsIfAny vars (last_of (by_comparison c always never (given a)))
  compared_when_over Comparison.Same a is = tt
  compared_when_over Comparison.Different a is = tt
  compared_when_over Comparison.Unsure a is = (is, tt)

  compared_other_over : (c : Comparison) (a : PureAtom) → IsCondition vars a → Each (AreConditions vars) (by_comparison c never always (given a))
  compared_other_over Comparison.Same a is = tt
  compared_other_over Comparison.Different a is = (tt, tt)
  compared_other_over Comparison.Unsure a is = ((is, tt), tt)

  pub equal_over : (s t : PureTerm) → IsOver vars s → IsOver vars t → IsTestOver vars (equal_test s t)
  equal_over s t first second = record {
    when = compared_when_over (compared s t) (positive (equal s t)) (equal_is_over s t first second, refl);
    otherwise = compared_other_over (compared s t) (negative (equal s t)) (equal_is_over s t first second, refl);
  }

  tested_when_over : (b : Bool) → AreConditionsIfAny vars (last_of (if b then always else never))
  tested_when_over true = tt
  tested_when_over false = tt

  tested_other_over : (b : Bool) → Each (AreConditions vars) (if b then never else always)
  tested_other_over true = tt
  tested_other_over false = (tt, tt)

  kind_when_over : (o : Option Kind) (k : Kind) (a : PureAtom) → IsCondition vars a → AreConditionsIfAny vars (last_of (by_kind o k always never (given a)))
  kind_when_over (Some l) k a is = tested_when_over (same_kind l k)
  kind_when_over None k a is = (is, tt)

  kind_other_over : (o : Option Kind) (k : Kind) (a : PureAtom) → IsCondition vars a → Each (AreConditions vars) (by_kind o k never always (given a))
  kind_other_over (Some l) k a is = tested_other_over (same_kind l k)
  kind_other_over None k a is = ((is, tt), tt)

  kind_over : (t : PureTerm) (k : Kind) → IsOver vars t → IsTestOver vars (kind_test t k)
  kind_over t k over = record {
    when = kind_when_over (known_kind t) k (positive (kind_is t k)) (kind_is_over t k over, refl);
    otherwise = kind_other_over (known_kind t) k (negative (kind_is t k)) (kind_is_over t k over, refl);
  }

  pub sort_over : (sort : SpecSort) (t : PureTerm) → IsOver vars t → IsTestOver vars (sort_test sort t)
  sort_over SpecSort.Int t over = kind_over t Kind.Int over
  sort_over SpecSort.Bool t over = kind_over t Kind.Bool over
  sort_over SpecSort.Str t over = kind_over t Kind.Str over
  sort_over SpecSort.Sym t over = kind_over t Kind.Sym over
  sort_over SpecSort.List t over = kind_over t Kind.List over
  sort_over SpecSort.Any t over = passed_over vars

-- ---- guards

about_closed : (u : PureTerm) (a : PureAtom) → IsAbout u a → is_open a ≡ false
about_closed u (positive t) about = refl
about_closed u (negative t) about = refl
about_closed u (opening t) about = absurd about

part_closed : (a : PureAtom) (u : PureTerm) → SaysPart a u → is_open a ≡ false
part_closed a u (inl (sort, about)) = about_closed u a about
part_closed a u (inr (x, (b, (is, sort, whole)))) = ap is_open whole

parts_closed : (a : PureAtom) (us : List PureTerm) → OneOf (SaysPart a) us → is_open a ≡ false
parts_closed a [] one = absurd one
parts_closed a (u ∷ us) one = ⊎_elim (part_closed a u) (parts_closed a us) one

guard_closed : (t : PureTerm) (a : PureAtom) → IsGuardCondition t a → is_open a ≡ false
guard_closed t a (other, may, which) = ⊎_elim (parts_closed a (boolean_parts t)) (boolean_closed t a) which

module _ (vars : List Sort) (t : PureTerm) (over : IsOver vars t) where
  about_is_over : (u : PureTerm) (a : PureAtom) → IsAbout u a → IsOver vars u → IsOver vars (term_of a)
  about_is_over u (positive s) about is = subst (IsOver vars) (sym about) is
  about_is_over u (negative s) about is = subst (IsOver vars) (sym about) is
  about_is_over u (opening s) about is = absurd about

  side_over : (o : Option (List PureAtom)) → OnSide (IsGuardCondition t) o → AreConditionsIfAny vars o
  side_over None on = tt
  side_over (Some conds) on = each_to (IsGuardCondition t) (IsCondition vars) conds (λ a is. (guard_over vars t a over is, guard_closed t a is)) on

  asked_over : (o : Option (List PureAtom)) → OnSide (AsksBoolean t) o → AreConditionsIfAny vars o
  asked_over None on = tt
  asked_over (Some conds) on = each_to (AsksBoolean t) (IsCondition vars) conds (λ a is. (about_is_over (is_of_kind t Kind.Bool) a is.1 (kind_is_over vars t Kind.Bool over), boolean_closed t a is)) on

  alternatives_over : (o : Option (List PureAtom)) → AreConditionsIfAny vars o → Each (AreConditions vars) (side_alternatives o)
  alternatives_over None is = tt
  alternatives_over (Some conds) is = (is, tt)

module _ (v : List PureValue) where
  side_met : (o : Option (List PureAtom)) → IsSideWhere v true o → AreMet v o
  side_met None is = is
  side_met (Some conds) is = is

  met_side : (b : Bool) (o : Option (List PureAtom)) → IsSideWhere v b o → AreMet v o → b ≡ true
  met_side true o is met = refl
  met_side false None is met = absurd met
  met_side false (Some conds) is met = let closed : all_true v conds ≡ false = is in absurd (true≢false (sym met ∙ closed))

  side_holds : (o : Option (List PureAtom)) → AreMet v o → Hold v (side_alternatives o)
  side_holds None met = absurd met
  side_holds (Some conds) met = inl met

  holds_side : (o : Option (List PureAtom)) → Hold v (side_alternatives o) → AreMet v o
  holds_side None holds = absurd holds
  holds_side (Some conds) holds = ⊎_elim (λ here. here) (λ none. absurd none) holds

  abbrev guard_test : PureSides → PureTest
  guard_test sides = record { when = sides.when_true; otherwise = side_alternatives sides.when_false ++ side_alternatives sides.when_no_boolean }

  is_the_true : (w : PureValue) → is_true w ≡ same_value w (boolean true)
  is_the_true (boolean true) = refl
  is_the_true (boolean false) = refl
  is_the_true (integer n) = refl
  is_the_true (text cs) = refl
  is_the_true (symbol n) = refl
  is_the_true (kind k) = refl
  is_the_true (procedure f) = refl
  is_the_true (list ws) = refl

  one_is_so : (w : PureValue) → (is_true w ≡ true) ⊎ ((is_false w ≡ true) ⊎ (is_no_boolean w ≡ true))
  one_is_so (boolean true) = inl refl
  one_is_so (boolean false) = inr (inl refl)
  one_is_so (integer n) = inr (inr refl)
  one_is_so (text cs) = inr (inr refl)
  one_is_so (symbol n) = inr (inr refl)
  one_is_so (kind k) = inr (inr refl)
  one_is_so (procedure f) = inr (inr refl)
  one_is_so (list ws) = inr (inr refl)

  not_true_then : (w : PureValue) → (is_false w ≡ true) ⊎ (is_no_boolean w ≡ true) → is_true w ≡ false
  not_true_then (boolean true) (inl is) = absurd (true≢false (sym is))
  not_true_then (boolean true) (inr is) = absurd (true≢false (sym is))
  not_true_then (boolean false) which = refl
  not_true_then (integer n) which = refl
  not_true_then (text cs) which = refl
  not_true_then (symbol n) which = refl
  not_true_then (kind k) which = refl
  not_true_then (procedure f) which = refl
  not_true_then (list ws) which = refl

  guard_says : (sides : PureSides) (w : PureValue) → IsSideWhere v (is_true w) sides.when_true × IsSideWhere v (is_false w) sides.when_false × IsSideWhere v (is_no_boolean w) sides.when_no_boolean
      → SaysTest v (guard_test sides) (is_true w)
  guard_says sides w (first, second, third) = record {
    cover = ⊎_elim (λ is. inl (side_met sides.when_true (subst (λ b. IsSideWhere v b sides.when_true) is first)))
        (λ rest. inr (⊎_elim
        (λ is. one_left (λ conds. IsTrue (all_true v conds)) (side_alternatives sides.when_false) (side_alternatives sides.when_no_boolean)
        (side_holds sides.when_false (side_met sides.when_false (subst (λ b. IsSideWhere v b sides.when_false) is second))))
        (λ is. one_right (λ conds. IsTrue (all_true v conds)) (side_alternatives sides.when_false) (side_alternatives sides.when_no_boolean)
        (side_holds sides.when_no_boolean (side_met sides.when_no_boolean (subst (λ b. IsSideWhere v b sides.when_no_boolean) is third)))) rest))
        (one_is_so w);
    when = λ met. met_side (is_true w) sides.when_true first met;
    otherwise = λ holds. not_true_then w (⊎_elim (λ here. inl (met_side (is_false w) sides.when_false second (holds_side sides.when_false here)))
        (λ here. inr (met_side (is_no_boolean w) sides.when_no_boolean third (holds_side sides.when_no_boolean here)))
        (one_parts (λ conds. IsTrue (all_true v conds)) (side_alternatives sides.when_false) (side_alternatives sides.when_no_boolean) holds));
  }

pub guard_is_test : (t : PureTerm) (sides : PureSides) → AreSidesOf t sides → SidesComeFrom t sides → AreDecided t sides
    → IsTestOf (λ w. same_value w (boolean true)) t (record { when = sides.when_true; otherwise = side_alternatives sides.when_false ++ side_alternatives sides.when_no_boolean })
guard_is_test t sides are come decides = record {
  decided = λ b guard. guard_decided b sides (decides.conditions b guard);
  says = λ vars v w proper over is. subst (SaysTest v (guard_test v sides)) (is_the_true v w) (guard_says v sides w (are vars v w proper over is));
  over = λ vars over. record {
    when = side_over vars t over sides.when_true come.0;
    otherwise = each_append (AreConditions vars) (side_alternatives sides.when_false) (side_alternatives sides.when_no_boolean)
        (alternatives_over vars t over sides.when_false (side_over vars t over sides.when_false come.1))
        (alternatives_over vars t over sides.when_no_boolean (asked_over vars t over sides.when_no_boolean come.2));
  };
}
