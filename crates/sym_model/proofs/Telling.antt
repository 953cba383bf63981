-- Comparisons tell of values.
use Rattle.std.proofs.Common.{◌≡◌, ◌↔◌, ◌⊎◌, ⊎_elim, inl, inr, ℕ, List, [], ◌∷◌, Bool, true, false, not, ◌&&◌, ◌||◌, if◌then◌else◌, Option, Some, None, IsTrue, slice_get, ltb, refl, sym, ap, subst, ◌∙◌, true≢false}
use Rattle.std.specs.Option.{option_and_then}
use Rattle.std.specs.Result.{result_ok}
use Rattle.std.specs.List.{list_all}
use Rattle.std.proofs.lemmas.Bool.{and_parts, and_from, or_cases, false≢true}
use Rattle.std.proofs.lemmas.List.Elements.{Contains-push}
use Rattle.gil_values.specs.declared.kinds.Kind.{Kind}
use Rattle.gil_values.specs.declared.operators.UnOp.{UnOp}
use Rattle.gil_values.specs.declared.operators.BinOp.{BinOp}
use Rattle.gil_values.specs.Equality.{same_value, same_kind}
use Rattle.gil_values.specs.EqualityLaws.{same_value-Decides, same_value-refl, same_value-same}
use Rattle.gil_values.specs.Operators.{unary, binary}
use Rattle.gil_values.specs.Pure.{PureValue, boolean, symbol, kind, kind_of}
use Rattle.pure_terms.specs.declared.literals.Literal.{Literal}
use Rattle.pure_terms.specs.declared.variables.Sort.{Sort}
use Rattle.pure_terms.specs.declared.variables.Var.{Var}
use Rattle.pure_terms.specs.Equality.{same_literal, same_term}
use Rattle.pure_terms.specs.EqualityLaws.{same_sorts, same_term-same, same_term-refl}
use Rattle.pure_terms.specs.Kinds.{same_sort, kind_of_sort, known_kind}
use Rattle.pure_terms.specs.Meaning.{literal_value, value, truth, is_that_boolean, all_true, IsProper, IsOver}
use Rattle.pure_terms.specs.Naming.{names_only_below}
use Rattle.pure_terms.specs.Pure.{PureTerm, literal, variable, list_of, unary_of, binary_of, PureAtom, positive, negative, variables}
use Rattle.pure_terms.proofs.KindLaws.{same_kinds, known_kinds_are_right, over_variable}
use Rattle.pure_terms.proofs.SymbolLaws.{invents_no_symbol}
use Rattle.sym_model.specs.declared.comparing.Comparison.{Comparison}
use Rattle.sym_model.specs.Comparing.{are_other_kinds, is_fresh_above, are_apart, compared}
use Rattle.sym_model.specs.Alternatives.{Hold, always, never, given, equal, by_comparison, same, other, kind_is, by_kind, of_kind, not_of_kind}
use Rattle.sym_model.specs.ConditionLaws.{HaveBoth}
use Rattle.sym_model.specs.Terms.{is_literal}
use Rattle.sym_model.proofs.ListLaws.{same_some}
use Rattle.sym_model.proofs.Asking.{below_all, symbol_of_kind}

-- ---- truth of equalities

module _ (v : List PureValue) where
  abbrev equality : Option PureValue → Option PureValue → Option PureValue
  equality a b = option_and_then (λ u. option_and_then (λ w. result_ok (binary BinOp.Equal u w)) b) a

  equal_value : (s t : PureTerm) (a b : PureValue) → value v s ≡ Some a → value v t ≡ Some b → value v (equal s t) ≡ Some (boolean (same_value a b))
  equal_value s t a b first second = λ i. equality (first i) (second i)

  true_if : (u : PureTerm) (b : Bool) → value v u ≡ Some (boolean b) → truth v (positive u) ≡ b
  true_if u b is = ap (is_that_boolean true) is

  denied : (b : Bool) → is_that_boolean false (Some (boolean b)) ≡ not b
  denied true = refl
  denied false = refl

  false_if : (u : PureTerm) (b : Bool) → value v u ≡ Some (boolean b) → truth v (negative u) ≡ not b
  false_if u b is = ap (is_that_boolean false) is ∙ denied b

  given_true : (a : PureAtom) → Hold v (given a) → truth v a ≡ true
  given_true a one = ⊎_elim (λ here. (and_parts (truth v a) true here).0) absurd one

  true_given : (a : PureAtom) → truth v a ≡ true → Hold v (given a)
  true_given a is = inl (and_from (truth v a) true is refl)

  not_true_is : (b : Bool) → not b ≡ true → b ≡ false
  not_true_is true is = absurd (true≢false (sym is))
  not_true_is false is = refl

  unequal_values : (a b : PureValue) → same_value a b ≡ false → ¬ (a ≡ b)
  unequal_values a b is e = true≢false (sym ((same_value-Decides a b).1 e) ∙ is)

  denied_by : (b : Bool) → ¬ (b ≡ true) → not b ≡ true
  denied_by true is = absurd (is refl)
  denied_by false is = refl

  asked_same : (s t : PureTerm) (a b : PureValue) → value v s ≡ Some a → value v t ≡ Some b → Hold v (given (positive (equal s t))) ↔ (a ≡ b)
  asked_same s t a b first second =
      let is = equal_value s t a b first second in (
        λ holds. (same_value-Decides a b).0 (sym (true_if (equal s t) (same_value a b) is) ∙ given_true (positive (equal s t)) holds),
        λ e. true_given (positive (equal s t)) (true_if (equal s t) (same_value a b) is ∙ (same_value-Decides a b).1 e),
      )

  asked_other : (s t : PureTerm) (a b : PureValue) → value v s ≡ Some a → value v t ≡ Some b → Hold v (given (negative (equal s t))) ↔ (¬ (a ≡ b))
  asked_other s t a b first second =
      let is = equal_value s t a b first second in (
        λ holds. unequal_values a b (not_true_is (same_value a b) (sym (false_if (equal s t) (same_value a b) is) ∙ given_true (negative (equal s t)) holds)),
        λ differ. true_given (negative (equal s t)) (false_if (equal s t) (same_value a b) is ∙ denied_by (same_value a b) (λ e. differ ((same_value-Decides a b).0 e))),
      )

-- ---- terms that are apart

module _ (vars : List Sort) (v : List PureValue) (s t : PureTerm) (a b : PureValue) (have : HaveBoth vars v s t a b) where
  swapped : HaveBoth vars v t s b a
  swapped = record { proper = have.proper; first_over = have.second_over; second_over = have.first_over; first = have.second; second = have.first }

  kinds_apart : (j k : Option Kind) → known_kind s ≡ j → known_kind t ≡ k → are_other_kinds j k ≡ true → ¬ (a ≡ b)
  kinds_apart (Some j) (Some k) is_j is_k apart e =
      let first = known_kinds_are_right vars v s a j have.proper have.first_over have.first is_j in
      let second = known_kinds_are_right vars v t b k have.proper have.second_over have.second is_k in
      let alike : j ≡ k = sym first ∙ ap kind_of e ∙ second in
      false≢true (sym (ap not (ap (same_kind j) (sym alike) ∙ same_value-refl (kind j))) ∙ apart)
  kinds_apart (Some j) None is_j is_k apart e = false≢true apart
  kinds_apart None k is_j is_k apart e = false≢true apart

fresh_apart : (vars : List Sort) (v : List PureValue) (s t : PureTerm) (a b : PureValue) → HaveBoth vars v s t a b → is_fresh_above s t ≡ true → ¬ (a ≡ b)
fresh_apart vars v (variable x) t a b have h e =
    let parts = and_parts (same_sort x.sort Sort.Fresh) (names_only_below x.number t) h in
    let sort : x.sort ≡ Sort.Fresh = same_sorts x.sort Sort.Fresh parts.0 in
    let (n, is) = symbol_of_kind a (known_kinds_are_right vars v (variable x) a Kind.Sym have.proper have.first_over have.first (ap kind_of_sort sort)) in
    let of_t : value v t ≡ Some (symbol n) = have.second ∙ ap Some (sym e ∙ is) in
    let (y, (u, (named, has, occurs))) = invents_no_symbol t v (symbol n) n of_t (Contains-push [] n) in
    have.proper.fresh x.number y.number n u (over_variable vars x have.first_over ∙ ap Some sort) (have.first ∙ ap Some is) (below_all x.number (variables t) y parts.1 named) has occurs
fresh_apart vars v (literal k) t a b have h e = false≢true h
fresh_apart vars v (list_of ts) t a b have h e = false≢true h
fresh_apart vars v (unary_of op s) t a b have h e = false≢true h
fresh_apart vars v (binary_of op s u) t a b have h e = false≢true h

literals_apart : (v : List PureValue) (s t : PureTerm) (a b : PureValue) → value v s ≡ Some a → value v t ≡ Some b → (is_literal s && is_literal t) ≡ true → same_term s t ≡ false → ¬ (a ≡ b)
literals_apart v (literal k) (literal l) a b first second h differ e =
    let alike : literal_value k ≡ literal_value l = same_some first ∙ e ∙ sym (same_some second) in
    true≢false (sym (ap (λ w. same_value (literal_value k) w) (sym alike) ∙ same_value-refl (literal_value k)) ∙ differ)
literals_apart v (literal k) (variable x) a b first second h differ e = false≢true h
literals_apart v (literal k) (list_of ts) a b first second h differ e = false≢true h
literals_apart v (literal k) (unary_of op t) a b first second h differ e = false≢true h
literals_apart v (literal k) (binary_of op t u) a b first second h differ e = false≢true h
literals_apart v (variable x) t a b first second h differ e = false≢true h
literals_apart v (list_of ts) t a b first second h differ e = false≢true h
literals_apart v (unary_of op s) t a b first second h differ e = false≢true h
literals_apart v (binary_of op s u) t a b first second h differ e = false≢true h

apart_differ : (vars : List Sort) (v : List PureValue) (s t : PureTerm) (a b : PureValue) → HaveBoth vars v s t a b → same_term s t ≡ false → are_apart s t ≡ true → ¬ (a ≡ b)
apart_differ vars v s t a b have differ h =
    ⊎_elim (λ literals. literals_apart v s t a b have.first have.second literals differ)
    (λ rest. ⊎_elim (kinds_apart vars v s t a b have (known_kind s) (known_kind t) refl refl)
    (λ more. ⊎_elim (fresh_apart vars v s t a b have) (λ turned e. fresh_apart vars v t s b a (swapped vars v s t a b have) turned (sym e)) (or_cases (is_fresh_above s t) (is_fresh_above t s) more))
    (or_cases (are_other_kinds (known_kind s) (known_kind t)) (is_fresh_above s t || is_fresh_above t s) rest))
    (or_cases (is_literal s && is_literal t) (are_other_kinds (known_kind s) (known_kind t) || (is_fresh_above s t || is_fresh_above t s)) h)

-- ---- comparisons

-- how a comparison came about
pub data Compared (s t : PureTerm) : Comparison → Type 0 where
  are_same : s ≡ t → Compared s t Comparison.Same
  are_different : same_term s t ≡ false → are_apart s t ≡ true → Compared s t Comparison.Different
  are_unsure : same_term s t ≡ false → are_apart s t ≡ false → Compared s t Comparison.Unsure

by_tests : (s t : PureTerm) (b c : Bool) → same_term s t ≡ b → are_apart s t ≡ c → Compared s t (if b then Comparison.Same else if c then Comparison.Different else Comparison.Unsure)
by_tests s t true c alike apart = are_same (same_term-same s t alike)
by_tests s t false true alike apart = are_different alike apart
by_tests s t false false alike apart = are_unsure alike apart

pub comparison_of : (s t : PureTerm) → Compared s t (compared s t)
comparison_of s t = by_tests s t (same_term s t) (are_apart s t) refl refl

module _ (vars : List Sort) (v : List PureValue) (s t : PureTerm) (a b : PureValue) (have : HaveBoth vars v s t a b) where
  same_by : (c : Comparison) → Compared s t c → Hold v (by_comparison c always never (given (positive (equal s t)))) ↔ (a ≡ b)
  same_by Comparison.Same (are_same e) = (λ holds. same_some (sym have.first ∙ ap (value v) e ∙ have.second), λ is. inl refl)
  same_by Comparison.Different (are_different alike apart) = (λ holds. absurd holds, λ is. absurd (apart_differ vars v s t a b have alike apart is))
  same_by Comparison.Unsure (are_unsure alike apart) = asked_same v s t a b have.first have.second

  other_by : (c : Comparison) → Compared s t c → Hold v (by_comparison c never always (given (negative (equal s t)))) ↔ (¬ (a ≡ b))
  other_by Comparison.Same (are_same e) = (λ holds. absurd holds, λ differ. absurd (differ (same_some (sym have.first ∙ ap (value v) e ∙ have.second))))
  other_by Comparison.Different (are_different alike apart) = (λ holds. apart_differ vars v s t a b have alike apart, λ is. inl refl)
  other_by Comparison.Unsure (are_unsure alike apart) = asked_other v s t a b have.first have.second

  pub same_tells : Hold v (same s t) ↔ (a ≡ b)
  same_tells = same_by (compared s t) (comparison_of s t)

  pub other_tells : Hold v (other s t) ↔ (¬ (a ≡ b))
  other_tells = other_by (compared s t) (comparison_of s t)

-- ---- kinds

module _ (vars : List Sort) (v : List PureValue) (t : PureTerm) (k : Kind) (a : PureValue) (proper : IsProper vars v) (over : IsOver vars t) (is : value v t ≡ Some a) where
  kind_value : value v (unary_of UnOp.Kind t) ≡ Some (kind (kind_of a))
  kind_value = ap (option_and_then (λ u. result_ok (unary UnOp.Kind u))) is

  kinds_of : (kind (kind_of a) ≡ kind k) → kind_of a ≡ k
  kinds_of e = same_kinds (kind_of a) k ((same_value-Decides (kind (kind_of a)) (kind k)).1 e)

  known_of : (l : Kind) → known_kind t ≡ Some l → kind_of a ≡ l
  known_of l known = known_kinds_are_right vars v t a l proper over is known

  is_by_test : (l : Kind) (b : Bool) → same_kind l k ≡ b → kind_of a ≡ l → Hold v (if b then always else never) ↔ (kind_of a ≡ k)
  is_by_test l true test of_l = (λ holds. of_l ∙ same_kinds l k test, λ e. inl refl)
  is_by_test l false test of_l = (λ holds. absurd holds, λ e. absurd (true≢false (sym (ap (same_kind l) (sym (sym of_l ∙ e)) ∙ same_value-refl (kind l)) ∙ test)))

  isnt_by_test : (l : Kind) (b : Bool) → same_kind l k ≡ b → kind_of a ≡ l → Hold v (if b then never else always) ↔ (¬ (kind_of a ≡ k))
  isnt_by_test l true test of_l = (λ holds. absurd holds, λ differ. absurd (differ (of_l ∙ same_kinds l k test)))
  isnt_by_test l false test of_l = (λ holds e. true≢false (sym (ap (same_kind l) (sym (sym of_l ∙ e)) ∙ same_value-refl (kind l)) ∙ test), λ differ. inl refl)

  is_by : (o : Option Kind) → known_kind t ≡ o → Hold v (by_kind o k always never (given (positive (kind_is t k)))) ↔ (kind_of a ≡ k)
  is_by (Some l) known = is_by_test l (same_kind l k) refl (known_of l known)
  is_by None known =
      let asked = asked_same v (unary_of UnOp.Kind t) (literal (Literal.Kind k)) (kind (kind_of a)) (kind k) kind_value refl in
      (λ holds. kinds_of (asked.0 holds), λ e. asked.1 (ap kind e))

  isnt_by : (o : Option Kind) → known_kind t ≡ o → Hold v (by_kind o k never always (given (negative (kind_is t k)))) ↔ (¬ (kind_of a ≡ k))
  isnt_by (Some l) known = isnt_by_test l (same_kind l k) refl (known_of l known)
  isnt_by None known =
      let asked = asked_other v (unary_of UnOp.Kind t) (literal (Literal.Kind k)) (kind (kind_of a)) (kind k) kind_value refl in
      (λ holds e. asked.0 holds (ap kind e), λ differ. asked.1 (λ e. differ (kinds_of e)))

  pub of_kind_tells : Hold v (of_kind t k) ↔ (kind_of a ≡ k)
  of_kind_tells = is_by (known_kind t) refl

  pub not_of_kind_tells : Hold v (not_of_kind t k) ↔ (¬ (kind_of a ≡ k))
  not_of_kind_tells = isnt_by (known_kind t) refl
