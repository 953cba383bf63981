-- Two numbers are ordered exactly where the conditions hold that are asked for it.
use Rattle.std.proofs.Common.{◌≡◌, ◌↔◌, ◌⊎◌, ⊎_elim, inl, inr, ℤ, ◌≤ℤ◌, ◌<ℤ◌, int_lt, int_le, List, Bool, true, false, not, ◌&&◌, ◌||◌, if◌then◌else◌, Option, Some, None, refl, sym, ap, subst, ◌∙◌, arith}
use Rattle.std.specs.Option.{option_and_then}
use Rattle.std.specs.Result.{result_ok}
use Rattle.std.proofs.lemmas.Bool.{and_parts, and_from, or_cases, false≢true}
use Rattle.std.proofs.lemmas.Int.{ints}
use Rattle.gil_values.specs.declared.kinds.Kind.{Kind}
use Rattle.gil_values.specs.declared.operators.BinOp.{BinOp}
use Rattle.gil_values.specs.Equality.{same_kind}
use Rattle.gil_values.specs.EqualityLaws.{same_value-refl}
use Rattle.gil_values.specs.Operators.{binary}
use Rattle.gil_values.specs.Pure.{PureValue, boolean, integer, kind}
use Rattle.pure_terms.specs.declared.literals.Literal.{Literal}
use Rattle.pure_terms.specs.declared.variables.Sort.{Sort}
use Rattle.pure_terms.specs.EqualityLaws.{same_sorts}
use Rattle.pure_terms.specs.Kinds.{same_sort, kind_of_sort, allows, known_kind}
use Rattle.pure_terms.specs.Meaning.{value, truth, is_that_boolean, IsOver}
use Rattle.pure_terms.specs.Naming.{names_only_below}
use Rattle.pure_terms.specs.Pure.{PureTerm, literal, variable, list_of, unary_of, binary_of, PureAtom, positive}
use Rattle.pure_terms.proofs.KindLaws.{same_kinds, known_kinds_are_right}
use Rattle.sym_chunks.specs.Laws.{NumbersAreOrdered}
use Rattle.sym_chunks.specs.Ordering.{less_than, not_above, literals_less, literals_at_most, less, at_most}
use Rattle.sym_model.specs.declared.comparing.Comparison.{Comparison}
use Rattle.sym_model.specs.Alternatives.{Hold, never, always, given, by_comparison}
use Rattle.sym_model.specs.Comparing.{are_other_kinds, is_fresh_above, are_apart, compared}
use Rattle.sym_model.specs.ConditionLaws.{HaveBoth}
use Rattle.sym_model.proofs.Telling.{Compared, are_same, are_different, are_unsure, comparison_of}
use Rattle.sym_model.specs.Terms.{is_literal, may_be_ordered}
use Rattle.sym_model.proofs.ListLaws.{same_some}
use Rattle.sym_chunks.proofs.Facts.{same_integers}

-- ---- numbers

lt_to : (m n : ℤ) → int_lt m n ≡ true → m <ℤ n
lt_to m n e = grind (arith, ints)

lt_from : (m n : ℤ) → m <ℤ n → int_lt m n ≡ true
lt_from m n h = grind (arith, ints)

le_to : (m n : ℤ) → int_le m n ≡ true → m ≤ℤ n
le_to m n e = grind (arith, ints)

le_from : (m n : ℤ) → m ≤ℤ n → int_le m n ≡ true
le_from m n h = grind (arith, ints)

not_below_itself : (m n : ℤ) → m ≡ n → m <ℤ n → ⊥
not_below_itself m n e h = omega (arith, ints, e, h)

at_most_itself : (m n : ℤ) → m ≡ n → m ≤ℤ n
at_most_itself m n e = omega (arith, ints, e)

-- ---- terms that may be ordered, and are apart

number_or_not : (o : Option Kind) → allows o Kind.Int ≡ true → (o ≡ None) ⊎ (o ≡ Some Kind.Int)
number_or_not None is = inl refl
number_or_not (Some k) is = inr (ap Some (same_kinds k Kind.Int is))

no_other_kinds : (j k : Option Kind) → allows j Kind.Int ≡ true → allows k Kind.Int ≡ true → ¬ (are_other_kinds j k ≡ true)
no_other_kinds (Some j) (Some k) is_j is_k apart =
    let alike : j ≡ k = same_kinds j Kind.Int is_j ∙ sym (same_kinds k Kind.Int is_k) in
    false≢true (sym (ap not (ap (same_kind j) (sym alike) ∙ same_value-refl (kind j))) ∙ apart)
no_other_kinds (Some j) None is_j is_k apart = false≢true apart
no_other_kinds None k is_j is_k apart = false≢true apart

no_fresh : (s t : PureTerm) → allows (known_kind s) Kind.Int ≡ true → ¬ (is_fresh_above s t ≡ true)
no_fresh (variable x) t is above =
    let sort = same_sorts x.sort Sort.Fresh (and_parts (same_sort x.sort Sort.Fresh) (names_only_below x.number t) above).0 in
    false≢true (ap (λ s. allows (kind_of_sort s) Kind.Int) (sym sort) ∙ is)
no_fresh (literal k) t is above = false≢true above
no_fresh (list_of ts) t is above = false≢true above
no_fresh (unary_of op u) t is above = false≢true above
no_fresh (binary_of op u w) t is above = false≢true above

-- where both may be numbers, they are apart only as two literals
pub apart_literals : (s t : PureTerm) → may_be_ordered s t ≡ true → are_apart s t ≡ true → (is_literal s && is_literal t) ≡ true
apart_literals s t may apart =
    let kinds = and_parts (allows (known_kind s) Kind.Int) (allows (known_kind t) Kind.Int) may in
    ⊎_elim (λ literals. literals)
    (λ rest. ⊎_elim (λ others. absurd (no_other_kinds (known_kind s) (known_kind t) kinds.0 kinds.1 others))
    (λ fresh. ⊎_elim (λ first. absurd (no_fresh s t kinds.0 first)) (λ second. absurd (no_fresh t s kinds.1 second)) (or_cases (is_fresh_above s t) (is_fresh_above t s) fresh))
    (or_cases (are_other_kinds (known_kind s) (known_kind t)) (is_fresh_above s t || is_fresh_above t s) rest))
    (or_cases (is_literal s && is_literal t) (are_other_kinds (known_kind s) (known_kind t) || (is_fresh_above s t || is_fresh_above t s)) apart)

-- a literal whose value is a number is that number
pub number_literal : (v : List PureValue) (s : PureTerm) (m : ℤ) → is_literal s ≡ true → value v s ≡ Some (integer m) → s ≡ literal (Literal.Int m)
number_literal v (literal (Literal.Int n)) m is has = ap (λ k. literal (Literal.Int k)) (same_integers (same_some has))
number_literal v (literal (Literal.Bool b)) m is has = let e : boolean b ≡ integer m = same_some has in absurd (cc)
number_literal v (literal (Literal.Str b)) m is has = let e = same_some has in absurd (cc)
number_literal v (literal (Literal.Kind b)) m is has = let e = same_some has in absurd (cc)
number_literal v (literal (Literal.Proc b)) m is has = let e = same_some has in absurd (cc)
number_literal v (variable x) m is has = absurd (false≢true is)
number_literal v (list_of ts) m is has = absurd (false≢true is)
number_literal v (unary_of op t) m is has = absurd (false≢true is)
number_literal v (binary_of op s t) m is has = absurd (false≢true is)

given_true : (v : List PureValue) (a : PureAtom) → Hold v (given a) → truth v a ≡ true
given_true v a one = ⊎_elim (λ here. (and_parts (truth v a) true here).0) absurd one

true_given : (v : List PureValue) (a : PureAtom) → truth v a ≡ true → Hold v (given a)
true_given v a is = inl (and_from (truth v a) true is refl)

if_holds : (v : List PureValue) (b : Bool) → Hold v (if b then always else never) → b ≡ true
if_holds v true holds = refl
if_holds v false holds = absurd holds

holds_if : (v : List PureValue) (b : Bool) → b ≡ true → Hold v (if b then always else never)
holds_if v true is = inl refl
holds_if v false is = absurd (false≢true is)

module _ (vars : List Sort) (v : List PureValue) (s t : PureTerm) (m n : ℤ) (have : HaveBoth vars v s t (integer m) (integer n)) where
  number_allowed : (u : PureTerm) (k : ℤ) → IsOver vars u → value v u ≡ Some (integer k) → (o : Option Kind) → known_kind u ≡ o → allows o Kind.Int ≡ true
  number_allowed u k over has None is = refl
  number_allowed u k over has (Some j) is = ap (λ l. same_kind l Kind.Int) (sym (known_kinds_are_right vars v u (integer k) j have.proper over has is))

  pub may_be : may_be_ordered s t ≡ true
  may_be = and_from _ _ (number_allowed s m have.first_over have.first (known_kind s) refl) (number_allowed t n have.second_over have.second (known_kind t) refl)

  same_numbers : s ≡ t → m ≡ n
  same_numbers e = same_integers (same_some (sym have.first ∙ ap (value v) e ∙ have.second))

  abbrev applied : BinOp → Option PureValue → Option PureValue → Option PureValue
  applied op a b = option_and_then (λ u. option_and_then (λ w. result_ok (binary op u w)) b) a

  less_value : truth v (positive (less_than s t)) ≡ int_lt m n
  less_value = let is : value v (less_than s t) ≡ Some (boolean (int_lt m n)) = (λ i. applied BinOp.Less (have.first i) (have.second i)) in ap (is_that_boolean true) is

  at_most_value : truth v (positive (not_above s t)) ≡ int_le m n
  at_most_value = let is : value v (not_above s t) ≡ Some (boolean (int_le m n)) = (λ i. applied BinOp.LessOrEqual (have.first i) (have.second i)) in ap (is_that_boolean true) is

  two_literals : are_apart s t ≡ true → (s ≡ literal (Literal.Int m)) × (t ≡ literal (Literal.Int n))
  two_literals apart =
      let parts = and_parts (is_literal s) (is_literal t) (apart_literals s t may_be apart) in
      (number_literal v s m parts.0 have.first, number_literal v t n parts.1 have.second)

  less_by : (c : Comparison) → Compared s t c → Hold v (by_comparison c never (literals_less s t) (given (positive (less_than s t)))) ↔ (m <ℤ n)
  less_by Comparison.Same (are_same e) = (λ holds. absurd holds, λ below. absurd (not_below_itself m n (same_numbers e) below))
  less_by Comparison.Different (are_different alike apart) =
      let (is_s, is_t) = two_literals apart in
      let e : literals_less s t ≡ (if int_lt m n then always else never) = (λ i. literals_less (is_s i) (is_t i)) in
      (λ holds. lt_to m n (if_holds v (int_lt m n) (subst (Hold v) e holds)), λ below. subst (Hold v) (sym e) (holds_if v (int_lt m n) (lt_from m n below)))
  less_by Comparison.Unsure (are_unsure alike apart) =
      (λ holds. lt_to m n (sym less_value ∙ given_true v (positive (less_than s t)) holds), λ below. true_given v (positive (less_than s t)) (less_value ∙ lt_from m n below))

  at_most_by : (c : Comparison) → Compared s t c → Hold v (by_comparison c always (literals_at_most s t) (given (positive (not_above s t)))) ↔ (m ≤ℤ n)
  at_most_by Comparison.Same (are_same e) = (λ holds. at_most_itself m n (same_numbers e), λ below. inl refl)
  at_most_by Comparison.Different (are_different alike apart) =
      let (is_s, is_t) = two_literals apart in
      let e : literals_at_most s t ≡ (if int_le m n then always else never) = (λ i. literals_at_most (is_s i) (is_t i)) in
      (λ holds. le_to m n (if_holds v (int_le m n) (subst (Hold v) e holds)), λ below. subst (Hold v) (sym e) (holds_if v (int_le m n) (le_from m n below)))
  at_most_by Comparison.Unsure (are_unsure alike apart) =
      (λ holds. le_to m n (sym at_most_value ∙ given_true v (positive (not_above s t)) holds), λ below. true_given v (positive (not_above s t)) (at_most_value ∙ le_from m n below))

  pub less_tells : Hold v (less s t) ↔ (m <ℤ n)
  less_tells =
      subst (λ b. Hold v (if b then by_comparison (compared s t) never (literals_less s t) (given (positive (less_than s t))) else never) ↔ (m <ℤ n)) (sym may_be)
      (less_by (compared s t) (comparison_of s t))

  pub at_most_tells : Hold v (at_most s t) ↔ (m ≤ℤ n)
  at_most_tells =
      subst (λ b. Hold v (if b then by_comparison (compared s t) always (literals_at_most s t) (given (positive (not_above s t))) else never) ↔ (m ≤ℤ n)) (sym may_be)
      (at_most_by (compared s t) (comparison_of s t))

pub ordered_numbers : NumbersAreOrdered
ordered_numbers = record {
  below = λ vars v s t m n have. less_tells vars v s t m n have;
  not_above = λ vars v s t m n have. at_most_tells vars v s t m n have;
}
