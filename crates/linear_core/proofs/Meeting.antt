-- Rows and their differences: what one meets the other meets, and a cycle of differences is a combination of rows.
use Rattle.std.proofs.Common.{◌≡◌, ⊎_elim, ◌⊎◌, inl, inr, ℕ, zero, suc, ◌+◌, ℤ, pos, neg_ℤ, ◌+ℤ◌, ◌-ℤ◌, ◌*ℤ◌, ◌≤ℤ◌, ◌<ℤ◌, List, [], ◌∷◌, map, Bool, true, false, ◌&&◌, if◌then◌else◌, Option, Some, None, slice_get, eqb, refl, sym, ap, ◌∙◌, subst, arith}
use Rattle.std.specs.Prelude.{All, IsSomeAnd}
use Rattle.std.specs.Option.{option_map}
use Rattle.std.specs.Ordering.{int_eq}
use Rattle.std.specs.List.{list_all}
use Rattle.std.proofs.lemmas.Bool.{false≢true, and_parts, or_cases, cases_eq, eq-eqb, ne_eqb}
use Rattle.std.proofs.lemmas.Bool.Decides.{Decides-int_eq}
use Rattle.std.proofs.lemmas.Int.{ints}
use Rattle.std.proofs.lemmas.Option.{slice_get-map, same_Some}
use Rattle.gil_values.specs.Pure.{PureValue}
use Rattle.pure_terms.specs.Numbers.{is_held}
use Rattle.solver_proof.specs.declared.proofs.Factor.{Factor}
use Rattle.linear_core.specs.declared.differences.Difference.{Difference}
use Rattle.linear_core.specs.declared.rows.Coefficient.{Coefficient}
use Rattle.linear_core.specs.declared.rows.Relation.{Relation}
use Rattle.linear_core.specs.declared.rows.Row.{Row}
use Rattle.linear_core.specs.declared.walks.Reach.{Reach}
use Rattle.linear_core.specs.Combining.{coefficient_of, coefficient, of_row, total, is_equality, is_factor_of, is_held_total, IsCombination}
use Rattle.linear_core.specs.Differences.{is_unit, are_opposite_units, are_of_difference, is_narrow_difference}
use Rattle.linear_core.specs.Nodes.{node_with, difference_of, one_if, coefficient_at}
use Rattle.linear_core.specs.Rows.{number_at as value_at, scaled_and_added, sum_at, Relates, Meets}
use Rattle.linear_core.specs.Valuations.{counted}
use Rattle.linear_core.specs.Walks.{number_at, IsMet, is_difference_factor, IsCycle}
use Rattle.linear_core.proofs.Cycling.{one-times, minus_one-times}

-- ---- lists

pub all_first : {A : Type 0} (P : A → Type 0) (x : A) (xs : List A) → All P (x ∷ xs) → P x
all_first P x xs all = all 0 x (omega arith)

pub all_rest : {A : Type 0} (P : A → Type 0) (x : A) (xs : List A) → All P (x ∷ xs) → All P xs
all_rest P x xs all k d below = all (suc k) d (omega (arith, below))

pub all_at : {A : Type 0} (P : A → Type 0) (xs : List A) (i : ℕ) (x : A) → slice_get xs i ≡ Some x → All P xs → P x
all_at P [] i x at all = cc
all_at P (y ∷ ys) zero x at all = subst P (same_Some y x at) (all_first P y ys all)
all_at P (y ∷ ys) (suc i) x at all = all_at P ys i x at (all_rest P y ys all)

pub all_from : {A : Type 0} (P : A → Type 0) (xs : List A) → ((i : ℕ) (x : A) → slice_get xs i ≡ Some x → P x) → All P xs
all_from P [] each k d below = absurd (omega (arith, below))
all_from P (x ∷ xs) each zero d below = each 0 x refl
all_from P (x ∷ xs) each (suc k) d below = all_from P xs (λ i y at. each (suc i) y at) k d (omega (arith, below))

-- ---- the coefficients of differences

abbrev plus_one : ℕ → Coefficient
plus_one x = record { variable = x; factor = pos 1 }

abbrev minus_one : ℕ → Coefficient
minus_one x = record { variable = x; factor = neg_ℤ (pos 1) }

unit_is : (f : ℤ) → is_unit f ≡ true → (f ≡ pos 1) ⊎ (f ≡ neg_ℤ (pos 1))
unit_is f h = ⊎_elim (λ e. inl ((Decides-int_eq f (pos 1)).0 e)) (λ e. inr ((Decides-int_eq f (neg_ℤ (pos 1))).0 e)) (or_cases (int_eq f (pos 1)) (int_eq f (neg_ℤ (pos 1))) h)

opposite_are : (f g : ℤ) → are_opposite_units f g ≡ true → ((f ≡ pos 1) × (g ≡ neg_ℤ (pos 1))) ⊎ ((f ≡ neg_ℤ (pos 1)) × (g ≡ pos 1))
opposite_are f g h = ⊎_elim first second (or_cases (int_eq f (pos 1) && int_eq g (neg_ℤ (pos 1))) (int_eq f (neg_ℤ (pos 1)) && int_eq g (pos 1)) h) where
  first : (int_eq f (pos 1) && int_eq g (neg_ℤ (pos 1))) ≡ true → ((f ≡ pos 1) × (g ≡ neg_ℤ (pos 1))) ⊎ ((f ≡ neg_ℤ (pos 1)) × (g ≡ pos 1))
  first e = let parts = and_parts (int_eq f (pos 1)) (int_eq g (neg_ℤ (pos 1))) e in inl ((Decides-int_eq f (pos 1)).0 parts.0, (Decides-int_eq g (neg_ℤ (pos 1))).0 parts.1)

  second : (int_eq f (neg_ℤ (pos 1)) && int_eq g (pos 1)) ≡ true → ((f ≡ pos 1) × (g ≡ neg_ℤ (pos 1))) ⊎ ((f ≡ neg_ℤ (pos 1)) × (g ≡ pos 1))
  second e = let parts = and_parts (int_eq f (neg_ℤ (pos 1))) (int_eq g (pos 1)) e in inr ((Decides-int_eq f (neg_ℤ (pos 1))).0 parts.0, (Decides-int_eq g (pos 1)).0 parts.1)

-- what holds of the five forms of a difference holds of each
module _ (P : List Coefficient → Type 0) (none : P []) (up : (x : ℕ) → P (plus_one x ∷ [])) (down : (x : ℕ) → P (minus_one x ∷ [])) (up_down : (x y : ℕ) → P (plus_one x ∷ minus_one y ∷ [])) (down_up : (x y : ℕ) → P (minus_one x ∷ plus_one y ∷ [])) where
  with_factor : (x : ℕ) (f g : ℤ) → f ≡ g → P (record { variable = x; factor = g } ∷ []) → P (record { variable = x; factor = f } ∷ [])
  with_factor x f g e h = subst (λ n. P (record { variable = x; factor = n } ∷ [])) (sym e) h

  with_factors : (x y : ℕ) (f g h k : ℤ) → f ≡ h → g ≡ k → P (record { variable = x; factor = h } ∷ record { variable = y; factor = k } ∷ []) → P (record { variable = x; factor = f } ∷ record { variable = y; factor = g } ∷ [])
  with_factors x y f g h k e i p = subst (λ n. P (record { variable = x; factor = n } ∷ record { variable = y; factor = g } ∷ [])) (sym e) (subst (λ n. P (record { variable = x; factor = h } ∷ record { variable = y; factor = n } ∷ [])) (sym i) p)

  pub difference_cases : (cs : List Coefficient) → are_of_difference cs ≡ true → P cs
  difference_cases [] is = none
  difference_cases (c ∷ []) is = ⊎_elim (λ e. with_factor c.variable c.factor (pos 1) e (up c.variable)) (λ e. with_factor c.variable c.factor (neg_ℤ (pos 1)) e (down c.variable)) (unit_is c.factor is)
  difference_cases (c ∷ d ∷ []) is =
      ⊎_elim (λ e. with_factors c.variable d.variable c.factor d.factor (pos 1) (neg_ℤ (pos 1)) e.0 e.1 (up_down c.variable d.variable))
      (λ e. with_factors c.variable d.variable c.factor d.factor (neg_ℤ (pos 1)) (pos 1) e.0 e.1 (down_up c.variable d.variable))
      (opposite_are c.factor d.factor is)
  difference_cases (c ∷ d ∷ e ∷ cs) is = absurd (false≢true is)

-- ---- sums of rows

module _ (v : List PureValue) (reaches : List Reach) where
  -- the variables have the numbers of their nodes, counted from the node 0
  abbrev pub AreCounted : List Coefficient → Type 0
  AreCounted [] = Unit {0}
  AreCounted (c ∷ cs) = (value_at v c.variable ≡ Some (counted reaches c.variable)) × AreCounted cs

  abbrev pub IsDifferenceSum : List Coefficient → Type 0
  IsDifferenceSum cs = AreCounted cs → sum_at v cs ≡ Some (number_at reaches (node_with (pos 1) cs) -ℤ number_at reaches (node_with (neg_ℤ (pos 1)) cs))

  added : (f n m : ℤ) (o p : Option ℤ) → o ≡ Some n → p ≡ Some m → scaled_and_added f o p ≡ Some ((f *ℤ n) +ℤ m)
  added f n m o p e g = λ i. scaled_and_added f (e i) (g i)

  no_difference : (n : ℤ) → pos 0 ≡ n -ℤ n
  no_difference n = omega (arith, ints)

  one_more : (a b c m n : ℤ) → a ≡ m -ℤ n → b ≡ c → a +ℤ b ≡ (m -ℤ n) +ℤ c
  one_more a b c m n e f = λ i. e i +ℤ f i

  up_only : (m n : ℤ) → (pos 1 *ℤ (m -ℤ n)) +ℤ pos 0 ≡ m -ℤ n
  up_only m n = ap (λ a. a +ℤ pos 0) (one-times (m -ℤ n)) ∙ same (m -ℤ n) where
    same : (a : ℤ) → a +ℤ pos 0 ≡ a
    same a = omega (arith, ints)

  down_only : (m n : ℤ) → (neg_ℤ (pos 1) *ℤ (m -ℤ n)) +ℤ pos 0 ≡ n -ℤ m
  down_only m n = ap (λ a. a +ℤ pos 0) (minus_one-times (m -ℤ n)) ∙ same m n where
    same : (m n : ℤ) → neg_ℤ (m -ℤ n) +ℤ pos 0 ≡ n -ℤ m
    same m n = omega (arith, ints)

  both_ways : (m n k : ℤ) → (pos 1 *ℤ (m -ℤ k)) +ℤ ((neg_ℤ (pos 1) *ℤ (n -ℤ k)) +ℤ pos 0) ≡ m -ℤ n
  both_ways m n k = (λ i. one-times (m -ℤ k) i +ℤ down_only n k i) ∙ same m n k where
    same : (m n k : ℤ) → (m -ℤ k) +ℤ (k -ℤ n) ≡ m -ℤ n
    same m n k = omega (arith, ints)

  ways_back : (m n k : ℤ) → (neg_ℤ (pos 1) *ℤ (m -ℤ k)) +ℤ ((pos 1 *ℤ (n -ℤ k)) +ℤ pos 0) ≡ n -ℤ m
  ways_back m n k = (λ i. minus_one-times (m -ℤ k) i +ℤ up_only n k i) ∙ same m n k where
    same : (m n k : ℤ) → neg_ℤ (m -ℤ k) +ℤ (n -ℤ k) ≡ n -ℤ m
    same m n k = omega (arith, ints)

  abbrev at : ℕ → ℤ
  at x = number_at reaches x

  pub difference_sum : (cs : List Coefficient) → are_of_difference cs ≡ true → IsDifferenceSum cs
  difference_sum = difference_cases IsDifferenceSum
      (λ _. ap Some (no_difference (at 0)))
      (λ x all. added (pos 1) (counted reaches x) (pos 0) _ _ all.0 refl ∙ ap Some (up_only (at (x + 1)) (at 0)))
      (λ x all. added (neg_ℤ (pos 1)) (counted reaches x) (pos 0) _ _ all.0 refl ∙ ap Some (down_only (at (x + 1)) (at 0)))
      (λ x y all. added (pos 1) (counted reaches x) _ _ _ all.0 (added (neg_ℤ (pos 1)) (counted reaches y) (pos 0) _ _ all.1.0 refl) ∙ ap Some (both_ways (at (x + 1)) (at (y + 1)) (at 0)))
      (λ x y all. added (neg_ℤ (pos 1)) (counted reaches x) _ _ _ all.0 (added (pos 1) (counted reaches y) (pos 0) _ _ all.1.0 refl) ∙ ap Some (ways_back (at (x + 1)) (at (y + 1)) (at 0)))

  -- a row is met where its difference is
  relates : (relation : Relation) (p m c : ℤ) → p ≤ℤ (m +ℤ neg_ℤ c) → (is_equality relation ≡ true → m ≤ℤ (p +ℤ c)) → Relates relation ((p -ℤ m) +ℤ c)
  relates Relation.AtMostZero p m c forwards backwards = omega (arith, ints)
  relates Relation.Zero p m c forwards backwards = meet p m c forwards (backwards refl) where
    meet : (p m c : ℤ) → p ≤ℤ (m +ℤ neg_ℤ c) → m ≤ℤ (p +ℤ c) → (p -ℤ m) +ℤ c ≡ pos 0
    meet p m c forwards backwards = omega (arith, ints)

  pub row_met : (row : Row) → are_of_difference row.coefficients ≡ true → AreCounted row.coefficients → IsMet reaches (difference_of row) → Meets v row
  row_met row is all met =
      subst (λ o. IsSomeAnd o (λ n. Relates row.relation (n +ℤ row.constant))) (sym (difference_sum row.coefficients is all))
      (relates row.relation (at (node_with (pos 1) row.coefficients)) (at (node_with (neg_ℤ (pos 1)) row.coefficients)) row.constant met.forwards met.backwards)

-- ---- coefficients of rows and of differences

one_if-suc : (x y : ℕ) → one_if (x + 1) (y + 1) ≡ one_if x y
one_if-suc x y = ap (λ (b : Bool). if b then pos 1 else pos 0) (⊎_elim (λ e. eq-eqb (x + 1) (y + 1) (ap (λ n. n + 1) e) ∙ sym (eq-eqb x y e)) (λ e. ne_eqb (x + 1) (y + 1) (λ f. e (less f)) ∙ sym (ne_eqb x y e)) (cases_eq x y)) where
  less : x + 1 ≡ y + 1 → x ≡ y
  less f = omega (arith, f)

one_if-zero : (x : ℕ) → one_if (x + 1) 0 ≡ pos 0
one_if-zero x = ap (λ (b : Bool). if b then pos 1 else pos 0) (ne_eqb (x + 1) 0 (λ e. omega (arith, e)))

module _ (x : ℕ) where
  abbrev IsCoefficient : List Coefficient → Type 0
  IsCoefficient cs = coefficient_of x cs ≡ one_if (x + 1) (node_with (pos 1) cs) -ℤ one_if (x + 1) (node_with (neg_ℤ (pos 1)) cs)

  signed_if : (b : Bool) → (if b then neg_ℤ (pos 1) else pos 0) ≡ neg_ℤ (if b then pos 1 else pos 0)
  signed_if true = refl
  signed_if false = refl

  nodes_up : (a b c m n k : ℤ) → a ≡ m → b ≡ pos 0 → c ≡ pos 0 → m +ℤ pos 0 ≡ a -ℤ b
  nodes_up a b c m n k e f g = omega (arith, ints, e, f)

  pub coefficient_is : (cs : List Coefficient) → are_of_difference cs ≡ true → IsCoefficient cs
  coefficient_is = difference_cases IsCoefficient
      (nothing (one_if (x + 1) 0))
      (λ y. up (one_if x y) (one_if (x + 1) (y + 1)) (one_if (x + 1) 0) (one_if-suc x y) (one_if-zero x))
      (λ y. ap (λ n. n +ℤ pos 0) (signed_if (eqb x y)) ∙ down (one_if x y) (one_if (x + 1) (y + 1)) (one_if (x + 1) 0) (one_if-suc x y) (one_if-zero x))
      (λ y z. ap (λ n. one_if x y +ℤ (n +ℤ pos 0)) (signed_if (eqb x z)) ∙ up_down (one_if x y) (one_if x z) (one_if (x + 1) (y + 1)) (one_if (x + 1) (z + 1)) (one_if-suc x y) (one_if-suc x z))
      (λ y z. ap (λ n. n +ℤ (one_if x z +ℤ pos 0)) (signed_if (eqb x y)) ∙ down_up (one_if x y) (one_if x z) (one_if (x + 1) (y + 1)) (one_if (x + 1) (z + 1)) (one_if-suc x y) (one_if-suc x z)) where
        nothing : (n : ℤ) → pos 0 ≡ n -ℤ n
        nothing n = omega (arith, ints)

        up : (m a b : ℤ) → a ≡ m → b ≡ pos 0 → m +ℤ pos 0 ≡ a -ℤ b
        up m a b e f = omega (arith, ints, e, f)

        down : (m a b : ℤ) → a ≡ m → b ≡ pos 0 → neg_ℤ m +ℤ pos 0 ≡ b -ℤ a
        down m a b e f = omega (arith, ints, e, f)

        up_down : (m n a b : ℤ) → a ≡ m → b ≡ n → m +ℤ (neg_ℤ n +ℤ pos 0) ≡ a -ℤ b
        up_down m n a b e f = omega (arith, ints, e, f)

        down_up : (m n a b : ℤ) → a ≡ m → b ≡ n → neg_ℤ m +ℤ (n +ℤ pos 0) ≡ b -ℤ a
        down_up m n a b e f = omega (arith, ints, e, f)

-- ---- sums of rows are those of their differences

module _ (rows : List Row) (part : Row → ℤ) (other : Difference → ℤ) (same : (i : ℕ) (row : Row) → slice_get rows i ≡ Some row → part row ≡ other (difference_of row)) where
  same_product : (f : ℤ) (i : ℕ) → of_row part f (slice_get rows i) ≡ of_row other f (slice_get (map difference_of rows) i)
  same_product f i = by_cases (slice_get rows i) refl ∙ ap (of_row other f) (sym (slice_get-map difference_of rows i)) where
    by_cases : (o : Option Row) → slice_get rows i ≡ o → of_row part f o ≡ of_row other f (option_map difference_of o)
    by_cases (Some row) at = ap (λ n. f *ℤ n) (same i row at)
    by_cases None at = refl

  pub same_total : (fs : List Factor) → total rows part fs ≡ total (map difference_of rows) other fs
  same_total [] = refl
  same_total (f ∷ fs) = λ i. same_product f.factor f.atom i +ℤ same_total fs i

  pub same_held : (fs : List Factor) → is_held_total rows part fs ≡ is_held_total (map difference_of rows) other fs
  same_held [] = refl
  same_held (f ∷ fs) = λ i. is_held (same_product f.factor f.atom i) && (is_held (same_product f.factor f.atom i +ℤ same_total fs i) && same_held fs i)

same_factor : (rows : List Row) (f : ℤ) (i : ℕ) → is_factor_of f (slice_get rows i) ≡ is_difference_factor f (slice_get (map difference_of rows) i)
same_factor rows f i = by_cases (slice_get rows i) ∙ ap (is_difference_factor f) (sym (slice_get-map difference_of rows i)) where
  by_cases : (o : Option Row) → is_factor_of f o ≡ is_difference_factor f (option_map difference_of o)
  by_cases (Some row) = refl
  by_cases None = refl

same_factors : (rows : List Row) (fs : List Factor) → list_all (λ f. is_factor_of f.factor (slice_get rows f.atom)) fs ≡ list_all (λ f. is_difference_factor f.factor (slice_get (map difference_of rows) f.atom)) fs
same_factors rows [] = refl
same_factors rows (f ∷ fs) = λ i. same_factor rows f.factor f.atom i && same_factors rows fs i

pub narrow_at : (rows : List Row) (i : ℕ) (row : Row) → All (λ row. is_narrow_difference row ≡ true) rows → slice_get rows i ≡ Some row → is_narrow_difference row ≡ true
narrow_at rows i row all at = all_at (λ row. is_narrow_difference row ≡ true) rows i row at all

pub combination : (rows : List Row) (fs : List Factor) → All (λ row. is_narrow_difference row ≡ true) rows → IsCycle (map difference_of rows) fs → IsCombination rows fs
combination rows fs narrow cycle =
    record {
      apart = cycle.apart;
      factors = same_factors rows fs ∙ cycle.factors;
      constant = subst (λ n. pos 0 <ℤ n) (sym (same_total rows (λ row. row.constant) (λ d. d.constant) (λ i row at. refl) fs)) cycle.constant;
      variables = λ x. same_total rows (coefficient x) (coefficient_at (x + 1)) (coefficients x) fs ∙ cycle.nodes (x + 1);
      no_divisor = cycle.no_divisor;
      held_constant = same_held rows (λ row. row.constant) (λ d. d.constant) (λ i row at. refl) fs ∙ cycle.held_constant;
      held_variables = λ x. same_held rows (coefficient x) (coefficient_at (x + 1)) (coefficients x) fs ∙ cycle.held_nodes (x + 1);
    } where
      coefficients : (x i : ℕ) (row : Row) → slice_get rows i ≡ Some row → coefficient x row ≡ coefficient_at (x + 1) (difference_of row)
      coefficients x i row at = coefficient_is x row.coefficients (and_parts (are_of_difference row.coefficients) _ (narrow_at rows i row narrow at)).0
