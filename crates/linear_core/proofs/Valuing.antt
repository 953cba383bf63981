-- The numbers of nodes that meet all differences make a valuation that meets all rows.
use Rattle.std.proofs.Common.{◌≡◌, ℕ, zero, suc, ◌+◌, ◌^◌, ◌<◌, ℤ, pos, neg_ℤ, ◌-ℤ◌, ◌≤ℤ◌, List, [], ◌∷◌, map, length, Bool, true, false, if◌then◌else◌, Option, Some, None, slice_get, refl, sym, ap, ◌∙◌, subst, arith}
use Rattle.std.specs.Prelude.{All, int_le}
use Rattle.std.specs.List.{list_all, Contains}
use Rattle.std.specs.Option.{option_map, option_and_then}
use Rattle.std.specs.Ordering.{int_eq}
use Rattle.std.proofs.lemmas.Bool.{and_from, and_parts}
use Rattle.std.proofs.lemmas.Int.{ints}
use Rattle.std.proofs.lemmas.Option.{slice_get-map, slice_get_within, same_Some}
use Rattle.gil_values.specs.Pure.{PureValue, symbol}
use Rattle.gil_values.specs.Symbols.{OccursIn}
use Rattle.pure_terms.specs.declared.variables.Sort.{Sort}
use Rattle.pure_terms.specs.Deciding.{has_numbers_between}
use Rattle.pure_terms.specs.Kinds.{has_sort}
use Rattle.pure_terms.specs.Meaning.{IsProper}
use Rattle.pure_terms.specs.Numbers.{is_between}
use Rattle.linear_core.specs.declared.rows.Coefficient.{Coefficient}
use Rattle.linear_core.specs.declared.rows.Row.{Row}
use Rattle.linear_core.specs.declared.walks.Reach.{Reach}
use Rattle.linear_core.specs.Answers.{IsSolution}
use Rattle.linear_core.specs.Differences.{are_of_difference, is_narrow_difference}
use Rattle.linear_core.specs.Nodes.{node_with, difference_of, IsNarrow, AreNarrow}
use Rattle.linear_core.specs.Rows.{whole_number, number_at as value_at, Meets, AreOver}
use Rattle.linear_core.specs.Valuations.{counted, value_for, values_from}
use Rattle.linear_core.specs.Walks.{AreMet, AreModerate}
use Rattle.linear_core.proofs.Meeting.{all_first, all_rest, all_at, all_from, narrow_at, AreCounted, row_met}

-- ---- differences of rows over a table

placed : (vars : List Sort) (f : ℤ) (cs : List Coefficient) → All (λ c. slice_get vars c.variable ≡ Some Sort.Int) cs → node_with f cs < length vars + 1
placed vars f [] over = omega arith
placed vars f (c ∷ cs) over = chosen (int_eq c.factor f) (placed vars f cs (all_rest (λ c. slice_get vars c.variable ≡ Some Sort.Int) c cs over)) where
  chosen : (b : Bool) → node_with f cs < length vars + 1 → (if b then c.variable + 1 else node_with f cs) < length vars + 1
  chosen true rest = more (slice_get_within vars c.variable Sort.Int (all_first (λ c. slice_get vars c.variable ≡ Some Sort.Int) c cs over)) where
    more : c.variable < length vars → c.variable + 1 < length vars + 1
    more h = omega arith
  chosen false rest = rest

pub narrow_differences : (vars : List Sort) (rows : List Row) → AreOver vars rows → All (λ row. is_narrow_difference row ≡ true) rows → AreNarrow (length vars + 1) (map difference_of rows)
narrow_differences vars rows over narrow k d at = by_cases (slice_get rows k) refl (sym (slice_get-map difference_of rows k) ∙ at) where
  by_cases : (o : Option Row) → slice_get rows k ≡ o → option_map difference_of o ≡ Some d → IsNarrow (length vars + 1) d
  by_cases (Some row) there is =
      let over_row = all_at (λ row. All (λ c. slice_get vars c.variable ≡ Some Sort.Int) row.coefficients) rows k row there over in
      let whole : IsNarrow (length vars + 1) (difference_of row) = record {
        plus = placed vars (pos 1) row.coefficients over_row;
        minus = placed vars (neg_ℤ (pos 1)) row.coefficients over_row;
        constant = (and_parts (are_of_difference row.coefficients) _ (narrow_at rows k row narrow there)).1;
      } in
      subst (IsNarrow (length vars + 1)) (same_Some (difference_of row) d is) whole
  by_cases None there is = cc

-- the nodes of a row's variables have numbers
pub fits : (vars : List Sort) (rows : List Row) → AreOver vars rows → length vars + 1 < 2 ^ 64 → All (λ row. All (λ c. c.variable + 1 < 2 ^ 64) row.coefficients) rows
fits vars rows over small = all_from (λ row. All (λ c. c.variable + 1 < 2 ^ 64) row.coefficients) rows (λ i row at. all_from (λ c. c.variable + 1 < 2 ^ 64) row.coefficients (λ j c there. less c.variable (slice_get_within vars c.variable Sort.Int (all_at (λ c. slice_get vars c.variable ≡ Some Sort.Int) row.coefficients j c there (all_at (λ row. All (λ c. slice_get vars c.variable ≡ Some Sort.Int) row.coefficients) rows i row at over))))) where
  less : (x : ℕ) → x < length vars → x + 1 < 2 ^ 64
  less x h = omega arith

-- ---- the values

module _ (reaches : List Reach) where
  pub length-values : (x : ℕ) (vars : List Sort) → length (values_from reaches x vars) ≡ length vars
  length-values x [] = refl
  length-values x (s ∷ ss) = ap suc (length-values (x + 1) ss)

  pub values-at : (x : ℕ) (vars : List Sort) (i : ℕ) → slice_get (values_from reaches x vars) i ≡ option_map (value_for (counted reaches (x + i)) (x + i)) (slice_get vars i)
  values-at x [] i = refl
  values-at x (s ∷ ss) zero = ap (λ n. Some (value_for (counted reaches n) n s)) (same x) where
    same : (x : ℕ) → x ≡ x + 0
    same x = omega arith
  values-at x (s ∷ ss) (suc i) = values-at (x + 1) ss i ∙ ap (λ n. option_map (value_for (counted reaches n) n) (slice_get ss i)) (same x i) where
    same : (x i : ℕ) → (x + 1) + i ≡ x + suc i
    same x i = omega arith

  at_first : (vars : List Sort) (i : ℕ) → slice_get (values_from reaches 0 vars) i ≡ option_map (value_for (counted reaches i) i) (slice_get vars i)
  at_first vars i = values-at 0 vars i ∙ ap (λ n. option_map (value_for (counted reaches n) n) (slice_get vars i)) (same i) where
    same : (i : ℕ) → 0 + i ≡ i
    same i = omega arith

  sort-of_value : (n : ℤ) (x : ℕ) (s : Sort) → has_sort s (value_for n x s) ≡ true
  sort-of_value n x Sort.Int = refl
  sort-of_value n x Sort.Bool = refl
  sort-of_value n x Sort.Str = refl
  sort-of_value n x Sort.Sym = refl
  sort-of_value n x Sort.Fresh = refl
  sort-of_value n x Sort.List = refl
  sort-of_value n x Sort.Any = refl

  -- a symbol in a variable's value is the variable's own
  one_symbol : (x n : ℕ) → Contains (x ∷ []) n → x ≡ n
  one_symbol x n (zero, below, is) = is
  one_symbol x n (suc k, below, is) = absurd (omega (arith, below))

  no_symbol : (n : ℕ) → Contains {X = ℕ} [] n → ⊥
  no_symbol n (k, below, is) = omega (arith, below)

  own_symbol : (m : ℤ) (x : ℕ) (s : Sort) (n : ℕ) → OccursIn n (value_for m x s) → x ≡ n
  own_symbol m x Sort.Int n occurs = absurd (no_symbol n occurs)
  own_symbol m x Sort.Bool n occurs = absurd (no_symbol n occurs)
  own_symbol m x Sort.Str n occurs = absurd (no_symbol n occurs)
  own_symbol m x Sort.Sym n occurs = one_symbol x n occurs
  own_symbol m x Sort.Fresh n occurs = one_symbol x n occurs
  own_symbol m x Sort.List n occurs = absurd (no_symbol n occurs)
  own_symbol m x Sort.Any n occurs = absurd (no_symbol n occurs)

  pub proper : (vars : List Sort) → IsProper vars (values_from reaches 0 vars)
  proper vars = record { one_each = length-values 0 vars; sorts = sorts; fresh = fresh } where
    known : (x : ℕ) (s : Sort) (w : PureValue) → slice_get vars x ≡ Some s → slice_get (values_from reaches 0 vars) x ≡ Some w → value_for (counted reaches x) x s ≡ w
    known x s w at is = same_Some (value_for (counted reaches x) x s) w (ap (option_map (value_for (counted reaches x) x)) (sym at) ∙ sym (at_first vars x) ∙ is)

    sorts : (x : ℕ) (s : Sort) (w : PureValue) → slice_get vars x ≡ Some s → slice_get (values_from reaches 0 vars) x ≡ Some w → has_sort s w ≡ true
    sorts x s w at is = ap (has_sort s) (sym (known x s w at is)) ∙ sort-of_value (counted reaches x) x s

    symbol_is : (a b : ℕ) → symbol a ≡ symbol b → a ≡ b
    symbol_is a b e = cc

    fresh : (x y n : ℕ) (w : PureValue) → slice_get vars x ≡ Some Sort.Fresh → slice_get (values_from reaches 0 vars) x ≡ Some (symbol n) → y < x → slice_get (values_from reaches 0 vars) y ≡ Some w → OccursIn n w → ⊥
    fresh x y n w at is below other occurs = by_cases (slice_get vars y) refl where
      mine : x ≡ n
      mine = symbol_is x n (known x Sort.Fresh (symbol n) at is)

      by_cases : (o : Option Sort) → slice_get vars y ≡ o → ⊥
      by_cases (Some s) there =
          let theirs : y ≡ n = own_symbol (counted reaches y) y s n (subst (OccursIn n) (sym (known y s w there other)) occurs) in
          omega (arith, below, mine, theirs)
      by_cases None there =
          let nothing : slice_get (values_from reaches 0 vars) y ≡ None = at_first vars y ∙ ap (option_map (value_for (counted reaches y) y)) there in
          cc

  module _ (moderate : AreModerate reaches) where
    int-between : (m n : ℤ) → (neg_ℤ (pos (2 ^ 122)) ≤ℤ m) × (m ≤ℤ pos (2 ^ 122)) → (neg_ℤ (pos (2 ^ 122)) ≤ℤ n) × (n ≤ℤ pos (2 ^ 122)) → is_between (neg_ℤ (pos (2 ^ 124))) (pos (2 ^ 124)) (m -ℤ n) ≡ true
    int-between m n (low, high) (lower, higher) = and_from _ _ (tested (neg_ℤ (pos (2 ^ 124))) (m -ℤ n) (omega (arith, ints))) (tested (m -ℤ n) (pos (2 ^ 124)) (omega (arith, ints))) where
      tested : (m n : ℤ) → m ≤ℤ n → int_le m n ≡ true
      tested m n h = grind (arith, ints)

    value-between : (x : ℕ) (s : Sort) → has_numbers_between (neg_ℤ (pos (2 ^ 124))) (pos (2 ^ 124)) (value_for (counted reaches x) x s) ≡ true
    value-between x Sort.Int = int-between _ _ (moderate (x + 1)) (moderate 0)
    value-between x Sort.Bool = refl
    value-between x Sort.Str = refl
    value-between x Sort.Sym = refl
    value-between x Sort.Fresh = refl
    value-between x Sort.List = refl
    value-between x Sort.Any = refl

    pub values-between : (x : ℕ) (vars : List Sort) → list_all (has_numbers_between (neg_ℤ (pos (2 ^ 124))) (pos (2 ^ 124))) (values_from reaches x vars) ≡ true
    values-between x [] = refl
    values-between x (s ∷ ss) = and_from _ _ (value-between x s) (values-between (x + 1) ss)

  -- ---- rows are met

  counted_there : (vars : List Sort) (cs : List Coefficient) → All (λ c. slice_get vars c.variable ≡ Some Sort.Int) cs → AreCounted (values_from reaches 0 vars) reaches cs
  counted_there vars [] over = tt
  counted_there vars (c ∷ cs) over =
      let first : value_at (values_from reaches 0 vars) c.variable ≡ Some (counted reaches c.variable) = ap (option_and_then whole_number) (at_first vars c.variable ∙ ap (option_map (value_for (counted reaches c.variable) c.variable)) (all_first (λ c. slice_get vars c.variable ≡ Some Sort.Int) c cs over)) in
      (first, counted_there vars cs (all_rest (λ c. slice_get vars c.variable ≡ Some Sort.Int) c cs over))

  pub solution : (vars : List Sort) (rows : List Row) → AreOver vars rows → All (λ row. is_narrow_difference row ≡ true) rows → AreMet (map difference_of rows) reaches (length (map difference_of rows)) → AreModerate reaches → IsSolution vars rows (values_from reaches 0 vars)
  solution vars rows over narrow met moderate = record { proper = proper vars; met = all_from (Meets (values_from reaches 0 vars)) rows each; moderate = values-between moderate 0 vars } where
    each : (i : ℕ) (row : Row) → slice_get rows i ≡ Some row → Meets (values_from reaches 0 vars) row
    each i row at =
        let there : slice_get (map difference_of rows) i ≡ Some (difference_of row) = slice_get-map difference_of rows i ∙ ap (option_map difference_of) at in
        row_met (values_from reaches 0 vars) reaches row (and_parts (are_of_difference row.coefficients) _ (narrow_at rows i row narrow at)).0
        (counted_there vars row.coefficients (all_at (λ row. All (λ c. slice_get vars c.variable ≡ Some Sort.Int) row.coefficients) rows i row at over))
        (met i (difference_of row) there (slice_get_within (map difference_of rows) i (difference_of row) there))
