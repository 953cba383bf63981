-- A combination of the rows of a list is a sum of rows of its atoms.
use Rattle.std.proofs.Common.{◌≡◌, ℕ, zero, suc, ◌+◌, ◌≤◌, ℤ, pos, neg_ℤ, ◌+ℤ◌, ◌-ℤ◌, ◌*ℤ◌, List, [], ◌∷◌, ◌++◌, map, get_or, Bool, true, false, not, ◌&&◌, ◌||◌, if◌then◌else◌, Option, Some, None, slice_get, eqb, refl, sym, ap, ◌∙◌, subst, arith}
use Rattle.std.specs.Prelude.{int_lt, ◌<ℤ◌}
use Rattle.std.specs.List.{list_all, list_any}
use Rattle.std.specs.Option.{option_and_then}
use Rattle.std.proofs.lemmas.Bool.{false≢true, and_parts, and_from, or_from, or_parts, not-true, not_from_false, ne_eqb, eqb-false}
use Rattle.std.proofs.lemmas.Option.{same_Some, get_or_from_slice_get}
use Rattle.pure_terms.specs.Numbers.{is_held}
use Rattle.pure_terms.specs.Pure.{PureAtom}
use Rattle.solver_proof.specs.declared.proofs.Factor.{Factor}
use Rattle.solver_proof.specs.Sums.{Row, row_of, row_at, of_row, total, is_held_total, coefficient, one_if_variable, is_factor_of, is_held_row, are_factors, are_apart, DividesEach, SumCloses}
use Rattle.linear_core.specs.declared.rows.Row.{Row as LinearRow}
use Rattle.linear_core.specs.Combining.{IsCombination, of_row as linear_of_row, total as linear_total, is_held_total as linear_held, is_factor_of as is_linear_factor, coefficient as linear_coefficient, coefficient_of, is_equality}
use Rattle.solver_rules.specs.Rows.{part_of, linear_row, relation_of, row_before, rows_from, place_before, places_from}

-- a row of the list, with its atom and its place
pub record RowAt (list : List PureAtom) (from i : ℕ) (r : LinearRow) : Type 0 where
  pub place : ℕ
  pub atom : PureAtom
  pub row : Row
  pub at_place : slice_get (places_from from list) i ≡ Some (from + place)
  pub at : slice_get list place ≡ Some atom
  pub is_row : row_of atom ≡ Some row
  pub is : r ≡ linear_row row

pub row_there : (list : List PureAtom) (from i : ℕ) (r : LinearRow) → slice_get (rows_from list) i ≡ Some r → RowAt list from i r
row_there [] from i r at = cc
row_there (a ∷ atoms) from i r at = by_row (row_of a) refl i at (λ k there. row_there atoms (from + 1) k r there) where
  plus_zero : (n : ℕ) → n ≡ n + 0
  plus_zero n = omega arith

  next : (n q : ℕ) → (n + 1) + q ≡ n + suc q
  next n q = omega arith

  by_row : (o : Option Row) → row_of a ≡ o → (i : ℕ) → slice_get (row_before o (rows_from atoms)) i ≡ Some r → ((k : ℕ) → slice_get (rows_from atoms) k ≡ Some r → RowAt atoms (from + 1) k r) → RowAt (a ∷ atoms) from i r
  by_row (Some row) is zero there again = record {
    place = 0;
    atom = a;
    row = row;
    at_place = ap (λ o. slice_get (place_before o from (places_from (from + 1) atoms)) 0) is ∙ ap Some (plus_zero from);
    at = refl;
    is_row = is;
    is = sym (same_Some (linear_row row) r there);
  }
  by_row (Some row) is (suc i) there again =
      let rest = again i there in
      record { place = suc rest.place; atom = rest.atom; row = rest.row; at_place = ap (λ o. slice_get (place_before o from (places_from (from + 1) atoms)) (suc i)) is ∙ rest.at_place ∙ ap Some (next from rest.place); at = rest.at; is_row = rest.is_row; is = rest.is }
  by_row None is i there again =
      let rest = again i there in
      record { place = suc rest.place; atom = rest.atom; row = rest.row; at_place = ap (λ o. slice_get (place_before o from (places_from (from + 1) atoms)) i) is ∙ rest.at_place ∙ ap Some (next from rest.place); at = rest.at; is_row = rest.is_row; is = rest.is }

-- places rise
places_least : (list : List PureAtom) (from i p : ℕ) → slice_get (places_from from list) i ≡ Some p → from ≤ p
places_least [] from i p at = cc
places_least (a ∷ atoms) from i p at = by_row (row_of a) i at (λ k there. places_least atoms (from + 1) k p there) where
  by_row : (o : Option Row) (i : ℕ) → slice_get (place_before o from (places_from (from + 1) atoms)) i ≡ Some p → ((k : ℕ) → slice_get (places_from (from + 1) atoms) k ≡ Some p → from + 1 ≤ p) → from ≤ p
  by_row (Some row) zero there again = let e : from ≡ p = same_Some from p there in omega (arith, e)
  by_row (Some row) (suc i) there again = let h : from + 1 ≤ p = again i there in omega (arith, h)
  by_row None i there again = let h : from + 1 ≤ p = again i there in omega (arith, h)

places_apart : (list : List PureAtom) (from i j p : ℕ) → slice_get (places_from from list) i ≡ Some p → slice_get (places_from from list) j ≡ Some p → i ≡ j
places_apart [] from i j p at also = cc
places_apart (a ∷ atoms) from i j p at also = by_row (row_of a) i j at also (λ k l there too. places_apart atoms (from + 1) k l p there too) where
  least : (k : ℕ) → slice_get (places_from (from + 1) atoms) k ≡ Some p → from + 1 ≤ p
  least k there = places_least atoms (from + 1) k p there

  by_row : (o : Option Row) (i j : ℕ) → slice_get (place_before o from (places_from (from + 1) atoms)) i ≡ Some p → slice_get (place_before o from (places_from (from + 1) atoms)) j ≡ Some p
      → ((k l : ℕ) → slice_get (places_from (from + 1) atoms) k ≡ Some p → slice_get (places_from (from + 1) atoms) l ≡ Some p → k ≡ l) → i ≡ j
  by_row (Some row) zero zero there too again = refl
  by_row (Some row) zero (suc j) there too again = let e : from ≡ p = same_Some from p there in let h : from + 1 ≤ p = least j too in absurd (omega (arith, e, h))
  by_row (Some row) (suc i) zero there too again = let e : from ≡ p = same_Some from p too in let h : from + 1 ≤ p = least i there in absurd (omega (arith, e, h))
  by_row (Some row) (suc i) (suc j) there too again = ap suc (again i j there too)
  by_row None i j there too again = again i j there too

-- ---- factors

abbrev pub moved : List ℕ → Factor → Factor
moved places f = record { atom = get_or places f.atom 0; factor = f.factor }

-- the coefficient of a variable
chosen_difference : (b d : Bool) → (if b then pos 1 else pos 0) +ℤ ((if d then neg_ℤ (pos 1) else pos 0) +ℤ pos 0) ≡ (if b then pos 1 else pos 0) -ℤ (if d then pos 1 else pos 0)
chosen_difference true true = refl
chosen_difference true false = refl
chosen_difference false true = refl
chosen_difference false false = refl

chosen_plus : (b : Bool) → (if b then pos 1 else pos 0) +ℤ pos 0 ≡ (if b then pos 1 else pos 0) -ℤ pos 0
chosen_plus true = refl
chosen_plus false = refl

chosen_minus : (d : Bool) → (if d then neg_ℤ (pos 1) else pos 0) +ℤ pos 0 ≡ pos 0 -ℤ (if d then pos 1 else pos 0)
chosen_minus true = refl
chosen_minus false = refl

parts_coefficient : (x : ℕ) (plus minus : Option ℕ) → coefficient_of x (part_of (pos 1) plus ++ part_of (neg_ℤ (pos 1)) minus) ≡ one_if_variable x plus -ℤ one_if_variable x minus
parts_coefficient x (Some y) (Some z) = chosen_difference (eqb x y) (eqb x z)
parts_coefficient x (Some y) None = chosen_plus (eqb x y)
parts_coefficient x None (Some z) = chosen_minus (eqb x z)
parts_coefficient x None None = refl

pub coefficient_same : (x : ℕ) (r : Row) → linear_coefficient x (linear_row r) ≡ coefficient x r
coefficient_same x r = parts_coefficient x r.plus r.minus

equality_same : (b : Bool) → is_equality (relation_of b) ≡ b
equality_same true = refl
equality_same false = refl

module _ (list : List PureAtom) where
  abbrev rows : List LinearRow
  rows = rows_from list

  abbrev places : List ℕ
  places = places_from 0 list

  record Placed (f : Factor) : Type 0 where
    r : LinearRow
    at_row : slice_get (rows_from list) f.atom ≡ Some r
    there : RowAt list 0 f.atom r
    at : row_at list (get_or (places_from 0 list) f.atom 0) ≡ Some there.row

  placed : (f : Factor) → is_linear_factor f.factor (slice_get (rows_from list) f.atom) ≡ true → Placed f
  placed f is = by_row (slice_get (rows_from list) f.atom) refl is where
    zero_plus : (n : ℕ) → 0 + n ≡ n
    zero_plus n = omega arith

    by_row : (o : Option LinearRow) → slice_get (rows_from list) f.atom ≡ o → is_linear_factor f.factor o ≡ true → Placed f
    by_row (Some r) at is =
        let there = row_there list 0 f.atom r at in
        let place : get_or (places_from 0 list) f.atom 0 ≡ there.place = get_or_from_slice_get (places_from 0 list) f.atom (0 + there.place) 0 there.at_place ∙ zero_plus there.place in
        record { r = r; at_row = at; there = there; at = ap (row_at list) place ∙ ap (option_and_then row_of) there.at ∙ there.is_row }
    by_row None at is = absurd (false≢true is)

  abbrev AllFactors : List Factor → Type 0
  AllFactors fs = list_all (λ f. is_linear_factor f.factor (slice_get (rows_from list) f.atom)) fs ≡ true

  module _ (linear_part : LinearRow → ℤ) (part : Row → ℤ) (parts : (r : Row) → linear_part (linear_row r) ≡ part r) where
    one_same : (f : Factor) → is_linear_factor f.factor (slice_get (rows_from list) f.atom) ≡ true → linear_of_row linear_part f.factor (slice_get (rows_from list) f.atom) ≡ of_row part f.factor (row_at list (get_or (places_from 0 list) f.atom 0))
    one_same f is =
        let at = placed f is in
        ap (linear_of_row linear_part f.factor) at.at_row ∙ ap (λ n. f.factor *ℤ n) (ap linear_part at.there.is ∙ parts at.there.row) ∙ ap (of_row part f.factor) (sym at.at)

    pub total_same : (fs : List Factor) → AllFactors fs → linear_total (rows_from list) linear_part fs ≡ total list part (map (moved (places_from 0 list)) fs)
    total_same [] all = refl
    total_same (f ∷ fs) all =
        let both = and_parts (is_linear_factor f.factor (slice_get (rows_from list) f.atom)) (list_all (λ f. is_linear_factor f.factor (slice_get (rows_from list) f.atom)) fs) all in
        let first = one_same f both.0 in
        let rest = total_same fs both.1 in
        λ i. first i +ℤ rest i

    pub held_same : (fs : List Factor) → AllFactors fs → linear_held (rows_from list) linear_part fs ≡ is_held_total list part (map (moved (places_from 0 list)) fs)
    held_same [] all = refl
    held_same (f ∷ fs) all =
        let both = and_parts (is_linear_factor f.factor (slice_get (rows_from list) f.atom)) (list_all (λ f. is_linear_factor f.factor (slice_get (rows_from list) f.atom)) fs) all in
        let first = one_same f both.0 in
        let whole = total_same (f ∷ fs) all in
        let rest = held_same fs both.1 in
        λ i. is_held (first i) && (is_held (whole i) && rest i)

  -- ---- different atoms

  not_among : (f : Factor) → Placed f → (fs : List Factor) → AllFactors fs → list_any (eqb f.atom) (map (λ g. g.atom) fs) ≡ false → list_any (eqb (get_or (places_from 0 list) f.atom 0)) (map (λ g. g.atom) (map (moved (places_from 0 list)) fs)) ≡ false
  not_among f at [] all none = refl
  not_among f at (g ∷ fs) all none =
      let both = and_parts (is_linear_factor g.factor (slice_get (rows_from list) g.atom)) (list_all (λ f. is_linear_factor f.factor (slice_get (rows_from list) f.atom)) fs) all in
      let parts = or_parts (eqb f.atom g.atom) (list_any (eqb f.atom) (map (λ h. h.atom) fs)) none in
      let there = placed g both.0 in
      or_from _ _ (ne_eqb (get_or (places_from 0 list) f.atom 0) (get_or (places_from 0 list) g.atom 0) (λ same. eqb-false f.atom g.atom parts.0 (apart there same))) (not_among f at fs both.1 parts.1) where
        place_of : (h : Factor) → (p : Placed h) → slice_get (places_from 0 list) h.atom ≡ Some (get_or (places_from 0 list) h.atom 0)
        place_of h p = p.there.at_place ∙ ap Some (sym (get_or_from_slice_get (places_from 0 list) h.atom (0 + p.there.place) 0 p.there.at_place))

        apart : Placed g → get_or (places_from 0 list) f.atom 0 ≡ get_or (places_from 0 list) g.atom 0 → f.atom ≡ g.atom
        apart there same = places_apart list 0 f.atom g.atom (get_or (places_from 0 list) f.atom 0) (place_of f at) (place_of g there ∙ ap Some (sym same))

  pub apart_same : (fs : List Factor) → AllFactors fs → are_apart (map (λ f. f.atom) fs) ≡ true → are_apart (map (λ f. f.atom) (map (moved (places_from 0 list)) fs)) ≡ true
  apart_same [] all h = refl
  apart_same (f ∷ fs) all h =
      let both = and_parts (is_linear_factor f.factor (slice_get (rows_from list) f.atom)) (list_all (λ f. is_linear_factor f.factor (slice_get (rows_from list) f.atom)) fs) all in
      let parts = and_parts (not (list_any (eqb f.atom) (map (λ g. g.atom) fs))) (are_apart (map (λ g. g.atom) fs)) h in
      and_from _ _ (not_from_false _ (not_among f (placed f both.0) fs both.1 (not-true _ parts.0))) (apart_same fs both.1 parts.1)

  -- ---- factors of rows that the code can hold

  abbrev pub AreRowsHeld : Type 0
  AreRowsHeld = (i : ℕ) (a : PureAtom) (r : Row) → slice_get list i ≡ Some a → row_of a ≡ Some r → is_held_row r ≡ true

  pub factors_same : AreRowsHeld → (fs : List Factor) → AllFactors fs → are_factors list (map (moved (places_from 0 list)) fs) ≡ true
  factors_same held [] all = refl
  factors_same held (f ∷ fs) all =
      let both = and_parts (is_linear_factor f.factor (slice_get (rows_from list) f.atom)) (list_all (λ f. is_linear_factor f.factor (slice_get (rows_from list) f.atom)) fs) all in
      and_from _ _ (one (placed f both.0) both.0) (factors_same held fs both.1) where
        one : Placed f → is_linear_factor f.factor (slice_get (rows_from list) f.atom) ≡ true → is_factor_of f.factor (row_at list (get_or (places_from 0 list) f.atom 0)) ≡ true
        one at is =
            let linear : (is_equality (relation_of at.there.row.is_equal) || int_lt (pos 0) f.factor) ≡ true = ap (λ (r : LinearRow). is_equality r.relation || int_lt (pos 0) f.factor) (sym at.there.is) ∙ ap (is_linear_factor f.factor) (sym at.at_row) ∙ is in
            ap (is_factor_of f.factor) at.at ∙ and_from _ _ (held at.there.place at.there.atom at.there.row at.there.at at.there.is_row) (ap (λ b. b || int_lt (pos 0) f.factor) (sym (equality_same at.there.row.is_equal)) ∙ linear)

  divides_back : (d : ℕ) (fs : List Factor) → DividesEach d (map (moved (places_from 0 list)) fs) → DividesEach d fs
  divides_back d [] h = h
  divides_back d (f ∷ fs) h = (h.0, divides_back d fs h.1)

  pub sum_closes : AreRowsHeld → (fs : List Factor) → IsCombination (rows_from list) fs → SumCloses list (map (moved (places_from 0 list)) fs)
  sum_closes held fs h = record {
    apart = apart_same fs h.factors h.apart;
    factors = factors_same held fs h.factors;
    constant = subst (λ n. pos 0 <ℤ n) (total_same (λ row. row.constant) (λ row. row.constant) (λ r. refl) fs h.factors) h.constant;
    variables = λ x. sym (total_same (linear_coefficient x) (coefficient x) (coefficient_same x) fs h.factors) ∙ h.variables x;
    no_divisor = λ d each. h.no_divisor d (divides_back d fs each);
    held_constant = sym (held_same (λ row. row.constant) (λ row. row.constant) (λ r. refl) fs h.factors) ∙ h.held_constant;
    held_variables = λ x. sym (held_same (linear_coefficient x) (coefficient x) (coefficient_same x) fs h.factors) ∙ h.held_variables x;
  }

  -- each row of an atom is one of the list
  pub row_listed : (i : ℕ) (a : PureAtom) (r : Row) → slice_get list i ≡ Some a → row_of a ≡ Some r → (k : ℕ) × (slice_get (rows_from list) k ≡ Some (linear_row r))
  row_listed i a r at is = listed list i at where
    before : (o : Option Row) (rows : List LinearRow) → (k : ℕ) × (slice_get rows k ≡ Some (linear_row r)) → (k : ℕ) × (slice_get (row_before o rows) k ≡ Some (linear_row r))
    before (Some s) rows (k, there) = (suc k, there)
    before None rows found = found

    listed : (xs : List PureAtom) (i : ℕ) → slice_get xs i ≡ Some a → (k : ℕ) × (slice_get (rows_from xs) k ≡ Some (linear_row r))
    listed [] i at = cc
    listed (x ∷ xs) zero at = (0, ap (λ o. slice_get (row_before o (rows_from xs)) 0) (ap row_of (same_Some x a at) ∙ is))
    listed (x ∷ xs) (suc i) at = before (row_of x) (rows_from xs) (listed xs i at)
