-- Rows of plain atoms are narrow differences over the table, which the code can hold.
use Rattle.std.proofs.Common.{◌≡◌, ℕ, zero, suc, ◌-◌, ◌^◌, ℤ, pos, neg_ℤ, ◌+ℤ◌, ◌-ℤ◌, ◌≤ℤ◌, List, ◌++◌, Bool, true, false, if◌then◌else◌, Option, Some, None, slice_get, refl, sym, ap, ◌∙◌, subst, arith}
use Rattle.std.specs.Prelude.{int_le, All}
use Rattle.std.proofs.lemmas.Bool.{and_parts, and_from}
use Rattle.std.proofs.lemmas.Int.{ints}
use Rattle.std.proofs.lemmas.Option.{same_Some}
use Rattle.gil_values.specs.declared.operators.BinOp.{BinOp}
use Rattle.pure_terms.specs.declared.literals.Literal.{Literal}
use Rattle.pure_terms.specs.declared.variables.Sort.{Sort}
use Rattle.pure_terms.specs.EqualityLaws.{same_sorts}
use Rattle.pure_terms.specs.Fragment.{has_literals_between}
use Rattle.pure_terms.specs.Kinds.{same_sort}
use Rattle.pure_terms.specs.Meaning.{IsOver}
use Rattle.pure_terms.specs.Numbers.{is_between, is_held}
use Rattle.pure_terms.specs.Pure.{PureTerm, literal, variable, list_of, unary_of, binary_of, PureAtom, positive, negative, opening, variables}
use Rattle.pure_terms.proofs.KindLaws.{over_left, over_variable}
use Rattle.solver_proof.specs.Sums.{Side, Row, side_of, variable_side, integer_variable, integer_of, shifted_side, opposite_of, difference, row_of}
use Rattle.solver_proof.proofs.Truths.{over_sides}
use Rattle.linear_core.specs.declared.rows.Coefficient.{Coefficient}
use Rattle.linear_core.specs.declared.rows.Row.{Row as LinearRow}
use Rattle.linear_core.specs.Differences.{are_of_difference, is_narrow_difference}
use Rattle.linear_core.specs.Rows.{AreOver}
use Rattle.linear_core.proofs.Meeting.{all_from}
use Rattle.solver_rules.specs.Rows.{part_of, rows_from}
use Rattle.solver_rules.specs.Sides.{IsNarrow}
use Rattle.solver_rules.specs.Steps.{IsPlainAtom, ArePlain}
use Rattle.solver_rules.proofs.RowSums.{row_there, AreRowsHeld}

known : (m n : ℤ) → int_le m n ≡ true → m ≤ℤ n
known m n h = grind (arith, ints)

tested : (m n : ℤ) → m ≤ℤ n → int_le m n ≡ true
tested m n h = grind (arith, ints)

record Near (m : ℤ) : Type 0 where
  low : neg_ℤ (pos (2 ^ 80)) ≤ℤ m
  high : m ≤ℤ pos (2 ^ 80)

near : (m : ℤ) → is_between (neg_ℤ (pos (2 ^ 80))) (pos (2 ^ 80)) m ≡ true → Near m
near m h = let both = and_parts (int_le (neg_ℤ (pos (2 ^ 80))) m) (int_le m (pos (2 ^ 80))) h in record { low = known (neg_ℤ (pos (2 ^ 80))) m both.0; high = known m (pos (2 ^ 80)) both.1 }

near_zero : Near (pos 0)
near_zero = record { low = omega (arith, ints); high = omega (arith, ints) }

near_opposite : (m : ℤ) → Near m → Near (neg_ℤ m)
near_opposite m h = let low : neg_ℤ (pos (2 ^ 80)) ≤ℤ m = h.low in let high : m ≤ℤ pos (2 ^ 80) = h.high in record { low = omega (arith, ints); high = omega (arith, ints) }

record SideFits (vars : List Sort) (s : Side) : Type 0 where
  plus : Near s.plus
  of : (x : ℕ) → s.of ≡ Some x → slice_get vars x ≡ Some Sort.Int

if_number : (b : Bool) (x y : ℕ) → (if b then Some x else None) ≡ Some y → (b ≡ true) × (x ≡ y)
if_number true x y is = (refl, same_Some x y is)
if_number false x y is = cc

int_of : (vars : List Sort) (t : PureTerm) (x : ℕ) → IsOver vars t → integer_variable t ≡ Some x → slice_get vars x ≡ Some Sort.Int
int_of vars (variable y) x over is =
    let both = if_number (same_sort y.sort Sort.Int) y.number x is in
    ap (slice_get vars) (sym both.1) ∙ over_variable vars y over ∙ ap Some (same_sorts y.sort Sort.Int both.0)
int_of vars (literal l) x over is = cc
int_of vars (list_of ts) x over is = cc
int_of vars (unary_of op t) x over is = cc
int_of vars (binary_of op s t) x over is = cc

number_of : (t : PureTerm) (n : ℤ) → IsNarrow t → integer_of t ≡ Some n → Near n
number_of (literal (Literal.Int m)) n narrow is = subst Near (same_Some m n is) (near m narrow)
number_of (literal (Literal.Bool b)) n narrow is = cc
number_of (literal (Literal.Str cs)) n narrow is = cc
number_of (literal (Literal.Kind k)) n narrow is = cc
number_of (literal (Literal.Proc name)) n narrow is = cc
number_of (variable x) n narrow is = cc
number_of (list_of ts) n narrow is = cc
number_of (unary_of op t) n narrow is = cc
number_of (binary_of op s t) n narrow is = cc

opposite_number : (o : Option ℤ) (n : ℤ) → opposite_of o ≡ Some n → ((m : ℤ) → o ≡ Some m → Near m) → Near n
opposite_number (Some m) n is each = subst Near (same_Some (neg_ℤ m) n is) (near_opposite m (each m refl))
opposite_number None n is each = cc

if_side : (b : Bool) (s t : Side) → (if b then Some s else None) ≡ Some t → s ≡ t
if_side true s t is = same_Some s t is
if_side false s t is = cc

shifted_fits : (vars : List Sort) (o : Option ℕ) (p : Option ℤ) (s : Side) → shifted_side o p ≡ Some s → ((x : ℕ) → o ≡ Some x → slice_get vars x ≡ Some Sort.Int) → ((n : ℤ) → p ≡ Some n → Near n) → SideFits vars s
shifted_fits vars (Some x) (Some n) s is whole close = subst (SideFits vars) (if_side (is_held n) (record { of = Some x; plus = n }) s is) (record { plus = close n refl; of = λ y e. whole y e })
shifted_fits vars None p s is whole close = cc
shifted_fits vars (Some x) None s is whole close = cc

variable_fits : (vars : List Sort) (o : Option ℕ) (s : Side) → variable_side o ≡ Some s → ((x : ℕ) → o ≡ Some x → slice_get vars x ≡ Some Sort.Int) → SideFits vars s
variable_fits vars (Some x) s is whole = subst (SideFits vars) (same_Some (record { of = Some x; plus = pos 0 }) s is) (record { plus = near_zero; of = λ y e. whole y e })
variable_fits vars None s is whole = cc

no_variable : (x : ℕ) → None ≡ Some x → {P : Type 0} → P
no_variable x e = cc

side_fits : (vars : List Sort) (t : PureTerm) (s : Side) → IsOver vars t → IsNarrow t → side_of t ≡ Some s → SideFits vars s
side_fits vars (literal (Literal.Int n)) s over narrow is = subst (SideFits vars) (same_Some (record { of = None; plus = n }) s is) (record { plus = near n narrow; of = λ x e. no_variable x e })
side_fits vars (literal (Literal.Bool b)) s over narrow is = cc
side_fits vars (literal (Literal.Str cs)) s over narrow is = cc
side_fits vars (literal (Literal.Kind k)) s over narrow is = cc
side_fits vars (literal (Literal.Proc name)) s over narrow is = cc
side_fits vars (variable x) s over narrow is = variable_fits vars (integer_variable (variable x)) s is (λ y e. int_of vars (variable x) y over e)
side_fits vars (binary_of BinOp.Add t u) s over narrow is =
    let narrows = and_parts (has_literals_between (neg_ℤ (pos (2 ^ 80))) (pos (2 ^ 80)) t) (has_literals_between (neg_ℤ (pos (2 ^ 80))) (pos (2 ^ 80)) u) narrow in
    shifted_fits vars (integer_variable t) (integer_of u) s is (λ x e. int_of vars t x (over_left vars (variables t) (variables u) over) e) (λ n e. number_of u n narrows.1 e)
side_fits vars (binary_of BinOp.Subtract t u) s over narrow is =
    let narrows = and_parts (has_literals_between (neg_ℤ (pos (2 ^ 80))) (pos (2 ^ 80)) t) (has_literals_between (neg_ℤ (pos (2 ^ 80))) (pos (2 ^ 80)) u) narrow in
    shifted_fits vars (integer_variable t) (opposite_of (integer_of u)) s is (λ x e. int_of vars t x (over_left vars (variables t) (variables u) over) e) (λ n e. opposite_number (integer_of u) n e (λ m f. number_of u m narrows.1 f))
side_fits vars (binary_of op t u) s over narrow is = cc
side_fits vars (list_of ts) s over narrow is = cc
side_fits vars (unary_of op t) s over narrow is = cc

pub record RowFits (vars : List Sort) (r : Row) : Type 0 where
  pub low : neg_ℤ (pos (2 ^ 82)) ≤ℤ r.constant
  pub high : r.constant ≤ℤ pos (2 ^ 82)
  pub plus : (x : ℕ) → r.plus ≡ Some x → slice_get vars x ≡ Some Sort.Int
  pub minus : (x : ℕ) → r.minus ≡ Some x → slice_get vars x ≡ Some Sort.Int

sides_fit : (vars : List Sort) (o p : Option Side) (more : ℤ) (is_equal : Bool) (r : Row) → pos 0 ≤ℤ more → more ≤ℤ pos 1 → difference o p more is_equal ≡ Some r → ((s : Side) → o ≡ Some s → SideFits vars s) → ((s : Side) → p ≡ Some s → SideFits vars s) → RowFits vars r
sides_fit vars (Some s) (Some t) more is_equal r least most is one two =
    let a = one s refl in
    let b = two t refl in
    let low_a : neg_ℤ (pos (2 ^ 80)) ≤ℤ s.plus = a.plus.low in
    let high_a : s.plus ≤ℤ pos (2 ^ 80) = a.plus.high in
    let low_b : neg_ℤ (pos (2 ^ 80)) ≤ℤ t.plus = b.plus.low in
    let high_b : t.plus ≤ℤ pos (2 ^ 80) = b.plus.high in
    subst (RowFits vars) (same_Some (record { plus = s.of; minus = t.of; constant = (s.plus -ℤ t.plus) +ℤ more; is_equal = is_equal }) r is)
    (record { low = omega (arith, ints); high = omega (arith, ints); plus = a.of; minus = b.of })
sides_fit vars (Some s) None more is_equal r least most is one two = cc
sides_fit vars None p more is_equal r least most is one two = cc

terms_fit : (vars : List Sort) (op : BinOp) (s t : PureTerm) (more : ℤ) (is_equal : Bool) (r : Row) → pos 0 ≤ℤ more → more ≤ℤ pos 1 → IsOver vars s × IsOver vars t → IsNarrow s × IsNarrow t → difference (side_of s) (side_of t) more is_equal ≡ Some r → RowFits vars r
terms_fit vars op s t more is_equal r least most over narrow is = sides_fit vars (side_of s) (side_of t) more is_equal r least most is (λ u e. side_fits vars s u over.0 narrow.0 e) (λ u e. side_fits vars t u over.1 narrow.1 e)

zero_least : pos 0 ≤ℤ pos 0
zero_least = omega (arith, ints)

zero_most : pos 0 ≤ℤ pos 1
zero_most = omega (arith, ints)

one_most : pos 1 ≤ℤ pos 1
one_most = omega (arith, ints)

narrow_sides : (op : BinOp) (s t : PureTerm) → has_literals_between (neg_ℤ (pos (2 ^ 80))) (pos (2 ^ 80)) (binary_of op s t) ≡ true → IsNarrow s × IsNarrow t
narrow_sides op s t h = and_parts (has_literals_between (neg_ℤ (pos (2 ^ 80))) (pos (2 ^ 80)) s) (has_literals_between (neg_ℤ (pos (2 ^ 80))) (pos (2 ^ 80)) t) h

flipped : {P Q : Type 0} → P × Q → Q × P
flipped (p, q) = (q, p)

pub row_fits : (vars : List Sort) (a : PureAtom) (r : Row) → IsPlainAtom vars a → row_of a ≡ Some r → RowFits vars r
row_fits vars (positive (binary_of BinOp.LessOrEqual s t)) r h is = terms_fit vars BinOp.LessOrEqual s t (pos 0) false r zero_least zero_most (over_sides vars BinOp.LessOrEqual s t h.over) (narrow_sides BinOp.LessOrEqual s t h.literals) is
row_fits vars (positive (binary_of BinOp.Less s t)) r h is = terms_fit vars BinOp.Less s t (pos 1) false r zero_most one_most (over_sides vars BinOp.Less s t h.over) (narrow_sides BinOp.Less s t h.literals) is
row_fits vars (positive (binary_of BinOp.Equal s t)) r h is = terms_fit vars BinOp.Equal s t (pos 0) true r zero_least zero_most (over_sides vars BinOp.Equal s t h.over) (narrow_sides BinOp.Equal s t h.literals) is
row_fits vars (negative (binary_of BinOp.LessOrEqual s t)) r h is = terms_fit vars BinOp.LessOrEqual t s (pos 1) false r zero_most one_most (flipped (over_sides vars BinOp.LessOrEqual s t h.over)) (flipped (narrow_sides BinOp.LessOrEqual s t h.literals)) is
row_fits vars (negative (binary_of BinOp.Less s t)) r h is = terms_fit vars BinOp.Less t s (pos 0) false r zero_least zero_most (flipped (over_sides vars BinOp.Less s t h.over)) (flipped (narrow_sides BinOp.Less s t h.literals)) is
row_fits vars (positive t) r h is = cc
row_fits vars (negative t) r h is = cc
row_fits vars (opening t) r h is = cc

-- ---- rows for the procedure

differences_narrow : (o p : Option ℕ) → are_of_difference (part_of (pos 1) o ++ part_of (neg_ℤ (pos 1)) p) ≡ true
differences_narrow (Some x) (Some y) = refl
differences_narrow (Some x) None = refl
differences_narrow None (Some y) = refl
differences_narrow None None = refl

parts_over : (vars : List Sort) (o p : Option ℕ) → ((x : ℕ) → o ≡ Some x → slice_get vars x ≡ Some Sort.Int) → ((x : ℕ) → p ≡ Some x → slice_get vars x ≡ Some Sort.Int) → All (λ c. slice_get vars c.variable ≡ Some Sort.Int) (part_of (pos 1) o ++ part_of (neg_ℤ (pos 1)) p)
parts_over vars o p one two = all_from (λ (c : Coefficient). slice_get vars c.variable ≡ Some Sort.Int) (part_of (pos 1) o ++ part_of (neg_ℤ (pos 1)) p) (each o p one two) where
  each : (o p : Option ℕ) → ((x : ℕ) → o ≡ Some x → slice_get vars x ≡ Some Sort.Int) → ((x : ℕ) → p ≡ Some x → slice_get vars x ≡ Some Sort.Int) → (i : ℕ) (c : Coefficient) → slice_get (part_of (pos 1) o ++ part_of (neg_ℤ (pos 1)) p) i ≡ Some c → slice_get vars c.variable ≡ Some Sort.Int
  each (Some x) p one two zero c at = ap (λ (c : Coefficient). slice_get vars c.variable) (sym (same_Some (record { variable = x; factor = pos 1 }) c at)) ∙ one x refl
  each (Some x) (Some y) one two (suc zero) c at = ap (λ (c : Coefficient). slice_get vars c.variable) (sym (same_Some (record { variable = y; factor = neg_ℤ (pos 1) }) c at)) ∙ two y refl
  each (Some x) (Some y) one two (suc (suc i)) c at = cc
  each (Some x) None one two (suc i) c at = cc
  each None (Some y) one two zero c at = ap (λ (c : Coefficient). slice_get vars c.variable) (sym (same_Some (record { variable = y; factor = neg_ℤ (pos 1) }) c at)) ∙ two y refl
  each None (Some y) one two (suc i) c at = cc
  each None None one two i c at = cc

module _ (vars : List Sort) (list : List PureAtom) (plain : ArePlain vars list) where
  pub rows_over : AreOver vars (rows_from list)
  rows_over = all_from (λ (row : LinearRow). All (λ c. slice_get vars c.variable ≡ Some Sort.Int) row.coefficients) (rows_from list) each where
    each : (i : ℕ) (row : LinearRow) → slice_get (rows_from list) i ≡ Some row → All (λ c. slice_get vars c.variable ≡ Some Sort.Int) row.coefficients
    each i row at =
        let there = row_there list 0 i row at in
        let fits = row_fits vars there.atom there.row (plain there.place there.atom there.at) there.is_row in
        subst (λ (r : LinearRow). All (λ c. slice_get vars c.variable ≡ Some Sort.Int) r.coefficients) (sym there.is) (parts_over vars there.row.plus there.row.minus fits.plus fits.minus)

  pub rows_narrow : (i : ℕ) (row : LinearRow) → slice_get (rows_from list) i ≡ Some row → is_narrow_difference row ≡ true
  rows_narrow i row at =
      let there = row_there list 0 i row at in
      let fits = row_fits vars there.atom there.row (plain there.place there.atom there.at) there.is_row in
      ap is_narrow_difference there.is ∙ and_from _ _ (differences_narrow there.row.plus there.row.minus) (and_from _ _ (tested (neg_ℤ (pos (2 ^ 82))) there.row.constant fits.low) (tested there.row.constant (pos (2 ^ 82)) fits.high))

  pub rows_held : AreRowsHeld list
  rows_held i a r at is =
      let fits = row_fits vars a r (plain i a at) is in
      let low : neg_ℤ (pos (2 ^ 82)) ≤ℤ r.constant = fits.low in
      let high : r.constant ≤ℤ pos (2 ^ 82) = fits.high in
      and_from _ _ (and_from _ _ (tested (neg_ℤ (pos (2 ^ 127))) r.constant (omega (arith, ints))) (tested r.constant (pos (2 ^ 127 - 1)) (omega (arith, ints))))
      (and_from _ _ (tested (neg_ℤ (pos (2 ^ 127))) (neg_ℤ r.constant) (omega (arith, ints))) (tested (neg_ℤ r.constant) (pos (2 ^ 127 - 1)) (omega (arith, ints))))
