-- The sums of the checker are those of the table.
use Prim.Native.Nat.{◌∣◌}
use Rattle.std.proofs.Common.{◌≡◌, ◌↔◌, ⊎_elim, ◌⊎◌, inl, inr, ℕ, ℤ, pos, ◌+ℤ◌, ◌-ℤ◌, ◌*ℤ◌, ◌<ℤ◌, List, [], ◌∷◌, Bool, true, false, ◌&&◌, if◌then◌else◌, Option, Some, None, eqb, refl, sym, ap, ◌∙◌, subst, arith, take, drop, length, get_or, ◌-◌, ◌≤◌}
use Rattle.std.specs.Prelude.{int_lt, unsigned_abs}
use Rattle.std.specs.Int.{IsGcd}
use Rattle.std.proofs.Math.IntN.{*ℤ-zero}
use Rattle.std.proofs.lemmas.Bool.{false≢true, and_parts, and_from, eqb-true}
use Rattle.std.proofs.lemmas.Bool.Decides.{Decides-int_eq}
use Rattle.std.proofs.lemmas.Int.{ints}
use Rattle.std.proofs.lemmas.Nat.Gcd.{dvd_refl, dvd-zero, dvd_trans, dvd_antisymm}
use Rattle.std.proofs.Math.Nat.{one-dvd}
use Rattle.std.proofs.lemmas.Grind.{common_steps}
use Rattle.pure_terms.specs.Numbers.{is_held}
use Rattle.pure_terms.specs.Pure.{PureAtom}
use Rattle.solver_proof.specs.declared.proofs.Factor.{Factor}
use Rattle.solver_proof.specs.declared.sums.Part.{Part}
use Rattle.solver_proof.specs.Rows.{held_row, part_of, held_number, held_sum, row_product, sum_of_rows, is_zero, is_positive, variable_cancels, row_cancels, cancel_rows, IsCommonDivisor}
use Rattle.solver_proof.specs.Sums.{Row, row_at, of_row, total, one_if_variable, coefficient, is_held_row, is_factor_of, are_factors, DividesEach, is_held_total}

-- ---- divisors

pub divides-each : (fs : List Factor) (g d : ℕ) → IsCommonDivisor fs g → (d ∣ g) ↔ DividesEach d fs
divides-each [] g d is = (λ _. tt, λ _. subst (λ n. d ∣ n) (sym is) (dvd-zero d))
divides-each (f ∷ fs) g d (h, (rest, gcd)) =
    let both = divides-each fs h d rest in
    (λ divides. (dvd_trans d divides gcd.0, both.0 (dvd_trans d divides gcd.1)), λ each. gcd.2 d each.0 (both.1 each.1))

pub no_divisor-one : (fs : List Factor) (g : ℕ) → IsCommonDivisor fs g → g ≡ 1 → (d : ℕ) → DividesEach d fs → d ≡ 1
no_divisor-one fs g is one d each = dvd_antisymm (subst (λ n. d ∣ n) one ((divides-each fs g d is).1 each)) (one-dvd d)

pub one-no_divisor : (fs : List Factor) (g : ℕ) → IsCommonDivisor fs g → ((d : ℕ) → DividesEach d fs → d ≡ 1) → g ≡ 1
one-no_divisor fs g is none = none g ((divides-each fs g g is).0 (dvd_refl g))

-- a slice's first factor, and those after it
first_and_rest : (f : Factor) (fs : List Factor) → take (length (f ∷ fs) - 1) (drop 1 (f ∷ fs)) ≡ fs
first_and_rest f fs = grind (arith, common_steps)

pub joined_divisor : (fs : List Factor) (d : Factor) (h g : ℕ) → 1 ≤ length fs → IsCommonDivisor (take (length fs - 1) (drop 1 fs)) h → IsGcd (unsigned_abs (get_or fs 0 d).factor) h g → IsCommonDivisor fs g
joined_divisor [] d h g least rest gcd = absurd (omega (arith, least))
joined_divisor (f ∷ fs) d h g least rest gcd = (h, (subst (λ xs. IsCommonDivisor xs h) (first_and_rest f fs) rest, gcd))

-- ---- sums

held_both : (m n : ℤ) (a b c : Bool) → is_held m ≡ a → is_held (m +ℤ n) ≡ b → held_sum (if a then Some m else None) (if c then Some n else None) ≡ (if a && (b && c) then Some (m +ℤ n) else None)
held_both m n true b true is_a is_b = ap (λ (e : Bool). if e then Some (m +ℤ n) else None) is_b ∙ same_and b where
  same_and : (b : Bool) → (if b then Some (m +ℤ n) else None) ≡ (if true && (b && true) then Some (m +ℤ n) else None)
  same_and true = refl
  same_and false = refl
held_both m n true true false is_a is_b = refl
held_both m n true false false is_a is_b = refl
held_both m n false b c is_a is_b = refl

product_is : (part : Row → ℤ) (f : ℤ) (o : Option Row) → is_factor_of f o ≡ true → row_product part f (held_row o) ≡ held_number (of_row part f o)
product_is part f (Some row) allowed = ap (row_product part f) (ap (λ (b : Bool). if b then Some row else None) (and_parts (is_held_row row) _ allowed).0)
product_is part f None allowed = absurd (false≢true allowed)

-- the sum of the checker is the table's, where the numbers on the way are held
pub sum-is : (atoms : List PureAtom) (part : Row → ℤ) (fs : List Factor) → are_factors atoms fs ≡ true → sum_of_rows atoms part fs ≡ (if is_held_total atoms part fs then Some (total atoms part fs) else None)
sum-is atoms part [] allowed = refl
sum-is atoms part (f ∷ fs) allowed =
    let parts = and_parts (is_factor_of f.factor (row_at atoms f.atom)) (are_factors atoms fs) allowed in
    let first = product_is part f.factor (row_at atoms f.atom) parts.0 in
    let rest = sum-is atoms part fs parts.1 in
    (λ i. held_sum (first i) (rest i))
    ∙ held_both (of_row part f.factor (row_at atoms f.atom)) (total atoms part fs) _ _ (is_held_total atoms part fs) refl refl

if_some : (b : Bool) (m n : ℤ) → (if b then Some m else None) ≡ Some n → (b ≡ true) × (m ≡ n)
if_some true m n e = (refl, cc)
if_some false m n e = cc

zero_there : (o : Option ℤ) → is_zero o ≡ true → o ≡ Some (pos 0)
zero_there (Some n) h = ap Some ((Decides-int_eq n (pos 0)).0 h)
zero_there None h = absurd (false≢true h)

-- the coefficient of a variable vanishes in the sum
abbrev pub Vanishes : List PureAtom → List Factor → ℕ → Type 0
Vanishes atoms fs x = (is_held_total atoms (coefficient x) fs ≡ true) × (total atoms (coefficient x) fs ≡ pos 0)

from_zero : (atoms : List PureAtom) (fs : List Factor) (x : ℕ) → are_factors atoms fs ≡ true → is_zero (sum_of_rows atoms (part_of (Part.Coefficient x)) fs) ≡ true → Vanishes atoms fs x
from_zero atoms fs x allowed zero_is =
    if_some (is_held_total atoms (coefficient x) fs) (total atoms (coefficient x) fs) (pos 0) (sym (sum-is atoms (coefficient x) fs allowed) ∙ zero_there (sum_of_rows atoms (coefficient x) fs) zero_is)

to_zero : (atoms : List PureAtom) (fs : List Factor) (x : ℕ) → are_factors atoms fs ≡ true → Vanishes atoms fs x → is_zero (sum_of_rows atoms (part_of (Part.Coefficient x)) fs) ≡ true
to_zero atoms fs x allowed vanishes =
    ap is_zero (sum-is atoms (coefficient x) fs allowed) ∙ (λ i. is_zero (if vanishes.0 i then Some (vanishes.1 i) else None))

-- ---- variables

variable_to : (atoms : List PureAtom) (fs : List Factor) (o : Option ℕ) → are_factors atoms fs ≡ true → ((x : ℕ) → Vanishes atoms fs x) → variable_cancels atoms fs o ≡ true
variable_to atoms fs (Some x) allowed all = to_zero atoms fs x allowed (all x)
variable_to atoms fs None allowed all = refl

row_to : (atoms : List PureAtom) (fs : List Factor) (o : Option Row) → are_factors atoms fs ≡ true → ((x : ℕ) → Vanishes atoms fs x) → row_cancels atoms fs o ≡ true
row_to atoms fs (Some row) allowed all = and_from _ _ (variable_to atoms fs row.plus allowed all) (variable_to atoms fs row.minus allowed all)
row_to atoms fs None allowed all = refl

pub cancel_to : (atoms : List PureAtom) (fs some : List Factor) → are_factors atoms fs ≡ true → ((x : ℕ) → Vanishes atoms fs x) → cancel_rows atoms fs some ≡ true
cancel_to atoms fs [] allowed all = refl
cancel_to atoms fs (f ∷ some) allowed all = and_from _ _ (row_to atoms fs (held_row (row_at atoms f.atom)) allowed all) (cancel_to atoms fs some allowed all)

-- the variable stands in none of the rows
abbrev AllZero : List PureAtom → ℕ → List Factor → Type 0
AllZero atoms x [] = Unit {0}
AllZero atoms x (f ∷ fs) = (of_row (coefficient x) f.factor (row_at atoms f.atom) ≡ pos 0) × AllZero atoms x fs

held_zero : (n : ℤ) → n ≡ pos 0 → is_held n ≡ true
held_zero n e = ap is_held e

sum_zero : (m n : ℤ) → m ≡ pos 0 → n ≡ pos 0 → m +ℤ n ≡ pos 0
sum_zero m n e f = omega (arith, ints, e, f)

from_all_zero : (atoms : List PureAtom) (x : ℕ) (fs : List Factor) → AllZero atoms x fs → Vanishes atoms fs x
from_all_zero atoms x [] all = (refl, refl)
from_all_zero atoms x (f ∷ fs) all =
    let rest = from_all_zero atoms x fs all.1 in
    let whole : total atoms (coefficient x) (f ∷ fs) ≡ pos 0 = sum_zero _ _ all.0 rest.1 in
    (and_from _ _ (held_zero _ all.0) (and_from _ _ (held_zero _ whole) rest.0), whole)

-- the variable is one that was tested, or it isn't that of the row
one_or_zero : (atoms : List PureAtom) (fs : List Factor) (x : ℕ) (o : Option ℕ) → variable_cancels atoms fs o ≡ true → (is_zero (sum_of_rows atoms (part_of (Part.Coefficient x)) fs) ≡ true) ⊎ (one_if_variable x o ≡ pos 0)
one_or_zero atoms fs x (Some y) tested = by_test (eqb x y) refl where
  by_test : (b : Bool) → eqb x y ≡ b → (is_zero (sum_of_rows atoms (part_of (Part.Coefficient x)) fs) ≡ true) ⊎ ((if b then pos 1 else pos 0) ≡ pos 0)
  by_test true same = inl (subst (λ z. is_zero (sum_of_rows atoms (part_of (Part.Coefficient z)) fs) ≡ true) (sym (eqb-true x y same)) tested)
  by_test false same = inr refl
one_or_zero atoms fs x None tested = inr refl

no_difference : (m n : ℤ) → m ≡ pos 0 → n ≡ pos 0 → m -ℤ n ≡ pos 0
no_difference m n e f = omega (arith, ints, e, f)

row_or_zero : (atoms : List PureAtom) (fs : List Factor) (x : ℕ) (f : ℤ) (o : Option Row) → is_factor_of f o ≡ true → row_cancels atoms fs (held_row o) ≡ true
    → (is_zero (sum_of_rows atoms (part_of (Part.Coefficient x)) fs) ≡ true) ⊎ (of_row (coefficient x) f o ≡ pos 0)
row_or_zero atoms fs x f (Some row) allowed tested =
    let held : is_held_row row ≡ true = (and_parts (is_held_row row) _ allowed).0 in
    let parts = and_parts (variable_cancels atoms fs row.plus) (variable_cancels atoms fs row.minus) (sym (ap (λ (b : Bool). row_cancels atoms fs (if b then Some row else None)) held) ∙ tested) in
    ⊎_elim inl
    (λ plus. ⊎_elim inl
    (λ minus. inr (ap (λ z. f *ℤ z) (no_difference _ _ plus minus) ∙ *ℤ-zero f))
    (one_or_zero atoms fs x row.minus parts.1))
    (one_or_zero atoms fs x row.plus parts.0)
row_or_zero atoms fs x f None allowed tested = inr refl

each_or_zero : (atoms : List PureAtom) (fs some : List Factor) (x : ℕ) → are_factors atoms some ≡ true → cancel_rows atoms fs some ≡ true
    → (is_zero (sum_of_rows atoms (part_of (Part.Coefficient x)) fs) ≡ true) ⊎ AllZero atoms x some
each_or_zero atoms fs [] x allowed tested = inr tt
each_or_zero atoms fs (f ∷ some) x allowed tested =
    let factors = and_parts (is_factor_of f.factor (row_at atoms f.atom)) (are_factors atoms some) allowed in
    let tests = and_parts (row_cancels atoms fs (held_row (row_at atoms f.atom))) (cancel_rows atoms fs some) tested in
    ⊎_elim inl
    (λ here. ⊎_elim inl (λ rest. inr (here, rest)) (each_or_zero atoms fs some x factors.1 tests.1))
    (row_or_zero atoms fs x f.factor (row_at atoms f.atom) factors.0 tests.0)

pub cancel_from : (atoms : List PureAtom) (fs : List Factor) (x : ℕ) → are_factors atoms fs ≡ true → cancel_rows atoms fs fs ≡ true → Vanishes atoms fs x
cancel_from atoms fs x allowed tested =
    ⊎_elim (from_zero atoms fs x allowed) (from_all_zero atoms x fs) (each_or_zero atoms fs fs x allowed tested)

-- ---- the constant

positive_there : (o : Option ℤ) → is_positive o ≡ true → (n : ℤ) × ((o ≡ Some n) × (int_lt (pos 0) n ≡ true))
positive_there (Some n) h = (n, (refl, h))
positive_there None h = absurd (false≢true h)

above_zero : (n : ℤ) → int_lt (pos 0) n ≡ true → pos 0 <ℤ n
above_zero n h = omega (arith, ints, h)

pub positive_from : (atoms : List PureAtom) (fs : List Factor) → are_factors atoms fs ≡ true → is_positive (sum_of_rows atoms (part_of Part.Constant) fs) ≡ true
    → (is_held_total atoms (λ row. row.constant) fs ≡ true) × (pos 0 <ℤ total atoms (λ row. row.constant) fs)
positive_from atoms fs allowed h =
    let (n, (is, above)) = positive_there (sum_of_rows atoms (part_of Part.Constant) fs) h in
    let both = if_some (is_held_total atoms (λ row. row.constant) fs) (total atoms (λ row. row.constant) fs) n (sym (sum-is atoms (λ row. row.constant) fs allowed) ∙ is) in
    (both.0, subst (λ z. pos 0 <ℤ z) (sym both.1) (above_zero n above))

from_above : (n : ℤ) (b : Bool) → int_lt (pos 0) n ≡ b → pos 0 <ℤ n → b ≡ true
from_above n true is h = refl
from_above n false is h = absurd (omega (arith, ints, is, h))

pub positive_to : (atoms : List PureAtom) (fs : List Factor) → are_factors atoms fs ≡ true → is_held_total atoms (λ row. row.constant) fs ≡ true → pos 0 <ℤ total atoms (λ row. row.constant) fs
    → is_positive (sum_of_rows atoms (part_of Part.Constant) fs) ≡ true
positive_to atoms fs allowed held above =
    ap is_positive (sum-is atoms (λ row. row.constant) fs allowed ∙ ap (λ (b : Bool). if b then Some (total atoms (λ row. row.constant) fs) else None) held)
    ∙ from_above (total atoms (λ row. row.constant) fs) _ refl above
