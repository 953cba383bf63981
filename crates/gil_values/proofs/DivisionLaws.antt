-- The textbook division is the one of `int_div` and `int_rem`.
use Rattle.std.proofs.Common.{◌≡◌, inl, inr, ℕ, zero, suc, ◌+◌, ◌*◌, ◌<◌, ◌≤◌, ℤ, pos, negsuc, ◌+ℤ◌, ◌*ℤ◌, ◌≤ℤ◌, Bool, true, false, if◌then◌else◌, Ok, Err, refl, sym, ap, subst, ◌∙◌, arith}
use Rattle.std.proofs.lemmas.Int.{ints, quot-rem, rem_below}
use Rattle.std.specs.Prelude.{unsigned_abs, int_div, int_rem}
use Rattle.std.proofs.Math.Nat.{mul-le-mul_right, add-mul, mod-le}
use Rattle.std.proofs.lemmas.Bool.{cases_order, false_from_ne_true, false≢true}
use Rattle.std.proofs.lemmas.Bool.Decides.{Decides-int_eq}
use Rattle.std.specs.Ordering.{int_eq}
use borrow.Author.Differences.{up, down}
use Rattle.gil_values.specs.Laws.{IsTruncatedDivision, DivisionTruncates}
use Rattle.gil_values.specs.Operators.{Outcome, zero_divisor}
use Rattle.gil_values.specs.Pure.{integer}

-- a greater factor makes the product greater by the other factor at least
greater_multiple : (p q b : ℕ) → p < q → p * b + b ≤ q * b
greater_multiple p q b h = let wide : suc p * b ≤ q * b = mul-le-mul_right b h in grind arith

-- two multiples of b that are less than b apart are equal
same_multiple : (p q b x y : ℕ) → p * b + x ≡ q * b + y → x < y + b → y < x + b → p ≡ q
same_multiple p q b x y e l r = elim (cases_order p q) [
  | inl same ↦ same
  | inr other ↦ elim other [
    | inl less ↦ let wide = greater_multiple p q b less in absurd (omega arith)
    | inr more ↦ let wide = greater_multiple q p b more in absurd (omega arith)
  ]
]

-- the remainder lies on the dividend's side of 0
int_rem-sign : (m n : ℤ) → (pos 0 ≤ℤ m → pos 0 ≤ℤ int_rem m n) × (m ≤ℤ pos 0 → int_rem m n ≤ℤ pos 0)
int_rem-sign (pos a) n = (λ h. omega (arith, ints), λ h. omega (arith, ints, mod-le a (unsigned_abs n)))
int_rem-sign (negsuc a) n = (λ h. absurd (omega (arith, ints)), λ h. omega (arith, ints))

-- on one side of 0, two numbers below b are less than b apart
abbrev AreClose : ℤ → ℤ → ℕ → Type 0
AreClose r s b = (up r + down s < up s + down r + b) × (up s + down r < up r + down s + b)

close : (m n q r p s : ℤ) → IsTruncatedDivision m n q r → IsTruncatedDivision m n p s → AreClose r s (unsigned_abs n)
close (pos a) n q r p s h k =
    let left : pos 0 ≤ℤ r = h.not_negative (omega (arith, ints)) in
    let right : pos 0 ≤ℤ s = k.not_negative (omega (arith, ints)) in
    let small = h.smaller in
    let other = k.smaller in
    (omega (arith, ints), omega (arith, ints))
close (negsuc a) n q r p s h k =
    let left : r ≤ℤ pos 0 = h.not_positive (omega (arith, ints)) in
    let right : s ≤ℤ pos 0 = k.not_positive (omega (arith, ints)) in
    let small = h.smaller in
    let other = k.smaller in
    (omega (arith, ints), omega (arith, ints))

-- one quotient alone has a remainder that is small and lies on the dividend's side
one_quotient : (m n q r p s : ℤ) → IsTruncatedDivision m n q r → IsTruncatedDivision m n p s → q ≡ p
one_quotient m (pos b) q r p s h k =
    let near = close m (pos b) q r p s h k in
    let e : (up q + down p) * b + (up r + down s) ≡ (up p + down q) * b + (up s + down r) = omega (arith, ints, h.whole, k.whole, add-mul (up q) (down p) b, add-mul (up p) (down q) b) in
    let same : up q + down p ≡ up p + down q = same_multiple _ _ b _ _ e near.0 near.1 in
    omega (arith, ints)
one_quotient m (negsuc b) q r p s h k =
    let near = close m (negsuc b) q r p s h k in
    let e : (up p + down q) * suc b + (up r + down s) ≡ (up q + down p) * suc b + (up s + down r) = omega (arith, ints, h.whole, k.whole, add-mul (up p) (down q) (suc b), add-mul (up q) (down p) (suc b)) in
    let same : up p + down q ≡ up q + down p = same_multiple _ _ (suc b) _ _ e near.0 near.1 in
    omega (arith, ints)

computed : (m n : ℤ) → 0 < unsigned_abs n → IsTruncatedDivision m n (int_div m n) (int_rem m n)
computed m n h = record {
  whole = quot-rem m n;
  smaller = rem_below m n h;
  not_negative = (int_rem-sign m n).0;
  not_positive = (int_rem-sign m n).1;
}

pub the_quotient : (m n q r : ℤ) → IsTruncatedDivision m n q r → q ≡ int_div m n
the_quotient m n q r h = one_quotient m n q r (int_div m n) (int_rem m n) h (computed m n (omega (arith, h.smaller)))

pub the_remainder : (m n q r : ℤ) → IsTruncatedDivision m n q r → r ≡ int_rem m n
the_remainder m n q r h =
    let whole : (int_div m n *ℤ n) +ℤ r ≡ m = ap (λ x. (x *ℤ n) +ℤ r) (sym (the_quotient m n q r h)) ∙ h.whole in
    omega (arith, ints, whole, quot-rem m n)

not_zero : (n : ℤ) → 0 < unsigned_abs n → int_eq n (pos 0) ≡ false
not_zero n h = false_from_ne_true _ (λ e. let same : n ≡ pos 0 = (Decides-int_eq n (pos 0)).0 e in omega (arith, ints))

away_from_zero : (n : ℤ) → (n ≡ pos 0 → ⊥) → 0 < unsigned_abs n
away_from_zero (pos zero) h = absurd (h refl)
away_from_zero (pos (suc k)) h = omega arith
away_from_zero (negsuc k) h = omega arith

abbrev answer : ℤ → Outcome
answer k = Ok (integer k)

abbrev guarded : Bool → ℤ → Outcome
guarded zero_is k = if zero_is then Err zero_divisor else answer k

over_zero : (m n q r : ℤ) (b : Bool) → int_eq n (pos 0) ≡ b → guarded b (int_div m n) ≡ answer q → guarded b (int_rem m n) ≡ answer r → IsTruncatedDivision m n q r
over_zero m n q r true z e f = absurd (cc)
over_zero m n q r false z e f =
    let quotient : int_div m n ≡ q = cc in
    let remainder : int_rem m n ≡ r = cc in
    let away : 0 < unsigned_abs n = away_from_zero n (λ same. false≢true (sym z ∙ (Decides-int_eq n (pos 0)).1 same)) in
    subst (λ x. IsTruncatedDivision m n x r) quotient (subst (IsTruncatedDivision m n (int_div m n)) remainder (computed m n away))

pub division_truncates : DivisionTruncates
division_truncates m n q r = (
  λ h. let away = not_zero n (omega (arith, h.smaller)) in (
    rw away (ap (λ x. Ok (integer x)) (sym (the_quotient m n q r h))),
    rw away (ap (λ x. Ok (integer x)) (sym (the_remainder m n q r h))),
  ),
  λ both. over_zero m n q r (int_eq n (pos 0)) refl both.0 both.1,
)
