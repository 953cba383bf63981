-- What a byte of one class isn't.
use Rattle.std.proofs.Common.{◌≡◌, ◌≢◌, ◌⊎◌, ℕ, ◌≤◌, true, false, eqb, arith, inl, inr}
use Rattle.std.specs.Char.{is_ascii_digit}
use Rattle.std.specs.Int.{is_in_range}
use Rattle.std.proofs.lemmas.Bool.{cases_Bool, and_parts, or_cases, ne_eqb, eqb-true, leb-true}
use Rattle.gil_lexer.specs.Bytes.{quote, hash, minus, at_sign, is_name_start, is_printable}

-- a name's first byte is none of these
pub record IsNoMark (b : ℕ) : Type 0 where
  pub quote : eqb b quote ≡ false
  pub hash : eqb b hash ≡ false
  pub at_sign : eqb b at_sign ≡ false
  pub minus : eqb b minus ≡ false

no_mark : (b : ℕ) → b ≢ 34 → b ≢ 35 → b ≢ 64 → b ≢ 45 → IsNoMark b
no_mark b q h a m = record { quote = ne_eqb b 34 q; hash = ne_eqb b 35 h; at_sign = ne_eqb b 64 a; minus = ne_eqb b 45 m }

in_range : (low high b : ℕ) → is_in_range low high b ≡ true → (low ≤ b) × (b ≤ high)
in_range low high b e = let parts = and_parts _ _ e in (leb-true _ _ parts.0, leb-true _ _ parts.1)

not_in_range : (low high b : ℕ) → ((low ≤ b) → (b ≤ high) → ⊥) → is_in_range low high b ≡ false
not_in_range low high b apart =
    elim (cases_Bool (is_in_range low high b)) [
      | inl within ↦ let r = in_range low high b within in absurd (apart r.0 r.1)
      | inr outside ↦ outside
    ]

-- where a name's first byte stands in ASCII
pub name_start_range : (b : ℕ) → is_name_start b ≡ true → ((65 ≤ b) × (b ≤ 90)) ⊎ (((97 ≤ b) × (b ≤ 122)) ⊎ (b ≡ 95))
name_start_range b e =
    elim (or_cases _ _ e) [
      | inl letter ↦ elim (or_cases _ _ letter) [
        | inl upper ↦ inl (in_range 65 90 b upper)
        | inr lower ↦ inr (inl (in_range 97 122 b lower))
      ]
      | inr other ↦ inr (inr (eqb-true b 95 other))
    ]

pub digit_range : (b : ℕ) → is_ascii_digit b ≡ true → (48 ≤ b) × (b ≤ 57)
digit_range b e = in_range 48 57 b e

pub digit_no_mark : (b : ℕ) → is_ascii_digit b ≡ true → IsNoMark b
digit_no_mark b e = let r = digit_range b e in let low = r.0 in let high = r.1 in no_mark b (omega arith) (omega arith) (omega arith) (omega arith)

pub name_start_no_mark : (b : ℕ) → is_name_start b ≡ true → IsNoMark b
name_start_no_mark b e =
    elim (name_start_range b e) [
      | inl upper ↦ no_mark b (omega arith) (omega arith) (omega arith) (omega arith)
      | inr (inl lower) ↦ no_mark b (omega arith) (omega arith) (omega arith) (omega arith)
      | inr (inr is) ↦ no_mark b (omega arith) (omega arith) (omega arith) (omega arith)
    ]

pub name_start_no_digit : (b : ℕ) → is_name_start b ≡ true → is_ascii_digit b ≡ false
name_start_no_digit b e = not_in_range 48 57 b (λ low high. elim (name_start_range b e) [
  | inl upper ↦ omega arith
  | inr (inl lower) ↦ omega arith
  | inr (inr is) ↦ omega arith
])

pub printable_range : (b : ℕ) → is_printable b ≡ true → (32 ≤ b) × (b ≤ 126)
printable_range b e = let parts = and_parts _ _ e in (leb-true _ _ parts.0, leb-true _ _ parts.1)
