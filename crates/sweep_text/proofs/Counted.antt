-- Each number is asserted once.
use Rattle.std.proofs.Common.{◌≡◌, ◌+◌, ◌-◌, ◌*◌, ◌/◌, ◌≤◌, ◌<◌, ◌++◌, min, ℕ, zero, suc, ◌⊎◌, inl, inr, sym, ◌∙◌, ap, arith, append-nil}
use Rattle.std.proofs.lemmas.Bool.Decides.{leb_tells}
use Rattle.std.specs.List.{flat_map, range_with_len}
use Rattle.sweep_text.specs.Made.{AssertsEachOnce, asserted}
use Rattle.sweep_text.proofs.Ranges.{range_append}

-- the row of a function, and behind it that of the rest, which is none where the function isn't full
next_row : (here rest function size : ℕ) → here + rest ≡ size - 50 * function → (here ≡ 50) ⊎ (rest ≡ 0)
    → range_with_len (50 * function + 1) here ++ range_with_len (50 * (function + 1) + 1) rest ≡ range_with_len (50 * function + 1) (size - 50 * function)
next_row here rest function size split (inl full) =
    let at : 50 * (function + 1) + 1 ≡ 50 * function + 1 + here = omega (arith, full) in
    ap (λ b. range_with_len (50 * function + 1) here ++ range_with_len b rest) at
    ∙ range_append (50 * function + 1) here rest ∙ ap (range_with_len (50 * function + 1)) split
next_row here rest function size split (inr none) =
    let len : here ≡ size - 50 * function = omega (arith, split, none) in
    ap (λ n. range_with_len (50 * function + 1) here ++ range_with_len (50 * (function + 1) + 1) n) none
    ∙ append-nil (range_with_len (50 * function + 1) here) ∙ ap (range_with_len (50 * function + 1)) len

-- a function is full, or none is behind it
full_or_last : (size function : ℕ) → (min 50 (size - 50 * function) ≡ 50) ⊎ (size - 50 * (function + 1) ≡ 0)
full_or_last size function = elim (leb_tells (50 * (function + 1)) size) [ inl h ↦ inl (omega (arith, h.1)) | inr h ↦ inr (omega (arith, h.1)) ]

-- the functions from one on assert what is left of the numbers
from_on : (n size function : ℕ) → size ≤ 50 * function + 50 * n → (50 * function + 50 * n < size + 50)
    → flat_map (asserted size) (range_with_len function n) ≡ range_with_len (50 * function + 1) (size - 50 * function)
from_on zero size function covers within =
    let none : size - 50 * function ≡ 0 = omega (arith, covers) in ap (range_with_len (50 * function + 1)) (sym none)
from_on (suc n) size function covers within =
    let here = min 50 (size - 50 * function) in
    let rest = size - 50 * (function + 1) in
    let covered : size ≤ 50 * (function + 1) + 50 * n = omega (arith, covers) in
    let kept : 50 * (function + 1) + 50 * n < size + 50 = omega (arith, within) in
    let more = from_on n size (function + 1) covered kept in
    let split : here + rest ≡ size - 50 * function = omega arith in
    ap (λ row. asserted size function ++ row) more ∙ next_row here rest function size split (full_or_last size function)

pub each_once : AssertsEachOnce
each_once size =
    let count = (size + 49) / 50 in
    let covers : size ≤ 50 * 0 + 50 * count = omega arith in
    let within : 50 * 0 + 50 * count < size + 50 = omega arith in
    let left : size - 50 * 0 ≡ size = omega arith in
    from_on count size 0 covers within ∙ ap (range_with_len 1) left
