-- Texts of ASCII.
use Rattle.std.proofs.Common.{◌≡◌, ℕ, true, List, [], ◌∷◌, ◌++◌, refl, IsUtf8}
use Rattle.std.proofs.lemmas.Bool.{and_from, and_parts}
use Rattle.json.proofs.Printed.Utf8.{are_ascii, IsUtf8-are_ascii}
use Rattle.json_parts.specs.Kept.{is_ascii_text}

pub both_ascii : (xs ys : List ℕ) → is_ascii_text xs ≡ true → is_ascii_text ys ≡ true → is_ascii_text (xs ++ ys) ≡ true
both_ascii [] ys e f = f
both_ascii (x ∷ xs) ys e f = let p = and_parts _ _ e in and_from _ _ p.0 (both_ascii xs ys p.1 f)

same : (xs : List ℕ) → is_ascii_text xs ≡ true → are_ascii xs ≡ true
same [] e = refl
same (x ∷ xs) e = let p = and_parts _ _ e in and_from _ _ p.0 (same xs p.1)

pub ascii_utf8 : (xs : List ℕ) → is_ascii_text xs ≡ true → IsUtf8 xs
ascii_utf8 xs e = IsUtf8-are_ascii xs (same xs e)
