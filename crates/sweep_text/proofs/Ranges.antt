-- Numbers in a row, and what is made of each.
use Rattle.std.proofs.Common.{◌≡◌, ◌+◌, ◌++◌, ℕ, zero, suc, List, [], ◌∷◌, refl, sym, ◌∙◌, ap, arith, append-nil, append_assoc}
use Rattle.std.specs.List.{flat_map, range_with_len}

-- two rows, one behind the other, are one
pub range_append : (a m k : ℕ) → range_with_len a m ++ range_with_len (a + m) k ≡ range_with_len a (m + k)
range_append a zero k = let at : a + 0 ≡ a = omega arith in let len : 0 + k ≡ k = omega arith in ap (λ b. range_with_len b k) at ∙ ap (range_with_len a) (sym len)
range_append a (suc m) k =
    let at : a + suc m ≡ a + 1 + m = omega arith in
    let len : suc (m + k) ≡ suc m + k = omega arith in
    ap (λ b. a ∷ range_with_len (a + 1) m ++ range_with_len b k) at
    ∙ ap (λ xs. a ∷ xs) (range_append (a + 1) m k)
    ∙ ap (range_with_len a) len

flat_map_both : {X A : Type 0} (f : X → List A) (xs ys : List X) → flat_map f xs ++ flat_map f ys ≡ flat_map f (xs ++ ys)
flat_map_both f [] ys = refl
flat_map_both f (x ∷ xs) ys = append_assoc (f x) (flat_map f xs) (flat_map f ys) ∙ ap (λ zs. f x ++ zs) (flat_map_both f xs ys)

-- one more number
pub one_more : {A : Type 0} (f : ℕ → List A) (before : List A) (a n at : ℕ) → a + n ≡ at
    → (before ++ flat_map f (range_with_len a n)) ++ f at ≡ before ++ flat_map f (range_with_len a (n + 1))
one_more f before a n at is =
    let row : range_with_len a n ++ at ∷ [] ≡ range_with_len a (n + 1) =
    ap (λ b. range_with_len a n ++ b ∷ []) (sym is) ∙ range_append a n 1 in
    append_assoc before (flat_map f (range_with_len a n)) (f at)
    ∙ ap (λ zs. before ++ zs) (ap (λ zs. flat_map f (range_with_len a n) ++ zs) (sym (append-nil (f at)))
    ∙ flat_map_both f (range_with_len a n) (at ∷ [])
    ∙ ap (flat_map f) row)

-- three texts were added
pub three_added : (x y z start a b all : List ℕ) → a ≡ start ++ x → b ≡ a ++ y → all ≡ b ++ z → all ≡ start ++ (x ++ y ++ z)
three_added x y z start a b all f g h = rw (h, g, f) (simp append_assoc)
