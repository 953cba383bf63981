-- The names of variables that are no parameters.
use Rattle.std.proofs.Common.{◌≡◌, ℕ, zero, suc, ◌+◌, List, [], ◌∷◌, ◌++◌, map, length, inl, refl, sym, ap, ◌∙◌, append_assoc, length-append, arith}
use Rattle.std.specs.Int.Digits.{digits_of, AllBelowBase}
use Rattle.std.proofs.lemmas.Int.Digits.{all_below_base_digits_of}
use Rattle.std.proofs.lemmas.List.Elements.{All-nil, All-cons}
use Rattle.gil_values.specs.Characters.{IsTextCharacter, IsText}
use Rattle.gil_values.specs.Printed.{numeral}
use Rattle.assertion_terms.specs.Named.{numbered, numbered_from, table_names}

digits_text : (ds : List ℕ) → AllBelowBase 10 ds → IsText (map (λ digit. 48 + digit) ds)
digits_text [] below = All-nil IsTextCharacter
digits_text (d ∷ ds) below = All-cons IsTextCharacter (48 + d) _ (inl (omega arith, omega (arith, below.0))) (digits_text ds below.1)

numeral_text : (n : ℕ) → IsText (numeral n)
unfolding numeral
numeral_text zero = All-cons IsTextCharacter 48 [] (inl (omega arith, omega arith)) (All-nil IsTextCharacter)
numeral_text (suc n) = digits_text (digits_of 10 (suc n)) (all_below_base_digits_of 10 (suc n) (omega arith))

pub numbered_text : (n : ℕ) → IsText (numbered n)
numbered_text n =
    All-cons IsTextCharacter 35 (118 ∷ numeral n) (inl (omega arith, omega arith)) (All-cons IsTextCharacter 118 (numeral n) (inl (omega arith, omega arith)) (numeral_text n))

-- ---- one name more

number_more : (n count : ℕ) → numbered_from n (suc count) ≡ numbered_from n count ++ numbered (n + count) ∷ []
number_more n zero = let e : n ≡ n + 0 = omega arith in ap (λ k. numbered k ∷ []) e
number_more n (suc count) =
    let e : suc n + count ≡ n + suc count = omega arith in
    ap (λ xs. numbered n ∷ xs) (number_more (suc n) count ∙ ap (λ k. numbered_from (suc n) count ++ numbered k ∷ []) e)

length-numbered_from : (n count : ℕ) → length (numbered_from n count) ≡ count
length-numbered_from n zero = refl
length-numbered_from n (suc count) = let rest : length (numbered_from (suc n) count) ≡ count = length-numbered_from (suc n) count in omega (arith, rest)

-- the next name of a table is that of the number that the table is long
pub one_more : (params names : List (List ℕ)) (k : ℕ) → names ≡ table_names params k → names ++ numbered (length names) ∷ [] ≡ table_names params (k + 1)
one_more params names k are =
    let long : length names ≡ length params + k =
    ap length are ∙ length-append params (numbered_from (length params) k) ∙ ap (λ m. length params + m) (length-numbered_from (length params) k)
    in
    let next : suc k ≡ k + 1 = omega arith in
    (λ i. are i ++ numbered (long i) ∷ []) ∙ append_assoc params (numbered_from (length params) k) (numbered (length params + k) ∷ [])
    ∙ ap (λ xs. params ++ xs) (sym (number_more (length params) k)) ∙ ap (λ m. params ++ numbered_from (length params) m) next
