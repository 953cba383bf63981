-- The names of temporaries, and the others that only compiled programs have.
use Rattle.std.proofs.Common.{◌≡◌, ℕ, zero, suc, ◌+◌, List, [], ◌∷◌, ◌++◌, map, length, Bool, true, false, refl, ap, ◌∙◌, inl, arith}
use Rattle.std.specs.Prelude.{◌||◌}
use Rattle.std.specs.List.{list_any}
use Rattle.std.proofs.lemmas.List.Folds.{list_any-append}
use Rattle.std.specs.Int.Digits.{digits_of, AllBelowBase}
use Rattle.std.proofs.lemmas.Int.Digits.{all_below_base_digits_of}
use Rattle.std.proofs.lemmas.List.Elements.{All-nil, All-cons}
use Rattle.gil_values.specs.Characters.{IsTextCharacter, IsText}
use Rattle.gil_values.specs.Printed.{numeral}
use Rattle.source_language.specs.Names.{is_source_name, temporary, temporaries_from, caught, own_names}
use Rattle.source_language.specs.Procedures.{nulls, placed, null}
use Rattle.gil_syntax.specs.Pure.{assign}

digits_text : (ds : List ℕ) → AllBelowBase 10 ds → IsText (map (λ digit. 48 + digit) ds)
digits_text [] below = All-nil IsTextCharacter
digits_text (d ∷ ds) below = All-cons IsTextCharacter (48 + d) _ (inl (omega arith, omega (arith, below.0))) (digits_text ds below.1)

numeral_text : (n : ℕ) → IsText (numeral n)
unfolding numeral
numeral_text zero = All-cons IsTextCharacter 48 [] (inl (omega arith, omega arith)) (All-nil IsTextCharacter)
numeral_text (suc n) = digits_text (digits_of 10 (suc n)) (all_below_base_digits_of 10 (suc n) (omega arith))

pub temporary_text : (n : ℕ) → IsText (temporary n)
temporary_text n = All-cons IsTextCharacter 116 (36 ∷ numeral n) (inl (omega arith, omega arith))
    (All-cons IsTextCharacter 36 (numeral n) (inl (omega arith, omega arith)) (numeral_text n))

one_more_from : (i n : ℕ) → temporaries_from i (suc n) ≡ temporaries_from i n ++ temporary (i + n) ∷ []
one_more_from i zero = ap (λ k. temporary k ∷ []) (let e : i ≡ i + 0 = omega arith in e)
one_more_from i (suc n) = ap (λ xs. temporary i ∷ xs) (one_more_from (i + 1) n
    ∙ ap (λ k. temporaries_from (i + 1) n ++ temporary k ∷ []) (let e : i + 1 + n ≡ i + suc n = omega arith in e))

pub one_more : (n : ℕ) → temporaries_from 0 (n + 1) ≡ temporaries_from 0 n ++ temporary n ∷ []
one_more n = ap (λ k. temporaries_from 0 k) (let e : n + 1 ≡ suc n = omega arith in e) ∙ one_more_from 0 n
    ∙ ap (λ k. temporaries_from 0 n ++ temporary k ∷ []) (let e : 0 + n ≡ n = omega arith in e)

nulls-append : (at : ℕ) (xs : List (List ℕ)) (x : List ℕ) → nulls at (xs ++ x ∷ []) ≡ nulls at xs ++ placed at (assign x null) ∷ []
nulls-append at [] x = refl
nulls-append at (y ∷ xs) x = ap (λ cs. placed at (assign y null) ∷ cs) (nulls-append at xs x)

pub nulls_length : (at : ℕ) (xs : List (List ℕ)) → length (nulls at xs) ≡ length xs
nulls_length at [] = refl
nulls_length at (x ∷ xs) = ap suc (nulls_length at xs)

pub temporaries_length : (i n : ℕ) → length (temporaries_from i n) ≡ n
temporaries_length i zero = refl
temporaries_length i (suc n) = ap suc (temporaries_length (i + 1) n)

-- ---- none of them is a name of a source

abbrev pub AreAside : List (List ℕ) → Type 0
AreAside xs = list_any is_source_name xs ≡ false

pub temporaries_aside : (i n : ℕ) → AreAside (temporaries_from i n)
temporaries_aside i zero = refl
temporaries_aside i (suc n) = temporaries_aside (i + 1) n

pub own_aside : (n : ℕ) (catches : Bool) → AreAside (own_names n catches)
own_aside n true = list_any-append is_source_name (temporaries_from 0 n) (caught ∷ []) ∙ ap (λ b. b || false) (temporaries_aside 0 n)
own_aside n false = temporaries_aside 0 n
