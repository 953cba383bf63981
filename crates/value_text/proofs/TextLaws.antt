-- Text literals and names.
use Rattle.std.proofs.Common.{◌≡◌, ℕ, zero, suc, ◌+◌, ◌<◌, ◌≤◌, Bool, true, false, not, ◌&&◌, eqb, List, [], ◌∷◌, ◌++◌, length, take, drop, Option, Some, None, refl, sym, ap, ◌∙◌, subst, arith, inl, inr, append_assoc, length-append}
use Rattle.std.specs.Prelude.{codes}
use Rattle.std.specs.List.{AllByRecursion, flat_map, prefix_len}
use Rattle.std.proofs.lemmas.Bool.{true≢false, eq-eqb, and_from, and_parts, cases_Bool, eqb-true, le-leb, not_from_false}
use Rattle.std.proofs.lemmas.Option.{same_Some}
use Rattle.std.proofs.lemmas.List.Elements.{All-cons, All-nil, All-tail}
use Rattle.std.proofs.Math.Seq.{take-append_seam, drop-append_seam}
use Rattle.gil_values.specs.Characters.{IsText, IsTextCharacter}
use Rattle.gil_values.specs.Printed.{literal_character, text_literal}
use Rattle.gil_lexer.specs.Bytes.{begins, is_name_start, is_name_byte, is_plain, is_escape, is_printable}
use Rattle.gil_lexer.specs.Reading.{escaped_character}
use Rattle.gil_lexer.specs.Spelling.{IsName}
use Rattle.gil_lexer.proofs.ByteLemmas.{printable_range}
use Rattle.gil_lexer.proofs.RunLemmas.{run_is, begins_append}
use Rattle.value_text.specs.Reading.{Reading, ◌>>=◌, with_front, many_at, name_at, character_at, escape_at, before_quote, characters_at, text_at}
use Rattle.value_text.proofs.Many.{IsAgain, Again, many_again}
use Rattle.value_text.proofs.WordLaws.{behind_again}

-- ---- names

pub name_again : (x rest : List ℕ) → IsName x → begins is_name_byte rest ≡ false → name_at (x ++ rest) ≡ Some (x, rest)
name_again x rest is stops =
    rw (begins_append is_name_start x rest is.0, run_is is_name_byte x rest is.1 stops, take-append_seam x rest, drop-append_seam x rest) refl

-- ---- characters that are read may stand in texts

plain_character : (b : ℕ) → is_plain b ≡ true → IsTextCharacter b
plain_character b e = inl (printable_range b (and_parts _ _ (and_parts _ _ e).0).0)

escaped_one : (b : ℕ) → is_escape b ≡ true → IsTextCharacter (escaped_character b)
escaped_one b e =
    elim (cases_Bool (eqb b 34)) [
      | inl is ↦ rw (eqb-true b 34 is) (inl (omega arith, omega arith))
      | inr q ↦ elim (cases_Bool (eqb b 92)) [
        | inl is ↦ rw (eqb-true b 92 is) (inl (omega arith, omega arith))
        | inr s ↦ elim (cases_Bool (eqb b 110)) [
          | inl is ↦ rw (eqb-true b 110 is) (inr refl)
          | inr n ↦ absurd (cc (rw (q, s, n) at e))
        ]
      ]
    ]

escape_says : (bytes : List ℕ) (c : ℕ) (rest : List ℕ) → escape_at bytes ≡ Some (c, rest) → IsTextCharacter c
escape_says [] c rest e = absurd (cc e)
escape_says (b ∷ bytes) c rest e =
    elim (cases_Bool (is_escape b)) [
      | inl escape ↦
          let read : Some (escaped_character b, bytes) ≡ Some (c, rest) = rw escape at e in
          let same : escaped_character b ≡ c = ap (λ p. p.0) (same_Some (escaped_character b, bytes) (c, rest) read) in
          subst IsTextCharacter same (escaped_one b escape)
      | inr apart ↦ let read = rw apart at e in absurd (cc read)
    ]

pub character_says : (bytes : List ℕ) (c : ℕ) (rest : List ℕ) → character_at bytes ≡ Some (c, rest) → IsTextCharacter c
character_says [] c rest e = absurd (cc e)
character_says (b ∷ bytes) c rest e =
    elim (cases_Bool (eqb b 92)) [
      | inl is ↦ escape_says bytes c rest (rw is at e)
      | inr other ↦ elim (cases_Bool (is_plain b)) [
        | inl plain ↦
            let read : Some (b, bytes) ≡ Some (c, rest) = rw (plain, other) at e in
            let same : b ≡ c = ap (λ p. p.0) (same_Some (b, bytes) (c, rest) read) in
            subst IsTextCharacter same (plain_character b plain)
        | inr apart ↦ let read = rw (apart, other) at e in absurd (cc read)
      ]
    ]

pub character_small : (bytes : List ℕ) (c : ℕ) (rest : List ℕ) → character_at bytes ≡ Some (c, rest) → c < 128
character_small bytes c rest e = elim (character_says bytes c rest e) [
  | inl range ↦ omega (arith, range.1)
  | inr is ↦ omega (arith, is)
]

front_says : (c : ℕ) (read : Reading (List ℕ)) (cs rest : List ℕ) → IsTextCharacter c → ((ds : List ℕ) (r : List ℕ) → read ≡ Some (ds, r) → IsText ds)
    → with_front (c ∷ []) read ≡ Some (cs, rest) → IsText cs
front_says c None cs rest one more e = absurd (cc e)
front_says c (Some ds) cs rest one more e =
    let same : c ∷ ds.0 ≡ cs = ap (λ p. p.0) (same_Some (c ∷ ds.0, ds.1) (cs, rest) e) in
    subst IsText same (All-cons IsTextCharacter c ds.0 one (more ds.0 ds.1 refl))

step_says : (n : ℕ) (bytes cs rest : List ℕ) (read : Reading ℕ) → ((bs ds r : List ℕ) → many_at before_quote character_at n bs ≡ Some (ds, r) → IsText ds)
    → character_at bytes ≡ read → (read >>= λ x. with_front (x.0 ∷ []) (many_at before_quote character_at n x.1)) ≡ Some (cs, rest) → IsText cs
step_says n bytes cs rest None more is e = absurd (cc e)
step_says n bytes cs rest (Some x) more is e =
    front_says x.0 (many_at before_quote character_at n x.1) cs rest (character_says bytes x.0 x.1 is) (λ ds r f. more x.1 ds r f) e

none_says : (bytes cs rest : List ℕ) → ◌≡◌ {A = Reading (List ℕ)} (Some ([], bytes)) (Some (cs, rest)) → IsText cs
none_says bytes cs rest e = subst IsText (ap (λ p. p.0) (same_Some ([], bytes) (cs, rest) e)) (All-nil IsTextCharacter)

many_say : (n : ℕ) (bytes cs rest : List ℕ) → many_at before_quote character_at n bytes ≡ Some (cs, rest) → IsText cs
unfolding many_at
many_say zero bytes cs rest e = none_says bytes cs rest e
many_say (suc n) bytes cs rest e =
    elim (cases_Bool (before_quote bytes)) [
      | inl stop ↦ none_says bytes cs rest (rw stop at e)
      | inr some ↦ step_says n bytes cs rest (character_at bytes) (many_say n) refl (rw some at e)
    ]

pub characters_say : (bytes cs rest : List ℕ) → characters_at bytes ≡ Some (cs, rest) → IsText cs
characters_say bytes cs rest e = whole (many_at before_quote character_at (length bytes) bytes) refl e
  where
    whole : (read : Reading (List ℕ)) → many_at before_quote character_at (length bytes) bytes ≡ read → with_front [] read ≡ Some (cs, rest) → IsText cs
    whole None is f = absurd (cc f)
    whole (Some xs) is f = subst IsText (ap (λ p. p.0) (same_Some (xs.0, xs.1) (cs, rest) f)) (many_say (length bytes) bytes xs.0 xs.1 is)

-- ---- and what was printed is read again

printable : (c : ℕ) → (32 ≤ c) × (c ≤ 126) → is_printable c ≡ true
printable c range = and_from _ _ (le-leb 32 c range.0) (le-leb c 126 range.1)

itself_printable : (c : ℕ) → IsTextCharacter c → eqb c 10 ≡ false → is_printable c ≡ true
itself_printable c (inl range) apart = printable c range
itself_printable c (inr is) apart = absurd (true≢false (sym (eq-eqb c 10 is) ∙ apart))

character_again : (c : ℕ) (rest : List ℕ) → IsTextCharacter c → IsAgain before_quote character_at literal_character (λ r. Unit {0}) c rest
character_again c rest fits =
    elim (cases_Bool (eqb c 34)) [
      | inl is ↦ record { again = rw (eqb-true c 34 is) refl; some = rw (eqb-true c 34 is) refl; follows = tt }
      | inr q ↦ elim (cases_Bool (eqb c 92)) [
        | inl is ↦ record { again = rw (eqb-true c 92 is) refl; some = rw (eqb-true c 92 is) refl; follows = tt }
        | inr s ↦ elim (cases_Bool (eqb c 10)) [
          | inl is ↦ record { again = rw (eqb-true c 10 is) refl; some = rw (eqb-true c 10 is) refl; follows = tt }
          | inr n ↦ record { again = rw (q, s, n, s, itself_printable c fits n, q) refl; some = rw (q, s, n, q) refl; follows = tt }
        ]
      ]
    ]

all_again : (cs : List ℕ) → IsText cs → AllByRecursion (Again before_quote character_at literal_character (λ r. Unit {0})) cs
all_again [] is = tt
all_again (c ∷ cs) is = ((λ rest follows. character_again c rest (is zero 0 (omega arith))), all_again cs (All-tail IsTextCharacter c cs is))

some_bytes : (c : ℕ) → 1 ≤ length (literal_character c)
some_bytes c =
    elim (cases_Bool (eqb c 34)) [
      | inl is ↦ rw is (omega arith)
      | inr q ↦ elim (cases_Bool (eqb c 92)) [
        | inl is ↦ rw (q, is) (omega arith)
        | inr s ↦ elim (cases_Bool (eqb c 10)) [
          | inl is ↦ rw (q, s, is) (omega arith)
          | inr n ↦ rw (q, s, n) (omega arith)
        ]
      ]
    ]

no_longer : (cs rest : List ℕ) → length cs ≤ length (flat_map literal_character cs ++ rest)
no_longer [] rest = omega arith
no_longer (c ∷ cs) rest = omega (arith, some_bytes c, no_longer cs rest, length-append (literal_character c) (flat_map literal_character cs), length-append (literal_character c ++ flat_map literal_character cs) rest, length-append (flat_map literal_character cs) rest)

pub text_again : (cs rest : List ℕ) → IsText cs → text_at (text_literal cs ++ rest) ≡ Some (cs, rest)
unfolding text_at
text_again cs rest is =
    let inner = flat_map literal_character cs ++ 34 ∷ rest in
    let grouped : (flat_map literal_character cs ++ 34 ∷ []) ++ rest ≡ inner = append_assoc (flat_map literal_character cs) (34 ∷ []) rest in
    let read : many_at before_quote character_at (length inner) inner ≡ Some (cs, 34 ∷ rest) =
    many_again before_quote character_at literal_character (λ r. Unit {0}) (length inner) cs (34 ∷ rest) (all_again cs is) tt refl (no_longer cs (34 ∷ rest)) in
    rw grouped (rw (behind_again (34 ∷ []) inner, read, behind_again (34 ∷ []) rest) refl)
