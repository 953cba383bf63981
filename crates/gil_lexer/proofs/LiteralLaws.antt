-- What the scan of a text literal says of its bytes, and the other way round.
use Rattle.std.proofs.Common.{◌≡◌, ◌⊎◌, ℕ, suc, ◌+◌, ◌≤◌, Bool, true, false, ◌||◌, eqb, List, [], ◌∷◌, ◌++◌, length, take, drop, get_or, IfSome, IfNone, option_map, ◌-◌, append_assoc, length-append, Option, Some, None, Result, Ok, Err, refl, ap, sym, ◌∙◌, arith, inl, inr, subst}
use Rattle.std.proofs.lemmas.List.{take_more, get_or_at, append_cancel_right, take_all}
use Rattle.std.proofs.lemmas.Bool.{cases_Bool, cond_both, and_from, and_parts, or_cases, or_left, eqb-true, ne_eqb, not_from_false, not-true}
use Rattle.gil_lexer.specs.Bytes.{quote, backslash, line_feed, is_printable, is_plain, is_escape, begins, IsQuoted}
use Rattle.gil_lexer.specs.Reading.{one_more, literal_len, with_character, escaped_character, unescaped}
use Rattle.gil_lexer.specs.Spelling.{AreCharacters, character_bytes, characters_bytes, SpellsText}
use Rattle.gil_lexer.specs.declared.faults.LexKind.{LexKind}
use Rattle.gil_lexer.specs.declared.faults.LexKind.TheVariants as kinds
use Rattle.gil_lexer.proofs.ByteLemmas.{printable_range}
use Rattle.gil_lexer.proofs.RunLemmas.{take_one_more}
use Rattle.gil_lexer.proofs.LiteralLemmas.{more}

-- a character that stands for itself
pub record IsItself (c : ℕ) : Type 0 where
  pub printable : is_printable c ≡ true
  pub quote : eqb c quote ≡ false
  pub backslash : eqb c backslash ≡ false
  pub line_feed : eqb c line_feed ≡ false

plain_is : (c : ℕ) → is_plain c ≡ true → IsItself c
plain_is c e =
    let outer = and_parts _ _ e in
    let inner = and_parts _ _ outer.0 in
    let low = (printable_range c inner.0).0 in
    record { printable = inner.0; quote = not-true _ inner.1; backslash = not-true _ outer.1; line_feed = ne_eqb c 10 (λ is. omega arith) }

plain_bytes : (c : ℕ) → IsItself c → character_bytes c ≡ c ∷ []
plain_bytes c h = rw (h.quote, h.backslash, h.line_feed) refl

-- the character that an escape stands for
escape_bytes : (b : ℕ) → is_escape b ≡ true → character_bytes (escaped_character b) ≡ backslash ∷ b ∷ []
escape_bytes b e =
    elim (or_cases _ _ e) [
      | inl first ↦ elim (or_cases _ _ first) [
        | inl is ↦ rw (eqb-true b 34 is) refl
        | inr is ↦ rw (eqb-true b 92 is) refl
      ]
      | inr is ↦ rw (eqb-true b 110 is) refl
    ]

escape_character : (b : ℕ) → is_escape b ≡ true → (is_printable (escaped_character b) || eqb (escaped_character b) line_feed) ≡ true
escape_character b e =
    elim (or_cases _ _ e) [
      | inl first ↦ elim (or_cases _ _ first) [
        | inl is ↦ rw (eqb-true b 34 is) refl
        | inr is ↦ rw (eqb-true b 92 is) refl
      ]
      | inr is ↦ rw (eqb-true b 110 is) refl
    ]

-- what the scan of bs says, where the bytes before go ahead of them
abbrev pub Scanned : List ℕ → List ℕ → Result ℕ LexKind → Type 0
Scanned before bs (Ok n) = (cs : List ℕ) × (n ≤ length bs) × AreCharacters cs × (before ++ take n bs ≡ characters_bytes cs ++ quote ∷ [])
Scanned before bs (Err kinds.Open) =
    (cs after : List ℕ) × AreCharacters cs × (before ++ bs ≡ characters_bytes cs ++ after) × (begins is_printable after ≡ false)
Scanned before bs (Err kinds.Escape) =
    (cs after : List ℕ) × AreCharacters cs × (before ++ bs ≡ characters_bytes cs ++ backslash ∷ after) × (begins is_escape after ≡ false)
Scanned before bs (Err kinds.Byte) = ⊥
Scanned before bs (Err kinds.Wide) = ⊥
Scanned before bs (Err kinds.Memory) = ⊥

-- with one character more ahead
scanned_more : (before first : List ℕ) (c b : ℕ) (bs : List ℕ) → before ++ b ∷ [] ≡ character_bytes c → (is_printable c || eqb c line_feed) ≡ true → (r : Result ℕ LexKind) → Scanned [] bs r → Scanned before (b ∷ bs) (one_more r)
scanned_more before first c b bs is fits (Ok n) (cs, within, all, e) =
    (c ∷ cs, omega arith, and_from _ _ fits all, ap (λ x. before ++ x) (take_one_more b bs n) ∙ sym (append_assoc before (b ∷ []) (take n bs)) ∙ ap (λ x. x ++ take n bs) is ∙ ap (λ x. character_bytes c ++ x) e ∙ sym (append_assoc (character_bytes c) (characters_bytes cs) (quote ∷ [])))
scanned_more before first c b bs is fits (Err kinds.Open) (cs, after, all, e, stops) =
    (c ∷ cs, after, and_from _ _ fits all, sym (append_assoc before (b ∷ []) bs) ∙ ap (λ x. x ++ bs) is ∙ ap (λ x. character_bytes c ++ x) e ∙ sym (append_assoc (character_bytes c) (characters_bytes cs) after), stops)
scanned_more before first c b bs is fits (Err kinds.Escape) (cs, after, all, e, stops) =
    (c ∷ cs, after, and_from _ _ fits all, sym (append_assoc before (b ∷ []) bs) ∙ ap (λ x. x ++ bs) is ∙ ap (λ x. character_bytes c ++ x) e ∙ sym (append_assoc (character_bytes c) (characters_bytes cs) (backslash ∷ after)), stops)
scanned_more before first c b bs is fits (Err kinds.Byte) h = h
scanned_more before first c b bs is fits (Err kinds.Wide) h = h
scanned_more before first c b bs is fits (Err kinds.Memory) h = h

scanned_backslash : (bs : List ℕ) (r : Result ℕ LexKind) → Scanned (backslash ∷ []) bs r → Scanned [] (backslash ∷ bs) (one_more r)
scanned_backslash bs (Ok n) (cs, within, all, e) = (cs, omega arith, all, take_one_more backslash bs n ∙ e)
scanned_backslash bs (Err kinds.Open) h = h
scanned_backslash bs (Err kinds.Escape) h = h
scanned_backslash bs (Err kinds.Byte) h = h
scanned_backslash bs (Err kinds.Wide) h = h
scanned_backslash bs (Err kinds.Memory) h = h

abbrev pub ahead : Bool → List ℕ
ahead true = backslash ∷ []
ahead false = []

pub scan_says : (escaped : Bool) (bs : List ℕ) → Scanned (ahead escaped) bs (literal_len escaped bs)
scan_says true [] = ([], [], refl, refl, refl)
scan_says true (b ∷ bs) =
    cond_both (is_escape b) _ _ (Scanned (backslash ∷ []) (b ∷ bs))
    (λ e. scanned_more (backslash ∷ []) [] (escaped_character b) b bs (sym (escape_bytes b e)) (escape_character b e) _ (scan_says false bs))
    (λ e. ([], b ∷ bs, refl, refl, e))
scan_says false [] = ([], [], refl, refl, refl)
scan_says false (b ∷ bs) =
    cond_both (eqb b quote) _ _ (Scanned [] (b ∷ bs))
    (λ e. ([], omega arith, refl, ap (λ x. x ∷ []) (eqb-true b quote e)))
    (λ no_quote. cond_both (eqb b backslash) _ _ (Scanned [] (b ∷ bs))
    (λ e. subst (λ x. Scanned [] (x ∷ bs) (one_more (literal_len true bs))) (sym (eqb-true b backslash e)) (scanned_backslash bs _ (scan_says true bs)))
    (λ no_backslash. cond_both (is_printable b) _ _ (Scanned [] (b ∷ bs))
    (λ e. scanned_more [] [] b b bs (sym (plain_bytes b (plain_is b (and_from _ _ (and_from _ _ e (not_from_false _ no_quote)) (not_from_false _ no_backslash))))) (or_left _ _ e) _ (scan_says false bs))
    (λ e. ([], b ∷ bs, refl, refl, e))))

pub more_zero : (r : Result ℕ LexKind) → more 0 r ≡ r
more_zero (Ok n) = ap Ok (omega arith)
more_zero (Err kind) = refl

more-more : (m n : ℕ) (r : Result ℕ LexKind) → more m (more n r) ≡ more (m + n) r
more-more m n (Ok k) = ap Ok (omega arith)
more-more m n (Err kind) = refl

one_more_is : (r : Result ℕ LexKind) → one_more r ≡ more 1 r
one_more_is (Ok n) = refl
one_more_is (Err kind) = refl

two_more : (r : Result ℕ LexKind) → one_more (one_more r) ≡ more 2 r
two_more (Ok n) = ap Ok (omega arith)
two_more (Err kind) = refl

-- a character that is written as an escape, and one that isn't
pub written : (c : ℕ) → (is_printable c || eqb c line_feed) ≡ true → (is_plain c ≡ true) ⊎ ((b : ℕ) × (is_escape b ≡ true) × (c ≡ escaped_character b))
written c e =
    elim (cases_Bool (eqb c quote)) [
      | inl is ↦ inr (34, refl, eqb-true c 34 is)
      | inr no_quote ↦ elim (cases_Bool (eqb c backslash)) [
        | inl is ↦ inr (92, refl, eqb-true c 92 is)
        | inr no_backslash ↦ elim (or_cases _ _ e) [
          | inl printable ↦ inl (and_from _ _ (and_from _ _ printable (not_from_false _ no_quote)) (not_from_false _ no_backslash))
          | inr is ↦ inr (110, refl, eqb-true c 10 is)
        ]
      ]
    ]

-- the scan passes a character
scan_character : (c : ℕ) (rest : List ℕ) → (is_printable c || eqb c line_feed) ≡ true → literal_len false (character_bytes c ++ rest) ≡ more (length (character_bytes c)) (literal_len false rest)
scan_character c rest e =
    elim (written c e) [
      | inl plain ↦
          let h = plain_is c plain in
          rw (plain_bytes c h, h.quote, h.backslash, h.printable) (one_more_is _)
      | inr (b, escape, is) ↦ rw (is, escape_bytes b escape, escape) (two_more (literal_len false rest))
    ]

pub scan_characters : (cs rest : List ℕ) → AreCharacters cs → literal_len false (characters_bytes cs ++ rest) ≡ more (length (characters_bytes cs)) (literal_len false rest)
scan_characters [] rest all = sym (more_zero _)
scan_characters (c ∷ cs) rest all =
    let parts = and_parts _ _ all in
    ap (literal_len false) (append_assoc (character_bytes c) (characters_bytes cs) rest)
    ∙ scan_character c (characters_bytes cs ++ rest) parts.0
    ∙ ap (more (length (character_bytes c))) (scan_characters cs rest parts.1)
    ∙ more-more (length (character_bytes c)) (length (characters_bytes cs)) _
    ∙ ap (λ n. more n (literal_len false rest)) (sym (length-append (character_bytes c) (characters_bytes cs)))

-- what unescaping gives says what the bytes are
abbrev Unescaped : List ℕ → List ℕ → Option (List ℕ) → Type 0
Unescaped before bs None = Unit {0}
Unescaped before bs (Some cs) = AreCharacters cs × (before ++ bs ≡ characters_bytes cs)

unescaped_more : (before : List ℕ) (c b : ℕ) (bs : List ℕ) → before ++ b ∷ [] ≡ character_bytes c → (is_printable c || eqb c line_feed) ≡ true → (o : Option (List ℕ)) → Unescaped [] bs o → Unescaped before (b ∷ bs) (with_character c o)
unescaped_more before c b bs is fits None h = tt
unescaped_more before c b bs is fits (Some cs) h =
    (and_from _ _ fits h.0, sym (append_assoc before (b ∷ []) bs) ∙ ap (λ x. x ++ bs) is ∙ ap (λ x. character_bytes c ++ x) h.1)

unescaped_backslash : (bs : List ℕ) (o : Option (List ℕ)) → Unescaped (backslash ∷ []) bs o → Unescaped [] (backslash ∷ bs) o
unescaped_backslash bs None h = h
unescaped_backslash bs (Some cs) h = h

pub unescaped_says : (escaped : Bool) (bs : List ℕ) → Unescaped (ahead escaped) bs (unescaped escaped bs)
unescaped_says true [] = tt
unescaped_says true (b ∷ bs) =
    cond_both (is_escape b) _ _ (Unescaped (backslash ∷ []) (b ∷ bs))
    (λ e. unescaped_more (backslash ∷ []) (escaped_character b) b bs (sym (escape_bytes b e)) (escape_character b e) _ (unescaped_says false bs))
    (λ e. tt)
unescaped_says false [] = (refl, refl)
unescaped_says false (b ∷ bs) =
    cond_both (eqb b backslash) _ _ (Unescaped [] (b ∷ bs))
    (λ e. subst (λ x. Unescaped [] (x ∷ bs) (unescaped true bs)) (sym (eqb-true b backslash e)) (unescaped_backslash bs _ (unescaped_says true bs)))
    (λ no_backslash. cond_both (is_plain b) _ _ (Unescaped [] (b ∷ bs))
    (λ e. let h = plain_is b e in unescaped_more [] b b bs (sym (plain_bytes b h)) (or_left _ _ h.printable) _ (unescaped_says false bs))
    (λ e. tt))

unescaped_character : (c : ℕ) (rest : List ℕ) → (is_printable c || eqb c line_feed) ≡ true → unescaped false (character_bytes c ++ rest) ≡ with_character c (unescaped false rest)
unescaped_character c rest e =
    elim (written c e) [
      | inl plain ↦ let h = plain_is c plain in rw (plain_bytes c h, h.backslash, h.printable, h.quote) refl
      | inr (b, escape, is) ↦ rw (is, escape_bytes b escape, escape) refl
    ]

-- the bytes of characters give them back
pub unescaped_characters : (cs : List ℕ) → AreCharacters cs → unescaped false (characters_bytes cs) ≡ Some cs
unescaped_characters [] all = refl
unescaped_characters (c ∷ cs) all =
    let parts = and_parts _ _ all in
    unescaped_character c (characters_bytes cs) parts.0 ∙ ap (with_character c) (unescaped_characters cs parts.1)

-- bytes between quotes
pub quoted : (literal : List ℕ) → IsQuoted literal → literal ≡ quote ∷ (take (length literal - 1 - 1) (drop 1 literal) ++ quote ∷ [])
quoted [] (long, first, last) = absurd (omega arith)
quoted (b ∷ []) (long, first, last) = absurd (omega arith)
quoted (b ∷ d ∷ bs) (long, first, last) =
    let rest : List ℕ = d ∷ bs in
    let n : ℕ = length bs in
    let more = take_more rest n 0 (omega arith) in
    let at_end : get_or rest n 0 ≡ quote = let e : length (b ∷ d ∷ bs) - 1 ≡ suc n = omega arith in sym (ap (λ k. get_or (b ∷ d ∷ bs) k 0) e) ∙ last in
    let whole : take (n + 1) rest ≡ rest = take_all (n + 1) rest (omega arith) in
    let count : length (b ∷ d ∷ bs) - 1 - 1 ≡ n = omega arith in
    ap (λ x. x ∷ rest) first ∙ ap (λ x. quote ∷ x) (sym whole ∙ more ∙ ap (λ x. take n rest ++ x ∷ []) at_end ∙ ap (λ k. take k rest ++ quote ∷ []) (sym count))

-- what a literal's bytes begin and end with
pub literal_bounds : (literal body : List ℕ) → literal ≡ quote ∷ (body ++ quote ∷ []) → IsQuoted literal
literal_bounds literal body is =
    let count = ap length is ∙ ap suc (length-append body (quote ∷ [])) in
    let last : get_or (quote ∷ (body ++ quote ∷ [])) (suc (length body)) 0 ≡ quote = get_or_at body quote [] 0 (length body) refl in
    let place : length literal - 1 ≡ suc (length body) = omega (arith, count) in
    (omega (arith, count), ap (λ x. get_or x 0 0) is, ap (λ k. get_or literal k 0) place ∙ ap (λ x. get_or x (suc (length body)) 0) is ∙ last)

-- what unescaping the bytes between the quotes says of a literal
pub text_said : {X : Type 0} (bytes_of : X → List ℕ) (literal body : List ℕ) (found : Option X) → literal ≡ quote ∷ (body ++ quote ∷ []) → option_map bytes_of found ≡ unescaped false body → IfSome found (λ x. SpellsText literal (bytes_of x))
text_said bytes_of literal body None is e = tt
text_said bytes_of literal body (Some x) is e =
    let says = subst (Unescaped [] body) (sym e) (unescaped_says false body) in
    (says.0, is ∙ ap (λ y. quote ∷ (y ++ quote ∷ [])) says.1)

pub text_unsaid : {X : Type 0} (bytes_of : X → List ℕ) (literal body : List ℕ) (found : Option X) → literal ≡ quote ∷ (body ++ quote ∷ []) → option_map bytes_of found ≡ unescaped false body → IfNone found ((cs : List ℕ) → SpellsText literal cs → ⊥)
text_unsaid bytes_of literal body None is e = λ cs spells.
    let joined = sym is ∙ spells.1 in
    let same : body ++ quote ∷ [] ≡ characters_bytes cs ++ quote ∷ [] = cc joined in
    let body_is = append_cancel_right body (characters_bytes cs) (quote ∷ []) same in
    let reads = ap (unescaped false) body_is ∙ unescaped_characters cs spells.0 in
    cc (e, reads)
text_unsaid bytes_of literal body (Some x) is e = tt

-- a literal's characters are those that its bytes give back
pub literal_once : (text cs others : List ℕ) → SpellsText text cs → SpellsText text others → cs ≡ others
literal_once text cs others h k =
    let joined = sym h.1 ∙ k.1 in
    let same : characters_bytes cs ++ quote ∷ [] ≡ characters_bytes others ++ quote ∷ [] = cc joined in
    let bytes = append_cancel_right (characters_bytes cs) (characters_bytes others) (quote ∷ []) same in
    let both = sym (unescaped_characters cs h.0) ∙ ap (unescaped false) bytes ∙ unescaped_characters others k.0 in
    cc both
