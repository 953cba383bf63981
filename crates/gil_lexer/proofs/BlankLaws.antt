-- Blanks and comments: what is passed is blank, and what is blank is passed.
use Rattle.std.proofs.Common.{◌≡◌, ◌≢◌, ◌⊎◌, ℕ, Bool, true, false, not, eqb, List, [], ◌∷◌, ◌++◌, append_assoc, append-nil, refl, ap, sym, ◌∙◌, inl, inr, subst}
use Rattle.std.specs.List.{list_all, concat, AllByRecursion}
use Rattle.std.proofs.lemmas.Bool.{cases_Bool, and_from, and_parts, eqb-true, not-true, not_from_false, cond-true, cond-false, and_right}
use Rattle.gil_lexer.specs.Bytes.{line_feed, slash, is_blank, begins, begins_comment}
use Rattle.gil_lexer.specs.Reading.{after_blanks}
use Rattle.gil_lexer.specs.Texts.{AreOfOneLine, IsBlank, AreBlanks, AreLastBlanks}

-- neither a blank nor a comment begins the text
pub record IsStart (text : List ℕ) : Type 0 where
  pub blank : begins is_blank text ≡ false
  pub comment : begins_comment text ≡ false

-- the passing of blanks, byte by byte
line_feed_step : (b : ℕ) (bs : List ℕ) → eqb b line_feed ≡ true → after_blanks true (b ∷ bs) ≡ after_blanks false bs
line_feed_step b bs e = ap (λ t. after_blanks (not t) bs) e

inside_step : (b : ℕ) (bs : List ℕ) → eqb b line_feed ≡ false → after_blanks true (b ∷ bs) ≡ after_blanks true bs
inside_step b bs e = ap (λ t. after_blanks (not t) bs) e

blank_step : (b : ℕ) (bs : List ℕ) → is_blank b ≡ true → after_blanks false (b ∷ bs) ≡ after_blanks false bs
blank_step b bs e = cond-true _ _ _ e

comment_step : (b : ℕ) (bs : List ℕ) → is_blank b ≡ false → begins_comment (b ∷ bs) ≡ true → after_blanks false (b ∷ bs) ≡ after_blanks true bs
comment_step b bs e comment = cond-false _ _ _ e ∙ cond-true _ _ _ comment

start_step : (b : ℕ) (bs : List ℕ) → is_blank b ≡ false → begins_comment (b ∷ bs) ≡ false → after_blanks false (b ∷ bs) ≡ b ∷ bs
start_step b bs e comment = cond-false _ _ _ e ∙ cond-false _ _ _ comment

-- a comment's inside is passed, with its line feed
skip_inside : (inside rest : List ℕ) → AreOfOneLine inside → after_blanks true ((inside ++ line_feed ∷ []) ++ rest) ≡ after_blanks false rest
skip_inside [] rest e = refl
skip_inside (b ∷ bs) rest e =
    let parts = and_parts (not (eqb b line_feed)) (list_all (λ c. not (eqb c line_feed)) bs) e in
    inside_step b ((bs ++ line_feed ∷ []) ++ rest) (not-true _ parts.0) ∙ skip_inside bs rest parts.1

skip_last : (inside : List ℕ) → AreOfOneLine inside → after_blanks true inside ≡ []
skip_last [] e = refl
skip_last (b ∷ bs) e =
    let parts = and_parts (not (eqb b line_feed)) (list_all (λ c. not (eqb c line_feed)) bs) e in
    inside_step b bs (not-true _ parts.0) ∙ skip_last bs parts.1

skip_piece : (piece rest : List ℕ) → IsBlank piece → after_blanks false (piece ++ rest) ≡ after_blanks false rest
skip_piece piece rest (inl (b, e, is)) = rw (is, e) refl
skip_piece piece rest (inr (inside, e, is)) = rw is (skip_inside inside rest e)

skip_pieces : (pieces : List (List ℕ)) (rest : List ℕ) → AllByRecursion IsBlank pieces → after_blanks false (concat pieces ++ rest) ≡ after_blanks false rest
skip_pieces [] rest h = refl
skip_pieces (piece ∷ pieces) rest h =
    ap (after_blanks false) (append_assoc piece (concat pieces) rest) ∙ skip_piece piece (concat pieces ++ rest) h.0 ∙ skip_pieces pieces rest h.1

-- blanks are passed
pub skip_blanks : (gap rest : List ℕ) → AreBlanks gap → after_blanks false (gap ++ rest) ≡ after_blanks false rest
skip_blanks gap rest (pieces, h, is) = rw is (skip_pieces pieces rest h)

pub stop_at_start : (text : List ℕ) → IsStart text → after_blanks false text ≡ text
stop_at_start [] h = refl
stop_at_start (b ∷ bs) h = start_step b bs h.blank h.comment

pub skip_last_blanks : (gap : List ℕ) → AreLastBlanks gap → after_blanks false gap ≡ []
skip_last_blanks gap (inl blanks) = ap (after_blanks false) (sym (append-nil gap)) ∙ skip_blanks gap [] blanks
skip_last_blanks gap (inr (blanks, inside, h, e, is)) =
    rw is (skip_blanks blanks (slash ∷ slash ∷ inside) h ∙ skip_last inside e)

-- a piece more
pub blanks_none : AreBlanks []
blanks_none = ([], tt, refl)

piece_more : (piece gap : List ℕ) → IsBlank piece → AreBlanks gap → AreBlanks (piece ++ gap)
piece_more piece gap h (pieces, all, is) = (piece ∷ pieces, (h, all), ap (λ x. piece ++ x) is)

piece_more_last : (piece gap : List ℕ) → IsBlank piece → AreLastBlanks gap → AreLastBlanks (piece ++ gap)
piece_more_last piece gap h (inl blanks) = inl (piece_more piece gap h blanks)
piece_more_last piece gap h (inr (blanks, inside, all, e, is)) =
    inr (piece ++ blanks, inside, piece_more piece blanks h all, e, ap (λ x. piece ++ x) is ∙ sym (append_assoc piece blanks (slash ∷ slash ∷ inside)))

-- What the passing of blanks leaves: nothing behind the last blanks, or a token's start behind whole blanks.
abbrev pub Outside : List ℕ → List ℕ → Type 0
Outside bs rest = ((rest ≡ []) × AreLastBlanks bs) ⊎ ((gap : List ℕ) × AreBlanks gap × (bs ≡ gap ++ rest) × IsStart rest × (rest ≢ []))

-- the same within a comment
abbrev Inside : List ℕ → List ℕ → Type 0
Inside bs rest =
    ((rest ≡ []) × AreOfOneLine bs)
    ⊎ ((inside behind : List ℕ) × AreOfOneLine inside × (bs ≡ inside ++ line_feed ∷ behind) × Outside behind rest)

inside_more : (b : ℕ) (bs rest : List ℕ) → not (eqb b line_feed) ≡ true → Inside bs rest → Inside (b ∷ bs) rest
inside_more b bs rest other (inl (none, e)) = inl (none, and_from _ _ other e)
inside_more b bs rest other (inr (inside, behind, e, is, parts)) = inr (b ∷ inside, behind, and_from _ _ other e, ap (λ x. b ∷ x) is, parts)

blank_more : (b : ℕ) (bs rest : List ℕ) → is_blank b ≡ true → Outside bs rest → Outside (b ∷ bs) rest
blank_more b bs rest e (inl (none, last)) = inl (none, piece_more_last (b ∷ []) bs (inl (b, e, refl)) last)
blank_more b bs rest e (inr (gap, blanks, is, start, some)) = inr (b ∷ gap, piece_more (b ∷ []) gap (inl (b, e, refl)) blanks, ap (λ x. b ∷ x) is, start, some)

-- a whole comment before the rest
comment_piece : (inside : List ℕ) → AreOfOneLine inside → IsBlank (slash ∷ slash ∷ (inside ++ line_feed ∷ []))
comment_piece inside e = inr (inside, e, refl)

regroup : (inside behind : List ℕ) → slash ∷ slash ∷ (inside ++ line_feed ∷ behind) ≡ (slash ∷ slash ∷ (inside ++ line_feed ∷ [])) ++ behind
regroup inside behind = ap (λ x. slash ∷ slash ∷ x) (sym (append_assoc inside (line_feed ∷ []) behind))

comment_more : (bs rest : List ℕ) → Inside bs rest → Outside (slash ∷ slash ∷ bs) rest
comment_more bs rest (inl (none, e)) = inl (none, inr ([], bs, blanks_none, e, refl))
comment_more bs rest (inr (inside, behind, e, is, inl (none, last))) =
    inl (none, subst AreLastBlanks (sym (ap (λ x. slash ∷ slash ∷ x) is ∙ regroup inside behind)) (piece_more_last _ behind (comment_piece inside e) last))
comment_more bs rest (inr (inside, behind, e, is, inr (gap, blanks, split, start, some))) =
    inr (
      (slash ∷ slash ∷ (inside ++ line_feed ∷ [])) ++ gap,
      piece_more _ gap (comment_piece inside e) blanks,
      ap (λ x. slash ∷ slash ∷ x) is ∙ regroup inside behind ∙ ap (λ x. (slash ∷ slash ∷ (inside ++ line_feed ∷ [])) ++ x) split ∙ sym (append_assoc (slash ∷ slash ∷ (inside ++ line_feed ∷ [])) gap rest),
      start,
      some,
    )

start_here : (b : ℕ) (bs : List ℕ) → is_blank b ≡ false → begins_comment (b ∷ bs) ≡ false → Outside (b ∷ bs) (b ∷ bs)
start_here b bs blank comment = inr ([], blanks_none, refl, record { blank = blank; comment = comment }, λ is. cc is)

-- within a comment: the bytes to its line feed, and what is left behind it
abbrev InsideAt : List ℕ → Type 0
InsideAt bs = Inside bs (after_blanks true bs)

abbrev OutsideAt : List ℕ → Type 0
OutsideAt bs = Outside bs (after_blanks false bs)

-- a `/` and a comment behind it
second_slash : (b d : ℕ) (bs : List ℕ) → begins_comment (b ∷ d ∷ bs) ≡ true → (b ≡ slash) × (d ≡ slash)
second_slash b d bs e = let parts = and_parts (eqb b slash) (eqb d slash) e in (eqb-true b slash parts.0, eqb-true d slash parts.1)

abbrev PartsAt : Bool → List ℕ → Type 0
PartsAt true = InsideAt
PartsAt false = OutsideAt

after_parts : (inside : Bool) (bs : List ℕ) → PartsAt inside bs
after_parts true [] = inl (refl, refl)
after_parts true (b ∷ bs) =
    elim (cases_Bool (eqb b line_feed)) [
      | inl is ↦
          subst (Inside (b ∷ bs)) (sym (line_feed_step b bs is)) (inr ([], bs, refl, ap (λ x. x ∷ bs) (eqb-true b 10 is), after_parts false bs))
      | inr other ↦
          subst (Inside (b ∷ bs)) (sym (inside_step b bs other)) (inside_more b bs (after_blanks true bs) (not_from_false _ other) (after_parts true bs))
    ]
after_parts false [] = inl (refl, inl blanks_none)
after_parts false (b ∷ []) =
    elim (cases_Bool (is_blank b)) [
      | inl blank ↦ subst (Outside (b ∷ [])) (sym (blank_step b [] blank)) (blank_more b [] [] blank (inl (refl, inl blanks_none)))
      | inr token ↦
          let other = and_right (eqb b slash) false refl in
          subst (Outside (b ∷ [])) (sym (start_step b [] token other)) (start_here b [] token other)
    ]
after_parts false (b ∷ d ∷ bs) =
    elim (cases_Bool (is_blank b)) [
      | inl blank ↦
          subst (Outside (b ∷ d ∷ bs)) (sym (blank_step b (d ∷ bs) blank)) (blank_more b (d ∷ bs) (after_blanks false (d ∷ bs)) blank (after_parts false (d ∷ bs)))
      | inr token ↦ elim (cases_Bool (begins_comment (b ∷ d ∷ bs))) [
        | inl comment ↦
            let slashes = second_slash b d bs comment in
            let no_end : eqb d line_feed ≡ false = rw slashes.1 refl in
            let step = comment_step b (d ∷ bs) token comment ∙ inside_step d bs no_end in
            let slashed : b ∷ d ∷ bs ≡ slash ∷ slash ∷ bs = rw (slashes.0, slashes.1) refl in
            subst (Outside (b ∷ d ∷ bs)) (sym step)
            (subst (λ x. Outside x (after_blanks true bs)) (sym slashed) (comment_more bs (after_blanks true bs) (after_parts true bs)))
        | inr other ↦ subst (Outside (b ∷ d ∷ bs)) (sym (start_step b (d ∷ bs) token other)) (start_here b (d ∷ bs) token other)
      ]
    ]

pub blanks_parts : (bs : List ℕ) → Outside bs (after_blanks false bs)
blanks_parts bs = after_parts false bs
