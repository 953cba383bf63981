-- Blanks and comments.
use Rattle.std.proofs.Common.{◌≡◌, ℕ, true, false, not, cond, eqb, List, [], ◌∷◌, refl, sym, drop, get_or}
use Rattle.gil_lexer.specs.Bytes.{line_feed, slash}
use Rattle.gil_lexer.specs.Reading.{after_comment, after_blanks}

-- within a comment the blanks go on behind its line feed
pub after_comment_is : (bs : List ℕ) → after_blanks true bs ≡ after_blanks false (after_comment bs)
after_comment_is [] = refl
after_comment_is (b ∷ bs) =
    elim (eqb b line_feed) as (λ t. after_blanks (not t) bs ≡ after_blanks false (cond t bs (after_comment bs))) [
      | true ↦ refl
      | false ↦ after_comment_is bs
    ]

-- a comment is passed from its `//` on
pub comment_turn : (rest : List ℕ) → get_or rest 0 0 ≡ slash → get_or rest 1 0 ≡ slash → after_blanks false (after_comment (drop 2 rest)) ≡ after_blanks false rest
comment_turn [] first second = cc
comment_turn (b ∷ []) first second = cc
comment_turn (b ∷ d ∷ bs) first second = rw (first, second) (sym (after_comment_is bs))
