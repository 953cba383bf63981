-- Stars at the front, one at a time.
use Rattle.std.proofs.Common.{◌≡◌, ◌<◌, List, [], ◌∷◌, length, true, false, cond, refl, ap, arith}
use Rattle.gil_lexer.specs.declared.signs.Sign.TheVariants.{Star}
use Rattle.gil_lexemes.specs.declared.standing.Lexeme.{Lexeme}
use Rattle.gil_lexemes.specs.Reading.{first_form, behind, is_sign}
use Rattle.clike_grammar.specs.Reading.{behind_stars}

pub star_passed : (ls : List Lexeme) → is_sign Star (first_form ls) ≡ true → behind_stars ls ≡ behind_stars (behind ls)
star_passed [] h = absurd (cc h)
star_passed (l ∷ ls) h = ap (λ b. cond b (behind_stars ls) (l ∷ ls)) h

pub no_star : (ls : List Lexeme) → is_sign Star (first_form ls) ≡ false → behind_stars ls ≡ ls
no_star [] h = refl
no_star (l ∷ ls) h = ap (λ b. cond b (behind_stars ls) (l ∷ ls)) h

pub star_shorter : (ls : List Lexeme) → is_sign Star (first_form ls) ≡ true → length (behind ls) < length ls
star_shorter [] h = absurd (cc h)
star_shorter (l ∷ ls) h = omega arith
