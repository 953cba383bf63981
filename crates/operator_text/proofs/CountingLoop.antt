-- How many operators there are, as a loop counts them.
use Rattle.std.proofs.Common.{◌≡◌, ◌≤◌, ◌<◌, ℕ, List, [], ◌∷◌, ◌++◌, length, Some, refl, sym, ap, ◌∙◌, subst, append_assoc, append-nil, arith}
use Rattle.gil_lexer.specs.declared.forms.Form.{Form}
use Rattle.gil_lexer.specs.declared.signs.Sign.TheVariants.{EqualEqual, NotEqual, LessEqual, GreaterEqual, AndAnd, OrOr, Plus, Minus, Star, Slash, Percent, Less, Greater, Bang, Ampersand, Dot, LeftBracket, Semicolon, LeftBrace, RightBrace}
use Rattle.gil_lexemes.specs.declared.standing.Lexeme.{Lexeme}
use Rattle.gil_lexemes.specs.declared.standing.Lexeme.TheVariants.{Sign}
use Rattle.gil_lexemes.specs.Reading.{form_of, first_form, behind}
use Rattle.operator_text.specs.Few.{most_operators, operators_behind, AreFewFrom}
use Rattle.gil_grammar.proofs.ListLaws.{found_is}
use Rattle.operator_text.specs.Counting.{operators_by}
use Rattle.gil_text.specs.Refusals.{IsTooDeep}

-- Up to the lexemes that were counted there are so many operators, and the rest of all is still to be counted.
pub record Counted (all rest : List Lexeme) (count : ℕ) : Type 0 where
  pub within : count ≤ most_operators
  pub front : List Lexeme
  pub is : all ≡ front ++ rest
  pub onward : (ls : List Lexeme) → (AreFewFrom 0) (front ++ ls) → AreFewFrom count ls
  pub back : (ls : List Lexeme) → AreFewFrom count ls → (AreFewFrom 0) (front ++ ls)

by_form : (count : ℕ) (l : Lexeme) → operators_by count (form_of l) ≡ operators_behind count l
by_form count (Sign EqualEqual) = refl
by_form count (Sign NotEqual) = refl
by_form count (Sign LessEqual) = refl
by_form count (Sign GreaterEqual) = refl
by_form count (Sign AndAnd) = refl
by_form count (Sign OrOr) = refl
by_form count (Sign Plus) = refl
by_form count (Sign Minus) = refl
by_form count (Sign Star) = refl
by_form count (Sign Slash) = refl
by_form count (Sign Percent) = refl
by_form count (Sign Less) = refl
by_form count (Sign Greater) = refl
by_form count (Sign Bang) = refl
by_form count (Sign Ampersand) = refl
by_form count (Sign Dot) = refl
by_form count (Sign LeftBracket) = refl
by_form count (Sign Semicolon) = refl
by_form count (Sign LeftBrace) = refl
by_form count (Sign RightBrace) = refl
by_form count _ = refl

pub counted_first : (all : List Lexeme) → Counted all all 0
counted_first all = record { within = omega arith; front = []; is = refl; onward = λ ls h. h; back = λ ls h. h }

pub counted_all : (all : List Lexeme) (count : ℕ) → Counted all [] count → (AreFewFrom 0) all
counted_all all count h = subst (AreFewFrom 0) (sym h.is) (h.back [] tt)

module _ (all : List Lexeme) (count after : ℕ) (form : Form) where
  first_more : (l : Lexeme) (ls : List Lexeme) → after ≡ operators_behind count l → after ≤ most_operators → Counted all (l ∷ ls) count → Counted all ls after
  first_more l ls is within h = record {
    within = within;
    front = h.front ++ l ∷ [];
    is = h.is ∙ sym (append_assoc h.front (l ∷ []) ls);
    onward = λ ks few. subst (λ n. AreFewFrom n ks) (sym is) (h.onward (l ∷ ks) (subst (AreFewFrom 0) (append_assoc h.front (l ∷ []) ks) few)).1;
    back = λ ks few.
        subst (AreFewFrom 0) (sym (append_assoc h.front (l ∷ []) ks))
        (h.back (l ∷ ks) (subst (λ n. n ≤ most_operators) is within, subst (λ n. AreFewFrom n ks) is few));
  }

  pub counted_more : (rest : List Lexeme) → first_form rest ≡ Some form → after ≡ operators_by count form → after ≤ most_operators → Counted all rest count → Counted all (behind rest) after
  counted_more [] first is within h = absurd (cc first)
  counted_more (l ∷ ls) first is within h = first_more l ls (is ∙ ap (operators_by count) (sym (found_is (form_of l) form first)) ∙ by_form count l) within h

  too_deep : (l : Lexeme) (ls : List Lexeme) → after ≡ operators_behind count l → most_operators < after → Counted all (l ∷ ls) count → IsTooDeep (AreFewFrom 0) all (length (l ∷ ls))
  too_deep l ls is past h = record {
    whole = λ few. let within = (h.onward (l ∷ ls) (subst (AreFewFrom 0) h.is few)).0 in omega (arith, within, is, past);
    front = h.front;
    lexeme = l;
    rest = ls;
    is = h.is;
    before = subst (AreFewFrom 0) (append-nil h.front) (h.back [] tt);
    behind = λ few. let within = (h.onward (l ∷ []) few).0 in omega (arith, within, is, past);
    many = refl;
  }

  pub counted_too_many : (rest : List Lexeme) → first_form rest ≡ Some form → after ≡ operators_by count form → most_operators < after → Counted all rest count → IsTooDeep (AreFewFrom 0) all (length rest)
  counted_too_many [] first is past h = absurd (cc first)
  counted_too_many (l ∷ ls) first is past h = too_deep l ls (is ∙ ap (operators_by count) (sym (found_is (form_of l) form first)) ∙ by_form count l) past h
