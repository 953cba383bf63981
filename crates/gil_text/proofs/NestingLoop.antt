-- How many brackets are open, as a loop counts them.
use Rattle.std.proofs.Common.{◌≡◌, ◌≤◌, ◌<◌, ℕ, List, [], ◌∷◌, ◌++◌, length, Option, Some, refl, sym, ap, ◌∙◌, subst, append_assoc, append-nil, arith}
use Rattle.gil_lexer.specs.declared.forms.Form.{Form}
use Rattle.gil_lexer.specs.declared.signs.Sign.TheVariants.{LeftParenthesis, RightParenthesis, LeftBracket, RightBracket, LeftBrace, RightBrace}
use Rattle.gil_lexemes.specs.declared.standing.Lexeme.{Lexeme}
use Rattle.gil_lexemes.specs.declared.standing.Lexeme.TheVariants.{Sign}
use Rattle.gil_lexemes.specs.Reading.{form_of, first_form, behind}
use Rattle.gil_grammar.specs.Nesting.{most_open, open_behind, IsNestedFrom, IsNested}
use Rattle.gil_grammar.proofs.ListLaws.{found_is}
use Rattle.gil_text.specs.Brackets.{open_by}
use Rattle.gil_text.specs.Refusals.{IsTooDeep}

-- Behind the lexemes that were counted so many brackets are open, and the rest of all is still to be counted.
pub record Counted (all rest : List Lexeme) (count : ℕ) : Type 0 where
  pub within : count ≤ most_open
  pub front : List Lexeme
  pub is : all ≡ front ++ rest
  pub onward : (ls : List Lexeme) → IsNested (front ++ ls) → IsNestedFrom count ls
  pub back : (ls : List Lexeme) → IsNestedFrom count ls → IsNested (front ++ ls)

by_form : (count : ℕ) (l : Lexeme) → open_by count (form_of l) ≡ open_behind count l
by_form count (Sign LeftParenthesis) = refl
by_form count (Sign LeftBracket) = refl
by_form count (Sign LeftBrace) = refl
by_form count (Sign RightParenthesis) = refl
by_form count (Sign RightBracket) = refl
by_form count (Sign RightBrace) = refl
by_form count _ = refl

pub counted_first : (all : List Lexeme) → Counted all all 0
counted_first all = record { within = omega arith; front = []; is = refl; onward = λ ls h. h; back = λ ls h. h }

pub counted_all : (all : List Lexeme) (count : ℕ) → Counted all [] count → IsNested all
counted_all all count h = subst IsNested (sym h.is) (h.back [] tt)

module _ (all : List Lexeme) (count after : ℕ) (form : Form) where
  first_more : (l : Lexeme) (ls : List Lexeme) → after ≡ open_behind count l → after ≤ most_open → Counted all (l ∷ ls) count → Counted all ls after
  first_more l ls is within h = record {
    within = within;
    front = h.front ++ l ∷ [];
    is = h.is ∙ sym (append_assoc h.front (l ∷ []) ls);
    onward = λ ks nested. subst (λ n. IsNestedFrom n ks) (sym is) (h.onward (l ∷ ks) (subst IsNested (append_assoc h.front (l ∷ []) ks) nested)).1;
    back = λ ks nested.
        subst IsNested (sym (append_assoc h.front (l ∷ []) ks))
        (h.back (l ∷ ks) (subst (λ n. n ≤ most_open) is within, subst (λ n. IsNestedFrom n ks) is nested));
  }

  pub counted_more : (rest : List Lexeme) → first_form rest ≡ Some form → after ≡ open_by count form → after ≤ most_open → Counted all rest count → Counted all (behind rest) after
  counted_more [] first is within h = absurd (cc first)
  counted_more (l ∷ ls) first is within h = first_more l ls (is ∙ ap (open_by count) (sym (found_is (form_of l) form first)) ∙ by_form count l) within h

  too_deep : (l : Lexeme) (ls : List Lexeme) → after ≡ open_behind count l → most_open < after → Counted all (l ∷ ls) count → IsTooDeep IsNested all (length (l ∷ ls))
  too_deep l ls is past h = record {
    whole = λ nested. let within = (h.onward (l ∷ ls) (subst IsNested h.is nested)).0 in omega (arith, within, is, past);
    front = h.front;
    lexeme = l;
    rest = ls;
    is = h.is;
    before = subst IsNested (append-nil h.front) (h.back [] tt);
    behind = λ nested. let within = (h.onward (l ∷ []) nested).0 in omega (arith, within, is, past);
    many = refl;
  }

  pub counted_too_many : (rest : List Lexeme) → first_form rest ≡ Some form → after ≡ open_by count form → most_open < after → Counted all rest count → IsTooDeep IsNested all (length rest)
  counted_too_many [] first is past h = absurd (cc first)
  counted_too_many (l ∷ ls) first is past h = too_deep l ls (is ∙ ap (open_by count) (sym (found_is (form_of l) form first)) ∙ by_form count l) past h
