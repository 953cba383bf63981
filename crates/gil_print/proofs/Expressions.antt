-- Printed expressions.
use Rattle.std.proofs.Common.{◌≡◌, ℕ, ◌+◌, ◌≤◌, List, ◌∷◌, ◌++◌, Option, Some, refl, sym, subst, append_assoc}
use Rattle.std.specs.Prelude.{codes}
use Rattle.std.specs.List.{flat_map, join_by}
use Rattle.gil_values.specs.Printed.{printed_value}
use Rattle.gil_lexer.specs.declared.forms.Form.{Form}
use Rattle.gil_lexer.specs.declared.forms.Form.TheVariants as forms
use Rattle.gil_lexer.specs.declared.signs.Sign.TheVariants as signs
use Rattle.gil_lexemes.specs.declared.standing.Lexeme.{Lexeme}
use Rattle.gil_lexemes.specs.declared.standing.Lexeme.TheVariants as lexemes
use Rattle.gil_lexemes.specs.Reading.{form_of}
use Rattle.gil_syntax.specs.Pure.{PureExpr, literal, name, logical, list_of, unary_of, binary_of, PureExprs, no_exprs, expr_and}
use Rattle.gil_grammar.specs.declared.positions.Position.{Position}
use Rattle.gil_grammar.specs.Expressions.{SpellsExpr, SpellsElements, SpellsMoreElements, SpellsExprs}
use Rattle.gil_grammar.specs.Nesting.{most_open, open_behind}
use Rattle.gil_grammar.specs.Vocabulary as grammar
use Rattle.syntax_print.specs.Expressions as printed
use Rattle.syntax_print.specs.Expressions.{printed_expr, printed_elements, printed_exprs}
use Rattle.gil_print.proofs.Lexing.{Stands, Written, Lexes}
use Rattle.gil_print.proofs.Operators.{unary_lexes, before_written, before_lexes, between_opens, between_takes, between_stops, between_lexes}
use Rattle.gil_print.proofs.Pieces.{Prints, PrintsFirst, PrintsMore, first_of, three, separated_prints}
use Rattle.gil_print.proofs.Tokens.{Opens, named, valued, logical_token, lexes_of, closed, comma_step, left_bracket, right_bracket, right_parenthesis}

pub four : (a b c d e : List ℕ) → (((a ++ b) ++ c) ++ d) ++ e ≡ a ++ (b ++ (c ++ (d ++ e)))
four a b c d e = simp append_assoc

pub five : (a b c d e f : List ℕ) → ((((a ++ b) ++ c) ++ d) ++ e) ++ f ≡ a ++ (b ++ (c ++ (d ++ (e ++ f))))
five a b c d e f = simp append_assoc

-- behind a lexeme that is no bracket as many are open
pub within_of : (l : Lexeme) (b : Option Form) (count : ℕ) → Opens l → Stands b count l → count ≤ most_open
within_of l b count opens s = subst (λ n. n ≤ most_open) (opens count) s.within

pub behind_of : (l : Lexeme) (b : Option Form) (count : ℕ) (rest : List Lexeme) → Opens l → Written b (open_behind count l) rest → Written b count rest
behind_of l b count rest opens w = subst (λ n. Written b n rest) (opens count) w

-- behind the lexeme that closes a bracket
pub record Closed (last : Form) (count : ℕ) (rest : List Lexeme) : Type 0 where
  pub within : count ≤ most_open
  pub behind : Written (Some last) count rest

pub parenthesis_closed : (b : Option Form) (count : ℕ) (rest : List Lexeme) → Written b (count + 1) (grammar.closing_parenthesis ∷ rest) → Closed (forms.Sign signs.RightParenthesis) count rest
parenthesis_closed b count rest w = record {
  within = subst (λ n. n ≤ most_open) (closed count) w.0.within;
  behind = subst (λ n. Written (Some (forms.Sign signs.RightParenthesis)) n rest) (closed count) w.1;
}

pub bracket_closed : (b : Option Form) (count : ℕ) (rest : List Lexeme) → Written b (count + 1) (grammar.closing_bracket ∷ rest) → Closed (forms.Sign signs.RightBracket) count rest
bracket_closed b count rest w = record {
  within = subst (λ n. n ≤ most_open) (closed count) w.0.within;
  behind = subst (λ n. Written (Some (forms.Sign signs.RightBracket)) n rest) (closed count) w.1;
}

pub brace_closed : (b : Option Form) (count : ℕ) (rest : List Lexeme) → Written b (count + 1) (grammar.closing_brace ∷ rest) → Closed (forms.Sign signs.RightBrace) count rest
brace_closed b count rest w = record {
  within = subst (λ n. n ≤ most_open) (closed count) w.0.within;
  behind = subst (λ n. Written (Some (forms.Sign signs.RightBrace)) n rest) (closed count) w.1;
}

-- the elements of a list in brackets, or an operand in its bracket
abbrev bracketed : List ℕ → List ℕ → List ℕ → List ℕ → List ℕ
bracketed opening inner closing bytes = (opening ++ inner ++ closing) ++ bytes

mutual
  pub expr_prints : (position : Position) (e : PureExpr) (from rest : List Lexeme) (b : Option Form) (count : ℕ) → SpellsExpr position e from rest → Written b count from
      → Prints (SpellsExpr position e) (printed_expr e) count rest
  expr_prints position (literal v) from rest b count (l, says, is) w =
      let here = subst (Written b count) is w in
      let v' = valued v l says here.0.spelled in
      record {
        last = form_of l;
        behind = behind_of l _ count rest v'.opens here.1;
        again = λ b' bytes ls takes stops h.
            (l ∷ ls, (l, says, refl), lexes_of l (printed_value v) v'.opens v'.token b' count bytes ls (v'.may b' takes) (within_of l b count v'.opens here.0) stops h);
      }
  expr_prints position (name x) from rest b count (l, is_name, is) w =
      let here = subst (Written b count) is w in
      let n = named position x l is_name here.0.spelled in
      record {
        last = form_of l;
        behind = behind_of l _ count rest n.opens here.1;
        again = λ b' bytes ls takes stops h.
            (l ∷ ls, (l, is_name, refl), lexes_of l x n.opens n.token b' count bytes ls (n.may b') (within_of l b count n.opens here.0) stops h);
      }
  expr_prints position (logical x) from rest b count (there, is) w =
      let here = subst (Written b count) is w in
      record {
        last = forms.Logical;
        behind = here.1;
        again = λ b' bytes ls takes stops h.
            (lexemes.Logical x ∷ ls, (there, refl), lexes_of (lexemes.Logical x) x (λ n. refl) (logical_token x here.0.spelled) b' count bytes ls tt here.0.within stops h);
      }
  expr_prints position (list_of es) from rest b count (inner, is, k) w =
      let here = subst (Written b count) is w in
      let elements = elements_print position es inner (grammar.closing_bracket ∷ rest) _ (count + 1) k here.1 in
      let behind = bracket_closed _ count rest elements.behind in
      let text = join_by (λ printed. printed) (codes ", ") (printed_elements es) in
      record {
        last = forms.Sign signs.RightBracket;
        behind = behind.behind;
        again = λ b' bytes ls takes stops h.
            let x = elements.again (Some (forms.Sign signs.LeftBracket)) (93 ∷ bytes) (grammar.closing_bracket ∷ ls) refl refl
            (λ b''. right_bracket b'' count bytes ls behind.within h) in (
              grammar.opening_bracket ∷ x.0,
              (x.0, refl, x.1),
              subst (λ t. Lexes b' count t (grammar.opening_bracket ∷ x.0)) (sym (three (codes "[") text (codes "]") bytes))
                  (left_bracket b' count (text ++ 93 ∷ bytes) x.0 here.0.within x.2),
            );
      }
  expr_prints position (unary_of op e) from rest b count (inner, is, k) w =
      let here = subst (Written b count) is w in
      let operand = expr_prints position e inner (grammar.closing_parenthesis ∷ rest) _ (count + 1) k here.1.1 in
      let behind = parenthesis_closed _ count rest operand.behind in
      record {
        last = forms.Sign signs.RightParenthesis;
        behind = behind.behind;
        again = λ b' bytes ls takes stops h.
            let x = operand.again (Some (forms.Sign signs.LeftParenthesis)) (41 ∷ bytes) (grammar.closing_parenthesis ∷ ls) refl refl
            (right_parenthesis _ count bytes ls behind.within h) in (
              lexemes.Word (grammar.unary_word op) ∷ grammar.opening_parenthesis ∷ x.0,
              (x.0, refl, x.1),
              subst (λ t. Lexes b' count t (lexemes.Word (grammar.unary_word op) ∷ grammar.opening_parenthesis ∷ x.0))
                  (sym (four (printed.unary_name op) (codes "(") (printed_expr e) (codes ")") bytes))
                  (unary_lexes op b' count (printed_expr e ++ 41 ∷ bytes) x.0 here.1.0.within x.2),
            );
      }
  expr_prints position (binary_of op d e) from rest b count (left, right, is, k, j) w =
      let opened = before_written op b count left (subst (Written b count) is w) in
      let between = grammar.between_operands op in
      let first = expr_prints position d left (between ∷ right) _ (count + 1) k opened.behind in
      let next = behind_of between _ (count + 1) right (between_opens op) first.behind.1 in
      let second = expr_prints position e right (grammar.closing_parenthesis ∷ rest) _ (count + 1) j next in
      let behind = parenthesis_closed _ count rest second.behind in
      record {
        last = forms.Sign signs.RightParenthesis;
        behind = behind.behind;
        again = λ b' bytes ls takes stops h.
            let y = second.again (Some (form_of between)) (41 ∷ bytes) (grammar.closing_parenthesis ∷ ls) (between_takes op) refl
            (right_parenthesis _ count bytes ls behind.within h) in
            let x = first.again (Some (forms.Sign signs.LeftParenthesis)) (printed.between_operands op ++ (printed_expr e ++ 41 ∷ bytes)) (between ∷ y.0) refl
            (between_stops op (printed_expr e ++ 41 ∷ bytes))
            (between_lexes op (Some first.last) (count + 1) (printed_expr e ++ 41 ∷ bytes) y.0 opened.within y.2) in (
              grammar.before_operands op x.0,
              (x.0, y.0, refl, x.1, y.1),
              subst (λ t. Lexes b' count t (grammar.before_operands op x.0))
                  (sym (five (printed.before_operands op) (printed_expr d) (printed.between_operands op) (printed_expr e) (codes ")") bytes))
                  (before_lexes op b' count (printed_expr d ++ (printed.between_operands op ++ (printed_expr e ++ 41 ∷ bytes))) x.0 opened.within x.2),
            );
      }

  elements_print : (position : Position) (es : PureExprs) (from rest : List Lexeme) (b : Option Form) (count : ℕ) → SpellsElements position es from rest → Written b count from
      → PrintsFirst (SpellsElements position es) (join_by (λ printed. printed) (codes ", ") (printed_elements es)) count rest
  elements_print position no_exprs from rest b count is w = record {
    before = b;
    behind = subst (Written b count) is w;
    again = λ b' bytes ls takes stops any. (ls, refl, any b');
  }
  elements_print position (expr_and e es) from rest b count (after, one, more) w =
      let first = expr_prints position e from after b count one w in
      let others = more_elements_print position es after rest _ count more first.behind in
      let later = flat_map (λ printed. codes ", " ++ printed) (printed_elements es) in
      record {
        before = others.before;
        behind = others.behind;
        again = λ b' bytes ls takes stops any.
            let tail = others.again bytes ls stops any in
            let front = first.again b' (later ++ bytes) tail.0 takes (others.stops bytes stops) (tail.2 (Some first.last)) in
            (front.0, (tail.0, front.1, tail.1), subst (λ text. Lexes b' count text front.0) (sym (append_assoc (printed_expr e) later bytes)) front.2);
      }

  more_elements_print : (position : Position) (es : PureExprs) (from rest : List Lexeme) (b : Option Form) (count : ℕ) → SpellsMoreElements position es from rest → Written b count from
      → PrintsMore (SpellsMoreElements position es) (flat_map (λ printed. codes ", " ++ printed) (printed_elements es)) count rest
  more_elements_print position no_exprs from rest b count is w = record {
    before = b;
    behind = subst (Written b count) is w;
    stops = λ bytes h. h;
    again = λ bytes ls h any. (ls, refl, any);
  }
  more_elements_print position (expr_and e es) from rest b count (inner, after, is, one, more) w =
      let here = subst (Written b count) is w in
      let first = expr_prints position e inner after _ count one here.1 in
      let others = more_elements_print position es after rest _ count more first.behind in
      let later = flat_map (λ printed. codes ", " ++ printed) (printed_elements es) in
      record {
        before = others.before;
        behind = others.behind;
        stops = λ bytes h. refl;
        again = λ bytes ls h any.
            let tail = others.again bytes ls h any in
            let front = first.again (Some (forms.Sign signs.Comma)) (later ++ bytes) tail.0 refl (others.stops bytes h) (tail.2 (Some first.last)) in (
              grammar.comma ∷ front.0,
              (front.0, tail.0, refl, front.1, tail.1),
              λ b'. subst (λ text. Lexes b' count text (grammar.comma ∷ front.0)) (sym (three (codes ", ") (printed_expr e) later bytes))
                  (comma_step b' count (printed_expr e ++ (later ++ bytes)) front.0 here.0.within front.2),
            );
      }

-- any number of expressions, with commas between them
pub exprs_print : (position : Position) (es : List PureExpr) (from rest : List Lexeme) (b : Option Form) (count : ℕ) → SpellsExprs position es from rest → Written b count from
    → PrintsFirst (SpellsExprs position es) (printed_exprs es) count rest
exprs_print position =
    separated_prints (SpellsExpr position) printed_expr grammar.comma (codes ", ") (λ n. refl) refl (λ bytes. refl)
    (λ b count bytes ls s b' h. comma_step b' count bytes ls s.within h)
    (λ e from rest b count one w. first_of (expr_prints position e from rest b count one w))
