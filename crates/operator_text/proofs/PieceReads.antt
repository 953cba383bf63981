-- What is spelled as an expression in a statement is read so.
use Rattle.std.proofs.Common.{◌≡◌, ◌<◌, ℕ, false, List, [], ◌∷◌, length, Some, None, refl, sym, ap, subst, arith}
use Rattle.gil_lexer.specs.declared.signs.Sign.TheVariants as signs
use Rattle.gil_lexemes.specs.declared.standing.Lexeme.{Lexeme}
use Rattle.gil_lexemes.specs.Reading.{Reading, form_of, same_sign}
use Rattle.gil_lexemes.proofs.ReadingLaws.{same_sign-refl}
use Rattle.gil_grammar.specs.Lists.{SpellsMore, SpellsSeparated}
use Rattle.gil_grammar.specs.Vocabulary.{closing_parenthesis, comma, semicolon}
use Rattle.gil_grammar.proofs.ListLaws.{Again, NeverBegins, separated_again}
use Rattle.source_operators.specs.Pure.{PureExpression}
use Rattle.operator_text.specs.Apart.{AreApart}
use Rattle.operator_text.specs.Grammar.{SpellsExpression, Stops}
use Rattle.operator_text.specs.PieceReading.{expression_from, whole_at, value_at, argument_at, pair_at, arguments_at}
use Rattle.operator_text.specs.Pieces.{SpellsWhole, SpellsValue, SpellsArgument, SpellsPair, SpellsArguments}
use Rattle.operator_text.specs.Signs.{Signs, after}
use Rattle.operator_text.proofs.ExpressionReads.{spelled_is_read, shorter}

-- x is read from the lexemes, and those that are left are fewer
pub record IsRead {X : Type 0} (read : List Lexeme → Reading X) (x : X) (ls rest : List Lexeme) : Type 0 where
  pub is : read ls ≡ Some (x, rest)
  pub shorter : length rest < length ls

no_comma : same_sign signs.RightParenthesis signs.Comma ≡ false
unfolding same_sign
no_comma = refl

module _ {P J : Type 0} (g : Signs P J) where
  -- nothing goes on an expression in front of a lexeme that begins nothing there
  abbrev pub Ends : Lexeme → Type 0
  Ends l = after g.dots (form_of l) ≡ None

  pub stops : (k : ℕ) (l : Lexeme) (rest : List Lexeme) → Ends l → Stops g k (l ∷ rest)
  stops k l rest ends a is = absurd (cc)

module _ {P J : Type 0} (g : Signs P J) (apart : AreApart g) where
  pub expression_reads : (k : ℕ) (e : PureExpression P J) (l : Lexeme) (ls rest : List Lexeme) → Ends g l → SpellsExpression g k e ls (l ∷ rest)
      → IsRead (expression_from g k) e ls (l ∷ rest)
  expression_reads k e l ls rest ends h = record {
    is = spelled_is_read g apart e (length ls) k ls (l ∷ rest) h (stops g k l rest ends) (omega arith);
    shorter = shorter g e k ls (l ∷ rest) h;
  }

  pub value_reads : (e : PureExpression P J) (ls rest : List Lexeme) → SpellsValue g e ls rest → IsRead (value_at g) e ls rest
  unfolding value_at
  value_reads e ls rest h =
      let read = expression_reads 0 e semicolon ls rest refl h in
      record { is = rw (read.is, same_sign-refl signs.Semicolon) refl; shorter = omega (arith, read.shorter) }

  pub argument_reads : (e : PureExpression P J) (ls rest : List Lexeme) → SpellsArgument g e ls rest → IsRead (argument_at g) e ls rest
  unfolding argument_at
  argument_reads e ls rest (inner, is, h) =
      let read = expression_reads 0 e closing_parenthesis inner (semicolon ∷ rest) refl h in
      record {
        is = rw (is, same_sign-refl signs.LeftParenthesis, read.is, same_sign-refl signs.RightParenthesis, same_sign-refl signs.Semicolon) refl;
        shorter = omega (arith, ap length is, read.shorter);
      }

  pub pair_reads : (d e : PureExpression P J) (ls rest : List Lexeme) → SpellsPair g d e ls rest → IsRead (pair_at g) (d, e) ls rest
  unfolding pair_at
  pair_reads d e ls rest (first, second, is, h, h') =
      let left = expression_reads 0 d comma first second refl h in
      let right = expression_reads 0 e closing_parenthesis second (semicolon ∷ rest) refl h' in
      record {
        is = rw (is, same_sign-refl signs.LeftParenthesis, left.is, same_sign-refl signs.Comma, right.is, same_sign-refl signs.RightParenthesis, same_sign-refl signs.Semicolon) refl;
        shorter = omega (arith, ap length is, left.shorter, right.shorter);
      }

  -- ---- arguments

  -- an expression that nothing goes on
  abbrev Whole : PureExpression P J → List Lexeme → List Lexeme → Type 0
  Whole e ls rest = SpellsWhole g e ls rest × Stops g 0 rest

  abbrev Anything : List Lexeme → Type 0
  Anything ls = Unit {0}

  whole_again : Again Anything Whole (whole_at g)
  whole_again e ls rest p (h, ends) = record {
    is = spelled_is_read g apart e (length ls) 0 ls rest h ends (omega arith);
    under = tt;
    shorter = shorter g e 0 ls rest h;
  }

  more_ends : (es : List (PureExpression P J)) (ls rest : List Lexeme) → Stops g 0 rest → SpellsMore (SpellsWhole g) comma es ls rest → Stops g 0 ls
  more_ends [] ls rest ends is = subst (Stops g 0) (sym is) ends
  more_ends (e ∷ es) ls rest ends (inner, after, is, one, more) = subst (Stops g 0) (sym is) (stops g 0 comma inner refl)

  more_whole : (es : List (PureExpression P J)) (ls rest : List Lexeme) → Stops g 0 rest → SpellsMore (SpellsWhole g) comma es ls rest
      → SpellsMore Whole comma es ls rest
  more_whole [] ls rest ends is = is
  more_whole (e ∷ es) ls rest ends (inner, after, is, one, more) =
      (inner, after, is, (one, more_ends es after rest ends more), more_whole es after rest ends more)

  all_whole : (es : List (PureExpression P J)) (ls rest : List Lexeme) → Stops g 0 rest → SpellsSeparated (SpellsWhole g) comma es ls rest
      → SpellsSeparated Whole comma es ls rest
  all_whole [] ls rest ends is = is
  all_whole (e ∷ es) ls rest ends (after, one, more) = (after, (one, more_ends es after rest ends more), more_whole es after rest ends more)

  -- where no expression begins with `)`
  pub arguments_read : NeverBegins (SpellsWhole g) signs.RightParenthesis → (es : List (PureExpression P J)) (ls rest : List Lexeme) → SpellsArguments g es ls rest
      → IsRead (arguments_at g) es ls rest
  unfolding arguments_at
  arguments_read never es ls rest h =
      let read = separated_again Anything (λ l more p. tt) Whole (whole_at g) whole_again signs.RightParenthesis signs.Comma (λ e from left i. never e from left i.0) es ls
      (closing_parenthesis ∷ semicolon ∷ rest) tt
      (all_whole es ls (closing_parenthesis ∷ semicolon ∷ rest) (stops g 0 closing_parenthesis (semicolon ∷ rest) refl) h) (same_sign-refl signs.RightParenthesis) no_comma in
      record {
        is = rw (read.is, same_sign-refl signs.RightParenthesis, same_sign-refl signs.Semicolon) refl;
        shorter = omega (arith, read.shorter);
      }
