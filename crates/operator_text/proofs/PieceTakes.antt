-- What is read as an expression in a statement is spelled so.
use Rattle.std.proofs.Common.{◌≡◌, ◌≤◌, ℕ, List, ◌∷◌, length, Some, ap, subst, ◌∙◌, arith}
use Rattle.gil_lexer.specs.declared.signs.Sign.TheVariants as signs
use Rattle.gil_lexemes.specs.declared.standing.Lexeme.{Lexeme}
use Rattle.gil_lexemes.specs.Lists.{separated_at}
use Rattle.gil_lexemes.specs.Reading.{sign_at}
use Rattle.gil_lexemes.proofs.ReadingLaws.{bind_some, sign_takes}
use Rattle.gil_grammar.specs.Lists.{SpellsSeparated}
use Rattle.gil_grammar.specs.Vocabulary.{closing_parenthesis, comma, semicolon}
use Rattle.gil_grammar.proofs.AssertionLaws.{in_place}
use Rattle.gil_grammar.proofs.ListLaws.{Takes, separated_takes}
use Rattle.source_operators.specs.Pure.{PureExpression}
use Rattle.operator_text.specs.Apart.{AreApart}
use Rattle.operator_text.specs.Grammar.{SpellsExpression}
use Rattle.operator_text.specs.PieceReading.{expression_from, whole_at, value_at, argument_at, pair_at, arguments_at}
use Rattle.operator_text.specs.Pieces.{SpellsWhole, SpellsValue, SpellsArgument, SpellsPair, SpellsArguments}
use Rattle.operator_text.specs.Signs.{Signs, tight}
use Rattle.operator_text.proofs.ExpressionTakes.{read_is_spelled}

-- `)` and `;`
closed : (ls end rest : List Lexeme) → sign_at signs.RightParenthesis ls ≡ Some end → sign_at signs.Semicolon end ≡ Some rest
    → ls ≡ closing_parenthesis ∷ semicolon ∷ rest
closed ls end rest is is' =
    sign_takes signs.RightParenthesis ls end is ∙ ap (λ (m : List Lexeme). closing_parenthesis ∷ m) (sign_takes signs.Semicolon end rest is')

module _ {P J : Type 0} (g : Signs P J) (apart : AreApart g) where
  pub from_takes : (k : ℕ) → k ≤ tight → Takes (SpellsExpression g k) (expression_from g k)
  from_takes k le ls found is = (read_is_spelled g apart (length ls) k ls found le is).0

  pub whole_takes : Takes (SpellsWhole g) (whole_at g)
  whole_takes ls found is = from_takes 0 (omega arith) ls found is

  pub value_takes : Takes (SpellsValue g) (value_at g)
  unfolding value_at
  value_takes ls found is =
      let e = bind_some (whole_at g ls) _ found is in
      let r = bind_some (sign_at signs.Semicolon e.0.1) _ found e.2 in
      in_place (SpellsValue g) ls e.0.0 r.0 found r.2 (subst (SpellsWhole g e.0.0 ls) (sign_takes signs.Semicolon e.0.1 r.0 r.1) (whole_takes ls e.0 e.1))

  pub argument_takes : Takes (SpellsArgument g) (argument_at g)
  unfolding argument_at
  argument_takes ls found is =
      let a = bind_some (sign_at signs.LeftParenthesis ls) _ found is in
      let e = bind_some (whole_at g a.0) _ found a.2 in
      let end = bind_some (sign_at signs.RightParenthesis e.0.1) _ found e.2 in
      let r = bind_some (sign_at signs.Semicolon end.0) _ found end.2 in
      in_place (SpellsArgument g) ls e.0.0 r.0 found r.2 (
        a.0,
        sign_takes signs.LeftParenthesis ls a.0 a.1,
        subst (SpellsWhole g e.0.0 a.0) (closed e.0.1 end.0 r.0 end.1 r.1) (whole_takes a.0 e.0 e.1),
      )

  abbrev pub SpellsPaired : PureExpression P J × PureExpression P J → List Lexeme → List Lexeme → Type 0
  SpellsPaired both ls rest = SpellsPair g both.0 both.1 ls rest

  pub pair_takes : Takes SpellsPaired (pair_at g)
  unfolding pair_at
  pair_takes ls found is =
      let a = bind_some (sign_at signs.LeftParenthesis ls) _ found is in
      let d = bind_some (whole_at g a.0) _ found a.2 in
      let b = bind_some (sign_at signs.Comma d.0.1) _ found d.2 in
      let e = bind_some (whole_at g b.0) _ found b.2 in
      let end = bind_some (sign_at signs.RightParenthesis e.0.1) _ found e.2 in
      let r = bind_some (sign_at signs.Semicolon end.0) _ found end.2 in
      in_place SpellsPaired ls (d.0.0, e.0.0) r.0 found r.2 (
        a.0,
        b.0,
        sign_takes signs.LeftParenthesis ls a.0 a.1,
        subst (SpellsWhole g d.0.0 a.0) (sign_takes signs.Comma d.0.1 b.0 b.1) (whole_takes a.0 d.0 d.1),
        subst (SpellsWhole g e.0.0 b.0) (closed e.0.1 end.0 r.0 end.1 r.1) (whole_takes b.0 e.0 e.1),
      )

  pub arguments_take : Takes (SpellsArguments g) (arguments_at g)
  unfolding arguments_at
  arguments_take ls found is =
      let es = bind_some (separated_at (whole_at g) signs.RightParenthesis signs.Comma ls) _ found is in
      let end = bind_some (sign_at signs.RightParenthesis es.0.1) _ found es.2 in
      let r = bind_some (sign_at signs.Semicolon end.0) _ found end.2 in
      in_place (SpellsArguments g) ls es.0.0 r.0 found r.2
      (subst (SpellsSeparated (SpellsWhole g) comma es.0.0 ls) (closed es.0.1 end.0 r.0 end.1 r.1)
      (separated_takes (SpellsWhole g) (whole_at g) whole_takes signs.RightParenthesis signs.Comma ls es.0 es.1))
