-- What holds of lexemes and is kept by dropping the first of them holds of those behind an expression, and names that have a test by what
-- holds of the lexemes have it in the expression.
use Rattle.std.proofs.Common.{◌≡◌, inl, inr, ℕ, List, [], ◌∷◌, ◌&&◌, Some, refl, sym, subst}
use Rattle.std.specs.Prelude.{IsTrue}
use Rattle.std.specs.List.{list_all}
use Rattle.std.proofs.lemmas.Bool.{and_from}
use Rattle.gil_lexemes.specs.declared.standing.Lexeme.{Lexeme}
use Rattle.gil_lexemes.specs.declared.standing.Lexeme.TheVariants.{Name}
use Rattle.gil_grammar.specs.Lists.{SpellsMore}
use Rattle.gil_grammar.specs.Vocabulary.{opening_parenthesis, closing_parenthesis, closing_bracket, comma, semicolon}
use Rattle.source_language.specs.Names.{is_source_name}
use Rattle.source_operators.specs.Names.{is_source_expression}
use Rattle.source_operators.specs.Operands.{named}
use Rattle.source_operators.specs.Pure.{PureExpression, constant, variable, brackets, prefixed, joined, skipping}
use Rattle.operator_text.specs.declared.strengths.After.{After}
use Rattle.operator_text.specs.declared.strengths.After.TheVariants.{Infix, Connects, Bracketed, Dotted}
use Rattle.operator_text.specs.Grammar.{ampersand, SpellsExpression}
use Rattle.operator_text.specs.Pieces.{SpellsWhole, SpellsArgument, SpellsPair, SpellsArguments}
use Rattle.operator_text.specs.Signs.{Signs, tight, strength}
use Rattle.operator_text.proofs.ExpressionReads.{SpelledSide, SpelledJoined}

module _ {P J : Type 0} (g : Signs P J) (Q : List Lexeme → Type 0) (tail : (l : Lexeme) (ls : List Lexeme) → Q (l ∷ ls) → Q ls) where
  abbrev Keeps : PureExpression P J → Type 0
  Keeps e = (k : ℕ) (ls rest : List Lexeme) → SpellsExpression g k e ls rest → Q ls → Q rest

  side_keeps : (a : After) (e : PureExpression P J) (right rest : List Lexeme) → Keeps e → SpelledSide g a e right rest → Q right → Q rest
  side_keeps (Infix op) e right rest again side q = again _ right rest side q
  side_keeps (Connects c) e right rest again side q = again _ right rest side q
  side_keeps Bracketed e right rest again side q = tail closing_bracket rest (again 0 right (closing_bracket ∷ rest) side q)
  side_keeps Dotted e right rest again (p, same, is) q = tail (Name p) rest (subst Q is q)

  joined_keeps : (k : ℕ) (tree d e : PureExpression P J) (ls rest : List Lexeme) → Keeps d → Keeps e → SpelledJoined g k tree d e ls rest → Q ls → Q rest
  joined_keeps k tree d e ls rest again again' (l, right, a, says, same, le, h, side) q =
      side_keeps a e right rest again' side (tail l right (again (strength a) ls (l ∷ right) h q))

  pub expression_keeps : (e : PureExpression P J) → Keeps e
  expression_keeps (constant v) k ls rest (l, says, is) q = tail l rest (subst Q is q)
  expression_keeps (variable x) k ls rest (l, says, is) q = tail l rest (subst Q is q)
  expression_keeps (brackets e) k ls rest (inner, is, h) q =
      tail closing_parenthesis rest (expression_keeps e 0 inner (closing_parenthesis ∷ rest) h (tail opening_parenthesis inner (subst Q is q)))
  expression_keeps (prefixed u e) k ls rest (l, inner, le, says, is, h) q = expression_keeps e tight inner rest h (tail l inner (subst Q is q))
  expression_keeps (joined j d e) k ls rest (inl h) q =
      joined_keeps k (joined j d e) d e ls rest (λ m from left i p. expression_keeps d m from left i p) (λ m from left i p. expression_keeps e m from left i p) h q
  expression_keeps (joined j d e) k ls rest (inr (i, inner, takes, tight_le, is, h)) q =
      joined_keeps tight (joined i d e) d e inner rest (λ m from left x p. expression_keeps d m from left x p) (λ m from left x p. expression_keeps e m from left x p) h
      (tail ampersand inner (subst Q is q))
  expression_keeps (skipping c d e) k ls rest h q =
      joined_keeps k (skipping c d e) d e ls rest (λ m from left i p. expression_keeps d m from left i p) (λ m from left i p. expression_keeps e m from left i p) h q

  -- ---- pieces

  -- two lexemes
  pub two : (l m : Lexeme) (ls : List Lexeme) → Q (l ∷ m ∷ ls) → Q ls
  two l m ls q = tail m ls (tail l (m ∷ ls) q)

  pub argument_keeps : (e : PureExpression P J) (ls rest : List Lexeme) → SpellsArgument g e ls rest → Q ls → Q rest
  argument_keeps e ls rest (inner, is, h) q =
      two closing_parenthesis semicolon rest
      (expression_keeps e 0 inner (closing_parenthesis ∷ semicolon ∷ rest) h (tail opening_parenthesis inner (subst Q is q)))

  pub pair_keeps : (d e : PureExpression P J) (ls rest : List Lexeme) → SpellsPair g d e ls rest → Q ls → Q rest
  pair_keeps d e ls rest (first, second, is, h, h') q =
      two closing_parenthesis semicolon rest
      (expression_keeps e 0 second (closing_parenthesis ∷ semicolon ∷ rest) h'
      (tail comma second (expression_keeps d 0 first (comma ∷ second) h (tail opening_parenthesis first (subst Q is q)))))

  more_keep : (es : List (PureExpression P J)) (ls rest : List Lexeme) → SpellsMore (SpellsWhole g) comma es ls rest → Q ls → Q rest
  more_keep [] ls rest is q = subst Q is q
  more_keep (e ∷ es) ls rest (inner, after, is, one, more) q =
      more_keep es after rest more (expression_keeps e 0 inner after one (tail comma inner (subst Q is q)))

  pub arguments_keep : (es : List (PureExpression P J)) (ls rest : List Lexeme) → SpellsArguments g es ls rest → Q ls → Q rest
  arguments_keep [] ls rest is q = two closing_parenthesis semicolon rest (subst Q is q)
  arguments_keep (e ∷ es) ls rest (after, one, more) q =
      two closing_parenthesis semicolon rest
      (more_keep es after (closing_parenthesis ∷ semicolon ∷ rest) more (expression_keeps e 0 ls after one q))

  -- ---- names

  module _ (variables : (l : Lexeme) (x : List ℕ) → g.leaf l ≡ Some (named x) → l ≡ Name x)
      (names : (x : List ℕ) (ls : List Lexeme) → Q (Name x ∷ ls) → IsTrue (is_source_name x)) where
    abbrev Named : PureExpression P J → Type 0
    Named e = (k : ℕ) (ls rest : List Lexeme) → SpellsExpression g k e ls rest → Q ls → IsTrue (is_source_expression e)

    side_named : (a : After) (e : PureExpression P J) (right rest : List Lexeme) → Named e → SpelledSide g a e right rest → Q right
        → IsTrue (is_source_expression e)
    side_named (Infix op) e right rest again side q = again _ right rest side q
    side_named (Connects c) e right rest again side q = again _ right rest side q
    side_named Bracketed e right rest again side q = again 0 right (closing_bracket ∷ rest) side q
    side_named Dotted e right rest again (p, same, is) q = subst (λ d. IsTrue (is_source_expression d)) (sym same) refl

    joined_named : (k : ℕ) (tree d e : PureExpression P J) (ls rest : List Lexeme) → Named d → Named e → SpelledJoined g k tree d e ls rest → Q ls
        → IsTrue (is_source_expression d && is_source_expression e)
    joined_named k tree d e ls rest again again' (l, right, a, says, same, le, h, side) q =
        and_from (is_source_expression d) (is_source_expression e) (again (strength a) ls (l ∷ right) h q)
        (side_named a e right rest again' side (tail l right (expression_keeps d (strength a) ls (l ∷ right) h q)))

    pub expression_named : (e : PureExpression P J) → Named e
    expression_named (constant v) k ls rest (l, says, is) q = refl
    expression_named (variable x) k ls rest (l, says, is) q =
        names x rest (subst (λ (n : Lexeme). Q (n ∷ rest)) (variables l x says) (subst Q is q))
    expression_named (brackets e) k ls rest (inner, is, h) q = expression_named e 0 inner (closing_parenthesis ∷ rest) h (tail opening_parenthesis inner (subst Q is q))
    expression_named (prefixed u e) k ls rest (l, inner, le, says, is, h) q = expression_named e tight inner rest h (tail l inner (subst Q is q))
    expression_named (joined j d e) k ls rest (inl h) q =
        joined_named k (joined j d e) d e ls rest (λ m from left i p. expression_named d m from left i p) (λ m from left i p. expression_named e m from left i p) h q
    expression_named (joined j d e) k ls rest (inr (i, inner, takes, tight_le, is, h)) q =
        joined_named tight (joined i d e) d e inner rest (λ m from left x p. expression_named d m from left x p) (λ m from left x p. expression_named e m from left x p) h
        (tail ampersand inner (subst Q is q))
    expression_named (skipping c d e) k ls rest h q =
        joined_named k (skipping c d e) d e ls rest (λ m from left i p. expression_named d m from left i p) (λ m from left i p. expression_named e m from left i p) h q

    pub argument_named : (e : PureExpression P J) (ls rest : List Lexeme) → SpellsArgument g e ls rest → Q ls → IsTrue (is_source_expression e)
    argument_named e ls rest (inner, is, h) q =
        expression_named e 0 inner (closing_parenthesis ∷ semicolon ∷ rest) h (tail opening_parenthesis inner (subst Q is q))

    pub pair_named : (d e : PureExpression P J) (ls rest : List Lexeme) → SpellsPair g d e ls rest → Q ls → IsTrue (is_source_expression d && is_source_expression e)
    pair_named d e ls rest (first, second, is, h, h') q =
        let q' = tail opening_parenthesis first (subst Q is q) in
        and_from (is_source_expression d) (is_source_expression e) (expression_named d 0 first (comma ∷ second) h q')
        (expression_named e 0 second (closing_parenthesis ∷ semicolon ∷ rest) h' (tail comma second (expression_keeps d 0 first (comma ∷ second) h q')))

    more_named : (es : List (PureExpression P J)) (ls rest : List Lexeme) → SpellsMore (SpellsWhole g) comma es ls rest → Q ls → IsTrue (list_all is_source_expression es)
    more_named [] ls rest is q = refl
    more_named (e ∷ es) ls rest (inner, after, is, one, more) q =
        let q' = tail comma inner (subst Q is q) in
        and_from (is_source_expression e) (list_all is_source_expression es) (expression_named e 0 inner after one q')
        (more_named es after rest more (expression_keeps e 0 inner after one q'))

    pub arguments_named : (es : List (PureExpression P J)) (ls rest : List Lexeme) → SpellsArguments g es ls rest → Q ls → IsTrue (list_all is_source_expression es)
    arguments_named [] ls rest is q = refl
    arguments_named (e ∷ es) ls rest (after, one, more) q =
        and_from (is_source_expression e) (list_all is_source_expression es) (expression_named e 0 ls after one q)
        (more_named es after (closing_parenthesis ∷ semicolon ∷ rest) more (expression_keeps e 0 ls after one q))
