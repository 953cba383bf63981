-- The names and constants of expressions are well made where proper lexemes spell them.
use Rattle.std.proofs.Common.{◌≡◌, inl, inr, ℕ, List, ◌∷◌, true, ◌&&◌, Some, refl, sym, subst}
use Rattle.std.specs.List.{list_all}
use Rattle.std.proofs.lemmas.Bool.{and_from}
use Rattle.gil_values.specs.Pure.{PureValue}
use Rattle.gil_lexemes.specs.declared.standing.Lexeme.{Lexeme}
use Rattle.gil_lexemes.specs.declared.standing.Lexeme.TheVariants.{Name}
use Rattle.gil_syntax.specs.WellMade.{is_spellable}
use Rattle.gil_grammar.specs.Vocabulary.{closing_parenthesis, closing_bracket, comma, semicolon}
use Rattle.gil_grammar.proofs.MadeLaws.{IsProper, AreProper, Made, Makes, after, separated_make, program_name}
use Rattle.source_operators.specs.Operands.{known, named}
use Rattle.source_operators.specs.Pure.{PureExpression, constant, variable, brackets, prefixed, joined, skipping}
use Rattle.source_operators.proofs.Making.{is_made_expression}
use Rattle.operator_text.specs.declared.strengths.After.{After}
use Rattle.operator_text.specs.declared.strengths.After.TheVariants.{Infix, Connects, Bracketed, Dotted}
use Rattle.operator_text.specs.Grammar.{SpellsExpression}
use Rattle.operator_text.specs.Pieces.{SpellsWhole, SpellsValue, SpellsArgument, SpellsPair, SpellsArguments}
use Rattle.operator_text.specs.Signs.{Signs, tight, strength}
use Rattle.operator_text.proofs.ExpressionReads.{SpelledSide, SpelledJoined}

module _ {P J : Type 0} (g : Signs P J) (constants : (l : Lexeme) (v : PureValue) → g.leaf l ≡ Some (known v) → is_spellable v ≡ true)
    (variables : (l : Lexeme) (x : List ℕ) → g.leaf l ≡ Some (named x) → l ≡ Name x) where
  abbrev Again : PureExpression P J → Type 0
  Again e = (k : ℕ) (ls rest : List Lexeme) → AreProper ls → SpellsExpression g k e ls rest → Made (is_made_expression e) rest

  side_makes : (a : After) (e : PureExpression P J) (right rest : List Lexeme) → Again e → AreProper right → SpelledSide g a e right rest → Made (is_made_expression e) rest
  side_makes (Infix op) e right rest again p h = again _ right rest p h
  side_makes (Connects c) e right rest again p h = again _ right rest p h
  side_makes Bracketed e right rest again p h = let read = again 0 right (closing_bracket ∷ rest) p h in record { is = read.is; proper = read.proper.1 }
  side_makes Dotted e right rest again p (x, same, is) =
      record { is = subst (λ d. is_made_expression d ≡ true) (sym same) refl; proper = after _ right rest is p }

  joined_makes : (k : ℕ) (tree d e : PureExpression P J) (ls rest : List Lexeme) → Again d → Again e → AreProper ls → SpelledJoined g k tree d e ls rest
      → Made (is_made_expression d && is_made_expression e) rest
  joined_makes k tree d e ls rest again again' p (l, right, a, says, same, le, h, side) =
      let left = again (strength a) ls (l ∷ right) p h in
      let other = side_makes a e right rest again' left.proper.1 side in
      record { is = and_from (is_made_expression d) (is_made_expression e) left.is other.is; proper = other.proper }

  pub expression_makes_at : (e : PureExpression P J) → Again e
  expression_makes_at (constant v) k ls rest p (l, says, is) = record { is = constants l v says; proper = after l ls rest is p }
  expression_makes_at (variable x) k ls rest p (l, says, is) =
      let front = subst AreProper is p in
      record { is = program_name x (subst IsProper (variables l x says) front.0); proper = front.1 }
  expression_makes_at (brackets e) k ls rest p (inner, is, h) =
      let read = expression_makes_at e 0 inner (closing_parenthesis ∷ rest) (after _ ls inner is p) h in
      record { is = read.is; proper = read.proper.1 }
  expression_makes_at (prefixed u e) k ls rest p (l, inner, le, says, is, h) =
      let read = expression_makes_at e tight inner rest (after l ls inner is p) h in
      record { is = read.is; proper = read.proper }
  expression_makes_at (joined j d e) k ls rest p (inl h) =
      joined_makes k (joined j d e) d e ls rest (λ n a b i w. expression_makes_at d n a b i w) (λ n a b i w. expression_makes_at e n a b i w) p h
  expression_makes_at (joined j d e) k ls rest p (inr (i, inner, taken, le, is, h)) =
      joined_makes tight (joined i d e) d e inner rest (λ n a b i' w. expression_makes_at d n a b i' w) (λ n a b i' w. expression_makes_at e n a b i' w)
      (after _ ls inner is p) h
  expression_makes_at (skipping c d e) k ls rest p h =
      joined_makes k (skipping c d e) d e ls rest (λ n a b i w. expression_makes_at d n a b i w) (λ n a b i w. expression_makes_at e n a b i w) p h

  pub expression_makes : Makes (SpellsWhole g) is_made_expression
  expression_makes e ls rest p h = expression_makes_at e 0 ls rest p h

  -- ---- pieces

  pub value_makes : Makes (SpellsValue g) is_made_expression
  value_makes e ls rest p h = let read = expression_makes e ls (semicolon ∷ rest) p h in record { is = read.is; proper = read.proper.1 }

  pub argument_makes : Makes (SpellsArgument g) is_made_expression
  argument_makes e ls rest p (inner, is, h) =
      let read = expression_makes e inner (closing_parenthesis ∷ semicolon ∷ rest) (after _ ls inner is p) h in
      record { is = read.is; proper = read.proper.1.1 }

  pub pair_makes : (d e : PureExpression P J) (ls rest : List Lexeme) → AreProper ls → SpellsPair g d e ls rest
      → Made (is_made_expression d && is_made_expression e) rest
  pair_makes d e ls rest p (first, second, is, h, h') =
      let left = expression_makes d first (comma ∷ second) (after _ ls first is p) h in
      let right = expression_makes e second (closing_parenthesis ∷ semicolon ∷ rest) left.proper.1 h' in
      record { is = and_from (is_made_expression d) (is_made_expression e) left.is right.is; proper = right.proper.1.1 }

  pub arguments_make : Makes (SpellsArguments g) (list_all is_made_expression)
  arguments_make es ls rest p h =
      let read = separated_make (SpellsWhole g) is_made_expression expression_makes comma es ls (closing_parenthesis ∷ semicolon ∷ rest) p h in
      record { is = read.is; proper = read.proper.1.1 }
