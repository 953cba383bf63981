-- What holds of lexemes and is kept by dropping the first of them holds of those behind what is spelled.
use Rattle.std.proofs.Common.{inl, inr, ℕ, zero, suc, List, ◌∷◌, Some, None, subst}
use Rattle.gil_lexer.specs.declared.signs.Sign.TheVariants as signs
use Rattle.gil_lexer.specs.declared.words.Word.TheVariants as words
use Rattle.gil_lexemes.specs.declared.standing.Lexeme.{Lexeme}
use Rattle.gil_lexemes.specs.declared.standing.Lexeme.TheVariants as lexemes
use Rattle.gil_grammar.specs.Vocabulary.{opening_parenthesis, closing_parenthesis, semicolon}
use Rattle.source_text.specs.Vocabulary.{equals}
use Rattle.operator_text.specs.Signs.{tight}
use Rattle.operator_text.proofs.Rests as rests
use Rattle.clike_operators.specs.Pure.{PureExpression}
use Rattle.clike_lang.specs.Pure.{PureSimple, assign, input, malloc, call, free, store}
use Rattle.clike_grammar.specs.Signs.{clike_signs}
use Rattle.clike_grammar.specs.Statements.{SpellsExpressionAt, stars, SpellsDeclared, SpellsTarget, SpellsCall, SpellsSimple}

module _ (Q : List Lexeme → Type 0) (tail : (l : Lexeme) (ls : List Lexeme) → Q (l ∷ ls) → Q ls) where
  pub expression_keeps : (e : PureExpression) (k : ℕ) (ls rest : List Lexeme) → SpellsExpressionAt k e ls rest → Q ls → Q rest
  expression_keeps e k ls rest h q = rests.expression_keeps clike_signs Q tail e k ls rest h q

  pub stars_keep : (n : ℕ) (ls : List Lexeme) → Q (stars n ls) → Q ls
  stars_keep zero ls q = q
  stars_keep (suc n) ls q = stars_keep n ls (tail (lexemes.Sign signs.Star) (stars n ls) q)

  pub declared_keeps : (x : List ℕ) (ls rest : List Lexeme) → SpellsDeclared x ls rest → Q ls → Q rest
  declared_keeps x ls rest (n, is) q =
      tail (lexemes.Name x) rest (stars_keep n (lexemes.Name x ∷ rest) (tail (lexemes.Word words.Int) (stars n (lexemes.Name x ∷ rest)) (subst Q is q)))

  target_keeps : (x : List ℕ) (ls value : List Lexeme) → SpellsTarget x ls value → Q ls → Q value
  target_keeps x ls value (inl is) q = tail equals value (tail (lexemes.Name x) (equals ∷ value) (subst Q is q))
  target_keeps x ls value (inr h) q = tail equals value (declared_keeps x ls (equals ∷ value) h q)

  call_keeps : (f : List ℕ) (es : List PureExpression) (ls rest : List Lexeme) → SpellsCall f es ls rest → Q ls → Q rest
  call_keeps f es ls rest (inner, is, h) q =
      rests.arguments_keep clike_signs Q tail es inner rest h (rests.two clike_signs Q tail (lexemes.Name f) opening_parenthesis inner (subst Q is q))

  pub simple_keeps : (c : PureSimple) (ls rest : List Lexeme) → SpellsSimple c ls rest → Q ls → Q rest
  simple_keeps (assign x e) ls rest (value, target, h) q =
      tail semicolon rest (expression_keeps e 0 value (semicolon ∷ rest) h (target_keeps x ls value target q))
  simple_keeps (input x) ls rest target q =
      tail semicolon rest (rests.two clike_signs Q tail opening_parenthesis closing_parenthesis (semicolon ∷ rest)
      (tail (lexemes.Word words.Input) (opening_parenthesis ∷ closing_parenthesis ∷ semicolon ∷ rest)
      (target_keeps x ls (lexemes.Word words.Input ∷ opening_parenthesis ∷ closing_parenthesis ∷ semicolon ∷ rest) target q)))
  simple_keeps (malloc x e) ls rest (value, target, h) q =
      rests.argument_keeps clike_signs Q tail e value rest h (tail (lexemes.Word words.Malloc) value (target_keeps x ls (lexemes.Word words.Malloc ∷ value) target q))
  simple_keeps (call (Some x) f es) ls rest (value, target, h) q = call_keeps f es value rest h (target_keeps x ls value target q)
  simple_keeps (call None f es) ls rest h q = call_keeps f es ls rest h q
  simple_keeps (free e) ls rest (value, is, h) q = rests.argument_keeps clike_signs Q tail e value rest h (tail (lexemes.Word words.Free) value (subst Q is q))
  simple_keeps (store a b c) ls rest (place, value, parts, h, k) q =
      tail semicolon rest (expression_keeps c 0 value (semicolon ∷ rest) k (tail equals value (expression_keeps place tight ls (equals ∷ value) h q)))
