-- What stands by itself is read by the form of the first token.
use Rattle.std.proofs.Common.{◌≡◌, ℕ, List, [], ◌∷◌, Some, refl, ap}
use Rattle.gil_lexer.specs.declared.words.Word.TheVariants as words
use Rattle.gil_lexemes.specs.declared.standing.Lexeme.{Lexeme}
use Rattle.gil_lexemes.specs.declared.standing.Lexeme.TheVariants as lexemes
use Rattle.source_operators.specs.Operands.{named}
use Rattle.operator_text.specs.Reading as operators
use Rattle.object_grammar.specs.Reading.{leaf_at}
use Rattle.object_grammar.specs.Signs.{object_signs, leaf}

pub leaf_same : (ls : List Lexeme) → operators.leaf_at object_signs ls ≡ leaf_at ls
leaf_same [] = refl
leaf_same (lexemes.Name x ∷ ls) = refl
leaf_same (lexemes.Number n ∷ ls) = refl
leaf_same (lexemes.Word words.True ∷ ls) = refl
leaf_same (lexemes.Word words.False ∷ ls) = refl
leaf_same (lexemes.Word words.Undefined ∷ ls) = refl
leaf_same (lexemes.Word words.Null ∷ ls) = refl
leaf_same (lexemes.Word _ ∷ ls) = refl
leaf_same (lexemes.Logical x ∷ ls) = refl
leaf_same (lexemes.Procedure f ∷ ls) = refl
leaf_same (lexemes.Literal t ∷ ls) = refl
leaf_same (lexemes.Sign s ∷ ls) = refl

-- a variable stands as its name
pub leaf_is_name : (l : Lexeme) (x : List ℕ) → leaf l ≡ Some (named x) → l ≡ lexemes.Name x
leaf_is_name (lexemes.Name y) x e = let same : y ≡ x = cc in ap lexemes.Name same
leaf_is_name (lexemes.Number n) x e = absurd (cc)
leaf_is_name (lexemes.Word words.True) x e = absurd (cc)
leaf_is_name (lexemes.Word words.False) x e = absurd (cc)
leaf_is_name (lexemes.Word words.Undefined) x e = absurd (cc)
leaf_is_name (lexemes.Word words.Null) x e = absurd (cc)
leaf_is_name (lexemes.Word _) x e = absurd (cc)
leaf_is_name (lexemes.Logical y) x e = absurd (cc)
leaf_is_name (lexemes.Procedure f) x e = absurd (cc)
leaf_is_name (lexemes.Literal t) x e = absurd (cc)
leaf_is_name (lexemes.Sign s) x e = absurd (cc)
