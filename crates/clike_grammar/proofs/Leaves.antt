-- What stands by itself is read by the form of the first token.
use Rattle.std.proofs.Common.{◌≡◌, List, [], ◌∷◌, Bool, true, false, cond, Some, None, refl}
use Rattle.gil_values.specs.Pure.{PureValue, integer}
use Rattle.gil_lexer.specs.declared.words.Word.TheVariants as words
use Rattle.gil_lexemes.specs.declared.standing.Lexeme.{Lexeme}
use Rattle.gil_lexemes.specs.declared.standing.Lexeme.TheVariants as lexemes
use Rattle.gil_lexemes.specs.Reading.{Reading, ◌>>=◌}
use Rattle.source_operators.specs.Operands.{Operand, known}
use Rattle.source_operators.specs.Pure.{constant}
use Rattle.operator_text.specs.Reading as operators
use Rattle.operator_text.specs.Signs.{leaf_tree}
use Rattle.clike_operators.specs.Pure.{PureExpression}
use Rattle.clike_operators.specs.Ranges.{is_int}
use Rattle.clike_grammar.specs.Reading.{number_leaf, leaf_at}
use Rattle.clike_grammar.specs.Signs.{clike_signs}

abbrev as_expression : Operand → List Lexeme → Reading PureExpression
as_expression a ls = Some (leaf_tree a, ls)

abbrev read_constant : PureValue → List Lexeme → Reading PureExpression
read_constant v ls = Some (constant v, ls)

number_so : (b : Bool) (v : PureValue) (ls : List Lexeme)
    → (cond b (Some (known v)) None >>= λ a. as_expression a ls) ≡ cond b (read_constant v ls) None
number_so true v ls = refl
number_so false v ls = refl

pub leaf_same : (ls : List Lexeme) → operators.leaf_at clike_signs ls ≡ leaf_at ls
unfolding number_leaf
leaf_same [] = refl
leaf_same (lexemes.Name x ∷ ls) = refl
leaf_same (lexemes.Number n ∷ ls) = number_so (is_int n) (integer n) ls
leaf_same (lexemes.Word words.NullPointer ∷ ls) = refl
leaf_same (lexemes.Word _ ∷ ls) = refl
leaf_same (lexemes.Logical x ∷ ls) = refl
leaf_same (lexemes.Procedure f ∷ ls) = refl
leaf_same (lexemes.Literal t ∷ ls) = refl
leaf_same (lexemes.Sign s ∷ ls) = refl
