-- The tokens of operators.
use Rattle.std.proofs.Common.{◌≡◌, ℕ, ◌+◌, ◌≤◌, true, List, ◌∷◌, ◌++◌, Option, Some, refl, subst, arith}
use Rattle.gil_values.specs.declared.operators.UnOp.{UnOp}
use Rattle.gil_values.specs.declared.operators.UnOp.TheVariants as unary
use Rattle.gil_values.specs.declared.operators.BinOp.{BinOp}
use Rattle.gil_values.specs.declared.operators.BinOp.TheVariants as binary
use Rattle.gil_lexer.specs.Signs.{sign_bytes}
use Rattle.gil_lexer.specs.Words.{word_bytes}
use Rattle.gil_lexer.specs.Spelling.{takes_minus}
use Rattle.gil_lexer.specs.declared.forms.Form.{Form}
use Rattle.gil_lexer.specs.declared.forms.Form.TheVariants as forms
use Rattle.gil_lexer.specs.declared.signs.Sign.TheVariants as signs
use Rattle.gil_lexer.specs.declared.words.Word.TheVariants as words
use Rattle.gil_lexemes.specs.declared.standing.Lexeme.{Lexeme}
use Rattle.gil_lexemes.specs.declared.standing.Lexeme.TheVariants as lexemes
use Rattle.gil_lexemes.specs.Reading.{form_of}
use Rattle.gil_grammar.specs.Nesting.{most_open}
use Rattle.gil_grammar.specs.Vocabulary as grammar
use Rattle.syntax_print.specs.Expressions as printed
use Rattle.gil_print.proofs.Lexing.{Written, Lexes}
use Rattle.gil_print.proofs.Tokens.{Stops, Opens, left_parenthesis, lexes_word, comma_step, sign_between, word_between}

-- ---- of one operand

unary_spelled : (op : UnOp) → word_bytes (grammar.unary_word op) ≡ printed.unary_name op
unfolding word_bytes
unary_spelled unary.Not = refl
unary_spelled unary.Neg = refl
unary_spelled unary.Len = refl
unary_spelled unary.Kind = refl

-- its name and its bracket
pub unary_lexes : (op : UnOp) (b : Option Form) (count : ℕ) (bytes : List ℕ) (ls : List Lexeme) → count + 1 ≤ most_open
    → Lexes (Some (forms.Sign signs.LeftParenthesis)) (count + 1) bytes ls
    → Lexes b count (printed.unary_name op ++ 40 ∷ bytes) (lexemes.Word (grammar.unary_word op) ∷ grammar.opening_parenthesis ∷ ls)
unary_lexes op b count bytes ls within h =
    subst (λ name. Lexes b count (name ++ 40 ∷ bytes) (lexemes.Word (grammar.unary_word op) ∷ grammar.opening_parenthesis ∷ ls)) (unary_spelled op)
    (lexes_word (grammar.unary_word op) b count (40 ∷ bytes) (grammar.opening_parenthesis ∷ ls) (omega arith) refl (left_parenthesis _ count bytes ls within h))

-- ---- of two operands

-- what is written before the operands, of some text
pub record Opened (count : ℕ) (left : List Lexeme) : Type 0 where
  pub within : count + 1 ≤ most_open
  pub behind : Written (Some (forms.Sign signs.LeftParenthesis)) (count + 1) left

pub before_written : (op : BinOp) (b : Option Form) (count : ℕ) (left : List Lexeme) → Written b count (grammar.before_operands op left) → Opened count left
before_written binary.Nth b count left w = record { within = w.1.0.within; behind = w.1.1 }
before_written _ b count left w = record { within = w.0.within; behind = w.1 }

pub before_lexes : (op : BinOp) (b : Option Form) (count : ℕ) (bytes : List ℕ) (ls : List Lexeme) → count + 1 ≤ most_open
    → Lexes (Some (forms.Sign signs.LeftParenthesis)) (count + 1) bytes ls → Lexes b count (printed.before_operands op ++ bytes) (grammar.before_operands op ls)
unfolding word_bytes
before_lexes binary.Nth b count bytes ls within h =
    lexes_word words.Nth b count (40 ∷ bytes) (grammar.opening_parenthesis ∷ ls) (omega arith) refl (left_parenthesis _ count bytes ls within h)
before_lexes _ b count bytes ls within h = left_parenthesis b count bytes ls within h

pub between_opens : (op : BinOp) → Opens (grammar.between_operands op)
between_opens binary.Nth count = refl
between_opens _ count = refl

pub between_takes : (op : BinOp) → takes_minus (Some (form_of (grammar.between_operands op))) ≡ true
between_takes binary.Nth = refl
between_takes _ = refl

pub between_stops : (op : BinOp) (bytes : List ℕ) → Stops (printed.between_operands op ++ bytes)
between_stops binary.Nth bytes = refl
between_stops _ bytes = refl

pub between_lexes : (op : BinOp) (b : Option Form) (count : ℕ) (bytes : List ℕ) (ls : List Lexeme) → count ≤ most_open
    → Lexes (Some (form_of (grammar.between_operands op))) count bytes ls → Lexes b count (printed.between_operands op ++ bytes) (grammar.between_operands op ∷ ls)
unfolding sign_bytes word_bytes
between_lexes binary.Add b count bytes ls within h = sign_between signs.Plus (λ n. refl) b count bytes ls within h
between_lexes binary.Subtract b count bytes ls within h = sign_between signs.Minus (λ n. refl) b count bytes ls within h
between_lexes binary.Multiply b count bytes ls within h = sign_between signs.Star (λ n. refl) b count bytes ls within h
between_lexes binary.Divide b count bytes ls within h = sign_between signs.Slash (λ n. refl) b count bytes ls within h
between_lexes binary.Remainder b count bytes ls within h = sign_between signs.Percent (λ n. refl) b count bytes ls within h
between_lexes binary.Equal b count bytes ls within h = sign_between signs.Equal (λ n. refl) b count bytes ls within h
between_lexes binary.Less b count bytes ls within h = sign_between signs.Less (λ n. refl) b count bytes ls within h
between_lexes binary.LessOrEqual b count bytes ls within h = sign_between signs.LessEqual (λ n. refl) b count bytes ls within h
between_lexes binary.And b count bytes ls within h = word_between words.And b count bytes ls within h
between_lexes binary.Or b count bytes ls within h = word_between words.Or b count bytes ls within h
between_lexes binary.Append b count bytes ls within h = sign_between signs.PlusPlus (λ n. refl) b count bytes ls within h
between_lexes binary.Nth b count bytes ls within h = comma_step b count bytes ls within h
