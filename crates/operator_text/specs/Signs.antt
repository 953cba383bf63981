-- What the lexemes of the expressions of a language are, and how strongly operators bind.
use Rattle.std.specs.Prelude.{ℕ, Bool, Option, Some, None, if◌then◌else◌}
use Rattle.gil_lexer.specs.declared.forms.Form.{Form}
use Rattle.gil_lexer.specs.declared.forms.Form.TheVariants as forms
use Rattle.gil_lexer.specs.declared.signs.Sign.TheVariants as signs
use Rattle.gil_lexemes.specs.declared.standing.Lexeme.{Lexeme}
use Rattle.source_operators.specs.declared.trees.Connective.TheVariants.{And, Or}
use Rattle.source_operators.specs.declared.trees.Operator.{Operator}
use Rattle.source_operators.specs.declared.trees.Operator.TheVariants.{Equal, Unequal, Less, LessOrEqual, Greater, GreaterOrEqual, Add, Subtract, Multiply, Divide, Remainder}
use Rattle.source_operators.specs.Operands.{Operand, known, named}
use Rattle.source_operators.specs.Pure.{PureExpression, constant, variable, joined, skipping}
use Rattle.operator_text.specs.declared.strengths.After.{After}
use Rattle.operator_text.specs.declared.strengths.After.TheVariants.{Infix, Connects, Bracketed, Dotted}

-- The operators of one operand by their lexemes; which operator of two an infix one is, and which one a suffix; what `&` makes of an operator
-- of two operands; whether a dot and a name are a suffix too; and what stands by itself.
pub record Signs (P J : Type 0) : Type 0 where
  pub prefix : Form → Option P
  pub operation : Operator → J
  pub indexed : J
  pub taken : J → Option J
  pub dots : Bool
  pub leaf : Lexeme → Option Operand

-- what a lexeme behind an expression begins
abbrev pub after : Bool → Form → Option After
after dots (forms.Sign signs.EqualEqual) = Some (Infix Equal)
after dots (forms.Sign signs.NotEqual) = Some (Infix Unequal)
after dots (forms.Sign signs.Less) = Some (Infix Less)
after dots (forms.Sign signs.LessEqual) = Some (Infix LessOrEqual)
after dots (forms.Sign signs.Greater) = Some (Infix Greater)
after dots (forms.Sign signs.GreaterEqual) = Some (Infix GreaterOrEqual)
after dots (forms.Sign signs.Plus) = Some (Infix Add)
after dots (forms.Sign signs.Minus) = Some (Infix Subtract)
after dots (forms.Sign signs.Star) = Some (Infix Multiply)
after dots (forms.Sign signs.Slash) = Some (Infix Divide)
after dots (forms.Sign signs.Percent) = Some (Infix Remainder)
after dots (forms.Sign signs.AndAnd) = Some (Connects And)
after dots (forms.Sign signs.OrOr) = Some (Connects Or)
after dots (forms.Sign signs.LeftBracket) = Some Bracketed
after dots (forms.Sign signs.Dot) = if dots then Some Dotted else None
after dots _ = None

-- the strength of a prefix, and of what follows an expression directly
abbrev pub tight : ℕ
tight = 6

abbrev pub tightest : ℕ
tightest = 7

-- the strength of an operator of two operands, from 0 on: `||`, `&&`, `==` `!=`, `<` `<=` `>` `>=`, `+` `-`, `*` `/` `%`
abbrev pub strength : After → ℕ
strength (Connects Or) = 0
strength (Connects And) = 1
strength (Infix Equal) = 2
strength (Infix Unequal) = 2
strength (Infix Less) = 3
strength (Infix LessOrEqual) = 3
strength (Infix Greater) = 3
strength (Infix GreaterOrEqual) = 3
strength (Infix Add) = 4
strength (Infix Subtract) = 4
strength (Infix Multiply) = 5
strength (Infix Divide) = 5
strength (Infix Remainder) = 5
strength Bracketed = tightest
strength Dotted = tightest

module _ {P J : Type 0} where
  -- what stands by itself
  abbrev pub leaf_tree : Operand → PureExpression P J
  leaf_tree (known v) = constant v
  leaf_tree (named x) = variable x

  -- a left side, what follows it, and a right side
  abbrev pub join : Signs P J → After → PureExpression P J → PureExpression P J → PureExpression P J
  join g (Infix op) d e = joined (g.operation op) d e
  join g (Connects c) d e = skipping c d e
  join g Bracketed d e = joined g.indexed d e
  join g Dotted d e = joined g.indexed d e
