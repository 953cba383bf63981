-- What texts of other languages hold of GIL: specifications, predicates, logic commands and expressions.
use Rattle.std.specs.Prelude.{◌≤◌, List, length, IsTrue}
use Rattle.gil_lexemes.specs.declared.standing.Lexeme.{Lexeme}
use Rattle.gil_syntax.specs.Pure.{PureExpr, PureCommand, PureSpec, PurePredDef}
use Rattle.gil_grammar.specs.declared.positions.Position.TheVariants.{Command}
use Rattle.gil_grammar.specs.Commands.{SpellsCommand, is_logic}
use Rattle.gil_grammar.specs.Expressions.{SpellsExpr}
use Rattle.gil_grammar.specs.Programs.{SpellsSpec, SpellsPred}

pub data PureAnnotation : Type 0 where
  specification : PureSpec → PureAnnotation
  predicate : PurePredDef → PureAnnotation
  logic : PureCommand → PureAnnotation
  expression : PureExpr → PureAnnotation

-- An expression that stands by itself has no logical names.
abbrev pub SpellsAnnotation : PureAnnotation → List Lexeme → List Lexeme → Type 0
SpellsAnnotation (specification s) from rest = SpellsSpec s from rest
SpellsAnnotation (predicate d) from rest = SpellsPred d from rest
SpellsAnnotation (logic c) from rest = IsTrue (is_logic c) × SpellsCommand c from rest
SpellsAnnotation (expression e) from rest = SpellsExpr Command e from rest

-- the longest that the lexemes begin with: no other leaves fewer of them
pub record SpellsLongest (a : PureAnnotation) (from rest : List Lexeme) : Type 0 where
  pub spelled : SpellsAnnotation a from rest
  pub longest : (other : PureAnnotation) (left : List Lexeme) → SpellsAnnotation other from left → length rest ≤ length left
