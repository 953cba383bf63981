-- Equality of terms, node by node.
use Rattle.std.specs.Prelude.{◌≡◌, ◌↔◌, IsTrue, ℕ, Bool, true, false, ◌&&◌, nat_eq}
use Rattle.gil_values.specs.declared.operators.UnOp.{UnOp}
use Rattle.gil_values.specs.declared.operators.BinOp.{BinOp}
use Rattle.gil_values.specs.Equality.{same_value}
use Rattle.pure_terms.specs.declared.literals.Literal.{Literal}
use Rattle.pure_terms.specs.declared.variables.Var.{Var}
use Rattle.pure_terms.specs.Kinds.{same_sort}
use Rattle.pure_terms.specs.Meaning.{literal_value}
use Rattle.pure_terms.specs.Pure.{PureTerm, literal, variable, list_of, unary_of, binary_of, PureTerms, no_terms, term_and}

-- the operators in their order
abbrev pub unary_number : UnOp → ℕ
unary_number UnOp.Not = 0
unary_number UnOp.Neg = 1
unary_number UnOp.Len = 2
unary_number UnOp.Kind = 3

abbrev pub binary_number : BinOp → ℕ
binary_number BinOp.Add = 0
binary_number BinOp.Subtract = 1
binary_number BinOp.Multiply = 2
binary_number BinOp.Divide = 3
binary_number BinOp.Remainder = 4
binary_number BinOp.Equal = 5
binary_number BinOp.Less = 6
binary_number BinOp.LessOrEqual = 7
binary_number BinOp.And = 8
binary_number BinOp.Or = 9
binary_number BinOp.Append = 10
binary_number BinOp.Nth = 11

abbrev pub same_unary : UnOp → UnOp → Bool
same_unary op other = nat_eq (unary_number op) (unary_number other)

abbrev pub same_binary : BinOp → BinOp → Bool
same_binary op other = nat_eq (binary_number op) (binary_number other)

abbrev pub same_literal : Literal → Literal → Bool
same_literal k l = same_value (literal_value k) (literal_value l)

abbrev pub same_variable : Var → Var → Bool
same_variable x y = nat_eq x.number y.number && same_sort x.sort y.sort

abbrev mutual
  pub same_term : PureTerm → PureTerm → Bool
  same_term (literal k) (literal l) = same_literal k l
  same_term (variable x) (variable y) = same_variable x y
  same_term (list_of ts) (list_of us) = same_terms ts us
  same_term (unary_of op s) (unary_of other t) = same_unary op other && same_term s t
  same_term (binary_of op s t) (binary_of other u w) = same_binary op other && (same_term s u && same_term t w)
  same_term _ _ = false

  pub same_terms : PureTerms → PureTerms → Bool
  same_terms no_terms no_terms = true
  same_terms (term_and t ts) (term_and u us) = same_term t u && same_terms ts us
  same_terms _ _ = false

-- Terms are equal exactly where they are the same pure data.
abbrev pub EqualityIsIdentity : Type 0
EqualityIsIdentity = (s t : PureTerm) → IsTrue (same_term s t) ↔ (s ≡ t)
