-- What holds of every printed term.
use Rattle.std.specs.Prelude.{◌≡◌, ℕ, List, slice_get, Some}
use Rattle.gil_values.specs.Printed.{printed_value}
use Rattle.pure_terms.specs.declared.literals.Literal.{Literal}
use Rattle.pure_terms.specs.declared.variables.Var.{Var}
use Rattle.pure_terms.specs.Meaning.{literal_value}
use Rattle.pure_terms.specs.Pure.{literal, variable}
use Rattle.solver_print.specs.Terms.{printed_term}

-- A literal is printed as its value, and a variable by its name.
pub record TermsPrintAsExpressions : Type 0 where
  pub literals : (names : List (List ℕ)) (l : Literal) → printed_term names (literal l) ≡ printed_value (literal_value l)
  pub names : (names : List (List ℕ)) (x : Var) (name : List ℕ) → slice_get names x.number ≡ Some name → printed_term names (variable x) ≡ name
