-- Normal forms of the terms of a table.
use Rattle.std.specs.Prelude.{◌≡◌, ℕ, List, Option, Some, slice_get}
use Rattle.std.specs.List.{All}
use Rattle.pure_terms.specs.Pure.{PureTerm, subterms}
use Rattle.pure_terms.specs.Rewriting.{Replaces}
use Rattle.term_table.specs.Tables.{Names}
use Rattle.rewrite_book.specs.Nodes.{below}

-- m names what may stand in the place of the term of i, and P holds of each of these nodes of it
pub record IsFormBy (nodes : PureTerm → List PureTerm) (P : PureTerm → Type 0) (ts : List PureTerm) (i m : ℕ) : Type 0 where
  pub term : PureTerm
  pub form : PureTerm
  pub named : Names ts i term
  pub formed : Names ts m form
  pub replaces : Replaces term form
  pub done : All P (nodes form)

-- of each node
abbrev pub IsForm : (PureTerm → Type 0) → List PureTerm → ℕ → ℕ → Type 0
IsForm = IsFormBy subterms

-- of each node below the root
abbrev pub IsFormBelow : (PureTerm → Type 0) → List PureTerm → ℕ → ℕ → Type 0
IsFormBelow = IsFormBy below

-- each form that is known is one
abbrev pub AreForms : (PureTerm → Type 0) → List PureTerm → List (Option ℕ) → Type 0
AreForms P ts forms = (i m : ℕ) → slice_get forms i ≡ Some (Some m) → IsForm P ts i m
