-- What stands in a solver from one question to the next.
use Rattle.std.specs.Prelude.{◌≡◌, ℕ, List, slice_get, Some}
use Rattle.pure_terms.specs.declared.variables.Sort.{Sort}
use Rattle.pure_terms.specs.Pure.{PureAtom}
use Rattle.pure_terms.specs.View.{atoms_view}
use Rattle.path_solver.specs.declared.solvers.PathSolver.{PathSolver}

abbrev pub table_of : PathSolver → List Sort
table_of s = s.vars

abbrev pub list_of : PathSolver → List PureAtom
list_of s = atoms_view s.list

-- one atom stands at the place of both lists
pub record AreSameAt (left right : List PureAtom) (place : ℕ) : Type 0 where
  pub atom : PureAtom
  pub at_left : slice_get left place ≡ Some atom
  pub at_right : slice_get right place ≡ Some atom
