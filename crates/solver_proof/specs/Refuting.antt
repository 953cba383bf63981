-- What proofs show, and the laws of what gives them.
use Rattle.std.specs.Prelude.{◌⊎◌, List, Option, Some, None}
use Rattle.gil_values.specs.Pure.{PureValue}
use Rattle.pure_terms.specs.declared.variables.Sort.{Sort}
use Rattle.pure_terms.specs.Fragment.{InFragment}
use Rattle.pure_terms.specs.Meaning.{AreOver, Satisfies, IsUnsatisfiable}
use Rattle.pure_terms.specs.Pure.{PureAtom}
use Rattle.solver_proof.specs.Closing.{Closes}
use Rattle.solver_proof.specs.Pure.{PureProof}

-- A list that a proof closes has no proper valuation under which every atom is true.
abbrev pub ClosedListsHaveNoSolution : Type 0
ClosedListsHaveNoSolution =
    (vars : List Sort) (atoms : List PureAtom) (p : PureProof) → AreOver vars atoms → Closes vars atoms p → IsUnsatisfiable vars atoms

-- the laws of a refuter
abbrev pub RefutesRightly : List Sort → List PureAtom → Option PureProof → Type 0
RefutesRightly vars atoms (Some p) = Closes vars atoms p
RefutesRightly vars atoms None = (¬ InFragment atoms) ⊎ ((v : List PureValue) × Satisfies vars v atoms)
