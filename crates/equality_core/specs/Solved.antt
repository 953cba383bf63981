-- What is answered on equalities.
use Rattle.std.specs.Prelude.{◌≡◌, List, [], ◌∷◌, ◌++◌, Option, Some, None}
use Rattle.pure_terms.specs.declared.variables.Sort.{Sort}
use Rattle.pure_terms.specs.Pure.{PureTerm, PureAtom, negative}
use Rattle.pure_terms.specs.View.{atoms_view}
use Rattle.solver_proof.specs.Chains.{equals}
use Rattle.solver_proof.specs.Closing.{Closes}
use Rattle.solver_proof.specs.Pure.{PureProof}
use Rattle.solver_proof.specs.View.{proof_view}
use Rattle.equality_core.specs.declared.forms.Solved.{Solved}
use Rattle.equality_core.specs.declared.forms.SolvedForm.{SolvedForm}
use Rattle.equality_core.specs.Equating.{Equates, EquatesNoClash, HaveFragmentForms}

-- the sorts of a form's variables
abbrev pub table : SolvedForm → List Sort
table form = form.vars

-- the list of which a form is
abbrev pub equalities : SolvedForm → List PureAtom
equalities form = atoms_view form.atoms

-- a form of the list over the table, which equates no clash where its equalities have forms of the fragment; or a proof that
-- closes the list
abbrev pub IsSolved : List Sort → List PureAtom → Solved → Type 0
IsSolved vars atoms (Solved.Form form) = (table form ≡ vars) × (equalities form ≡ atoms) × (HaveFragmentForms atoms → EquatesNoClash atoms)
IsSolved vars atoms (Solved.Clash proof) = Closes vars atoms (proof_view proof)

-- a proof that two terms are equated, which closes the list with their disequality appended; or they aren't equated, where
-- the equalities have forms of the fragment
abbrev pub IsLinked : List PureAtom → PureTerm → PureTerm → Option PureProof → Type 0
IsLinked atoms s t (Some proof) = Equates atoms s t × ((vars : List Sort) → Closes vars (atoms ++ negative (equals s t) ∷ []) proof)
IsLinked atoms s t None = HaveFragmentForms atoms → Equates atoms s t → ⊥

-- the second form is one of the first one's list with the atom appended, over the table; or a proof closes that list, and the
-- form stays
abbrev pub IsExtended : SolvedForm → List Sort → PureAtom → SolvedForm → Option PureProof → Type 0
IsExtended old vars a new None = IsSolved vars (equalities old ++ a ∷ []) (Solved.Form new)
IsExtended old vars a new (Some proof) = Closes vars (equalities old ++ a ∷ []) proof × (new ≡ old)
