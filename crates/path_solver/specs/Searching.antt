-- What a search finds on a list of atoms of the fragment, and on such a list with one atom more.
use Rattle.std.specs.Prelude.{◌≡◌, ℕ, List, [], ◌∷◌, ◌++◌, slice_get, Some, IsTrue}
use Rattle.std.specs.List.{list_all}
use Rattle.gil_values.specs.Pure.{PureValue}
use Rattle.gil_values.specs.View.{values_view}
use Rattle.pure_terms.specs.declared.variables.Sort.{Sort}
use Rattle.pure_terms.specs.Deciding.{has_moderate_numbers}
use Rattle.pure_terms.specs.Meaning.{Satisfies, IsProper}
use Rattle.pure_terms.specs.Pure.{variable, PureAtom}
use Rattle.pure_terms.specs.View.{atoms_view}
use Rattle.solver_proof.specs.Closing.{Closes, CloseEach}
use Rattle.solver_proof.specs.Pure.{PureProof, cases_of, values_at, differ_at, from_list}
use Rattle.solver_proof.specs.View.{proof_view, proofs_view}
use Rattle.solver_rules.specs.Steps.{ArePlain}
use Rattle.path_solver.specs.declared.branches.Branches.{Branches}
use Rattle.path_solver.specs.declared.branches.Form.{Form}
use Rattle.path_solver.specs.declared.searching.Branch.{Branch}
use Rattle.path_solver.specs.declared.searching.Each.{Each}
use Rattle.path_solver.specs.declared.searching.Found.{Found}
use Rattle.path_solver.specs.Falling.{Falls}

-- the valuation satisfies the list, with numbers that a decider may give
abbrev pub Meets : List Sort → List PureAtom → List PureValue → Type 0
Meets vars list v = Satisfies vars v list × IsTrue (list_all has_moderate_numbers v)

abbrev pub IsFound : List Sort → List PureAtom → Found → Type 0
IsFound vars list (Found.Model v) = Meets vars list (values_view v)
IsFound vars list (Found.Closed p) = Closes vars list (proof_view p)

-- a valuation that is found is proper
abbrev pub IsProperlyFound : List Sort → Found → Type 0
IsProperlyFound vars (Found.Model v) = IsProper vars (values_view v)
IsProperlyFound vars (Found.Closed p) = Unit {0}

-- what is found of the list itself, or a proof that closes it with the atom appended
abbrev pub IsBranch : List Sort → List PureAtom → PureAtom → Branch → Type 0
IsBranch vars list a (Branch.Whole found) = IsFound vars list found
IsBranch vars list a (Branch.Under p) = Closes vars (list ++ a ∷ []) (proof_view p)

-- what is found of the list itself, or a proof for each of the atoms
abbrev pub AreEach : List Sort → List PureAtom → List PureAtom → Each → Type 0
AreEach vars list more (Each.Whole found) = IsFound vars list found
AreEach vars list more (Each.Under ps) = CloseEach vars list more (from_list (proofs_view ps))

-- less is left to say with each of the atoms
abbrev pub EachFalls : List Sort → List PureAtom → List PureAtom → Type 0
EachFalls vars list more = (i : ℕ) (a : PureAtom) → slice_get more i ≡ Some a → Falls vars list a

abbrev pub joined_proof : Form → List PureProof → PureProof
joined_proof (Form.Cases x) ps = cases_of (variable x) (from_list ps)
joined_proof (Form.Values i) ps = values_at i (from_list ps)
joined_proof (Form.Differ i) ps = differ_at i (from_list ps)

-- atoms of the fragment, of which each may be appended and leaves less to say: proofs for all of them make one that closes the list
pub record SplitsInto (vars : List Sort) (list : List PureAtom) (form : Form) (more : List PureAtom) : Type 0 where
  pub plain : ArePlain vars more
  pub falls : EachFalls vars list more
  pub closes : (ps : List PureProof) → CloseEach vars list more (from_list ps) → Closes vars list (joined_proof form ps)

abbrev pub AreBranches : List Sort → List PureAtom → Branches → Type 0
AreBranches vars list branches = SplitsInto vars list branches.form (atoms_view branches.atoms)
