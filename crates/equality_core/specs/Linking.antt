-- What chains between the nodes of one class show.
use Rattle.std.specs.Prelude.{◌≡◌, List, Option, Some, None}
use Rattle.pure_terms.specs.declared.variables.Sort.{Sort}
use Rattle.pure_terms.specs.Pure.{PureTerm}
use Rattle.solver_proof.specs.Chains.{Sides}
use Rattle.solver_proof.specs.Closing.{Closes}
use Rattle.solver_proof.specs.Pure.{PureProof}
use Rattle.equality_core.specs.declared.linking.Pair.{Pair}
use Rattle.equality_core.specs.Classes.{PureClasses, given_list}
use Rattle.equality_core.specs.Equating.{Equates, EquatesNoClash, HaveFragmentForms}
use Rattle.equality_core.specs.Nodes.{PureNode, IsFound}

abbrev pub both_sides : PureTerm → PureTerm → Sides
both_sides s t = record { left = s; right = t }

-- the nodes at these places are the first ones of the two terms, and of one class
pub record IsPair (nodes : List PureNode) (s t : PureTerm) (pair : Pair) : Type 0 where
  pub first : IsFound nodes s pair.first
  pub second : IsFound nodes t pair.second
  pub one : first.node.root ≡ second.node.root

-- a proof closes the list, or the list equates no clash, where its equalities have forms of the fragment
abbrev pub IsCleared : PureClasses → Option PureProof → Type 0
IsCleared c (Some proof) = (vars : List Sort) → Closes vars (given_list c) proof
IsCleared c None = HaveFragmentForms (given_list c) → EquatesNoClash (given_list c)

-- two terms are equated and a proof closes the list; or they aren't equated, where there is no clash and the equalities have
-- forms of the fragment
abbrev pub IsLinkedIn : PureClasses → PureTerm → PureTerm → Option PureProof → Type 0
IsLinkedIn c s t (Some proof) = ((vars : List Sort) → Closes vars (given_list c) proof) × Equates (given_list c) s t
IsLinkedIn c s t None = HaveFragmentForms (given_list c) → EquatesNoClash (given_list c) → Equates (given_list c) s t → ⊥
