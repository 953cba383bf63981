-- Nodes: the terms that equalities name, in classes, each with a chain to the first term of its class.
use Rattle.std.specs.Prelude.{◌≡◌, ◌⊎◌, ℕ, ◌-◌, ◌≤◌, List, [], ◌∷◌, ◌++◌, map, reverse, drop, length, slice_get, if◌then◌else◌, Option, Some, None, nat_eq}
use Rattle.pure_terms.specs.Equality.{same_term}
use Rattle.pure_terms.specs.Kinds.{known_kind}
use Rattle.pure_terms.specs.Pure.{PureTerm, PureAtom}
use Rattle.pure_terms.specs.View.{term_view}
use Rattle.solver_proof.specs.declared.proofs.ChainEnd.{ChainEnd}
use Rattle.solver_proof.specs.Chains.{Sides, Leads, are_different_literals, are_other_kinds, is_fresh_over}
use Rattle.equality_core.specs.declared.clashes.Clash.{Clash}
use Rattle.equality_core.specs.declared.nodes.Node.{Node}
use Rattle.equality_core.specs.declared.nodes.Nodes.{Nodes}

pub record PureNode : Type 0 where
  pub term : PureTerm
  pub root : ℕ
  pub chain : List ℕ

abbrev pub node_view : Node → PureNode
node_view n = record { term = term_view n.term; root = n.root; chain = n.chain.items }

abbrev pub nodes_view : Nodes → List PureNode
nodes_view ns = map node_view ns.items.items

-- the equalities of the chain lead from the node's term to that of its root, which is its own root
pub record IsNode (list : List PureAtom) (nodes : List PureNode) (node : PureNode) : Type 0 where
  pub first : PureNode
  pub there : slice_get nodes node.root ≡ Some first
  pub own : first.root ≡ node.root
  pub leads : Leads list node.chain node.term first.term

abbrev pub AreNodes : List PureAtom → List PureNode → Type 0
AreNodes list nodes = (i : ℕ) (node : PureNode) → slice_get nodes i ≡ Some node → IsNode list nodes node

-- the root of the first node of a term
abbrev pub root_of : List PureNode → PureTerm → Option ℕ
root_of [] t = None
root_of (node ∷ nodes) t = if same_term node.term t then Some node.root else root_of nodes t

-- both terms have nodes, of one class
pub record IsUnited (nodes : List PureNode) (s t : PureTerm) : Type 0 where
  pub root : ℕ
  pub left : root_of nodes s ≡ Some root
  pub right : root_of nodes t ≡ Some root

-- the node at this place is the first one of the term
pub record IsFound (nodes : List PureNode) (t : PureTerm) (i : ℕ) : Type 0 where
  pub node : PureNode
  pub at : slice_get nodes i ≡ Some node
  pub term : node.term ≡ t
  pub root : root_of nodes t ≡ Some node.root

-- a node of a term, which is alone in its class
abbrev pub alone : ℕ → PureTerm → PureNode
alone i t = record { term = t; root = i; chain = [] }

-- nothing was added, or a node of the term
abbrev pub AddsAtMost : List PureNode → PureTerm → List PureNode → Type 0
AddsAtMost old t new = (new ≡ old) ⊎ (new ≡ old ++ alone (length old) t ∷ [])

-- two chains share so many places at their ends
pub record ShareEnd (first second : List ℕ) (count : ℕ) : Type 0 where
  pub in_first : count ≤ length first
  pub in_second : count ≤ length second
  pub shared : drop (length first - count) first ≡ drop (length second - count) second

-- the way along one chain and back along another, without the end that they share
pub record GoesBack (along back way : List ℕ) : Type 0 where
  pub ahead : List ℕ
  pub behind : List ℕ
  pub shared : List ℕ
  pub is_along : along ≡ ahead ++ shared
  pub is_back : back ≡ behind ++ shared
  pub is_way : way ≡ ahead ++ reverse behind

-- the node with another root, and a chain that goes back along a chain and then onward
pub record IsTurned (into : ℕ) (back onward : List ℕ) (old new : PureNode) : Type 0 where
  pub way : List ℕ
  pub goes_back : GoesBack old.chain back way
  pub is : new ≡ record { term = old.term; root = into; chain = way ++ onward }

-- the node in another class, where it is in this one
abbrev pub IsMoved : ℕ → ℕ → List ℕ → List ℕ → PureNode → PureNode → Type 0
IsMoved from into back onward old new =
    ((old.root ≡ from → ⊥) × (new ≡ old)) ⊎ ((old.root ≡ from) × IsTurned into back onward old new)

-- the nodes of two lists belong together, place by place
abbrev pub ArePaired : (PureNode → PureNode → Type 0) → List PureNode → List PureNode → Type 0
ArePaired P [] [] = Unit {0}
ArePaired P [] (new ∷ news) = ⊥
ArePaired P (old ∷ olds) [] = ⊥
ArePaired P (old ∷ olds) (new ∷ news) = P old new × ArePaired P olds news

-- one node's class was moved into another's, by an equality of their terms at this place
abbrev pub AreMoved : PureNode → PureNode → ℕ → List PureNode → List PureNode → Type 0
AreMoved from into place old new = ArePaired (IsMoved from.root into.root from.chain (place ∷ into.chain)) old new

pub record IsMovedInto (old : List PureNode) (from into place : ℕ) (new : List PureNode) : Type 0 where
  pub first : PureNode
  pub second : PureNode
  pub at_from : slice_get old from ≡ Some first
  pub at_into : slice_get old into ≡ Some second
  pub moved : AreMoved first second place old new

-- two nodes' classes are one, by an equality of their terms at this place
pub record AreJoined (old : List PureNode) (left right place : ℕ) (new : List PureNode) : Type 0 where
  pub first : PureNode
  pub second : PureNode
  pub at_left : slice_get old left ≡ Some first
  pub at_right : slice_get old right ≡ Some second
  pub either : ((first.root ≡ second.root) × (new ≡ old))
      ⊎ ((first.root ≡ second.root → ⊥) × (AreMoved second first place old new ⊎ AreMoved first second place old new))

-- the sides of the equality at a place have nodes of one class
pub record IsUnitedBy (old : List PureNode) (sides : Sides) (place : ℕ) (new : List PureNode) : Type 0 where
  pub one : List PureNode
  pub two : List PureNode
  pub left : ℕ
  pub right : ℕ
  pub adds_left : AddsAtMost old sides.left one
  pub found_left : IsFound one sides.left left
  pub adds_right : AddsAtMost one sides.right two
  pub found_right : IsFound two sides.right right
  pub joined : AreJoined two left right place new

-- why two terms can't be equal, list terms aside
abbrev pub end_between : PureTerm → PureTerm → Option ChainEnd
end_between s t =
    if are_different_literals s t then Some ChainEnd.Literals
    else (if are_other_kinds (known_kind s) (known_kind t) then Some ChainEnd.Kinds
    else (if is_fresh_over s t then Some ChainEnd.Fresh else (if is_fresh_over t s then Some ChainEnd.Fresh else None)))

-- why the terms of two nodes of one class can't be equal
abbrev pub clash_end : PureNode → PureNode → Option ChainEnd
clash_end m n = if nat_eq m.root n.root then end_between m.term n.term else None

abbrev pub ClashesWithNone : PureNode → List PureNode → Type 0
ClashesWithNone m nodes = (i : ℕ) (n : PureNode) → slice_get nodes i ≡ Some n → clash_end m n ≡ None

abbrev pub HaveNoClash : List PureNode → Type 0
HaveNoClash nodes = (i : ℕ) (n : PureNode) → slice_get nodes i ≡ Some n → ClashesWithNone n nodes

-- the nodes at these places are of one class, and this is why their terms can't be equal
pub record IsClash (nodes : List PureNode) (c : Clash) : Type 0 where
  pub first : PureNode
  pub second : PureNode
  pub at_first : slice_get nodes c.first ≡ Some first
  pub at_second : slice_get nodes c.second ≡ Some second
  pub clashes : clash_end first second ≡ Some c.end
