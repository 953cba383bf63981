-- Lists to which the equalities of the elements of equal list terms were added, and the classes of their terms.
use Rattle.std.specs.Prelude.{◌≡◌, ℕ, ◌+◌, ◌<◌, ◌≤◌, List, [], ◌∷◌, ◌++◌, length, take, drop, slice_get, Bool, true, not, ◌&&◌, ◌||◌, Some, IsSomeAnd}
use Rattle.pure_terms.specs.declared.variables.Sort.{Sort}
use Rattle.pure_terms.specs.Fragment.{is_simple, is_flat, names_sort}
use Rattle.pure_terms.specs.Pure.{PureTerm, list_of, binary_of, PureTerms, to_list, from_list, PureAtom, positive, term_of, size}
use Rattle.pure_terms.specs.declared.terms.Terms.{Terms}
use Rattle.pure_terms.specs.View.{term_view, terms_view, atoms_view}
use Rattle.solver_proof.specs.declared.proofs.Proof.{Proof}
use Rattle.solver_proof.specs.Chains.{equals, Sides, equality_at}
use Rattle.solver_proof.specs.Closing.{Closes, HaveOneLength, element_equalities, equal_lists_at}
use Rattle.solver_proof.specs.Pure.{PureProof, parts_at}
use Rattle.solver_proof.specs.View.{proof_view}
use Rattle.equality_core.specs.declared.classes.Classes.{Classes}
use Rattle.equality_core.specs.declared.closing.Closing.{Closing}
use Rattle.equality_core.specs.declared.closing.Taken.{Taken}
use Rattle.equality_core.specs.declared.sides.BothSides.{BothSides}
use Rattle.equality_core.specs.Equating.{Equates, HaveFragmentForms}
use Rattle.equality_core.specs.Nodes.{PureNode, nodes_view, AreNodes, IsUnited}

abbrev pub sides_view : BothSides → Sides
sides_view s = record { left = term_view s.left; right = term_view s.right }

abbrev pub list_sides : Terms → Terms → Sides
list_sides left right = record { left = list_of (from_list (terms_view left)); right = list_of (from_list (terms_view right)) }

-- the list that was given, the list with what was added, the places of the equalities whose elements were added, and the nodes
pub record PureClasses : Type 0 where
  pub given : ℕ
  pub list : List PureAtom
  pub opened : List ℕ
  pub nodes : List PureNode

abbrev pub classes_view : Classes → PureClasses
classes_view c = record { given = c.given; list = atoms_view c.list; opened = c.opened.items; nodes = nodes_view c.nodes }

abbrev pub given_list : PureClasses → List PureAtom
given_list c = take c.given c.list

-- the second list is the first one, with the equalities of the elements at these places added
abbrev pub IsOpened : List PureAtom → List ℕ → List PureAtom → Type 0
IsOpened atoms [] list = atoms ≡ list
IsOpened atoms (p ∷ ps) list =
    IsSomeAnd (equal_lists_at atoms p)
    (λ lists. HaveOneLength lists.left lists.right × IsOpened (atoms ++ element_equalities lists.left lists.right) ps list)

-- a proof over the second list as one over the first
abbrev pub under_parts : List ℕ → PureProof → PureProof
under_parts [] proof = proof
under_parts (p ∷ ps) proof = parts_at p (under_parts ps proof)

-- the equalities of the elements of two list terms stand in the list
pub record AreListed (list : List PureAtom) (ts us : PureTerms) : Type 0 where
  pub one_length : HaveOneLength ts us
  pub each : (j : ℕ) (s t : PureTerm) → slice_get (to_list ts) j ≡ Some s → slice_get (to_list us) j ≡ Some t
      → (m : ℕ) × (slice_get list m ≡ Some (positive (equals s t)))

-- the sides of an equality that has a form of the fragment
abbrev pub are_plain : PureTerm → PureTerm → Bool
are_plain s t =
    (is_simple s && is_simple t) && ((not (names_sort Sort.List s) && not (names_sort Sort.List t))
    && ((is_flat s && is_flat t) || (not (names_sort Sort.Any s) && not (names_sort Sort.Any t))))

-- what holds once the classes of the sides of the equalities before one place are one, and the equalities of elements were
-- added for those before another
pub record IsTakenTo (c : PureClasses) (united_to listed_to : ℕ) : Type 0 where
  pub within : c.given ≤ length c.list
  pub opened : IsOpened (given_list c) c.opened c.list
  pub nodes : AreNodes c.list c.nodes
  pub united : (i : ℕ) (sides : Sides) → i < united_to → equality_at c.list i ≡ Some sides → IsUnited c.nodes sides.left sides.right
  pub listed : (i : ℕ) (ts us : PureTerms) → i < listed_to
      → equality_at c.list i ≡ Some (record { left = list_of ts; right = list_of us }) → AreListed c.list ts us
  pub equated : (i : ℕ) (sides : Sides) → equality_at c.list i ≡ Some sides → Equates (given_list c) sides.left sides.right
  pub plain : HaveFragmentForms (given_list c) → (i : ℕ) (sides : Sides) → equality_at c.list i ≡ Some sides
      → are_plain sides.left sides.right ≡ true

abbrev pub IsTaken : PureClasses → ℕ → Type 0
IsTaken c place = IsTakenTo c place place

-- how large the terms of an atom are: what is added is less than what it is added for
abbrev pub term_weight : PureTerm → ℕ
term_weight (binary_of op s t) = size s + size t
term_weight t = 1

abbrev pub weight : List PureAtom → ℕ
weight [] = 0
weight (a ∷ atoms) = term_weight (term_of a) + weight atoms

abbrev pub weight_from : ℕ → PureClasses → ℕ
weight_from place c = weight (drop place c.list)

-- the list equates list terms of different length
pub record EquatesApart (atoms : List PureAtom) : Type 0 where
  pub left : PureTerms
  pub right : PureTerms
  pub equated : Equates atoms (list_of left) (list_of right)
  pub apart : ¬ HaveOneLength left right

-- the given list is closed by the proof, since it equates list terms of different length
abbrev pub IsApart : List PureAtom → Proof → Type 0
IsApart atoms proof = ((vars : List Sort) → Closes vars atoms (proof_view proof)) × EquatesApart atoms

-- the equality at a place was taken in, or the given list is closed
abbrev pub HasTaken : PureClasses → ℕ → Taken → Type 0
HasTaken old place (Taken.Goes classes) =
    (given_list (classes_view classes) ≡ given_list old)
    × (IsTaken (classes_view classes) (place + 1) × weight_from (place + 1) (classes_view classes) < weight_from place old)
HasTaken old place (Taken.Clash proof) = IsApart (given_list old) proof

-- all equalities were taken in, or the list is closed
abbrev pub IsClosing : List PureAtom → Closing → Type 0
IsClosing atoms (Closing.Whole classes) =
    (given_list (classes_view classes) ≡ atoms) × IsTaken (classes_view classes) (length (atoms_view classes.list))
IsClosing atoms (Closing.Clash proof) = IsApart atoms proof
