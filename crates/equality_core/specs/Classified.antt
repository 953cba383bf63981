-- Classes as those who ask them see them.
use Rattle.std.specs.Prelude.{◌≡◌, ℕ, List, [], ◌∷◌, length, Bool, true, false, ◌&&◌, ◌||◌, if◌then◌else◌, Option, Some, None, nat_eq}
use Rattle.std.specs.Option.{is_some}
use Rattle.pure_terms.specs.declared.variables.Sort.{Sort}
use Rattle.pure_terms.specs.Fragment.{is_variable_of, is_integer_literal}
use Rattle.pure_terms.specs.Kinds.{known_kind}
use Rattle.pure_terms.specs.Pure.{PureTerm, literal, PureAtom}
use Rattle.solver_proof.specs.declared.proofs.ChainEnd.{ChainEnd}
use Rattle.solver_proof.specs.Chains.{end_closes}
use Rattle.solver_proof.specs.Closing.{Closes}
use Rattle.solver_proof.specs.Pure.{PureProof}
use Rattle.solver_proof.specs.View.{proof_view}
use Rattle.equality_core.specs.declared.classifying.Classified.{Classified}
use Rattle.equality_core.specs.declared.classes.Wanted.{Wanted}
use Rattle.equality_core.specs.Classes.{PureClasses, classes_view, given_list, IsTaken}
use Rattle.equality_core.specs.Equating.{Equates, EquatesNoClash, HaveFragmentForms}
use Rattle.equality_core.specs.Nodes.{PureNode, root_of}

-- all equalities of the list were taken in
abbrev pub IsWhole : PureClasses → Type 0
IsWhole c = IsTaken c (length c.list)

-- classes of the list, which then equates no clash where its equalities have forms of the fragment; or a proof that closes it
abbrev pub IsClassified : List PureAtom → Classified → Type 0
IsClassified atoms (Classified.Whole c) = (given_list (classes_view c) ≡ atoms) × IsWhole (classes_view c) × (HaveFragmentForms atoms → EquatesNoClash atoms)
IsClassified atoms (Classified.Clash p) = (vars : List Sort) → Closes vars atoms (proof_view p)

-- an Int variable or a number, a literal, or a term whose kind form and sorts tell
abbrev pub is_literal : PureTerm → Bool
is_literal (literal l) = true
is_literal t = false

abbrev pub is_wanted : Wanted → PureTerm → Bool
is_wanted Wanted.Number t = is_variable_of Sort.Int t || is_integer_literal t
is_wanted Wanted.Literal t = is_literal t
is_wanted Wanted.KnownKind t = is_some (known_kind t)

-- the first such term of a class
abbrev pub first_of : List PureNode → ℕ → Wanted → Option PureTerm
first_of [] root w = None
first_of (n ∷ ns) root w = if nat_eq n.root root && is_wanted w n.term then Some n.term else first_of ns root w

abbrev pub itself_if : Bool → PureTerm → Option PureTerm
itself_if true t = Some t
itself_if false t = None

abbrev pub first_at : List PureNode → Wanted → PureTerm → Option ℕ → Option PureTerm
first_at nodes w t (Some root) = first_of nodes root w
first_at nodes w t None = itself_if (is_wanted w t) t

-- the first such term in the class of a term, which is alone where it has no node
abbrev pub first_in_class : List PureNode → Wanted → PureTerm → Option PureTerm
first_in_class nodes w t = first_at nodes w t (root_of nodes t)

-- two terms are equated, and a chain between them closes the list where its end does; or they aren't equated, where there is no
-- clash and the equalities have forms of the fragment
abbrev pub IsChained : PureClasses → PureTerm → PureTerm → ChainEnd → Option PureProof → Type 0
IsChained c s t end (Some p) = Equates (given_list c) s t × (end_closes c.list end s t ≡ true → (vars : List Sort) → Closes vars (given_list c) p)
IsChained c s t end None = HaveFragmentForms (given_list c) → EquatesNoClash (given_list c) → Equates (given_list c) s t → ⊥

-- the terms are equated; or they aren't, where there is no clash and the equalities have forms of the fragment
abbrev pub IsEquating : PureClasses → PureTerm → PureTerm → Bool → Type 0
IsEquating c s t true = Equates (given_list c) s t
IsEquating c s t false = HaveFragmentForms (given_list c) → EquatesNoClash (given_list c) → Equates (given_list c) s t → ⊥
