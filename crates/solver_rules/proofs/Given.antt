-- What stands in the given list stands in the list of the classes.
use Rattle.std.proofs.Common.{◌≡◌, ℕ, List, true, Some, slice_get, sym, ap, ◌∙◌, subst}
use Rattle.std.specs.Option.{option_and_then}
use Rattle.std.proofs.lemmas.Bool.{or_left, and_from}
use Rattle.pure_terms.specs.declared.variables.Sort.{Sort}
use Rattle.pure_terms.specs.EqualityLaws.{same_term-refl}
use Rattle.pure_terms.specs.Pure.{PureTerm, list_of, PureTerms, PureAtom, negative}
use Rattle.solver_proof.specs.declared.proofs.ChainEnd.{ChainEnd}
use Rattle.solver_proof.specs.Chains.{equals, disequality_of, are_sides, end_closes}
use Rattle.equality_core.specs.Classes.{PureClasses}
use Rattle.equality_core.proofs.Exact.{given_atom}
use Rattle.solver_rules.specs.Steps.{IsNode}

pub given_there : (vars : List Sort) (list : List PureAtom) (c : PureClasses) → IsNode vars list c → (i : ℕ) (a : PureAtom) → slice_get list i ≡ Some a → slice_get c.list i ≡ Some a
given_there vars list c node i a at = given_atom c i a (ap (λ l. slice_get l i) node.given ∙ at)

pub disequality_ends : (vars : List Sort) (list : List PureAtom) (c : PureClasses) → IsNode vars list c → (i : ℕ) (s t : PureTerm) → slice_get list i ≡ Some (negative (equals s t)) → end_closes c.list (ChainEnd.Not i) s t ≡ true
disequality_ends vars list c node i s t at =
    ap (λ o. are_sides (option_and_then disequality_of o) s t) (given_there vars list c node i (negative (equals s t)) at) ∙ or_left _ _ (and_from _ _ (same_term-refl s) (same_term-refl t))

-- ---- what is said of the terms of an atom is said of all terms that make the atom

same_negative : (s t u w : PureTerm) → negative (equals s t) ≡ negative (equals u w) → (s ≡ u) × (t ≡ w)
same_negative s t u w e = (cc, cc)

pub pair_done : (a : PureAtom) (s t : PureTerm) → a ≡ negative (equals s t) → (P : PureTerm → PureTerm → Type 0) → P s t → (u w : PureTerm) → a ≡ negative (equals u w) → P u w
pair_done a s t is P h u w same =
    let both = same_negative s t u w (sym is ∙ same) in
    subst (P u) both.1 (subst (λ x. P x t) both.0 h)

same_lists : (ts us : PureTerms) → list_of ts ≡ list_of us → ts ≡ us
same_lists ts us e = cc

pub lists_done : (a : PureAtom) (ts us : PureTerms) → a ≡ negative (equals (list_of ts) (list_of us)) → (P : PureTerms → PureTerms → Type 0) → P ts us → (xs ys : PureTerms) → a ≡ negative (equals (list_of xs) (list_of ys)) → P xs ys
lists_done a ts us is P h xs ys same =
    let both = same_negative (list_of ts) (list_of us) (list_of xs) (list_of ys) (sym is ∙ same) in
    subst (P xs) (same_lists us ys both.1) (subst (λ zs. P zs us) (same_lists ts xs both.0) h)
