-- Lists of borrowed atoms.
use Rattle.std.specs.Prelude.{◌≡◌, ℕ, ◌+◌, List, [], ◌∷◌, ◌++◌, length, slice_get, Some}
use Rattle.pure_terms.specs.declared.literals.Literal.{Literal}
use Rattle.pure_terms.specs.Pure.{PureTerm, literal, from_list, PureAtom, positive, negative, opening}
use Rattle.pure_terms.specs.View.{term_view, terms_view, atoms_view}
use Rattle.solver_proof.specs.declared.lists.Fact.{Fact}
use Rattle.solver_proof.specs.declared.lists.Found.{Found}
use Rattle.solver_proof.specs.declared.lists.AtomList.{AtomList, fold-AtomList}
use Rattle.solver_proof.specs.declared.lists.AtomList.TheOpen.{AtomList-F}
use Rattle.solver_proof.specs.declared.checking.Appended.{Appended}
use Rattle.solver_proof.specs.declared.comparing.ListPair.{ListPair}
use Rattle.solver_proof.specs.declared.facts.Pair.{Pair}
use Rattle.solver_proof.specs.declared.facts.Said.{Said}
use Rattle.solver_proof.specs.declared.facts.Side.{Side}
use Rattle.solver_proof.specs.declared.facts.Link.{Link}
use Rattle.solver_proof.specs.Chains.{equals, truth_term, kind_is, Sides, KindFact}
use Rattle.solver_proof.specs.Closing.{kind_atoms, boolean_atoms, kind_value_atoms, element_equalities, element_disequalities, Lists}

abbrev pub fact_view : Fact → PureAtom
fact_view (Fact.Holds t) = positive (term_view t.now)
fact_view (Fact.Not t) = negative (term_view t.now)
fact_view (Fact.Open t) = opening (term_view t.now)
fact_view (Fact.Equal s t) = positive (equals (term_view s.now) (term_view t.now))
fact_view (Fact.Differ s t) = negative (equals (term_view s.now) (term_view t.now))
fact_view (Fact.KindIs t k) = positive (kind_is (term_view t.now) k)
fact_view (Fact.IsTruth t b) = positive (equals (term_view t.now) (truth_term b))
fact_view (Fact.IsKind t k) = positive (equals (term_view t.now) (literal (Literal.Kind k)))

abbrev pub list_step : AtomList-F (List PureAtom) → List PureAtom
list_step (AtomList-F.Given atoms) = atoms_view atoms.now
list_step (AtomList-F.More rest fact) = rest.now ++ fact_view fact ∷ []
list_step (AtomList-F.Parts rest left right) =
    rest.now ++ element_equalities (from_list (terms_view left.now)) (from_list (terms_view right.now))

abbrev pub list_view : AtomList → List PureAtom
list_view = fold-AtomList (List PureAtom) list_step

-- what stands at a place, or how far it lies past the end
abbrev pub FindsAt : List PureAtom → ℕ → Found → Type 0
FindsAt atoms i (Found.Here fact) = slice_get atoms i ≡ Some (fact_view fact)
FindsAt atoms i (Found.Past past) = i ≡ length atoms + past

abbrev pub pair_view : Pair → Sides
pair_view p = record { left = term_view p.left.now; right = term_view p.right.now }

abbrev pub said_view : Said → KindFact
said_view s = record { subject = term_view s.subject.now; kind = s.kind; is_so = s.is_so }

abbrev pub side_view : Side → PureTerm
side_view (Side.Of t) = term_view t.now
side_view (Side.Truth b) = truth_term b
side_view (Side.Kind k) = literal (Literal.Kind k)

abbrev pub link_view : Link → Sides
link_view l = record { left = side_view l.left; right = side_view l.right }

abbrev pub lists_view : ListPair → Lists
lists_view l = record { left = from_list (terms_view l.left.now); right = from_list (terms_view l.right.now) }

abbrev pub appended_view : Appended → List PureAtom
appended_view (Appended.Kinds t) = kind_atoms (term_view t.now)
appended_view (Appended.Booleans t) = boolean_atoms (term_view t.now)
appended_view (Appended.KindValues t) = kind_value_atoms (term_view t.now)
appended_view (Appended.Differences left right) = element_disequalities (from_list (terms_view left.now)) (from_list (terms_view right.now))
