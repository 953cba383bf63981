-- The views, level by level.
use Rattle.std.proofs.Common.{◌≡◌, ℕ, ◌<◌, List, [], ◌∷◌, ◌++◌, map, length, get_or, slice_get, Some, Bor, sym, ap, ◌∙◌, rules}
use Rattle.std.proofs.lemmas.List.{length-map}
use Rattle.gil_values.proofs.Lists.{slice_get-read}
use Rattle.pure_terms.specs.declared.atoms.Atom.{Atom}
use Rattle.pure_terms.specs.declared.terms.Terms.{Terms}
use Rattle.pure_terms.specs.Pure.{from_list}
use Rattle.pure_terms.specs.View.{terms_view, atoms_view}
use Rattle.solver_proof.specs.declared.lists.AtomList
use Rattle.solver_proof.specs.declared.lists.AtomList.{AtomList}
use Rattle.solver_proof.specs.declared.lists.AtomList.{the_lemmas as list_lemmas}
use Rattle.solver_proof.specs.declared.lists.Fact.{Fact}
use Rattle.solver_proof.specs.declared.proofs.Proof.{Proof, the_lemmas}
use Rattle.solver_proof.specs.declared.proofs.Proofs.{Proofs}
use Rattle.solver_proof.specs.Closing.{element_equalities}
use Rattle.solver_proof.specs.Lists.{fact_view, list_view}
use Rattle.solver_proof.specs.View.{proof_view, proofs_view}

pub proofs_view-items : (ps : Proofs) → proofs_view ps ≡ map proof_view ps.items.items
proofs_view-items ps = search (rules, the_lemmas)

-- the proof at a place of the items, as pure data
pub proof_at : (proofs : Proofs) (items : List Proof) (i : ℕ) (p : Proof) → items ≡ proofs.items.items → i < length items → p ≡ get_or items i p → slice_get (proofs_view proofs) i ≡ Some (proof_view p)
proof_at proofs items i p same below is =
    ap (λ us. slice_get us i) (proofs_view-items proofs ∙ ap (map proof_view) (sym same)) ∙ slice_get-read proof_view items i p below is

pub length_of : (proofs : Proofs) → length (proofs_view proofs) ≡ length proofs.items.items
length_of proofs = ap length (proofs_view-items proofs) ∙ length-map proofs.items.items proof_view

pub list_view-given : (atoms : Bor (List Atom)) → list_view (AtomList.Given atoms) ≡ atoms_view atoms.now
list_view-given atoms = search (rules, list_lemmas)

pub list_view-more : (rest : Bor AtomList) (fact : Fact) → list_view (AtomList.More rest fact) ≡ list_view rest.now ++ fact_view fact ∷ []
list_view-more rest fact = search (rules, list_lemmas)

pub list_view-parts : (rest : Bor AtomList) (left right : Bor Terms) → list_view (AtomList.Parts rest left right) ≡ list_view rest.now ++ element_equalities (from_list (terms_view left.now)) (from_list (terms_view right.now))
list_view-parts rest left right = search (rules, list_lemmas)
