-- What the refuter answers of a precondition's atoms.
use Rattle.std.proofs.Common.{◌≡◌, List, Option, Some, None, IfSome, sym, ap, subst, ◌∙◌}
use Rattle.std.specs.Option.{option_map}
use Rattle.gil_syntax.specs.declared.assertions.Param.{Param}
use Rattle.gil_syntax.specs.Pure.{PureSpec}
use Rattle.pure_terms.specs.declared.variables.Sort.{Sort}
use Rattle.pure_terms.specs.Meaning.{AreOver}
use Rattle.pure_terms.specs.Pure.{PureAtom}
use Rattle.solver_proof.specs.declared.proofs.Proof.{Proof}
use Rattle.solver_proof.specs.Pure.{PureProof}
use Rattle.solver_proof.specs.Refuting.{ClosedListsHaveNoSolution, RefutesRightly}
use Rattle.solver_proof.specs.View.{proof_view}
use Rattle.spec_vacuity.specs.Translation.{variables_of, table_of, variable_from, atoms_of, precondition_table, precondition_atoms}
use Rattle.spec_vacuity.specs.Vacuity.{HasNoStart}
use Rattle.spec_vacuity.proofs.Over.{items_over}
use Rattle.spec_vacuity.proofs.Starts.{no_start_if_refuted}

module _ (s : PureSpec) (qs : List Param) (table : List Sort) (atoms : List PureAtom) (variables_are : qs ≡ variables_of s) (table_is : table ≡ table_of qs)
    (atoms_are : atoms ≡ atoms_of (variable_from 0 qs) s.pre) where
  same_table : table ≡ precondition_table s
  same_table = table_is ∙ ap table_of variables_are

  same_atoms : atoms ≡ precondition_atoms s
  same_atoms = atoms_are ∙ ap (λ (rs : List Param). atoms_of (variable_from 0 rs) s.pre) variables_are

  pub over_made : AreOver table atoms
  over_made =
      subst (λ (cs : List PureAtom). AreOver table cs) (sym atoms_are)
      (subst (λ (ts : List Sort). AreOver ts (atoms_of (variable_from 0 qs) s.pre)) (sym table_is) (items_over qs s.pre))

  pub refuted : (found : Option PureProof) → RefutesRightly table atoms found → RefutesRightly (precondition_table s) (precondition_atoms s) found
  refuted found rightly =
      subst (λ (cs : List PureAtom). RefutesRightly (precondition_table s) cs found) same_atoms
      (subst (λ (ts : List Sort). RefutesRightly ts atoms found) same_table rightly)

pub vacuous_found : ClosedListsHaveNoSolution → (s : PureSpec) (found : Option Proof) → RefutesRightly (precondition_table s) (precondition_atoms s) (option_map proof_view found)
    → IfSome found (λ proof. HasNoStart s)
vacuous_found law s (Some proof) closes =
    no_start_if_refuted s
    (law (precondition_table s) (precondition_atoms s) (proof_view proof) (items_over (variables_of s) s.pre) closes)
vacuous_found law s None rightly = tt
