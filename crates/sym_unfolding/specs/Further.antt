-- States to which variables, conditions, keys and facts are added.
use Rattle.std.specs.Prelude.{◌≡◌, List, ◌++◌}
use Rattle.pure_terms.specs.declared.variables.Sort.{Sort}
use Rattle.pure_terms.specs.Pure.{PureAtom}
use Rattle.sym_model.specs.Terms.{StateTerms}
use Rattle.sym_states.specs.Meaning.{IsOverTable}
use Rattle.sym_states.specs.Pure.{PureState}

-- Variables and conditions are added at the end, and all but memory and facts is as it was.
pub record IsFurther {S : Type 0} (terms : S → StateTerms) (kept : S → Type 0) (s r : PureState S) : Type 0 where
  pub sorts : List Sort
  pub vars : r.vars ≡ s.vars ++ sorts
  pub more : List PureAtom
  pub conds : r.conds ≡ s.conds ++ more
  pub same_else : r ≡ record s { vars = r.vars; conds = r.conds; memory = r.memory; facts = r.facts }
  pub over : IsOverTable terms r
  pub still_kept : kept s.memory → kept r.memory
