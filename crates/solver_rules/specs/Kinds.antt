-- The kinds that are found.
use Rattle.std.specs.Prelude.{◌≡◌, List, true, Some}
use Rattle.gil_values.specs.declared.kinds.Kind.{Kind}
use Rattle.pure_terms.specs.declared.variables.Sort.{Sort}
use Rattle.pure_terms.specs.Pure.{PureTerm, PureAtom}
use Rattle.solver_proof.specs.Chains.{KindFact, kind_fact_of}
use Rattle.equality_core.specs.Classes.{PureClasses, given_list}
use Rattle.equality_core.specs.Equating.{Equates}
use Rattle.solver_rules.specs.declared.kinds.KindsFound.{KindsFound}
use Rattle.solver_rules.specs.Rules.{AreKinds}
use Rattle.solver_rules.specs.Steps.{IsOpenVariable}

-- the atom says the kind of a term that is equated with this one
pub record IsKindSaid (c : PureClasses) (t : PureTerm) (a : PureAtom) (k : Kind) : Type 0 where
  pub fact : KindFact
  pub says : kind_fact_of a ≡ Some fact
  pub so : fact.is_so ≡ true
  pub kind : fact.kind ≡ k
  pub equated : Equates (given_list c) t fact.subject

-- one kind for each variable, or a variable of sort any of which the list says no kind
abbrev pub AreFound : List Sort → PureClasses → KindsFound → Type 0
AreFound vars c (KindsFound.All kinds) = AreKinds vars c kinds
AreFound vars c (KindsFound.Open x) = IsOpenVariable vars (given_list c) x
