-- Parts of atoms as the code has them, and what it finds in a list.
use Rattle.std.specs.Prelude.{◌≡◌, Bool, ◌||◌, if◌then◌else◌, Option, Some}
use Rattle.gil_values.specs.declared.kinds.Kind.{Kind}
use Rattle.pure_terms.specs.declared.variables.Var.{Var}
use Rattle.pure_terms.specs.Kinds.{is_of_kind}
use Rattle.pure_terms.specs.Pure.{PureTerm, variable, PureAtom, positive}
use Rattle.pure_terms.specs.View.{term_view}
use Rattle.solver_proof.specs.Chains.{kind_is, KindFact, are_other_kinds, is_empty_kind}
use Rattle.solver_rules.specs.declared.pairs.Fact.{Fact}

abbrev pub fact_view : Fact → KindFact
fact_view f = record { subject = term_view f.subject.now; kind = f.kind; is_so = f.is_so }

-- what is said of a kind can't be said of a term with this known kind
abbrev pub is_against_kind : Bool → Kind → Option Kind → Bool
is_against_kind so k known = if so then is_empty_kind k || are_other_kinds known (Some k) else is_of_kind known k

-- the atom says of a variable that it has the kind
pub record IsVariableKind (a : PureAtom) (t : PureTerm) (k : Kind) : Type 0 where
  pub x : Var
  pub subject : t ≡ variable x
  pub is : a ≡ positive (kind_is (variable x) k)
