-- What a term keeps when another is put in its place.
use Rattle.std.specs.Prelude.{◌≡◌, ◌⊎◌, ◌<◌, List, Some, IsTrue}
use Rattle.std.specs.List.{Contains}
use Rattle.gil_values.specs.Pure.{PureValue}
use Rattle.pure_terms.specs.declared.variables.Sort.{Sort}
use Rattle.pure_terms.specs.declared.variables.Var.{Var}
use Rattle.pure_terms.specs.Fragment.{is_simple}
use Rattle.pure_terms.specs.Meaning.{value, IsProper, IsOver}
use Rattle.pure_terms.specs.Pure.{PureTerm, size, variables}

-- under every proper valuation under which t is defined, u is defined and has the same value
abbrev pub KeepsValue : PureTerm → PureTerm → Type 0
KeepsValue t u =
    (vars : List Sort) (v : List PureValue) (w : PureValue) → IsProper vars v → IsOver vars t → value v t ≡ Some w → value v u ≡ Some w

-- each variable of u stands in t, with the same sort
abbrev pub NamesNoMore : PureTerm → PureTerm → Type 0
NamesNoMore t u = (x : Var) → Contains (variables u) x → Contains (variables t) x

abbrev pub StaysSimple : PureTerm → PureTerm → Type 0
StaysSimple t u = IsTrue (is_simple t) → IsTrue (is_simple u)

-- u is t, or has fewer nodes
abbrev pub IsSameOrSmaller : PureTerm → PureTerm → Type 0
IsSameOrSmaller t u = (u ≡ t) ⊎ (size u < size t)

-- u may stand in t's place
pub record Replaces (t u : PureTerm) : Type 0 where
  pub value_kept : KeepsValue t u
  pub no_more_names : NamesNoMore t u
  pub simple_stays : StaysSimple t u
  pub no_larger : IsSameOrSmaller t u
