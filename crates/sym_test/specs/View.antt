-- The pure data of queries and verdicts.
use Rattle.std.specs.Prelude.{ℕ, List}
use Rattle.gil_values.specs.declared.places.Place.{Place}
use Rattle.gil_values.specs.Pure.{PureValue}
use Rattle.gil_values.specs.View.{value_view, values_view}
use Rattle.pure_terms.specs.declared.queries.Query.{Query}
use Rattle.pure_terms.specs.declared.variables.Sort.{Sort}
use Rattle.pure_terms.specs.Pure.{PureAtom}
use Rattle.pure_terms.specs.View.{atoms_view}
use Rattle.sym_test.specs.declared.verdicts.Verdict.{Verdict}

-- The place of a command, the choices that lead there, the variables, what is assumed, what is asked, and the place in the list of an
-- atom that keeps it out of the fragment.
pub record PureQuery : Type 0 where
  pub place : Place
  pub path : List ℕ
  pub vars : List Sort
  pub given : List PureAtom
  pub query : List PureAtom
  pub outside : ℕ

pub data PureVerdict : Type 0 where
  bug : Place → PureValue → List PureValue → PureVerdict
  clean : PureVerdict
  unknown : PureQuery → PureVerdict

abbrev pub query_view : Query → PureQuery
query_view q = record {
  place = q.place;
  path = q.path;
  vars = q.vars;
  given = atoms_view q.given;
  query = atoms_view q.query;
  outside = q.outside;
}

abbrev pub verdict_view : Verdict → PureVerdict
verdict_view (Verdict.Bug place value inputs) = bug place (value_view value) (values_view inputs)
verdict_view Verdict.Clean = clean
verdict_view (Verdict.Unknown q) = unknown (query_view q)
