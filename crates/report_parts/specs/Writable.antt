-- Parts of answers that some text has. Names of procedures are names, reserved or not, and so are those of variables, perhaps behind `#`;
-- values and expressions are such as texts have; numbers have the bits of their places.
use Rattle.std.specs.Prelude.{◌⊎◌, ℕ, ◌<◌, ◌^◌, List}
use Rattle.std.specs.List.{AllByRecursion}
use Rattle.gil_values.specs.declared.places.Place.{Place}
use Rattle.gil_lexer.specs.Bytes.{hash}
use Rattle.gil_lexer.specs.Spelling.{IsName, IsMarkedName}
use Rattle.value_text.specs.Writable.{IsWritableValue}
use Rattle.expression_text.specs.Writable.{IsWritableExpr}
use Rattle.gil_report.specs.Pure.{PureBinding, PureCondition, holds, has_value, PureQuestion, PureWitness, PureCause, fails, lacks, undecided_cause, depends}

abbrev pub IsWritablePlace : Place → Type 0
IsWritablePlace p = IsName p.proc × (p.at < 2 ^ 32)

abbrev pub IsVariableName : List ℕ → Type 0
IsVariableName x = IsName x ⊎ IsMarkedName hash x

abbrev pub IsWritableBinding : PureBinding → Type 0
IsWritableBinding b = IsVariableName b.name × IsWritableValue b.value

abbrev pub IsWritableCondition : PureCondition → Type 0
IsWritableCondition (holds e) = IsWritableExpr e
IsWritableCondition (has_value e) = IsWritableExpr e

abbrev pub IsChoice : ℕ → Type 0
IsChoice n = n < 2 ^ 64

pub record IsWritableQuestion (o : PureQuestion) : Type 0 where
  pub place : IsWritablePlace o.place
  pub path : AllByRecursion IsChoice o.path
  pub given : AllByRecursion IsWritableCondition o.given
  pub query : AllByRecursion IsWritableCondition o.query
  pub outside : o.outside < 2 ^ 64

pub record IsWritableWitness (w : PureWitness) : Type 0 where
  pub place : IsWritablePlace w.place
  pub path : AllByRecursion IsChoice w.path
  pub with : AllByRecursion IsWritableBinding w.with

abbrev pub IsWritableCause : PureCause → Type 0
IsWritableCause (fails v w) = IsWritableValue v × IsWritableWitness w
IsWritableCause (lacks lack w) = IsWritableWitness w
IsWritableCause (undecided_cause o) = IsWritableQuestion o
IsWritableCause (depends name) = IsName name
