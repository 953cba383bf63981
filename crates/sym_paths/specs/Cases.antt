-- The candidates for the cases of what a command evaluates: a failing one for each fault, and those for its result.
use Rattle.std.specs.Prelude.{◌≡◌, List, [], ◌++◌, map, Option, Some, None}
use Rattle.gil_values.specs.declared.places.Place.{Place}
use Rattle.gil_syntax.specs.Pure.{PureExpr}
use Rattle.pure_terms.specs.declared.literals.Literal.{Literal}
use Rattle.pure_terms.specs.Pure.{literal, PureAtom}
use Rattle.sym_evaluation.specs.Meaning.{AreCasesOfAll}
use Rattle.sym_evaluation.specs.Pure.{PureStore, PureGoodCase, PureCases}
use Rattle.sym_evaluation.specs.Questions.{AllComeFrom, NameNoOthers, AreEachOver}
use Rattle.pure_terms.specs.Pure.{PureTerm}
use Rattle.std.specs.Prelude.{ℕ}
use Rattle.sym_paths.specs.Pure.{PurePath}
use Rattle.sym_paths.specs.Settling.{Candidate}
use Rattle.sym_paths.specs.Valued.{faulted, failing}

-- the candidates for the result, where there is one
abbrev pub AreResults : {S X : Type 0} → (PureGoodCase X → List (Candidate S) → Type 0) → Option (PureGoodCase X) → List (Candidate S)
    → Type 0
AreResults Make None cs = cs ≡ []
AreResults Make (Some g) cs = Make g cs

abbrev pub AreOfCases : {S X : Type 0} → PurePath S → Place → (PureGoodCase X → List (Candidate S) → Type 0) → PureCases X
    → List (Candidate S) → Type 0
AreOfCases {S} path here Make cases cs =
    (last : List (Candidate S)) × ((cs ≡ map (faulted path here) cases.faults ++ last) × AreResults Make cases.good last)

-- the path fails with a text under the conditions of a result and more
abbrev pub failing_with : {S X : Type 0} → PurePath S → Place → List ℕ → PureGoodCase X → List PureAtom → Candidate S
failing_with path here why g more = failing path here (record { conds = g.conds ++ more; result = literal (Literal.Str why) })

-- what the cases of a list of expressions promise
pub record AreEvaluated (bs : PureStore) (es : List PureExpr) (cases : PureCases (List PureTerm)) : Type 0 where
  pub are_cases : AreCasesOfAll bs es cases
  pub origin : AllComeFrom bs es cases
  pub names : NameNoOthers AreEachOver bs cases
