-- What leaves answer, once a decider is asked of their stops.
use Rattle.std.specs.Prelude.{◌≡◌, ◌⊎◌, List, []}
use Rattle.gil_values.specs.Pure.{PureValue}
use Rattle.pure_terms.specs.declared.variables.Sort.{Sort}
use Rattle.pure_terms.specs.Meaning.{IsUnsatisfiable}
use Rattle.sym_paths.specs.Asking.{IsSolution, IsOutside}
use Rattle.sym_model.specs.Lists.{Each, OneOf}
use Rattle.footprint.specs.Pure.{PureMatch, PureStop, PureUndecided, PureLeaves, PureMatching, all_match, unmatched, unknown}

-- what is known of stops
pub data PureTold : Type 0 where
  met : PureStop → List PureValue → PureTold
  outside : PureUndecided → PureTold
  never : PureTold

abbrev pub TellsStops : List Sort → List PureStop → PureTold → Type 0
TellsStops vars cs (met c v) = OneOf (λ d. (d ≡ c) × IsSolution vars c.conds v) cs
TellsStops vars cs (outside u) = OneOf (λ c. (c.conds ≡ u.conds) × IsOutside u.conds u.reason) cs
TellsStops vars cs never = Each (λ c. IsUnsatisfiable vars c.conds) cs

-- of two the first that is met, or else the first that isn't decided
abbrev pub first_told : PureTold → PureTold → PureTold
first_told (met c v) t = met c v
first_told (outside u) (met c v) = met c v
first_told (outside u) (outside w) = outside u
first_told (outside u) never = outside u
first_told never t = t

abbrev pub AnswersTold : {S : Type 0} → PureTold → List (PureMatch S) → List PureUndecided → PureMatching S → Type 0
AnswersTold (met c v) ms us answer = answer ≡ unmatched c v
AnswersTold (outside u) ms us answer = answer ≡ unknown u.conds u.reason
AnswersTold never ms us answer =
    ((us ≡ []) × (answer ≡ all_match ms)) ⊎ OneOf (λ u. answer ≡ unknown u.conds u.reason) us

abbrev pub AnswersLeaves : {S : Type 0} → List Sort → PureLeaves S → PureMatching S → Type 0
AnswersLeaves vars leaves answer =
    (told : PureTold) × (TellsStops vars leaves.stopped told × AnswersTold told leaves.matched leaves.undecided answer)
