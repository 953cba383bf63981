-- What evaluation answers.
use Rattle.std.specs.Prelude.{◌≡◌, List, [], ◌∷◌, ◌++◌, Bool, true, false, Option, Some, None, Result, Ok, Err}
use Rattle.std.specs.Option.{option_map}
use Rattle.std.specs.Result.{result_ok}
use Rattle.std.specs.List.{list_any}
use Rattle.gil_values.specs.declared.tree.Value.{Value}
use Rattle.gil_values.specs.declared.tree.Values.{Values}
use Rattle.gil_values.specs.Operators.{Outcome}
use Rattle.gil_values.specs.Pure.{PureValue}
use Rattle.gil_values.specs.View.{value_view, values_view}
use Rattle.pure_terms.specs.declared.truth.HoldsFault.{HoldsFault}
use Rattle.pure_terms.specs.declared.truth.HoldsFault.TheVariants.{Number, Memory}
use Rattle.pure_terms.specs.Meaning.{value, values}
use Rattle.pure_terms.specs.Pure.{PureTerm, PureTerms, subterms_of_all}
use Rattle.pure_terms.specs.Wide.{is_wide, has_wide_part}

abbrev pub have_wide_parts : List PureValue → PureTerms → Bool
have_wide_parts v ts = list_any (λ s. is_wide (value v s)) (subterms_of_all ts)

-- no part of two terms is too wide
abbrev pub AreNarrow : List PureValue → PureTerm → PureTerm → Type 0
AreNarrow v s t = (has_wide_part v s ≡ false) × (has_wide_part v t ≡ false)

-- the answer is the term's value, or that a part of it is too wide
abbrev pub Evaluates : List PureValue → PureTerm → Result (Option Value) HoldsFault → Type 0
Evaluates v t (Ok o) = (option_map value_view o ≡ value v t) × (has_wide_part v t ≡ false)
Evaluates v t (Err Number) = has_wide_part v t ≡ true
Evaluates v t (Err Memory) = Unit {0}

abbrev pub EvaluatesAll : List PureValue → PureTerms → Result (Option Values) HoldsFault → Type 0
EvaluatesAll v ts (Ok o) = (option_map values_view o ≡ values v ts) × (have_wide_parts v ts ≡ false)
EvaluatesAll v ts (Err Number) = have_wide_parts v ts ≡ true
EvaluatesAll v ts (Err Memory) = Unit {0}

-- the same of an operator's outcome
abbrev pub IsDefined : Outcome → Result (Option Value) HoldsFault → Type 0
IsDefined outcome (Ok o) = (option_map value_view o ≡ result_ok outcome) × (is_wide (result_ok outcome) ≡ false)
IsDefined outcome (Err Number) = is_wide (result_ok outcome) ≡ true
IsDefined outcome (Err Memory) = Unit {0}

-- the values with one more at the end, where all are defined
abbrev pub with_last : Option (List PureValue) → Option PureValue → Option (List PureValue)
with_last (Some ws) (Some w) = Some (ws ++ w ∷ [])
with_last _ _ = None
