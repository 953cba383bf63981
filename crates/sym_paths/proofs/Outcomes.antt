-- The steps of the machine by what a command evaluates.
use Rattle.std.proofs.Common.{◌≡◌, ℕ, List, Option, None, Result, Ok, Err, refl}
use Rattle.gil_values.specs.declared.places.Place.{Place}
use Rattle.gil_values.specs.Operators.{Fault, Outcome}
use Rattle.gil_values.specs.Pure.{PureValue}
use Rattle.gil_syntax.specs.Evaluation.{Outcomes}
use Rattle.gil_machine.specs.Choices.{of_value, of_values}
use Rattle.gil_machine.specs.State.{State, Step}
use Rattle.gil_machine.specs.Step.{with_value, with_values}
use Rattle.sym_paths.proofs.Following.{with_outcome, of_outcome}

pub with_value-outcome : (o : Outcome) (here : Place) (s : State) (go_on : PureValue → Step) → with_value o here s go_on ≡ with_outcome o here s go_on
with_value-outcome (Ok a) here s go_on = refl
with_value-outcome (Err f) here s go_on = refl

pub with_values-outcome : (o : Outcomes) (here : Place) (s : State) (go_on : List PureValue → Step) → with_values o here s go_on ≡ with_outcome o here s go_on
with_values-outcome (Ok a) here s go_on = refl
with_values-outcome (Err f) here s go_on = refl

pub of_value-outcome : {X : Type 0} (f : PureValue → Option X) (o : Outcome) → of_value f o ≡ of_outcome f o
of_value-outcome f (Ok a) = refl
of_value-outcome f (Err fault) = refl

pub of_values-outcome : {X : Type 0} (f : List PureValue → Option X) (o : Outcomes) → of_values f o ≡ of_outcome f o
of_values-outcome f (Ok a) = refl
of_values-outcome f (Err fault) = refl

pub nothing_chosen : {A : Type 0} (o : Result A Fault) → None ≡ of_outcome {B = ℕ} (λ a. None) o
nothing_chosen (Ok a) = refl
nothing_chosen (Err fault) = refl
