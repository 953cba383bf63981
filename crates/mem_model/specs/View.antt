-- The pure data of the outcomes of actions.
use Rattle.gil_values.specs.View.{value_view}
use Rattle.mem_model.specs.declared.memory.Outcome.{Outcome}
use Rattle.mem_model.specs.Pure.{PureOutcome, done, failed, miss}

abbrev pub outcome_view : Outcome → PureOutcome
outcome_view (Outcome.Done v) = done (value_view v)
outcome_view (Outcome.Failed v) = failed (value_view v)
outcome_view (Outcome.Miss k) = miss k
