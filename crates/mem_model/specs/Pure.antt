-- The outcomes of actions as pure data.
use Rattle.gil_values.specs.Pure.{PureValue}
use Rattle.mem_model.specs.declared.keys.Key.{Key}

-- an action is done with a value, fails with a value, or misses a key that the heap lacks
pub data PureOutcome : Type 0 where
  done : PureValue → PureOutcome
  failed : PureValue → PureOutcome
  miss : Key → PureOutcome
