use Rattle.gil_machine.proofs.Proper.{counter_is_new, may_act_where_reached}
use Rattle.gil_machine.proofs.laws.the_counter_is_new.Goals as goal

pub returns-clause-state : goal.returns-clause-state
returns-clause-state c = counter_is_new

pub returns-clause-action : goal.returns-clause-action
returns-clause-action c = may_act_where_reached
