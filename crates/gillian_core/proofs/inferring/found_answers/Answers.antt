use Rattle.gillian_core.proofs.Founds.{one_more_found}
use Rattle.gillian_core.proofs.inferring.found_answers.Goals as goal

pub loop-told-preserved : goal.loop-told-preserved
loop-told-preserved c =
    one_more_found c.loop-told.yielded c.in-Some.told c.loop-told.answers c.push.new.self c.found_answer.result c.in_ok-push.ensures.ok c.found_answer.ensures
    c.loop-told.invariant
