use Rattle.while_compiler.proofs.Functions.{procs-next}
use Rattle.while_compiler.proofs.programs.procedures_of.Goals as goal

pub loop-function-preserved : goal.loop-function-preserved
loop-function-preserved c =
    let items = c.as_slice-functions.result.now in
    procs-next items c.loop-function.function-index c.function-item.result c.loop-function-test.true c.function-item.is c.loop-function.procs c.push.new.self
    c.in_ok-procedure_of.field-0 c.loop-function.invariant c.in_ok-push.ensures.ok c.in_ok-procedure_of.ensures
