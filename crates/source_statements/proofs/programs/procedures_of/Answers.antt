use Rattle.source_statements.specs.View.{block_view}
use Rattle.source_statements.proofs.Functions.{procs-next}
use Rattle.source_statements.proofs.programs.procedures_of.Goals as goal

pub loop-function-preserved : goal.loop-function-preserved
loop-function-preserved g c =
    let items = c.as_slice-functions.result.now in
    procs-next (block_view g.L.Language.expression_view g.L.Language.simple_view) g.L.Language.codes items c.loop-function.function-index
    c.function-item.result c.loop-function-test.true c.function-item.is c.loop-function.procs c.push.new.self
    c.in_ok-procedure_of.field-0 c.loop-function.invariant c.in_ok-push.ensures.ok c.in_ok-procedure_of.ensures
