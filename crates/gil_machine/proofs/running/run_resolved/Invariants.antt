use Rattle.std.proofs.Common.{◌+◌, ◌-◌, ◌≤◌}
use Rattle.gil_values.specs.View.{values_view}
use Rattle.gil_syntax.specs.Program.{prog_view}
use Rattle.gil_machine.specs.Held.{held_run_of}
use Rattle.gil_machine.specs.Standing.{IsUnderWay}
use Rattle.gil_machine.proofs.running.run_resolved.Given as goal

abbrev pub invariant-loop-turn : goal.invariant-loop-turn
invariant-loop-turn g l =
    IsUnderWay (prog_view l.fn.prog.prog.now) g.M.LocalMemory.memory g.M.LocalMemory.actions (values_view l.fn.inputs) l.control (g.M.LocalMemory.heap l.memory) (l.fn.bound - l._turn)
    (held_run_of (prog_view l.fn.prog.prog.now) g.M.LocalMemory.actions l.fn.proc (values_view l.fn.args) (g.M.LocalMemory.heap l.fn.memory) l.fn.counter (values_view l.fn.inputs) l.fn.bound)
    × (l.control.counter ≤ l.fn.counter + l._turn) × (l.control.draws ≤ l._turn)
