-- The run is under way until it ends, or no step is left.
use Rattle.std.proofs.Common.{◌≡◌, ◌+◌, ◌-◌, zero, suc, sym, ap, subst, arith}
use Rattle.gil_values.specs.View.{values_view}
use Rattle.gil_syntax.specs.Program.{prog_view}
use Rattle.gil_machine.specs.Held.{held_run_of, number_at}
use Rattle.gil_machine.specs.Standing.{Comes, IsAtNumber, IsUnderWay, unboxed}
use Rattle.gil_machine.specs.Step.{step}
use Rattle.gil_machine.proofs.UnderWay.{goes, stops, is_cut, begins}
use Rattle.gil_machine.proofs.running.run_resolved.Goals as goal

pub loop-turn-init : goal.loop-turn-init
loop-turn-init g c =
    let whole : c.args.bound - 0 ≡ c.args.bound = omega arith in
    let way = begins (prog_view c.args.prog.now.prog.now) g.M.LocalMemory.memory g.M.LocalMemory.actions (values_view c.args.inputs.now) c.args.proc.now (values_view c.args.args) (g.M.LocalMemory.heap c.args.memory) c.args.counter c.args.bound c.in-Ok.control
    c.requires.starts (c.in-Ok.ensures.stands (g.M.LocalMemory.heap c.args.memory)) in (
      subst (λ n. IsUnderWay (prog_view c.args.prog.now.prog.now) g.M.LocalMemory.memory g.M.LocalMemory.actions (values_view c.args.inputs.now) c.in-Ok.control (g.M.LocalMemory.heap c.args.memory) n
          (held_run_of (prog_view c.args.prog.now.prog.now) g.M.LocalMemory.actions c.args.proc.now (values_view c.args.args) (g.M.LocalMemory.heap c.args.memory) c.args.counter (values_view c.args.inputs.now) c.args.bound)) (sym whole) way,
      omega (arith, c.in-Ok.ensures.counter),
      omega (arith, c.in-Ok.ensures.draws),
    )

pub step-requires-clause-counter : goal.step-requires-clause-counter
step-requires-clause-counter g c = omega (arith, c.loop-turn.invariant.1, c.requires.counter, c.requires.bound)

pub step-requires-clause-draws : goal.step-requires-clause-draws
step-requires-clause-draws g c = omega (arith, c.loop-turn.invariant.2, c.requires.bound)

pub step-requires-clause-standing : goal.step-requires-clause-standing
step-requires-clause-standing g c = c.loop-turn.invariant.0.standing

pub returns-in-Ok-Some : goal.returns-in-Ok-Some
returns-in-Ok-Some g c =
    let left : c.args.bound - c.loop-turn._turn ≡ suc (c.args.bound - c.loop-turn._turn - 1) = omega arith in
    let way = subst (λ n. IsUnderWay (prog_view c.args.prog.now.prog.now) g.M.LocalMemory.memory g.M.LocalMemory.actions (values_view c.args.inputs.now) c.loop-turn.control (g.M.LocalMemory.heap c.loop-turn.memory) n
    (held_run_of (prog_view c.args.prog.now.prog.now) g.M.LocalMemory.actions c.args.proc.now (values_view c.args.args) (g.M.LocalMemory.heap c.args.memory) c.args.counter (values_view c.args.inputs.now) c.args.bound)) left c.loop-turn.invariant.0 in
    stops (prog_view c.args.prog.now.prog.now) g.M.LocalMemory.memory g.M.LocalMemory.actions (values_view c.args.inputs.now) g.M.LocalMemory.heap c.step.new.memory c.with_memory.result (c.args.bound - c.loop-turn._turn - 1) _ c.in-Ok-Some.ending.value
    c.loop-turn.control c.step.new.self (g.M.LocalMemory.heap c.loop-turn.memory) way
    (λ s stands heap. subst (λ end. Comes (prog_view c.args.prog.now.prog.now) (number_at (prog_view c.args.prog.now.prog.now) s) (step (prog_view c.args.prog.now.prog.now) g.M.LocalMemory.actions (values_view c.args.inputs.now) s) end c.step.new.self (g.M.LocalMemory.heap c.step.new.memory)) (ap unboxed c.in-Ok-Some.field-0-is) (c.in-Ok-Some.ensures.does s stands heap))
    (subst (λ end. IsAtNumber end → g.M.LocalMemory.heap c.step.new.memory ≡ g.M.LocalMemory.heap c.loop-turn.memory) (ap unboxed c.in-Ok-Some.field-0-is) c.in-Ok-Some.ensures.at_number) c.with_memory.ensures

pub loop-turn-preserved : goal.loop-turn-preserved
loop-turn-preserved g c =
    let left : c.args.bound - c.loop-turn._turn ≡ suc (c.args.bound - (c.loop-turn._turn + 1)) = omega arith in
    let way = subst (λ n. IsUnderWay (prog_view c.args.prog.now.prog.now) g.M.LocalMemory.memory g.M.LocalMemory.actions (values_view c.args.inputs.now) c.loop-turn.control (g.M.LocalMemory.heap c.loop-turn.memory) n
    (held_run_of (prog_view c.args.prog.now.prog.now) g.M.LocalMemory.actions c.args.proc.now (values_view c.args.args) (g.M.LocalMemory.heap c.args.memory) c.args.counter (values_view c.args.inputs.now) c.args.bound)) left c.loop-turn.invariant.0 in (
      goes (prog_view c.args.prog.now.prog.now) g.M.LocalMemory.memory g.M.LocalMemory.actions (values_view c.args.inputs.now) (c.args.bound - (c.loop-turn._turn + 1)) _ c.loop-turn.control c.step.new.self (g.M.LocalMemory.heap c.loop-turn.memory) (g.M.LocalMemory.heap c.step.new.memory)
          c.args.prog.now.prog.now.well_made g.met.M.LocalMemory.laws way (λ s stands heap. subst (λ end. Comes (prog_view c.args.prog.now.prog.now) (number_at (prog_view c.args.prog.now.prog.now) s) (step (prog_view c.args.prog.now.prog.now) g.M.LocalMemory.actions (values_view c.args.inputs.now) s) end c.step.new.self (g.M.LocalMemory.heap c.step.new.memory)) (ap unboxed c.in-Ok-None.field-0-is) (c.in-Ok-None.ensures.does s stands heap)),
      omega (arith, c.in-Ok-None.ensures.grows.counter, c.loop-turn.invariant.1),
      omega (arith, c.in-Ok-None.ensures.grows.draws, c.loop-turn.invariant.2),
    )

pub returns : goal.returns
returns g c =
    let over : c.args.bound - c.loop-turn._turn ≡ zero = omega arith in
    is_cut (prog_view c.args.prog.now.prog.now) g.M.LocalMemory.memory g.M.LocalMemory.actions (values_view c.args.inputs.now) g.M.LocalMemory.heap c.loop-turn.memory _ c.loop-turn.control
    (subst (λ n. IsUnderWay (prog_view c.args.prog.now.prog.now) g.M.LocalMemory.memory g.M.LocalMemory.actions (values_view c.args.inputs.now) c.loop-turn.control (g.M.LocalMemory.heap c.loop-turn.memory) n
    (held_run_of (prog_view c.args.prog.now.prog.now) g.M.LocalMemory.actions c.args.proc.now (values_view c.args.args) (g.M.LocalMemory.heap c.args.memory) c.args.counter (values_view c.args.inputs.now) c.args.bound)) over c.loop-turn.invariant.0)
