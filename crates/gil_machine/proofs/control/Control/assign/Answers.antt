-- The slot has the value, and the run goes to the next command.
use Rattle.std.proofs.Common.{◌+◌, refl, ap}
use Rattle.gil_values.specs.View.{value_view}
use Rattle.gil_machine.specs.Standing.{slots_of}
use Rattle.gil_machine.proofs.Standings.{sets_keeps}
use Rattle.gil_machine.proofs.control.Control.assign.Goals as goal

pub returns-clause-goes : goal.returns-clause-goes
returns-clause-goes c = λ p s stands. (
  record {
    current = record {
      name = stands.current.name;
      procedure = stands.current.procedure;
      next = ap (λ n. n + 1) stands.current.next;
      store = sets_keeps (slots_of c.args.self.now) _ _ s.current.store c.args.slot (value_view c.args.value) stands.current.resolved.table c.requires.placed c.in_ok-set.ensures.sets stands.current.store;
      waits = stands.current.waits;
      handler = stands.current.handler;
      placed = stands.current.placed;
      resolved = stands.current.resolved;
    };
    callers = stands.callers;
    counter = stands.counter;
    draws = stands.draws;
  },
  refl,
)
