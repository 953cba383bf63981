-- The counter's symbol is given, and counted.
use Rattle.std.proofs.Common.{◌+◌, None, sym, ap, subst}
use Rattle.gil_values.specs.Pure.{symbol}
use Rattle.gil_machine.specs.SlotNames.{name_at}
use Rattle.gil_machine.specs.Standing.{Comes, slots_of}
use Rattle.gil_machine.specs.Step.{assigned}
use Rattle.gil_machine.proofs.Outcomes.{symbol_seen}
use Rattle.gil_machine.proofs.control.Control.do_symbol.Goals as goal

pub returns-clause-does : goal.returns-clause-does
returns-clause-does c = λ here p m inputs h s stands heap.
    subst (λ n. Comes p None (assigned (name_at (slots_of c.args.self.now) c.args.slot) (symbol n) (record s { counter = s.counter + 1 })) None c.assign.new.self h) (sym stands.counter)
    (subst (Comes p None (assigned (name_at (slots_of c.args.self.now) c.args.slot) (symbol c.args.self.now.counter) (record s { counter = s.counter + 1 })) None c.assign.new.self) heap
    (subst (λ v. Comes p None (assigned (name_at (slots_of c.args.self.now) c.args.slot) v (record s { counter = s.counter + 1 })) None c.assign.new.self s.heap) (symbol_seen c.args.self.now.counter) (c.in_ok-assign.ensures.goes p (record s { counter = s.counter + 1 })
    (record { current = stands.current; callers = stands.callers; counter = ap (λ n. n + 1) stands.counter; draws = stands.draws }))))
