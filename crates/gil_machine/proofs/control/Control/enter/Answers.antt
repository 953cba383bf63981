-- The call that waits stands last among the callers, and the call that begins stands at its first command.
use Rattle.std.proofs.Common.{◌+◌, ◌<◌, length, Some, refl, sym, ap, subst}
use Rattle.gil_values.specs.View.{values_view}
use Rattle.gil_syntax.specs.View.{proc_view}
use Rattle.gil_machine.specs.SlotNames.{name_at}
use Rattle.gil_machine.specs.Standing.{FrameStands, frame_slots, slots_of}
use Rattle.gil_machine.specs.Step.{first_frame}
use Rattle.gil_machine.proofs.Standings.{enter_comes}
use Rattle.gil_machine.proofs.control.Control.enter.Goals as goal

pub returns-clause-goes : goal.returns-clause-goes
returns-clause-goes c = λ p s stands found.
    let first : FrameStands p c.replace-caller.new.dest (first_frame c.args.proc.now.proc.now.name c.args.proc.now.proc.now.params (values_view c.args.args.now))
    = subst (λ f. FrameStands p f (first_frame c.args.proc.now.proc.now.name c.args.proc.now.proc.now.params (values_view c.args.args.now))) (sym c.replace-caller.ensures.after)
    (record { name = refl; procedure = found; next = refl; store = c.in_ok-store.ensures; waits = refl; handler = refl; placed = tt; resolved = c.requires.resolved }) in
    let caller : FrameStands p c.replace-caller.result s.current = subst (λ f. FrameStands p f s.current) (sym c.replace-caller.ensures.value) stands.current in
    enter_comes p s (proc_view c.args.proc.now.proc.now) (name_at (slots_of c.args.self.now) c.args.slot) c.args.handler (values_view c.args.args.now) c.args.self.now (record { current = c.replace-caller.new.dest; callers = c.push.new.self; counter = c.args.self.now.counter; draws = c.args.self.now.draws }) _ c.in_ok-push.ensures.items stands first
    (record {
      name = caller.name;
      procedure = caller.procedure;
      next = ap (λ n. n + 1) caller.next;
      store = caller.store;
      waits = ap (λ f. Some (name_at (frame_slots f) c.args.slot)) (sym c.replace-caller.ensures.value);
      handler = refl;
      placed = subst (λ f. c.args.slot < length (frame_slots f)) (sym c.replace-caller.ensures.value) c.requires.placed;
      resolved = caller.resolved;
    }) refl refl
