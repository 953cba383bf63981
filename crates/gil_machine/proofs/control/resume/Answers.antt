-- The variable that waits has the value.
use Rattle.std.proofs.Common.{◌≡◌, ◌<◌, length, Some, None, refl, sym, ap, subst, ◌∙◌}
use Rattle.std.specs.Option.{IfSome, option_map}
use Rattle.gil_values.specs.View.{value_view}
use Rattle.gil_machine.specs.SlotNames.{name_at}
use Rattle.gil_machine.specs.Standing.{FrameStands, frame_slots}
use Rattle.gil_machine.specs.Step.{resumed}
use Rattle.gil_machine.proofs.Standings.{sets_keeps}
use Rattle.gil_machine.proofs.control.resume.Goals as goal

pub returns-in_ok-set-in-Some : goal.returns-in_ok-set-in-Some
returns-in_ok-set-in-Some c = λ p g stands.
    let names = frame_slots c.args.caller in
    let waits : g.waits ≡ Some (name_at names c.in-Some.slot) = stands.waits ∙ ap (option_map (name_at names)) c.in-Some.is in
    let placed : c.in-Some.slot < length names = subst (λ o. IfSome o (λ slot. slot < length names)) c.in-Some.is stands.placed in
    subst (λ o. FrameStands p (record c.args.caller { store = c.set.new.self; waits = None; handler = None }) (resumed o (value_view c.args.value) g)) (sym waits) (record {
      name = stands.name;
      procedure = stands.procedure;
      next = stands.next;
      store = sets_keeps names _ _ g.store c.in-Some.slot (value_view c.args.value) stands.resolved.table placed c.in_ok-set-in-Some.ensures.sets stands.store;
      waits = refl;
      handler = refl;
      placed = tt;
      resolved = stands.resolved;
    })

pub returns-in-None : goal.returns-in-None
returns-in-None c = λ p g stands.
    let waits : g.waits ≡ None = stands.waits ∙ ap (option_map (name_at (frame_slots c.args.caller))) c.in-None.is in
    subst (λ o. FrameStands p c.args.caller (resumed o (value_view c.args.value) g)) (sym waits) stands
