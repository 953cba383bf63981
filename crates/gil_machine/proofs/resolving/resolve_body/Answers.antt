use Rattle.std.proofs.Common.{◌≡◌, ◌+◌, Some, map, take, slice_get, sym, subst, arith}
use Rattle.std.specs.List.{All}
use Rattle.std.proofs.lemmas.List.Elements.{All-push, All-weaker}
use Rattle.gil_values.proofs.Lists.{slice_get-read}
use Rattle.gil_syntax.specs.View.{numbered_command_view}
use Rattle.gil_machine.specs.declared.resolved.ResolvedNumbered.{ResolvedNumbered}
use Rattle.gil_machine.specs.ResolvedView.{IsOverSlots, resolved_numbered_view}
use Rattle.gil_machine.specs.SlotNames.{names_of}
use Rattle.gil_machine.proofs.Resolutions.{seen_more, placed_more}
use Rattle.gil_machine.proofs.SlotLemmas.{grows-then}
use Rattle.gil_machine.proofs.resolving.resolve_body.Goals as goal

pub loop-numbered-preserved : goal.loop-numbered-preserved
loop-numbered-preserved c =
    let index = c.loop-numbered.numbered-index in
    let old = names_of c.loop-numbered.names.names.items in
    let new = names_of c.resolve_command.new.names.names.items in
    let next : ResolvedNumbered = record { command = c.in_ok-command.command; at = c.numbered-item.result.at } in
    let here : slice_get (map numbered_command_view c.args.body.now) index ≡ Some (numbered_command_view c.numbered-item.result) = slice_get-read numbered_command_view c.args.body.now index c.numbered-item.result (omega arith) c.numbered-item.is in
    record {
      names = c.in_ok-command.ensures.names;
      grows = grows-then _ _ _ c.loop-numbered.invariant.grows c.in_ok-command.ensures.grows;
      resolved = λ ns more.
          let same : resolved_numbered_view ns next ≡ numbered_command_view c.numbered-item.result = λ i. record { command = c.in_ok-command.ensures.resolved ns more i; at = c.numbered-item.result.at } in
          subst (λ cs. map (resolved_numbered_view ns) cs ≡ take (index + 1) (map numbered_command_view c.args.body.now)) (sym c.in_ok-push.ensures.items)
          (seen_more (resolved_numbered_view ns) c.loop-numbered.commands.items next (map numbered_command_view c.args.body.now) index (numbered_command_view c.numbered-item.result)
          (c.loop-numbered.invariant.resolved ns (grows-then _ _ _ c.in_ok-command.ensures.grows more)) here same);
      placed = subst (All (IsOverSlots new)) (sym c.in_ok-push.ensures.items)
          (All-push (IsOverSlots new) c.loop-numbered.commands.items next
          (All-weaker (IsOverSlots old) (IsOverSlots new) (λ numbered placed. placed_more old new c.in_ok-command.ensures.grows numbered.command placed) c.loop-numbered.commands.items c.loop-numbered.invariant.placed)
          c.in_ok-command.ensures.placed);
    }
