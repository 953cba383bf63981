use Rattle.std.proofs.Common.{◌≡◌, ◌+◌, ◌<◌, Some, length, map, take, slice_get, refl, sym, subst, ◌∙◌, arith}
use Rattle.std.specs.List.{All}
use Rattle.std.proofs.lemmas.List.Elements.{All-push, All-weaker}
use Rattle.std.proofs.lemmas.Option.{slice_get_read}
use Rattle.gil_machine.specs.SlotNames.{name_at, names_of}
use Rattle.gil_machine.proofs.Resolutions.{seen_more}
use Rattle.gil_machine.proofs.SlotLemmas.{grows-then}
use Rattle.gil_machine.proofs.resolving.resolve_params.Goals as goal

pub loop-param-preserved : goal.loop-param-preserved
loop-param-preserved c =
    let here : slice_get c.args.params.now c.loop-param.param-index ≡ Some c.param-item.result = slice_get_read c.args.params.now _ c.loop-param.param-index c.param-item.result refl (omega arith) c.param-item.is in
    record {
      names = c.in_ok-slot.ensures.names;
      resolved = λ ns more.
          subst (λ slots. map (name_at ns) slots ≡ take (c.loop-param.param-index + 1) c.args.params.now) (sym c.in_ok-push.ensures.items)
          (seen_more (name_at ns) c.loop-param.slots.items c.in_ok-slot.field-0 c.args.params.now c.loop-param.param-index c.param-item.result
          (c.loop-param.invariant.resolved ns (grows-then _ _ _ c.in_ok-slot.ensures.grows more)) here (more.same c.in_ok-slot.field-0 c.in_ok-slot.ensures.below ∙ c.in_ok-slot.ensures.name));
      placed = subst (All (λ slot. slot < length (names_of c.slot.new.self.names.items))) (sym c.in_ok-push.ensures.items)
          (All-push (λ slot. slot < length (names_of c.slot.new.self.names.items)) c.loop-param.slots.items c.in_ok-slot.field-0
          (All-weaker (λ slot. slot < length (names_of c.loop-param.names.names.items)) (λ slot. slot < length (names_of c.slot.new.self.names.items)) (λ slot below. let longer = c.in_ok-slot.ensures.grows.longer in omega (arith, below, longer)) c.loop-param.slots.items c.loop-param.invariant.placed)
          c.in_ok-slot.ensures.below);
    }
