use Rattle.std.proofs.Common.{◌≡◌, true, None, ap, ◌∙◌}
use Rattle.std.specs.FinMap.{insert, remove}
use Rattle.gil_values.specs.Pure.{boolean}
use Rattle.gil_values.proofs.Views.{value_view-Bool}
use Rattle.mem_model.specs.declared.keys.Sub.TheVariants.{Gone}
use Rattle.mem_model.specs.Keys.{key}
use Rattle.mem_model.specs.Heaps.{Heap}
use Rattle.mem_model.specs.Pure.{done}
use Rattle.mem_model.specs.Actions.{ActionResult}
use Rattle.mem_model.specs.Tables.{without_keys, missed_or, does, disposed, first_missing}
use Rattle.mem_model.specs.Stored.{stored_heap_view}
use Rattle.mem_model.proofs.Changes.{disposed_keys}
use Rattle.mem_model.proofs.stored.StoredHeap.dispose.Goals as goal

pub returns : goal.returns
returns c =
    let h : Heap = stored_heap_view c.args.self.now in
    let missing : None ≡ first_missing h c.args.parts.now = c.in-None.ensures in
    let whole : ActionResult = does (boolean true) (disposed c.args.location h) in
    let put : stored_heap_view c.put.new.self ≡ insert h (key c.args.location Gone) (boolean true) = c.in_ok-put.ensures.ok ∙ ap (insert h (key c.args.location Gone)) (value_view-Bool true) in (
      ap done (value_view-Bool true) ∙ ap (λ o. (missed_or o h whole).outcome) missing,
      c.remove.ensures
          ∙ ap (λ g. remove g c.args.descriptor.now) (c.remove_all.ensures ∙ ap (without_keys c.args.parts.now) put)
          ∙ disposed_keys h c.args.location c.args.descriptor.now c.args.parts.now c.requires
          ∙ ap (λ o. (missed_or o h whole).heap) missing,
    )
