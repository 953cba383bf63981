use Rattle.std.proofs.Common.{◌≡◌, is_some, sym, ap, subst, ◌∙◌}
use Rattle.mem_model.specs.declared.keys.Key.{Key}
use Rattle.mem_model.specs.declared.keys.Sub.{Sub}
use Rattle.mem_model.specs.declared.keys.Sub.TheVariants.{Name, Dom}
use Rattle.mem_model.specs.Heaps.{HasKey}
use Rattle.mem_model.specs.Stored.{stored_heap_view}
use Rattle.mem_model.proofs.Holding.{has_removed}
use Rattle.object_heap.proofs.table.delete.Goals as goal

pub replace-requires : goal.replace-requires
replace-requires c =
    subst (λ g. HasKey g c.key_at-domain.result) (sym c.remove.ensures)
    (has_removed (stored_heap_view c.args.heap.now) c.in_ok-property.property c.key_at-domain.result
    (λ same. let subs : ◌≡◌ {A = Sub} Dom (Name c.args.name.now) = ap (λ (k : Key). k.sub) (sym c.key_at-domain.ensures ∙ same ∙ c.in_ok-property.ensures) in absurd (cc))
    (ap is_some (sym c.in-Some.ensures)))
