use Rattle.std.proofs.Common.{◌≡◌, Some, slice_get, sym, arith}
use Rattle.gil_values.specs.View.{value_view, values_view}
use Rattle.gil_values.proofs.Joined.{element_read}
use Rattle.gil_report.specs.declared.answers.Binding.{Binding}
use Rattle.gillian_core.proofs.Solutions.{one_more}
use Rattle.gillian_core.proofs.solving.bindings_of.Goals as goal

pub loop-index-preserved : goal.loop-index-preserved
loop-index-preserved c =
    let i = c.loop-index.index in
    let named : slice_get c.args.names.now i ≡ Some c.in-Some.name.now = sym c.in-Some.ensures in
    let valued = element_read value_view _ (values_view c.args.values.now) i c.value-item.result c.as_slice-value-items.ensures (omega arith) c.value-item.is in
    record {
      names = one_more (λ (b : Binding). b.name) c.loop-index.bindings _ c.push.new.self c.args.names.now i c.in-Some.name.now
          c.in_ok-push.ensures.ok c.in_ok-copy.ensures named c.loop-index.invariant.names;
      values = one_more (λ (b : Binding). value_view b.value) c.loop-index.bindings _ c.push.new.self (values_view c.args.values.now) i (value_view c.value-item.result)
          c.in_ok-push.ensures.ok c.in_ok-copy-2.ensures valued c.loop-index.invariant.values;
    }
