use Rattle.gil_values.specs.View.{value_view}
use Rattle.gil_values.proofs.Lists.{option_map-item}
use Rattle.gil_values.proofs.Views.{values_view-items}
use Rattle.gil_values.proofs.tree.Values.get.Goals as goal

pub returns : goal.returns
returns c = rw (values_view-items, ← c.deref.ensures.value) (option_map-item value_view _ c.args.index c.get.result c.get.ensures.lookup)
