use Rattle.gil_syntax.specs.View.{expr_view}
use Rattle.gil_values.proofs.Lists.{option_map-item}
use Rattle.gil_syntax.proofs.Views.{exprs_view-items}
use Rattle.gil_syntax.proofs.expressions.Exprs.get.Goals as goal

pub returns : goal.returns
returns c = rw (exprs_view-items, ← c.deref.ensures.value) (option_map-item expr_view _ c.args.index c.get.result c.get.ensures.lookup)
