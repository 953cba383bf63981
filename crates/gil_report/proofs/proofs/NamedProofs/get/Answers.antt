use Rattle.gil_report.specs.View.{named_proof_view}
use Rattle.gil_values.proofs.Lists.{option_map-item}
use Rattle.gil_report.proofs.Views.{named_proofs_view-items}
use Rattle.gil_report.proofs.proofs.NamedProofs.get.Goals as goal

pub returns : goal.returns
returns c = rw (named_proofs_view-items, ← c.deref.ensures.value) (option_map-item named_proof_view _ c.args.index c.get.result c.get.ensures.lookup)
