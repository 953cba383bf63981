use Rattle.pure_terms.specs.View.{term_view}
use Rattle.gil_values.proofs.Lists.{option_map-item}
use Rattle.pure_terms.proofs.Views.{terms_view-items}
use Rattle.pure_terms.proofs.terms.Terms.get.Goals as goal

pub returns : goal.returns
returns c = rw (terms_view-items, ← c.deref.ensures.value) (option_map-item term_view _ c.args.index c.get.result c.get.ensures.lookup)
