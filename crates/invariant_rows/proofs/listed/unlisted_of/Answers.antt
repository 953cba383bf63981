use Rattle.sym_evaluation.specs.View.{store_view}
use Rattle.invariant_rows.proofs.ListedLaws.{unlisted_twice}
use Rattle.invariant_rows.proofs.listed.unlisted_of.Goals as goal

pub returns : goal.returns
returns c = unlisted_twice c.args.listed.now (store_view c.args.store.now) (store_view c.in_ok-turned.turned) (store_view c.in_ok-kept.kept) c.in_ok-turned.ensures c.in_ok-kept.ensures
