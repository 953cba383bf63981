use Rattle.equality_core.specs.Classes.{classes_view}
use Rattle.equality_core.proofs.Classing.{in_roots}
use Rattle.equality_core.proofs.values.value_of.Goals as goal

pub root_at-requires : goal.root_at-requires
root_at-requires c = in_roots c.args.vars.now (classes_view c.args.classes.now) c.args.roots.now c.args.x c.requires.classed c.requires.there
