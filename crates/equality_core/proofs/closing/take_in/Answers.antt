use Rattle.std.proofs.Common.{sym, ap, ◌∙◌}
use Rattle.std.specs.Option.{option_map}
use Rattle.equality_core.specs.Classes.{sides_view, classes_view}
use Rattle.equality_core.proofs.Taking.{after_none, after_united}
use Rattle.equality_core.specs.Nodes.{nodes_view}
use Rattle.equality_core.proofs.closing.take_in.Goals as goal

pub open-requires-clause-taken : goal.open-requires-clause-taken
open-requires-clause-taken c =
    after_united (classes_view c.args.classes) c.args.place (sides_view c.in-Some.sides) (nodes_view c.in_ok-nodes-in-Some.nodes) c.requires.taken
    (sym c.in_ok-sides.ensures ∙ ap (option_map sides_view) c.in-Some.is) c.in_ok-nodes-in-Some.ensures

pub returns-in-None : goal.returns-in-None
returns-in-None c = after_none (classes_view c.args.classes) c.args.place c.requires.placed c.requires.taken (sym c.in_ok-sides.ensures ∙ ap (option_map sides_view) c.in-None.is)
