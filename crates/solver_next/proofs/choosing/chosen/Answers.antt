use Rattle.std.proofs.Common.{slice_get, sym, ap, ◌∙◌}
use Rattle.solver_rules.specs.Nodes.{vars_of, list_of_node, classes_of}
use Rattle.solver_rules.proofs.Opened.{plain_there}
use Rattle.solver_next.proofs.choosing.chosen.Goals as goal

pub rows_of-requires : goal.rows_of-requires
rows_of-requires c = λ i a at. (plain_there (vars_of c.args.node.now) (list_of_node c.args.node.now) (classes_of c.args.node.now) c.requires i a (ap (λ l. slice_get l i) (sym c.list.ensures) ∙ at)).literals
