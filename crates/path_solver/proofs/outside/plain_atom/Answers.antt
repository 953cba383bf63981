use Rattle.std.proofs.Common.{sym}
use Rattle.pure_terms.specs.View.{atom_view}
use Rattle.path_solver.proofs.Keeping.{plain_copy, plain_always}
use Rattle.path_solver.proofs.outside.plain_atom.Goals as goal

pub returns-then-is_plain : goal.returns-then-is_plain
returns-then-is_plain g c = plain_copy (atom_view c.args.atom.now) c.copy.result (sym c.if-is_plain.ensures) c.copy.ensures

pub returns : goal.returns
returns g c = plain_always (atom_view c.args.atom.now) c.true_atom.result c.true_atom.ensures
