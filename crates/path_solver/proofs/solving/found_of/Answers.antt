use Rattle.std.proofs.Common.{sym, subst}
use Rattle.pure_terms.specs.View.{atoms_view}
use Rattle.solver_rules.specs.Steps.{ArePlain}
use Rattle.path_solver.proofs.Keeping.{all_plain}
use Rattle.path_solver.proofs.solving.found_of.Goals as goal

pub search-requires : goal.search-requires
search-requires c = record { plain = subst (ArePlain c.args.vars.now) (sym c.in_ok-turn_to.ensures) (all_plain c.args.vars.now (atoms_view c.args.atoms.now) c.requires.over c.requires.plain) }
