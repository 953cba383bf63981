use Rattle.pure_terms.specs.View.{atom_view}
use Rattle.solver_rules.specs.Steps.{IsPlainAtom}
use Rattle.solver_next.proofs.Listing.{each_seen, all_seen}
use Rattle.solver_next.proofs.plain.are_plain.Goals as goal

pub returns : goal.returns
returns c = (
  λ is. each_seen atom_view (IsPlainAtom c.args.vars.now) c.args.list.now (c.are_each_plain.ensures.0 is),
  λ plain. c.are_each_plain.ensures.1 (all_seen atom_view (IsPlainAtom c.args.vars.now) c.args.list.now plain),
)
