use Rattle.std.proofs.Common.{◌≡◌, ◌++◌, drop, map}
use Rattle.pure_terms.specs.View.{term_view}
use Rattle.record_sym.specs.Table.{faulty}
use Rattle.sym_model.specs.Alternatives.{alternatives_view}
use Rattle.record_sym.proofs.making.faulty.Given as goal

abbrev pub invariant-loop-index : goal.invariant-loop-index
invariant-loop-index l = alternatives_view l.alternatives ++ faulty (map term_view (drop l.index l.names)) ≡ faulty (map term_view l.names)
