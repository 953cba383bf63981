use Rattle.std.proofs.Common.{◌≡◌, map, take}
use Rattle.pure_terms.specs.View.{atoms_view}
use Rattle.gil_report.specs.View.{condition_view}
use Rattle.report_names.specs.Named.{condition_of}
use Rattle.report_names.proofs.atoms.named_atoms.Given as goal

abbrev pub invariant-loop-atom : goal.invariant-loop-atom
invariant-loop-atom l = map condition_view l.list ≡ map (condition_of l.names) (atoms_view (take l.atom-index l.atoms))
