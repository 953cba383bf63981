use Rattle.std.proofs.Common.{◌≡◌, ◌++◌, map, take}
use Rattle.gil_syntax.specs.View.{assertion_view}
use Rattle.pure_terms.specs.View.{atoms_view}
use Rattle.sym_model.specs.View.{uses_view}
use Rattle.assertion_terms.specs.Named.{use_item, item_of}
use Rattle.assertion_terms.proofs.naming.assertion_of.Given as goal

abbrev pub invariant-loop-used : goal.invariant-loop-used
invariant-loop-used l = assertion_view l.items ≡ map (use_item l.names) (uses_view (take l.used-index l.used-items))

abbrev pub invariant-loop-atom : goal.invariant-loop-atom
invariant-loop-atom l = assertion_view l.items ≡ map (use_item l.names) (uses_view l.uses) ++ map (item_of l.names) (atoms_view (take l.atom-index l.atom-items))
