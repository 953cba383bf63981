use Rattle.std.proofs.Common.{◌≡◌, take}
use Rattle.assertion_terms.specs.Named.{table_names}
use Rattle.assertion_terms.proofs.naming.names_of_table.Given as goal

abbrev pub invariant-loop-name : goal.invariant-loop-name
invariant-loop-name l = l.names ≡ take l.name-index l.name-items

abbrev pub invariant-loop-other : goal.invariant-loop-other
invariant-loop-other l = l.names ≡ table_names l.params l._other
