-- The pure data of tables with stores.
use Rattle.sym_evaluation.specs.View.{store_view}
use Rattle.sym_states.specs.declared.naming.Named.{Named}
use Rattle.sym_states.specs.Naming.{PureNamed}

abbrev pub named_view : Named → PureNamed
named_view n = record { vars = n.vars; store = store_view n.store }
