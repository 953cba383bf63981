-- The pure data of beginnings.
use Rattle.std.specs.Prelude.{List, map}
use Rattle.pure_terms.specs.View.{terms_view}
use Rattle.sym_evaluation.specs.View.{store_view}
use Rattle.sym_paths.specs.View.{path_view}
use Rattle.sym_states.specs.View.{facts_view}
use Rattle.sym_beginning.specs.declared.beginning.Started.{Started}
use Rattle.sym_beginning.specs.declared.beginning.Beginnings.{Beginnings}
use Rattle.sym_beginning.specs.declared.entering.EntryTerms.{EntryTerms}
use Rattle.sym_beginning.specs.Beginning.{PureStart, PureBeginnings}
use Rattle.sym_beginning.specs.Entering.{PureEntryTerms}

abbrev pub entry_view : EntryTerms → PureEntryTerms
entry_view e = record {
  vars = e.vars;
  args = terms_view e.args;
  variables = store_view e.variables;
  store = store_view e.store;
}

abbrev pub start_view : {S : Type 0} → Started S → PureStart S
start_view s = record { path = path_view s.path; facts = facts_view s.preds }

abbrev pub starts_view : {S : Type 0} → List (Started S) → List (PureStart S)
starts_view ss = map start_view ss

abbrev pub beginnings_view : {S : Type 0} → Beginnings S → PureBeginnings S
beginnings_view b = record {
  vars = b.vars;
  args = terms_view b.args;
  variables = store_view b.variables;
  starts = starts_view b.starts;
}
