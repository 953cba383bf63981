-- The pure data of facts, states and arguments.
use Rattle.std.specs.Prelude.{List, map}
use Rattle.pure_terms.specs.View.{terms_view, atoms_view}
use Rattle.sym_model.specs.View.{path_view}
use Rattle.sym_states.specs.declared.states.PredChunk.{PredChunk}
use Rattle.sym_states.specs.declared.states.SymState.{SymState}
use Rattle.sym_states.specs.declared.arguments.Arguments.{Arguments}
use Rattle.sym_states.specs.declared.production.Production.{Production}
use Rattle.sym_states.specs.Producing.{PureProduction}
use Rattle.sym_states.specs.Pure.{PureFact, PureState, PureArguments}

abbrev pub fact_view : PredChunk → PureFact
fact_view c = record { pred = c.pred; ins = terms_view c.ins; outs = terms_view c.outs }

abbrev pub facts_view : List PredChunk → List PureFact
facts_view cs = map fact_view cs

abbrev pub state_view : {S : Type 0} → SymState S → PureState S
state_view s = record {
  vars = s.vars;
  conds = path_view s.conds;
  memory = s.memory;
  facts = facts_view s.preds;
  given = atoms_view s.given;
  place = s.place;
  path = s.path;
}

abbrev pub states_view : {S : Type 0} → List (SymState S) → List (PureState S)
states_view ss = map state_view ss

abbrev pub arguments_view : Arguments → PureArguments
arguments_view a = record { conds = atoms_view a.conds; ins = terms_view a.ins; outs = terms_view a.outs }

abbrev pub production_view : {S : Type 0} → Production S → PureProduction S
production_view p = record { whole = states_view p.whole; stopped = states_view p.stopped }
