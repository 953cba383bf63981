-- The pure data of matches, leaves, and what matching comes to.
use Rattle.std.specs.Prelude.{List, map}
use Rattle.gil_values.specs.View.{values_view}
use Rattle.pure_terms.specs.View.{atoms_view, terms_view}
use Rattle.footprint.specs.declared.answering.Told.{Told}
use Rattle.footprint.specs.declared.choosing.FactCase.{FactCase}
use Rattle.footprint.specs.declared.choosing.FactChoice.{FactChoice}
use Rattle.footprint.specs.declared.leaves.Leaves.{Leaves}
use Rattle.footprint.specs.declared.leaves.Match.{Match}
use Rattle.footprint.specs.declared.leaves.Matching.{Matching}
use Rattle.footprint.specs.declared.leaves.Stop.{Stop}
use Rattle.footprint.specs.declared.leaves.Undecided.{Undecided}
use Rattle.footprint.specs.declared.uses.Asked.{Asked}
use Rattle.footprint.specs.Answers.{PureTold, met, outside, never}
use Rattle.footprint.specs.Choosing.{PureFactCase, PureChoice}
use Rattle.footprint.specs.Pure.{PureMatch, PureStop, PureUndecided, PureLeaves, PureMatching, all_match, unmatched, unknown}
use Rattle.footprint.specs.Uses.{PureAsked}
use Rattle.sym_model.specs.Alternatives.{alternatives_view}
use Rattle.sym_evaluation.specs.View.{store_view}
use Rattle.sym_matching.specs.View.{outs_view}
use Rattle.sym_states.specs.View.{state_view}

abbrev pub match_view : {S : Type 0} → Match S → PureMatch S
match_view m = record { state = state_view m.state; store = store_view m.store }

abbrev pub matches_view : {S : Type 0} → List (Match S) → List (PureMatch S)
matches_view ms = map match_view ms

abbrev pub matching_view : {S : Type 0} → Matching S → PureMatching S
matching_view (Matching.All ms) = all_match (matches_view ms)
matching_view (Matching.Unmatched item conds v) = unmatched (record { item = item; conds = atoms_view conds }) (values_view v)
matching_view (Matching.Unknown conds reason) = unknown (atoms_view conds) reason

abbrev pub stop_view : Stop → PureStop
stop_view c = record { item = c.item; conds = atoms_view c.conds }

abbrev pub stops_view : List Stop → List PureStop
stops_view cs = map stop_view cs

abbrev pub undecided_view : Undecided → PureUndecided
undecided_view u = record { conds = atoms_view u.conds; reason = u.reason }

abbrev pub leaves_view : {S : Type 0} → Leaves S → PureLeaves S
leaves_view l = record { matched = matches_view l.matched; stopped = stops_view l.stopped; undecided = map undecided_view l.undecided }

abbrev pub fact_case_view : FactCase → PureFactCase
fact_case_view c = record { conds = atoms_view c.conds; place = c.place }

abbrev pub fact_cases_view : List FactCase → List PureFactCase
fact_cases_view cs = map fact_case_view cs

abbrev pub choice_view : FactChoice → PureChoice
choice_view c = record { found = fact_cases_view c.found; none = alternatives_view c.none }

abbrev pub asked_view : Asked → PureAsked
asked_view a = record { ins = terms_view a.ins; known = outs_view a.known }

abbrev pub told_view : Told → PureTold
told_view (Told.Met stop v) = met (stop_view stop) (values_view v)
told_view (Told.Undecided u) = outside (undecided_view u)
told_view Told.Never = never
