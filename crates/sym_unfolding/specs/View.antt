-- The pure data of unfolding.
use Rattle.std.specs.Prelude.{List, map}
use Rattle.gil_values.specs.View.{values_view}
use Rattle.pure_terms.specs.View.{atoms_view}
use Rattle.sym_model.specs.Alternatives.{alternatives_view}
use Rattle.sym_states.specs.View.{state_view}
use Rattle.sym_unfolding.specs.declared.adding.UnfoldedCase.{UnfoldedCase}
use Rattle.sym_unfolding.specs.declared.searching.FoundAt.{FoundAt}
use Rattle.sym_unfolding.specs.declared.searching.Search.{Search}
use Rattle.sym_unfolding.specs.declared.unfolding.Told.{Told}
use Rattle.sym_unfolding.specs.declared.unfolding.Unfolding.{Unfolding}
use Rattle.sym_unfolding.specs.Answering.{PureTold, met}
use Rattle.sym_unfolding.specs.Answering as answers
use Rattle.sym_unfolding.specs.Searching.{PureFound, PureSearch}
use Rattle.sym_unfolding.specs.Unfolding.{PureUnfoldedCase, PureUnfolding, unfolded, unmatched, unknown}

abbrev pub found_view : FoundAt → PureFound
found_view f = record { conds = atoms_view f.conds; place = f.place }

abbrev pub search_view : Search → PureSearch
search_view s = record { found = map found_view s.found; none = alternatives_view s.none }

abbrev pub case_view : {S : Type 0} → UnfoldedCase S → PureUnfoldedCase S
case_view c = record { number = c.number; state = state_view c.state }

abbrev pub cases_view : {S : Type 0} → List (UnfoldedCase S) → List (PureUnfoldedCase S)
cases_view cs = map case_view cs

abbrev pub told_view : Told → PureTold
told_view (Told.Met conds v) = met (atoms_view conds) (values_view v)
told_view (Told.Unknown conds reason) = answers.unknown (atoms_view conds) reason

abbrev pub unfolding_view : {S : Type 0} → Unfolding S → PureUnfolding S
unfolding_view (Unfolding.Unfolded cs) = unfolded (cases_view cs)
unfolding_view (Unfolding.Unmatched conds v) = unmatched (atoms_view conds) (values_view v)
unfolding_view (Unfolding.Unknown conds reason) = unknown (atoms_view conds) reason
