-- The pure data of candidates.
use Rattle.std.specs.Prelude.{List, map}
use Rattle.pure_terms.specs.View.{term_view, terms_view, atoms_view}
use Rattle.sym_engine.specs.declared.calling.Called.{Called}
use Rattle.sym_engine.specs.declared.candidates.Candidate.{Candidate}
use Rattle.sym_paths.specs.Settling.{Candidate as PureCandidate}
use Rattle.sym_paths.specs.View.{path_view}
use Rattle.sym_paths.specs.Calls.{Called as PureCalled}

abbrev pub candidate_view : {S : Type 0} → Candidate S → PureCandidate S
candidate_view c = record { path = path_view c.path; no_fault = atoms_view c.no_fault }

abbrev pub candidates_view : {S : Type 0} → List (Candidate S) → List (PureCandidate S)
candidates_view cs = map candidate_view cs

abbrev pub called_view : Called → PureCalled
called_view c = record { callee = term_view c.callee; args = terms_view c.args }
