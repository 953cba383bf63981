-- The pure data of cases, ways and branches of lists of chunks.
use Rattle.std.specs.Prelude.{List, map}
use Rattle.pure_terms.specs.View.{term_view, atoms_view}
use Rattle.sym_chunks.specs.Cases.{PureCase, PureAccess, reads, writes, takes, ChunkBranches}
use Rattle.sym_chunks.specs.Walking.{PureWay}
use Rattle.sym_chunks.specs.declared.cases.Case.{Case}
use Rattle.sym_chunks.specs.declared.finding.Access.{Access}
use Rattle.sym_chunks.specs.declared.walking.Way.{Way}
use Rattle.sym_model.specs.Alternatives.{alternatives_view}
use Rattle.sym_model.specs.declared.branches.Branch.{Branch}
use Rattle.sym_model.specs.declared.chunks.SymFrag.{SymFrag}
use Rattle.sym_model.specs.Pure.{PureChunk, PureBranch}
use Rattle.sym_model.specs.View.{frag_view, result_view}

abbrev pub case_view : Case → PureCase
case_view c = record { when = alternatives_view c.when; after = frag_view c.after; result = result_view c.result }

abbrev pub cases_view : List Case → List PureCase
cases_view cs = map case_view cs

abbrev pub way_view : Way → PureWay
way_view w = record { when = alternatives_view w.when; left = frag_view w.left }

abbrev pub ways_view : List Way → List PureWay
ways_view ws = map way_view ws

abbrev pub access_view : Access → PureAccess
access_view Access.Read = reads
access_view (Access.Write t) = writes (term_view t)
access_view Access.Take = takes

abbrev pub chunk_branch_view : Branch SymFrag → PureBranch (List PureChunk)
chunk_branch_view b = record { conds = atoms_view b.conds; state = frag_view b.state; result = result_view b.result }

abbrev pub chunk_branches_view : List (Branch SymFrag) → ChunkBranches
chunk_branches_view bs = map chunk_branch_view bs
