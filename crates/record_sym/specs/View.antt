-- The pure data of the states and branches of records.
use Rattle.std.specs.Prelude.{List, map}
use Rattle.pure_terms.specs.View.{atoms_view}
use Rattle.record_sym.specs.declared.states.RecordSym.{RecordSym}
use Rattle.sym_model.specs.declared.branches.Branch.{Branch}
use Rattle.sym_model.specs.Pure.{PureChunk, PureBranch}
use Rattle.sym_model.specs.View.{frag_view, result_view}

abbrev pub state_view : RecordSym → List PureChunk
state_view s = frag_view s.chunks

abbrev pub record_branch_view : Branch RecordSym → PureBranch (List PureChunk)
record_branch_view b = record { conds = atoms_view b.conds; state = state_view b.state; result = result_view b.result }

abbrev pub record_branches_view : List (Branch RecordSym) → List (PureBranch (List PureChunk))
record_branches_view bs = map record_branch_view bs
