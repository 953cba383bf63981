-- The pure data of the states and branches of objects.
use Rattle.std.specs.Prelude.{List, map}
use Rattle.object_sym.specs.declared.states.ObjectSym.{ObjectSym}
use Rattle.pure_terms.specs.View.{atoms_view}
use Rattle.sym_model.specs.declared.branches.Branch.{Branch}
use Rattle.sym_model.specs.Pure.{PureChunk, PureBranch}
use Rattle.sym_model.specs.View.{frag_view, result_view}

abbrev pub state_view : ObjectSym → List PureChunk
state_view s = frag_view s.chunks

abbrev pub object_branch_view : Branch ObjectSym → PureBranch (List PureChunk)
object_branch_view b = record { conds = atoms_view b.conds; state = state_view b.state; result = result_view b.result }

abbrev pub object_branches_view : List (Branch ObjectSym) → List (PureBranch (List PureChunk))
object_branches_view bs = map object_branch_view bs
