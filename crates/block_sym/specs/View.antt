-- The pure data of the states, actions and branches of blocks.
use Rattle.std.specs.Prelude.{List, map}
use Rattle.block_sym.specs.Table.{PureAction, at_cell, frees}
use Rattle.block_sym.specs.declared.addresses.AddressAction.{AddressAction}
use Rattle.block_sym.specs.declared.states.BlockSym.{BlockSym}
use Rattle.sym_chunks.specs.Cases.{ChunkBranches}
use Rattle.sym_chunks.specs.View.{access_view}
use Rattle.sym_chunks.specs.Wrapped.{seen}
use Rattle.sym_model.specs.declared.branches.Branch.{Branch}
use Rattle.sym_model.specs.Pure.{PureChunk}
use Rattle.sym_model.specs.View.{frag_view, branches_view}

abbrev pub state_view : BlockSym → List PureChunk
state_view s = frag_view s.chunks

abbrev pub address_action_view : AddressAction → PureAction
address_action_view (AddressAction.Cell access) = at_cell (access_view access)
address_action_view AddressAction.Free = frees

abbrev pub block_branches_view : List (Branch BlockSym) → ChunkBranches
block_branches_view bs = map (seen state_view) (branches_view bs)
