-- The branches of the actions of blocks. l is a location, i an offset, n what a chunk holds at `Bound`; an address is a list of l
-- and i.
use Rattle.std.specs.Prelude.{ℕ, zero, suc, ◌+◌, ℤ, pos, List, [], ◌∷◌, ◌++◌, Bool, true, false, ◌&&◌, nat_le, if◌then◌else◌, Option, Some, None}
use Rattle.std.specs.List.{remove}
use Rattle.gil_values.specs.declared.kinds.Kind.{Kind}
use Rattle.gil_values.specs.Pure.{integer}
use Rattle.mem_model.specs.declared.failures.Failure.{Failure}
use Rattle.block_heap.specs.declared.actions.BlockAction.{BlockAction}
use Rattle.block_heap.specs.Table.{is_size, count_of}
use Rattle.pure_terms.specs.declared.literals.Literal.{Literal}
use Rattle.pure_terms.specs.declared.variables.Var.{Var}
use Rattle.pure_terms.specs.Equality.{same_term}
use Rattle.pure_terms.specs.Pure.{PureTerm, literal, variable, list_of, from_list, to_list}
use Rattle.sym_chunks.specs.ByPlace.{all_by_place, any_at}
use Rattle.sym_chunks.specs.Cases.{ChunkBranches, failure, true_term, PureCase, case_of, branches_of, choose, PureAccess, reads, writes, found}
use Rattle.sym_chunks.specs.Forms.{form_of}
use Rattle.sym_chunks.specs.Keys.{at_key}
use Rattle.sym_chunks.specs.Ordering.{outside, inside}
use Rattle.sym_chunks.specs.Walking.{way_of, walk}
use Rattle.sym_model.specs.Alternatives.{Alternatives, never, always, both, any, same, other, of_kind, not_of_kind}
use Rattle.sym_model.specs.Cores.{zero_term}
use Rattle.sym_model.specs.Pure.{PureSub, cell, bound, gone, PureChunk, done, missed}

abbrev pub number : ℤ → PureTerm
number k = literal (Literal.Int k)

-- ---- whole blocks

abbrev pub is_cell : PureSub → Bool
is_cell (cell o) = true
is_cell _ = false

-- the chunk is a cell, and its location this very term
abbrev pub is_cell_at : PureTerm → PureChunk → Bool
is_cell_at m c = same_term c.loc m && is_cell c.sub

abbrev pub cells_at : PureTerm → List PureChunk → ℕ
cells_at m [] = 0
cells_at m (c ∷ cs) = if is_cell_at m c then suc (cells_at m cs) else cells_at m cs

-- Where n is the bound of m, all its cells are there, whatever their offsets are: as many have this very term as their location.
abbrev pub is_whole : PureTerm → PureTerm → List PureChunk → Bool
is_whole m (literal (Literal.Int n)) cs = nat_le (count_of (integer n)) (cells_at m cs)
is_whole m n cs = false

-- the chunks whose location isn't this very term
abbrev pub elsewhere : PureTerm → List PureChunk → List PureChunk
elsewhere m [] = []
elsewhere m (c ∷ cs) = if same_term c.loc m then elsewhere m cs else c ∷ elsewhere m cs

-- ---- a cell

-- The chunk, of the location m, doesn't tell of the cell at i: it is another cell, or the bound, and i inside it, unless all cells
-- are there.
abbrev pub lacks_there : List PureChunk → PureTerm → PureTerm → PureSub → PureTerm → Alternatives
lacks_there cs m i (cell o) val = other i o
lacks_there cs m i gone val = never
lacks_there cs m i bound val = if is_whole m val cs then never else inside i val
lacks_there cs m i _ val = always

-- the chunk, which is one of these
abbrev pub lacks : List PureChunk → PureTerm → PureChunk → Alternatives
lacks cs i c = lacks_there cs c.loc i c.sub c.val

-- the chunk is the bound, and i outside it
abbrev pub past_there : PureTerm → PureSub → PureTerm → Alternatives
past_there i bound val = outside i val
past_there i _ val = never

abbrev pub past : PureTerm → PureChunk → Alternatives
past i c = past_there i c.sub c.val

-- l is gone
abbrev pub gone_case : PureTerm → List PureChunk → List PureCase
gone_case l cs = case_of (any (at_key l gone) cs) cs (failure Failure.Gone)

-- the cell isn't found: l is gone; i is outside its bound; no chunk tells of the cell
abbrev pub unfound_cases : PureTerm → PureTerm → List PureChunk → List PureCase
unfound_cases l i cs =
    gone_case l cs
    ++ (case_of (any_at l (past i) cs) cs (failure Failure.Bound)
    ++ case_of (all_by_place l (lacks cs i) cs) cs (missed (record { loc = l; sub = cell i })))

-- `load` and `store`
abbrev pub cell_cases : PureAccess → PureTerm → PureTerm → List PureChunk → List PureCase
cell_cases a l i cs = found a l (cell i) cs ++ unfound_cases l i cs

-- ---- `free`

-- the chunk, of the location, is neither its bound nor says that it is gone
abbrev pub unbounded_there : PureSub → Alternatives
unbounded_there bound = never
unbounded_there gone = never
unbounded_there _ = always

abbrev pub unbounded : PureChunk → Alternatives
unbounded c = unbounded_there c.sub

-- the subkeys of so many cells, from an offset on
abbrev pub cell_subs : ℕ → ℕ → List PureSub
cell_subs i zero = []
cell_subs i (suc n) = cell (number (pos i)) ∷ cell_subs (i + 1) n

-- l is m, all of whose cells are there: they go with the bound, and m is gone then
abbrev pub taken_whole : PureTerm → PureTerm → List PureChunk → List PureCase
taken_whole l m cs = case_of (same l m) (elsewhere m cs ++ record { loc = m; sub = gone; val = true_term } ∷ []) (done true_term)

-- The chunk at a place, of m, is the bound of l, a literal. Its cells go at once where they are all there, and else are taken one
-- after another.
abbrev pub taken_by_bound : Bool → PureTerm → List PureChunk → ℕ → PureTerm → ℤ → List PureCase
taken_by_bound true l cs i m n = taken_whole l m cs
taken_by_bound false l cs i m n = walk cs m (cell_subs 0 (count_of (integer n))) (way_of (same l m) (remove cs i))

-- the chunk at a place is the bound of l: a literal, or its literal form is needed
abbrev pub bounded_there : PureTerm → List PureChunk → ℕ → PureTerm → PureSub → PureTerm → List PureCase
bounded_there l cs i m bound (literal (Literal.Int n)) = taken_by_bound (is_whole m (number n) cs) l cs i m n
bounded_there l cs i m bound n = case_of (form_of n (same l m)) cs (done true_term)
bounded_there l cs i m _ n = []

abbrev pub bounded_from : PureTerm → List PureChunk → ℕ → List PureChunk → List PureCase
bounded_from l cs i [] = []
bounded_from l cs i (c ∷ rest) = bounded_there l cs i c.loc c.sub c.val ++ bounded_from l cs (i + 1) rest

-- l is gone; a chunk is its bound; none is
abbrev pub free_cases : PureTerm → List PureChunk → List PureCase
free_cases l cs =
    gone_case l cs
    ++ (bounded_from l cs 0 cs
    ++ case_of (all_by_place l unbounded cs) cs (missed (record { loc = l; sub = bound })))

-- ---- addresses

-- what is done at an address
pub data PureAction : Type 0 where
  at_cell : PureAccess → PureAction
  frees : PureAction

abbrev pub act_there : PureAction → Alternatives → PureTerm → PureTerm → List PureChunk → ChunkBranches
act_there (at_cell a) when l i cs = choose when (cell_cases a l i cs)
act_there frees when l i cs =
    branches_of (both when (other i zero_term)) cs (failure Failure.Free) ++ choose (both when (same i zero_term)) (free_cases l cs)

-- the elements of a list term as a location and an offset
abbrev pub by_parts : PureAction → List PureTerm → List PureChunk → ChunkBranches
by_parts action (l ∷ i ∷ []) cs =
    branches_of (not_of_kind l Kind.Sym ++ not_of_kind i Kind.Int) cs (failure Failure.Kind)
    ++ act_there action (both (of_kind l Kind.Sym) (of_kind i Kind.Int)) l i cs
by_parts action ts cs = branches_of always cs (failure Failure.Kind)

-- a list term, or a term whose literal form is needed where its value is a list
abbrev pub by_address : PureAction → PureTerm → List PureChunk → ChunkBranches
by_address action (list_of ts) cs = by_parts action (to_list ts) cs
by_address action a cs =
    branches_of (not_of_kind a Kind.List) cs (failure Failure.Kind) ++ branches_of (form_of a (of_kind a Kind.List)) cs (done true_term)

-- ---- `alloc`

abbrev pub address_term : Var → PureTerm
address_term x = list_of (from_list (variable x ∷ zero_term ∷ []))

-- so many cells of a new block, from an offset on, which hold 0
abbrev pub new_cells : Var → ℕ → ℕ → List PureChunk
new_cells x i zero = []
new_cells x i (suc n) = record { loc = variable x; sub = cell (number (pos i)); val = zero_term } ∷ new_cells x (i + 1) n

-- the chunks with those of a new block
abbrev pub created : Var → ℤ → List PureChunk → List PureChunk
created x n cs = (cs ++ new_cells x 0 (count_of (integer n))) ++ record { loc = variable x; sub = bound; val = number n } ∷ []

abbrev pub make : Var → PureTerm → List PureChunk → ChunkBranches
make x (literal (Literal.Int n)) cs =
    if is_size n then branches_of always (created x n cs) (done (address_term x)) else branches_of always cs (failure Failure.Size)
make x n cs =
    branches_of (not_of_kind n Kind.Int) cs (failure Failure.Kind)
    ++ branches_of (form_of n (of_kind n Kind.Int)) cs (done (address_term x))

-- ---- the branches of each action

abbrev pub wrong_number : List PureChunk → ChunkBranches
wrong_number cs = branches_of always cs (failure Failure.Arity)

abbrev pub act_alloc : Option Var → List PureTerm → List PureChunk → ChunkBranches
act_alloc (Some x) (n ∷ []) cs = make x n cs
act_alloc None (n ∷ []) cs = []
act_alloc fresh _ cs = wrong_number cs

abbrev pub act_load : List PureTerm → List PureChunk → ChunkBranches
act_load (a ∷ []) cs = by_address (at_cell reads) a cs
act_load _ cs = wrong_number cs

abbrev pub act_store : List PureTerm → List PureChunk → ChunkBranches
act_store (a ∷ t ∷ []) cs = by_address (at_cell (writes t)) a cs
act_store _ cs = wrong_number cs

abbrev pub act_free : List PureTerm → List PureChunk → ChunkBranches
act_free (a ∷ []) cs = by_address frees a cs
act_free _ cs = wrong_number cs

abbrev pub branches_by : BlockAction → Option Var → List PureTerm → List PureChunk → ChunkBranches
branches_by BlockAction.Alloc fresh args cs = act_alloc fresh args cs
branches_by BlockAction.Load fresh args cs = act_load args cs
branches_by BlockAction.Store fresh args cs = act_store args cs
branches_by BlockAction.Free fresh args cs = act_free args cs

-- an action that blocks don't have
abbrev pub unknown_action : List PureChunk → ChunkBranches
unknown_action cs = branches_of always cs (failure Failure.Action)

abbrev pub table : Option BlockAction → Option Var → List PureTerm → List PureChunk → ChunkBranches
table (Some op) fresh args cs = branches_by op fresh args cs
table None fresh args cs = unknown_action cs
