-- The pure data of symbolic keys, chunks and branches.
use Rattle.std.specs.Prelude.{List, map}
use Rattle.pure_terms.specs.Pure.{PureAtom}
use Rattle.pure_terms.specs.View.{term_view, terms_view, atoms_view}
use Rattle.sym_model.specs.declared.keys.SymSub.{SymSub}
use Rattle.sym_model.specs.declared.keys.SymKey.{SymKey}
use Rattle.sym_model.specs.declared.chunks.Chunk.{Chunk}
use Rattle.sym_model.specs.declared.chunks.SymFrag.{SymFrag}
use Rattle.sym_model.specs.declared.uses.CoreUse.{CoreUse}
use Rattle.sym_model.specs.declared.uses.Fix.{Fix}
use Rattle.sym_model.specs.declared.path_conditions.PathCond.{PathCond}
use Rattle.sym_model.specs.declared.branches.SymResult.{SymResult}
use Rattle.sym_model.specs.declared.branches.Branch.{Branch}
use Rattle.sym_model.specs.Pure.{PureSub, named, cell, shape, bound, dom, proto, gone, PureKey, PureChunk, PureResult, done, failed, missed, PureBranch, PureUse, PureFix}

abbrev pub sub_view : SymSub → PureSub
sub_view (SymSub.Name t) = named (term_view t)
sub_view (SymSub.At t) = cell (term_view t)
sub_view SymSub.Shape = shape
sub_view SymSub.Bound = bound
sub_view SymSub.Dom = dom
sub_view SymSub.Proto = proto
sub_view SymSub.Gone = gone

abbrev pub key_view : SymKey → PureKey
key_view k = record { loc = term_view k.loc; sub = sub_view k.sub }

abbrev pub chunk_view : Chunk → PureChunk
chunk_view c = record { loc = term_view c.loc; sub = sub_view c.sub; val = term_view c.val }

abbrev pub chunks_view : List Chunk → List PureChunk
chunks_view cs = map chunk_view cs

abbrev pub frag_view : SymFrag → List PureChunk
frag_view s = chunks_view s.chunks.items

abbrev pub result_view : SymResult → PureResult
result_view (SymResult.Done t) = done (term_view t)
result_view (SymResult.Failed t) = failed (term_view t)
result_view (SymResult.Miss k) = missed (key_view k)

abbrev pub branch_view : {M : Type 0} → Branch M → PureBranch M
branch_view b = record { conds = atoms_view b.conds; state = b.state; result = result_view b.result }

abbrev pub branches_view : {M : Type 0} → List (Branch M) → List (PureBranch M)
branches_view bs = map branch_view bs

abbrev pub path_view : PathCond → List PureAtom
path_view p = atoms_view p.conds

abbrev pub use_view : CoreUse → PureUse
use_view u = record { core = u.core; ins = terms_view u.ins; outs = terms_view u.outs }

abbrev pub uses_view : List CoreUse → List PureUse
uses_view us = map use_view us

abbrev pub fix_view : Fix → PureFix
fix_view f = record { core = f.core; ins = terms_view f.ins; outs = f.outs }

abbrev pub fixes_view : List Fix → List PureFix
fixes_view fs = map fix_view fs
