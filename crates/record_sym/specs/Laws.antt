-- The laws of the branches of each action of records.
use Rattle.std.specs.Prelude.{◌≡◌, ℕ, List, Option, Some}
use Rattle.mem_model.specs.declared.keys.MemoryName.TheVariants.{Record}
use Rattle.pure_terms.specs.declared.variables.Var.{Var}
use Rattle.pure_terms.specs.Pure.{PureTerm}
use Rattle.record_heap.specs.declared.actions.RecordAction.{RecordAction}
use Rattle.record_heap.specs.Names.{action_of}
use Rattle.record_heap.specs.Table.{record_actions}
use Rattle.record_sym.specs.Table.{branches_by}
use Rattle.sym_chunks.specs.Cases.{ChunkBranches}
use Rattle.sym_model.specs.Chunks.{StandFor, terms_of}
use Rattle.sym_model.specs.Laws.{MayBeAsked, Covers, AreExact}
use Rattle.sym_model.specs.Pure.{PureChunk}

-- The branches cover what the concrete action comes to, and each is exact.
pub record AreRight (action : List ℕ) (fresh : Option Var) (args : List PureTerm) (cs : List PureChunk) (bs : ChunkBranches) : Type 0 where
  pub cover : Covers (StandFor Record) terms_of record_actions action fresh args cs bs
  pub exact : AreExact (StandFor Record) terms_of record_actions action fresh args cs bs

-- They are so wherever the action may be asked.
abbrev pub IsRightAction : RecordAction → Type 0
IsRightAction op =
    (action : List ℕ) (fresh : Option Var) (args : List PureTerm) (cs : List PureChunk) → action_of action ≡ Some op
    → MayBeAsked record_actions action fresh args (terms_of cs) → AreRight action fresh args cs (branches_by op fresh args cs)
