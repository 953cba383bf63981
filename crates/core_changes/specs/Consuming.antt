-- Consuming core predicates from lists of chunks.
use Rattle.std.specs.Prelude.{◌≡◌, ℕ, ℤ, pos, ◌≤ℤ◌, List, [], ◌∷◌, ◌++◌, Option, Some, None}
use Rattle.core_uses.specs.Kept.{AreKept}
use Rattle.mem_model.specs.declared.cores.Core.{Core}
use Rattle.mem_model.specs.declared.keys.MemoryName.{MemoryName}
use Rattle.mem_model.specs.CoreNames.{core_of}
use Rattle.pure_terms.specs.Pure.{PureTerm}
use Rattle.sym_chunks.specs.ByPlace.{all_by_place}
use Rattle.sym_chunks.specs.Cases.{ChunkBranches, PureCase, case_of, choose, takes, found}
use Rattle.sym_chunks.specs.Keys.{other_sub}
use Rattle.sym_model.specs.Alternatives.{always}
use Rattle.sym_model.specs.Chunks.{StandFor, terms_of}
use Rattle.sym_model.specs.CoreLaws.{ConsumeLaw, ConsumesPlainly, ConsumesNarrowly}
use Rattle.sym_model.specs.Cores.{TakesIns}
use Rattle.sym_model.specs.Lists.{Each}
use Rattle.sym_model.specs.Plain.{IsPlainState}
use Rattle.sym_model.specs.Pure.{named, cell, shape, bound, dom, proto, gone, PureKey, PureChunk, missed}

-- the key that a core predicate is of, by its ins
abbrev pub key_given : Core → List PureTerm → Option PureKey
key_given Core.Prop (l ∷ p ∷ []) = Some (record { loc = l; sub = named p })
key_given Core.Cell (l ∷ i ∷ []) = Some (record { loc = l; sub = cell i })
key_given Core.Shape (l ∷ []) = Some (record { loc = l; sub = shape })
key_given Core.Bound (l ∷ []) = Some (record { loc = l; sub = bound })
key_given Core.Dom (l ∷ []) = Some (record { loc = l; sub = dom })
key_given Core.Proto (l ∷ []) = Some (record { loc = l; sub = proto })
key_given Core.Gone (l ∷ []) = Some (record { loc = l; sub = gone })
key_given core ins = None

-- the chunk of the key is taken out, or no chunk is that of the key
abbrev pub consumed_cases : PureKey → List PureChunk → List PureCase
consumed_cases k cs =
    found takes k.loc k.sub cs ++ case_of (all_by_place k.loc (λ c. other_sub k.sub c.sub) cs) cs (missed k)

abbrev pub consumed : Option PureKey → List PureChunk → ChunkBranches
consumed (Some k) cs = choose always (consumed_cases k cs)
consumed None cs = []

abbrev pub consumed_by : Option Core → List PureTerm → List PureChunk → ChunkBranches
consumed_by (Some core) ins cs = consumed (key_given core ins) cs
consumed_by None ins cs = []

-- The branches keep the laws of consumption for every memory that has the core predicate: they are plain from plain states and narrow
-- from narrow ones, and keep what lists of chunks keep.
pub record ConsumeChunks (memory : MemoryName) (core : List ℕ) (ins : List PureTerm) (cs : List PureChunk) (bs : ChunkBranches) : Type 0 where
  pub laws : ConsumeLaw memory (StandFor memory) terms_of core ins cs bs
  pub plain : ConsumesPlainly (λ ds. IsPlainState memory (terms_of ds)) ins cs bs
  pub narrow : ConsumesNarrowly terms_of core ins cs bs
  pub kept : AreKept memory cs → Each (λ b. AreKept memory b.state) bs

abbrev pub Consume : List ℕ → List PureTerm → List PureChunk → ChunkBranches → Type 0
Consume core ins cs bs = (memory : MemoryName) → TakesIns memory core ins → ConsumeChunks memory core ins cs bs
