-- What lists of chunks keep from which they are listed back.
use Rattle.std.specs.Prelude.{◌≡◌, List, true}
use Rattle.mem_model.specs.declared.keys.MemoryName.{MemoryName}
use Rattle.pure_terms.specs.declared.literals.Literal.{Literal}
use Rattle.pure_terms.specs.Pure.{literal}
use Rattle.sym_model.specs.Chunks.{StandFor, terms_of}
use Rattle.sym_model.specs.Cores.{IsSubOf}
use Rattle.sym_model.specs.Listing.{IsListing}
use Rattle.sym_model.specs.Lists.{Each}
use Rattle.sym_model.specs.Pure.{gone, PureChunk, PureUse}

-- the chunk is of the memory, and where it says that a location is gone, it holds the literal true
pub record IsKept (memory : MemoryName) (c : PureChunk) : Type 0 where
  pub of_memory : IsSubOf memory c.sub
  pub gone_is_true : c.sub ≡ gone → c.val ≡ literal (Literal.Bool true)

abbrev pub AreKept : MemoryName → List PureChunk → Type 0
AreKept memory cs = Each (IsKept memory) cs

-- the uses list the chunks, whatever the memory
abbrev pub ListChunks : List PureChunk → List PureUse → Type 0
ListChunks cs us = (memory : MemoryName) → IsListing memory (StandFor memory) terms_of (AreKept memory) cs us
