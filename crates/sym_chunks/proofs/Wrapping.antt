-- The laws of lists of chunks, for states that are such lists.
use Rattle.std.proofs.Common.{⊎_elim, inl, inr, ℕ, List, [], ◌∷◌, map, Option}
use Rattle.gil_values.specs.Pure.{PureValue}
use Rattle.mem_model.specs.declared.keys.MemoryName.{MemoryName}
use Rattle.mem_model.specs.Actions.{Actions}
use Rattle.mem_model.specs.Heaps.{Heap}
use Rattle.pure_terms.specs.declared.variables.Sort.{Sort}
use Rattle.pure_terms.specs.declared.variables.Var.{Var}
use Rattle.pure_terms.specs.Pure.{PureTerm}
use Rattle.sym_chunks.specs.Wrapped.{chunks_stand, chunks_terms, seen}
use Rattle.sym_model.specs.Chunks.{StandFor, terms_of}
use Rattle.sym_model.specs.Forms.{OpenWhatMatters}
use Rattle.sym_model.specs.Laws.{IsMeaning, Serves, ActLaw}
use Rattle.sym_model.specs.Lists.{Each, OneOf}
use Rattle.sym_model.specs.Pure.{PureChunk, PureBranch}
use Rattle.sym_model.proofs.ChunkMeaning.{chunks_have_meaning}
use Rattle.sym_chunks.proofs.CaseLaws.{Branch}

module _ {S : Type 0} (view : S → List PureChunk) where
  module _ (P : Branch → Type 0) (P' : PureBranch S → Type 0) (f : (b : PureBranch S) → P (seen view b) → P' b) where
    pub each_seen : (bs : List (PureBranch S)) → Each P (map (seen view) bs) → Each P' bs
    each_seen [] each = tt
    each_seen (b ∷ bs) each = (f b each.0, each_seen bs each.1)

    pub one_seen : (bs : List (PureBranch S)) → OneOf P (map (seen view) bs) → OneOf P' bs
    one_seen [] one = absurd one
    one_seen (b ∷ bs) one = ⊎_elim (λ here. inl (f b here)) (λ later. inr (one_seen bs later)) one

  pub wrapped_meaning : (memory : MemoryName) → IsMeaning memory (chunks_stand memory view) (chunks_terms view)
  wrapped_meaning memory = let chunks = chunks_have_meaning memory in record {
    local = λ s v w h agree is. chunks.local (view s) v w h agree is;
    one_heap = λ s v g h first second. chunks.one_heap (view s) v g h first second;
    of_memory = λ s v h is. chunks.of_memory (view s) v h is;
    symbols = λ s v h n is occurs. chunks.symbols (view s) v h n is occurs;
    offsets_placed = λ s. chunks.offsets_placed (view s);
  }

  module _ (memory : MemoryName) (s : S) (bs : List (PureBranch S)) where
    pub serves_chunks : (vars : List Sort) (v : List PureValue) (fresh : Option Var) (args : List PureTerm) (args' : List PureValue) (h : Heap) → Serves (chunks_stand memory view) (chunks_terms view) vars v fresh args s args' h → Serves (StandFor memory) terms_of vars v fresh args (view s) args' h
    serves_chunks vars v fresh args args' h serves = record { proper = serves.proper; over = serves.over; fresh_over = serves.fresh_over; have_values = serves.have_values; has_heap = serves.has_heap }

    module _ (m : Actions) (action : List ℕ) (fresh : Option Var) (args : List PureTerm) where
      pub wrapped_law : (asked : List PureTerm × List PureTerm) → ActLaw (StandFor memory) terms_of m action fresh args asked (view s) (map (seen view) bs) → ActLaw (chunks_stand memory view) (chunks_terms view) m action fresh args asked s bs
      wrapped_law asked law = record {
        cover = λ vars v args' h serves.
            one_seen _ _ (λ b (all, is). (all, ⊎_elim inl (λ for. inr (record { result = for.result; state = for.state })) is)) bs
            (law.cover vars v args' h (serves_chunks vars v fresh args args' h serves));
        exact = λ vars v args' h serves.
            each_seen _ _ (λ b exact all no_open. let for = exact all no_open in record { result = for.result; state = for.state }) bs
            (law.exact vars v args' h (serves_chunks vars v fresh args args' h serves));
        variables = λ vars over fresh_over. each_seen _ _ (λ b is. is) bs (law.variables vars over fresh_over);
        own = each_seen _ _ (λ b is. is) bs law.own;
        made = each_seen _ _ (λ b is. is) bs law.made;
      }

      pub wrapped_opens : (depends : List PureChunk → List ℕ → List PureTerm → List PureValue → Heap → PureTerm → Type 0) → OpenWhatMatters (StandFor memory) terms_of depends action fresh args (view s) (map (seen view) bs) → OpenWhatMatters (chunks_stand memory view) (chunks_terms view) (λ t. depends (view t)) action fresh args s bs
      wrapped_opens depends opens vars v args' h serves = each_seen _ _ (λ b is. is) bs (opens vars v args' h (serves_chunks vars v fresh args args' h serves))
