-- The laws of production, consumption and listing of lists of chunks, for states that are such lists.
use Rattle.std.proofs.Common.{◌≡◌, ◌↔◌, inl, inr, ℕ, ℤ, List, [], map, None}
use Rattle.gil_values.specs.Pure.{PureValue}
use Rattle.core_changes.specs.Consuming.{ConsumeChunks}
use Rattle.core_production.specs.Producing.{ProduceChunks}
use Rattle.core_uses.specs.Kept.{AreKept}
use Rattle.mem_model.specs.declared.keys.MemoryName.{MemoryName}
use Rattle.mem_model.specs.Heaps.{Heap}
use Rattle.pure_terms.specs.Pure.{PureTerm}
use Rattle.sym_chunks.specs.Wrapped.{chunks_stand, chunks_terms, seen}
use Rattle.sym_chunks.proofs.Wrapping.{each_seen, one_seen, serves_chunks}
use Rattle.sym_model.specs.Chunks.{StandFor, terms_of}
use Rattle.sym_model.specs.CoreLaws.{ProduceLaw, ProducesWhatMatters, ProducesPlainly, ProducesNarrowly, ConsumeLaw, ConsumesPlainly, ConsumesNarrowly, IsConsumed, IsNoFailure}
use Rattle.sym_model.specs.Listing.{IsListing}
use Rattle.sym_model.specs.Lists.{Each}
use Rattle.sym_model.specs.Plain.{IsPlainState}
use Rattle.sym_model.specs.Pure.{PureChunk, PureUse, PureResult, done, failed, missed, PureBranch}

module _ {S : Type 0} (view : S → List PureChunk) (memory : MemoryName) (s : S) where
  pub wrapped_listing : (us : List PureUse) → IsListing memory (StandFor memory) terms_of (AreKept memory) (view s) us → IsListing memory (chunks_stand memory view) (chunks_terms view) (λ t. AreKept memory (view t)) s us
  wrapped_listing us is = record { lists = is.lists; back = is.back; none = is.none; uses = is.uses; among = is.among }

  module _ (bs : List (PureBranch S)) (name : List ℕ) (ins : List PureTerm) where
    module _ (outs : List PureTerm) (chunks : ProduceChunks memory name ins outs (view s) (map (seen view) bs)) where
      pub wrapped_production : ProduceLaw memory (chunks_stand memory view) (chunks_terms view) name ins outs s bs
      wrapped_production = let law = chunks.laws in record {
        cover = λ vars v ws h k w serves may.
            one_seen view _ _ (λ b is. is) bs
            (law.cover vars v ws h k w (serves_chunks view memory s bs vars v None _ ws h serves) (record { entry = may.entry; lacks = may.lacks; is_heap = may.is_heap }));
        exact = λ vars v ws h serves.
            each_seen view _ _
            (λ b exact taken no_open.
            let is = exact taken no_open in
            record { k = is.k; w = is.w; may = record { entry = is.may.entry; lacks = is.may.lacks; is_heap = is.may.is_heap }; stands_for = is.stands_for })
            bs (law.exact vars v ws h (serves_chunks view memory s bs vars v None _ ws h serves));
        results = each_seen view _ _ (λ b is. is) bs law.results;
        variables = λ vars over fresh_over. each_seen view _ _ (λ b is. is) bs (law.variables vars over fresh_over);
        own = each_seen view _ _ (λ b is. is) bs law.own;
        made = each_seen view _ _ (λ b is. is) bs law.made;
      }

      pub wrapped_forms : ProducesWhatMatters memory (chunks_stand memory view) (chunks_terms view) name ins outs s bs
      wrapped_forms vars v ws h serves = each_seen view _ _ (λ b is. is) bs (chunks.forms vars v ws h (serves_chunks view memory s bs vars v None _ ws h serves))

      pub wrapped_plain : (plain : S → ℤ → ℤ → Type 0) → ((t : S) (low high : ℤ) → plain t low high ↔ IsPlainState memory (terms_of (view t)) low high) → ProducesPlainly plain name ins outs s bs
      wrapped_plain plain said low high is uses =
          each_seen view _ _ (λ b fine. (fine.0, ((said b.state _ _).1 fine.1.0, fine.1.1))) bs (chunks.plain low high ((said s low high).0 is) uses)

      pub wrapped_narrow : ProducesNarrowly (chunks_terms view) name ins outs s bs
      wrapped_narrow low high is_prop around is given = each_seen view _ _ (λ b fine. fine) bs (chunks.narrow low high is_prop around is given)

      pub wrapped_kept : AreKept memory (view s) → Each (λ b. AreKept memory (view b.state)) bs
      wrapped_kept kept = each_seen view (λ b. AreKept memory b.state) (λ b. AreKept memory (view b.state)) (λ b is. is) bs (chunks.kept kept)

    module _ (chunks : ConsumeChunks memory name ins (view s) (map (seen view) bs)) where
      consumed : (v ws : List PureValue) (h : Heap) (t : S) (r : PureResult) → IsConsumed memory (StandFor memory) terms_of name v ws h (view t) r → IsConsumed memory (chunks_stand memory view) (chunks_terms view) name v ws h t r
      consumed v ws h t (done u) is = record { outs = is.outs; are = is.are; us = is.us; have = is.have; k = is.k; w = is.w; entry = is.entry; holds = is.holds; stands_for = is.stands_for }
      consumed v ws h t (failed u) is = absurd is
      consumed v ws h t (missed k) is = record { lacks = is.lacks; stands_for = is.stands_for }

      no_failure : (r : PureResult) → IsNoFailure memory (StandFor memory) terms_of r → IsNoFailure memory (chunks_stand memory view) (chunks_terms view) r
      no_failure (done u) is = is
      no_failure (failed u) is = is
      no_failure (missed k) is = is

      pub wrapped_consumption : ConsumeLaw memory (chunks_stand memory view) (chunks_terms view) name ins s bs
      wrapped_consumption = let law = chunks.laws in record {
        cover = λ vars v ws h serves. one_seen view _ _ (λ b is. is) bs (law.cover vars v ws h (serves_chunks view memory s bs vars v None _ ws h serves));
        exact = λ vars v ws h serves.
            each_seen view _ _ (λ b exact taken. consumed v ws h b.state b.result (exact taken)) bs
            (law.exact vars v ws h (serves_chunks view memory s bs vars v None _ ws h serves));
        no_failure = each_seen view _ _ (λ b is. no_failure b.result is) bs law.no_failure;
        no_open = each_seen view _ _ (λ b is. is) bs law.no_open;
        variables = λ vars over fresh_over. each_seen view _ _ (λ b is. is) bs (law.variables vars over fresh_over);
        own = each_seen view _ _ (λ b is. is) bs law.own;
        made = each_seen view _ _ (λ b is. is) bs law.made;
      }

      pub wrapped_consumes_plainly : (plain : S → ℤ → ℤ → Type 0) → ((t : S) (low high : ℤ) → plain t low high ↔ IsPlainState memory (terms_of (view t)) low high) → ConsumesPlainly plain ins s bs
      wrapped_consumes_plainly plain said low high is around given =
          each_seen view _ _ (λ b fine. (fine.0, ((said b.state _ _).1 fine.1.0, fine.1.1))) bs (chunks.plain low high ((said s low high).0 is) around given)

      pub wrapped_consumes_narrowly : ConsumesNarrowly (chunks_terms view) name ins s bs
      wrapped_consumes_narrowly low high is_prop around is given = each_seen view _ _ (λ b fine. fine) bs (chunks.narrow low high is_prop around is given)

      pub wrapped_consumed_kept : AreKept memory (view s) → Each (λ b. AreKept memory (view b.state)) bs
      wrapped_consumed_kept kept = each_seen view (λ b. AreKept memory b.state) (λ b. AreKept memory (view b.state)) (λ b is. is) bs (chunks.kept kept)
