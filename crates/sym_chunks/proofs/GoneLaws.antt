-- A location that is gone.
use Rattle.std.proofs.Common.{◌≡◌, inr, ℕ, List, Some, None, refl, sym, ap, subst}
use Rattle.std.specs.FinMap.{get}
use Rattle.gil_values.specs.Pure.{PureValue}
use Rattle.mem_model.specs.declared.failures.Failure.{Failure}
use Rattle.mem_model.specs.declared.keys.MemoryName.{MemoryName}
use Rattle.mem_model.specs.declared.keys.Sub.{Sub}
use Rattle.mem_model.specs.declared.keys.Sub.TheVariants.{Gone}
use Rattle.mem_model.specs.Actions.{ActionResult}
use Rattle.mem_model.specs.Heaps.{Heap, Holds, HasKey}
use Rattle.mem_model.specs.Keys.{key}
use Rattle.mem_model.specs.KeyOrder.{variant_number}
use Rattle.mem_model.specs.Tables.{fails, failure_text}
use Rattle.pure_terms.specs.declared.variables.Sort.{Sort}
use Rattle.pure_terms.specs.Meaning.{IsProper}
use Rattle.pure_terms.specs.Pure.{PureTerm}
use Rattle.sym_chunks.specs.Cases.{failure, gone_case}
use Rattle.sym_chunks.specs.Keys.{at_key}
use Rattle.sym_chunks.specs.Laws.{IsLocation, IsKeyOf}
use Rattle.sym_model.specs.Alternatives.{Hold, any}
use Rattle.sym_model.specs.Chunks.{StandFor}
use Rattle.sym_model.specs.Lists.{Each, OneOf}
use Rattle.sym_model.specs.Meaning.{location_of, key_of}
use Rattle.sym_model.specs.Pure.{gone, PureChunk}
use Rattle.sym_model.proofs.ListLaws.{each_to}
use Rattle.sym_chunks.proofs.CaseLaws.{IsFor, IsExactCase, made_exact, made_comes}
use Rattle.sym_chunks.proofs.Facts.{Fact}
use Rattle.sym_chunks.proofs.FoundLaws.{none_of_option, any_key, key_any}
use Rattle.sym_chunks.proofs.Shapes.{EachAtom, Reading, ChunkSides, IsFineState, IsFineCase, any_shaped, side_sub, key_shaped, fine_case}

module _ (memory : MemoryName) (vars : List Sort) (v : List PureValue) (h : Heap) (proper : IsProper vars v) (cs : List PureChunk) (stands : StandFor memory cs v h) (facts : Each (Fact vars v h) cs) (l : PureTerm) (a : ℕ) (asked : IsLocation vars v l a) where
  gone_asked : IsKeyOf vars v l gone (key a Gone)
  gone_asked = record { over_loc = asked.over; over_sub = tt; is = ap (λ o. key_of (location_of o) (Some Gone)) asked.is }

  gone_holds : Hold v (any (at_key l gone) cs) → (w : PureValue) × Holds h (key a Gone) w
  gone_holds holds = any_key vars v h proper cs stands.union facts l gone (key a Gone) gone_asked holds

  -- the case in which the location is gone
  pub gone_exact : (r : ActionResult) → ((w : PureValue) → Holds h (key a Gone) w → r ≡ fails Failure.Gone h) → Each (IsExactCase memory v r) (gone_case l cs)
  gone_exact r is =
      made_exact memory v r (any (at_key l gone) cs) cs (failure Failure.Gone)
      (inr (λ holds. let (w, held) = gone_holds holds in subst (λ x. IsFor memory v x cs (failure Failure.Gone)) (sym (is w held)) (refl, stands)))

  pub gone_comes : (w : PureValue) → Holds h (key a Gone) w → OneOf (λ d. Hold v d.when) (gone_case l cs)
  gone_comes w held = made_comes v (any (at_key l gone) cs) cs (failure Failure.Gone) (key_any vars v h proper cs stands.union facts l gone (key a Gone) gone_asked w held)

  other_variants : (s t : Sub) → s ≡ t → variant_number s ≡ variant_number t
  other_variants s t e = ap variant_number e

  -- a location that has another key isn't gone
  pub no_gone_beside : (s : Sub) → ¬ (variant_number s ≡ 6) → HasKey h (key a s) → get h (key a Gone) ≡ None
  no_gone_beside s differ has = none_of_option (get h (key a Gone)) (λ has_gone. differ (other_variants s Gone (stands.is_heap.well_formed.gone_alone a s has_gone has)))

module _ (g : Reading) (cs : List PureChunk) (sides : Each (ChunkSides g) cs) (state : IsFineState g cs) (l : PureTerm) (side_l : g.Side l) (near_l : g.Near l) where
  pub gone_fine : Each (IsFineCase g) (gone_case l cs)
  gone_fine =
      fine_case g (any (at_key l gone) cs) cs (failure Failure.Gone)
      (any_shaped g (at_key l gone) cs (each_to (ChunkSides g) (λ c. EachAtom g.Q (at_key l gone c)) cs (λ c c_sides. key_shaped g l side_l near_l c c_sides gone (side_sub g gone tt)) sides))
      state (g.r_text (failure_text Failure.Gone))
