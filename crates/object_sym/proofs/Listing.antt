-- The laws of objects as a listed memory, from those of lists of chunks.
use Rattle.std.proofs.Common.{◌≡◌, ◌⊎◌, ⊎_elim, inl, inr, ℕ, List, [], ◌∷◌, map, true, Option, Some, IsTrue, refl, sym, ap, subst, ◌∙◌, true≢false}
use Rattle.gil_values.specs.Pure.{PureValue, symbol, list}
use Rattle.core_changes.specs.Consuming.{ConsumeChunks, Consume}
use Rattle.core_production.specs.Producing.{ProduceChunks, Produce}
use Rattle.core_production.proofs.FitLaws.{not_same}
use Rattle.core_production.proofs.FixLaws.{key_fixed, fix_uses, lacks_missed}
use Rattle.core_production.proofs.Wrapped.{wrapped_production, wrapped_forms, wrapped_plain, wrapped_kept, wrapped_consumption, wrapped_consumes_plainly, wrapped_consumed_kept}
use Rattle.core_uses.proofs.ListingLaws.{by_name, key_parts}
use Rattle.mem_model.specs.declared.cores.Core.{Core}
use Rattle.mem_model.specs.declared.keys.Key.{Key}
use Rattle.mem_model.specs.declared.keys.MemoryName.TheVariants.{Object}
use Rattle.mem_model.specs.declared.keys.Sub.TheVariants.{Dom}
use Rattle.mem_model.specs.Heaps.{Heap, HasKey, IsHeapOf}
use Rattle.mem_model.specs.Keys.{key}
use Rattle.mem_model.specs.KeyOrder.{variant_number}
use Rattle.mem_model.specs.Names.{is_name_list}
use Rattle.mem_model.proofs.CoreLaws.{cores_stand_for_keys}
use Rattle.mem_model.proofs.Joins.{value_at}
use Rattle.pure_terms.specs.declared.variables.Sort.{Sort}
use Rattle.pure_terms.specs.Kinds.{has_sort}
use Rattle.pure_terms.specs.Meaning.{both}
use Rattle.pure_terms.specs.Pure.{PureTerm}
use Rattle.object_heap.specs.ObjectLaws.{object_misses_what_lacks}
use Rattle.object_heap.specs.Table.{object_actions}
use Rattle.object_sym.specs.declared.states.ObjectSym.{ObjectSym}
use Rattle.object_sym.specs.Fixes.{names_fix, names_beside, object_fixes}
use Rattle.object_sym.specs.Plain.{object_stands, object_terms, object_plain, object_kept}
use Rattle.object_sym.specs.ObjectMeaning.{object_plain_is_said}
use Rattle.object_sym.specs.View.{state_view}
use Rattle.object_sym.proofs.Missing.{NamesFound, Found, objects_find_missed}
use Rattle.sym_chunks.specs.Cases.{ChunkBranches}
use Rattle.sym_chunks.specs.Wrapped.{seen}
use Rattle.sym_chunks.proofs.Facts.{number_by}
use Rattle.sym_model.specs.CoreLaws.{ProduceLaw, ProducesWhatMatters, ProducesPlainly, ConsumeLaw, ConsumesPlainly}
use Rattle.sym_model.specs.Cores.{TakesIns, TakesBoth}
use Rattle.sym_model.specs.Fixing.{IsFixFor, IsFixOf, FixLaw}
use Rattle.sym_model.specs.Lists.{Each, OneOf}
use Rattle.sym_model.specs.Meaning.{sub_value, key_value}
use Rattle.sym_model.specs.Pure.{PureSub, named, cell, shape, bound, dom, proto, gone, PureKey, PureFix, PureBranch}

module _ (core : List ℕ) (ins : List PureTerm) (s : ObjectSym) (bs : List (PureBranch ObjectSym)) (chunks : ChunkBranches) (are : map (seen state_view) bs ≡ chunks) where
  module _ (outs : List PureTerm) (takes : TakesBoth Object core ins outs) (produced : Produce core ins outs (state_view s) chunks) where
    branches : ProduceChunks Object core ins outs (state_view s) (map (seen state_view) bs)
    branches = subst (ProduceChunks Object core ins outs (state_view s)) (sym are) (produced Object takes)

    pub produce_law : ProduceLaw Object object_stands object_terms core ins outs s bs
    produce_law = wrapped_production state_view Object s bs core ins outs branches

    pub produce_forms : ProducesWhatMatters Object object_stands object_terms core ins outs s bs
    produce_forms = wrapped_forms state_view Object s bs core ins outs branches

    pub produces_plainly : ProducesPlainly object_plain core ins outs s bs
    produces_plainly = wrapped_plain state_view Object s bs core ins outs branches object_plain object_plain_is_said

    pub produce_keeps : object_kept s → Each (λ b. object_kept b.state) bs
    produce_keeps = wrapped_kept state_view Object s bs core ins outs branches

  module _ (takes : TakesIns Object core ins) (consumed : Consume core ins (state_view s) chunks) where
    taken : ConsumeChunks Object core ins (state_view s) (map (seen state_view) bs)
    taken = subst (ConsumeChunks Object core ins (state_view s)) (sym are) (consumed Object takes)

    pub consume_law : ConsumeLaw Object object_stands object_terms core ins s bs
    consume_law = wrapped_consumption state_view Object s bs core ins taken

    pub consumes_plainly : ConsumesPlainly object_plain ins s bs
    consumes_plainly = wrapped_consumes_plainly state_view Object s bs core ins taken object_plain object_plain_is_said

    pub consume_keeps : object_kept s → Each (λ b. object_kept b.state) bs
    consume_keeps = wrapped_consumed_kept state_view Object s bs core ins taken

-- ---- fixes

has_list_sort : (d : PureValue) → is_name_list d ≡ true → IsTrue (has_sort Sort.List d)
has_list_sort (list ws) is = refl
has_list_sort d is = absurd (true≢false (sym is))

module _ (v : List PureValue) (at : PureKey) (k : Key) (h larger : Heap) (is : key_value v at.loc at.sub ≡ Some k) (is_heap : IsHeapOf Object larger) where
  names_fixed : NamesFound h larger k → IsFixFor v h larger (names_fix at.loc)
  names_fixed found =
      let (d, held) = value_at larger (key k.loc Dom) found.has in
      record {
        ws = symbol k.loc ∷ [];
        have = ap (λ o. both o (Some [])) (key_parts v at.loc at.sub k is).at;
        us = d ∷ [];
        of_sorts = (has_list_sort d (is_heap.well_formed.name_lists k.loc Dom d tt held), tt);
        k = key k.loc Dom;
        w = d;
        entry = by_name Core.Dom (symbol k.loc ∷ d ∷ []);
        holds = held;
        lacks = found.lacks;
      }

  -- the key is that of a name
  beside_by : (s : PureSub) → sub_value v s ≡ Some k.sub → NamesFound h larger k → OneOf (IsFixFor v h larger) (names_beside at.loc s)
  beside_by (named p) has found = inl (names_fixed found)
  beside_by (cell i) has found = absurd (not_same 0 1 refl (ap variant_number (sym found.is_name) ∙ number_by v (cell i) k.sub has))
  beside_by shape has found = absurd (not_same 0 2 refl (ap variant_number (sym found.is_name) ∙ number_by v shape k.sub has))
  beside_by bound has found = absurd (not_same 0 3 refl (ap variant_number (sym found.is_name) ∙ number_by v bound k.sub has))
  beside_by dom has found = absurd (not_same 0 4 refl (ap variant_number (sym found.is_name) ∙ number_by v dom k.sub has))
  beside_by proto has found = absurd (not_same 0 5 refl (ap variant_number (sym found.is_name) ∙ number_by v proto k.sub has))
  beside_by gone has found = absurd (not_same 0 6 refl (ap variant_number (sym found.is_name) ∙ number_by v gone k.sub has))

  one_fixes : ¬ HasKey h k → Found h larger k → OneOf (IsFixFor v h larger) (object_fixes at)
  one_fixes lacks found =
      ⊎_elim
      (λ has. inl (key_fixed v Object at k h larger is is_heap lacks has))
      (λ names. inr (beside_by at.sub (key_parts v at.loc at.sub k is).sub names))
      found

beside_uses : (loc : PureTerm) (s : PureSub) → Each (IsFixOf Object (record { loc = loc; sub = s })) (names_beside loc s)
beside_uses loc (named p) = (
  record {
    core = Core.Dom;
    of_memory = record { named = (cores_stand_for_keys Core.Dom).named; has = refl };
    ins = refl;
    outs = refl;
    among = (inl refl, tt);
    later_ins = [];
    loc_first = refl;
  },
  tt,
)
beside_uses loc (cell i) = tt
beside_uses loc shape = tt
beside_uses loc bound = tt
beside_uses loc dom = tt
beside_uses loc proto = tt
beside_uses loc gone = tt

pub objects_are_fixed : (at : PureKey) (fs : List PureFix) → fs ≡ object_fixes at → FixLaw Object object_actions at fs
objects_are_fixed at fs are = subst (FixLaw Object object_actions at) (sym are) (record {
  cover = λ v k h larger is missed. one_fixes v at k h larger is missed.larger_is_heap (lacks_missed Object object_actions h larger k object_misses_what_lacks missed) (objects_find_missed h larger k missed);
  uses = λ has. (fix_uses Object at has, beside_uses at.loc at.sub);
})
