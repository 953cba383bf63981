-- What adding a fact gives, and uses whose arguments have no values.
use Rattle.std.proofs.Common.{◌≡◌, inl, ℕ, ◌+◌, pos, neg_ℤ, List, [], ◌∷◌, ◌++◌, Option, Some, None, Ok, IsSome, IsTrue, refl, sym, ap, subst, ◌∙◌, true≢false}
use Rattle.gil_values.specs.Pure.{PureValue}
use Rattle.gil_syntax.specs.Evaluation.{Store, evaluate_all}
use Rattle.gil_syntax.specs.Pure.{PurePredUse, uses}
use Rattle.mem_model.specs.declared.cores.Core.{Core}
use Rattle.mem_model.specs.declared.keys.MemoryName.{MemoryName}
use Rattle.mem_model.specs.CoreNames.{core_of}
use Rattle.mem_model.specs.Heaps.{Heap}
use Rattle.assert_logic.specs.Adding.{with_use, with_item}
use Rattle.assert_logic.specs.LogicStates.{LogicState}
use Rattle.pure_terms.specs.Meaning.{all_true, IsOver}
use Rattle.pure_terms.specs.Pure.{term_of}
use Rattle.sym_evaluation.specs.Meaning.{IsStoreOver}
use Rattle.sym_evaluation.specs.Pure.{PureStore}
use Rattle.sym_model.specs.Laws.{IsDecidedWithin}
use Rattle.sym_model.specs.Terms.{StateTerms, AreEachOver}
use Rattle.sym_model.proofs.ListLaws.{same_some, each_append, each_to}
use Rattle.sym_paths.specs.Plain.{IsPlainItem}
use Rattle.sym_states.specs.Meaning.{Stands, Serves, IsOverTable}
use Rattle.sym_states.specs.Narrowly.{IsNarrowWith, StaysNarrow}
use Rattle.sym_states.specs.Plainly.{item_growth}
use Rattle.sym_states.specs.Producing.{IsAskedAmong, AreArguments, HaveNoValues, IsOwnTo, IsUseAdded, IsNext, AddsToEach, no_states, added_fact}
use Rattle.sym_states.specs.Pure.{PureFact, PureState, PureArguments}
use Rattle.sym_states.proofs.Additions.{use_parts, use_is}
use Rattle.sym_states.proofs.Conditions.{met_parts, met_both}
use Rattle.sym_states.proofs.Narrowness.{narrow_state_up, none_asked}
use Rattle.sym_states.proofs.PureItems.{store_serves, grows}
use Rattle.sym_states.proofs.Values.{only, facts_more}

module _ {S : Type 0} (memory : MemoryName) (stands : S → List PureValue → Heap → Type 0) (terms : S → StateTerms) (kept : S → Type 0) (keeps narrows : Type 0) (bs : PureStore) (u : PurePredUse) (s : PureState S) where
  -- some argument has surely no value
  pub never_valued : HaveNoValues bs u → AddsToEach memory stands terms kept keeps narrows bs (uses u) (s ∷ []) no_states
  never_valued none = record {
    cover = λ v t l m here is heap.
        let serves : Serves stands terms s bs v t l = only (λ q. Serves stands terms q bs v t l) s here in
        let (ws, (us, (ins, outs, there))) = use_parts u l m (evaluate_all u.ins t) (evaluate_all u.outs t) is in
        absurd (none s.vars v t ws us (store_serves stands terms s bs v t l serves) ins outs);
    whole = tt;
    stopped = tt;
  }

  module _ (named : core_of u.pred ≡ None) (a : PureArguments) (are : AreArguments bs u a) where
    abbrev fact : PureFact
    fact = record { pred = u.pred; ins = a.ins; outs = a.outs }

    abbrev with_fact : PureState S
    with_fact = record s { conds = s.conds ++ a.conds; facts = s.facts ++ fact ∷ [] }

    fact_next : IsNext terms bs (uses u) s with_fact
    fact_next = record {
      more = a.conds;
      conds = refl;
      own = each_to (IsAskedAmong bs (u.ins ++ u.outs)) (IsOwnTo bs (uses u) (terms s.memory)) a.conds (λ c is. inl is) are.asked;
      added = subst (λ (o : Option Core). IsUseAdded terms bs u o s with_fact) (sym named) (refl, (fact, (refl, record { pred = refl; ins = are.ins_terms; outs = are.outs_terms })));
      same_else = refl;
    }

    fact_over : IsOverTable terms s → IsStoreOver s.vars bs → IsOverTable terms with_fact
    fact_over over store = record {
      conds = each_append (λ c. IsOver s.vars (term_of c)) s.conds a.conds over.conds (are.over s.vars store).0;
      given = over.given;
      memory = over.memory;
      facts = each_append (λ (c : PureFact). AreEachOver s.vars (c.ins ++ c.outs)) s.facts (fact ∷ []) over.facts
          (each_append (IsOver s.vars) a.ins a.outs (are.over s.vars store).1 (are.over s.vars store).2, tt);
    }

    abbrev after_fact : LogicState → List PureValue → List PureValue → LogicState
    after_fact l ws us = record l { facts = l.facts ++ record { pred = u.pred; ins = ws; outs = us } ∷ [] }

    fact_item : (t : Store) (l : LogicState) (ws us : List PureValue) → evaluate_all u.ins t ≡ Ok ws → evaluate_all u.outs t ≡ Ok us → with_item t (uses u) l ≡ Some (after_fact l ws us)
    fact_item t l ws us ins outs = use_is t u l ws us ins outs ∙ ap (λ o. with_use o u.pred ws us l) named

    fact_exact : (v : List PureValue) (t : Store) (l : LogicState) → Serves stands terms s bs v t l → IsTrue (all_true v with_fact.conds) → (m : LogicState) × ((with_item t (uses u) l ≡ Some m) × Stands stands with_fact v m)
    fact_exact v t l serves met =
        let (ws, (us, (ins, outs, have_ins, have_outs))) = are.are s.vars v t (store_serves stands terms s bs v t l serves) (met_parts v s.conds a.conds met).1 in (
          after_fact l ws us,
          (
            fact_item t l ws us ins outs,
            record {
              proper = serves.state.proper;
              meets = met;
              memory = serves.state.memory;
              facts = facts_more v s.facts l.facts fact (record { pred = u.pred; ins = ws; outs = us }) serves.state.facts (record { pred = refl; ins = have_ins; outs = have_outs });
            },
          ),
        )

    -- a plain use is of a core predicate
    no_core : ¬ IsPlainItem (uses u)
    no_core item = subst (λ (o : Option Core). ¬ IsSome o) (sym named) (λ some. true≢false (sym some)) item.form.core

    -- a fact changes nothing of the memory
    narrow_still : StaysNarrow terms bs (uses u) s with_fact
    narrow_still b item is =
        let wide : ℕ = b + item_growth in
        let wider : IsNarrowWith terms wide s = narrow_state_up terms b wide (grows b) s is in
        record {
          decided = each_append (IsDecidedWithin (neg_ℤ (pos wide)) (pos wide)) s.conds a.conds wider.decided (none_asked (IsDecidedWithin (neg_ℤ (pos wide)) (pos wide)) bs b u a item are);
          narrow_memory = wider.narrow_memory;
        }

    -- the state with one fact more
    pub adds_fact : AddsToEach memory stands terms kept keeps narrows bs (uses u) (s ∷ []) (added_fact s u.pred a)
    adds_fact = record {
      cover = λ v t l m here is heap.
          let serves : Serves stands terms s bs v t l = only (λ q. Serves stands terms q bs v t l) s here in
          let (ws, (us, (ins, outs, there))) = use_parts u l m (evaluate_all u.ins t) (evaluate_all u.outs t) is in
          let have = are.have s.vars v t ws us (store_serves stands terms s bs v t l serves) ins outs in
          let (k, (found, is_there)) = fact_exact v t l serves (met_both v s.conds a.conds serves.state.meets have.0) in
          inl (inl (subst (λ (x : LogicState). Stands stands with_fact v x) (same_some (sym found ∙ is)) is_there));
      whole = (inl (record { next = fact_next; over = fact_over; still_kept = λ k. k; still_plain = λ k b c item over below is. absurd (no_core item); still_narrow = λ k. narrow_still; exact = λ v t l serves met none. fact_exact v t l serves met }), tt);
      stopped = tt;
    }
