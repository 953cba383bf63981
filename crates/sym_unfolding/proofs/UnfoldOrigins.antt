-- Where the conditions and the states of unfolding come from.
use Rattle.std.proofs.Common.{◌≡◌, inl, inr, ◌+◌, List, ◌++◌, map, take, drop, slice_get, Some, refl, sym, ap, subst, ◌∙◌, append_assoc}
use Rattle.gil_values.specs.Pure.{PureValue}
use Rattle.gil_syntax.specs.Pure.{PureItem, PurePredDef}
use Rattle.mem_model.specs.Heaps.{Heap}
use Rattle.pure_terms.specs.Pure.{PureTerm, PureAtom}
use Rattle.sym_paths.specs.Asking.{IsSolution, IsOutside}
use Rattle.sym_evaluation.specs.Pure.{PureStore, PureGoodCase}
use Rattle.sym_matching.specs.Origins.{FoundComesFrom, AsksCase, IsStoreOfCase, CaseComesFrom}
use Rattle.sym_matching.specs.Pure.{PureSplit}
use Rattle.sym_model.specs.Lists.{Each, OneOf, IsAmong}
use Rattle.sym_model.specs.Terms.{StateTerms}
use Rattle.sym_model.proofs.ListLaws.{same_some, each_append, each_to, each_is_among, one_at, one_with}
use Rattle.sym_states.specs.Pure.{PureFact, PureState}
use Rattle.sym_unfolding.specs.Adding.{IsCaseAddedFrom}
use Rattle.sym_unfolding.specs.Answering.{PureTold, met, unknown, ToldOfAll, IsUnfoldedAt, answer_told}
use Rattle.sym_unfolding.specs.Origins.{IsAddedFrom, AsksSearch, AsksTaking, IsUnfoldedFrom, UnfoldingComesFrom}
use Rattle.sym_unfolding.specs.Searching.{PureFound, PureSearch, SearchComesFrom}
use Rattle.sym_unfolding.specs.Taking.{TakesOut}
use Rattle.sym_unfolding.specs.Unfolding.{PureUnfoldedCase}
use Rattle.sym_unfolding.proofs.AddLaws.{both_each}
use Rattle.sym_unfolding.proofs.AddOrigins.{up_to_again}
use Rattle.sym_unfolding.proofs.UnfoldLaws.{each_taken}

-- ---- in place of the fact at a place

module _ {S : Type 0} (stands : S → List PureValue → Heap → Type 0) (terms : S → StateTerms) (kept : S → Type 0) (d : PurePredDef) (s : PureState S) (found : PureFound) (c : PureFact) (at : slice_get s.facts found.place ≡ Some c)
    (left : PureState S) (takes : TakesOut stands terms kept found s left) where
  abbrev others : List PureFact
  others = take found.place s.facts ++ drop (found.place + 1) s.facts

  added_there : (store : PureStore) (more : List PureAtom) (items : List PureItem) (r : PureState S) → IsAddedFrom terms store more items left r → IsAddedFrom terms store (found.conds ++ more) items (record s { facts = others }) r
  added_there store more items r (after, (vars, (names, come))) =
      let conds : left.conds ++ more ≡ s.conds ++ (found.conds ++ more) = ap (λ (x : PureState S). x.conds ++ more) takes.is ∙ append_assoc s.conds found.conds more in (
        after,
        (
          vars,
          (
            names,
            up_to_again terms after (record s { vars = vars; conds = s.conds ++ (found.conds ++ more); facts = others }) (record left { vars = vars; conds = left.conds ++ more }) (λ i. record (takes.is i) { vars = vars; conds = conds i }) takes.memory.same_terms items r come,
          ),
        ),
      )

  pub cases_come : (split : PureSplit PureStore) (good : PureGoodCase PureStore) → split.found ≡ Some good → CaseComesFrom d c.ins (map Some c.outs) split → (rs : List (PureUnfoldedCase S)) → Each (IsCaseAddedFrom terms good.result good.conds d.cases left) rs
      → Each (IsUnfoldedAt terms d s found) rs
  cases_come split good there comes rs adds =
      let (asked, store_is) = subst (FoundComesFrom (AsksCase d c.ins (map Some c.outs)) (IsStoreOfCase d c.ins (map Some c.outs))) there comes.found in
      each_to (IsCaseAddedFrom terms good.result good.conds d.cases left) (IsUnfoldedAt terms d s found) rs
      (λ r added. record {
        fact = c;
        at = at;
        others = others;
        some_facts = each_taken (λ e. IsAmong e s.facts) s.facts found.place (each_is_among s.facts);
        items = added.0;
        case = added.1.0;
        store = good.result;
        store_is = store_is;
        more = good.conds;
        asked = asked;
        added = added_there good.result good.conds added.0 r.state added.1.1;
      }) adds

-- ---- what is answered

module _ {S : Type 0} (terms : S → StateTerms) (d : PurePredDef) (ins outs : List PureTerm) (s : PureState S) (search : PureSearch) (comes : SearchComesFrom d.name ins (map Some outs) s.facts search) where
  abbrev Searches : PureAtom → Type 0
  Searches a = AsksSearch d.name ins (map Some outs) s.facts a

  abbrev Takes : PureAtom → Type 0
  Takes a = AsksTaking d ins outs s.facts a

  -- where there may be no such fact
  pub told_comes : (told : PureTold) → ToldOfAll s.vars s.conds search.none (Some told) → UnfoldingComesFrom terms d ins outs s (answer_told told)
  told_comes (met atoms v) told =
      one_with (Each Searches) (λ more. (atoms ≡ s.conds ++ more) × IsSolution s.vars atoms v) search.none comes.none told
      (λ more asks is. (more, (is.0, each_to Searches Takes more (λ a asked. inl asked) asks)))
  told_comes (unknown atoms reason) told =
      one_with (Each Searches) (λ more. (atoms ≡ s.conds ++ more) × IsOutside atoms reason) search.none comes.none told
      (λ more asks is. (more, (is.0, each_to Searches Takes more (λ a asked. inl asked) asks)))

  -- a fact of the predicate stands at the place, and was found under such conditions
  abbrev IsFoundFrom : PureFound → Type 0
  IsFoundFrom f = Each Searches f.conds × ((c : PureFact) × ((slice_get s.facts f.place ≡ Some c) × (c.pred ≡ d.name)))

  unfolded_from : (r : PureUnfoldedCase S) (f : PureFound) → IsFoundFrom f → IsUnfoldedAt terms d s f r → IsUnfoldedFrom terms d ins outs s r
  unfolded_from r f known is =
      let (asks, (c, (there, named))) = known in
      let of_pred : is.fact.pred ≡ d.name = subst (λ (e : PureFact). e.pred ≡ d.name) (same_some (sym there ∙ is.at)) named in
      record {
        fact = is.fact;
        among = one_at (λ e. e ≡ is.fact) s.facts f.place is.fact is.at refl;
        of_pred = of_pred;
        others = is.others;
        some_facts = is.some_facts;
        items = is.items;
        case = is.case;
        store = is.store;
        store_is = is.store_is;
        taken = f.conds ++ is.more;
        asked = each_append Takes f.conds is.more (each_to Searches Takes f.conds (λ a asked. inl asked) asks)
            (each_to (AsksCase d is.fact.ins (map Some is.fact.outs)) Takes is.more
            (λ a asked. inr (one_at (λ e. (e.pred ≡ d.name) × AsksCase d e.ins (map Some e.outs) a) s.facts f.place is.fact is.at (of_pred, asked))) is.asked);
        added = is.added;
      }

  -- where there is one
  pub unfolded_come : (rs : List (PureUnfoldedCase S)) → Each (λ r. OneOf (λ f. IsUnfoldedAt terms d s f r) search.found) rs → Each (IsUnfoldedFrom terms d ins outs s) rs
  unfolded_come rs all =
      let known = both_each (λ f. Each Searches f.conds) (λ f. (c : PureFact) × ((slice_get s.facts f.place ≡ Some c) × (c.pred ≡ d.name))) IsFoundFrom search.found (λ f asks there. (asks, there)) comes.found comes.places in
      each_to (λ r. OneOf (λ f. IsUnfoldedAt terms d s f r) search.found) (IsUnfoldedFrom terms d ins outs s) rs
      (λ r one. one_with IsFoundFrom (λ f. IsUnfoldedAt terms d s f r) search.found known one (unfolded_from r)) all
