-- Where the leaves of uses come from: of those that take a fact, and of those for which cases are tried.
use Rattle.std.proofs.Common.{◌≡◌, inl, inr, ℕ, List, [], ◌∷◌, ◌++◌, remove, zero, suc, Some, None, sym, subst}
use Rattle.gil_values.specs.Pure.{PureValue}
use Rattle.gil_syntax.specs.declared.assertions.Param.{Param}
use Rattle.gil_syntax.specs.Programs.{find_pred}
use Rattle.gil_syntax.specs.Pure.{PurePredUse, PureItem, uses, PurePredDef}
use Rattle.mem_model.specs.Heaps.{Heap}
use Rattle.assert_logic.specs.Matching.{scope_of}
use Rattle.pure_terms.specs.Pure.{PureAtom}
use Rattle.sym_evaluation.specs.Pure.{PureStore, PureGoodCase}
use Rattle.sym_model.specs.Lists.{Each, IsAmong}
use Rattle.sym_model.specs.Terms.{StateTerms}
use Rattle.sym_model.proofs.ListLaws.{each_at, each_to, each_is_among, one_with}
use Rattle.sym_states.specs.Producing.{IsAskedAmong}
use Rattle.sym_states.specs.Pure.{PureFact, PureState}
use Rattle.sym_matching.specs.Origins.{FoundComesFrom, AsksCase, IsStoreOfCase, CaseComesFrom}
use Rattle.sym_matching.specs.Pure.{PureSplit}
use Rattle.footprint.specs.Cases.{FinishesMatch, Finishes}
use Rattle.footprint.specs.Choosing.{PureFactCase, PureChoice}
use Rattle.footprint.specs.Coming.{AskedComesFrom, AsksFact, AsksFactOf, HasPlace, ChoiceComesFrom, HasFactsOf, MayStand, MayOpen, ItemComesFrom, UseComesFrom, PredComesFrom, TriesComeFrom, CasesComeFrom}
use Rattle.footprint.specs.Items.{SpreadsValues}
use Rattle.footprint.specs.Origins.{stands as in_store, gives as given_outs, opens, Origin, AreAskedTerms, MayReach, takes_fact, tries, enters, leaves_case, IsOwnToMatching, AddsOwn, MatchComesFrom, LeavesAdd, LeavesComeFrom, EndComesFrom, IsOneOf}
use Rattle.footprint.specs.Pure.{PureMatch, PureLeaves}
use Rattle.footprint.specs.Spreading.{joined, stops_at, with_conds, all_stop, Gathers}
use Rattle.footprint.specs.Uses.{PureAsked, TakesFactAt, TakesFact, AreCopiesUnder}
use Rattle.footprint.proofs.OriginLaws.{one_among, asks_there, adds_none, adds_these, both_add, gathered_add, stop_adds, stopped_add, own_each, rest_adds, all_from, ends_from, outs_from}

each_left_over : {A : Type 0} (P : A → Type 0) (xs : List A) (i : ℕ) → Each P xs → Each P (remove xs i)
each_left_over P [] zero all = tt
each_left_over P [] (suc i) all = tt
each_left_over P (x ∷ xs) zero all = all.1
each_left_over P (x ∷ xs) (suc i) all = (all.0, each_left_over P xs i all.1)

module _ {S : Type 0} (terms : S → StateTerms) (scope : List Param) (n : ℕ) (u : PurePredUse) (bs : PureStore) where
  -- ---- a use of a user predicate, whose ins and known outs have terms

  module _ (s : PureState S) (a : PureAsked) (o : Origin) (whole : List PureItem) (facts : HasFactsOf terms o s) (among : IsAmong (uses u) whole) (are : AreAskedTerms bs u a.ins a.known)
      (reached : MayStand terms o scope whole bs s) where
    abbrev Come : PureLeaves S → Type 0
    Come leaves = LeavesComeFrom terms o scope whole s.conds leaves

    own_choice : (c : PureAtom) → AsksFactOf s.facts u.pred a.ins a.known c → IsOwnToMatching o c
    own_choice c asks =
        let there : AsksFactOf o.facts u.pred a.ins a.known c =
        one_with (λ d. IsAmong d o.facts) (AsksFact u.pred a.ins a.known c) s.facts facts asks (λ d d_among asked. one_among_facts d d_among asked) in
        asks_there o scope whole bs (terms s.memory) (uses u) c reached among (inr (a.ins, (are.ins_are, inr (a.known, (are.known_are, there)))))
      where
        one_among_facts : (d : PureFact) → IsAmong d o.facts → AsksFact u.pred a.ins a.known c d → AsksFactOf o.facts u.pred a.ins a.known c
        one_among_facts d d_among asked = one_among (AsksFact u.pred a.ins a.known c) o.facts d d_among asked

    module _ (stands : S → List PureValue → Heap → Type 0) (kept : S → Type 0) where
      abbrev IsChosen : PureFactCase → Type 0
      IsChosen c = Each (AsksFactOf s.facts u.pred a.ins a.known) c.conds × HasPlace s.facts u.pred c.place

      taken_from : (c : PureFactCase) (leaves : PureLeaves S) → IsChosen c → TakesFact stands terms kept n scope u.outs bs s c leaves → Come leaves
      taken_from c leaves (asks, (fact, (at, named))) takes = by (subst (λ x. TakesFactAt stands terms kept n scope u.outs bs s c x leaves) at takes)
        where
          adds : AddsOwn o s.conds (s.conds ++ c.conds)
          adds = adds_these o s.conds c.conds (each_to (AsksFactOf s.facts u.pred a.ins a.known) (IsOwnToMatching o) c.conds own_choice asks)

          by : TakesFactAt stands terms kept n scope u.outs bs s c (Some fact) leaves → Come leaves
          by (r, (without, spreads)) =
              let there : MayReach o (record { scope = scope; items = whole; stage = given_outs bs u fact.outs; held = terms s.memory })
              = takes_fact fact reached among (each_at (λ (d : PureFact). IsAmong d o.facts) s.facts c.place fact facts at) named in
              let q : PureState S = record (with_conds s c.conds) { memory = r.memory; facts = remove s.facts c.place } in
              all_from terms o scope whole s.conds (s.conds ++ c.conds) adds leaves
              (outs_from terms o scope whole n u bs q fact.outs leaves (each_left_over (λ (d : PureFact). IsAmong d o.facts) s.facts c.place facts)
              (subst (λ (held : StateTerms). MayReach o (record { scope = scope; items = whole; stage = given_outs bs u fact.outs; held = held })) (sym without.memory.same_terms) there)
              (subst (λ (x : PureState S). SpreadsValues n scope u.outs bs x fact.outs leaves) without.is spreads))

      -- what is known of a copy of the state
      record IsFrom (r : PureState S) : Type 0 where
        adds : AddsOwn o s.conds r.conds
        has_facts : HasFactsOf terms o r
        stands_there : MayStand terms o scope whole bs r

      copies_from : (alternatives : List (List PureAtom)) (rs : List (PureState S)) → Each (Each (IsOwnToMatching o)) alternatives → AreCopiesUnder stands terms kept s alternatives rs → Each IsFrom rs
      copies_from [] [] own are_copies = tt
      copies_from (more ∷ alternatives) (r ∷ rs) own are_copies = (
        subst IsFrom (sym are_copies.0.is) (record {
          adds = adds_these o s.conds more own.0;
          has_facts = facts;
          stands_there = subst (λ (held : StateTerms). MayReach o (record { scope = scope; items = whole; stage = in_store bs; held = held })) (sym are_copies.0.memory.same_terms) reached;
        }),
        copies_from alternatives rs own.1 are_copies.1,
      )
      copies_from [] (r ∷ rs) own are_copies = absurd are_copies
      copies_from (more ∷ alternatives) [] own are_copies = absurd are_copies

      opened_from : (preds : List PurePredDef) → o.preds ≡ preds → (r : PureState S) (leaves : PureLeaves S) → IsFrom r → UseComesFrom terms preds scope u bs a r leaves → Come leaves
      opened_from preds same r leaves from come = all_from terms o scope whole s.conds r.conds from.adds leaves (come o whole same from.has_facts among are from.stands_there)

      both_from : (preds : List PurePredDef) → o.preds ≡ preds → (choice : PureChoice) (qs : List (PureState S)) (leaves more : PureLeaves S) → ChoiceComesFrom s.facts u.pred a.ins a.known choice
          → Gathers (TakesFact stands terms kept n scope u.outs bs s) choice.found leaves → AreCopiesUnder stands terms kept s choice.none qs → Gathers (UseComesFrom terms preds scope u bs a) qs more
          → Come (joined leaves more)
      both_from preds same choice qs leaves more from takes are_copies opened =
          both_add o s.conds (MatchComesFrom terms o scope whole s.conds) leaves more
          (gathered_add o s.conds (MatchComesFrom terms o scope whole s.conds) (TakesFact stands terms kept n scope u.outs bs s) IsChosen taken_from choice.found leaves from.found takes)
          (gathered_add o s.conds (MatchComesFrom terms o scope whole s.conds) (UseComesFrom terms preds scope u bs a) IsFrom (opened_from preds same) qs more
          (copies_from choice.none qs (own_each o (AsksFactOf s.facts u.pred a.ins a.known) own_choice choice.none from.none) are_copies) opened)

    -- the state in which cases are tried
    may_open : MayOpen terms o scope whole u.pred a s
    may_open = tries reached among are

    finished_from : (d : PurePredDef) → find_pred o.preds u.pred ≡ Some d → (m : PureMatch S) (leaves : PureLeaves S) → EndComesFrom terms o (IsOneOf (scope_of d) d.cases) s.conds m
        → FinishesMatch n scope u.outs bs d.outs m leaves → Come leaves
    finished_from d find m leaves (inner, (items, ((same, body), from))) (Some ts, (at, stays, is_terms, finishes)) =
        let there : MayReach o (record { scope = scope_of d; items = items; stage = in_store m.store; held = terms m.state.memory })
        = subst (λ (ps : List Param). MayReach o (record { scope = ps; items = items; stage = in_store m.store; held = terms m.state.memory })) same from.reached in
        all_from terms o scope whole s.conds m.state.conds from.own leaves
        (outs_from terms o scope whole n u bs m.state ts leaves from.facts (leaves_case reached among find body there (sym is_terms)) finishes)
    finished_from d find m leaves (inner, (items, (is, from))) (None, (at, stays, is_terms, finishes)) =
        subst Come (sym finishes) (stop_adds o s.conds (MatchComesFrom terms o scope whole s.conds) n m.state from.own)

    finish_all : (d : PurePredDef) → find_pred o.preds u.pred ≡ Some d → (before after : PureLeaves S) → LeavesAdd o s.conds (EndComesFrom terms o (IsOneOf (scope_of d) d.cases) s.conds) before
        → Finishes n scope u.outs bs d.outs before after → Come after
    finish_all d find before after are_ended (next, (gathers, is)) =
        subst Come (sym is)
        (both_add o s.conds (MatchComesFrom terms o scope whole s.conds) (record { matched = []; stopped = before.stopped; undecided = before.undecided }) next
        (rest_adds o s.conds (EndComesFrom terms o (IsOneOf (scope_of d) d.cases) s.conds) (MatchComesFrom terms o scope whole s.conds) before are_ended)
        (gathered_add o s.conds (MatchComesFrom terms o scope whole s.conds) (FinishesMatch n scope u.outs bs d.outs) (EndComesFrom terms o (IsOneOf (scope_of d) d.cases) s.conds) (finished_from d find) before.matched next are_ended.matched gathers))

  module _ (preds : List PurePredDef) (s : PureState S) where
    pub user_from : (stands : S → List PureValue → Heap → Type 0) (kept : S → Type 0) (a : PureAsked) (choice : PureChoice) (qs : List (PureState S)) (leaves more : PureLeaves S)
        → ChoiceComesFrom s.facts u.pred a.ins a.known choice → Gathers (TakesFact stands terms kept n scope u.outs bs s) choice.found leaves → AreCopiesUnder stands terms kept s choice.none qs
        → Gathers (UseComesFrom terms preds scope u bs a) qs more → UseComesFrom terms preds scope u bs a s (joined leaves more)
    user_from stands kept a choice qs leaves more from takes copies opened o whole same facts among are reached =
        both_from s a o whole facts among are reached stands kept preds same choice qs leaves more from takes copies opened

    -- the cases of its predicate, and then its outs
    pub pred_from : (a : PureAsked) (d : PurePredDef) (before after : PureLeaves S) → CasesComeFrom terms preds d a s before → Finishes n scope u.outs bs d.outs before after → PredComesFrom terms preds scope d u bs a s after
    pred_from a d before after cases finishes o whole same facts among find are reached =
        finish_all s a o whole facts among are reached d find before after (cases o scope whole u.pred same facts find (may_open s a o whole facts among are reached)) finishes

    -- where no predicate has the name, or cases aren't tried
    pub use_stops : (a : PureAsked) → UseComesFrom terms preds scope u bs a s (all_stop n s)
    use_stops a o whole same facts among are reached = stop_adds o s.conds (MatchComesFrom terms o scope whole s.conds) n s (adds_none o s.conds)

    -- ---- any use

    module _ (x : PureSplit PureAsked) (origin : AskedComesFrom bs u x) where
      abbrev faults : PureLeaves S
      faults = record { matched = []; stopped = stops_at n s.conds x.none; undecided = [] }

      module _ (o : Origin) (whole : List PureItem) (among : IsAmong (uses u) whole) (reached : MayStand terms o scope whole bs s) where
        own_asked : (c : PureAtom) → IsAskedAmong bs (u.ins ++ u.outs) c → IsOwnToMatching o c
        own_asked c asks = asks_there o scope whole bs (terms s.memory) (uses u) c reached among (inl asks)

        faults_add : LeavesComeFrom terms o scope whole s.conds faults
        faults_add = stopped_add o (MatchComesFrom terms o scope whole s.conds) n s.conds x.none (own_each o (IsAskedAmong bs (u.ins ++ u.outs)) own_asked x.none origin.none)

      pub unasked_from : ItemComesFrom terms preds scope (uses u) (record { state = s; store = bs }) faults
      unasked_from o whole same facts among reached = faults_add o whole among reached

      pub use_from : (g : PureGoodCase PureAsked) → x.found ≡ Some g → (more : PureLeaves S) → UseComesFrom terms preds scope u bs g.result (with_conds s g.conds) more
          → ItemComesFrom terms preds scope (uses u) (record { state = s; store = bs }) (joined faults more)
      use_from g is_g more come o whole same facts among reached =
          let found : FoundComesFrom (IsAskedAmong bs (u.ins ++ u.outs)) (λ (a : PureAsked). AreAskedTerms bs u a.ins a.known) (Some g)
          = subst (FoundComesFrom (IsAskedAmong bs (u.ins ++ u.outs)) (λ (a : PureAsked). AreAskedTerms bs u a.ins a.known)) is_g origin.found in
          let adds : AddsOwn o s.conds (s.conds ++ g.conds) = adds_these o s.conds g.conds (each_to (IsAskedAmong bs (u.ins ++ u.outs)) (IsOwnToMatching o) g.conds (own_asked o whole among reached) found.0) in
          both_add o s.conds (MatchComesFrom terms o scope whole s.conds) faults more (faults_add o whole among reached)
          (all_from terms o scope whole s.conds (s.conds ++ g.conds) adds more (come o whole same facts among found.1 reached))

-- ---- the cases of a predicate

module _ {S : Type 0} (terms : S → StateTerms) (n : ℕ) (preds : List PurePredDef) (d : PurePredDef) (a : PureAsked) (s : PureState S) (x : PureSplit PureStore) (origin : CaseComesFrom d a.ins a.known x) where
  abbrev misfits : PureLeaves S
  misfits = record { matched = []; stopped = stops_at n s.conds x.none; undecided = [] }

  abbrev Ends : Origin → PureMatch S → Type 0
  Ends o = EndComesFrom terms o (IsOneOf (scope_of d) d.cases) s.conds

  module _ (o : Origin) (scope : List Param) (items : List PureItem) (y : List ℕ) (find : find_pred o.preds y ≡ Some d) (reached : MayOpen terms o scope items y a s) where
    own_case : (c : PureAtom) → AsksCase d a.ins a.known c → IsOwnToMatching o c
    own_case c asks = (record { scope = scope; items = items; stage = opens y a.ins a.known; held = terms s.memory }, (reached, (d, (find, asks))))

    misfits_add : LeavesAdd o s.conds (Ends o) misfits
    misfits_add = stopped_add o (Ends o) n s.conds x.none (own_each o (AsksCase d a.ins a.known) own_case x.none origin.none)

    each_entered : (bs : PureStore) → IsStoreOfCase d a.ins a.known bs → Each (λ body. MayStand terms o (scope_of d) body bs s) d.cases
    each_entered bs is = each_to (λ body. IsAmong body d.cases) (λ body. MayStand terms o (scope_of d) body bs s) d.cases (λ body among. enters reached find among is) (each_is_among d.cases)

  pub misfits_from : CasesComeFrom terms preds d a s misfits
  misfits_from o scope items y same facts find reached = misfits_add o scope items y find reached

  pub cases_from : (g : PureGoodCase PureStore) → x.found ≡ Some g → (more : PureLeaves S) → TriesComeFrom terms preds (scope_of d) d.cases (with_conds s g.conds) g.result more
      → CasesComeFrom terms preds d a s (joined misfits more)
  cases_from g is_g more come o scope items y same facts find reached =
      let found : FoundComesFrom (AsksCase d a.ins a.known) (IsStoreOfCase d a.ins a.known) (Some g) = subst (FoundComesFrom (AsksCase d a.ins a.known) (IsStoreOfCase d a.ins a.known)) is_g origin.found in
      let adds : AddsOwn o s.conds (s.conds ++ g.conds) = adds_these o s.conds g.conds (each_to (AsksCase d a.ins a.known) (IsOwnToMatching o) g.conds (own_case o scope items y find reached) found.0) in
      both_add o s.conds (Ends o) misfits more (misfits_add o scope items y find reached)
      (ends_from terms o (IsOneOf (scope_of d) d.cases) s.conds (s.conds ++ g.conds) adds more (come o same facts (each_entered o scope items y find reached g.result found.1)))
