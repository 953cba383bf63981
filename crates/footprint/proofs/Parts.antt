-- Leaves of a part of the cases, and how they are put together.
use Rattle.std.proofs.Common.{◌≡◌, ◌⊎◌, ⊎_elim, inl, inr, ℕ, List, [], ◌∷◌, ◌++◌, Option, Some, None, IsTrue, refl, sym, ap, subst, ◌∙◌, append_assoc}
use Rattle.std.proofs.lemmas.List.{append-nil}
use Rattle.gil_values.specs.Pure.{PureValue}
use Rattle.gil_syntax.specs.Evaluation.{Store}
use Rattle.mem_model.specs.Heaps.{Heap}
use Rattle.assert_logic.specs.LogicStates.{LogicState}
use Rattle.pure_terms.specs.declared.variables.Sort.{Sort}
use Rattle.pure_terms.specs.Meaning.{all_true, IsOver}
use Rattle.pure_terms.specs.Pure.{PureAtom, term_of}
use Rattle.sym_model.specs.Alternatives.{Hold}
use Rattle.sym_evaluation.specs.Meaning.{StandsFor, IsStoreOver}
use Rattle.sym_evaluation.specs.Pure.{PureStore, PureGoodCase}
use Rattle.sym_matching.specs.Meaning.{IsReached, Gives as SplitGives, SaysSplit, IsCondition, AreConditions, IsFoundOver, IsSplitOver}
use Rattle.sym_matching.specs.Pure.{PureSplit}
use Rattle.sym_model.specs.Lists.{Each, OneOf}
use Rattle.sym_model.specs.Terms.{StateTerms}
use Rattle.sym_model.proofs.ListLaws.{each_append, each_to, one_left, one_right}
use Rattle.sym_states.specs.Meaning.{Stands, IsOverTable}
use Rattle.sym_states.specs.Pure.{PureState}
use Rattle.sym_states.proofs.Conditions.{met_parts, met_both}
pub use Rattle.footprint.specs.Cases.{AreOverTable}
use Rattle.footprint.specs.Leaves.{IsLonger, Premise, Giving, Stopping, IsLater, IsMatch, IsStop, IsUndecided, IsCovered, AreLeaves}
use Rattle.footprint.specs.Pure.{PureMatch, PureStop, PureUndecided, PureLeaves}
use Rattle.footprint.specs.Spreading.{no_leaves, joined, stops_at, with_conds, found_where, spread, all_stop, Gathers}

-- ---- conditions that grow

pub longer_both : (xs ys zs : List PureAtom) → IsLonger xs ys → IsLonger ys zs → IsLonger xs zs
longer_both xs ys zs (a, is_a) (b, is_b) = (a ++ b, is_b ∙ ap (λ cs. cs ++ b) is_a ∙ append_assoc xs a b)

pub met_before : (v : List PureValue) (xs ys : List PureAtom) → IsLonger xs ys → IsTrue (all_true v ys) → IsTrue (all_true v xs)
met_before v xs ys (more, is) met = (met_parts v xs more (subst (λ cs. IsTrue (all_true v cs)) is met)).0

pub over_of : (vars : List Sort) (conds : List PureAtom) → AreConditions vars conds → AreOverTable vars conds
over_of vars conds are = each_to (IsCondition vars) (λ a. IsOver vars (term_of a)) conds (λ a is. is.0) are

-- ---- leaves one after another

joined_again : {S : Type 0} (p q r : PureLeaves S) → joined (joined p q) r ≡ joined p (joined q r)
joined_again p q r = λ i. record {
  matched = append_assoc p.matched q.matched r.matched i;
  stopped = append_assoc p.stopped q.stopped r.stopped i;
  undecided = append_assoc p.undecided q.undecided r.undecided i;
}

joined_with_none : {S : Type 0} (p : PureLeaves S) → joined p no_leaves ≡ p
joined_with_none p = λ i. record { matched = append-nil p.matched i; stopped = append-nil p.stopped i; undecided = append-nil p.undecided i }

-- the leaves of one element more
pub gathers_more : {A S : Type 0} (P : A → PureLeaves S → Type 0) (xs : List A) (x : A) (leaves more : PureLeaves S) → Gathers P xs leaves → P x more → Gathers P (xs ++ x ∷ []) (joined leaves more)
gathers_more P [] x leaves more is here = (more, (no_leaves, (here, refl, ap (λ p. joined p more) is ∙ sym (joined_with_none more))))
gathers_more P (y ∷ xs) x leaves more (first, (rest, (one, later, is))) here =
    (first, (joined rest more, (one, gathers_more P xs x rest more later here, ap (λ p. joined p more) is ∙ joined_again first rest more)))

module _ {S : Type 0} (stands : S → List PureValue → Heap → Type 0) (terms : S → StateTerms) (kept : S → Type 0) where
  pub same_vars : (s r : PureState S) → IsLater stands terms kept s r → r.vars ≡ s.vars
  same_vars s r later = ap (λ (x : PureState S). x.vars) later.same_else

  pub later_both : (s q r : PureState S) → IsLater stands terms kept s q → IsLater stands terms kept q r → IsLater stands terms kept s r
  later_both s q r first second = record {
    longer = longer_both s.conds q.conds r.conds first.longer second.longer;
    same_else = second.same_else ∙ ap (λ (x : PureState S). record x { conds = r.conds; memory = r.memory; facts = r.facts }) first.same_else;
    over = second.over;
    still_kept = λ k. second.still_kept (first.still_kept k);
  }

  -- ---- parts

  module _ (s : PureState S) (If : Premise) (Gives : Giving) (Stops : Stopping) where
    -- the leaves where this is so
    pub record IsPart (When : Premise) (leaves : PureLeaves S) : Type 0 where
      pub cover : (v : List PureValue) (t : Store) (l : LogicState) → If v t l → When v t l → IsCovered stands terms kept s If v leaves
      pub matched : Each (IsMatch stands terms kept s If Gives) leaves.matched
      pub stopped : Each (IsStop stands terms kept s If Stops) leaves.stopped
      pub undecided : Each (IsUndecided stands terms kept s If) leaves.undecided

    pub part_leaves : (When : Premise) (leaves : PureLeaves S) → IsPart When leaves → ((v : List PureValue) (t : Store) (l : LogicState) → If v t l → When v t l)
        → AreLeaves stands terms kept s If Gives Stops leaves
    part_leaves When leaves part always = record {
      cover = λ v t l is. part.cover v t l is (always v t l is);
      matched = part.matched;
      stopped = part.stopped;
      undecided = part.undecided;
    }

    pub part_none : IsPart (λ v t l. ⊥) no_leaves
    part_none = record { cover = λ v t l is none. absurd none; matched = tt; stopped = tt; undecided = tt }

    pub covered_left : (v : List PureValue) (p q : PureLeaves S) → IsCovered stands terms kept s If v p → IsCovered stands terms kept s If v (joined p q)
    covered_left v p q is =
        ⊎_elim (λ here. inl (one_left (λ m. IsTrue (all_true v m.state.conds)) p.matched q.matched here))
        (λ later. inr (⊎_elim (λ here. inl (one_left (λ c. IsTrue (all_true v c.conds)) p.stopped q.stopped here))
        (λ last. inr (one_left (λ u. IsTrue (all_true v u.conds)) p.undecided q.undecided last)) later)) is

    pub covered_right : (v : List PureValue) (p q : PureLeaves S) → IsCovered stands terms kept s If v q → IsCovered stands terms kept s If v (joined p q)
    covered_right v p q is =
        ⊎_elim (λ here. inl (one_right (λ m. IsTrue (all_true v m.state.conds)) p.matched q.matched here))
        (λ later. inr (⊎_elim (λ here. inl (one_right (λ c. IsTrue (all_true v c.conds)) p.stopped q.stopped here))
        (λ last. inr (one_right (λ u. IsTrue (all_true v u.conds)) p.undecided q.undecided last)) later)) is

    pub part_both : (W U : Premise) (p q : PureLeaves S) → IsPart W p → IsPart U q → IsPart (λ v t l. W v t l ⊎ U v t l) (joined p q)
    part_both W U p q first second = record {
      cover = λ v t l is. ⊎_elim (λ here. covered_left v p q (first.cover v t l is here)) (λ there. covered_right v p q (second.cover v t l is there));
      matched = each_append (IsMatch stands terms kept s If Gives) p.matched q.matched first.matched second.matched;
      stopped = each_append (IsStop stands terms kept s If Stops) p.stopped q.stopped first.stopped second.stopped;
      undecided = each_append (IsUndecided stands terms kept s If) p.undecided q.undecided first.undecided second.undecided;
    }

    pub part_where : (W U : Premise) (leaves : PureLeaves S) → ((v : List PureValue) (t : Store) (l : LogicState) → If v t l → U v t l → W v t l) → IsPart W leaves → IsPart U leaves
    part_where W U leaves to part = record {
      cover = λ v t l is here. part.cover v t l is (to v t l is here);
      matched = part.matched;
      stopped = part.stopped;
      undecided = part.undecided;
    }

    -- the leaves that come of each of several elements, where one of these is met
    pub gathered : {A : Type 0} (P : A → PureLeaves S → Type 0) (Q : A → Type 0) (W : A → Premise) → ((x : A) (leaves : PureLeaves S) → Q x → P x leaves → IsPart (W x) leaves)
        → (xs : List A) (leaves : PureLeaves S) → Each Q xs → Gathers P xs leaves → IsPart (λ v t l. OneOf (λ x. W x v t l) xs) leaves
    gathered P Q W part [] leaves all is = subst (IsPart (λ v t l. ⊥)) (sym is) part_none
    gathered P Q W part (x ∷ xs) leaves all (first, (rest, (here, later, is))) =
        subst (IsPart (λ v t l. W x v t l ⊎ OneOf (λ y. W y v t l) xs)) (sym is)
        (part_both (W x) (λ v t l. OneOf (λ y. W y v t l) xs) first rest (part x first all.0 here) (gathered P Q W part xs rest all.1 later))

  -- ---- a part that says something weaker

  module _ (s : PureState S) (If : Premise) (Gives More : Giving) (Stops Ends : Stopping) where
    pub said_by : (When : Premise) (leaves : PureLeaves S)
        → ((v : List PureValue) (t : Store) (l : LogicState) (u : Store) (k : LogicState) → Gives v t l u k → More v t l u k)
        → ((v : List PureValue) (t : Store) (l : LogicState) (n : ℕ) → Stops v t l n → Ends v t l n)
        → IsPart s If Gives Stops When leaves → IsPart s If More Ends When leaves
    said_by When leaves gives stops part = record {
      cover = part.cover;
      matched = each_to (IsMatch stands terms kept s If Gives) (IsMatch stands terms kept s If More) leaves.matched
          (λ m is. record {
            later = is.later;
            store_over = is.store_over;
            exact = λ v t l holds met. let (u, (k, (given, serves))) = is.exact v t l holds met in (u, (k, (gives v t l u k given, serves)));
          }) part.matched;
      stopped = each_to (IsStop stands terms kept s If Stops) (IsStop stands terms kept s If Ends) leaves.stopped
          (λ c is. record { longer = is.longer; over = is.over; exact = λ v t l holds met. stops v t l c.item (is.exact v t l holds met) }) part.stopped;
      undecided = part.undecided;
    }

  -- ---- going on from a later state

  pub record Onward (If : Premise) (Gives More : Giving) (Stops Ends : Stopping) (v : List PureValue) (t : Store) (l : LogicState) : Type 0 where
    pub next_store : Store
    pub next_state : LogicState
    pub premise : If v next_store next_state
    pub gives : (u : Store) (k : LogicState) → More v next_store next_state u k → Gives v t l u k
    pub stops : (n : ℕ) → Ends v next_store next_state n → Stops v t l n

  module _ (s q : PureState S) (If Then : Premise) (Gives More : Giving) (Stops Ends : Stopping) (later : IsLater stands terms kept s q)
      (on : (v : List PureValue) (t : Store) (l : LogicState) → If v t l → IsTrue (all_true v q.conds) → Onward Then Gives More Stops Ends v t l) where
    same : q.vars ≡ s.vars
    same = same_vars s q later

    match_on : (m : PureMatch S) → IsMatch stands terms kept q Then More m → IsMatch stands terms kept s If Gives m
    match_on m is = record {
      later = later_both s q m.state later is.later;
      store_over = subst (λ vars. IsStoreOver vars m.store) same is.store_over;
      exact = λ v t l holds met.
          let next = on v t l holds (met_before v q.conds m.state.conds is.later.longer met) in
          let (u, (k, (gives, serves))) = is.exact v next.next_store next.next_state next.premise met in
          (u, (k, (next.gives u k gives, serves)));
    }

    stop_on : (c : PureStop) → IsStop stands terms kept q Then Ends c → IsStop stands terms kept s If Stops c
    stop_on c is = record {
      longer = longer_both s.conds q.conds c.conds later.longer is.longer;
      over = subst (λ vars. Each (λ a. IsOver vars (term_of a)) c.conds) same is.over;
      exact = λ v t l holds met.
          let next = on v t l holds (met_before v q.conds c.conds is.longer met) in
          next.stops c.item (is.exact v next.next_store next.next_state next.premise met);
    }

    undecided_on : (u : PureUndecided) → IsUndecided stands terms kept q Then u → IsUndecided stands terms kept s If u
    undecided_on u is = record { longer = longer_both s.conds q.conds u.conds later.longer is.longer; outside = is.outside }

    pub lifted : (leaves : PureLeaves S) → AreLeaves stands terms kept q Then More Ends leaves → IsPart s If Gives Stops (λ v t l. IsTrue (all_true v q.conds)) leaves
    lifted leaves are = record {
      cover = λ v t l holds met. let next = on v t l holds met in are.cover v next.next_store next.next_state next.premise;
      matched = each_to (IsMatch stands terms kept q Then More) (IsMatch stands terms kept s If Gives) leaves.matched match_on are.matched;
      stopped = each_to (IsStop stands terms kept q Then Ends) (IsStop stands terms kept s If Stops) leaves.stopped stop_on are.stopped;
      undecided = each_to (IsUndecided stands terms kept q Then) (IsUndecided stands terms kept s If) leaves.undecided undecided_on are.undecided;
    }

  -- ---- stops

  module _ (n : ℕ) (s : PureState S) (If : Premise) (Stops : Stopping) (over : IsOverTable terms s) where
    pub stops_each : (alts : List (List PureAtom)) → Each (AreOverTable s.vars) alts → ((v : List PureValue) (t : Store) (l : LogicState) → If v t l → Hold v alts → Stops v t l n)
        → Each (IsStop stands terms kept s If Stops) (stops_at n s.conds alts)
    stops_each [] conditions stop = tt
    stops_each (a ∷ alts) conditions stop = (
      record {
        longer = (a, refl);
        over = each_append (λ c. IsOver s.vars (term_of c)) s.conds a over.conds conditions.0;
        exact = λ v t l holds met. stop v t l holds (inl (met_parts v s.conds a met).1);
      },
      stops_each alts conditions.1 (λ v t l holds later. stop v t l holds (inr later)),
    )

    pub stops_cover : (v : List PureValue) (alts : List (List PureAtom)) → IsTrue (all_true v s.conds) → Hold v alts → OneOf (λ c. IsTrue (all_true v c.conds)) (stops_at n s.conds alts)
    stops_cover v [] met hold = absurd hold
    stops_cover v (a ∷ alts) met hold = ⊎_elim (λ here. inl (met_both v s.conds a met here)) (λ later. inr (stops_cover v alts met later)) hold

    -- the item stops in the state itself
    pub all_stop_part : (Gives : Giving) → ((v : List PureValue) (t : Store) (l : LogicState) → If v t l → IsTrue (all_true v s.conds) → Stops v t l n)
        → IsPart s If Gives Stops (λ v t l. IsTrue (all_true v s.conds)) (all_stop n s)
    all_stop_part Gives stop = record {
      cover = λ v t l holds met. inr (inl (inl met));
      matched = tt;
      stopped = (record { longer = ([], sym (append-nil s.conds)); over = over.conds; exact = λ v t l holds met. stop v t l holds met }, tt);
      undecided = tt;
    }

  -- ---- splits

  -- what a split of stores says
  pub record SaysStore (n : ℕ) (s : PureState S) (x : PureSplit PureStore) (Gives : Giving) (Stops : Stopping) (v : List PureValue) (t : Store) (l : LogicState) : Type 0 where
    pub outcome : Option Store
    pub says : SaysSplit v (StandsFor v) x outcome
    pub state : Stands stands s v l
    pub gives : (u : Store) → outcome ≡ Some u → Gives v t l u l
    pub stops : outcome ≡ None → Stops v t l n

  module _ (n : ℕ) (s : PureState S) (If : Premise) (Gives : Giving) (Stops : Stopping) (over : IsOverTable terms s) (x : PureSplit PureStore)
      (names : IsSplitOver (IsStoreOver s.vars) s.vars x)
      (says : (v : List PureValue) (t : Store) (l : LogicState) → If v t l → SaysStore n s x Gives Stops v t l) where
    found_match : (g : PureGoodCase PureStore) → x.found ≡ Some g → IsMatch stands terms kept s If Gives (record { state = with_conds s g.conds; store = g.result })
    found_match g is =
        let named : AreConditions s.vars g.conds × IsStoreOver s.vars g.result = subst (λ (o : Option (PureGoodCase PureStore)). IsFoundOver (IsStoreOver s.vars) s.vars o) is names.found in
        let over_all : IsOverTable terms (with_conds s g.conds) = record {
          conds = each_append (λ c. IsOver s.vars (term_of c)) s.conds g.conds over.conds (each_to (IsCondition s.vars) (λ c. IsOver s.vars (term_of c)) g.conds (λ c one. one.0) named.0);
          given = over.given;
          memory = over.memory;
          facts = over.facts;
        } in
        record {
          later = record { longer = (g.conds, refl); same_else = refl; over = over_all; still_kept = λ k. k };
          store_over = named.1;
          exact = λ v t l holds met.
              let said = says v t l holds in
              let reached : IsReached v x.found = subst (λ (o : Option (PureGoodCase PureStore)). IsReached v o) (sym is) (met_parts v s.conds g.conds met).1 in
              let (u, (found, stands_for)) = subst (λ (o : Option (PureGoodCase PureStore)). SplitGives (StandsFor v) o said.outcome) is (said.says.found reached) in (
                u,
                (
                  l,
                  (
                    said.gives u found,
                    record {
                      over = over_all;
                      store_over = named.1;
                      store = stands_for;
                      state = record { proper = said.state.proper; meets = met; memory = said.state.memory; facts = said.state.facts };
                    },
                  ),
                ),
              );
        }

    found_each : (o : Option (PureGoodCase PureStore)) → x.found ≡ o → Each (IsMatch stands terms kept s If Gives) (found_where s o)
    found_each None is = tt
    found_each (Some g) is = (found_match g is, tt)

    found_cover : (v : List PureValue) (o : Option (PureGoodCase PureStore)) → IsTrue (all_true v s.conds) → IsReached v o → OneOf (λ m. IsTrue (all_true v m.state.conds)) (found_where s o)
    found_cover v None met reached = absurd reached
    found_cover v (Some g) met reached = inl (met_both v s.conds g.conds met reached)

    pub spread_leaves : AreLeaves stands terms kept s If Gives Stops (spread n s x)
    spread_leaves = record {
      cover = λ v t l holds.
          let said = says v t l holds in
          ⊎_elim (λ reached. inl (found_cover v x.found said.state.meets reached)) (λ hold. inr (inl (stops_cover n s If Stops over v x.none said.state.meets hold))) said.says.cover;
      matched = found_each x.found refl;
      stopped = stops_each n s If Stops over x.none (each_to (AreConditions s.vars) (AreOverTable s.vars) x.none (λ conds are. over_of s.vars conds are) names.none) (λ v t l holds hold. let said = says v t l holds in said.stops (said.says.none hold));
      undecided = tt;
    }
