-- What assuming a pure item gives.
use Rattle.std.proofs.Common.{◌≡◌, inl, inr, ℕ, ◌+◌, ◌≤◌, pos, neg_ℤ, arith, List, [], ◌∷◌, ◌++◌, Bool, true, false, Option, Some, None, Ok, IsTrue, refl, sym, ap, subst, ◌∙◌, append_assoc, true≢false}
use Rattle.gil_values.specs.Pure.{PureValue, integer, boolean, text, symbol, kind, procedure, list}
use Rattle.gil_syntax.specs.Evaluation.{Store, evaluate}
use Rattle.gil_syntax.specs.Pure.{PureExpr, pure}
use Rattle.mem_model.specs.declared.keys.MemoryName.{MemoryName}
use Rattle.mem_model.specs.Heaps.{Heap}
use Rattle.assert_logic.specs.Adding.{where_true, with_item}
use Rattle.assert_logic.specs.LogicStates.{LogicState}
use Rattle.pure_terms.specs.Meaning.{value, all_true, IsOver}
use Rattle.pure_terms.specs.Pure.{PureTerm, PureAtom, term_of}
use Rattle.sym_evaluation.specs.Meaning.{HasValue, AreCasesOf, AreSidesOf, IsSideWhere, is_true, Serves as StoreServes, IsStoreOver}
use Rattle.sym_evaluation.specs.Plainly.{IsPlainGuard, AreDecided, text_bound}
use Rattle.sym_evaluation.specs.Pure.{PureStore, PureGoodCase, PureCases, PureSides}
use Rattle.sym_evaluation.specs.Questions.{IsAsked, IsTermOf, ComesFrom, NameNoOthers, OnConditions, OnResult, OnSide, IsGuardCondition, SidesComeFrom}
use Rattle.sym_paths.proofs.Naming.{guard_over}
use Rattle.sym_model.specs.Laws.{IsDecidedWithin}
use Rattle.sym_model.specs.Lists.{Each}
use Rattle.sym_model.specs.Terms.{StateTerms}
use Rattle.sym_model.proofs.ListLaws.{each_append, each_to}
use Rattle.sym_states.specs.Meaning.{Stands, Serves, IsOverTable}
use Rattle.sym_states.specs.Plainly.{IsPlainWith, StaysPlain, item_growth}
use Rattle.sym_states.specs.Producing.{IsOwnTo, IsNext, AddsToEach, no_states, assumed_where}
use Rattle.sym_states.specs.Pure.{PureState}
use Rattle.sym_states.proofs.Additions.{true_parts}
use Rattle.sym_states.proofs.Conditions.{met_parts, met_both}
use Rattle.sym_states.proofs.Plainness.{AsksPlainly, decided_up, with_conds}
use Rattle.sym_states.proofs.Values.{only, good_if_ok, ok_if_good, no_value}

-- the only true value
pub true_value : (a : PureValue) → is_true a ≡ true → a ≡ boolean true
true_value (boolean b) is = ap boolean is
true_value (integer n) is = absurd (true≢false (sym is))
true_value (text cs) is = absurd (true≢false (sym is))
true_value (symbol n) is = absurd (true≢false (sym is))
true_value (kind k) is = absurd (true≢false (sym is))
true_value (procedure f) is = absurd (true≢false (sym is))
true_value (list ws) is = absurd (true≢false (sym is))

side_taken : (v : List PureValue) (b : Bool) (side : List PureAtom) → IsSideWhere v b (Some side) → IsTrue (all_true v side) → b ≡ true
side_taken v true side is met = refl
side_taken v false side is met = let closed : all_true v side ≡ false = is in absurd (true≢false (sym met ∙ closed))

abbrev Decided : ℕ → PureAtom → Type 0
Decided b = IsDecidedWithin (neg_ℤ (pos b)) (pos b)

pub grows : (b : ℕ) → b ≤ b + item_growth
grows b = omega arith

reaches : (b c : ℕ) → c + text_bound ≤ b → c + text_bound ≤ b + item_growth
reaches b c below = omega (arith, below)

-- a store serves for the table of the state
pub store_serves : {S : Type 0} (stands : S → List PureValue → Heap → Type 0) (terms : S → StateTerms) (s : PureState S) (bs : PureStore) (v : List PureValue) (t : Store) (l : LogicState)
    → Serves stands terms s bs v t l → StoreServes s.vars v bs t
store_serves stands terms s bs v t l serves = record { proper = serves.state.proper; over = serves.store_over; stands = serves.store }

module _ {S : Type 0} (memory : MemoryName) (stands : S → List PureValue → Heap → Type 0) (terms : S → StateTerms) (kept : S → Type 0) (keeps narrows : Type 0) (bs : PureStore) (e : PureExpr) (cases : PureCases PureTerm)
    (says : AreCasesOf bs e cases) (from : ComesFrom bs e cases) (names : NameNoOthers IsOver bs cases) (plainly : AsksPlainly bs e cases) (s : PureState S) where
  -- the expression has surely no value
  pub never_good : cases.good ≡ None → AddsToEach memory stands terms kept keeps narrows bs (pure e) (s ∷ []) no_states
  never_good none = record {
    cover = λ v t l m here is heap.
        let serves : Serves stands terms s bs v t l = only (λ q. Serves stands terms q bs v t l) s here in
        absurd (no_value v (HasValue v) (evaluate e t) cases (boolean true) none (true_parts l m (evaluate e t) is).0 (says s.vars v t (store_serves stands terms s bs v t l serves)));
    whole = tt;
    stopped = tt;
  }

  module _ (g : PureGoodCase PureTerm) (is_g : cases.good ≡ Some g) (sides : PureSides) (are : AreSidesOf g.result sides) (come : SidesComeFrom g.result sides) (decides : AreDecided g.result sides) where
    is_term : IsTermOf bs e g.result
    is_term = subst (λ (o : Option (PureGoodCase PureTerm)). OnResult (IsTermOf bs e) o) is_g from.1

    asked : Each (IsAsked bs e) g.conds
    asked = subst (λ (o : Option (PureGoodCase PureTerm)). OnConditions (IsAsked bs e) o) is_g from.0.1

    term_over : IsStoreOver s.vars bs → IsOver s.vars g.result
    term_over over = subst (λ (o : Option (PureGoodCase PureTerm)). OnResult (IsOver s.vars) o) is_g (names s.vars over).1

    conds_over : IsStoreOver s.vars bs → Each (λ c. IsOver s.vars (term_of c)) g.conds
    conds_over over = subst (λ (o : Option (PureGoodCase PureTerm)). OnConditions (λ c. IsOver s.vars (term_of c)) o) is_g (names s.vars over).0.1

    side_of : (v : List PureValue) (t : Store) (l : LogicState) (w : PureValue) → Serves stands terms s bs v t l → value v g.result ≡ Some w → IsSideWhere v (is_true w) sides.when_true
    side_of v t l w serves has = (are s.vars v w serves.state.proper (term_over serves.store_over) has).0

    good_there : (v : List PureValue) (t : Store) (l : LogicState) → Serves stands terms s bs v t l → evaluate e t ≡ Ok (boolean true) → IsTrue (all_true v g.conds) × HasValue v g.result (boolean true)
    good_there v t l serves ok = good_if_ok v (HasValue v) (evaluate e t) cases g (boolean true) is_g ok (says s.vars v t (store_serves stands terms s bs v t l serves))

    -- the guard is surely not true
    pub never_true : sides.when_true ≡ None → AddsToEach memory stands terms kept keeps narrows bs (pure e) (s ∷ []) no_states
    never_true none = record {
      cover = λ v t l m here is heap.
          let serves : Serves stands terms s bs v t l = only (λ q. Serves stands terms q bs v t l) s here in
          let good = good_there v t l serves (true_parts l m (evaluate e t) is).0 in
          let side : IsSideWhere v true sides.when_true = side_of v t l (boolean true) serves good.1 in
          absurd (subst (λ (o : Option (List PureAtom)). IsSideWhere v true o) none side);
      whole = tt;
      stopped = tt;
    }

    module _ (side : List PureAtom) (is_side : sides.when_true ≡ Some side) where
      abbrev assumed : PureState S
      assumed = record s { conds = (s.conds ++ g.conds) ++ side }

      on_side : Each (IsGuardCondition g.result) side
      on_side = subst (λ (o : Option (List PureAtom)). OnSide (IsGuardCondition g.result) o) is_side come.0

      is_next : IsNext terms bs (pure e) s assumed
      is_next = record {
        more = g.conds ++ side;
        conds = append_assoc s.conds g.conds side;
        own = each_append (IsOwnTo bs (pure e) (terms s.memory)) g.conds side
            (each_to (IsAsked bs e) (IsOwnTo bs (pure e) (terms s.memory)) g.conds (λ a is. inl is) asked)
            (each_to (IsGuardCondition g.result) (IsOwnTo bs (pure e) (terms s.memory)) side (λ a is. inr (g.result, (is_term, is))) on_side);
        added = (refl, refl);
        same_else = refl;
      }

      is_over : IsOverTable terms s → IsStoreOver s.vars bs → IsOverTable terms assumed
      is_over over store = record {
        conds = each_append (λ c. IsOver s.vars (term_of c)) (s.conds ++ g.conds) side
            (each_append (λ c. IsOver s.vars (term_of c)) s.conds g.conds over.conds (conds_over store))
            (each_to (IsGuardCondition g.result) (λ c. IsOver s.vars (term_of c)) side (λ a is. guard_over s.vars g.result a (term_over store) is) on_side);
        given = over.given;
        memory = over.memory;
        facts = over.facts;
      }

      still_stands : (v : List PureValue) (l : LogicState) → Stands stands s v l → IsTrue (all_true v assumed.conds) → Stands stands assumed v l
      still_stands v l is met = record { proper = is.proper; meets = met; memory = is.memory; facts = is.facts }

      is_exact : (v : List PureValue) (t : Store) (l : LogicState) → Serves stands terms s bs v t l → IsTrue (all_true v assumed.conds) → (m : LogicState) × ((with_item t (pure e) l ≡ Some m) × Stands stands assumed v m)
      is_exact v t l serves met =
          let first = met_parts v (s.conds ++ g.conds) side met in
          let second = met_parts v s.conds g.conds first.0 in
          let (w, (is, has)) = ok_if_good v (HasValue v) (evaluate e t) cases g is_g (says s.vars v t (store_serves stands terms s bs v t l serves)) second.1 in
          let there : IsSideWhere v (is_true w) (Some side) = subst (λ (o : Option (List PureAtom)). IsSideWhere v (is_true w) o) is_side (side_of v t l w serves has) in
          let is_boolean : w ≡ boolean true = true_value w (side_taken v (is_true w) side there first.1) in
          (l, (ap (λ o. where_true o l) (is ∙ ap Ok is_boolean), still_stands v l serves.state met))

      still_plain : StaysPlain memory terms bs (pure e) s assumed
      still_plain b c item over below is =
          let nothing : Each (λ a. ⊥) g.conds = subst (λ (o : Option (PureGoodCase PureTerm)). OnConditions (λ a. ⊥) o) is_g (plainly c s.vars over item).0.1 in
          let guard : IsPlainGuard (c + text_bound) g.result = subst (λ (o : Option (PureGoodCase PureTerm)). OnResult (IsPlainGuard (c + text_bound)) o) is_g (plainly c s.vars over item).1 in
          let decided : Each (Decided (c + text_bound)) side = subst (λ (o : Option (List PureAtom)). OnSide (Decided (c + text_bound)) o) is_side (decides.conditions (c + text_bound) guard).0 in
          let wide : ℕ = b + item_growth in
          subst (IsPlainWith memory terms wide) (λ i. record s { conds = sym (append_assoc s.conds g.conds side) i })
          (with_conds memory terms b wide (grows b) s (g.conds ++ side) is
          (each_append (Decided wide) g.conds side (each_to (λ a. ⊥) (Decided wide) g.conds (λ a none. absurd none) nothing)
          (each_to (Decided (c + text_bound)) (Decided wide) side (decided_up (c + text_bound) wide (reaches b c below)) decided)))

      -- the state where the guard is true
      pub assumes : AddsToEach memory stands terms kept keeps narrows bs (pure e) (s ∷ []) (record { whole = assumed ∷ []; stopped = [] })
      assumes = record {
        cover = λ v t l m here is heap.
            let serves : Serves stands terms s bs v t l = only (λ q. Serves stands terms q bs v t l) s here in
            let parts = true_parts l m (evaluate e t) is in
            let good = good_there v t l serves parts.0 in
            let there : IsTrue (all_true v side) = subst (λ (o : Option (List PureAtom)). IsSideWhere v true o) is_side (side_of v t l (boolean true) serves good.1) in
            let met = met_both v (s.conds ++ g.conds) side (met_both v s.conds g.conds serves.state.meets good.0) there in
            inl (inl (subst (λ (x : LogicState). Stands stands assumed v x) parts.1 (still_stands v l serves.state met)));
        whole = (inl (record { next = is_next; over = is_over; still_kept = λ k. k; still_plain = λ k. still_plain; still_narrow = λ k b item is. absurd item; exact = λ v t l serves met none. is_exact v t l serves met }), tt);
        stopped = tt;
      }

    -- whether there is such a state or not
    pub assumes_where : (o : Option (List PureAtom)) → sides.when_true ≡ o → AddsToEach memory stands terms kept keeps narrows bs (pure e) (s ∷ []) (assumed_where s g o)
    assumes_where None is = never_true is
    assumes_where (Some side) is = assumes side is
