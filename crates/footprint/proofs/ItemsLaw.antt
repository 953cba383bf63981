-- How leaves of items are put together from left to right.
use Rattle.std.proofs.Common.{◌≡◌, ◌⊎◌, ⊎_elim, inl, inr, ℕ, ◌+◌, List, [], ◌∷◌, ◌++◌, length, Option, Some, None, IsTrue, refl, sym, ap, subst, ◌∙◌, arith}
use Rattle.gil_values.specs.Pure.{PureValue}
use Rattle.gil_syntax.specs.declared.assertions.Param.{Param}
use Rattle.gil_syntax.specs.Evaluation.{Store}
use Rattle.gil_syntax.specs.Pure.{PureExpr, PureItem, pure}
use Rattle.mem_model.specs.Heaps.{Heap}
use Rattle.assert_logic.specs.LogicStates.{LogicState}
use Rattle.assert_logic.specs.Matching.{Taken, took_nothing, pure_match, ItemMatch, Matching, matched, stops, Cases, match_item, go_on, taken_before, match_from}
use Rattle.pure_terms.specs.Meaning.{all_true, AreOver}
use Rattle.sym_paths.proofs.AskedFragments.{each_over_all}
use Rattle.sym_model.specs.Lists.{Each, OneOf}
use Rattle.sym_model.specs.Terms.{StateTerms}
use Rattle.sym_model.proofs.ListLaws.{each_append, each_to}
use Rattle.sym_states.specs.Meaning.{Serves, IsOverTable}
use Rattle.sym_states.specs.Pure.{PureState}
use Rattle.sym_evaluation.specs.Meaning.{IsStoreOver}
use Rattle.sym_evaluation.specs.Pure.{PureStore}
use Rattle.footprint.specs.Assertions.{ItemsGive, ItemsStop, MatchesItem, PrunesMatch, Prunes, NextMatched, IsMatchable}
use Rattle.footprint.specs.Cases.{StopsIn}
use Rattle.footprint.specs.Items.{ItemGives, ItemStops, PureGives, PureStops}
use Rattle.footprint.specs.Leaves.{Premise, Giving, Stopping, IsMatch, IsStop, AreLeaves}
use Rattle.footprint.specs.Pure.{PureMatch, PureStop, PureLeaves}
use Rattle.footprint.specs.Spreading.{joined, Gathers}
use Rattle.footprint.proofs.Parts.{IsPart, part_leaves, part_both, gathered, lifted, same_vars}
use Rattle.footprint.proofs.AssertionLaws.{later_itself, said_otherwise}

-- ---- on values

-- an item more, after those that are matched
abbrev with_match : List Taken → Option ItemMatch → ℕ → Matching
with_match taken (Some i) n = matched (record { store = i.store; state = i.state; taken = taken ++ i.taken ∷ [] })
with_match taken None n = stops n

module _ (cases : Cases) (scope : List Param) (item : PureItem) where
  abbrev then_item : Matching → ℕ → Matching
  then_item (matched m) n = with_match m.taken (match_item cases scope item m.store m.state) n
  then_item (stops k) n = stops k

  before_item : (taken : Taken) (m : Matching) (k n : ℕ) → k ≡ n → taken_before taken (then_item m k) ≡ then_item (taken_before taken m) n
  before_item taken (matched m) k n same = by (match_item cases scope item m.store m.state)
    where
      by : (o : Option ItemMatch) → taken_before taken (with_match m.taken o k) ≡ with_match (taken ∷ m.taken) o n
      by (Some i) = refl
      by None = ap stops same
  before_item taken (stops j) k n same = refl

  from_more : (n k : ℕ) (items : List PureItem) (t : Store) (l : LogicState) → k ≡ n + length items → match_from cases scope n (items ++ item ∷ []) t l ≡ then_item (match_from cases scope n items t l) k
  from_more n k [] t l size = by (match_item cases scope item t l)
    where
      by : (o : Option ItemMatch) → go_on o n (match_from cases scope (n + 1) []) ≡ with_match [] o k
      by (Some m) = refl
      by None = ap stops (omega (arith, size))
  from_more n k (first ∷ items) t l size = by (λ s r. from_more (n + 1) k items s r (omega (arith, size))) (match_item cases scope first t l)
    where
      by : ((s : Store) (r : LogicState) → match_from cases scope (n + 1) (items ++ item ∷ []) s r ≡ then_item (match_from cases scope (n + 1) items s r) k) → (o : Option ItemMatch)
          → go_on o n (match_from cases scope (n + 1) (items ++ item ∷ [])) ≡ then_item (go_on o n (match_from cases scope (n + 1) items)) k
      by later (Some m) = ap (taken_before m.taken) (later m.store m.state) ∙ before_item m.taken (match_from cases scope (n + 1) items m.store m.state) k k refl
      by later None = refl

-- ---- asking of matches

module _ {S : Type 0} (stands : S → List PureValue → Heap → Type 0) (terms : S → StateTerms) (kept : S → Type 0) (s : PureState S) (If : Premise) (Gives : Giving) (Stops : Stopping) where
  asked_part : (m : PureMatch S) (leaves : PureLeaves S) → IsMatch stands terms kept s If Gives m → PrunesMatch stands terms kept m leaves
      → IsPart stands terms kept s If Gives Stops (λ v t l. IsTrue (all_true v m.state.conds)) leaves
  asked_part m leaves is (inl stays) = subst (IsPart stands terms kept s If Gives Stops (λ v t l. IsTrue (all_true v m.state.conds))) (sym stays) (record {
    cover = λ v t l holds met. inl (inl met);
    matched = (is, tt);
    stopped = tt;
    undecided = tt;
  })
  asked_part m leaves is (inr (inl (none, never))) = subst (IsPart stands terms kept s If Gives Stops (λ v t l. IsTrue (all_true v m.state.conds))) (sym none) (record {
    cover = λ v t l holds met.
        let (t', (l', (gives, serves))) = is.exact v t l holds met in
        absurd (never v (record { proper = serves.state.proper; true_there = met }));
    matched = tt;
    stopped = tt;
    undecided = tt;
  })
  asked_part m leaves is (inr (inr (reason, (here, out)))) = subst (IsPart stands terms kept s If Gives Stops (λ v t l. IsTrue (all_true v m.state.conds))) (sym here) (record {
    cover = λ v t l holds met. inr (inr (inl met));
    matched = tt;
    stopped = tt;
    undecided = (record { longer = is.later.longer; outside = out }, tt);
  })

  pub pruned_part : (When : Premise) (before after : PureLeaves S) → IsPart stands terms kept s If Gives Stops When before → Prunes stands terms kept before after → IsPart stands terms kept s If Gives Stops When after
  pruned_part When before after part (pruned, (gathers, is)) =
      let Rest : Premise = λ v t l. OneOf (λ c. IsTrue (all_true v c.conds)) before.stopped ⊎ OneOf (λ u. IsTrue (all_true v u.conds)) before.undecided in
      let Found : Premise = λ v t l. OneOf (λ m. IsTrue (all_true v m.state.conds)) before.matched in
      let rest_is : PureLeaves S = record { matched = []; stopped = before.stopped; undecided = before.undecided } in
      let there : IsPart stands terms kept s If Gives Stops Found pruned =
      gathered stands terms kept s If Gives Stops (PrunesMatch stands terms kept) (IsMatch stands terms kept s If Gives) (λ m v t l. IsTrue (all_true v m.state.conds)) asked_part before.matched pruned part.matched gathers in
      let rest : IsPart stands terms kept s If Gives Stops Rest rest_is = record { cover = λ v t l holds one. inr one; matched = tt; stopped = part.stopped; undecided = part.undecided } in
      let both_parts : IsPart stands terms kept s If Gives Stops (λ v t l. Rest v t l ⊎ Found v t l) (joined rest_is pruned) = part_both stands terms kept s If Gives Stops Rest Found rest_is pruned rest there in
      subst (IsPart stands terms kept s If Gives Stops When) (sym is) (record {
        cover = λ v t l holds here. both_parts.cover v t l holds (⊎_elim (λ found. inr found) (λ other. inl other) (part.cover v t l holds here));
        matched = both_parts.matched;
        stopped = both_parts.stopped;
        undecided = both_parts.undecided;
      })

-- ---- on terms

module _ {S : Type 0} (stands : S → List PureValue → Heap → Type 0) (terms : S → StateTerms) (kept : S → Type 0) (cases : Cases) (scope : List Param) (s : PureState S) (If : Premise)
    (Plain : ℕ → S → Type 0) (items : List PureItem) (item : PureItem) (n : ℕ) (size : n ≡ length items) where
  abbrev Gives : Giving
  Gives = ItemsGive cases scope items

  abbrev More : Giving
  More = ItemsGive cases scope (items ++ item ∷ [])

  abbrev Stops : Stopping
  Stops = ItemsStop cases scope items

  abbrev Ends : Stopping
  Ends = ItemsStop cases scope (items ++ item ∷ [])

  more_is : (t : Store) (l : LogicState) → match_from cases scope 0 (items ++ item ∷ []) t l ≡ then_item cases scope item (match_from cases scope 0 items t l) n
  more_is t l = from_more cases scope item 0 n items t l (omega (arith, size))

  stop_stays : (c : PureStop) → IsStop stands terms kept s If Stops c → IsStop stands terms kept s If Ends c
  stop_stays c is = record {
    longer = is.longer;
    over = is.over;
    exact = λ v t l holds met. more_is t l ∙ ap (λ m. then_item cases scope item m n) (is.exact v t l holds met);
  }

  abbrev rest_of : PureLeaves S → PureLeaves S
  rest_of before = record { matched = []; stopped = before.stopped; undecided = before.undecided }

  item_part : (m : PureMatch S) (leaves : PureLeaves S) → IsMatch stands terms kept s If Gives m → MatchesItem stands terms kept Plain n cases scope item m leaves
      → IsPart stands terms kept s If More Ends (λ v t l. IsTrue (all_true v m.state.conds)) leaves
  item_part m leaves is matches =
      lifted stands terms kept s m.state If (Serves stands terms m.state m.store) More (ItemGives cases scope item) Ends (ItemStops n cases scope item) is.later
      (λ v t l holds met.
      let (t', (l', ((taken, found), serves))) = is.exact v t l holds met in
      record {
        next_store = t';
        next_state = l';
        premise = serves;
        gives = λ u k (last, here). (taken ++ last ∷ [], more_is t l ∙ ap (λ x. then_item cases scope item x n) found ∙ ap (λ o. with_match taken o n) here);
        stops = λ k (number, here). more_is t l ∙ ap (λ x. then_item cases scope item x n) found ∙ ap (λ o. with_match taken o n) here ∙ ap stops (sym number);
      }) leaves matches.0

  pub next_leaves : (before after : PureLeaves S) → AreLeaves stands terms kept s If Gives Stops before → NextMatched stands terms kept Plain n cases scope item before after
      → AreLeaves stands terms kept s If More Ends after
  next_leaves before after are (next, (pruned, (gathers, prunes, is))) =
      let unpruned : IsPart stands terms kept s If More Ends (λ v t l. OneOf (λ m. IsTrue (all_true v m.state.conds)) before.matched) next =
      gathered stands terms kept s If More Ends (MatchesItem stands terms kept Plain n cases scope item) (IsMatch stands terms kept s If Gives) (λ m v t l. IsTrue (all_true v m.state.conds)) item_part before.matched next are.matched gathers in
      let there : IsPart stands terms kept s If More Ends (λ v t l. OneOf (λ m. IsTrue (all_true v m.state.conds)) before.matched) pruned =
      pruned_part stands terms kept s If More Ends (λ v t l. OneOf (λ m. IsTrue (all_true v m.state.conds)) before.matched) next pruned unpruned prunes in
      let rest : IsPart stands terms kept s If More Ends (λ v t l. OneOf (λ c. IsTrue (all_true v c.conds)) before.stopped ⊎ OneOf (λ u. IsTrue (all_true v u.conds)) before.undecided) (rest_of before) = record {
        cover = λ v t l holds one. inr one;
        matched = tt;
        stopped = each_to (IsStop stands terms kept s If Stops) (IsStop stands terms kept s If Ends) before.stopped stop_stays are.stopped;
        undecided = are.undecided;
      } in
      subst (AreLeaves stands terms kept s If More Ends) (sym is)
      (part_leaves stands terms kept s If More Ends
      (λ v t l. (OneOf (λ c. IsTrue (all_true v c.conds)) before.stopped ⊎ OneOf (λ u. IsTrue (all_true v u.conds)) before.undecided) ⊎ OneOf (λ m. IsTrue (all_true v m.state.conds)) before.matched)
      (joined (rest_of before) pruned)
      (part_both stands terms kept s If More Ends (λ v t l. OneOf (λ c. IsTrue (all_true v c.conds)) before.stopped ⊎ OneOf (λ u. IsTrue (all_true v u.conds)) before.undecided)
      (λ v t l. OneOf (λ m. IsTrue (all_true v m.state.conds)) before.matched) (rest_of before) pruned rest there)
      (λ v t l holds. ⊎_elim (λ found. inr found) (λ other. inl other) (are.cover v t l holds)))

-- nothing is matched yet
pub start_leaves : {S : Type 0} (stands : S → List PureValue → Heap → Type 0) (terms : S → StateTerms) (kept : S → Type 0) (cases : Cases) (scope : List Param) (s : PureState S) (bs : PureStore)
    → IsOverTable terms s → IsStoreOver s.vars bs
    → AreLeaves stands terms kept s (Serves stands terms s bs) (ItemsGive cases scope []) (ItemsStop cases scope []) (record { matched = record { state = s; store = bs } ∷ []; stopped = []; undecided = [] })
start_leaves stands terms kept cases scope s bs over store_over = record {
  cover = λ v t l serves. inl (inl serves.state.meets);
  matched = (
    record {
      later = later_itself stands terms kept s over;
      store_over = store_over;
      exact = λ v t l serves met. (t, (l, (([], refl), serves)));
    },
    tt,
  );
  stopped = tt;
  undecided = tt;
}

-- ---- what matches and conditions name

module _ {S : Type 0} (stands : S → List PureValue → Heap → Type 0) (terms : S → StateTerms) (kept : S → Type 0) where
  pub matchable_each : (s : PureState S) (If : Premise) (Gives : Giving) (Stops : Stopping) (leaves : PureLeaves S) → AreLeaves stands terms kept s If Gives Stops leaves → Each (IsMatchable terms) leaves.matched
  matchable_each s If Gives Stops leaves are = each_to (IsMatch stands terms kept s If Gives) (IsMatchable terms) leaves.matched
      (λ m is. record { over = is.later.over; store_over = subst (λ vars. IsStoreOver vars m.store) (sym (same_vars stands terms kept s m.state is.later)) is.store_over }) are.matched

  pub conds_over_each : (s : PureState S) (If : Premise) (Gives : Giving) (Stops : Stopping) (leaves : PureLeaves S) → AreLeaves stands terms kept s If Gives Stops leaves
      → Each (λ m. AreOver m.state.vars m.state.conds) leaves.matched
  conds_over_each s If Gives Stops leaves are = each_to (IsMatch stands terms kept s If Gives) (λ m. AreOver m.state.vars m.state.conds) leaves.matched (λ m is. each_over_all m.state.vars m.state.conds is.later.over.conds) are.matched

  pub stops_in_each : (s : PureState S) (If : Premise) (Gives : Giving) (Stops : Stopping) (leaves : PureLeaves S) → AreLeaves stands terms kept s If Gives Stops leaves → Each (StopsIn s.vars) leaves.stopped
  stops_in_each s If Gives Stops leaves are = each_to (IsStop stands terms kept s If Stops) (StopsIn s.vars) leaves.stopped (λ c is. is.over) are.stopped

  pub items_over : (Plain : ℕ → S → Type 0) (n : ℕ) (cases : Cases) (scope : List Param) (item : PureItem) (ms : List (PureMatch S)) (leaves : PureLeaves S) → Gathers (MatchesItem stands terms kept Plain n cases scope item) ms leaves
      → Each (λ m. AreOver m.state.vars m.state.conds) leaves.matched
  items_over Plain n cases scope item [] leaves is = subst (λ (x : PureLeaves S). Each (λ m. AreOver m.state.vars m.state.conds) x.matched) (sym is) tt
  items_over Plain n cases scope item (m ∷ ms) leaves (first, (rest, (here, later, is))) =
      subst (λ (x : PureLeaves S). Each (λ m. AreOver m.state.vars m.state.conds) x.matched) (sym is)
      (each_append (λ (x : PureMatch S). AreOver x.state.vars x.state.conds) first.matched rest.matched
      (conds_over_each m.state (Serves stands terms m.state m.store) (ItemGives cases scope item) (ItemStops n cases scope item) first here.0) (items_over Plain n cases scope item ms rest later))

  -- a pure item
  pub guard_item : (n : ℕ) (cases : Cases) (scope : List Param) (e : PureExpr) (s : PureState S) (bs : PureStore) (leaves : PureLeaves S) → IsOverTable terms s
      → AreLeaves stands terms kept s (Serves stands terms s bs) (PureGives scope e) (PureStops n scope e) leaves
      → AreLeaves stands terms kept s (Serves stands terms s bs) (ItemGives cases scope (pure e)) (ItemStops n cases scope (pure e)) leaves
  guard_item n cases scope e s bs leaves over are =
      said_otherwise stands terms kept s (Serves stands terms s bs) (Serves stands terms s bs) (ItemGives cases scope (pure e)) (PureGives scope e) (ItemStops n cases scope (pure e)) (PureStops n scope e) leaves over
      (λ v t l serves. serves.state.meets) (λ v t l serves. serves)
      (λ v t l u k serves (found, same). (took_nothing, ap (pure_match l) found ∙ ap (λ (y : LogicState). Some (record { store = u; state = y; taken = took_nothing })) (sym same)))
      (λ v t l k serves (number, none). (number, ap (pure_match l) none))
      are
