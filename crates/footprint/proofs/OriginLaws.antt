-- Where leaves come from: leaves one after another, and those of a split, of an item and of the outs of a use.
use Rattle.std.proofs.Common.{◌≡◌, ℕ, List, [], ◌∷◌, ◌++◌, Option, Some, None, refl, sym, ap, subst, ◌∙◌, append_assoc}
use Rattle.std.proofs.lemmas.List.{append-nil}
use Rattle.gil_syntax.specs.declared.assertions.Param.{Param}
use Rattle.gil_syntax.specs.Pure.{PureExpr, PurePredUse, PureItem, pure}
use Rattle.pure_terms.specs.Pure.{PureTerm, PureAtom}
use Rattle.sym_evaluation.specs.Pure.{PureStore, PureGoodCase}
use Rattle.sym_model.specs.Lists.{Each, OneOf, IsAmong}
use Rattle.sym_model.specs.Terms.{StateTerms}
use Rattle.sym_model.proofs.ListLaws.{each_append, each_to, each_map, one_to}
use Rattle.sym_states.specs.Pure.{PureState}
use Rattle.sym_matching.specs.Origins.{AddsOnlyTo, IsGivenAmong, AsksValues, AsksPure, IsDefinedBy, FoundComesFrom, SplitComesFrom, PureComesFrom}
use Rattle.sym_matching.specs.Pure.{PureSplit}
use Rattle.footprint.specs.Coming.{HasFactsOf, MayStand, GuardComesFrom}
use Rattle.footprint.specs.Items.{SpreadsValues}
use Rattle.footprint.specs.Leaves.{IsLonger}
use Rattle.footprint.specs.Origins.{stands as in_store, gives as given_outs, Origin, MayReach, defines, goes_on, AsksItem, IsOwnToMatching, AddsOwn, MatchComesFrom, LeavesAdd, LeavesComeFrom, Ends, EndComesFrom}
use Rattle.footprint.specs.Pure.{PureMatch, PureStop, PureUndecided, PureLeaves}
use Rattle.footprint.specs.Spreading.{no_leaves, joined, stops_at, found_where, spread, all_stop, Gathers}

-- one of the elements has the property
pub one_among : {A : Type 0} (P : A → Type 0) (xs : List A) (x : A) → IsAmong x xs → P x → OneOf P xs
one_among P xs x among holds = one_to (λ y. y ≡ x) P xs (λ y same. subst P (sym same) holds) among

module _ (o : Origin) where
  -- ---- conditions

  pub adds_none : (conds : List PureAtom) → AddsOwn o conds conds
  adds_none conds = ([], (sym (append-nil conds), tt))

  pub adds_these : (conds more : List PureAtom) → Each (IsOwnToMatching o) more → AddsOwn o conds (conds ++ more)
  adds_these conds more own = (more, (refl, own))

  pub adds_both : (xs ys zs : List PureAtom) → AddsOwn o xs ys → AddsOwn o ys zs → AddsOwn o xs zs
  adds_both xs ys zs (a, (is_a, own_a)) (b, (is_b, own_b)) =
      (a ++ b, (is_b ∙ ap (λ cs. cs ++ b) is_a ∙ append_assoc xs a b, each_append (IsOwnToMatching o) a b own_a own_b))

  -- what has own conditions more is longer
  pub adds_longer : (conds longer : List PureAtom) → AddsOwn o conds longer → IsLonger conds longer
  adds_longer conds longer (more, (is, own)) = (more, is)

  -- what an item may ask where it is matched
  pub asks_there : (scope : List Param) (items : List PureItem) (bs : PureStore) (held : StateTerms) (item : PureItem) (a : PureAtom)
      → MayReach o (record { scope = scope; items = items; stage = in_store bs; held = held }) → IsAmong item items → AsksItem o scope bs held a item → IsOwnToMatching o a
  asks_there scope items bs held item a reached among asks =
      (record { scope = scope; items = items; stage = in_store bs; held = held }, (reached, one_among (AsksItem o scope bs held a) items item among asks))

  -- ---- leaves

  module _ {S : Type 0} where
    pub none_add : (conds : List PureAtom) (Q : PureMatch S → Type 0) → LeavesAdd o conds Q no_leaves
    none_add conds Q = record { matched = tt; stopped = tt; undecided = tt }

    pub both_add : (conds : List PureAtom) (Q : PureMatch S → Type 0) (p q : PureLeaves S) → LeavesAdd o conds Q p → LeavesAdd o conds Q q → LeavesAdd o conds Q (joined p q)
    both_add conds Q p q first second = record {
      matched = each_append Q p.matched q.matched first.matched second.matched;
      stopped = each_append (λ (c : PureStop). AddsOwn o conds c.conds) p.stopped q.stopped first.stopped second.stopped;
      undecided = each_append (λ (u : PureUndecided). AddsOwn o conds u.conds) p.undecided q.undecided first.undecided second.undecided;
    }

    pub gathered_add : {A : Type 0} (conds : List PureAtom) (Q : PureMatch S → Type 0) (P : A → PureLeaves S → Type 0) (W : A → Type 0)
        → ((x : A) (leaves : PureLeaves S) → W x → P x leaves → LeavesAdd o conds Q leaves) → (xs : List A) (leaves : PureLeaves S) → Each W xs → Gathers P xs leaves → LeavesAdd o conds Q leaves
    gathered_add conds Q P W part [] leaves all is = subst (LeavesAdd o conds Q) (sym is) (none_add conds Q)
    gathered_add conds Q P W part (x ∷ xs) leaves all (first, (rest, (here, later, is))) =
        subst (LeavesAdd o conds Q) (sym is) (both_add conds Q first rest (part x first all.0 here) (gathered_add conds Q P W part xs rest all.1 later))

    -- from a state with fewer conditions
    pub leaves_from : (xs ys : List PureAtom) (Q R : PureMatch S → Type 0) → AddsOwn o xs ys → ((m : PureMatch S) → Q m → R m) → (leaves : PureLeaves S) → LeavesAdd o ys Q leaves → LeavesAdd o xs R leaves
    leaves_from xs ys Q R adds to leaves are = record {
      matched = each_to Q R leaves.matched to are.matched;
      stopped = each_to (λ (c : PureStop). AddsOwn o ys c.conds) (λ c. AddsOwn o xs c.conds) leaves.stopped (λ c more. adds_both xs ys c.conds adds more) are.stopped;
      undecided = each_to (λ (u : PureUndecided). AddsOwn o ys u.conds) (λ u. AddsOwn o xs u.conds) leaves.undecided (λ u more. adds_both xs ys u.conds adds more) are.undecided;
    }

    -- with matches that have another property
    pub leaves_with : (conds : List PureAtom) (Q R : PureMatch S → Type 0) → ((m : PureMatch S) → Q m → R m) → (leaves : PureLeaves S) → LeavesAdd o conds Q leaves → LeavesAdd o conds R leaves
    leaves_with conds Q R to leaves are = record { matched = each_to Q R leaves.matched to are.matched; stopped = are.stopped; undecided = are.undecided }

    pub match_adds : (conds : List PureAtom) (Q : PureMatch S → Type 0) (m : PureMatch S) → Q m → LeavesAdd o conds Q (record { matched = m ∷ []; stopped = []; undecided = [] })
    match_adds conds Q m is = record { matched = (is, tt); stopped = tt; undecided = tt }

    pub stop_adds : (conds : List PureAtom) (Q : PureMatch S → Type 0) (n : ℕ) (s : PureState S) → AddsOwn o conds s.conds → LeavesAdd o conds Q (all_stop n s)
    stop_adds conds Q n s adds = record { matched = tt; stopped = (adds, tt); undecided = tt }

    -- all but matches
    pub rest_adds : (conds : List PureAtom) (Q R : PureMatch S → Type 0) (leaves : PureLeaves S) → LeavesAdd o conds Q leaves
        → LeavesAdd o conds R (record { matched = []; stopped = leaves.stopped; undecided = leaves.undecided })
    rest_adds conds Q R leaves are = record { matched = tt; stopped = are.stopped; undecided = are.undecided }

  stops_add : (n : ℕ) (conds : List PureAtom) (alternatives : List (List PureAtom)) → Each (Each (IsOwnToMatching o)) alternatives → Each (λ c. AddsOwn o conds c.conds) (stops_at n conds alternatives)
  stops_add n conds alternatives all =
      each_map (λ (c : PureStop). AddsOwn o conds c.conds) (λ more. record { item = n; conds = conds ++ more }) alternatives
      (each_to (Each (IsOwnToMatching o)) (λ more. AddsOwn o conds (conds ++ more)) alternatives (λ more own. adds_these conds more own) all)

  -- the alternatives under which an item stops
  pub stopped_add : {S : Type 0} (Q : PureMatch S → Type 0) (n : ℕ) (conds : List PureAtom) (alternatives : List (List PureAtom)) → Each (Each (IsOwnToMatching o)) alternatives
      → LeavesAdd o conds Q (record { matched = []; stopped = stops_at n conds alternatives; undecided = [] })
  stopped_add Q n conds alternatives all = record { matched = tt; stopped = stops_add n conds alternatives all; undecided = tt }

  pub own_each : (P : PureAtom → Type 0) → ((a : PureAtom) → P a → IsOwnToMatching o a) → (alternatives : List (List PureAtom)) → Each (Each P) alternatives → Each (Each (IsOwnToMatching o)) alternatives
  own_each P own alternatives all = each_to (Each P) (Each (IsOwnToMatching o)) alternatives (λ conds each. each_to P (IsOwnToMatching o) conds own each) all

module _ {S : Type 0} (terms : S → StateTerms) (o : Origin) where
  -- from a state with fewer conditions
  pub match_from : (scope : List Param) (items : List PureItem) (xs ys : List PureAtom) → AddsOwn o xs ys → (m : PureMatch S) → MatchComesFrom terms o scope items ys m → MatchComesFrom terms o scope items xs m
  match_from scope items xs ys adds m is = record { own = adds_both o xs ys m.state.conds adds is.own; facts = is.facts; reached = is.reached }

  pub all_from : (scope : List Param) (items : List PureItem) (xs ys : List PureAtom) → AddsOwn o xs ys → (leaves : PureLeaves S) → LeavesComeFrom terms o scope items ys leaves → LeavesComeFrom terms o scope items xs leaves
  all_from scope items xs ys adds leaves are =
      leaves_from o xs ys (MatchComesFrom terms o scope items ys) (MatchComesFrom terms o scope items xs) adds (match_from scope items xs ys adds) leaves are

  pub end_from : (IsEnd : Ends) (xs ys : List PureAtom) → AddsOwn o xs ys → (m : PureMatch S) → EndComesFrom terms o IsEnd ys m → EndComesFrom terms o IsEnd xs m
  end_from IsEnd xs ys adds m (scope, (items, (is, from))) = (scope, (items, (is, match_from scope items xs ys adds m from)))

  pub ends_from : (IsEnd : Ends) (xs ys : List PureAtom) → AddsOwn o xs ys → (leaves : PureLeaves S) → LeavesAdd o ys (EndComesFrom terms o IsEnd ys) leaves → LeavesAdd o xs (EndComesFrom terms o IsEnd xs) leaves
  ends_from IsEnd xs ys adds leaves are = leaves_from o xs ys (EndComesFrom terms o IsEnd ys) (EndComesFrom terms o IsEnd xs) adds (end_from IsEnd xs ys adds) leaves are

  -- the match itself
  pub itself : (scope : List Param) (items : List PureItem) (m : PureMatch S) → HasFactsOf terms o m.state → MayStand terms o scope items m.store m.state → MatchComesFrom terms o scope items m.state.conds m
  itself scope items m facts reached = record { own = adds_none o m.state.conds; facts = facts; reached = reached }

  -- ---- the leaves of a split

  module _ (scope : List Param) (items : List PureItem) (n : ℕ) (s : PureState S) (facts : HasFactsOf terms o s) (P : PureAtom → Type 0) (R : PureStore → Type 0) (own : (a : PureAtom) → P a → IsOwnToMatching o a)
      (comes : (after : PureStore) → R after → MayStand terms o scope items after s) where
    found_from : (found : Option (PureGoodCase PureStore)) → FoundComesFrom P R found → Each (MatchComesFrom terms o scope items s.conds) (found_where s found)
    found_from None is = tt
    found_from (Some g) is = (record { own = adds_these o s.conds g.conds (each_to P (IsOwnToMatching o) g.conds own is.0); facts = facts; reached = comes g.result is.1 }, tt)

    pub spread_from : (x : PureSplit PureStore) → SplitComesFrom P R x → LeavesComeFrom terms o scope items s.conds (spread n s x)
    spread_from x is = record { matched = found_from x.found is.found; stopped = stops_add o n s.conds x.none (own_each o P own x.none is.none); undecided = tt }

-- a pure item
pub guard_from : {S : Type 0} (terms : S → StateTerms) (scope : List Param) (e : PureExpr) (n : ℕ) (s : PureState S) (bs : PureStore) (x : PureSplit PureStore) → PureComesFrom scope e bs x
    → GuardComesFrom terms scope e bs s (spread n s x)
guard_from terms scope e n s bs x is o whole facts among reached =
    spread_from terms o scope whole n s facts (AsksPure scope e bs) (AddsOnlyTo (IsDefinedBy e bs) bs)
    (λ a asks. asks_there o scope whole bs (terms s.memory) (pure e) a reached among asks) (λ after adds. defines reached among adds) x is

-- the outs of a use, which are given these terms
pub outs_from : {S : Type 0} (terms : S → StateTerms) (o : Origin) (scope : List Param) (whole : List PureItem) (n : ℕ) (u : PurePredUse) (bs : PureStore) (q : PureState S) (ts : List PureTerm) (leaves : PureLeaves S)
    → HasFactsOf terms o q → MayReach o (record { scope = scope; items = whole; stage = given_outs bs u ts; held = terms q.memory }) → SpreadsValues n scope u.outs bs q ts leaves
    → LeavesComeFrom terms o scope whole q.conds leaves
outs_from terms o scope whole n u bs q ts leaves facts reached (x, (says, names, plainly, origin, is)) =
    subst (LeavesComeFrom terms o scope whole q.conds) (sym is)
    (spread_from terms o scope whole n q facts (AsksValues scope u.outs ts bs) (AddsOnlyTo (IsGivenAmong u.outs ts) bs)
    (λ a asks. (record { scope = scope; items = whole; stage = given_outs bs u ts; held = terms q.memory }, (reached, asks))) (λ after adds. goes_on reached adds) x origin)
