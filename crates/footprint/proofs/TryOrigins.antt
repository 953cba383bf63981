-- Where the leaves of assertions come from that are tried one after another, and where answers do.
use Rattle.std.proofs.Common.{◌≡◌, ⊎_elim, inl, ℕ, List, [], ◌∷◌, ◌++◌, map, Bool, true, false, Option, Some, None, refl, sym, ap, subst}
use Rattle.gil_values.specs.Pure.{PureValue}
use Rattle.gil_syntax.specs.declared.assertions.Param.{Param}
use Rattle.gil_syntax.specs.Programs.{find_pred}
use Rattle.gil_syntax.specs.Pure.{PureItem, PurePredDef}
use Rattle.mem_model.specs.Heaps.{Heap}
use Rattle.assert_logic.specs.Matching.{scope_of}
use Rattle.pure_terms.specs.declared.variables.Sort.{Sort}
use Rattle.pure_terms.specs.Pure.{PureTerm, PureAtom}
use Rattle.sym_evaluation.specs.Pure.{PureStore}
use Rattle.sym_paths.specs.Asking.{IsSolution, IsOutside}
use Rattle.sym_model.specs.Lists.{Each, IsAmong}
use Rattle.sym_model.specs.Terms.{StateTerms}
use Rattle.sym_model.proofs.ListLaws.{each_left, each_right, each_map, each_to, each_is_among, each_mapped, one_left, one_right, one_with}
use Rattle.sym_states.specs.Pure.{PureFact, PureState}
use Rattle.footprint.specs.Answers.{PureTold, met, outside, never, TellsStops, AnswersTold, AnswersLeaves}
use Rattle.footprint.specs.Cases.{at_number, EndsAs, EndsMatch, EndsCase}
use Rattle.footprint.specs.Coming.{HasFactsOf, MayStand, ItemsComeFrom, TryComesFrom, RetryComesFrom, NextTryComesFrom, TriesComeFrom, CasesComeFrom, FoldComesFrom}
use Rattle.footprint.specs.Consuming.{asked_all}
use Rattle.footprint.specs.Origins.{stands as in_store, Origin, MayReach, begins, AddsOwn, MatchComesFrom, LeavesAdd, LeavesComeFrom, Ends, EndComesFrom, AnswerComesFrom, IsOneOf, IsCaseOf, beginning, origin_of, fold_origin}
use Rattle.footprint.specs.Pure.{PureMatch, PureStop, PureUndecided, PureLeaves, PureMatching, unknown}
use Rattle.footprint.specs.Spreading.{all_stop, IsRenewed}
use Rattle.footprint.specs.Whole.{whole_where, EndsWhole, EndWhole}
use Rattle.footprint.proofs.OriginLaws.{adds_none, both_add, gathered_add, leaves_from, leaves_with, match_adds, stop_adds, rest_adds, match_from}

module _ {S : Type 0} (terms : S → StateTerms) where
  -- ---- where an assertion ends

  module _ (o : Origin) (scope : List Param) (items : List PureItem) (conds : List PureAtom) where
    abbrev IsFrom : PureMatch S → Type 0
    IsFrom m = MatchComesFrom terms o scope items conds m

    abbrev Come : PureLeaves S → Type 0
    Come leaves = LeavesComeFrom terms o scope items conds leaves

    ended_one : (n : ℕ) (outs : List Param) (m : PureMatch S) (leaves : PureLeaves S) → IsFrom m → EndsMatch n outs m leaves → Come leaves
    ended_one n outs m leaves from (found, (at, ends)) = by found ends
      where
        by : (x : Option (List PureTerm)) → EndsAs n m x leaves → Come leaves
        by (Some ts) is = subst Come (sym is) (match_adds o conds IsFrom m from)
        by None is = subst Come (sym is) (stop_adds o conds IsFrom n m.state from.own)

    pub ended_from : (n : ℕ) (outs : List Param) (before after : PureLeaves S) → EndsCase n outs before after → Come before → Come after
    ended_from n outs before after (ended, (gathers, is)) are =
        subst Come (sym is)
        (both_add o conds IsFrom (record { matched = []; stopped = map (at_number n) before.stopped; undecided = before.undecided }) ended
        (record {
          matched = tt;
          stopped = each_map (λ (c : PureStop). AddsOwn o conds c.conds) (at_number n) before.stopped are.stopped;
          undecided = are.undecided;
        })
        (gathered_add o conds IsFrom (EndsMatch n outs) IsFrom (ended_one n outs) before.matched ended are.matched gathers))

    module _ (stands : S → List PureValue → Heap → Type 0) where
      whole_one : (m : PureMatch S) (leaves : PureLeaves S) → IsFrom m → EndsWhole stands m leaves → Come leaves
      whole_one m leaves from (b, (nothing, ends)) = by b ends
        where
          by : (c : Bool) → leaves ≡ whole_where m c → Come leaves
          by true is = subst Come (sym is) (match_adds o conds IsFrom m from)
          by false is = subst Come (sym is) (stop_adds o conds IsFrom 0 m.state from.own)

      pub whole_from : (before after : PureLeaves S) → EndWhole stands before after → Come before → Come after
      whole_from before after (next, (gathers, is)) are =
          subst Come (sym is)
          (both_add o conds IsFrom (record { matched = []; stopped = before.stopped; undecided = before.undecided }) next (rest_adds o conds IsFrom IsFrom before are)
          (gathered_add o conds IsFrom (EndsWhole stands) IsFrom whole_one before.matched next are.matched gathers))

  module _ (preds : List PurePredDef) (scope : List Param) where
    -- ---- one assertion, in a copy of the state

    pub try_from : (stands : S → List PureValue → Heap → Type 0) (kept : S → Type 0) (items : List PureItem) (s : PureState S) (bs : PureStore) (conds : List PureAtom) (r : PureState S) (first leaves : PureLeaves S)
        → IsRenewed stands terms kept s conds r → ItemsComeFrom terms preds scope items (record { state = r; store = bs }) first
        → ((o : Origin) → LeavesComeFrom terms o scope items conds first → LeavesComeFrom terms o scope items conds leaves) → TryComesFrom terms preds scope items s bs conds leaves
    try_from stands kept items s bs conds r first leaves renewed come ends o same facts reached =
        let same_conds : r.conds ≡ conds = ap (λ (x : PureState S). x.conds) renewed.is in
        let same_facts : r.facts ≡ s.facts = ap (λ (x : PureState S). x.facts) renewed.is in
        let there : MayStand terms o scope items bs r
        = subst (λ (held : StateTerms). MayReach o (record { scope = scope; items = items; stage = in_store bs; held = held })) (sym renewed.memory.same_terms) reached in
        ends o (subst (λ (cs : List PureAtom). LeavesComeFrom terms o scope items cs first) same_conds
        (come o items same (subst (λ (cs : List PureFact). Each (λ c. IsAmong c o.facts) cs) (sym same_facts) facts) (each_is_among items) there))

    -- ---- several, one after another

    module _ (s : PureState S) (bs : PureStore) where
      pub tries_begin : (n : ℕ) → TriesComeFrom terms preds scope [] s bs (all_stop n s)
      tries_begin n o same facts all = stop_adds o s.conds (EndComesFrom terms o (IsOneOf scope []) s.conds) n s (adds_none o s.conds)

      module _ (bodies : List (List PureItem)) (body : List PureItem) (o : Origin) where
        abbrev IsOld : PureMatch S → Type 0
        IsOld m = EndComesFrom terms o (IsOneOf scope bodies) s.conds m

        abbrev IsNew : PureMatch S → Type 0
        IsNew m = EndComesFrom terms o (IsOneOf scope (bodies ++ body ∷ [])) s.conds m

        stays : (m : PureMatch S) → IsOld m → IsNew m
        stays m (names, (items, ((same, among), from))) = (names, (items, ((same, one_left (λ (y : List PureItem). y ≡ items) bodies (body ∷ []) among), from)))

        comes : (conds : List PureAtom) → AddsOwn o s.conds conds → (m : PureMatch S) → MatchComesFrom terms o scope body conds m → IsNew m
        comes conds adds m from = (scope, (body, ((refl, one_right (λ (y : List PureItem). y ≡ body) bodies (body ∷ []) (inl refl)), match_from terms o scope body s.conds conds adds m from)))

        retried : o.preds ≡ preds → HasFactsOf terms o s → MayStand terms o scope body bs s → (c : PureStop) (leaves : PureLeaves S) → AddsOwn o s.conds c.conds → RetryComesFrom terms preds scope body s bs c leaves
            → LeavesAdd o s.conds IsNew leaves
        retried same facts reached c leaves adds come =
            leaves_from o s.conds c.conds (MatchComesFrom terms o scope body c.conds) IsNew adds (comes c.conds adds) leaves (come o same facts reached)

        tried_more : o.preds ≡ preds → HasFactsOf terms o s → MayStand terms o scope body bs s → (before after : PureLeaves S) → LeavesAdd o s.conds IsOld before
            → NextTryComesFrom terms preds scope body s bs before after → LeavesAdd o s.conds IsNew after
        tried_more same facts reached before after are (next, (gathers, is)) =
            subst (LeavesAdd o s.conds IsNew) (sym is)
            (both_add o s.conds IsNew (record { matched = before.matched; stopped = []; undecided = before.undecided }) next
            (record { matched = each_to IsOld IsNew before.matched stays are.matched; stopped = tt; undecided = are.undecided })
            (gathered_add o s.conds IsNew (RetryComesFrom terms preds scope body s bs) (λ (c : PureStop). AddsOwn o s.conds c.conds) (retried same facts reached) before.stopped next are.stopped gathers))

      pub tries_more : (bodies : List (List PureItem)) (body : List PureItem) (before after : PureLeaves S) → TriesComeFrom terms preds scope bodies s bs before → NextTryComesFrom terms preds scope body s bs before after
          → TriesComeFrom terms preds scope (bodies ++ body ∷ []) s bs after
      tries_more bodies body before after come next o same facts all =
          tried_more bodies body o same facts (each_right (λ (items : List PureItem). MayStand terms o scope items bs s) bodies (body ∷ []) all).0 before after
          (come o same facts (each_left (λ (items : List PureItem). MayStand terms o scope items bs s) bodies (body ∷ []) all)) next

  -- ---- what is answered

  module _ (o : Origin) (IsEnd : Ends) (conds : List PureAtom) (vars : List Sort) (leaves : PureLeaves S) (are : LeavesAdd o conds (EndComesFrom terms o IsEnd conds) leaves) where
    by_told : (told : PureTold) (answer : PureMatching S) → TellsStops vars leaves.stopped told → AnswersTold told leaves.matched leaves.undecided answer → AnswerComesFrom terms o IsEnd conds answer
    by_told (met c v) answer tells is =
        subst (AnswerComesFrom terms o IsEnd conds) (sym is)
        (one_with (λ (d : PureStop). AddsOwn o conds d.conds) (λ d. (d ≡ c) × IsSolution vars c.conds v) leaves.stopped are.stopped tells
        (λ d adds (same, solution). subst (λ (x : PureStop). AddsOwn o conds x.conds) same adds))
    by_told (outside u) answer tells is =
        subst (AnswerComesFrom terms o IsEnd conds) (sym is)
        (one_with (λ (d : PureStop). AddsOwn o conds d.conds) (λ d. (d.conds ≡ u.conds) × IsOutside u.conds u.reason) leaves.stopped are.stopped tells
        (λ d adds (same, out). subst (AddsOwn o conds) same adds))
    by_told never answer tells is = ⊎_elim
        (λ (none, all). subst (AnswerComesFrom terms o IsEnd conds) (sym all) are.matched)
        (λ one. one_with (λ (u : PureUndecided). AddsOwn o conds u.conds) (λ u. answer ≡ unknown u.conds u.reason) leaves.undecided are.undecided one
        (λ u adds same. subst (AnswerComesFrom terms o IsEnd conds) (sym same) adds)) is

    pub answer_from : (answer : PureMatching S) → AnswersLeaves vars leaves answer → AnswerComesFrom terms o IsEnd conds answer
    answer_from answer (told, (tells, is)) = by_told told answer tells is

  -- ---- the assertions that are consumed

  pub consumed_from : (preds known : List PurePredDef) → known ≡ preds → (scope : List Param) (items : List PureItem) (s : PureState S) (bs : PureStore) (leaves : PureLeaves S)
      → ItemsComeFrom terms known scope items (record { state = s; store = bs }) leaves
      → LeavesAdd (origin_of terms preds scope (items ∷ []) bs s) s.conds (EndComesFrom terms (origin_of terms preds scope (items ∷ []) bs s) (IsOneOf scope (items ∷ [])) s.conds) leaves
  consumed_from preds known same scope items s bs leaves come =
      let o : Origin = origin_of terms preds scope (items ∷ []) bs s in
      leaves_with o s.conds (MatchComesFrom terms o scope items s.conds) (EndComesFrom terms o (IsOneOf scope (items ∷ [])) s.conds) (λ m from. (scope, (items, ((refl, inl refl), from)))) leaves
      (come o items (sym same) (each_is_among s.facts) (each_is_among items) (begins (inl refl)))

  pub wholes_from : (preds known : List PurePredDef) → known ≡ preds → (scope : List Param) (posts : List (List PureItem)) (s : PureState S) (bs : PureStore) (leaves : PureLeaves S)
      → TriesComeFrom terms known scope posts s bs leaves
      → LeavesAdd (origin_of terms preds scope posts bs s) s.conds (EndComesFrom terms (origin_of terms preds scope posts bs s) (IsOneOf scope posts) s.conds) leaves
  wholes_from preds known same scope posts s bs leaves come =
      let o : Origin = origin_of terms preds scope posts bs s in
      come o (sym same) (each_is_among s.facts)
      (each_to (λ (items : List PureItem). IsAmong (beginning terms scope bs s items) o.starts) (λ items. MayStand terms o scope items bs s) posts (λ items among. begins among)
      (each_mapped (λ r. IsAmong r o.starts) (beginning terms scope bs s) posts (each_is_among o.starts)))

  -- ---- folding

  module _ (preds : List PurePredDef) (x : List ℕ) (ins outs : List PureTerm) (s : PureState S) where
    pub fold_stops : (n : ℕ) → FoldComesFrom terms preds x ins outs s (all_stop n s)
    fold_stops n = let o : Origin = fold_origin terms preds x ins outs s in stop_adds o s.conds (EndComesFrom terms o (IsCaseOf preds x) s.conds) n s (adds_none o s.conds)

    pub folds_from : (d : PurePredDef) (leaves : PureLeaves S) → find_pred preds x ≡ Some d → CasesComeFrom terms preds d (asked_all ins outs) s leaves → FoldComesFrom terms preds x ins outs s leaves
    folds_from d leaves find come =
        let o : Origin = fold_origin terms preds x ins outs s in
        leaves_with o s.conds (EndComesFrom terms o (IsOneOf (scope_of d) d.cases) s.conds) (EndComesFrom terms o (IsCaseOf preds x) s.conds)
        (λ m (scope, (items, ((same, among), from))). (scope, (items, ((d, (find, same, among)), from)))) leaves
        (come o [] [] x refl (each_is_among s.facts) find (begins (inl refl)))
