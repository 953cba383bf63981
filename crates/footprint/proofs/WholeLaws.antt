-- How the leaves of several assertions, of which one is to leave nothing, are put together.
use Rattle.std.proofs.Common.{◌≡◌, ◌⊎◌, ⊎_elim, inl, inr, ℕ, zero, suc, List, [], ◌∷◌, ◌++◌, length, nat_eq, ◌&&◌, Bool, true, false, ◌||◌, IsTrue, refl, sym, ap, subst, ◌∙◌, true≢false}
use Rattle.std.specs.FinMap.{get, len, get-empty, len-empty, empty_of_len}
use Rattle.std.specs.List.{list_any}
use Rattle.std.proofs.Math.Dec.{eqb-suc-zero}
use Rattle.std.proofs.lemmas.List.Folds.{list_any-append}
use Rattle.gil_values.specs.Pure.{PureValue}
use Rattle.gil_syntax.specs.declared.assertions.Param.{Param}
use Rattle.gil_syntax.specs.Evaluation.{Store}
use Rattle.gil_syntax.specs.Pure.{PureItem}
use Rattle.mem_model.specs.Heaps.{Heap}
use Rattle.mem_model.specs.Keys.{key_cmp}
use Rattle.assert_logic.specs.LogicStates.{Fact, LogicState}
use Rattle.assert_logic.specs.Matching.{Cases}
use Rattle.checked_runs.specs.Checked.{leaves_nothing}
use Rattle.pure_terms.specs.Meaning.{all_true, IsProper, IsOver}
use Rattle.pure_terms.specs.Pure.{term_of}
use Rattle.sym_evaluation.specs.Meaning.{IsStoreOver}
use Rattle.sym_evaluation.specs.Pure.{PureStore}
use Rattle.sym_model.specs.Listing.{AreUnion}
use Rattle.sym_model.specs.Lists.{Each, OneOf}
use Rattle.sym_model.specs.Pure.{PureUse}
use Rattle.sym_model.specs.Terms.{StateTerms, all_of, AreEachOver}
use Rattle.sym_model.proofs.ListLaws.{not_none, each_to}
use Rattle.sym_states.specs.Meaning.{Serves, AreFacts, IsOverTable}
use Rattle.sym_states.specs.Pure.{PureFact, PureState}
use Rattle.footprint.specs.Assertions.{ItemsGive, ItemsStop}
use Rattle.footprint.specs.Cases.{StopsIn}
use Rattle.footprint.specs.Leaves.{Premise, Giving, Stopping, IsLater, IsMatch, IsStop, AreLeaves}
use Rattle.footprint.specs.Pure.{PureMatch, PureStop, PureLeaves}
use Rattle.footprint.specs.Spreading.{joined, all_stop, IsRenewed}
use Rattle.footprint.specs.Whole.{is_whole, WholeGives, WholeStops, SomeGives, SomeStops, SaysNothing, whole_where, EndsWhole, EndWhole, TriedAt, NextWhole}
use Rattle.footprint.proofs.Parts.{same_vars, IsPart, part_leaves, part_both, part_where, gathered, lifted, all_stop_part}

or_later : (b c : Bool) → b ≡ false → (b || c) ≡ c
or_later true c is = absurd (true≢false is)
or_later false c is = refl

or_false : (b : Bool) → (b || false) ≡ b
or_false true = refl
or_false false = refl

module _ {S : Type 0} (stands : S → List PureValue → Heap → Type 0) (terms : S → StateTerms) (kept : S → Type 0) where
  -- ---- leaves of which some go on

  module _ (s : PureState S) (If : Premise) (Old More : Giving) (Ended Ends : Stopping) (before rest next : PureLeaves S) (are : AreLeaves stands terms kept s If Old Ended before) where
    pub matched_go_on : IsPart stands terms kept s If More Ends (λ v t l. OneOf (λ c. IsTrue (all_true v c.conds)) before.stopped ⊎ OneOf (λ u. IsTrue (all_true v u.conds)) before.undecided) rest
        → IsPart stands terms kept s If More Ends (λ v t l. OneOf (λ m. IsTrue (all_true v m.state.conds)) before.matched) next → AreLeaves stands terms kept s If More Ends (joined rest next)
    matched_go_on first second =
        part_leaves stands terms kept s If More Ends
        (λ v t l. (OneOf (λ c. IsTrue (all_true v c.conds)) before.stopped ⊎ OneOf (λ u. IsTrue (all_true v u.conds)) before.undecided) ⊎ OneOf (λ m. IsTrue (all_true v m.state.conds)) before.matched)
        (joined rest next)
        (part_both stands terms kept s If More Ends (λ v t l. OneOf (λ c. IsTrue (all_true v c.conds)) before.stopped ⊎ OneOf (λ u. IsTrue (all_true v u.conds)) before.undecided)
        (λ v t l. OneOf (λ m. IsTrue (all_true v m.state.conds)) before.matched) rest next first second)
        (λ v t l holds. ⊎_elim (λ found. inr found) (λ other. inl other) (are.cover v t l holds))

    pub stopped_go_on : IsPart stands terms kept s If More Ends (λ v t l. OneOf (λ m. IsTrue (all_true v m.state.conds)) before.matched ⊎ OneOf (λ u. IsTrue (all_true v u.conds)) before.undecided) rest
        → IsPart stands terms kept s If More Ends (λ v t l. OneOf (λ c. IsTrue (all_true v c.conds)) before.stopped) next → AreLeaves stands terms kept s If More Ends (joined rest next)
    stopped_go_on first second =
        part_leaves stands terms kept s If More Ends
        (λ v t l. (OneOf (λ m. IsTrue (all_true v m.state.conds)) before.matched ⊎ OneOf (λ u. IsTrue (all_true v u.conds)) before.undecided) ⊎ OneOf (λ c. IsTrue (all_true v c.conds)) before.stopped)
        (joined rest next)
        (part_both stands terms kept s If More Ends (λ v t l. OneOf (λ m. IsTrue (all_true v m.state.conds)) before.matched ⊎ OneOf (λ u. IsTrue (all_true v u.conds)) before.undecided)
        (λ v t l. OneOf (λ c. IsTrue (all_true v c.conds)) before.stopped) rest next first second)
        (λ v t l holds. ⊎_elim (λ found. inl (inl found)) (λ other. ⊎_elim (λ stopped. inr stopped) (λ last. inl (inr last)) other) (are.cover v t l holds))

  -- ---- where an assertion is to leave nothing

  module _ (cases : Cases) (scope : List Param) (items : List PureItem) (q : PureState S) (bs : PureStore) where
    abbrev WholeIf : Premise
    WholeIf = Serves stands terms q bs

    abbrev WholePart : PureMatch S → PureLeaves S → Type 0
    WholePart m leaves = IsPart stands terms kept q WholeIf (WholeGives cases scope items) (WholeStops cases scope items) (λ v t l. IsTrue (all_true v m.state.conds)) leaves

    whole_match : (m : PureMatch S) (leaves : PureLeaves S) → IsMatch stands terms kept q WholeIf (ItemsGive cases scope items) m → EndsWhole stands m leaves → WholePart m leaves
    whole_match m leaves is (b, (nothing, ends)) = by b nothing ends
      where
        by : (b : Bool) → SaysNothing stands m.state b → leaves ≡ whole_where m b → WholePart m leaves
        by true nothing ends = subst (WholePart m) (sym ends) (record {
          cover = λ v t l holds met. inl (inl met);
          matched = (
            record {
              later = is.later;
              store_over = is.store_over;
              exact = λ v t l holds met.
                  let (t', (l', ((taken, found), serves))) = is.exact v t l holds met in
                  (t', (l', (ap leaves_nothing found ∙ nothing v l' serves.state, serves)));
            },
            tt,
          );
          stopped = tt;
          undecided = tt;
        })
        by false nothing ends = subst (WholePart m) (sym ends) (record {
          cover = λ v t l holds met. inr (inl (inl met));
          matched = tt;
          stopped = (
            record {
              longer = is.later.longer;
              over = subst (λ vars. Each (λ a. IsOver vars (term_of a)) m.state.conds) (same_vars stands terms kept q m.state is.later) is.later.over.conds;
              exact = λ v t l holds met.
                  let (t', (l', ((taken, found), serves))) = is.exact v t l holds met in
                  ap leaves_nothing found ∙ nothing v l' serves.state;
            },
            tt,
          );
          undecided = tt;
        })

    whole_stop : (c : PureStop) → IsStop stands terms kept q WholeIf (ItemsStop cases scope items) c → IsStop stands terms kept q WholeIf (WholeStops cases scope items) c
    whole_stop c is = record { longer = is.longer; over = is.over; exact = λ v t l holds met. ap leaves_nothing (is.exact v t l holds met) }

    pub whole_ended : (before after : PureLeaves S) → AreLeaves stands terms kept q WholeIf (ItemsGive cases scope items) (ItemsStop cases scope items) before → EndWhole stands before after
        → AreLeaves stands terms kept q WholeIf (WholeGives cases scope items) (WholeStops cases scope items) after
    whole_ended before after are (next, (gathers, is)) =
        subst (AreLeaves stands terms kept q WholeIf (WholeGives cases scope items) (WholeStops cases scope items)) (sym is)
        (matched_go_on q WholeIf (ItemsGive cases scope items) (WholeGives cases scope items) (ItemsStop cases scope items) (WholeStops cases scope items) before
        (record { matched = []; stopped = before.stopped; undecided = before.undecided }) next are
        (record {
          cover = λ v t l holds one. inr one;
          matched = tt;
          stopped = each_to (IsStop stands terms kept q WholeIf (ItemsStop cases scope items)) (IsStop stands terms kept q WholeIf (WholeStops cases scope items)) before.stopped whole_stop are.stopped;
          undecided = are.undecided;
        })
        (gathered stands terms kept q WholeIf (WholeGives cases scope items) (WholeStops cases scope items) (EndsWhole stands) (IsMatch stands terms kept q WholeIf (ItemsGive cases scope items))
        (λ m v t l. IsTrue (all_true v m.state.conds)) whole_match before.matched next are.matched gathers))

  -- ---- assertions in order

  module _ (cases : Cases) (scope : List Param) (s : PureState S) (bs : PureStore) (over : IsOverTable terms s) (store_over : IsStoreOver s.vars bs) where
    abbrev PostIf : Premise
    PostIf = Serves stands terms s bs

    -- none is tried yet
    pub posts_begin : AreLeaves stands terms kept s PostIf (SomeGives cases scope []) (SomeStops cases scope []) (all_stop 0 s)
    posts_begin =
        part_leaves stands terms kept s PostIf (SomeGives cases scope []) (SomeStops cases scope []) (λ v t l. IsTrue (all_true v s.conds)) (all_stop 0 s)
        (all_stop_part stands terms kept 0 s PostIf (SomeStops cases scope []) over (SomeGives cases scope []) (λ v t l holds met. refl)) (λ v t l holds. holds.state.meets)

    module _ (Plain : ℕ → S → Type 0) (posts : List (List PureItem)) (items : List PureItem) where
      abbrev Old : Giving
      Old = SomeGives cases scope posts

      abbrev More : Giving
      More = SomeGives cases scope (posts ++ items ∷ [])

      abbrev Ended : Stopping
      Ended = SomeStops cases scope posts

      abbrev Ends : Stopping
      Ends = SomeStops cases scope (posts ++ items ∷ [])

      some_more : (t : Store) (l : LogicState) → list_any (is_whole cases scope t l) (posts ++ items ∷ []) ≡ (list_any (is_whole cases scope t l) posts || is_whole cases scope t l items)
      some_more t l = list_any-append (is_whole cases scope t l) posts (items ∷ []) ∙ ap (λ b. list_any (is_whole cases scope t l) posts || b) (or_false (is_whole cases scope t l items))

      post_stays : (m : PureMatch S) → IsMatch stands terms kept s PostIf Old m → IsMatch stands terms kept s PostIf More m
      post_stays m is = record {
        later = is.later;
        store_over = is.store_over;
        exact = λ v t l holds met.
            let (t', (l', (found, serves))) = is.exact v t l holds met in
            (t', (l', (some_more t l ∙ ap (λ b. b || is_whole cases scope t l items) found, serves)));
      }

      module _ (c : PureStop) (is : IsStop stands terms kept s PostIf Ended c) (r : PureState S) (renewed : IsRenewed stands terms kept s c.conds r) where
        same_conds : r.conds ≡ c.conds
        same_conds = ap (λ (x : PureState S). x.conds) renewed.is

        same_facts : r.facts ≡ s.facts
        same_facts = ap (λ (x : PureState S). x.facts) renewed.is

        same_table : r.vars ≡ s.vars
        same_table = ap (λ (x : PureState S). x.vars) renewed.is

        renewed_over : IsOverTable terms r
        renewed_over = subst (IsOverTable terms) (sym renewed.is) (record {
          conds = is.over;
          given = over.given;
          memory = subst (λ ts. AreEachOver s.vars (all_of ts)) (sym renewed.memory.same_terms) over.memory;
          facts = over.facts;
        })

        renewed_later : IsLater stands terms kept s r
        renewed_later = record {
          longer = (is.longer.0, same_conds ∙ is.longer.1);
          same_else = renewed.is ∙ (λ i. record s { conds = sym same_conds i; memory = r.memory; facts = sym same_facts i });
          over = renewed_over;
          still_kept = renewed.memory.still_kept;
        }

        renewed_serves : (v : List PureValue) (t : Store) (l : LogicState) → PostIf v t l → IsTrue (all_true v r.conds) → Serves stands terms r bs v t l
        renewed_serves v t l holds met = record {
          over = renewed_over;
          store_over = subst (λ vars. IsStoreOver vars bs) (sym same_table) store_over;
          store = holds.store;
          state = record {
            proper = subst (λ vars. IsProper vars v) (sym same_table) holds.state.proper;
            meets = met;
            memory = renewed.memory.stands_for v l.heap holds.state.memory;
            facts = subst (λ cs. AreFacts v cs l.facts) (sym same_facts) holds.state.facts;
          };
        }

        tried_part : (leaves : PureLeaves S) → AreLeaves stands terms kept r (Serves stands terms r bs) (WholeGives cases scope items) (WholeStops cases scope items) leaves
            → IsPart stands terms kept s PostIf More Ends (λ v t l. IsTrue (all_true v c.conds)) leaves
        tried_part leaves are =
            part_where stands terms kept s PostIf More Ends (λ v t l. IsTrue (all_true v r.conds)) (λ v t l. IsTrue (all_true v c.conds)) leaves
            (λ v t l holds met. subst (λ cs. IsTrue (all_true v cs)) (sym same_conds) met)
            (lifted stands terms kept s r PostIf (Serves stands terms r bs) More (WholeGives cases scope items) Ends (WholeStops cases scope items) renewed_later
            (λ v t l holds met.
            let none : list_any (is_whole cases scope t l) posts ≡ false = is.exact v t l holds (subst (λ cs. IsTrue (all_true v cs)) same_conds met) in
            let later : list_any (is_whole cases scope t l) (posts ++ items ∷ []) ≡ is_whole cases scope t l items = some_more t l ∙ or_later (list_any (is_whole cases scope t l) posts) (is_whole cases scope t l items) none in
            record {
              next_store = t;
              next_state = l;
              premise = renewed_serves v t l holds met;
              gives = λ u k g. later ∙ g;
              stops = λ k g. later ∙ g;
            }) leaves are)

      pub posts_more : (before after : PureLeaves S) → AreLeaves stands terms kept s PostIf Old Ended before → NextWhole stands terms kept Plain cases scope items s bs before after
          → AreLeaves stands terms kept s PostIf More Ends after
      posts_more before after are (next, (gathers, is)) =
          subst (AreLeaves stands terms kept s PostIf More Ends) (sym is)
          (stopped_go_on s PostIf Old More Ended Ends before (record { matched = before.matched; stopped = []; undecided = before.undecided }) next are
          (record {
            cover = λ v t l holds one. ⊎_elim (λ found. inl found) (λ other. inr (inr other)) one;
            matched = each_to (IsMatch stands terms kept s PostIf Old) (IsMatch stands terms kept s PostIf More) before.matched post_stays are.matched;
            stopped = tt;
            undecided = are.undecided;
          })
          (gathered stands terms kept s PostIf More Ends (TriedAt stands terms kept Plain cases scope items s bs) (IsStop stands terms kept s PostIf Ended) (λ c v t l. IsTrue (all_true v c.conds))
          (λ c leaves stop (r, (renewed, (first, (are_first, ends)))). tried_part c stop r renewed leaves (whole_ended cases scope items r bs first leaves are_first.0 ends)) before.stopped next are.stopped gathers))

-- ---- what is handed in

pub stops_in : {S : Type 0} (stands : S → List PureValue → Heap → Type 0) (terms : S → StateTerms) (kept : S → Type 0) (s : PureState S) (If : Premise) (Stops : Stopping) (cs : List PureStop)
    → Each (IsStop stands terms kept s If Stops) cs → Each (StopsIn s.vars) cs
stops_in stands terms kept s If Stops cs are = each_to (IsStop stands terms kept s If Stops) (StopsIn s.vars) cs (λ c is. is.over) are

-- ---- nothing is left

facts_length : (v : List PureValue) (cs : List PureFact) (fs : List Fact) → AreFacts v cs fs → length fs ≡ length cs
facts_length v [] [] are = refl
facts_length v (c ∷ cs) (f ∷ fs) are = ap suc (facts_length v cs fs are.1)
facts_length v [] (f ∷ fs) are = absurd are
facts_length v (c ∷ cs) [] are = absurd are

-- a listing is empty exactly where the heap is
listed_heap : (v : List PureValue) (us : List PureUse) (h : Heap) → AreUnion v us h → nat_eq (len h) 0 ≡ nat_eq (length us) 0
listed_heap v [] h union = ap (λ (x : Heap). nat_eq (len x) 0) union ∙ ap (λ n. nat_eq n 0) (len-empty key_cmp PureValue)
listed_heap v (u ∷ us) h (k, (w, (is_u, holds, rest))) = by (len h) refl
  where
    by : (n : ℕ) → len h ≡ n → nat_eq n 0 ≡ nat_eq (length (u ∷ us)) 0
    by zero none = not_none (sym (ap (λ (x : Heap). get x k) (empty_of_len h none) ∙ get-empty key_cmp k) ∙ holds)
    by (suc n) some = eqb-suc-zero n ∙ sym (eqb-suc-zero (length us))

pub says_nothing : {S : Type 0} (stands : S → List PureValue → Heap → Type 0) (s : PureState S) (us : List PureUse) → ((v : List PureValue) (h : Heap) → stands s.memory v h → AreUnion v us h)
    → SaysNothing stands s (nat_eq (length us) 0 && nat_eq (length s.facts) 0)
says_nothing stands s us lists v l is =
    (λ i. listed_heap v us l.heap (lists v l.heap is.memory) i && nat_eq (facts_length v s.facts l.facts is.facts i) 0)
