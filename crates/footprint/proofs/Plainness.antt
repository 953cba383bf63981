-- What matching plain items leaves is plain.
use Rattle.std.proofs.Common.{◌≡◌, ⊎_elim, inl, inr, ℕ, ◌+◌, ◌^◌, ◌<◌, ◌≤◌, pos, neg_ℤ, List, [], ◌∷◌, ◌++◌, length, Bool, true, false, Option, Some, None, refl, sym, ap, subst, arith, length-append}
use Rattle.gil_values.specs.Pure.{PureValue}
use Rattle.gil_syntax.specs.declared.assertions.Param.{Param}
use Rattle.gil_syntax.specs.Pure.{PureExpr, PureItem, pure}
use Rattle.mem_model.specs.declared.keys.MemoryName.{MemoryName}
use Rattle.mem_model.specs.Heaps.{Heap}
use Rattle.assert_logic.specs.Matching.{Cases}
use Rattle.pure_terms.specs.declared.variables.Sort.{Sort}
use Rattle.pure_terms.specs.Fragment.{InFragment}
use Rattle.pure_terms.specs.Meaning.{AreOver}
use Rattle.pure_terms.specs.Pure.{PureAtom}
use Rattle.sym_paths.specs.Asking.{IsSolution, IsOutside}
use Rattle.sym_paths.proofs.AskedFragments.{each_over_all}
use Rattle.sym_evaluation.specs.Meaning.{IsStoreOver}
use Rattle.sym_evaluation.specs.Plainly.{IsPlain, IsPlainStore, text_bound}
use Rattle.sym_evaluation.specs.Pure.{PureStore, PureGoodCase}
use Rattle.sym_model.specs.Laws.{IsDecidedWithin}
use Rattle.sym_model.specs.Lists.{Each, OneOf}
use Rattle.sym_model.specs.Terms.{StateTerms, all_of}
use Rattle.sym_model.specs.Plain.{IsPlainState}
use Rattle.sym_model.proofs.ListLaws.{each_append, each_left, each_right, each_map, each_to, one_with}
use Rattle.sym_model.proofs.Fragments.{decided_in_fragment}
use Rattle.sym_paths.specs.Steps.{narrow_bound}
use Rattle.sym_paths.specs.Plain.{IsPlainItem}
use Rattle.sym_states.specs.Pure.{PureState}
use Rattle.sym_states.proofs.Plainness.{plain_up, decided_up}
use Rattle.sym_matching.specs.Plainly.{AreDecided, IsFoundDecided, IsSplitDecided, PureStaysPlain}
use Rattle.sym_matching.specs.Pure.{PureSplit}
use Rattle.sym_matching.proofs.Deciding.{store_up}
use Rattle.footprint.specs.Answers.{PureTold, met, outside, never, TellsStops, AnswersTold, AnswersLeaves}
use Rattle.footprint.specs.Assertions.{MatchesItem, PrunesMatch, Prunes, NextMatched}
use Rattle.footprint.specs.Leaves.{Premise, Giving, Stopping, IsStop, AreLeaves}
use Rattle.footprint.specs.Plainly.{IsPlainMemory, IsPlainMatch, ArePlainLeaves, match_growth, widened, ItemStaysPlain, ItemsStayPlain, item_count, PostsStayPlain, IsDecidedMatching}
use Rattle.footprint.specs.Pure.{PureMatch, PureStop, PureUndecided, PureLeaves, PureMatching, unknown}
use Rattle.footprint.specs.Spreading.{no_leaves, joined, stops_at, found_where, spread, all_stop, Gathers, IsRenewed}
use Rattle.footprint.specs.Whole.{whole_where, EndsWhole, EndWhole, TriedAt, NextWhole}
use Rattle.footprint.proofs.ItemsLaw.{items_over}

-- ---- conditions

pub conds_up : (b d : ℕ) → b ≤ d → (conds : List PureAtom) → AreDecided b conds → AreDecided d conds
conds_up b d le conds is = each_to (IsDecidedWithin (neg_ℤ (pos b)) (pos b)) (IsDecidedWithin (neg_ℤ (pos d)) (pos d)) conds (decided_up b d le) is

pub small_number : (b : ℕ) → b + match_growth ≤ narrow_bound → b + text_bound < 2 ^ 127
small_number b narrow = omega (arith, narrow)

pub wider : (b : ℕ) → b ≤ b + text_bound
wider b = omega arith

pub much_wider : (b : ℕ) → b ≤ b + match_growth
much_wider b = omega arith

text_within : (b : ℕ) → b + text_bound ≤ b + match_growth
text_within b = omega arith

pub stops_plain : (b d : ℕ) → b ≤ d → (n : ℕ) (conds : List PureAtom) (alternatives : List (List PureAtom)) → AreDecided b conds → Each (AreDecided d) alternatives → Each (λ c. AreDecided d c.conds) (stops_at n conds alternatives)
stops_plain b d le n conds alternatives first all =
    each_map (λ (c : PureStop). AreDecided d c.conds) (λ more. record { item = n; conds = conds ++ more }) alternatives
    (each_to (AreDecided d) (λ more. AreDecided d (conds ++ more)) alternatives (λ more is. each_append (IsDecidedWithin (neg_ℤ (pos d)) (pos d)) conds more (conds_up b d le conds first) is) all)

pub each_both : {A : Type 0} (P Q : A → Type 0) (xs : List A) → Each P xs → Each Q xs → Each (λ x. P x × Q x) xs
each_both P Q [] first second = tt
each_both P Q (x ∷ xs) first second = ((first.0, second.0), each_both P Q xs first.1 second.1)

module _ {S : Type 0} (memory : MemoryName) (keeps : Type 0) (terms : S → StateTerms) where
  abbrev pub Plain : ℕ → S → Type 0
  Plain = IsPlainMemory memory keeps terms

  pub memory_up : (b d : ℕ) → b ≤ d → (m : S) → Plain b m → Plain d m
  memory_up b d le m is = record {
    keeps_plain = is.keeps_plain;
    plain = record { plain = each_to (IsPlain b) (IsPlain d) (all_of (terms m)) (plain_up b d le) is.plain.plain; described = is.plain.described };
  }

  -- ---- leaves

  pub match_up : (b d : ℕ) → b ≤ d → (m : PureMatch S) → IsPlainMatch Plain b m → IsPlainMatch Plain d m
  match_up b d le m is = record { decided = conds_up b d le m.state.conds is.decided; plain_memory = memory_up b d le m.state.memory is.plain_memory; store = store_up b d le m.store is.store; few = is.few }

  pub leaves_up : (b d : ℕ) → b ≤ d → (leaves : PureLeaves S) → ArePlainLeaves Plain b leaves → ArePlainLeaves Plain d leaves
  leaves_up b d le leaves are = record {
    matched = each_to (IsPlainMatch Plain b) (IsPlainMatch Plain d) leaves.matched (match_up b d le) are.matched;
    stopped = each_to (λ c. AreDecided b c.conds) (λ c. AreDecided d c.conds) leaves.stopped (λ c is. conds_up b d le c.conds is) are.stopped;
    none_undecided = are.none_undecided;
  }

  pub none_plain : (b : ℕ) → ArePlainLeaves Plain b (no_leaves {S = S})
  none_plain b = record { matched = tt; stopped = tt; none_undecided = refl }

  pub joined_plain : (b : ℕ) (p q : PureLeaves S) → ArePlainLeaves Plain b p → ArePlainLeaves Plain b q → ArePlainLeaves Plain b (joined p q)
  joined_plain b p q first second = record {
    matched = each_append (IsPlainMatch Plain b) p.matched q.matched first.matched second.matched;
    stopped = each_append (λ c. AreDecided b c.conds) p.stopped q.stopped first.stopped second.stopped;
    none_undecided = (λ i. first.none_undecided i ++ second.none_undecided i);
  }

  pub gathered_plain : {A : Type 0} (b : ℕ) (P : A → PureLeaves S → Type 0) (Q : A → Type 0) → ((x : A) (leaves : PureLeaves S) → Q x → P x leaves → ArePlainLeaves Plain b leaves)
      → (xs : List A) (leaves : PureLeaves S) → Each Q xs → Gathers P xs leaves → ArePlainLeaves Plain b leaves
  gathered_plain b P Q part [] leaves all is = subst (ArePlainLeaves Plain b) (sym is) (none_plain b)
  gathered_plain b P Q part (x ∷ xs) leaves all (first, (rest, (here, later, is))) =
      subst (ArePlainLeaves Plain b) (sym is) (joined_plain b first rest (part x first all.0 here) (gathered_plain b P Q part xs rest all.1 later))

  -- ---- one item

  found_plain : (b d : ℕ) → b ≤ d → (s : PureState S) (bs : PureStore) (o : Option (PureGoodCase PureStore)) → IsPlainMatch Plain b (record { state = s; store = bs }) → IsFoundDecided (IsPlainStore d) d o → Each (IsPlainMatch Plain d) (found_where s o)
  found_plain b d le s bs None from is = tt
  found_plain b d le s bs (Some g) from is = (
    record {
      decided = each_append (IsDecidedWithin (neg_ℤ (pos d)) (pos d)) s.conds g.conds (conds_up b d le s.conds from.decided) is.0;
      plain_memory = memory_up b d le s.memory from.plain_memory;
      store = is.1;
      few = from.few;
    },
    tt,
  )

  pub spread_plain : (b d : ℕ) → b ≤ d → (n : ℕ) (s : PureState S) (bs : PureStore) (x : PureSplit PureStore) → IsPlainMatch Plain b (record { state = s; store = bs }) → IsSplitDecided (IsPlainStore d) d x → ArePlainLeaves Plain d (spread n s x)
  spread_plain b d le n s bs x from is = record {
    matched = found_plain b d le s bs x.found from is.found;
    stopped = stops_plain b d le n s.conds x.none from.decided is.none;
    none_undecided = refl;
  }

  -- a pure item
  pub guard_plain : (n : ℕ) (e : PureExpr) (s : PureState S) (bs : PureStore) (x : PureSplit PureStore) → IsStoreOver s.vars bs → PureStaysPlain e bs x → ItemStaysPlain Plain (pure e) (record { state = s; store = bs }) (spread n s x)
  guard_plain n e s bs x over plainly b item narrow from =
      leaves_up (b + text_bound) (b + match_growth) (text_within b) (spread n s x)
      (spread_plain b (b + text_bound) (wider b) n s bs x from (plainly s.vars b (record { over = over; plain = from.store; small = small_number b narrow }) item))

  -- ---- items from left to right

  module _ (stands : S → List PureValue → Heap → Type 0) (kept : S → Type 0) where
    pruned_match : (b : ℕ) → b ≤ narrow_bound → (m : PureMatch S) (leaves : PureLeaves S) → IsPlainMatch Plain b m × AreOver m.state.vars m.state.conds → PrunesMatch stands terms kept m leaves → ArePlainLeaves Plain b leaves
    pruned_match b narrow m leaves (is, over) (inl stays) = subst (ArePlainLeaves Plain b) (sym stays) (record { matched = (is, tt); stopped = tt; none_undecided = refl })
    pruned_match b narrow m leaves (is, over) (inr (inl (none, unmet))) = subst (ArePlainLeaves Plain b) (sym none) (none_plain b)
    pruned_match b narrow m leaves (is, over) (inr (inr (reason, (here, out)))) = absurd (out.outside (decided_in_fragment b narrow m.state.vars m.state.conds is.few over is.decided))

    rest_plain : (b : ℕ) (leaves : PureLeaves S) → ArePlainLeaves Plain b leaves → ArePlainLeaves Plain b (record { matched = []; stopped = leaves.stopped; undecided = leaves.undecided })
    rest_plain b leaves are = record { matched = tt; stopped = are.stopped; none_undecided = are.none_undecided }

    pruned_plain : (b : ℕ) → b ≤ narrow_bound → (before after : PureLeaves S) → ArePlainLeaves Plain b before → Each (λ m. AreOver m.state.vars m.state.conds) before.matched → Prunes stands terms kept before after → ArePlainLeaves Plain b after
    pruned_plain b narrow before after are over (pruned, (gathers, is)) =
        subst (ArePlainLeaves Plain b) (sym is)
        (joined_plain b (record { matched = []; stopped = before.stopped; undecided = before.undecided }) pruned (rest_plain b before are)
        (gathered_plain b (PrunesMatch stands terms kept) (λ m. IsPlainMatch Plain b m × AreOver m.state.vars m.state.conds) (pruned_match b narrow) before.matched pruned
        (each_both (IsPlainMatch Plain b) (λ m. AreOver m.state.vars m.state.conds) before.matched are.matched over) gathers))

    next_plain : (n : ℕ) (cases : Cases) (scope : List Param) (item : PureItem) (before after : PureLeaves S) (b : ℕ) → IsPlainItem item → b + match_growth ≤ narrow_bound → ArePlainLeaves Plain b before
        → NextMatched stands terms kept Plain n cases scope item before after → ArePlainLeaves Plain (b + match_growth) after
    next_plain n cases scope item before after b plain narrow are (next, (pruned, (gathers, prunes, is))) =
        let wide = b + match_growth in
        let went : ArePlainLeaves Plain wide next = gathered_plain wide (MatchesItem stands terms kept Plain n cases scope item) (IsPlainMatch Plain b) (λ m leaves from matches. matches.1 b plain narrow from) before.matched next are.matched gathers in
        subst (ArePlainLeaves Plain wide) (sym is)
        (joined_plain wide (record { matched = []; stopped = before.stopped; undecided = before.undecided }) pruned (rest_plain wide before (leaves_up b wide (much_wider b) before are))
        (pruned_plain wide narrow next pruned went (items_over stands terms kept Plain n cases scope item before.matched next gathers) prunes))

    one_more : (n b : ℕ) → widened n b + match_growth ≡ widened (n + 1) b
    one_more n b = omega arith

    less_before : (n b : ℕ) → widened (n + 1) b ≤ narrow_bound → widened n b ≤ narrow_bound
    less_before n b narrow = omega (arith, narrow)

    pub items_begin : (m : PureMatch S) → ItemsStayPlain Plain [] m (record { matched = m ∷ []; stopped = []; undecided = [] })
    items_begin m b plain narrow from = record { matched = (match_up b (widened 0 b) (omega arith) m from, tt); stopped = tt; none_undecided = refl }

    pub items_more : (n : ℕ) (cases : Cases) (scope : List Param) (items : List PureItem) (item : PureItem) (m : PureMatch S) (before after : PureLeaves S) → ItemsStayPlain Plain items m before
        → NextMatched stands terms kept Plain n cases scope item before after → ItemsStayPlain Plain (items ++ item ∷ []) m after
    items_more n cases scope items item m before after so next b plain narrow from =
        let size : length (items ++ item ∷ []) ≡ length items + 1 = length-append items (item ∷ []) in
        let wide : widened (length items + 1) b ≤ narrow_bound = subst (λ k. widened k b ≤ narrow_bound) size narrow in
        subst (λ k. ArePlainLeaves Plain (widened k b) after) (sym size)
        (subst (λ k. ArePlainLeaves Plain k after) (one_more (length items) b)
        (next_plain n cases scope item before after (widened (length items) b) (each_right IsPlainItem items (item ∷ []) plain).0 (subst (λ k. k ≤ narrow_bound) (sym (one_more (length items) b)) wide)
        (so b (each_left IsPlainItem items (item ∷ []) plain) (less_before (length items) b wide) from) next))

    -- ---- assertions of which one is to leave nothing

    whole_plain : (b : ℕ) (m : PureMatch S) (leaves : PureLeaves S) → IsPlainMatch Plain b m → EndsWhole stands m leaves → ArePlainLeaves Plain b leaves
    whole_plain b m leaves from (c, (nothing, ends)) = by c ends
      where
        by : (c : Bool) → leaves ≡ whole_where m c → ArePlainLeaves Plain b leaves
        by true is = subst (ArePlainLeaves Plain b) (sym is) (record { matched = (from, tt); stopped = tt; none_undecided = refl })
        by false is = subst (ArePlainLeaves Plain b) (sym is) (record { matched = tt; stopped = (from.decided, tt); none_undecided = refl })

    ended_plain : (b : ℕ) (before after : PureLeaves S) → ArePlainLeaves Plain b before → EndWhole stands before after → ArePlainLeaves Plain b after
    ended_plain b before after are (next, (gathers, is)) =
        subst (ArePlainLeaves Plain b) (sym is)
        (joined_plain b (record { matched = []; stopped = before.stopped; undecided = before.undecided }) next (rest_plain b before are)
        (gathered_plain b (EndsWhole stands) (IsPlainMatch Plain b) (whole_plain b) before.matched next are.matched gathers))

    pub posts_begin_plain : (s : PureState S) (bs : PureStore) → PostsStayPlain Plain [] s bs (all_stop 0 s)
    posts_begin_plain s bs b from = record { matched = tt; stopped = (conds_up b (widened 0 b) (omega arith) s.conds from.decided, tt); none_undecided = refl }

    counted : (posts : List (List PureItem)) (items : List PureItem) → item_count (posts ++ items ∷ []) ≡ item_count posts + length items
    counted [] items = omega arith
    counted (first ∷ posts) items = let later = counted posts items in omega (arith, later)

    both_widened : (m n b : ℕ) → widened n (widened m b) ≡ widened (m + n) b
    both_widened m n b = omega arith

    no_wider : (m n b : ℕ) → widened (m + n) b ≤ narrow_bound → widened m b ≤ narrow_bound
    no_wider m n b narrow = omega (arith, narrow)

    widened_up : (n b : ℕ) → b ≤ widened n b
    widened_up n b = omega arith

    module _ (cases : Cases) (scope : List Param) (s : PureState S) (bs : PureStore) (posts : List (List PureItem)) (items : List PureItem) where
      copied : (d : ℕ) (c : PureStop) (r : PureState S) → IsRenewed stands terms kept s c.conds r → Plain d s.memory → Plain d r.memory
      copied d c r renewed is = record { keeps_plain = is.keeps_plain; plain = subst (λ (ts : StateTerms). IsPlainState memory ts (neg_ℤ (pos d)) (pos d)) (sym renewed.memory.same_terms) is.plain }

      tried_plain : (d : ℕ) → Each IsPlainItem items → widened (length items) d ≤ narrow_bound → IsPlainStore d bs → Plain d s.memory → length s.vars < 2 ^ 40 → (c : PureStop) (leaves : PureLeaves S) → AreDecided d c.conds
          → TriedAt stands terms kept Plain cases scope items s bs c leaves → ArePlainLeaves Plain (widened (length items) d) leaves
      tried_plain d plain narrow store plain_memory few c leaves conds (r, (renewed, (first, (are, ends)))) =
          let same_conds : c.conds ≡ r.conds = sym (ap (λ (q : PureState S). q.conds) renewed.is) in
          let same_vars : s.vars ≡ r.vars = sym (ap (λ (q : PureState S). q.vars) renewed.is) in
          ended_plain (widened (length items) d) first leaves
          (are.1 d plain narrow (record { decided = subst (AreDecided d) same_conds conds; plain_memory = copied d c r renewed plain_memory; store = store; few = subst (λ (vs : List Sort). length vs < 2 ^ 40) same_vars few })) ends

      pub posts_more_plain : (before after : PureLeaves S) → PostsStayPlain Plain posts s bs before → NextWhole stands terms kept Plain cases scope items s bs before after → PostsStayPlain Plain (posts ++ items ∷ []) s bs after
      posts_more_plain before after so (next, (gathers, is)) b from =
          let m : ℕ = item_count posts in
          let n : ℕ = length items in
          let narrow : widened (m + n) b ≤ narrow_bound = subst (λ k. widened k b ≤ narrow_bound) (counted posts items) from.narrow in
          let d : ℕ = widened m b in
          let wide : widened n d ≤ narrow_bound = subst (λ k. k ≤ narrow_bound) (sym (both_widened m n b)) narrow in
          let old : ArePlainLeaves Plain d before = so b (record { items = each_left (Each IsPlainItem) posts (items ∷ []) from.items; narrow = no_wider m n b narrow; decided = from.decided; plain_memory = from.plain_memory; store = from.store; few = from.few }) in
          let more : ArePlainLeaves Plain (widened n d) next =
          gathered_plain (widened n d) (TriedAt stands terms kept Plain cases scope items s bs) (λ c. AreDecided d c.conds)
          (tried_plain d (each_right (Each IsPlainItem) posts (items ∷ []) from.items).0 wide (store_up b d (widened_up m b) bs from.store) (memory_up b d (widened_up m b) s.memory from.plain_memory) from.few) before.stopped next old.stopped gathers in
          let kept_old : ArePlainLeaves Plain (widened n d) (record { matched = before.matched; stopped = []; undecided = before.undecided })
          = let up = leaves_up d (widened n d) (widened_up n d) before old in record { matched = up.matched; stopped = tt; none_undecided = up.none_undecided } in
          subst (λ k. ArePlainLeaves Plain (widened k b) after) (sym (counted posts items))
          (subst (λ k. ArePlainLeaves Plain k after) (both_widened m n b)
          (subst (ArePlainLeaves Plain (widened n d)) (sym is) (joined_plain (widened n d) (record { matched = before.matched; stopped = []; undecided = before.undecided }) next kept_old more)))

    -- ---- what is answered

    module _ (s : PureState S) (If : Premise) (Gives : Giving) (Stops : Stopping) (leaves : PureLeaves S) (are : AreLeaves stands terms kept s If Gives Stops leaves) (b : ℕ) (narrow : b ≤ narrow_bound) (few : length s.vars < 2 ^ 40) (plain : ArePlainLeaves Plain b leaves) where
      stop_in_fragment : (c : PureStop) → IsStop stands terms kept s If Stops c × AreDecided b c.conds → InFragment c.conds
      stop_in_fragment c (stop, decided) = decided_in_fragment b narrow s.vars c.conds few (each_over_all s.vars c.conds stop.over) decided

      by_told : (told : PureTold) (answer : PureMatching S) → TellsStops s.vars leaves.stopped told → AnswersTold told leaves.matched leaves.undecided answer → IsDecidedMatching answer
      by_told (met c v) answer tells is =
          subst IsDecidedMatching (sym is)
          (one_with (λ d. IsStop stands terms kept s If Stops d × AreDecided b d.conds) (λ d. (d ≡ c) × IsSolution s.vars c.conds v) leaves.stopped
          (each_both (IsStop stands terms kept s If Stops) (λ d. AreDecided b d.conds) leaves.stopped are.stopped plain.stopped) tells
          (λ d stop (same, solution). subst (λ (x : PureStop). InFragment x.conds) same (stop_in_fragment d stop)))
      by_told (outside u) answer tells is =
          absurd (one_with (λ c. IsStop stands terms kept s If Stops c × AreDecided b c.conds) (λ c. (c.conds ≡ u.conds) × IsOutside u.conds u.reason) leaves.stopped
          (each_both (IsStop stands terms kept s If Stops) (λ c. AreDecided b c.conds) leaves.stopped are.stopped plain.stopped) tells
          (λ c stop (same, out). out.outside (subst InFragment same (stop_in_fragment c stop))))
      by_told never answer tells is = ⊎_elim (λ (none, all). subst IsDecidedMatching (sym all) tt)
          (λ one. absurd (subst (λ (us : List PureUndecided). OneOf (λ u. answer ≡ unknown u.conds u.reason) us) plain.none_undecided one)) is

      pub answer_decided : (answer : PureMatching S) → AnswersLeaves s.vars leaves answer → IsDecidedMatching answer
      answer_decided answer (told, (tells, is)) = by_told told answer tells is
