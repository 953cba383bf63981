-- Explorations of plain specifications stay plain.
use Rattle.std.proofs.Common.{◌≡◌, ◌⊎◌, ⊎_elim, inl, inr, ℕ, ◌+◌, ◌*◌, ◌^◌, ◌<◌, ◌≤◌, ℤ, pos, neg_ℤ, List, [], ◌∷◌, ◌++◌, length, true, Option, Some, None, IfSome, IsTrue, refl, sym, ap, subst, ◌∙◌, true≢false, arith}
use Rattle.gil_values.specs.declared.places.Place.{Place}
use Rattle.gil_values.specs.Pure.{PureValue}
use Rattle.gil_syntax.specs.Pure.{PureParts, PureItem, PureNumberedCommand, PureSpec}
use Rattle.gil_syntax.specs.Simple.{is_simple_command}
use Rattle.mem_model.specs.declared.keys.MemoryName.{MemoryName}
use Rattle.mem_model.specs.Actions.{Actions}
use Rattle.mem_model.specs.Heaps.{Heap}
use Rattle.pure_terms.specs.Fragment.{InFragment}
use Rattle.pure_terms.specs.Pure.{PureTerm, PureAtom, positive, negative, opening}
use Rattle.sym_paths.specs.Plain.{IsPlainItem}
use Rattle.sym_beginning.specs.Beginning.{PureStart, PureBeginnings}
use Rattle.sym_beginning.specs.Plainly.{ArePlainBeginnings, first_bound}
use Rattle.sym_engine.proofs.Fragments.{each_over_all}
use Rattle.sym_engine.proofs.SettledPlain.{plain_in_fragment}
use Rattle.sym_evaluation.specs.Plainly.{IsPlain, IsPlainStore}
use Rattle.sym_model.specs.Laws.{IsDecidedWithin}
use Rattle.sym_model.specs.Lists.{Each, OneOf}
use Rattle.sym_model.specs.Meaning.{has_open}
use Rattle.sym_model.specs.Terms.{StateTerms}
use Rattle.sym_model.proofs.ListLaws.{each_append, each_left, each_right, each_to, one_with}
use Rattle.sym_paths.specs.Meaning.{command_of_path}
use Rattle.sym_paths.specs.Pure.{PurePath}
use Rattle.sym_paths.specs.Steps.{IsPlainPath, step_growth, narrow_bound}
use Rattle.sym_states.specs.Plainly.{item_growth}
use Rattle.sym_states.proofs.Plainness.{plain_up}
use Rattle.footprint.specs.Plainly.{widened, item_count}
use Rattle.checked_paths.specs.Causes.{PureShown, PureCause, failure, fault, bound, undecided, cause_view, shown_of}
use Rattle.checked_paths.specs.Covering.{FollowsOn}
use Rattle.checked_paths.specs.declared.checking.Entered.{Entered}
use Rattle.checked_paths.specs.declared.nexts.Cause.{Cause}
use Rattle.checked_paths.specs.Meaning.{EachWith, MayGoOn}
use Rattle.checked_paths.specs.Plainly.{IsSureCause, OfNext, LeadsPlainly}
use Rattle.checked_paths.specs.Pure.{PureEntry, PureChecking, PureNext, further, over, caused}
use Rattle.checked_rows.specs.Plainly.{MayLeavePlainly, EndsPlainly}
use Rattle.spec_causes.specs.Causes.{MayBeMet}
use Rattle.spec_causes.specs.declared.meeting.Met.{Met}
use Rattle.spec_causes.specs.Reaching.{IsFoundCause, checked_start}
use Rattle.spec_causes.specs.Showing.{IsLeftOpen, HasValuation, IsShownAs}
use Rattle.spec_exploration.specs.Beginning.{IsUnknownStart, IsStartOf, AreStartsOf}
use Rattle.spec_exploration.specs.Exploring.{PureExploration, furthers, AreTaken, StartPlaced, IsCutAt, IsMetOf}
use Rattle.spec_exploration.specs.Inside.{IsInside}
use Rattle.spec_exploration.specs.Plain.{IsPlainSpec, bound_after, HasPlainTerms, IsPlainAt, IsPlainNext, StepsPlainly, StaysPlain}
use Rattle.spec_exploration.proofs.Inside.{there}

-- ---- numbers

one_after : (first n : ℕ) → (first + n * step_growth) + step_growth ≡ first + (n + 1) * step_growth
one_after first n = omega arith

none_after : (first : ℕ) → first ≡ first + 0 * step_growth
none_after first = omega arith

module _ (p : PureParts) (s : PureSpec) (is : IsPlainSpec p s) where
  narrow_there : (n : ℕ) → n ≤ 10000 → bound_after s n ≤ narrow_bound
  narrow_there n early =
      let few : length s.pre + (item_count s.posts + item_count s.errors) ≤ 10000 = is.few_items in
      omega (arith, early, few)

  narrow_then : (n : ℕ) → n < 10000 → bound_after s n + step_growth ≤ narrow_bound
  narrow_then n early =
      let few : length s.pre + (item_count s.posts + item_count s.errors) ≤ 10000 = is.few_items in
      omega (arith, early, few)

  narrow_with : (n k : ℕ) → n < 10000 → k ≤ item_count s.posts + item_count s.errors → widened k (bound_after s n + step_growth) ≤ narrow_bound
  narrow_with n k early among =
      let few : length s.pre + (item_count s.posts + item_count s.errors) ≤ 10000 = is.few_items in
      omega (arith, early, few, among)

  -- ---- commands

  pub simple_there : {S : Type 0} (path : PurePath S) (n : PureNumberedCommand) → command_of_path p path ≡ Some n → IsInside p s path → IsTrue (is_simple_command n.command)
  simple_there path n at inside = let (f, (may, has)) = there p s path.stack n at inside in is.simple f n.command may has

  module _ {S : Type 0} (plain : S → ℤ → ℤ → Type 0) (path : PurePath S) (early : path.steps < 10000) (n : PureNumberedCommand) (at : command_of_path p path ≡ Some n) (inside : IsInside p s path) where
    -- at a command that stays plain
    pub row_plain : (ks : List (PureNext S)) → LeadsPlainly p plain path ks → StepsPlainly plain s path ks
    row_plain ks leads from =
        subst (λ b. Each (OfNext (IsPlainPath plain b)) ks) (one_after (first_bound s) path.steps)
        (leads n (bound_after s path.steps) at (simple_there path n at inside) (narrow_then path.steps early) from)

    module _ (e : PureEntry) (of_spec : e.spec ≡ s) (terms : HasPlainTerms e) where
      store_up : (b : ℕ) → IsPlainStore b e.variables
      store_up b x t is_t = plain_up 0 b (omega arith) t (terms.variables x t is_t)

      may_leave : (posts : List (List PureItem)) → Each (Each IsPlainItem) posts → item_count posts ≤ item_count s.posts + item_count s.errors → MayLeavePlainly (bound_after s path.steps + step_growth) e posts
      may_leave posts items among = record {
        args = each_to (IsPlain 0) (IsPlain (bound_after s path.steps + step_growth)) e.args (λ t is_t. plain_up 0 (bound_after s path.steps + step_growth) (omega arith) t is_t) terms.args;
        variables = store_up (bound_after s path.steps + step_growth);
        items = items;
        narrow = narrow_with path.steps (item_count posts) early among;
      }

      -- at a return or a throw
      pub end_plain : (ks : List (PureNext S)) → EndsPlainly p plain e path ks → StepsPlainly plain s path ks
      end_plain ks ends from =
          subst (λ b. Each (OfNext (IsPlainPath plain b)) ks) (one_after (first_bound s) path.steps)
          (ends n (bound_after s path.steps) at (simple_there path n at inside) (narrow_then path.steps early) from
          (subst (λ (q : PureSpec). MayLeavePlainly (bound_after s path.steps + step_growth) e q.posts) (sym of_spec) (may_leave s.posts is.posts (omega arith)))
          (subst (λ (q : PureSpec). MayLeavePlainly (bound_after s path.steps + step_growth) e q.errors) (sym of_spec) (may_leave s.errors is.errors (omega arith))))

  -- ---- answers

  module _ {S : Type 0} (plain : S → ℤ → ℤ → Type 0) where
    pub nexts_plain : (terms : S → StateTerms) (e : PureEntry) (x : PureChecking S) (ks : List (PureNext S)) → Each (FollowsOn p terms e x) ks → Each (OfNext (IsPlainPath plain (bound_after s (x.path.steps + 1)))) ks
        → Each (IsPlainNext plain s) ks
    nexts_plain terms e x [] follows are = tt
    nexts_plain terms e x (further y ∷ ks) follows are = (subst (λ n. IsPlainPath plain (bound_after s n) y.path) (sym follows.0.1) are.0, nexts_plain terms e x ks follows.1 are.1)
    nexts_plain terms e x (over ∷ ks) follows are = (tt, nexts_plain terms e x ks follows.1 are.1)
    nexts_plain terms e x (caused cause ∷ ks) follows are = (are.0, nexts_plain terms e x ks follows.1 are.1)

    -- the bound is reached
    pub cut_plain : (terms : S → StateTerms) (e : PureEntry) (x : PureChecking S) (cause : Cause) → MayGoOn p terms e x → x.path.steps ≤ 10000 → IsPlainAt plain s x.path → IsCutAt p x.path (cause_view cause) → IsSureCause (cause_view cause)
    cut_plain terms e x cause may within from (here, (place, is_cut)) =
        subst IsSureCause (sym is_cut)
        (plain_in_fragment plain (bound_after s x.path.steps) x.path (narrow_there x.path.steps within) (omega (arith, within)) (each_over_all x.path.vars x.path.conds may.over.path.conds) from)

    -- ---- explorations

    furthers_plain : (ns : List (PureNext S)) → Each (IsPlainNext plain s) ns → Each (λ y. IsPlainAt plain s y.path) (furthers ns)
    furthers_plain [] are = tt
    furthers_plain (further y ∷ ns) are = (are.0, furthers_plain ns are.1)
    furthers_plain (over ∷ ns) are = furthers_plain ns are.1
    furthers_plain (caused cause ∷ ns) are = furthers_plain ns are.1

    if_some : (o : Option Cause) (P : Cause → Type 0) → ((c : Cause) → o ≡ Some c → P c) → IfSome o P
    if_some (Some c) P so = so c refl
    if_some None P so = tt

    some_holds : (o : Option Cause) (P : Cause → Type 0) (c : Cause) → o ≡ Some c → IfSome o P → P c
    some_holds o P c is_c holds = subst (λ (q : Option Cause). IfSome q P) is_c holds

    pub taken_plain : (before after : PureExploration S) (ns : List (PureNext S)) → AreTaken before ns after → StaysPlain plain s before → Each (IsPlainNext plain s) ns → StaysPlain plain s after
    taken_plain before after ns taken stays are = record {
      left = subst (Each (λ y. IsPlainAt plain s y.path)) (sym taken.left) (each_append (λ y. IsPlainAt plain s y.path) before.left (furthers ns) stays.left (furthers_plain ns are));
      cause = if_some after.cause (λ c. IsSureCause (cause_view c)) (λ c is_c.
          ⊎_elim (λ (old : before.cause ≡ Some c). some_holds before.cause (λ d. IsSureCause (cause_view d)) c old stays.cause)
          (λ one. one_with (IsPlainNext plain s) (λ n. n ≡ caused c) ns are one (λ n sure same. subst (IsPlainNext plain s) same sure)) (taken.cause c is_c));
    }

    pub apart_plain : (all : PureExploration S) (left : List (PureChecking S)) (x : PureChecking S) → all.left ≡ left ++ x ∷ [] → StaysPlain plain s all → StaysPlain plain s (record all { left = left }) × IsPlainAt plain s x.path
    apart_plain all left x is_left stays =
        let each : Each (λ y. IsPlainAt plain s y.path) (left ++ x ∷ []) = subst (Each (λ y. IsPlainAt plain s y.path)) is_left stays.left in
        (record { left = each_left (λ y. IsPlainAt plain s y.path) left (x ∷ []) each; cause = stays.cause }, (each_right (λ y. IsPlainAt plain s y.path) left (x ∷ []) each).0)

    -- ---- starts

    open_decided : (low high : ℤ) (conds : List PureAtom) → Each (IsDecidedWithin low high) conds → has_open conds ≡ true → ⊥
    open_decided low high [] decided opened = true≢false (sym opened)
    open_decided low high (positive t ∷ conds) decided opened = open_decided low high conds decided.1 opened
    open_decided low high (negative t ∷ conds) decided opened = open_decided low high conds decided.1 opened
    open_decided low high (opening t ∷ conds) decided opened = true≢false (sym decided.0.0)

    no_doubt : (here : Place) (start : PureStart S) (b : ℕ) → IsPlainPath plain b start.path → (cause : PureCause) → IsUnknownStart here start cause → ⊥
    no_doubt here start b from (undecided reason shown) left_out = open_decided (neg_ℤ (pos b)) (pos b) start.path.conds from.conds left_out.needed
    no_doubt here start b from (failure t shown) left_out = left_out
    no_doubt here start b from (fault kind shown) left_out = left_out
    no_doubt here start b from (bound shown) left_out = left_out

    start_plain : (terms : S → StateTerms) (e : PureEntry) (here : Place) (start : PureStart S) (k : PureNext S) → IsPlainPath plain (first_bound s) start.path → IsStartOf here start k → StartPlaced p terms e k → IsPlainNext plain s k
    start_plain terms e here start (further y) from taken (may, none) =
        let same : y.path ≡ start.path = ap (λ (x : PureChecking S). x.path) taken.is in
        subst (λ n. IsPlainPath plain (bound_after s n) y.path) (sym none)
        (subst (λ b. IsPlainPath plain b y.path) (none_after (first_bound s)) (subst (IsPlainPath plain (first_bound s)) (sym same) from))
    start_plain terms e here start over from taken placed = tt
    start_plain terms e here start (caused cause) from taken placed = absurd (no_doubt here start (first_bound s) from (cause_view cause) taken)

    across : (terms : S → StateTerms) (e : PureEntry) (here : Place) (xs : List (PureStart S)) (ks : List (PureNext S)) → EachWith (IsStartOf here) xs ks → Each (λ start. IsPlainPath plain (first_bound s) start.path × (start.facts ≡ [])) xs
        → Each (StartPlaced p terms e) ks → Each (IsPlainNext plain s) ks
    across terms e here [] [] pairs all placed = tt
    across terms e here [] (k ∷ ks) pairs all placed = absurd pairs
    across terms e here (x ∷ xs) [] pairs all placed = absurd pairs
    across terms e here (x ∷ xs) (k ∷ ks) pairs all placed = (start_plain terms e here x k all.0.0 pairs.0 placed.0, across terms e here xs ks pairs.1 all.1 placed.1)

    pub starts_plain : (terms : S → StateTerms) (e : PureEntry) (here : Place) (b : PureBeginnings S) (ks : List (PureNext S)) → ArePlainBeginnings plain s b → AreStartsOf here b.starts ks → Each (StartPlaced p terms e) ks → Each (IsPlainNext plain s) ks
    starts_plain terms e here b ks from starts placed = across terms e here b.starts ks starts from.starts placed

-- ---- what is shown

module _ (p : PureParts) (memory : MemoryName) (m : Actions) (most : ℕ) (e : PureEntry) where
  open_never : (shown : PureShown) (reason : _) → InFragment shown.conds → MayBeMet shown.vars shown.conds → IsLeftOpen shown reason → ⊥
  open_never shown reason decided may open_left =
      ⊎_elim (λ outside. outside decided) (λ never. ⊎_elim (λ (w, meets). never w meets) (λ outside. outside decided) may) open_left.outside

  valued : (before after : PureShown) → HasValuation before after → InFragment before.conds → InFragment after.conds
  valued before after has decided = subst (λ (x : PureShown). InFragment x.conds) (sym has.same_else) decided

  shown_sure : (before after : PureCause) → IsFoundCause p memory m e most before → IsSureCause before → IsShownAs before after → IsSureCause after
  shown_sure (undecided q shown) after found sure is = absurd sure
  shown_sure (failure t shown) (failure u after) found sure is = valued shown after is.1 sure
  shown_sure (failure t shown) (undecided reason after) found sure is = open_never shown reason sure found.may_be_met is.1
  shown_sure (failure t shown) (fault k after) found sure is = absurd is
  shown_sure (failure t shown) (bound after) found sure is = absurd is
  shown_sure (fault kind shown) (fault k after) found sure is = valued shown after is.1 sure
  shown_sure (fault kind shown) (undecided reason after) found sure is = open_never shown reason sure found.may_be_met is.1
  shown_sure (fault kind shown) (failure t after) found sure is = absurd is
  shown_sure (fault kind shown) (bound after) found sure is = absurd is
  shown_sure (bound shown) (bound after) found sure is = valued shown after is sure
  shown_sure (bound shown) (undecided reason after) found sure is = open_never shown reason sure found.may_be_met is.1
  shown_sure (bound shown) (failure t after) found sure is = absurd is
  shown_sure (bound shown) (fault k after) found sure is = absurd is

  pub met_sure : (cause : Option Cause) (entered : Entered) (o : Option Met) → IsMetOf cause entered o → IfSome cause (λ c. IsFoundCause p memory m e most (cause_view c)) → IfSome cause (λ c. IsSureCause (cause_view c))
      → IfSome o (λ x. IsSureCause (cause_view x.cause))
  met_sure (Some c) entered (Some x) (same, shown) found sure = shown_sure (cause_view c) (cause_view x.cause) found sure shown
  met_sure (Some c) entered None is found sure = absurd is
  met_sure None entered (Some x) is found sure = absurd is
  met_sure None entered None is found sure = tt
