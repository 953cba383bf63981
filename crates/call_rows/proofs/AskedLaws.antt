-- What answers, doubts and matches add to conditions.
use Rattle.std.proofs.Common.{◌≡◌, ◌⊎◌, ⊎_elim, inl, inr, ℕ, List, [], ◌∷◌, ◌++◌, Option, Some, None, refl, sym, ap, subst, ◌∙◌, append_assoc, append-nil}
use Rattle.gil_values.specs.declared.places.Place.{Place}
use Rattle.gil_values.specs.Pure.{PureValue}
use Rattle.gil_syntax.specs.declared.assertions.Param.{Param}
use Rattle.gil_syntax.specs.Pure.{PureParts, PureItem, PureSpec}
use Rattle.mem_model.specs.Heaps.{Heap}
use Rattle.footprint.specs.Origins.{Origin, AnswerComesFrom, IsOneOf, EndComesFrom, origin_of, AddsOwn as AddsOwnTo, IsOwnToMatching, MayReach, Reached, stands}
use Rattle.footprint.specs.Pure.{PureMatch, PureMatching}
use Rattle.pure_terms.specs.declared.variables.Sort.{Sort}
use Rattle.pure_terms.specs.Pure.{PureTerm, PureAtom}
use Rattle.sym_evaluation.specs.Pure.{PureStore, term_at}
use Rattle.sym_matching.specs.Origins.{AddsOnlyTo}
use Rattle.sym_model.specs.Lists.{Each, OneOf}
use Rattle.sym_model.specs.Terms.{StateTerms}
use Rattle.sym_model.proofs.ListLaws.{each_append, each_to, one_to}
use Rattle.sym_paths.specs.Pure.{PureFrame, PureEnd, returned, failed, threw, missed, vanished, cut, unknown, PurePath}
use Rattle.sym_paths.specs.Steps.{AddsOwn}
use Rattle.sym_states.specs.Pure.{PureFact, PureState}
use Rattle.sym_states.proofs.Values.{only}
use Rattle.sym_unfolding.specs.Origins.{IsVariableOf, AsksAdding, IsAddedFrom}
use Rattle.sym_unfolding.proofs.OriginLaws.{added_asks}
use Rattle.checked_paths.specs.Causes.{PureCause, shown_in, cause_view, shown_of, ShowsEnd}
use Rattle.checked_paths.specs.Exactness.{HaveMoreOf, AddsOnly}
use Rattle.checked_paths.specs.Following.{IsAnswerTo, IsAnswered}
use Rattle.checked_paths.specs.Meaning.{EachWith}
use Rattle.checked_paths.specs.Pure.{PureEntry, PurePassed, PureChecking, PureNext, further, over, caused}
use Rattle.checked_paths.specs.declared.nexts.FaultKind.{FaultKind}
use Rattle.checked_paths.proofs.Exact.{adds_own}
use Rattle.checked_paths.proofs.Lists.{each_across}
use Rattle.checked_rows.specs.Asked.{DoubtAdds}
use Rattle.checked_rows.specs.Asking.{AddsTo, AsksMatching}
use Rattle.checked_rows.specs.Doubts.{PureDoubt, always, under, beyond, doubt_cause, IsDoubtNext, IsDoubtAlone, IsToldThere}
use Rattle.call_rows.specs.declared.leaving.Completion.{Completion}
use Rattle.call_rows.specs.Asked.{AddsToState, AsksCompleting, AsksPost, AsksPosts, AsksMatched, AddsToMatch, AsksFitting}
use Rattle.call_rows.specs.Leaving.{with_number}
use Rattle.call_rows.specs.Matches.{scope_of}
use Rattle.call_rows.specs.Posts.{PureReady, IsReady}

-- ---- conditions with others behind them

-- these, which are others with such ones behind them, with further ones
more_behind : (P Q T : PureAtom → Type 0) → ((a : PureAtom) → P a → T a) → ((a : PureAtom) → Q a → T a) → (conds before longer : List PureAtom) → HaveMoreOf P conds before → HaveMoreOf Q before longer → HaveMoreOf T conds longer
more_behind P Q T first second conds before longer (more, (is, all)) (rest, (is_longer, each)) =
    (more ++ rest, (is_longer ∙ ap (λ cs. cs ++ rest) is ∙ append_assoc conds more rest, each_append T more rest (each_to P T more first all) (each_to Q T rest second each)))

pub no_more : (P : PureAtom → Type 0) (conds : List PureAtom) → HaveMoreOf P conds conds
no_more P conds = ([], (sym (append-nil conds), tt))

-- ---- answers

module _ {S : Type 0} where
  pub adds_to : (P Q : PureAtom → Type 0) → ((a : PureAtom) → P a → Q a) → (conds : List PureAtom) (k : PureNext S) → AddsTo P conds k → AddsTo Q conds k
  adds_to P Q to conds (further y) (more, (is, all)) = (more, (is, each_to P Q more to all))
  adds_to P Q to conds over adds = tt
  adds_to P Q to conds (caused cause) (more, (is, all)) = (more, (is, each_to P Q more to all))

  -- ... behind conditions that are others with such ones behind them
  pub adds_behind : (P Q T : PureAtom → Type 0) → ((a : PureAtom) → P a → T a) → ((a : PureAtom) → Q a → T a) → (conds before : List PureAtom) → HaveMoreOf P conds before → (k : PureNext S) → AddsTo Q before k → AddsTo T conds k
  adds_behind P Q T first second conds before longer (further y) adds = more_behind P Q T first second conds before y.path.conds longer adds
  adds_behind P Q T first second conds before longer over adds = tt
  adds_behind P Q T first second conds before longer (caused cause) adds = more_behind P Q T first second conds before (shown_in (cause_view cause)).conds longer adds

  pub adds_only : (P : PureAtom → Type 0) (x : PureChecking S) (k : PureNext S) → AddsTo P x.path.conds k → AddsOnly P x k
  adds_only P x (further y) adds = adds
  adds_only P x over adds = tt
  adds_only P x (caused cause) adds = adds

  adds_in_all : (P : PureAtom → Type 0) (x : PureChecking S) (k : PureNext S) → AddsOnly P x k → AddsTo P x.path.conds k
  adds_in_all P x (further y) adds = adds
  adds_in_all P x over adds = tt
  adds_in_all P x (caused cause) adds = adds

  -- what is answered of a path has its conditions
  pub answer_adds : (means : S → List PureValue → Heap → Type 0) (terms : S → StateTerms) (P : PureAtom → Type 0) (facts : List PureFact) (passed : List (List (PurePassed S))) (here : Place) (next : PurePath S) (k : PureNext S) → IsAnswered means terms facts passed next k → ShowsEnd here next k → AddsTo P next.conds k
  answer_adds means terms P facts passed here next k answered shows =
      let x : PureChecking S = record { path = next; facts = facts; passed = passed } in
      let own : AddsOwn P next next = record { added = []; conds = sym (append-nil next.conds); each = tt } in
      adds_in_all P x k (adds_own means terms P x here (next ∷ []) (k ∷ []) (answered, tt) (shows, tt) (own, tt)).0

  -- what is answered to go on is the path itself
  same_further : (y z : PureChecking S) → further y ≡ further z → y ≡ z
  same_further y z is = cc

  pub further_path : (means : S → List PureValue → Heap → Type 0) (terms : S → StateTerms) (facts : List PureFact) (passed : List (List (PurePassed S))) (next : PurePath S) (y : PureChecking S) (o : Option PureEnd) → IsAnswerTo means terms facts passed next o (further y) → y.path ≡ next
  further_path means terms facts passed next y None (z, (is, with_it)) = ap (λ (x : PureChecking S). x.path) (same_further y z is) ∙ with_it.same_path
  further_path means terms facts passed next y (Some vanished) answer = absurd (cc)
  further_path means terms facts passed next y (Some (returned t)) answer = absurd answer
  further_path means terms facts passed next y (Some (failed t place)) answer = absurd answer
  further_path means terms facts passed next y (Some (threw t place)) answer = absurd answer
  further_path means terms facts passed next y (Some (missed k place)) answer = absurd answer
  further_path means terms facts passed next y (Some cut) answer = absurd answer
  further_path means terms facts passed next y (Some (unknown place reason)) answer = absurd answer

  -- where it is the one answer, nothing is added
  pub alone_adds : (P : PureAtom → Type 0) (y : PureChecking S) (ks : List (PureNext S)) → ks ≡ further y ∷ [] → Each (AddsTo P y.path.conds) ks
  alone_adds P y ks are = subst (Each (AddsTo P y.path.conds)) (sym are) (no_more P y.path.conds, tt)

  -- ---- conditions that are kept

  pub conds_kept : (next path : PurePath S) (fs : List PureFrame) → next ≡ record path { stack = fs } → next.conds ≡ path.conds
  conds_kept next path fs is = ap (λ (q : PurePath S). q.conds) is

  pub numbered_conds : (s r : PureState S) (number : ℕ) → r ≡ with_number s number → r.conds ≡ s.conds
  numbered_conds s r number is = ap (λ (q : PureState S). q.conds) is

  -- ---- doubts

  shown_adds : (P : PureAtom → Type 0) (kind : FaultKind) (here : Place) (path : PurePath S) (doubt : PureDoubt) (c : PureCause) → c ≡ doubt_cause kind (shown_of here path) doubt → DoubtAdds P path.conds doubt → HaveMoreOf P path.conds (shown_in c).conds
  shown_adds P kind here path always c is adds = subst (λ d. HaveMoreOf P path.conds (shown_in d).conds) (sym is) (no_more P path.conds)
  shown_adds P kind here path (under conds u) c is adds = subst (λ d. HaveMoreOf P path.conds (shown_in d).conds) (sym is) adds
  shown_adds P kind here path (beyond conds reason) c is adds = subst (λ d. HaveMoreOf P path.conds (shown_in d).conds) (sym is) adds

  pub doubt_adds : (P : PureAtom → Type 0) (kind : FaultKind) (here : Place) (path : PurePath S) (doubt : PureDoubt) (k : PureNext S) → IsDoubtNext kind here path doubt k → DoubtAdds P path.conds doubt → AddsTo P path.conds k
  doubt_adds P kind here path doubt k (cause, (is, shows)) adds = subst (AddsTo P path.conds) (sym is) (shown_adds P kind here path doubt (cause_view cause) shows adds)

  pub doubt_alone_adds : (P : PureAtom → Type 0) (kind : FaultKind) (here : Place) (path : PurePath S) (doubt : PureDoubt) (ks : List (PureNext S)) → IsDoubtAlone kind here path doubt ks → DoubtAdds P path.conds doubt → Each (AddsTo P path.conds) ks
  doubt_alone_adds P kind here path doubt ks (cause, (is, shows)) adds = subst (Each (AddsTo P path.conds)) (sym is) (shown_adds P kind here path doubt (cause_view cause) shows adds, tt)

told_adds : (P : PureAtom → Type 0) (vars : List Sort) (conds more : List PureAtom) (doubt : PureDoubt) → IsToldThere vars conds more doubt → Each P more → DoubtAdds P conds doubt
told_adds P vars conds more always told all = tt
told_adds P vars conds more (under atoms u) (is, met) all = (more, (is, all))
told_adds P vars conds more (beyond atoms reason) (is, outside) all = (more, (is, all))

-- a doubt of one of these alternatives
pub one_told_adds : (P : PureAtom → Type 0) (vars : List Sort) (conds : List PureAtom) (alternatives : List (List PureAtom)) (doubt : PureDoubt) → Each (Each P) alternatives → OneOf (λ more. IsToldThere vars conds more doubt) alternatives → DoubtAdds P conds doubt
one_told_adds P vars conds [] doubt all one = absurd one
one_told_adds P vars conds (more ∷ rest) doubt all (inl here) = told_adds P vars conds more doubt here all.0
one_told_adds P vars conds (more ∷ rest) doubt all (inr later) = one_told_adds P vars conds rest doubt all.1 later

pub doubt_to : (P Q : PureAtom → Type 0) → ((a : PureAtom) → P a → Q a) → (conds : List PureAtom) (doubt : PureDoubt) → DoubtAdds P conds doubt → DoubtAdds Q conds doubt
doubt_to P Q to conds always adds = tt
doubt_to P Q to conds (under atoms u) (more, (is, all)) = (more, (is, each_to P Q more to all))
doubt_to P Q to conds (beyond atoms reason) (more, (is, all)) = (more, (is, each_to P Q more to all))

-- ---- postconditions

module _ {S : Type 0} (terms : S → StateTerms) (p : PureParts) (e : PureEntry) (how : Completion) (bs : PureStore) where
  -- each state to which the postcondition was added, and what is answered of it
  pub post_adds : (items : List PureItem) (s : PureState S) (rs : List (PureState S)) (ks : List (PureNext S)) → Each (IsAddedFrom terms bs [] items s) rs → EachWith (AddsToState (AsksCompleting p e how)) rs ks → Each (AddsTo (AsksPost p e how bs items) s.conds) ks
  post_adds items s rs ks added adds =
      each_across (AddsToState (AsksCompleting p e how)) (IsAddedFrom terms bs [] items s) (AddsTo (AsksPost p e how bs items) s.conds) rs ks adds
      (λ r k asks is.
      let before : HaveMoreOf (AsksAdding bs items) s.conds r.conds = subst (λ cs. HaveMoreOf (AsksAdding bs items) cs r.conds) (append-nil s.conds) (added_asks terms bs [] items s r is) in
      adds_behind (AsksAdding bs items) (AsksCompleting p e how) (AsksPost p e how bs items) (λ a asks. inl asks) (λ a asks. inr asks) s.conds r.conds before k asks) added

-- what the postconditions ask in a store to which new variables were added is what they ask before
adding_before : (bs later : PureStore) (items : List PureItem) (a : PureAtom) → AddsOnlyTo IsVariableOf bs later → AsksAdding later items a → AsksAdding bs items a
adding_before bs later items a given (after, (held, (names, one))) =
    (after, (held, (λ x t at. ⊎_elim (λ before. given x t before) (λ new. inr new) (names x t at), one)))

pub posts_before : (p : PureParts) (e : PureEntry) (how : Completion) (bs later : PureStore) (posts : List (List PureItem)) (a : PureAtom) → AddsOnlyTo IsVariableOf bs later → AsksPosts p e how later posts a → AsksPosts p e how bs posts a
posts_before p e how bs later posts a given asks =
    one_to (λ items. AsksPost p e how later items a) (λ items. AsksPost p e how bs items a) posts
    (λ items one. ⊎_elim (λ adding. inl (adding_before bs later items a given adding)) (λ ending. inr ending) one) asks

-- the result has its name by a new variable, if it had none
pub ready_names : {S : Type 0} (scope : List Param) (m : PureMatch S) (ready : PureReady S) → IsReady scope m ready → AddsOnlyTo IsVariableOf m.store ready.store
ready_names scope m ready is x t at = ⊎_elim (λ known. inl known) (λ new. inr (record { number = new.number; sort = new.sort }, new.is)) (is.naming.variables x t at)

pub ready_conds : {S : Type 0} (scope : List Param) (m : PureMatch S) (ready : PureReady S) → IsReady scope m ready → ready.state.conds ≡ m.state.conds
ready_conds {S} scope m ready is = ap (λ (s : PureState S). s.conds) is.state

-- the answers of both lists are those of the match
pub ready_adds : {S : Type 0} (p : PureParts) (e : PureEntry) (used : PureSpec) (m : PureMatch S) (ready : PureReady S) → IsReady (scope_of used) m ready → (back thrown : List (PureNext S))
    → Each (AddsTo (AsksPosts p e Completion.Returns ready.store used.posts) ready.state.conds) back → Each (AddsTo (AsksPosts p e Completion.Throws ready.store used.errors) ready.state.conds) thrown → AddsToMatch p e used m (back ++ thrown)
ready_adds {S} p e used m ready is back thrown first second =
    each_append (AddsTo (AsksMatched p e used m.store) m.state.conds) back thrown
    (each_to (AddsTo (AsksPosts p e Completion.Returns ready.store used.posts) ready.state.conds) (AddsTo (AsksMatched p e used m.store) m.state.conds) back
    (λ k adds. there (AsksPosts p e Completion.Returns ready.store used.posts) (λ a asks. inl (posts_before p e Completion.Returns m.store ready.store used.posts a names asks)) k adds) first)
    (each_to (AddsTo (AsksPosts p e Completion.Throws ready.store used.errors) ready.state.conds) (AddsTo (AsksMatched p e used m.store) m.state.conds) thrown
    (λ k adds. there (AsksPosts p e Completion.Throws ready.store used.errors) (λ a asks. inr (posts_before p e Completion.Throws m.store ready.store used.errors a names asks)) k adds) second)
  where
    names : AddsOnlyTo IsVariableOf m.store ready.store
    names = ready_names (scope_of used) m ready is

    there : (P : PureAtom → Type 0) → ((a : PureAtom) → P a → AsksMatched p e used m.store a) → (k : PureNext S) → AddsTo P ready.state.conds k → AddsTo (AsksMatched p e used m.store) m.state.conds k
    there P to k adds = adds_to P (AsksMatched p e used m.store) to m.state.conds k (subst (λ cs. AddsTo P cs k) (ready_conds (scope_of used) m ready is) adds)

-- ---- matches

-- matching the precondition begins in the state, with this store
abbrev pub From : {S : Type 0} → (S → StateTerms) → PureParts → PureSpec → PureStore → PureState S → Origin
From terms p used bs s = origin_of terms p.preds (scope_of used) (used.pre ∷ []) bs s

-- the answer comes from there, where the names and the store are these
pub comes_there : {S : Type 0} (terms : S → StateTerms) (p : PureParts) (used : PureSpec) (s : PureState S) (store bs : PureStore) (scope : List Param) → store ≡ bs → scope ≡ scope_of used → (r : PureMatching S)
    → AnswerComesFrom terms (origin_of terms p.preds scope (used.pre ∷ []) store s) (IsOneOf scope (used.pre ∷ [])) s.conds r → AnswerComesFrom terms (From terms p used bs s) (IsOneOf (scope_of used) (used.pre ∷ [])) s.conds r
comes_there terms p used s store bs scope same_store same_scope r comes =
    subst (λ cs. AnswerComesFrom terms (From terms p used cs s) (IsOneOf (scope_of used) (used.pre ∷ [])) s.conds r) same_store
    (subst (λ ps. AnswerComesFrom terms (origin_of terms p.preds ps (used.pre ∷ []) store s) (IsOneOf ps (used.pre ∷ [])) s.conds r) same_scope comes)

module _ {S : Type 0} (terms : S → StateTerms) (p : PureParts) (e : PureEntry) (used : PureSpec) (bs : PureStore) (s : PureState S) where
  pub matching_asks : (a : PureAtom) → IsOwnToMatching (From terms p used bs s) a → AsksMatching p.preds (scope_of used) bs (used.pre ∷ []) a
  matching_asks a own = (s.facts, (terms s.memory, own))

  -- conditions that matching adds
  pub unmatched_adds : (P : PureAtom → Type 0) → ((a : PureAtom) → AsksMatching p.preds (scope_of used) bs (used.pre ∷ []) a → P a) → (conds : List PureAtom) → AddsOwnTo (From terms p used bs s) s.conds conds → HaveMoreOf P s.conds conds
  unmatched_adds P to conds (more, (is, all)) = (more, (is, each_to (IsOwnToMatching (From terms p used bs s)) P more (λ a own. to a (matching_asks a own)) all))

  -- what is answered of a match
  pub match_adds : (m : PureMatch S) (ks : List (PureNext S)) → EndComesFrom terms (From terms p used bs s) (IsOneOf (scope_of used) (used.pre ∷ [])) s.conds m → AddsToMatch p e used m ks → Each (AddsTo (AsksFitting p e used bs) s.conds) ks
  match_adds m ks (scope, (items, ((same, among), comes))) adds =
      let is : used.pre ≡ items = only (λ xs. xs ≡ items) used.pre among in
      let reached : MayReach (From terms p used bs s) (record { scope = scope_of used; items = used.pre; stage = stands m.store; held = terms m.state.memory }) =
      subst (λ xs. MayReach (From terms p used bs s) (record { scope = scope_of used; items = xs; stage = stands m.store; held = terms m.state.memory })) (sym is)
      (subst (λ ps. MayReach (From terms p used bs s) (record { scope = ps; items = items; stage = stands m.store; held = terms m.state.memory })) same comes.reached) in
      let longer : HaveMoreOf (AsksMatching p.preds (scope_of used) bs (used.pre ∷ [])) s.conds m.state.conds = unmatched_adds (AsksMatching p.preds (scope_of used) bs (used.pre ∷ [])) (λ a asks. asks) m.state.conds comes.own in
      each_to (AddsTo (AsksMatched p e used m.store) m.state.conds) (AddsTo (AsksFitting p e used bs) s.conds) ks
      (λ k adds_one. adds_behind (AsksMatching p.preds (scope_of used) bs (used.pre ∷ [])) (AsksMatched p e used m.store) (AsksFitting p e used bs) (λ a asks. inl asks) (λ a asks. inr (m.store, ((s.facts, (terms s.memory, (terms m.state.memory, reached))), asks))) s.conds m.state.conds longer k adds_one) adds
