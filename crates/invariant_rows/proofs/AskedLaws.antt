-- The conditions that answers have more than those with which they begin.
use Rattle.std.proofs.Common.{◌≡◌, inl, inr, ℕ, List, [], ◌∷◌, ◌++◌, Some, refl, sym, ap, subst, ◌∙◌, append_assoc}
use Rattle.std.proofs.lemmas.List.{append-nil}
use Rattle.gil_values.specs.declared.places.Place.{Place}
use Rattle.gil_values.specs.Pure.{PureValue}
use Rattle.gil_syntax.specs.declared.assertions.Param.{Param}
use Rattle.gil_syntax.specs.Pure.{PureParts, PureItem, PureNumberedCommand, loop_invariant, PureSpec}
use Rattle.gil_syntax.specs.Valid.{param_names}
use Rattle.mem_model.specs.Heaps.{Heap}
use Rattle.pure_terms.specs.declared.deciders.Reason.{Reason}
use Rattle.pure_terms.specs.declared.variables.Sort.{Sort}
use Rattle.pure_terms.specs.Pure.{PureTerm, PureAtom}
use Rattle.sym_evaluation.specs.Pure.{PureStore}
use Rattle.sym_matching.specs.Origins.{AsksElements}
use Rattle.sym_model.proofs.ListLaws.{each_to, each_append}
use Rattle.sym_model.specs.Alternatives.{Alternatives}
use Rattle.sym_model.specs.Lists.{Each}
use Rattle.sym_model.specs.Terms.{StateTerms}
use Rattle.sym_paths.specs.Frames.{running_store, terms_bound}
use Rattle.sym_paths.specs.Meaning.{command_of_path}
use Rattle.sym_paths.specs.Pure.{PureFrame, PurePath}
use Rattle.sym_states.specs.Pure.{PureState}
use Rattle.footprint.specs.Origins.{IsOwnToMatching, AddsOwn, EndComesFrom, IsOneOf}
use Rattle.footprint.specs.Pure.{PureMatch, PureStop, all_match, unmatched, unknown}
use Rattle.checked_paths.specs.declared.nexts.FaultKind.{FaultKind}
use Rattle.checked_paths.specs.Causes.{PureCause, cause_view, shown_in, shown_of}
use Rattle.checked_paths.specs.Exactness.{HaveMoreOf, AddsOnly}
use Rattle.checked_paths.specs.Pure.{PureEntry, PurePassed, PureChecking, PureNext, further, over, caused}
use Rattle.checked_rows.specs.Asked.{HasConds, DoubtAdds, MatchingAsks}
use Rattle.checked_rows.specs.Asking.{origin_in, AddsTo, AsksAsBefore, AreLogicals, MayAsk, NamesThere, MayAskAt, AsksOnlyOwn}
use Rattle.checked_rows.specs.Doubts.{PureDoubt, always, under, beyond, doubt_cause, IsDoubtNext, IsDoubtAlone}
use Rattle.checked_rows.specs.Names.{variables_there, logicals_there, AreNames}
use Rattle.invariant_rows.specs.Asked.{AsksNames, AsksTwo, AreComparisons, AsksAddingAnew, AsksVisitThere}
use Rattle.invariant_rows.specs.Fitting.{DoubtsOne}
use Rattle.invariant_rows.specs.Visiting.{DoubtsBefore}

-- ---- conditions behind others

pub more_to : {A : Type 0} (P Q : A → Type 0) (xs ys : List A) → ((a : A) → P a → Q a) → HaveMoreOf P xs ys → HaveMoreOf Q xs ys
more_to P Q xs ys to (more, (is, all)) = (more, (is, each_to P Q more to all))

pub more_after : {A : Type 0} (P : A → Type 0) (xs ys zs : List A) → HaveMoreOf P xs ys → HaveMoreOf P ys zs → HaveMoreOf P xs zs
more_after P xs ys zs (more, (is, all)) (later, (are, each)) =
    (more ++ later, (are ∙ (ap (λ l. l ++ later) is ∙ append_assoc xs more later), each_append P more later all each))

pub no_more : {A : Type 0} (P : A → Type 0) (xs : List A) → HaveMoreOf P xs xs
no_more P xs = ([], (sym (append-nil xs), tt))

-- the conditions of the state that a match leaves
pub left_conds : {S : Type 0} (P : List PureAtom → Type 0) (m : PureMatch S) (s : PureState S) → s ≡ m.state → P m.state.conds → P s.conds
left_conds {S} P m s is there = subst (λ (q : PureState S). P q.conds) (sym is) there

module _ {S : Type 0} where
  pub adds_to : (P Q : PureAtom → Type 0) (conds : List PureAtom) (k : PureNext S) → ((a : PureAtom) → P a → Q a) → AddsTo P conds k → AddsTo Q conds k
  adds_to P Q conds (further y) to adds = more_to P Q conds y.path.conds to adds
  adds_to P Q conds over to adds = tt
  adds_to P Q conds (caused cause) to adds = more_to P Q conds (shown_in (cause_view cause)).conds to adds

  -- an answer has just these conditions, which are others and such ones behind them
  pub same_adds : (own : PureAtom → Type 0) (conds there : List PureAtom) (k : PureNext S) → HaveMoreOf own conds there → HasConds there k → AddsTo own conds k
  same_adds own conds there (further y) more same = subst (HaveMoreOf own conds) (sym same) more
  same_adds own conds there over more same = tt
  same_adds own conds there (caused cause) more same = subst (HaveMoreOf own conds) (sym same) more

  -- beside the conditions of a state, which has more than the path
  pub adds_only : (own : PureAtom → Type 0) (x : PureChecking S) (conds : List PureAtom) (k : PureNext S) → HaveMoreOf own x.path.conds conds → AddsTo own conds k → AddsOnly own x k
  adds_only own x conds (further y) first adds = more_after own x.path.conds conds y.path.conds first adds
  adds_only own x conds over first adds = tt
  adds_only own x conds (caused cause) first adds = more_after own x.path.conds conds (shown_in (cause_view cause)).conds first adds

  pub only_to : (P Q : PureAtom → Type 0) (x : PureChecking S) (k : PureNext S) → ((a : PureAtom) → P a → Q a) → AddsOnly P x k → AddsOnly Q x k
  only_to P Q x (further y) to adds = more_to P Q x.path.conds y.path.conds to adds
  only_to P Q x over to adds = tt
  only_to P Q x (caused cause) to adds = more_to P Q x.path.conds (shown_in (cause_view cause)).conds to adds

-- ---- doubts

module _ {S : Type 0} (own : PureAtom → Type 0) (kind : FaultKind) (here : Place) where
  -- the cause that a doubt is
  shown_adds : (path : PurePath S) (conds : List PureAtom) (doubt : PureDoubt) (cause : PureCause) → (doubt ≡ always → HaveMoreOf own conds path.conds) → DoubtAdds own conds doubt → cause ≡ doubt_cause kind (shown_of here path) doubt
      → HaveMoreOf own conds (shown_in cause).conds
  shown_adds path conds always cause surely adds shows = subst (λ c. HaveMoreOf own conds (shown_in c).conds) (sym shows) (surely refl)
  shown_adds path conds (under atoms u) cause surely adds shows = subst (λ c. HaveMoreOf own conds (shown_in c).conds) (sym shows) adds
  shown_adds path conds (beyond atoms reason) cause surely adds shows = subst (λ c. HaveMoreOf own conds (shown_in c).conds) (sym shows) adds

  -- the answer that is a doubt in a state
  pub doubt_adds : (path : PurePath S) (conds : List PureAtom) (doubt : PureDoubt) (k : PureNext S) → (doubt ≡ always → HaveMoreOf own conds path.conds) → DoubtAdds own conds doubt → IsDoubtNext kind here path doubt k → AddsTo own conds k
  doubt_adds path conds doubt k surely adds (cause, (is, shows)) = subst (AddsTo own conds) (sym is) (shown_adds path conds doubt (cause_view cause) surely adds shows)

  -- a doubt alone, of the path
  pub alone_adds : (x : PureChecking S) (doubt : PureDoubt) (nexts : List (PureNext S)) → DoubtAdds own x.path.conds doubt → IsDoubtAlone kind here x.path doubt nexts → Each (AddsOnly own x) nexts
  alone_adds x doubt nexts adds (cause, (is, shows)) =
      subst (Each (AddsOnly own x)) (sym is) (shown_adds x.path x.path.conds doubt (cause_view cause) (λ surely. no_more own x.path.conds) adds shows, tt)

pub doubt_to : (P Q : PureAtom → Type 0) (conds : List PureAtom) (doubt : PureDoubt) → ((a : PureAtom) → P a → Q a) → DoubtAdds P conds doubt → DoubtAdds Q conds doubt
doubt_to P Q conds always to adds = tt
doubt_to P Q conds (under atoms u) to adds = more_to P Q conds atoms to adds
doubt_to P Q conds (beyond atoms reason) to adds = more_to P Q conds atoms to adds

-- the answer that conditions aren't decided has these
pub undecided_has : {S : Type 0} (kind : FaultKind) (here : Place) (path : PurePath S) (conds : List PureAtom) (reason : Reason) (k : PureNext S) → IsDoubtNext kind here path (beyond conds reason) k → HasConds conds k
undecided_has kind here path conds reason k (cause, (is, shows)) = subst (HasConds conds) (sym is) (ap (λ (c : PureCause). (shown_in c).conds) shows)

-- the doubt of one of the alternatives
pub one_adds : (own : PureAtom → Type 0) (vars : List Sort) (conds : List PureAtom) (x : Alternatives) (doubt : PureDoubt) → Each (Each own) x → DoubtsOne vars conds x doubt → DoubtAdds own conds doubt
one_adds own vars conds [] doubt all one = absurd one
one_adds own vars conds (more ∷ x) doubt all (inr later) = one_adds own vars conds x doubt all.1 later
one_adds own vars conds (more ∷ x) always all (inl told) = tt
one_adds own vars conds (more ∷ x) (under atoms u) all (inl (are, meets)) = (more, (are, all.0))
one_adds own vars conds (more ∷ x) (beyond atoms reason) all (inl (are, outside)) = (more, (are, all.0))

-- ---- differences

pub elements_two : (ss ts : List PureTerm) (a : PureAtom) → AsksElements ss ts a → AsksTwo a
elements_two (s ∷ ss) (t ∷ ts) a (inl here) = (s, (t, here))
elements_two (s ∷ ss) (t ∷ ts) a (inr later) = elements_two ss ts a later
elements_two [] ts a asks = absurd asks
elements_two (s ∷ ss) [] a asks = absurd asks

pub are_comparisons : (ss ts : List PureTerm) (x : Alternatives) → Each (Each (AsksElements ss ts)) x → AreComparisons x
are_comparisons ss ts x all = each_to (Each (AsksElements ss ts)) (Each AsksTwo) x (λ conds. each_to (AsksElements ss ts) AsksTwo conds (elements_two ss ts)) all

pub joined_comparisons : (x y : Alternatives) → AreComparisons x → AreComparisons y → AreComparisons (x ++ y)
joined_comparisons x y first second = each_append (Each AsksTwo) x y first second

-- that is asked whether all is as it was before
pub before_asks : (x : Alternatives) → AreComparisons x → Each (Each AsksAsBefore) x
before_asks x all = each_to (Each AsksTwo) (Each AsksAsBefore) x (λ conds. each_to AsksTwo AsksAsBefore conds (λ a asks. inl asks)) all

-- what is answered of a second visit
pub again_adds : {S : Type 0} (stands : S → List PureValue → Heap → Type 0) (bs : PureStore) (former : PurePassed S) (s : PureState S) (own : PureAtom → Type 0) (kind : FaultKind) (here : Place) (path : PurePath S) (doubt : PureDoubt) (k : PureNext S)
    → DoubtsBefore stands bs former s doubt → DoubtAdds own s.conds doubt → IsDoubtNext kind here path doubt k → AddsTo own s.conds k
again_adds stands bs former s own kind here path doubt k right adds next = doubt_adds own kind here path s.conds doubt k (λ surely. absurd (subst (DoubtsBefore stands bs former s) surely right)) adds next

-- ---- what a visit asks

module _ {S : Type 0} (e : PureEntry) (x : PureChecking S) (p : PureParts) (scope : List Param) (items : List PureItem) where
  abbrev Asks : PureAtom → Type 0
  Asks = AsksVisitThere e x p scope items

  -- that names have their sorts
  pub names_visit : (bs : PureStore) → AreNames x.path.stack e.variables bs → (a : PureAtom) → AsksNames scope bs a → Asks a
  names_visit bs names a asks = (bs, (names, inl asks))

  -- adding the invariant
  pub adding_visit : (a : PureAtom) → AsksAddingAnew e x items a → Asks a
  adding_visit a (bs, (names, adding)) = (bs, (names, inr (inr (inl adding))))

  -- whether all is as it was before
  pub before_visit : (a : PureAtom) → AsksAsBefore a → Asks a
  before_visit a asks = (running_store x.path.stack ++ variables_there x.path.stack e.variables, (λ y. refl, inr (inr (inr asks))))

  module _ (terms : S → StateTerms) (bs : PureStore) (names : AreNames x.path.stack e.variables bs) where
    own_visit : (conds longer : List PureAtom) → AddsOwn (origin_in p.preds x.facts (terms x.path.memory) scope bs (items ∷ [])) conds longer → HaveMoreOf Asks conds longer
    own_visit conds longer (more, (is, all)) = (more, (is, each_to (IsOwnToMatching (origin_in p.preds x.facts (terms x.path.memory) scope bs (items ∷ []))) Asks more (λ a own. (bs, (names, inr (inl (x.facts, (terms x.path.memory, own)))))) all))

  -- matching the invariant
  pub matches_visit : (terms : S → StateTerms) (ms : List (PureMatch S)) → MatchingAsks terms e x p.preds scope items (all_match ms) → Each (λ m. HaveMoreOf Asks x.path.conds m.state.conds) ms
  matches_visit terms ms (bs, (names, all)) =
      each_to (EndComesFrom terms (origin_in p.preds x.facts (terms x.path.memory) scope bs (items ∷ [])) (IsOneOf scope (items ∷ [])) x.path.conds) (λ m. HaveMoreOf Asks x.path.conds m.state.conds) ms (λ m (qs, (whole, (is, from))). own_visit terms bs names x.path.conds m.state.conds from.own) all

  pub unmatched_visit : (terms : S → StateTerms) (c : PureStop) (u : List PureValue) → MatchingAsks terms e x p.preds scope items (unmatched c u) → HaveMoreOf Asks x.path.conds c.conds
  unmatched_visit terms c u (bs, (names, own)) = own_visit terms bs names x.path.conds c.conds own

  pub unknown_visit : (terms : S → StateTerms) (conds : List PureAtom) (reason : Reason) → MatchingAsks terms e x p.preds scope items (unknown conds reason) → HaveMoreOf Asks x.path.conds conds
  unknown_visit terms conds reason (bs, (names, own)) = own_visit terms bs names x.path.conds conds own

-- ---- the command

logicals_are : (fs : List PureFrame) (spec : PureSpec) → AreLogicals spec (logicals_there fs spec.logicals)
logicals_are [] spec = inl refl
logicals_are (f ∷ []) spec = inr refl
logicals_are (f ∷ g ∷ fs) spec = inl refl

-- the terms of the names there, of which logic commands have these
abbrev names_there : {S : Type 0} → PureEntry → PureChecking S → PureStore → NamesThere
names_there e x bs = record { running = running_store x.path.stack; logic = bs; entry = terms_bound (param_names e.spec.params) e.args ++ e.variables }

pub visit_may_ask : {S : Type 0} (e : PureEntry) (x : PureChecking S) (p : PureParts) (xs : List (List ℕ)) (ps : List Param) (items : List PureItem) (c : PureNumberedCommand) → command_of_path p x.path ≡ Some c → c.command ≡ loop_invariant xs ps items → (a : PureAtom)
    → AsksVisitThere e x p (logicals_there x.path.stack e.spec.logicals ++ ps) items a → MayAskAt p e x a
visit_may_ask e x p xs ps items c at this a (bs, (names, asks)) = (
  c,
  (
    at,
    (
      names_there e x bs,
      (
        record { running = refl; logic = names; entry = λ y. refl },
        subst (λ k. MayAsk p e.spec (names_there e x bs) k a) (sym this) (logicals_there x.path.stack e.spec.logicals, (logicals_are x.path.stack e.spec, asks)),
      ),
    ),
  ),
)

pub visits_ask : {S : Type 0} (e : PureEntry) (x : PureChecking S) (p : PureParts) (xs : List (List ℕ)) (ps : List Param) (items : List PureItem) (nexts : List (PureNext S))
    → Each (AddsOnly (AsksVisitThere e x p (logicals_there x.path.stack e.spec.logicals ++ ps) items) x) nexts → AsksOnlyOwn p e x (loop_invariant xs ps items) nexts
visits_ask e x p xs ps items nexts all c at this =
    each_to (AddsOnly (AsksVisitThere e x p (logicals_there x.path.stack e.spec.logicals ++ ps) items) x) (AddsOnly (MayAskAt p e x) x) nexts
    (λ k. only_to (AsksVisitThere e x p (logicals_there x.path.stack e.spec.logicals ++ ps) items) (MayAskAt p e x) x k (visit_may_ask e x p xs ps items c at this)) all
