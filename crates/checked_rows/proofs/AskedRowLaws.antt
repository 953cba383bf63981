-- The answers of rows add only conditions that the command there may ask.
use Rattle.std.proofs.Common.{◌≡◌, ◌⊎◌, inl, inr, ℕ, List, [], ◌∷◌, ◌++◌, Bool, true, false, if◌then◌else◌, Option, Some, None, refl, sym, subst, ◌∙◌}
use Rattle.std.specs.Str.{bytes_eq}
use Rattle.std.proofs.lemmas.Slice.Eq.{bytes_eq-Decides}
use Rattle.gil_values.specs.declared.places.Place.{Place}
use Rattle.gil_values.specs.Pure.{PureValue}
use Rattle.gil_syntax.specs.declared.assertions.Param.{Param}
use Rattle.gil_syntax.specs.Programs.{find_pred}
use Rattle.gil_syntax.specs.Pure.{PureParts, PureItem, PurePredUse, PurePredDef, PureCommand, PureNumberedCommand, PureSpec, return, throw, fold_use, unfold_use, assert_that}
use Rattle.gil_syntax.specs.Valid.{param_names}
use Rattle.mem_model.specs.Actions.{Actions}
use Rattle.mem_model.specs.Heaps.{Heap}
use Rattle.checked_runs.specs.Specifications.{result_name}
use Rattle.pure_terms.specs.declared.variables.Sort.{Sort}
use Rattle.pure_terms.specs.Pure.{PureTerm, PureAtom, negative}
use Rattle.sym_engine.specs.Lawful.{IsOwnOf, IsOwnAt}
use Rattle.sym_evaluation.specs.Pure.{PureStore, term_at}
use Rattle.sym_evaluation.specs.Questions.{IsAsked, AreTermsOf}
use Rattle.sym_matching.specs.Origins.{AsksEqual, AddsOnlyTo}
use Rattle.sym_model.specs.declared.comparing.Comparison.{Comparison}
use Rattle.sym_model.specs.Alternatives.{never, always as surely, given, equal, by_comparison, other}
use Rattle.sym_model.specs.Comparing.{compared}
use Rattle.sym_model.specs.Lists.{Each, OneOf}
use Rattle.sym_model.specs.Terms.{StateTerms}
use Rattle.sym_model.proofs.ListLaws.{same_some, each_to, one_left, one_right}
use Rattle.sym_paths.specs.Frames.{running_store, terms_bound, IsBound}
use Rattle.sym_paths.specs.Meaning.{command_of_path}
use Rattle.sym_paths.specs.Origins.{IsThrown, Follows}
use Rattle.sym_paths.specs.Pure.{PureFrame, PureEnd, returned, failed, threw, missed, vanished, cut, unknown, PurePath}
use Rattle.sym_paths.specs.Steps.{AddsOwn}
use Rattle.sym_states.specs.Producing.{IsAskedAmong}
use Rattle.sym_states.specs.Pure.{PureState}
use Rattle.footprint.specs.Origins.{IsOwnToMatching}
use Rattle.checked_paths.proofs.Lists.{each_across}
use Rattle.checked_paths.specs.declared.nexts.FaultKind.{FaultKind}
use Rattle.checked_paths.specs.Exactness.{HaveMoreOf, AddsOnly}
use Rattle.checked_paths.specs.Pure.{PureEntry, PureChecking, PureNext}
use Rattle.checked_rows.specs.Asked.{HasConds, AddsIn, DoubtAdds, AsksAfterIns, AsksUnfoldingAny, EndAsksBy, EndAsks, EachEndAsks}
use Rattle.checked_rows.specs.Asking.{NamesThere, origin_in, AsksFolding, AsksUse, AsksEnd, AsksEntryEnd, AreLogicals, MayAsk, AreNamesThere, MayAskAt, AddsTo, AsksOnlyOwn}
use Rattle.checked_rows.specs.Doubts.{PureDoubt, always, under, beyond, IsDoubtNext, IsDoubtAlone, IsToldThere}
use Rattle.checked_rows.specs.Ending.{AreEntryNames, DoubtsAResult, IsLeaving, finish_at}
use Rattle.checked_rows.specs.Names.{variables_there, logicals_there, AreNames}
use Rattle.checked_rows.proofs.AskedLaws.{more_to, adds_to, adds_behind, same_adds, same_only, adds_only, adds_since, adds_there, under_same, beyond_same, doubts_only, doubt_to, one_told_adds}

-- ---- names

module _ {S : Type 0} (e : PureEntry) (x : PureChecking S) where
  abbrev pub with_logic : PureStore → NamesThere
  with_logic bs = record { running = running_store x.path.stack; logic = bs; entry = terms_bound (param_names e.spec.params) e.args ++ e.variables }

  abbrev pub with_entry : PureStore → NamesThere
  with_entry bs = record { running = running_store x.path.stack; logic = running_store x.path.stack ++ variables_there x.path.stack e.variables; entry = bs }

  logic_there : (bs : PureStore) → AreNames x.path.stack e.variables bs → AreNamesThere e x (with_logic bs)
  logic_there bs names = record { running = refl; logic = names; entry = λ y. refl }

  entry_there : (bs : PureStore) → AreEntryNames (param_names e.spec.params) e.args e.variables bs → AreNamesThere e x (with_entry bs)
  entry_there bs names = record { running = refl; logic = λ y. refl; entry = names }

  module _ (p : PureParts) (n : PureNumberedCommand) (at : command_of_path p x.path ≡ Some n) (command : PureCommand) (this : n.command ≡ command) where
    pub may_ask : (bs : PureStore) → AreNames x.path.stack e.variables bs → (a : PureAtom) → MayAsk p e.spec (with_logic bs) command a → MayAskAt p e x a
    may_ask bs names a asks = (n, (at, (with_logic bs, (logic_there bs names, subst (λ k. MayAsk p e.spec (with_logic bs) k a) (sym this) asks))))

    pub may_ask_of_entry : (bs : PureStore) → AreEntryNames (param_names e.spec.params) e.args e.variables bs → (a : PureAtom) → MayAsk p e.spec (with_entry bs) command a → MayAskAt p e x a
    may_ask_of_entry bs names a asks = (n, (at, (with_entry bs, (entry_there bs names, subst (λ k. MayAsk p e.spec (with_entry bs) k a) (sym this) asks))))

-- ---- rows that ask nothing

pub nothing_asks : {S : Type 0} (p : PureParts) (e : PureEntry) (x : PureChecking S) (command : PureCommand) (ns : List (PureNext S)) → ns ≡ [] → AsksOnlyOwn p e x command ns
nothing_asks p e x command ns none c at this = subst (Each (AddsOnly (MayAskAt p e x) x)) (sym none) tt

-- the answers have the path's conditions
pub same_asks : {S : Type 0} (p : PureParts) (e : PureEntry) (x : PureChecking S) (command : PureCommand) (ns : List (PureNext S)) → Each (HasConds x.path.conds) ns → AsksOnlyOwn p e x command ns
same_asks p e x command ns same c at this = each_to (HasConds x.path.conds) (AddsOnly (MayAskAt p e x) x) ns (same_only (MayAskAt p e x) x) same

-- the one answer is a doubt without conditions of its own
pub always_asks : {S : Type 0} (p : PureParts) (e : PureEntry) (x : PureChecking S) (command : PureCommand) (kind : FaultKind) (here : Place) (ns : List (PureNext S)) → IsDoubtAlone kind here x.path always ns → AsksOnlyOwn p e x command ns
always_asks p e x command kind here ns alone c at this = doubts_only kind here x (MayAskAt p e x) always tt ns alone

-- ---- uses

module _ {S : Type 0} (p : PureParts) (e : PureEntry) (x : PureChecking S) (u : PurePredUse) (Asks : List ℕ → List PureTerm → List PureTerm → PureAtom → Type 0) (command : PureCommand)
    (may : (names : NamesThere) (a : PureAtom) → AsksUse Asks names.logic u a → MayAsk p e.spec names command a) (s : PureState S) (same : s.conds ≡ x.path.conds) (bs : PureStore) (names : AreNames x.path.stack e.variables bs) where
  of_ins : (n : PureNumberedCommand) → command_of_path p x.path ≡ Some n → n.command ≡ command → (a : PureAtom) → IsAskedAmong bs u.ins a → MayAskAt p e x a
  of_ins n at this a asked = may_ask e x p n at command this bs names a (may (with_logic e x bs) a (inl (one_left (λ d. IsAsked bs d a) u.ins u.outs asked)))

  after_ins : (n : PureNumberedCommand) → command_of_path p x.path ≡ Some n → n.command ≡ command → (ins : List PureTerm) → AreTermsOf bs u.ins ins → (a : PureAtom) → AsksAfterIns Asks bs u ins a → MayAskAt p e x a
  after_ins n at this ins are a (inl asked) = may_ask e x p n at command this bs names a (may (with_logic e x bs) a (inl (one_right (λ d. IsAsked bs d a) u.ins u.outs asked)))
  after_ins n at this ins are a (inr (outs, (are_outs, asks))) = may_ask e x p n at command this bs names a (may (with_logic e x bs) a (inr (ins, (outs, (are, are_outs, asks)))))

  -- the ins were read, and what follows is asked after them
  pub use_asks : (r : PureState S) (ins : List PureTerm) → HaveMoreOf (IsAskedAmong bs u.ins) s.conds r.conds → AreTermsOf bs u.ins ins → (ns : List (PureNext S)) → Each (AddsIn (AsksAfterIns Asks bs u ins) x r) ns → AsksOnlyOwn p e x command ns
  use_asks r ins more are ns each n at this =
      each_to (AddsIn (AsksAfterIns Asks bs u ins) x r) (AddsOnly (MayAskAt p e x) x) ns
      (λ k adds. adds_there (MayAskAt p e x) x s same k
      (adds_since (IsAskedAmong bs u.ins) (AsksAfterIns Asks bs u ins) (MayAskAt p e x) (of_ins n at this) (after_ins n at this ins are) x s r more k adds)) each

  -- the ins may have no values
  pub unread_asks : (kind : FaultKind) (here : Place) (doubt : PureDoubt) → DoubtAdds (IsAskedAmong bs u.ins) s.conds doubt → (ns : List (PureNext S)) → IsDoubtAlone kind here x.path doubt ns → AsksOnlyOwn p e x command ns
  unread_asks kind here doubt adds ns alone n at this =
      doubts_only kind here x (MayAskAt p e x) doubt
      (doubt_to (IsAskedAmong bs u.ins) (MayAskAt p e x) (of_ins n at this) x.path.conds doubt (subst (λ cs. DoubtAdds (IsAskedAmong bs u.ins) cs doubt) same adds)) ns alone

pub fold_may : (p : PureParts) (spec : PureSpec) (u : PurePredUse) (names : NamesThere) (a : PureAtom) → AsksUse (AsksFolding p.preds) names.logic u a → MayAsk p spec names (fold_use u) a
fold_may p spec u names a asks = asks

pub unfold_may : (p : PureParts) (spec : PureSpec) (u : PurePredUse) (d : PurePredDef) → find_pred p.preds u.pred ≡ Some d → (names : NamesThere) (a : PureAtom) → AsksUse (AsksUnfoldingAny d) names.logic u a → MayAsk p spec names (unfold_use u) a
unfold_may p spec u d found names a (inl asked) = inl asked
unfold_may p spec u d found names a (inr (ins, (outs, (are_ins, are_outs, asks)))) = inr (ins, (outs, (are_ins, are_outs, (d, (found, asks)))))

-- ---- assertions

logicals_are : (fs : List PureFrame) (spec : PureSpec) → AreLogicals spec (logicals_there fs spec.logicals)
logicals_are [] spec = inl refl
logicals_are (f ∷ []) spec = inr refl
logicals_are (f ∷ g ∷ fs) spec = inl refl

module _ {S : Type 0} (p : PureParts) (e : PureEntry) (x : PureChecking S) (items : List PureItem) (scope : List Param) (scoped : scope ≡ logicals_there x.path.stack e.spec.logicals) (bs : PureStore) (names : AreNames x.path.stack e.variables bs)
    (held : StateTerms) where
  matched_asks : (n : PureNumberedCommand) → command_of_path p x.path ≡ Some n → n.command ≡ assert_that items → (a : PureAtom) → IsOwnToMatching (origin_in p.preds x.facts held scope bs (items ∷ [])) a → MayAskAt p e x a
  matched_asks n at this a own = may_ask e x p n at (assert_that items) this bs names a (scope, (subst (AreLogicals e.spec) (sym scoped) (logicals_are x.path.stack e.spec), (x.facts, (held, own))))

  pub assert_asks : (kind : FaultKind) (here : Place) (doubt : PureDoubt) → DoubtAdds (IsOwnToMatching (origin_in p.preds x.facts held scope bs (items ∷ []))) x.path.conds doubt → (ns : List (PureNext S)) → IsDoubtAlone kind here x.path doubt ns
      → AsksOnlyOwn p e x (assert_that items) ns
  assert_asks kind here doubt adds ns alone n at this =
      doubts_only kind here x (MayAskAt p e x) doubt
      (doubt_to (IsOwnToMatching (origin_in p.preds x.facts held scope bs (items ∷ []))) (MayAskAt p e x) (matched_asks n at this) x.path.conds doubt adds) ns alone

-- ---- results that have their name at the entry

other_asks : (r t : PureTerm) (k : Comparison) → compared r t ≡ k → Each (Each (AsksEqual r t)) (by_comparison k never surely (given (negative (equal r t))))
other_asks r t Comparison.Same is = tt
other_asks r t Comparison.Different is = (tt, tt)
other_asks r t Comparison.Unsure is = (((is, refl), tt), tt)

result_by : (vars : List Sort) (conds : List PureAtom) (bs : PureStore) (t : PureTerm) (o : Option PureTerm) → term_at bs result_name ≡ o → (doubt : PureDoubt) → DoubtsAResult vars conds t o doubt
    → DoubtAdds (λ a. (s : PureTerm) × ((term_at bs result_name ≡ Some s) × AsksEqual s t a)) conds doubt
result_by vars conds bs t None at doubt doubts = absurd doubts
result_by vars conds bs t (Some r) at doubt doubts =
    doubt_to (AsksEqual r t) (λ a. (s : PureTerm) × ((term_at bs result_name ≡ Some s) × AsksEqual s t a)) (λ a asks. (r, (at, asks))) conds doubt
    (one_told_adds (AsksEqual r t) vars conds (λ more. more) (other r t) doubt (other_asks r t (compared r t) refl) doubts)

bound_by : (x y : List ℕ) (t u : PureTerm) (o : Option PureTerm) (b : Bool) → bytes_eq x y ≡ b → (if b then Some t else o) ≡ Some u → (o ≡ Some u) ⊎ ((y ≡ x) × (u ≡ t))
bound_by x y t u o true same is = inr (sym ((bytes_eq-Decides x y).0 same), sym (same_some is))
bound_by x y t u o false same is = inl is

bound_only : (x : List ℕ) (t : PureTerm) (bs after : PureStore) → IsBound bs x t after → AddsOnlyTo (λ y u. (y ≡ x) × (u ≡ t)) bs after
bound_only x t bs after bound y u at = bound_by x y t u (term_at bs y) (bytes_eq x y) refl (subst (λ o. o ≡ Some u) (bound y) at)

-- ---- the entry's end

never_always : {A : Type 0} (vars : List Sort) (conds : List PureAtom) (xs : List (List PureAtom)) → OneOf (λ more. IsToldThere vars conds more always) xs → A
never_always vars conds [] one = absurd one
never_always vars conds (more ∷ xs) (inl told) = absurd told
never_always vars conds (more ∷ xs) (inr later) = never_always vars conds xs later

result_never : {A : Type 0} (vars : List Sort) (conds : List PureAtom) (t : PureTerm) (o : Option PureTerm) → DoubtsAResult vars conds t o always → A
result_never vars conds t None doubts = absurd doubts
result_never vars conds t (Some r) doubts = never_always vars conds (other r t) doubts

module _ (p : PureParts) (e : PureEntry) (posts : List (List PureItem)) (t : PureTerm) (bs : PureStore) (names : AreEntryNames (param_names e.spec.params) e.args e.variables bs) where
  result_asks : (vars : List Sort) (conds : List PureAtom) (doubt : PureDoubt) → DoubtsAResult vars conds t (term_at bs result_name) doubt → DoubtAdds (AsksEntryEnd p e posts) conds doubt
  result_asks vars conds doubt doubts =
      doubt_to (λ a. (s : PureTerm) × ((term_at bs result_name ≡ Some s) × AsksEqual s t a)) (AsksEntryEnd p e posts) (λ a asks. (bs, (names, (t, inl asks)))) conds doubt
      (result_by vars conds bs t (term_at bs result_name) refl doubt doubts)

  -- the answer is a doubt that the result is one which has its name
  pub result_next : {S : Type 0} (kind : FaultKind) (here : Place) (path : PurePath S) (vars : List Sort) (conds : List PureAtom) (doubt : PureDoubt) → DoubtsAResult vars conds t (term_at bs result_name) doubt → (n : PureNext S) → IsDoubtNext kind here path doubt n
      → AddsTo (AsksEntryEnd p e posts) conds n
  result_next kind here path vars conds always doubts n shows = result_never vars conds t (term_at bs result_name) doubts
  result_next kind here path vars conds (under more u) doubts n shows = same_adds (AsksEntryEnd p e posts) conds more n (result_asks vars conds (under more u) doubts) (under_same kind here path more u n shows)
  result_next kind here path vars conds (beyond more reason) doubts n shows = same_adds (AsksEntryEnd p e posts) conds more n (result_asks vars conds (beyond more reason) doubts) (beyond_same kind here path more reason n shows)

  pub post_asks : {S : Type 0} (after : PureStore) → IsBound bs result_name t after → (s : PureState S) (held : StateTerms) (a : PureAtom) → IsOwnToMatching (origin_in p.preds s.facts held (e.spec.params ++ e.spec.logicals) after posts) a → AsksEntryEnd p e posts a
  post_asks after bound s held a own = (bs, (names, (t, inr (after, (bound_only result_name t bs after bound, (s.facts, (held, own)))))))

-- ---- returns and throws

module _ {S : Type 0} (p : PureParts) (e : PureEntry) (x : PureChecking S) (n : PureNumberedCommand) (at : command_of_path p x.path ≡ Some n) (command : PureCommand) (this : n.command ≡ command) (leaving : IsLeaving command)
    (stands : S → List PureValue → Heap → Type 0) (terms : S → StateTerms) (asked : List ℕ → List PureTerm → List PureTerm × List PureTerm) (m : Actions) where
  own_may : (k : PureCommand) → IsLeaving k → (a : PureAtom) → IsOwnOf stands terms asked m x.path k a → MayAsk p e.spec (with_logic e x (running_store x.path.stack ++ variables_there x.path.stack e.variables)) k a
  own_may (return d) is a own = inl own
  own_may (throw d) is a own = inl own
  own_may k is a own = absurd is

  step_asks : (a : PureAtom) → IsOwnAt stands terms asked m p x.path a → MayAskAt p e x a
  step_asks a (c, (there, own)) =
      may_ask e x p n at command this (running_store x.path.stack ++ variables_there x.path.stack e.variables) (λ y. refl) a
      (own_may command leaving a (subst (λ k. IsOwnOf stands terms asked m x.path k a) this (subst (λ (j : PureNumberedCommand). IsOwnOf stands terms asked m x.path j.command a) (same_some (sym there ∙ at)) own)))

  returned_may : (k : PureCommand) → IsLeaving k → (names : NamesThere) (a : PureAtom) → AsksEnd p e.spec e.spec.posts names.entry a → MayAsk p e.spec names k a
  returned_may (return d) is names a asks = inr asks
  returned_may (throw d) is names a asks = inr (inr asks)
  returned_may k is names a asks = absurd is

  thrown_may : (k : PureCommand) → IsLeaving k → (t : PureTerm) → IsThrown m terms x.path k t → (names : NamesThere) (a : PureAtom) → AsksEnd p e.spec e.spec.errors names.entry a → MayAsk p e.spec names k a
  thrown_may (return d) is t thrown names a asks = absurd thrown
  thrown_may (throw d) is t thrown names a asks = inr (inl asks)
  thrown_may k is t thrown names a asks = absurd is

  of_return : (a : PureAtom) → AsksEntryEnd p e e.spec.posts a → MayAskAt p e x a
  of_return a (bs, (names, asks)) = may_ask_of_entry e x p n at command this bs names a (returned_may command leaving (with_entry e x bs) a asks)

  of_throw : (t : PureTerm) → IsThrown m terms x.path n.command t → (a : PureAtom) → AsksEntryEnd p e e.spec.errors a → MayAskAt p e x a
  of_throw t thrown a (bs, (names, asks)) =
      may_ask_of_entry e x p n at command this bs names a (thrown_may command leaving t (subst (λ k. IsThrown m terms x.path k t) this thrown) (with_entry e x bs) a asks)

  module _ (next : PurePath S) (k : PureNext S) (own : AddsOwn (IsOwnAt stands terms asked m p x.path) x.path next) (follows : Follows p m terms x.path next) where
    abbrev May : PureAtom → Type 0
    May = MayAskAt p e x

    stepped : HaveMoreOf May x.path.conds next.conds
    stepped = more_to (IsOwnAt stands terms asked m p x.path) May x.path.conds next.conds step_asks (own.added, (own.conds, own.each))

    ends_with : (posts : List (List PureItem)) → ((a : PureAtom) → AsksEntryEnd p e posts a → May a) → AddsTo (AsksEntryEnd p e posts) next.conds k → AddsOnly May x k
    ends_with posts to adds = adds_only May x k (adds_behind May x.path.conds next.conds k stepped (adds_to (AsksEntryEnd p e posts) May to next.conds k adds))

    goes_on : HasConds next.conds k → AddsOnly May x k
    goes_on same = adds_only May x k (same_adds May x.path.conds next.conds k stepped same)

    end_by : (o : Option PureEnd) → next.ending ≡ o → EndAsksBy p e next (finish_at o) k → AddsOnly May x k
    end_by (Some (returned t)) is asks = ends_with e.spec.posts of_return asks
    end_by (Some (threw t place)) is asks = ends_with e.spec.errors (of_throw t (follows.throwing n t place at is)) asks
    end_by (Some (failed t place)) is same = goes_on same
    end_by (Some (missed key place)) is same = goes_on same
    end_by (Some vanished) is same = goes_on same
    end_by (Some cut) is same = goes_on same
    end_by (Some (unknown place reason)) is same = goes_on same
    end_by None is same = goes_on same

both_each : {A : Type 0} (P Q : A → Type 0) (xs : List A) → Each P xs → Each Q xs → Each (λ x. P x × Q x) xs
both_each P Q [] first second = tt
both_each P Q (x ∷ xs) first second = ((first.0, second.0), both_each P Q xs first.1 second.1)

pub end_asks : {S : Type 0} (p : PureParts) (e : PureEntry) (x : PureChecking S) (stands : S → List PureValue → Heap → Type 0) (terms : S → StateTerms) (asked : List ℕ → List PureTerm → List PureTerm × List PureTerm) (m : Actions) (nexts : List (PurePath S)) (ks : List (PureNext S))
    → Each (AddsOwn (IsOwnAt stands terms asked m p x.path) x.path) nexts → Each (Follows p m terms x.path) nexts → EachEndAsks p e nexts ks → (command : PureCommand) → IsLeaving command → AsksOnlyOwn p e x command ks
end_asks p e x stands terms asked m nexts ks own follow are command leaving n at this =
    each_across (EndAsks p e) (λ next. AddsOwn (IsOwnAt stands terms asked m p x.path) x.path next × Follows p m terms x.path next) (AddsOnly (MayAskAt p e x) x) nexts ks are
    (λ next k asks (owns, follows). end_by p e x n at command this leaving stands terms asked m next k owns follows next.ending refl asks)
    (both_each (AddsOwn (IsOwnAt stands terms asked m p x.path) x.path) (Follows p m terms x.path) nexts own follow)
