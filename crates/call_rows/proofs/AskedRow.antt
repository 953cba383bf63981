-- The answers of a call add only conditions that the call may ask.
use Rattle.std.proofs.Common.{◌≡◌, ◌⊎◌, ⊎_elim, inl, inr, ℕ, ℤ, List, [], ◌∷◌, ◌++◌, map, Bool, true, false, if◌then◌else◌, Option, Some, None, IsTrue, refl, sym, ap, subst, ◌∙◌}
use Rattle.std.specs.Str.{bytes_eq}
use Rattle.gil_values.specs.declared.places.Place.{Place}
use Rattle.gil_syntax.specs.declared.assertions.Param.{Param}
use Rattle.gil_syntax.specs.Programs.{find_proc, find_spec}
use Rattle.gil_syntax.specs.Pure.{PureParts, PureProc, PureExpr, PureCommand, call, PureNumberedCommand, PureItem, PureSpec}
use Rattle.gil_syntax.specs.Valid.{IsValid, param_names}
use Rattle.gil_syntax.specs.WellMade.{is_well_made}
use Rattle.gil_machine.proofs.Placed.{found_name}
use Rattle.gil_values.specs.Pure.{PureValue}
use Rattle.mem_model.specs.Actions.{Actions}
use Rattle.mem_model.specs.declared.keys.MemoryName.{MemoryName}
use Rattle.mem_model.specs.Heaps.{Heap}
use Rattle.assert_logic.specs.Modes.{HasModes}
use Rattle.addable_programs.proofs.AddableLaws.{programs_are_addable}
use Rattle.pure_terms.specs.Pure.{PureTerm, PureAtom}
use Rattle.sym_engine.specs.Lawful.{IsOwnOf, IsOwnAt}
use Rattle.sym_evaluation.specs.Pure.{PureStore, term_at}
use Rattle.sym_matching.specs.Origins.{AddsOnlyTo, OneOfBoth, IsParamGiven}
use Rattle.sym_model.proofs.ListLaws.{same_some, not_none, each_to, one_left, one_right, one_to}
use Rattle.sym_model.specs.Lists.{Each, OneOf, IsAmong}
use Rattle.sym_model.specs.Terms.{StateTerms}
use Rattle.sym_paths.specs.Calls.{IsAskedByCall}
use Rattle.sym_paths.specs.Frames.{running_store, terms_bound, IsFirstStore}
use Rattle.sym_paths.specs.Meaning.{command_of_path}
use Rattle.sym_paths.specs.Origins.{HandsOver, GoesOnFrom, Follows}
use Rattle.sym_paths.specs.Pure.{PureFrame, PureEnd, PurePath}
use Rattle.sym_paths.specs.Steps.{AddsOwn}
use Rattle.sym_unfolding.specs.Origins.{AsksAdding}
use Rattle.checked_paths.specs.Exactness.{HaveMoreOf, AddsOnly}
use Rattle.checked_paths.specs.Pure.{PureEntry, PureChecking, PureNext}
use Rattle.checked_rows.specs.Asking.{NamesThere, AreNamesThere, AddsTo, AsksCalled, AsksThrown, AsksEnd, AsksEntryEnd, AsksBySpecification, AsksOnlyOwn, MayAsk, MayAskAt}
use Rattle.checked_rows.specs.Ending.{AreEntryNames}
use Rattle.checked_rows.specs.Names.{variables_there}
use Rattle.call_rows.specs.declared.leaving.Completion.{Completion}
use Rattle.call_rows.specs.Asked.{AsksPost, AsksPosts, AsksMatched, AsksSpecified, AsksFurther, AddsToNext}
use Rattle.call_rows.specs.Calling.{spec_there, called_by, IsCall}
use Rattle.call_rows.specs.Gathering.{GathersNexts}
use Rattle.call_rows.proofs.AskedLaws.{adds_behind, adds_only}
use Rattle.call_rows.proofs.GatheringLaws.{each_gathered}
use Rattle.call_rows.proofs.Unspecified.{each_both}

-- ---- the store where a procedure begins

-- a name that has a term is a parameter, and the term is its argument
param_given : (qs : List Param) (ts : List PureTerm) (x : List ℕ) (t : PureTerm) → term_at (terms_bound (param_names qs) ts) x ≡ Some t → IsParamGiven qs (map Some ts) x t
param_given [] ts x t at = not_none at
param_given (q ∷ qs) [] x t at = not_none at
param_given (q ∷ qs) (u ∷ us) x t at = by (param_given qs us x t) (bytes_eq q.name x) refl at
  where
    by : (term_at (terms_bound (param_names qs) us) x ≡ Some t → IsParamGiven qs (map Some us) x t) → (b : Bool) → bytes_eq q.name x ≡ b → (if b then Some u else term_at (terms_bound (param_names qs) us) x) ≡ Some t → IsParamGiven (q ∷ qs) (map Some (u ∷ us)) x t
    by later true is at = inl (is, at)
    by later false is at = inr (later at)

named_so : (qs : List PureProc) (f : List ℕ) (q : PureProc) → find_proc qs f ≡ Some q → find_proc qs q.name ≡ Some q
named_so qs f q found = ap (find_proc qs) (found_name qs f q found) ∙ found

-- ---- what postconditions ask

one_of_posts : (p : PureParts) (e : PureEntry) (bs : PureStore) (posts : List (List PureItem)) (a : PureAtom) → AsksPosts p e Completion.Returns bs posts a → OneOf (λ items. AsksAdding bs items a) posts
one_of_posts p e bs posts a asks = one_to (λ items. AsksPost p e Completion.Returns bs items a) (λ items. AsksAdding bs items a) posts (λ items one. ⊎_elim (λ adding. adding) (λ none. absurd none) one) asks

-- one of them is added, or one of them is thrown and ends the entry
one_of_errors : (p : PureParts) (e : PureEntry) (bs : PureStore) (errors : List (List PureItem)) (a : PureAtom) → AsksPosts p e Completion.Throws bs errors a
    → OneOf (λ items. AsksAdding bs items a) errors ⊎ ((items : List PureItem) × (IsAmong items errors × AsksEntryEnd p e e.spec.errors a))
one_of_errors p e bs [] a asks = absurd asks
one_of_errors p e bs (items ∷ errors) a (inl (inl adding)) = inl (inl adding)
one_of_errors p e bs (items ∷ errors) a (inl (inr ending)) = inr (items, (inl refl, ending))
one_of_errors p e bs (items ∷ errors) a (inr later) = ⊎_elim (λ adding. inl (inr adding)) (λ (ys, (among, ending)). inr (ys, (inr among, ending))) (one_of_errors p e bs errors a later)

-- ---- a next path

-- the path goes on in a procedure that is called by a specification
called_there : (p : PureParts) (o : Option PureEnd) (fs : List PureFrame) (used : PureSpec) → called_by p o fs ≡ Some used → (o ≡ None) × (spec_there p fs ≡ Some used)
called_there p None fs used is = (refl, is)
called_there p (Some how) fs used is = not_none is

module _ {S : Type 0} (p : PureParts) (memory : MemoryName) (m : Actions) (stands : S → List PureValue → Heap → Type 0) (terms : S → StateTerms) (asked : List ℕ → List PureTerm → List PureTerm × List PureTerm) (e : PureEntry) (x : PureChecking S) (made : is_well_made p ≡ true) (valid : IsValid p)
    (modes : HasModes p memory) (n : PureNumberedCommand) (at : command_of_path p x.path ≡ Some n) (y : List ℕ) (f : PureExpr) (es : List PureExpr) (handler : Option ℤ) (this : n.command ≡ call y f es handler) where
  abbrev bs : PureStore
  bs = running_store x.path.stack

  -- ---- names

  abbrev names_with : PureStore → NamesThere
  names_with entry = record { running = bs; logic = bs ++ variables_there x.path.stack e.variables; entry = entry }

  are_names : (entry : PureStore) → AreEntryNames (param_names e.spec.params) e.args e.variables entry → AreNamesThere e x (names_with entry)
  are_names entry are = record { running = refl; logic = λ z. refl; entry = are }

  abbrev entry_names : PureStore
  entry_names = terms_bound (param_names e.spec.params) e.args ++ e.variables

  may_ask : (entry : PureStore) → AreEntryNames (param_names e.spec.params) e.args e.variables entry → (a : PureAtom) → IsAskedByCall bs f es a ⊎ AsksBySpecification p e.spec (names_with entry) es a → MayAskAt p e x a
  may_ask entry are a asks = (n, (at, (names_with entry, (are_names entry are, subst (λ k. MayAsk p e.spec (names_with entry) k a) (sym this) asks))))

  may_ask_there : (a : PureAtom) → IsAskedByCall bs f es a ⊎ AsksBySpecification p e.spec (names_with entry_names) es a → MayAskAt p e x a
  may_ask_there a asks = may_ask entry_names (λ z. refl) a asks

  -- ---- what the step asks

  own_asked : (a : PureAtom) → IsOwnAt stands terms asked m p x.path a → MayAskAt p e x a
  own_asked a (c, (there, own)) =
      let same : c.command ≡ call y f es handler = ap (λ (k : PureNumberedCommand). k.command) (same_some (sym there ∙ at)) ∙ this in
      let so : IsOwnOf stands terms asked m x.path (call y f es handler) a = subst (λ k. IsOwnOf stands terms asked m x.path k a) same own in may_ask_there a (inl so)

  -- ---- what the specification asks

  module _ (next : PurePath S) (used : PureSpec) (there : spec_there p next.stack ≡ Some used) (handed : HandsOver p m terms x.path next y f es handler) where
    abbrev q : PureProc
    q = handed.procedure

    finds : find_spec p.specs q.name ≡ Some used
    finds = sym (ap (spec_there p) handed.stack) ∙ there

    store_is : running_store next.stack ≡ handed.store
    store_is = ap running_store handed.stack

    params_are : q.params ≡ param_names used.params
    params_are =
        let (r, (found, params)) = (programs_are_addable p memory made valid modes).procs used q.name finds in ap (λ (k : PureProc). k.params) (same_some (sym (named_so p.procs handed.callee q handed.found) ∙ found)) ∙ params

    given : AddsOnlyTo (IsParamGiven used.params (map Some handed.args)) [] handed.store
    given z t is = inr (param_given used.params handed.args z t (ap (λ xs. term_at (terms_bound xs handed.args) z) (sym params_are) ∙ sym (handed.first z) ∙ is))

    called_asks : (a : PureAtom) → AsksCalled p used handed.args a → MayAskAt p e x a
    called_asks a asks = may_ask_there a (inr (q.name, (used, (handed.args, (finds, handed.from, inl asks)))))

    thrown_asks : (a : PureAtom) → (items : List PureItem) × (IsAmong items used.errors × AsksEntryEnd p e e.spec.errors a) → MayAskAt p e x a
    thrown_asks a (items, (among, (entry, (are, asks)))) = may_ask entry are a (inr (q.name, (used, (handed.args, (finds, handed.from, inr (items, (among, asks)))))))

    specified_asks : (a : PureAtom) → AsksSpecified p e used handed.store a → MayAskAt p e x a
    specified_asks a (inl sorts) = called_asks a (record { store = handed.store; given = given; asks = inl sorts })
    specified_asks a (inr (inl matching)) = called_asks a (record { store = handed.store; given = given; asks = inr (inl matching) })
    specified_asks a (inr (inr (after, (reached, inl returns)))) =
        called_asks a (record {
          store = handed.store;
          given = given;
          asks = inr (inr (after, (reached, one_left (λ items. AsksAdding after items a) used.posts used.errors (one_of_posts p e after used.posts a returns))));
        })
    specified_asks a (inr (inr (after, (reached, inr throws)))) =
        ⊎_elim
        (λ adding. called_asks a (record { store = handed.store; given = given; asks = inr (inr (after, (reached, one_right (λ items. AsksAdding after items a) used.posts used.errors adding))) }))
        (λ thrown. thrown_asks a thrown) (one_of_errors p e after used.errors a throws)

  further_asks : (next : PurePath S) → Follows p m terms x.path next → (a : PureAtom) → AsksFurther p e (called_by p next.ending next.stack) (running_store next.stack) a → MayAskAt p e x a
  further_asks next follows a asks = by (called_by p next.ending next.stack) refl asks
    where
      by : (o : Option PureSpec) → called_by p next.ending next.stack ≡ o → AsksFurther p e o (running_store next.stack) a → MayAskAt p e x a
      by None is none = absurd none
      by (Some used) is asks_so =
          let (still, there) = called_there p next.ending next.stack used is in
          let going : GoesOnFrom p m terms x.path next (call y f es handler) = subst (GoesOnFrom p m terms x.path next) this (follows.going n at still) in
          specified_asks next used there going.1 a (subst (λ cs. AsksSpecified p e used cs a) (store_is next used there going.1) asks_so)

  -- ---- the answers

  next_adds : (next : PurePath S) (ks : List (PureNext S)) → AddsToNext p e next ks → AddsOwn (IsOwnAt stands terms asked m p x.path) x.path next × Follows p m terms x.path next → Each (AddsOnly (MayAskAt p e x) x) ks
  next_adds next ks adds (own, follows) =
      each_to (AddsTo (AsksFurther p e (called_by p next.ending next.stack) (running_store next.stack)) next.conds) (AddsOnly (MayAskAt p e x) x) ks
      (λ k one. adds_only (MayAskAt p e x) x k (adds_behind (IsOwnAt stands terms asked m p x.path) (AsksFurther p e (called_by p next.ending next.stack) (running_store next.stack)) (MayAskAt p e x) own_asked (further_asks next follows) x.path.conds next.conds (own.added, (own.conds, own.each)) k one)) adds

  pub all_add : (nexts : List (PurePath S)) (ks : List (PureNext S)) → GathersNexts (AddsToNext p e) nexts ks → Each (AddsOwn (IsOwnAt stands terms asked m p x.path) x.path) nexts → Each (Follows p m terms x.path) nexts → Each (AddsOnly (MayAskAt p e x) x) ks
  all_add nexts ks adds own follows =
      each_gathered (AddsToNext p e) (λ next. AddsOwn (IsOwnAt stands terms asked m p x.path) x.path next × Follows p m terms x.path next) (AddsOnly (MayAskAt p e x) x) nexts ks adds next_adds
      (each_both (AddsOwn (IsOwnAt stands terms asked m p x.path) x.path) (Follows p m terms x.path) nexts own follows)

pub row_asks : {S : Type 0} (p : PureParts) (memory : MemoryName) (m : Actions) (stands : S → List PureValue → Heap → Type 0) (terms : S → StateTerms) (asked : List ℕ → List PureTerm → List PureTerm × List PureTerm) (e : PureEntry) (x : PureChecking S) → is_well_made p ≡ true → IsValid p → HasModes p memory
    → (nexts : List (PurePath S)) (ks : List (PureNext S)) → GathersNexts (AddsToNext p e) nexts ks → Each (AddsOwn (IsOwnAt stands terms asked m p x.path) x.path) nexts → Each (Follows p m terms x.path) nexts → (command : PureCommand) → IsCall command → AsksOnlyOwn p e x command ks
row_asks p memory m stands terms asked e x made valid modes nexts ks adds own follows (call y f es handler) is n at this = all_add p memory m stands terms asked e x made valid modes n at y f es handler this nexts ks adds own follows
row_asks p memory m stands terms asked e x made valid modes nexts ks adds own follows command is n at this = absurd is
