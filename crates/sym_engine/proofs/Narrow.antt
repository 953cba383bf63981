-- From a narrow path, narrow commands lead to narrow candidates.
use Rattle.std.proofs.Common.{◌≡◌, ℕ, ◌+◌, ◌≤◌, ◌^◌, ℤ, pos, negsuc, neg_ℤ, ◌-ℤ◌, ◌+ℤ◌, List, [], ◌∷◌, ◌++◌, map, length, Bool, true, false, if◌then◌else◌, Option, Some, None, refl, sym, ap, subst, ◌∙◌, true≢false, arith}
use Rattle.std.specs.Prelude.{codes, ◌==◌, MatchBool}
use Rattle.std.specs.Str.{bytes_eq}
use Rattle.std.proofs.lemmas.Int.{ints}
use Rattle.std.proofs.lemmas.List.{length-append}
use Rattle.gil_values.specs.declared.places.Place.{Place}
use Rattle.gil_values.specs.Pure.{PureValue}
use Rattle.gil_syntax.specs.Programs.{find_proc}
use Rattle.gil_syntax.specs.Pure.{PureParts, PureProc}
use Rattle.mem_model.specs.Heaps.{Heap}
use Rattle.pure_terms.specs.declared.literals.Literal.{Literal}
use Rattle.pure_terms.specs.declared.variables.Sort.{Sort}
use Rattle.pure_terms.specs.Pure.{PureTerm, literal, variable, list_of, unary_of, binary_of, PureAtom}
use Rattle.sym_engine.specs.Narrow.{narrow_growth, IsNarrow, IsNarrowEnd, IsNarrowPath, AreAllNarrow}
use Rattle.sym_engine.proofs.NarrowTerms.{narrow_up}
use Rattle.sym_engine.proofs.Plain.{atoms_up}
use Rattle.sym_evaluation.specs.Pure.{PureStore, term_at, PureFaultCase, PureGoodCase, PureCases, PureSides}
use Rattle.sym_evaluation.specs.Questions.{OnSide, EachSide, OnResult, OnConditions, EachCondition}
use Rattle.sym_model.specs.Laws.{IsDecidedWithin, IsCopy, growth}
use Rattle.sym_model.specs.Lists.{Each}
use Rattle.sym_model.specs.Plain.{IsNarrowState, IsNarrowKey, IsNarrowResult, AreNarrowArguments, ActsNarrowly}
use Rattle.sym_model.specs.Pure.{PureBranch, PureResult, done, failed as action_failed, missed, PureSub, named}
use Rattle.sym_model.specs.Terms.{StateTerms, is_literal}
use Rattle.sym_model.proofs.ListLaws.{same_some, not_none, each_append, each_to}
use Rattle.sym_paths.specs.Meaning.{OfEachName}
use Rattle.sym_paths.specs.Moves.{advanced, running_store}
use Rattle.sym_paths.specs.Pure.{PureFrame, PureEnd, returned, failed, threw, missed as path_missed, vanished, cut, unknown, PurePath}
use Rattle.sym_paths.specs.Settling.{Candidate}
use Rattle.sym_paths.specs.Valued.{faulted, failing, assigned, Assigns, Fails, IsResult}
use Rattle.sym_paths.proofs.Binding.{each_bound}
use Rattle.sym_paths.proofs.Moving.{running_each, advanced_each}
use Rattle.sym_paths.specs.Acting.{taken, branched, ActsTo, ActsAsEach}
use Rattle.sym_paths.specs.Calls.{Called, terms_bound, IsFirstStore, waiting, entering, fails_to_call, EntersFound, CallsTerm, Calls}
use Rattle.sym_paths.specs.Cases.{AreResults, failing_with}
use Rattle.sym_paths.specs.Copies.{AreCopied}
use Rattle.sym_paths.specs.Guards.{at_label, for_side, turning, turns}
use Rattle.sym_paths.specs.Returns.{ResumesAt, returning, resuming, Returns}
use Rattle.sym_paths.specs.Throws.{Catches, handling, throwing, ThrowsTo, Throws}
use Rattle.sym_paths.proofs.Throwing.{handling_each}

-- ---- wider bounds

module _ (b c : ℕ) (wide : b ≤ c) where
  stores_up : (fs : List PureFrame) → Each (λ f. OfEachName (IsNarrow b) f.store) fs → Each (λ f. OfEachName (IsNarrow c) f.store) fs
  stores_up fs fine = each_to (λ f. OfEachName (IsNarrow b) f.store) (λ f. OfEachName (IsNarrow c) f.store) fs (λ f of_each x t is. narrow_up b c wide t (of_each x t is)) fine

  terms_up : (ts : List PureTerm) → Each (IsNarrow b) ts → Each (IsNarrow c) ts
  terms_up ts fine = each_to (IsNarrow b) (IsNarrow c) ts (narrow_up b c wide) fine

  pub state_up : (terms : StateTerms) → IsNarrowState terms (neg_ℤ (pos b)) (pos b) → IsNarrowState terms (neg_ℤ (pos c)) (pos c)
  state_up terms fine = record {
    placed = terms_up terms.placed fine.placed;
    described = fine.described;
    held = terms_up terms.held fine.held;
  }

  key_up : (loc : PureTerm) (sub : PureSub) → IsNarrowKey (neg_ℤ (pos b)) (pos b) loc sub → IsNarrowKey (neg_ℤ (pos c)) (pos c) loc sub
  key_up loc (named q) is = (narrow_up b c wide loc is.0, narrow_up b c wide q is.1)
  key_up loc sub is = absurd is

  end_up : (o : Option PureEnd) → IsNarrowEnd b o → IsNarrowEnd c o
  end_up (Some (returned t)) is = narrow_up b c wide t is
  end_up (Some (failed t place)) is = narrow_up b c wide t is
  end_up (Some (threw t place)) is = narrow_up b c wide t is
  end_up (Some (path_missed k place)) is = key_up k.loc k.sub is
  end_up (Some vanished) is = tt
  end_up (Some cut) is = tt
  end_up (Some (unknown place reason)) is = tt
  end_up None is = tt

-- ---- copies

module _ {S : Type 0} (stands : S → List PureValue → Heap → Type 0) (terms : S → StateTerms) (depends : S → List ℕ → List PureTerm → List PureValue → Heap → PureTerm → Type 0) (plain : S → ℤ → ℤ → Type 0) (b : ℕ) where
  one_copied : (path copy : PurePath S) → copy ≡ record path { memory = copy.memory } → IsCopy stands terms depends plain path.memory copy.memory → IsNarrowPath terms b path → IsNarrowPath terms b copy
  one_copied path copy is memory from =
      subst (IsNarrowPath terms b) (sym is)
      (record {
        stores = from.stores;
        memory = subst (λ (ts : StateTerms). IsNarrowState ts (neg_ℤ (pos b)) (pos b)) (sym memory.same_terms) from.memory;
        conds = from.conds;
        ending = from.ending;
        few_variables = from.few_variables;
      })

  pub copies_narrow : (cs ds : List (Candidate S)) → AreAllNarrow terms b cs → AreCopied stands terms depends plain cs ds → AreAllNarrow terms b ds
  copies_narrow [] ds from is = subst (AreAllNarrow terms b) (sym is) tt
  copies_narrow (c ∷ cs) ds from (d, (rest, (is, one, later))) = subst (AreAllNarrow terms b) (sym is) (one_copied c.path d.path one.path one.memory from.0, copies_narrow cs rest from.1 later)

taken_one : (takes : Bool) → length (taken takes) ≤ 1
taken_one true = omega arith
taken_one false = omega arith

-- the bounds after an action
lower_grown : (n : ℕ) → (neg_ℤ (pos n) -ℤ growth) ≡ neg_ℤ (pos (n + narrow_growth))
lower_grown n = grind (arith, ints)

higher_grown : (n : ℕ) → (pos n +ℤ growth) ≡ pos (n + narrow_growth)
higher_grown n = grind (arith, ints)

module _ {S : Type 0} (terms : S → StateTerms) (b : ℕ) (path : PurePath S) (from : IsNarrowPath terms b path) where
  abbrev wide : ℕ
  wide = b + narrow_growth

  abbrev Fine : PureTerm → Type 0
  Fine t = IsNarrow wide t

  abbrev Decided : PureAtom → Type 0
  Decided a = IsDecidedWithin (neg_ℤ (pos wide)) (pos wide) a

  abbrev Stack : List PureFrame → Type 0
  Stack fs = Each (λ f. OfEachName Fine f.store) fs

  abbrev IsFine : Candidate S → Type 0
  IsFine d = IsNarrowPath terms wide d.path

  abbrev All : List (Candidate S) → Type 0
  All = AreAllNarrow terms wide

  below : b ≤ wide
  below = omega arith

  pub stack : Stack path.stack
  stack = stores_up b wide below path.stack from.stores

  pub running : OfEachName Fine (running_store path.stack)
  running = running_each Fine path.stack stack

  pub old_ending : IsNarrowEnd wide path.ending
  old_ending = end_up b wide below path.ending from.ending

  conds_with : (more conds : List PureAtom) → conds ≡ path.conds ++ more → Each Decided more → Each Decided conds
  conds_with more conds is decided = subst (Each Decided) (sym is) (each_append Decided path.conds more (atoms_up b wide below path.conds from.conds) decided)

  -- a path that has the memory and the variables of the old one, or one more
  pub kept : (next : PurePath S) (more : List PureAtom) → next.memory ≡ path.memory → next.vars ≡ path.vars → next.steps ≡ path.steps + 1 → next.conds ≡ path.conds ++ more → Each Decided more → Stack next.stack → IsNarrowEnd wide next.ending
      → IsNarrowPath terms wide next
  kept next more memory vars steps conds decided stores ending =
      let count : length next.vars ≡ length path.vars = ap (λ (sorts : List Sort). length sorts) vars in
      let few : length path.vars ≤ path.steps + 2 ^ 39 = from.few_variables in
      record {
        stores = stores;
        memory = subst (λ (m : S). IsNarrowState (terms m) (neg_ℤ (pos wide)) (pos wide)) (sym memory) (state_up b wide below (terms path.memory) from.memory);
        conds = conds_with more next.conds conds decided;
        ending = ending;
        few_variables = omega (arith, count, steps, few);
      }

  pub with_one_more : (next : PurePath S) (sort : Sort) → next.memory ≡ path.memory → next.vars ≡ path.vars ++ sort ∷ [] → next.steps ≡ path.steps + 1 → next.conds ≡ path.conds → next.ending ≡ path.ending → Stack next.stack → IsNarrowPath terms wide next
  with_one_more next sort memory vars steps conds ending stores =
      let count : length next.vars ≡ length path.vars + 1 = ap (λ (sorts : List Sort). length sorts) vars ∙ length-append path.vars (sort ∷ []) in
      let few : length path.vars ≤ path.steps + 2 ^ 39 = from.few_variables in
      record {
        stores = stores;
        memory = subst (λ (m : S). IsNarrowState (terms m) (neg_ℤ (pos wide)) (pos wide)) (sym memory) (state_up b wide below (terms path.memory) from.memory);
        conds = subst (Each Decided) (sym conds) (atoms_up b wide below path.conds from.conds);
        ending = subst (IsNarrowEnd wide) (sym ending) old_ending;
        few_variables = omega (arith, count, steps, few);
      }

  -- ---- cases

  module _ (here : Place) where
    -- the conditions of the cases have forms of the fragment, and P holds of the result
    abbrev pub AreFine : {X : Type 0} → (X → Type 0) → PureCases X → Type 0
    AreFine P cases = EachCondition Decided cases × OnResult P cases.good

    all_faulted : (faults : List PureFaultCase) → Each (λ f. Each Decided f.conds) faults → All (map (faulted path here) faults)
    all_faulted [] decided = tt
    all_faulted (f ∷ faults) decided = (kept (faulted path here f).path f.conds refl refl refl refl decided.0 stack (refl, refl), all_faulted faults decided.1)

    last_narrow : {X : Type 0} (P : X → Type 0) (Make : PureGoodCase X → List (Candidate S) → Type 0) (o : Option (PureGoodCase X)) (last : List (Candidate S)) → OnConditions Decided o → OnResult P o → AreResults Make o last
        → ((g : PureGoodCase X) → Each Decided g.conds → P g.result → (ds : List (Candidate S)) → Make g ds → All ds) → All last
    last_narrow P Make None last decided holds made go = subst All (sym made) tt
    last_narrow P Make (Some g) last decided holds made go = go g decided holds last made

    pub cases_narrow : {X : Type 0} (P : X → Type 0) (Make : PureGoodCase X → List (Candidate S) → Type 0) (cases : PureCases X) (last : List (Candidate S)) → AreFine P cases → AreResults Make cases.good last
        → ((g : PureGoodCase X) → Each Decided g.conds → P g.result → (ds : List (Candidate S)) → Make g ds → All ds) → All (map (faulted path here) cases.faults ++ last)
    cases_narrow P Make cases last fine results go =
        each_append IsFine (map (faulted path here) cases.faults) last (all_faulted cases.faults fine.0.0) (last_narrow P Make cases.good last fine.0.1 fine.1 results go)

    as_results : (Makes : PureGoodCase PureTerm → Candidate S → Type 0) (o : Option (PureGoodCase PureTerm)) (last : List (Candidate S)) → IsResult Makes o last → AreResults (λ g ds. (d : Candidate S) × (Makes g d × (ds ≡ d ∷ []))) o last
    as_results Makes None last is = is
    as_results Makes (Some g) last is = is

    assigned_narrow : (x : List ℕ) (g : PureGoodCase PureTerm) (d : Candidate S) → Each Decided g.conds → Fine g.result → Assigns path x g d → IsFine d
    assigned_narrow x g d decided fine (bs, (bound, is)) =
        subst IsFine (sym is)
        (kept (assigned path bs g).path g.conds refl refl refl refl decided (advanced_each Fine path.stack bs stack (each_bound Fine (running_store path.stack) bs x g.result bound fine running)) old_ending)

    pub assigns_narrow : (x : List ℕ) (cases : PureCases PureTerm) (last : List (Candidate S)) → AreFine Fine cases → IsResult (Assigns path x) cases.good last → All (map (faulted path here) cases.faults ++ last)
    assigns_narrow x cases last fine results =
        cases_narrow Fine (λ g ds. (d : Candidate S) × (Assigns path x g d × (ds ≡ d ∷ []))) cases last fine (as_results (Assigns path x) cases.good last results)
        (λ g decided holds ds (d, (made, is)). subst All (sym is) (assigned_narrow x g d decided holds made, tt))

    pub fails_narrow : (cases : PureCases PureTerm) (last : List (Candidate S)) → AreFine Fine cases → IsResult (Fails path here) cases.good last → All (map (faulted path here) cases.faults ++ last)
    fails_narrow cases last fine results =
        cases_narrow Fine (λ g ds. (d : Candidate S) × (Fails path here g d × (ds ≡ d ∷ []))) cases last fine (as_results (Fails path here) cases.good last results)
        (λ g decided holds ds (d, (made, is)). subst All (sym is) (subst IsFine (sym made) (kept (failing path here g).path g.conds refl refl refl refl decided stack holds), tt))

    resumed_narrow : (w : Option (List ℕ)) (t : PureTerm) (f next : PureFrame) → Fine t → ResumesAt w t f next → OfEachName Fine f.store → OfEachName Fine next.store
    resumed_narrow None t f next fine is store = subst (λ (g : PureFrame). OfEachName Fine g.store) (sym is) store
    resumed_narrow (Some x) t f next fine (bs, (bound, is)) store = subst (λ (g : PureFrame). OfEachName Fine g.store) (sym is) (each_bound Fine f.store bs x t bound fine store)

    returns_as : (fs : List PureFrame) (g : PureGoodCase PureTerm) (ds : List (Candidate S)) → Stack fs → Each Decided g.conds → Fine g.result → Returns path fs g ds → All ds
    returns_as [] g ds stores decided fine is = absurd is
    returns_as (f ∷ []) g ds stores decided fine is = subst All (sym is) (kept (returning path g).path g.conds refl refl refl refl decided stack fine, tt)
    returns_as (f ∷ caller ∷ callers) g ds stores decided fine (next, (resumes, is)) =
        subst All (sym is)
        (kept (resuming path (next ∷ callers) g).path g.conds refl refl refl refl decided (resumed_narrow caller.waits g.result caller next fine resumes stores.1.0, stores.1.1) old_ending, tt)

    pub returns_narrow : (cases : PureCases PureTerm) (last : List (Candidate S)) → AreFine Fine cases → AreResults (Returns path path.stack) cases.good last → All (map (faulted path here) cases.faults ++ last)
    returns_narrow cases last fine results = cases_narrow Fine (Returns path path.stack) cases last fine results (λ g decided holds ds made. returns_as path.stack g ds stack decided holds made)

    catching_narrow : (fs : List PureFrame) (t : PureTerm) (nexts : List PureFrame) → Stack fs → Fine t → Catches t fs nexts → Stack nexts
    catching_narrow [] t nexts stores fine catches = absurd catches
    catching_narrow (f ∷ fs) t nexts stores fine (label, (has, (r, (resumes, is)))) = subst Stack (sym is) (resumed_narrow f.waits t f r fine resumes stores.0, stores.1)

    throws_to : (fs : List PureFrame) (g : PureGoodCase PureTerm) (ds : List (Candidate S)) → Stack fs → Each Decided g.conds → Fine g.result → ThrowsTo path here fs g ds → All ds
    throws_to [] g ds stores decided fine is = subst All (sym is) (kept (throwing path here g).path g.conds refl refl refl refl decided tt fine, tt)
    throws_to (f ∷ fs) g ds stores decided fine (nexts, (catches, is)) =
        subst All (sym is) (kept (resuming path nexts g).path g.conds refl refl refl refl decided (catching_narrow (f ∷ fs) g.result nexts stores fine catches) old_ending, tt)

    throws_as : (fs : List PureFrame) (g : PureGoodCase PureTerm) (ds : List (Candidate S)) → Stack fs → Each Decided g.conds → Fine g.result → Throws path here fs g ds → All ds
    throws_as [] g ds stores decided fine is = absurd is
    throws_as (f ∷ callers) g ds stores decided fine throws = throws_to (handling callers) g ds (handling_each (λ j. OfEachName Fine j.store) callers stores.1) decided fine throws

    pub throws_narrow : (cases : PureCases PureTerm) (last : List (Candidate S)) → AreFine Fine cases → AreResults (Throws path here path.stack) cases.good last → All (map (faulted path here) cases.faults ++ last)
    throws_narrow cases last fine results = cases_narrow Fine (Throws path here path.stack) cases last fine results (λ g decided holds ds made. throws_as path.stack g ds stack decided holds made)

    -- ---- guards

    side_narrow : (make : List PureAtom → Candidate S) → ((more : List PureAtom) → Each Decided more → IsFine (make more)) → (o : Option (List PureAtom)) → OnSide Decided o → All (for_side make o)
    side_narrow make fine None decided = tt
    side_narrow make fine (Some more) decided = (fine more decided, tt)

    labelled : (label : ℤ) (fs : List PureFrame) → Stack fs → Stack (at_label label fs)
    labelled (pos i) [] stores = tt
    labelled (negsuc i) [] stores = tt
    labelled (pos i) (f ∷ fs) stores = stores
    labelled (negsuc i) (f ∷ fs) stores = stores

    turned : (label : ℤ) (g : PureGoodCase PureTerm) (sides : PureSides) → Each Decided g.conds → EachSide Decided sides → All (turns path label here g sides)
    turned label g sides conds decided =
        let next : List PureFrame = advanced (running_store path.stack) path.stack in
        let both : (more : List PureAtom) → Each Decided more → Each Decided (g.conds ++ more) = λ more fine. each_append Decided g.conds more conds fine in
        let turned_as : (fs : List PureFrame) (side : ℕ) → Stack fs → (more : List PureAtom) → Each Decided more → IsFine (turning path fs side g more) =
        λ fs side stores more fine. kept (turning path fs side g more).path (g.conds ++ more) refl refl refl refl (both more fine) stores old_ending in
        each_append IsFine (for_side (turning path (at_label label path.stack) 1 g) sides.when_true)
        (for_side (turning path next 0 g) sides.when_false ++ for_side (failing_with path here (codes "type") g) sides.when_no_boolean)
        (side_narrow (turning path (at_label label path.stack) 1 g) (turned_as (at_label label path.stack) 1 (labelled label path.stack stack)) sides.when_true decided.0)
        (each_append IsFine (for_side (turning path next 0 g) sides.when_false) (for_side (failing_with path here (codes "type") g) sides.when_no_boolean)
        (side_narrow (turning path next 0 g) (turned_as next 0 (advanced_each Fine path.stack (running_store path.stack) stack running)) sides.when_false decided.1)
        (side_narrow (failing_with path here (codes "type") g) (λ more fine. kept (failing_with path here (codes "type") g more).path (g.conds ++ more) refl refl refl refl (both more fine) stack (refl, refl)) sides.when_no_boolean decided.2))

    pub turns_narrow : (label : ℤ) (faults : List PureFaultCase) (g : PureGoodCase PureTerm) (sides : PureSides) → Each (λ f. Each Decided f.conds) faults → Each Decided g.conds → EachSide Decided sides → All (map (faulted path here) faults ++ turns path label here g sides)
    turns_narrow label faults g sides of_faults conds decided = each_append IsFine (map (faulted path here) faults) (turns path label here g sides) (all_faulted faults of_faults) (turned label g sides conds decided)

    pub faults_narrow : (faults : List PureFaultCase) → Each (λ f. Each Decided f.conds) faults → All (map (faulted path here) faults)
    faults_narrow = all_faulted

    -- ---- calls

    waiting_narrow : (x : List ℕ) (label : Option ℕ) (fs : List PureFrame) → Stack fs → Stack (waiting x label fs)
    waiting_narrow x label [] stores = tt
    waiting_narrow x label (f ∷ fs) stores = stores

    choice_fine : (P : PureTerm → Type 0) (c : Bool) (t u : PureTerm) (o : Option PureTerm) → P t → (o ≡ Some u → P u) → (if c then Some t else o) ≡ Some u → P u
    choice_fine P true t u o fine later is = subst P (same_some is) fine
    choice_fine P false t u o fine later is = later is

    bound_fine : (P : PureTerm → Type 0) (params : List (List ℕ)) (ts : List PureTerm) → Each P ts → OfEachName P (terms_bound params ts)
    bound_fine P [] ts fine y u is = not_none is
    bound_fine P (x ∷ xs) [] fine y u is = not_none is
    bound_fine P (x ∷ xs) (t ∷ ts) fine y u is = choice_fine P (bytes_eq x y) t u (term_at (terms_bound xs ts) y) fine.0 (bound_fine P xs ts fine.1 y u) is

    module _ (p : PureParts) (x : List ℕ) (label : Option ℕ) (good : PureGoodCase Called) (decided : Each Decided good.conds) (fine : Each Fine good.result.args) where
      fails_to : (why : List ℕ) (d : Candidate S) → d ≡ fails_to_call path x label here why good → IsFine d
      fails_to why d is = subst IsFine (sym is) (kept (fails_to_call path x label here why good).path (good.conds ++ []) refl refl refl refl (each_append Decided good.conds [] decided tt) stack (refl, refl))

      enters : (c : Bool) (q : PureProc) (d : Candidate S)
          → MatchBool c ((bs : PureStore) × (IsFirstStore q.params good.result.args bs × (d ≡ entering path x label here q bs good))) (d ≡ fails_to_call path x label here (codes "arity") good) → IsFine d
      enters true q d (bs, (first, is)) =
          subst IsFine (sym is)
          (kept (entering path x label here q bs good).path good.conds refl refl refl refl decided
          (λ y u found. bound_fine Fine q.params good.result.args fine y u (sym (first y) ∙ found), waiting_narrow x label path.stack stack) old_ending)
      enters false q d is = fails_to (codes "arity") d is

      enters_found : (o : Option PureProc) (d : Candidate S) → EntersFound path x label here o good d → IsFine d
      enters_found None d is = fails_to (codes "proc") d is
      enters_found (Some q) d is = enters (length good.result.args == length q.params) q d is

      pub calls_literal : (t : PureTerm) (d : Candidate S) → is_literal t ≡ true → CallsTerm path x label here p t good d → IsFine d
      calls_literal (literal (Literal.Proc f)) d lit is = enters_found (find_proc p.procs f) d is
      calls_literal (literal (Literal.Int n)) d lit is = fails_to (codes "proc") d is
      calls_literal (literal (Literal.Bool c)) d lit is = fails_to (codes "proc") d is
      calls_literal (literal (Literal.Str cs)) d lit is = fails_to (codes "proc") d is
      calls_literal (literal (Literal.Kind j)) d lit is = fails_to (codes "proc") d is
      calls_literal (variable y) d lit is = absurd (true≢false (sym lit))
      calls_literal (list_of ts) d lit is = absurd (true≢false (sym lit))
      calls_literal (unary_of op t) d lit is = absurd (true≢false (sym lit))
      calls_literal (binary_of op s t) d lit is = absurd (true≢false (sym lit))

    abbrev pub IsNarrowCall : Called → Type 0
    IsNarrowCall k = (is_literal k.callee ≡ true) × Each Fine k.args

    pub calls_narrow : (p : PureParts) (x : List ℕ) (label : Option ℕ) (cases : PureCases Called) (last : List (Candidate S)) → AreFine IsNarrowCall cases → AreResults (Calls path x label here p) cases.good last → All (map (faulted path here) cases.faults ++ last)
    calls_narrow p x label cases last fine results =
        cases_narrow IsNarrowCall (Calls path x label here p) cases last fine results
        (λ g decided holds ds (d, (term, is)). subst All (sym is) (calls_literal p x label g decided holds.1 g.result.callee d holds.0 term, tt))

    -- ---- actions

    module _ (x action : List ℕ) (takes : Bool) (g : PureGoodCase (List PureTerm)) (decided : Each Decided g.conds) where
      abbrev IsNarrowBranch : PureBranch S → Type 0
      IsNarrowBranch br = Each Decided br.conds × (IsNarrowState (terms br.state) (neg_ℤ (pos wide)) (pos wide) × IsNarrowResult (neg_ℤ (pos wide)) (pos wide) br.result)

      -- the path of a branch, whatever it comes to
      branched_path : (br : PureBranch S) (next : PurePath S) → IsNarrowBranch br → next.vars ≡ path.vars ++ taken takes → next.steps ≡ path.steps + 1 → next.memory ≡ br.state → next.conds ≡ path.conds ++ (g.conds ++ br.conds) → Stack next.stack → IsNarrowEnd wide next.ending
          → IsNarrowPath terms wide next
      branched_path br next is_narrow vars steps memory conds stores ending =
          let count : length next.vars ≡ length path.vars + length (taken takes) = ap (λ (sorts : List Sort). length sorts) vars ∙ length-append path.vars (taken takes) in
          let one : length (taken takes) ≤ 1 = taken_one takes in
          let few : length path.vars ≤ path.steps + 2 ^ 39 = from.few_variables in
          record {
            stores = stores;
            memory = subst (λ (m : S). IsNarrowState (terms m) (neg_ℤ (pos wide)) (pos wide)) (sym memory) is_narrow.1.0;
            conds = conds_with (g.conds ++ br.conds) next.conds conds (each_append Decided g.conds br.conds decided is_narrow.0);
            ending = ending;
            few_variables = omega (arith, count, one, steps, few);
          }

      acts_to : (br : PureBranch S) (r : PureResult) (d : Candidate S) → r ≡ br.result → IsNarrowBranch br → ActsTo path x here takes g br r d → IsFine d
      acts_to br (done t) d is_result is_narrow (bs, (bound, is)) =
          let of_result : Fine t = subst (IsNarrowResult (neg_ℤ (pos wide)) (pos wide)) (sym is_result) is_narrow.1.1 in
          subst IsFine (sym is)
          (branched_path br (branched path x here takes g br 0 (advanced bs path.stack) None).path is_narrow refl refl refl refl
          (advanced_each Fine path.stack bs stack (each_bound Fine (running_store path.stack) bs x t bound of_result running)) tt)
      acts_to br (action_failed t) d is_result is_narrow is =
          let of_result : Fine t = subst (IsNarrowResult (neg_ℤ (pos wide)) (pos wide)) (sym is_result) is_narrow.1.1 in
          subst IsFine (sym is) (branched_path br (branched path x here takes g br 1 path.stack (Some (failed t here))).path is_narrow refl refl refl refl stack of_result)
      acts_to br (missed k) d is_result is_narrow is =
          let of_result : IsNarrowKey (neg_ℤ (pos wide)) (pos wide) k.loc k.sub = subst (IsNarrowResult (neg_ℤ (pos wide)) (pos wide)) (sym is_result) is_narrow.1.1 in
          subst IsFine (sym is) (branched_path br (branched path x here takes g br 2 path.stack (Some (path_missed k here))).path is_narrow refl refl refl refl stack of_result)

      acts_each : (bs : List (PureBranch S)) (ds : List (Candidate S)) → Each IsNarrowBranch bs → ActsAsEach path x here takes g bs ds → All ds
      acts_each [] ds each is = subst All (sym is) tt
      acts_each (br ∷ bs) ds each (d, (rest, (is, to, later))) = subst All (sym is) (acts_to br br.result d refl each.0 to, acts_each bs rest each.1 later)

      abbrev Branches : ℤ → ℤ → List (PureBranch S) → Type 0
      Branches low high bs = Each (λ br. Each (IsDecidedWithin low high) br.conds × (IsNarrowState (terms br.state) low high × IsNarrowResult low high br.result)) bs

      pub acts_narrow : (bs : List (PureBranch S)) (ds : List (Candidate S)) → AreNarrowArguments action g.result (neg_ℤ (pos b)) (pos b) → ActsNarrowly terms action g.result path.memory bs → ActsAsEach path x here takes g bs ds → All ds
      acts_narrow bs ds args acts each =
          acts_each bs ds
          (subst (λ low. Branches low (pos wide) bs) (lower_grown b)
          (subst (λ high. Branches (neg_ℤ (pos b) -ℤ growth) high bs) (higher_grown b)
          (acts (neg_ℤ (pos b)) (pos b) from.memory args)))
          each
