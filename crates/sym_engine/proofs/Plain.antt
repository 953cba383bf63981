-- From a plain path, simple commands lead to plain candidates.
use Rattle.std.proofs.Common.{◌≡◌, ◌⊎◌, inl, inr, ℕ, ◌+◌, ◌<◌, ◌≤◌, ◌^◌, ℤ, pos, negsuc, neg_ℤ, ◌-ℤ◌, ◌+ℤ◌, ◌≤ℤ◌, List, [], ◌∷◌, ◌++◌, map, length, Bool, true, false, if◌then◌else◌, Option, Some, None, IsTrue, refl, sym, ap, subst, ◌∙◌, true≢false, arith}
use Rattle.std.specs.Prelude.{codes, ◌==◌, MatchBool}
use Rattle.std.specs.Str.{bytes_eq}
use Rattle.std.proofs.lemmas.Int.{ints}
use Rattle.std.proofs.lemmas.List.{length-append}
use Rattle.gil_values.specs.declared.places.Place.{Place}
use Rattle.gil_values.specs.Pure.{PureValue}
use Rattle.gil_syntax.specs.Programs.{find_proc}
use Rattle.gil_syntax.specs.Pure.{PureParts, PureProc}
use Rattle.mem_model.specs.Heaps.{Heap}
use Rattle.pure_terms.specs.declared.literals.Literal.{Literal}
use Rattle.pure_terms.specs.declared.variables.Sort.{Sort}
use Rattle.pure_terms.specs.Pure.{PureTerm, literal, variable, list_of, unary_of, binary_of, PureAtom}
use Rattle.sym_engine.specs.Plain.{AreAllPlain}
use Rattle.sym_evaluation.specs.Plainly.{IsPlain, text_bound, IsSureFault, IsSureResult}
use Rattle.sym_evaluation.specs.Pure.{PureStore, term_at, PureGoodCase, PureCases, PureSides}
use Rattle.sym_evaluation.specs.Questions.{OnSide, EachSide}
use Rattle.sym_model.specs.Laws.{IsPlainWithin, IsDecidedWithin, IsCopy, ActsPlainly, growth}
use Rattle.sym_model.specs.Lists.{Each}
use Rattle.sym_model.specs.Pure.{PureBranch, PureResult, done, failed as action_failed, missed, result_terms}
use Rattle.sym_model.specs.Terms.{StateTerms, is_literal}
use Rattle.sym_model.proofs.ListLaws.{same_some, not_none, each_append, each_to}
use Rattle.sym_paths.specs.Meaning.{OfEachName, end_terms}
use Rattle.sym_paths.specs.Moves.{advanced, running_store}
use Rattle.sym_paths.specs.Pure.{PureFrame, failed, missed as path_missed, PurePath}
use Rattle.sym_paths.specs.Settling.{Candidate}
use Rattle.sym_paths.specs.Steps.{step_growth, narrow_bound, IsPlainPath}
use Rattle.sym_paths.specs.Valued.{faulted, failing, assigned, Assigns, Fails, IsResult}
use Rattle.sym_paths.proofs.Binding.{each_bound}
use Rattle.sym_paths.proofs.Moving.{running_each, advanced_each}
use Rattle.sym_model.proofs.Wider.{plain_wider, decided_wider, lower_bound, higher_bound}
use Rattle.sym_paths.specs.Acting.{taken, branched, ActsTo, ActsAsEach}
use Rattle.sym_paths.specs.Calls.{Called, call_cases, terms_bound, IsFirstStore, waiting, entering, fails_to_call, EntersFound, CallsTerm, Calls}
use Rattle.sym_paths.specs.Cases.{AreResults, failing_with}
use Rattle.sym_paths.specs.Copies.{AreCopied}
use Rattle.sym_paths.specs.Guards.{at_label, for_side, turning, turns}
use Rattle.sym_paths.specs.Returns.{ResumesAt, returning, resuming, Returns}
use Rattle.sym_paths.specs.Throws.{Catches, handling, throwing, ThrowsTo, Throws}
use Rattle.sym_paths.proofs.Throwing.{handling_each}

pub within_held_numbers : (b : ℕ) → b + step_growth ≤ narrow_bound → b + text_bound < 2 ^ 127
within_held_numbers b small = omega (arith, small)

-- ---- wider bounds

module _ (b c : ℕ) (wide : b ≤ c) where
  pub term_up : (t : PureTerm) → IsPlain b t → IsPlain c t
  term_up t is = plain_wider (neg_ℤ (pos b)) (pos b) (neg_ℤ (pos c)) (pos c) (lower_bound b c wide) (higher_bound b c wide) t is

  pub atom_up : (a : PureAtom) → IsDecidedWithin (neg_ℤ (pos b)) (pos b) a → IsDecidedWithin (neg_ℤ (pos c)) (pos c) a
  atom_up a is = decided_wider (neg_ℤ (pos b)) (pos b) (neg_ℤ (pos c)) (pos c) (lower_bound b c wide) (higher_bound b c wide) a is

  pub terms_up : (ts : List PureTerm) → Each (IsPlain b) ts → Each (IsPlain c) ts
  terms_up ts fine = each_to (IsPlain b) (IsPlain c) ts term_up fine

  pub atoms_up : (conds : List PureAtom) → Each (IsDecidedWithin (neg_ℤ (pos b)) (pos b)) conds → Each (IsDecidedWithin (neg_ℤ (pos c)) (pos c)) conds
  atoms_up conds fine = each_to (IsDecidedWithin (neg_ℤ (pos b)) (pos b)) (IsDecidedWithin (neg_ℤ (pos c)) (pos c)) conds atom_up fine

  pub stack_up : (fs : List PureFrame) → Each (λ f. OfEachName (IsPlain b) f.store) fs → Each (λ f. OfEachName (IsPlain c) f.store) fs
  stack_up fs fine = each_to (λ f. OfEachName (IsPlain b) f.store) (λ f. OfEachName (IsPlain c) f.store) fs (λ f of_each x t is. term_up t (of_each x t is)) fine

-- ---- copies

module _ {S : Type 0} (stands : S → List PureValue → Heap → Type 0) (terms : S → StateTerms) (depends : S → List ℕ → List PureTerm → List PureValue → Heap → PureTerm → Type 0) (plain : S → ℤ → ℤ → Type 0) (b : ℕ) where
  one_copied : (path copy : PurePath S) → copy ≡ record path { memory = copy.memory } → IsCopy stands terms depends plain path.memory copy.memory → IsPlainPath plain b path → IsPlainPath plain b copy
  one_copied path copy is memory from =
      subst (IsPlainPath plain b) (sym is)
      (record {
        stores = from.stores;
        memory = λ low high below above. memory.as_plain low high (from.memory low high below above);
        conds = from.conds;
        ending = from.ending;
        few_variables = from.few_variables;
      })

  pub copies_plain : (cs ds : List (Candidate S)) → AreAllPlain plain b cs → AreCopied stands terms depends plain cs ds → AreAllPlain plain b ds
  copies_plain [] ds from is = subst (AreAllPlain plain b) (sym is) tt
  copies_plain (c ∷ cs) ds from (d, (rest, (is, one, later))) = subst (AreAllPlain plain b) (sym is) (one_copied c.path d.path one.path one.memory from.0, copies_plain cs rest from.1 later)

-- ---- bounds of actions

lower_back : (low : ℤ) → ((low +ℤ growth) -ℤ growth) ≡ low
lower_back low = grind (arith, ints)

higher_back : (high : ℤ) → ((high -ℤ growth) +ℤ growth) ≡ high
higher_back high = grind (arith, ints)

taken_one : (takes : Bool) → length (taken takes) ≤ 1
taken_one true = omega arith
taken_one false = omega arith

module _ {S : Type 0} (plain : S → ℤ → ℤ → Type 0) (b : ℕ) (path : PurePath S) (from : IsPlainPath plain b path) where
  abbrev wide : ℕ
  wide = b + step_growth

  abbrev Fine : PureTerm → Type 0
  Fine t = IsPlain wide t

  abbrev Decided : PureAtom → Type 0
  Decided a = IsDecidedWithin (neg_ℤ (pos wide)) (pos wide) a

  abbrev Stack : List PureFrame → Type 0
  Stack fs = Each (λ f. OfEachName Fine f.store) fs

  abbrev IsFine : Candidate S → Type 0
  IsFine d = IsPlainPath plain wide d.path

  abbrev All : List (Candidate S) → Type 0
  All = AreAllPlain plain wide

  below : b ≤ wide
  below = omega arith

  text_below : b + text_bound ≤ wide
  text_below = omega arith

  pub stack : Stack path.stack
  stack = stack_up b wide below path.stack from.stores

  pub running : OfEachName Fine (running_store path.stack)
  running = running_each Fine path.stack stack

  pub old_ending : Each Fine (end_terms path.ending)
  old_ending = terms_up b wide below (end_terms path.ending) from.ending

  conds_with : (more conds : List PureAtom) → conds ≡ path.conds ++ more → Each Decided more → Each Decided conds
  conds_with more conds is decided = subst (Each Decided) (sym is) (each_append Decided path.conds more (atoms_up b wide below path.conds from.conds) decided)

  old_memory : (low high : ℤ) → low ≤ℤ neg_ℤ (pos wide) → pos wide ≤ℤ high → plain path.memory low high
  old_memory low high lower higher =
      let low_too : low ≤ℤ neg_ℤ (pos b) = omega (arith, ints, lower, lower_bound b wide below) in
      let high_too : pos b ≤ℤ high = omega (arith, ints, higher, higher_bound b wide below) in
      from.memory low high low_too high_too

  -- a path that has the memory and the variables of the old one, or one more
  pub kept : (next : PurePath S) (more : List PureAtom) → next.memory ≡ path.memory → next.vars ≡ path.vars → next.steps ≡ path.steps + 1 → next.conds ≡ path.conds ++ more → Each Decided more → Stack next.stack → Each Fine (end_terms next.ending)
      → IsPlainPath plain wide next
  kept next more memory vars steps conds decided stores ending =
      let count : length next.vars ≡ length path.vars = ap (λ (sorts : List Sort). length sorts) vars in
      let few : length path.vars ≤ path.steps + 2 ^ 39 = from.few_variables in
      record {
        stores = stores;
        memory = λ low high lower higher. subst (λ m. plain m low high) (sym memory) (old_memory low high lower higher);
        conds = conds_with more next.conds conds decided;
        ending = ending;
        few_variables = omega (arith, count, steps, few);
      }

  pub with_one_more : (next : PurePath S) (sort : Sort) → next.memory ≡ path.memory → next.vars ≡ path.vars ++ sort ∷ [] → next.steps ≡ path.steps + 1 → next.conds ≡ path.conds → next.ending ≡ path.ending → Stack next.stack → IsPlainPath plain wide next
  with_one_more next sort memory vars steps conds ending stores =
      let count : length next.vars ≡ length path.vars + 1 = ap (λ (sorts : List Sort). length sorts) vars ∙ length-append path.vars (sort ∷ []) in
      let few : length path.vars ≤ path.steps + 2 ^ 39 = from.few_variables in
      record {
        stores = stores;
        memory = λ low high lower higher. subst (λ m. plain m low high) (sym memory) (old_memory low high lower higher);
        conds = subst (Each Decided) (sym conds) (atoms_up b wide below path.conds from.conds);
        ending = subst (λ o. Each Fine (end_terms o)) (sym ending) old_ending;
        few_variables = omega (arith, count, steps, few);
      }

  -- ---- where one outcome is sure

  module _ (here : Place) where
    pub sure_plain : {X : Type 0} (P : X → Type 0) (Make : PureGoodCase X → List (Candidate S) → Type 0) (cases : PureCases X) (last : List (Candidate S)) → IsSureFault cases ⊎ IsSureResult P cases → AreResults Make cases.good last
        → ((x : X) → P x → (ds : List (Candidate S)) → Make (record { conds = []; result = x }) ds → All ds) → All (map (faulted path here) cases.faults ++ last)
    sure_plain {X} P Make cases last (inl (f, is)) results go =
        subst (λ (k : PureCases X). AreResults Make k.good last → All (map (faulted path here) k.faults ++ last)) (sym is)
        (λ none. (kept (faulted path here (record { conds = []; fault = f })).path [] refl refl refl refl tt stack ((refl, refl), tt), subst All (sym none) tt)) results
    sure_plain {X} P Make cases last (inr (x, (is, holds))) results go =
        subst (λ (k : PureCases X). AreResults Make k.good last → All (map (faulted path here) k.faults ++ last)) (sym is) (λ made. go x holds last made) results

    as_results : (Makes : PureGoodCase PureTerm → Candidate S → Type 0) (o : Option (PureGoodCase PureTerm)) (last : List (Candidate S)) → IsResult Makes o last → AreResults (λ g ds. (d : Candidate S) × (Makes g d × (ds ≡ d ∷ []))) o last
    as_results Makes None last is = is
    as_results Makes (Some g) last is = is

    abbrev Sure : PureCases PureTerm → Type 0
    Sure cases = IsSureFault cases ⊎ IsSureResult (IsPlain (b + text_bound)) cases

    text_up : (t : PureTerm) → IsPlain (b + text_bound) t → Fine t
    text_up t is = term_up (b + text_bound) wide text_below t is

    assigned_plain : (x : List ℕ) (t : PureTerm) (d : Candidate S) → IsPlain (b + text_bound) t → Assigns path x (record { conds = []; result = t }) d → IsFine d
    assigned_plain x t d fine (bs, (bound, is)) =
        subst IsFine (sym is)
        (kept (assigned path bs (record { conds = []; result = t })).path [] refl refl refl refl tt (advanced_each Fine path.stack bs stack (each_bound Fine (running_store path.stack) bs x t bound (text_up t fine) running)) old_ending)

    pub assigns_plain : (x : List ℕ) (cases : PureCases PureTerm) (last : List (Candidate S)) → Sure cases → IsResult (Assigns path x) cases.good last → All (map (faulted path here) cases.faults ++ last)
    assigns_plain x cases last sure results =
        sure_plain (IsPlain (b + text_bound)) (λ g ds. (d : Candidate S) × (Assigns path x g d × (ds ≡ d ∷ []))) cases last sure (as_results (Assigns path x) cases.good last results)
        (λ t fine ds (d, (made, is)). subst All (sym is) (assigned_plain x t d fine made, tt))

    pub fails_plain : (cases : PureCases PureTerm) (last : List (Candidate S)) → Sure cases → IsResult (Fails path here) cases.good last → All (map (faulted path here) cases.faults ++ last)
    fails_plain cases last sure results =
        sure_plain (IsPlain (b + text_bound)) (λ g ds. (d : Candidate S) × (Fails path here g d × (ds ≡ d ∷ []))) cases last sure (as_results (Fails path here) cases.good last results)
        (λ t fine ds (d, (made, is)). subst All (sym is) (subst IsFine (sym made) (kept (failing path here (record { conds = []; result = t })).path [] refl refl refl refl tt stack (text_up t fine, tt)), tt))

    resumed_plain : (w : Option (List ℕ)) (t : PureTerm) (f next : PureFrame) → Fine t → ResumesAt w t f next → OfEachName Fine f.store → OfEachName Fine next.store
    resumed_plain None t f next fine is plain_store = subst (λ (g : PureFrame). OfEachName Fine g.store) (sym is) plain_store
    resumed_plain (Some x) t f next fine (bs, (bound, is)) plain_store = subst (λ (g : PureFrame). OfEachName Fine g.store) (sym is) (each_bound Fine f.store bs x t bound fine plain_store)

    returns_as : (fs : List PureFrame) (t : PureTerm) (ds : List (Candidate S)) → Stack fs → Fine t → Returns path fs (record { conds = []; result = t }) ds → All ds
    returns_as [] t ds stores fine is = absurd is
    returns_as (f ∷ []) t ds stores fine is = subst All (sym is) (kept (returning path (record { conds = []; result = t })).path [] refl refl refl refl tt stack (fine, tt), tt)
    returns_as (f ∷ caller ∷ callers) t ds stores fine (next, (resumes, is)) =
        subst All (sym is)
        (kept (resuming path (next ∷ callers) (record { conds = []; result = t })).path [] refl refl refl refl tt (resumed_plain caller.waits t caller next fine resumes stores.1.0, stores.1.1) old_ending, tt)

    pub returns_plain : (cases : PureCases PureTerm) (last : List (Candidate S)) → Sure cases → AreResults (Returns path path.stack) cases.good last → All (map (faulted path here) cases.faults ++ last)
    returns_plain cases last sure results = sure_plain (IsPlain (b + text_bound)) (Returns path path.stack) cases last sure results (λ t fine ds made. returns_as path.stack t ds stack (text_up t fine) made)

    catching_plain : (fs : List PureFrame) (t : PureTerm) (nexts : List PureFrame) → Stack fs → Fine t → Catches t fs nexts → Stack nexts
    catching_plain [] t nexts stores fine catches = absurd catches
    catching_plain (f ∷ fs) t nexts stores fine (label, (has, (r, (resumes, is)))) = subst Stack (sym is) (resumed_plain f.waits t f r fine resumes stores.0, stores.1)

    throws_to : (fs : List PureFrame) (t : PureTerm) (ds : List (Candidate S)) → Stack fs → Fine t → ThrowsTo path here fs (record { conds = []; result = t }) ds → All ds
    throws_to [] t ds stores fine is = subst All (sym is) (kept (throwing path here (record { conds = []; result = t })).path [] refl refl refl refl tt tt (fine, tt), tt)
    throws_to (f ∷ fs) t ds stores fine (nexts, (catches, is)) =
        subst All (sym is) (kept (resuming path nexts (record { conds = []; result = t })).path [] refl refl refl refl tt (catching_plain (f ∷ fs) t nexts stores fine catches) old_ending, tt)

    throws_as : (fs : List PureFrame) (t : PureTerm) (ds : List (Candidate S)) → Stack fs → Fine t → Throws path here fs (record { conds = []; result = t }) ds → All ds
    throws_as [] t ds stores fine is = absurd is
    throws_as (f ∷ callers) t ds stores fine throws = throws_to (handling callers) t ds (handling_each (λ j. OfEachName Fine j.store) callers stores.1) fine throws

    pub throws_plain : (cases : PureCases PureTerm) (last : List (Candidate S)) → Sure cases → AreResults (Throws path here path.stack) cases.good last → All (map (faulted path here) cases.faults ++ last)
    throws_plain cases last sure results = sure_plain (IsPlain (b + text_bound)) (Throws path here path.stack) cases last sure results (λ t fine ds made. throws_as path.stack t ds stack (text_up t fine) made)

    -- ---- guards

    side_plain : (make : List PureAtom → Candidate S) → ((more : List PureAtom) → Each Decided more → IsFine (make more)) → (o : Option (List PureAtom)) → OnSide (IsDecidedWithin (neg_ℤ (pos (b + text_bound))) (pos (b + text_bound))) o → All (for_side make o)
    side_plain make fine None decided = tt
    side_plain make fine (Some more) decided = (fine more (atoms_up (b + text_bound) wide text_below more decided), tt)

    labelled : (label : ℤ) (fs : List PureFrame) → Stack fs → Stack (at_label label fs)
    labelled (pos i) [] stores = tt
    labelled (negsuc i) [] stores = tt
    labelled (pos i) (f ∷ fs) stores = stores
    labelled (negsuc i) (f ∷ fs) stores = stores

    pub turned : (label : ℤ) (t : PureTerm) (sides : PureSides) (ds : List (Candidate S)) → EachSide (IsDecidedWithin (neg_ℤ (pos (b + text_bound))) (pos (b + text_bound))) sides → ds ≡ turns path label here (record { conds = []; result = t }) sides → All ds
    turned label t sides ds decided is =
        let g : PureGoodCase PureTerm = record { conds = []; result = t } in
        let next : List PureFrame = advanced (running_store path.stack) path.stack in
        let turned_as : (fs : List PureFrame) (side : ℕ) → Stack fs → (more : List PureAtom) → Each Decided more → IsFine (turning path fs side g more) =
        λ fs side stores more fine. kept (turning path fs side g more).path more refl refl refl refl fine stores old_ending in
        subst All (sym is)
        (each_append IsFine (for_side (turning path (at_label label path.stack) 1 g) sides.when_true)
        (for_side (turning path next 0 g) sides.when_false ++ for_side (failing_with path here (codes "type") g) sides.when_no_boolean)
        (side_plain (turning path (at_label label path.stack) 1 g) (turned_as (at_label label path.stack) 1 (labelled label path.stack stack)) sides.when_true decided.0)
        (each_append IsFine (for_side (turning path next 0 g) sides.when_false) (for_side (failing_with path here (codes "type") g) sides.when_no_boolean)
        (side_plain (turning path next 0 g) (turned_as next 0 (advanced_each Fine path.stack (running_store path.stack) stack running)) sides.when_false decided.1)
        (side_plain (failing_with path here (codes "type") g) (λ more fine. kept (failing_with path here (codes "type") g more).path more refl refl refl refl fine stack ((refl, refl), tt)) sides.when_no_boolean decided.2)))

    -- ---- calls

    waiting_plain : (x : List ℕ) (label : Option ℕ) (fs : List PureFrame) → Stack fs → Stack (waiting x label fs)
    waiting_plain x label [] stores = tt
    waiting_plain x label (f ∷ fs) stores = stores

    choice_plain : (P : PureTerm → Type 0) (c : Bool) (t u : PureTerm) (o : Option PureTerm) → P t → (o ≡ Some u → P u) → (if c then Some t else o) ≡ Some u → P u
    choice_plain P true t u o fine later is = subst P (same_some is) fine
    choice_plain P false t u o fine later is = later is

    bound_plain : (P : PureTerm → Type 0) (params : List (List ℕ)) (ts : List PureTerm) → Each P ts → OfEachName P (terms_bound params ts)
    bound_plain P [] ts fine y u is = not_none is
    bound_plain P (x ∷ xs) [] fine y u is = not_none is
    bound_plain P (x ∷ xs) (t ∷ ts) fine y u is = choice_plain P (bytes_eq x y) t u (term_at (terms_bound xs ts) y) fine.0 (bound_plain P xs ts fine.1 y u) is

    module _ (p : PureParts) (x : List ℕ) (label : Option ℕ) (k : Called) (fine : Each (IsPlain (b + text_bound)) k.args) where
      abbrev good : PureGoodCase Called
      good = record { conds = []; result = k }

      fails_to : (why : List ℕ) (d : Candidate S) → d ≡ fails_to_call path x label here why good → IsFine d
      fails_to why d is = subst IsFine (sym is) (kept (fails_to_call path x label here why good).path [] refl refl refl refl tt stack ((refl, refl), tt))

      enters : (c : Bool) (q : PureProc) (d : Candidate S)
          → MatchBool c ((bs : PureStore) × (IsFirstStore q.params k.args bs × (d ≡ entering path x label here q bs good))) (d ≡ fails_to_call path x label here (codes "arity") good) → IsFine d
      enters true q d (bs, (first, is)) =
          subst IsFine (sym is)
          (kept (entering path x label here q bs good).path [] refl refl refl refl tt
          (λ y u found. bound_plain Fine q.params k.args (terms_up (b + text_bound) wide text_below k.args fine) y u (sym (first y) ∙ found), waiting_plain x label path.stack stack) old_ending)
      enters false q d is = fails_to (codes "arity") d is

      enters_found : (o : Option PureProc) (d : Candidate S) → EntersFound path x label here o good d → IsFine d
      enters_found None d is = fails_to (codes "proc") d is
      enters_found (Some q) d is = enters (length k.args == length q.params) q d is

      calls_literal : (t : PureTerm) (d : Candidate S) → is_literal t ≡ true → CallsTerm path x label here p t good d → IsFine d
      calls_literal (literal (Literal.Proc f)) d lit is = enters_found (find_proc p.procs f) d is
      calls_literal (literal (Literal.Int n)) d lit is = fails_to (codes "proc") d is
      calls_literal (literal (Literal.Bool c)) d lit is = fails_to (codes "proc") d is
      calls_literal (literal (Literal.Str cs)) d lit is = fails_to (codes "proc") d is
      calls_literal (literal (Literal.Kind j)) d lit is = fails_to (codes "proc") d is
      calls_literal (variable y) d lit is = absurd (true≢false (sym lit))
      calls_literal (list_of ts) d lit is = absurd (true≢false (sym lit))
      calls_literal (unary_of op t) d lit is = absurd (true≢false (sym lit))
      calls_literal (binary_of op s t) d lit is = absurd (true≢false (sym lit))

    abbrev SureLiteral : PureCases PureTerm → Type 0
    SureLiteral cases = IsSureFault cases ⊎ IsSureResult (λ t. is_literal t ≡ true) cases

    abbrev AllSure : PureCases (List PureTerm) → Type 0
    AllSure cases = IsSureFault cases ⊎ IsSureResult (Each (IsPlain (b + text_bound))) cases

    abbrev IsPlainCall : Called → Type 0
    IsPlainCall k = (is_literal k.callee ≡ true) × Each (IsPlain (b + text_bound)) k.args

    both_sure : (callee : PureCases PureTerm) (args : PureCases (List PureTerm)) → SureLiteral callee → AllSure args → IsSureFault (call_cases callee args) ⊎ IsSureResult IsPlainCall (call_cases callee args)
    both_sure callee args (inl (f, is)) sure = inl (f, ap (λ k. call_cases k args) is)
    both_sure callee args (inr (t, (is, lit))) (inl (f, more)) = inl (f, ap (λ k. call_cases k args) is ∙ ap (call_cases (record { faults = []; good = Some (record { conds = []; result = t }) })) more)
    both_sure callee args (inr (t, (is, lit))) (inr (ts, (more, fine))) =
        inr (record { callee = t; args = ts }, (ap (λ k. call_cases k args) is ∙ ap (call_cases (record { faults = []; good = Some (record { conds = []; result = t }) })) more, (lit, fine)))

    pub calls_plain : (p : PureParts) (x : List ℕ) (label : Option ℕ) (callee : PureCases PureTerm) (args : PureCases (List PureTerm)) (last : List (Candidate S)) → SureLiteral callee → AllSure args → AreResults (Calls path x label here p) (call_cases callee args).good last
        → All (map (faulted path here) (call_cases callee args).faults ++ last)
    calls_plain p x label callee args last literal_callee sure results =
        sure_plain IsPlainCall (Calls path x label here p) (call_cases callee args) last (both_sure callee args literal_callee sure) results
        (λ k fine ds (d, (term, is)). subst All (sym is) (calls_literal p x label k fine.1 k.callee d fine.0 term, tt))

    -- ---- actions

    module _ (x action : List ℕ) (takes : Bool) (ts : List PureTerm) (fine : Each (IsPlain (b + text_bound)) ts) (sized : IsTrue (bytes_eq action (codes "alloc")) → Each (λ t. IsTrue (is_literal t)) ts) where
      abbrev args_good : PureGoodCase (List PureTerm)
      args_good = record { conds = []; result = ts }

      -- what is plain of one branch, within all bounds that are wide enough
      abbrev IsPlainBranch : PureBranch S → Type 0
      IsPlainBranch br = (low high : ℤ) → low ≤ℤ neg_ℤ (pos wide) → pos wide ≤ℤ high
          → Each (IsDecidedWithin low high) br.conds × (plain br.state low high × Each (IsPlainWithin low high) (result_terms br.result))

      each_branch : (bs : List (PureBranch S))
          → ((low high : ℤ) → low ≤ℤ neg_ℤ (pos wide) → pos wide ≤ℤ high → Each (λ br. Each (IsDecidedWithin low high) br.conds × (plain br.state low high × Each (IsPlainWithin low high) (result_terms br.result))) bs)
          → Each IsPlainBranch bs
      each_branch [] all = tt
      each_branch (br ∷ bs) all = (λ low high lower higher. (all low high lower higher).0, each_branch bs (λ low high lower higher. (all low high lower higher).1))

      inner_low : (low : ℤ) → low ≤ℤ neg_ℤ (pos wide) → (low +ℤ growth) ≤ℤ neg_ℤ (pos (b + text_bound))
      inner_low low lower = omega (arith, ints, lower)

      inner_high : (high : ℤ) → pos wide ≤ℤ high → pos (b + text_bound) ≤ℤ (high -ℤ growth)
      inner_high high higher = omega (arith, ints, higher)

      zero_above : (n : ℕ) (low : ℤ) → low ≤ℤ neg_ℤ (pos n) → low ≤ℤ pos 0
      zero_above n low lower = omega (arith, ints, lower)

      zero_below : (n : ℕ) (high : ℤ) → pos n ≤ℤ high → pos 0 ≤ℤ high
      zero_below n high higher = omega (arith, ints, higher)

      pub branches_plain : (bs : List (PureBranch S)) → ActsPlainly plain action ts path.memory bs → Each IsPlainBranch bs
      branches_plain bs plainly =
          each_branch bs (λ low high lower higher.
          let least : ℤ = low +ℤ growth in
          let greatest : ℤ = high -ℤ growth in
          let low_in : least ≤ℤ neg_ℤ (pos (b + text_bound)) = inner_low low lower in
          let high_in : pos (b + text_bound) ≤ℤ greatest = inner_high high higher in
          let low_memory : least ≤ℤ neg_ℤ (pos b) = omega (arith, ints, low_in) in
          let high_memory : pos b ≤ℤ greatest = omega (arith, ints, high_in) in
          subst (λ (n : ℤ). Each (λ br. Each (IsDecidedWithin n high) br.conds × (plain br.state n high × Each (IsPlainWithin n high) (result_terms br.result))) bs) (lower_back low)
          (subst (λ (n : ℤ). Each (λ br. Each (IsDecidedWithin (least -ℤ growth) n) br.conds × (plain br.state (least -ℤ growth) n × Each (IsPlainWithin (least -ℤ growth) n) (result_terms br.result))) bs) (higher_back high)
          (plainly least greatest (from.memory least greatest low_memory high_memory)
          (record {
            around_zero = (zero_above (b + text_bound) least low_in, zero_below (b + text_bound) greatest high_in);
            plain = each_to (IsPlain (b + text_bound)) (IsPlainWithin least greatest) ts (plain_wider (neg_ℤ (pos (b + text_bound))) (pos (b + text_bound)) least greatest low_in high_in) fine;
            literal_size = sized;
          }))))

      lowest : neg_ℤ (pos wide) ≤ℤ neg_ℤ (pos wide)
      lowest = omega (arith, ints)

      highest : pos wide ≤ℤ pos wide
      highest = omega (arith, ints)

      -- the path of a branch, whatever it comes to
      branched_path : (br : PureBranch S) (next : PurePath S) → IsPlainBranch br → next.vars ≡ path.vars ++ taken takes → next.steps ≡ path.steps + 1 → next.memory ≡ br.state → next.conds ≡ path.conds ++ br.conds → Stack next.stack → Each Fine (end_terms next.ending)
          → IsPlainPath plain wide next
      branched_path br next is_plain vars steps memory conds stores ending =
          let count : length next.vars ≡ length path.vars + length (taken takes) = ap (λ (sorts : List Sort). length sorts) vars ∙ length-append path.vars (taken takes) in
          let one : length (taken takes) ≤ 1 = taken_one takes in
          let few : length path.vars ≤ path.steps + 2 ^ 39 = from.few_variables in
          record {
            stores = stores;
            memory = λ low high lower higher. subst (λ m. plain m low high) (sym memory) (is_plain low high lower higher).1.0;
            conds = conds_with br.conds next.conds conds (is_plain (neg_ℤ (pos wide)) (pos wide) lowest highest).0;
            ending = ending;
            few_variables = omega (arith, count, one, steps, few);
          }

      acts_to : (br : PureBranch S) (r : PureResult) (d : Candidate S) → r ≡ br.result → IsPlainBranch br → ActsTo path x here takes args_good br r d → IsFine d
      acts_to br (done t) d is_result is_plain (bs, (bound, is)) =
          let of_result : Each Fine (result_terms (done t)) = subst (λ r. Each Fine (result_terms r)) (sym is_result) (is_plain (neg_ℤ (pos wide)) (pos wide) lowest highest).1.1 in
          subst IsFine (sym is)
          (branched_path br (branched path x here takes args_good br 0 (advanced bs path.stack) None).path is_plain refl refl refl refl
          (advanced_each Fine path.stack bs stack (each_bound Fine (running_store path.stack) bs x t bound of_result.0 running)) tt)
      acts_to br (action_failed t) d is_result is_plain is =
          let of_result : Each Fine (result_terms (action_failed t)) = subst (λ r. Each Fine (result_terms r)) (sym is_result) (is_plain (neg_ℤ (pos wide)) (pos wide) lowest highest).1.1 in
          subst IsFine (sym is) (branched_path br (branched path x here takes args_good br 1 path.stack (Some (failed t here))).path is_plain refl refl refl refl stack of_result)
      acts_to br (missed k) d is_result is_plain is =
          let of_result : Each Fine (result_terms (missed k)) = subst (λ r. Each Fine (result_terms r)) (sym is_result) (is_plain (neg_ℤ (pos wide)) (pos wide) lowest highest).1.1 in
          subst IsFine (sym is) (branched_path br (branched path x here takes args_good br 2 path.stack (Some (path_missed k here))).path is_plain refl refl refl refl stack of_result)

      pub acts_each : (bs : List (PureBranch S)) (ds : List (Candidate S)) → Each IsPlainBranch bs → ActsAsEach path x here takes args_good bs ds → All ds
      acts_each [] ds each is = subst All (sym is) tt
      acts_each (br ∷ bs) ds each (d, (rest, (is, to, later))) = subst All (sym is) (acts_to br br.result d refl each.0 to, acts_each bs rest each.1 later)
