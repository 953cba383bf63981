-- In a valid program no command is left but by a return.
use Rattle.std.proofs.Common.{◌≡◌, ℕ, zero, suc, ◌+◌, ◌<◌, ℤ, pos, negsuc, List, [], ◌∷◌, ◌++◌, map, Bool, true, false, cond, not, MatchBool, Option, Some, None, IsSome, length, slice_get, refl, sym, ap, subst, ◌∙◌, true≢false, arith}
use Rattle.std.specs.Prelude.{◌||◌, ◌==◌, int_lt, int_le, take, codes}
use Rattle.std.specs.List.{list_any}
use Rattle.std.specs.Option.{option_map}
use Rattle.std.specs.Str.{bytes_eq}
use Rattle.std.proofs.lemmas.Bool.{leb-false}
use Rattle.std.proofs.lemmas.Option.{slice_get-map}
use Rattle.gil_values.specs.declared.kinds.Kind.{Kind}
use Rattle.gil_values.specs.declared.places.Place.{Place}
use Rattle.gil_values.specs.Pure.{PureValue}
use Rattle.gil_machine.specs.Step.{command_of, handler_label}
use Rattle.gil_machine.proofs.Placed.{found_name}
use Rattle.gil_syntax.specs.declared.validity.InvalidKind.{InvalidKind}
use Rattle.gil_syntax.specs.Programs.{find_proc}
use Rattle.gil_syntax.specs.Pure.{PureExpr, ifgoto, PureNumberedCommand, PureProc, PureParts}
use Rattle.gil_syntax.specs.Valid.{ProgramItem, a_proc, a_spec, a_pred, items_of, is_bad_jump, is_bad_handler, ends_body, last_ends_body, has_fault, has_fault_if_there, IsValid}
use Rattle.mem_model.specs.Actions.{Actions}
use Rattle.mem_model.specs.Heaps.{Heap}
use Rattle.pure_terms.specs.declared.literals.Literal.{Literal}
use Rattle.pure_terms.specs.Kinds.{allows, known_kind}
use Rattle.pure_terms.specs.Pure.{PureTerm, literal, variable, list_of, unary_of, binary_of, PureAtom}
use Rattle.sym_engine.specs.Placed.{IsAtCommand, AreAtCommands, GoesOnAtCommands}
use Rattle.sym_evaluation.specs.Pure.{PureStore, PureFaultCase, PureGoodCase}
use Rattle.sym_model.specs.Lists.{Each}
use Rattle.sym_model.specs.Pure.{PureBranch, PureResult, done, failed as action_failed, missed}
use Rattle.sym_model.specs.Terms.{StateTerms}
use Rattle.sym_model.proofs.ListLaws.{same_some, not_none}
use Rattle.sym_paths.specs.Meaning.{command_of_frames, command_of_path}
use Rattle.sym_paths.specs.Moves.{advanced, running_store}
use Rattle.sym_paths.specs.Pure.{PureFrame, PureEnd, returned, failed, threw, PurePath}
use Rattle.sym_paths.specs.Settling.{Candidate}
use Rattle.sym_paths.specs.Valued.{faulted, failing, assigned, Assigns, Fails, IsResult}
use Rattle.sym_paths.specs.Acting.{ActsTo, ActsAsEach, Acts}
use Rattle.sym_paths.specs.Calls.{Called, IsFirstStore, waiting, called_frame, entering, fails_to_call, needs_callee, EntersFound, CallsTerm, Calls}
use Rattle.sym_paths.specs.Cases.{AreResults, failing_with}
use Rattle.sym_paths.specs.Copies.{AreCopied}
use Rattle.sym_paths.specs.Guards.{at_label, for_side, turning, Turns}
use Rattle.sym_paths.specs.Returns.{ResumesAt, returning, resuming, Returns}
use Rattle.sym_paths.specs.Throws.{Catches, handling, throwing, ThrowsTo, Throws}
use Rattle.sym_paths.proofs.Throwing.{handling_each}

-- ---- a procedure that is found has no fault

found_choice : (b : Bool) (r q : PureProc) (qs : List PureProc) (o : Option PureProc) → cond b (Some r) o ≡ Some q → (o ≡ Some q → (i : ℕ) × (slice_get qs i ≡ Some q)) → (i : ℕ) × (slice_get (r ∷ qs) i ≡ Some q)
found_choice true r q qs o is later = (0, is)
found_choice false r q qs o is later = let (i, at) = later is in (suc i, at)

found_at : (qs : List PureProc) (f : List ℕ) (q : PureProc) → find_proc qs f ≡ Some q → (i : ℕ) × (slice_get qs i ≡ Some q)
found_at [] f q is = not_none is
found_at (r ∷ qs) f q is = found_choice (bytes_eq r.name f) r q qs (find_proc qs f) is (found_at qs f q)

within_more : {X : Type 0} (xs ys : List X) (i : ℕ) (x : X) → slice_get xs i ≡ Some x → slice_get (xs ++ ys) i ≡ Some x
within_more [] ys i x is = not_none is
within_more (y ∷ xs) ys zero x is = is
within_more (y ∷ xs) ys (suc i) x is = within_more xs ys i x is

not_true : (b : Bool) → ¬ (b ≡ true) → b ≡ false
not_true true h = absurd (h refl)
not_true false h = refl

pub without_fault : (p : PureParts) (f : List ℕ) (q : PureProc) → IsValid p → find_proc p.procs f ≡ Some q → (kind : InvalidKind) → (before : List ProgramItem) × (has_fault kind p before (a_proc q) ≡ false)
without_fault p f q valid found kind =
    let (i, at) = found_at p.procs f q found in
    let here : slice_get (map a_proc p.procs) i ≡ Some (a_proc q) = slice_get-map a_proc p.procs i ∙ ap (option_map a_proc) at in
    let item : slice_get (items_of p) i ≡ Some (a_proc q) =
    within_more (map a_proc p.procs ++ map a_spec p.specs) (map a_pred p.preds) i (a_proc q) (within_more (map a_proc p.procs) (map a_spec p.specs) i (a_proc q) here) in
    (take i (items_of p), not_true (has_fault kind p (take i (items_of p)) (a_proc q)) (λ bad. valid kind i (ap (has_fault_if_there kind p (take i (items_of p))) item ∙ bad)))

-- ---- the commands that follow

pub neither : (a b : Bool) → (a || b) ≡ false → (a ≡ false) × (b ≡ false)
neither true b e = absurd (true≢false e)
neither false b e = (refl, e)

pub none_of : {X : Type 0} (test : X → Bool) (xs : List X) (i : ℕ) (x : X) → list_any test xs ≡ false → slice_get xs i ≡ Some x → test x ≡ false
none_of test [] i x none is = not_none is
none_of test (y ∷ xs) zero x none is = subst (λ z. test z ≡ false) (same_some is) (neither (test y) (list_any test xs) none).0
none_of test (y ∷ xs) (suc i) x none is = none_of test xs i x (neither (test y) (list_any test xs) none).1 is

there_below : {X : Type 0} (xs : List X) (i : ℕ) → i < length xs → IsSome (slice_get xs i)
there_below [] i below = absurd (omega (arith, below))
there_below (x ∷ xs) zero below = refl
there_below (x ∷ xs) (suc i) below = there_below xs i (omega (arith, below))

not_false : (b : Bool) → not b ≡ false → b ≡ true
not_false true e = refl
not_false false e = absurd (true≢false e)

another_after : (cs : List PureNumberedCommand) (i : ℕ) (c : PureNumberedCommand) → last_ends_body cs ≡ true → slice_get cs i ≡ Some c → ends_body c.command ≡ false → IsSome (slice_get cs (suc i))
another_after [] i c last is stays = not_none is
another_after (d ∷ []) zero c last is stays = absurd (true≢false (sym last ∙ ap (λ e. ends_body e.command) (same_some is) ∙ stays))
another_after (d ∷ []) (suc i) c last is stays = not_none is
another_after (d ∷ e ∷ cs) zero c last is stays = refl
another_after (d ∷ e ∷ cs) (suc i) c last is stays = another_after (e ∷ cs) i c last is stays

one_first : (cs : List PureNumberedCommand) → last_ends_body cs ≡ true → IsSome (slice_get cs 0)
one_first [] last = absurd (true≢false (sym last))
one_first (c ∷ cs) last = refl

pub command_found : (o : Option PureProc) (i : ℕ) (c : PureNumberedCommand) → command_of o i ≡ Some c → (q : PureProc) × ((o ≡ Some q) × (slice_get q.body i ≡ Some c))
command_found None i c is = not_none is
command_found (Some q) i c is = (q, (refl, is))

module _ (p : PureParts) (valid : IsValid p) where
  last_ends : (f : List ℕ) (q : PureProc) → find_proc p.procs f ≡ Some q → last_ends_body q.body ≡ true
  last_ends f q found = let (before, none) = without_fault p f q valid found InvalidKind.NoEnd in not_false (last_ends_body q.body) none

  pub next_there : (f : PureFrame) (c : PureNumberedCommand) → command_of (find_proc p.procs f.procedure) f.next ≡ Some c → ends_body c.command ≡ false → IsSome (command_of (find_proc p.procs f.procedure) (f.next + 1))
  next_there f c at stays =
      let (q, (found, is)) = command_found (find_proc p.procs f.procedure) f.next c at in
      let next : suc f.next ≡ f.next + 1 = omega arith in
      subst (λ o. IsSome (command_of o (f.next + 1))) (sym found)
      (subst (λ i. IsSome (slice_get q.body i)) next (another_after q.body f.next c (last_ends f.procedure q found) is stays))

  in_body : (n : ℕ) (i : ℕ) → (int_lt (pos i) (pos 0) || int_le (pos n) (pos i)) ≡ false → i < n
  in_body n i fine = leb-false n i (neither (int_lt (pos i) (pos 0)) (int_le (pos n) (pos i)) fine).1

  label_there : (f : PureFrame) (c : PureNumberedCommand) (e : PureExpr) (i : ℕ) → command_of (find_proc p.procs f.procedure) f.next ≡ Some c → c.command ≡ ifgoto e (pos i) → IsSome (command_of (find_proc p.procs f.procedure) i)
  label_there f c e i at jumps =
      let (q, (found, is)) = command_found (find_proc p.procs f.procedure) f.next c at in
      let (before, none) = without_fault p f.procedure q valid found InvalidKind.BadLabel in
      let fine : is_bad_jump (length q.body) c.command ≡ false = none_of (λ d. is_bad_jump (length q.body) d.command) q.body f.next c none is in
      subst (λ o. IsSome (command_of o i)) (sym found) (there_below q.body i (in_body (length q.body) i (ap (is_bad_jump (length q.body)) (sym jumps) ∙ fine)))

  labelled_by : (handler : Option ℤ) (i : ℕ) → handler_label handler ≡ Some i → handler ≡ Some (pos i)
  labelled_by (Some (pos j)) i is = ap (λ k. Some (pos k)) (same_some is)
  labelled_by (Some (negsuc j)) i is = not_none is
  labelled_by None i is = not_none is

  handler_there : (f : PureFrame) (c : PureNumberedCommand) (handler : Option ℤ) (i : ℕ) → command_of (find_proc p.procs f.procedure) f.next ≡ Some c → ((n : ℕ) → is_bad_jump n c.command ≡ is_bad_handler n handler) → handler_label handler ≡ Some i
      → IsSome (command_of (find_proc p.procs f.procedure) i)
  handler_there f c handler i at same is =
      let (q, (found, there)) = command_found (find_proc p.procs f.procedure) f.next c at in
      let (before, none) = without_fault p f.procedure q valid found InvalidKind.BadLabel in
      let fine : is_bad_jump (length q.body) c.command ≡ false = none_of (λ d. is_bad_jump (length q.body) d.command) q.body f.next c none there in
      subst (λ o. IsSome (command_of o i)) (sym found)
      (there_below q.body i (in_body (length q.body) i (ap (is_bad_handler (length q.body)) (sym (labelled_by handler i is)) ∙ sym (same (length q.body)) ∙ fine)))

  pub first_there : (f : List ℕ) (q : PureProc) → find_proc p.procs f ≡ Some q → IsSome (command_of (find_proc p.procs q.name) 0)
  first_there f q found =
      subst (λ g. IsSome (command_of (find_proc p.procs g) 0)) (sym (found_name p.procs f q found)) (subst (λ o. IsSome (command_of o 0)) (sym found) (one_first q.body (last_ends f q found)))

  -- ---- frames

  -- those of the next command, whatever the store
  pub advanced_there : (fs : List PureFrame) (bs : PureStore) (c : PureNumberedCommand) → command_of_frames p fs ≡ Some c → ends_body c.command ≡ false → AreAtCommands p fs → AreAtCommands p (advanced bs fs)
  advanced_there [] bs c at stays placed = absurd placed
  advanced_there (f ∷ fs) bs c at stays placed = (record { command = next_there f c at stays; handler = placed.0.handler }, placed.1)

  -- a call whose handler, if it has one, has no bad label
  pub waiting_there : (fs : List PureFrame) (x : List ℕ) (handler : Option ℤ) (g : PureFrame) (c : PureNumberedCommand) → command_of_frames p fs ≡ Some c → ends_body c.command ≡ false → ((n : ℕ) → is_bad_jump n c.command ≡ is_bad_handler n handler) → IsAtCommand p g
      → AreAtCommands p fs → AreAtCommands p (g ∷ waiting x (handler_label handler) fs)
  waiting_there [] x handler g c at stays same first placed = absurd placed
  waiting_there (f ∷ fs) x handler g c at stays same first placed =
      (first, (record { command = next_there f c at stays; handler = λ i is. handler_there f c handler i at same is }, placed.1))

  pub labelled_there : (fs : List PureFrame) (t : ℤ) (c : PureNumberedCommand) (e : PureExpr) → command_of_frames p fs ≡ Some c → c.command ≡ ifgoto e t → AreAtCommands p fs → AreAtCommands p (at_label t fs)
  labelled_there [] t c e at jumps placed = absurd placed
  labelled_there (f ∷ fs) (pos i) c e at jumps placed = (record { command = label_there f c e i at jumps; handler = placed.0.handler }, placed.1)
  labelled_there (f ∷ fs) (negsuc i) c e at jumps placed = placed

  pub resumed_there : (w : Option (List ℕ)) (t : PureTerm) (f next : PureFrame) → ResumesAt w t f next → IsAtCommand p f → IsAtCommand p next
  resumed_there None t f next is at = subst (IsAtCommand p) (sym is) at
  resumed_there (Some x) t f next (bs, (bound, is)) at = subst (IsAtCommand p) (sym is) (record { command = at.command; handler = λ i none. not_none none })

  same_procedure : (w : Option (List ℕ)) (t : PureTerm) (f next : PureFrame) → ResumesAt w t f next → next.procedure ≡ f.procedure
  same_procedure None t f next is = ap (λ (g : PureFrame). g.procedure) is
  same_procedure (Some x) t f next (bs, (bound, is)) = ap (λ (g : PureFrame). g.procedure) is

  pub caught_there : (fs : List PureFrame) (t : PureTerm) (nexts : List PureFrame) → Each (IsAtCommand p) fs → Catches t fs nexts → AreAtCommands p nexts
  caught_there [] t nexts placed catches = absurd catches
  caught_there (f ∷ fs) t nexts placed (label, (has, (r, (resumes, is)))) = subst (AreAtCommands p) (sym is) (
    record {
      command = subst (λ q. IsSome (command_of (find_proc p.procs q) label)) (sym (same_procedure f.waits t f r resumes)) (placed.0.handler label has);
      handler = (resumed_there f.waits t f r resumes placed.0).handler;
    },
    placed.1,
  )

-- ---- candidates

module _ {S : Type 0} (p : PureParts) (path : PurePath S) (here : Place) where
  abbrev pub AllPlaced : List (Candidate S) → Type 0
  AllPlaced cs = Each (λ d. GoesOnAtCommands p d.path) cs

  pub one_placed : (d e : Candidate S) → e ≡ d → AreAtCommands p d.path.stack → AllPlaced (e ∷ [])
  one_placed d e is placed = (λ goes. subst (λ c. AreAtCommands p c.path.stack) (sym is) placed, tt)

  pub one_ended : (d e : Candidate S) (how : PureEnd) → e ≡ d → d.path.ending ≡ Some how → AllPlaced (e ∷ [])
  one_ended d e how is ends = (λ goes. not_none (sym goes ∙ ap (λ c. c.path.ending) is ∙ ends), tt)

  pub faults_placed : (faults : List PureFaultCase) → AllPlaced (map (faulted path here) faults)
  faults_placed [] = tt
  faults_placed (fc ∷ faults) = (λ goes. not_none (sym goes), faults_placed faults)

  pub both_placed : (cs ds : List (Candidate S)) → AllPlaced cs → AllPlaced ds → AllPlaced (cs ++ ds)
  both_placed [] ds first second = second
  both_placed (c ∷ cs) ds first second = (first.0, both_placed cs ds first.1 second)

  module _ (stands : S → List PureValue → Heap → Type 0) (terms : S → StateTerms) (depends : S → List ℕ → List PureTerm → List PureValue → Heap → PureTerm → Type 0) (plain : S → ℤ → ℤ → Type 0) where
    pub copies_placed : (cs ds : List (Candidate S)) → AllPlaced cs → AreCopied stands terms depends plain cs ds → AllPlaced ds
    copies_placed [] ds placed is = subst AllPlaced (sym is) tt
    copies_placed (c ∷ cs) ds placed (d, (rest, (is, one, later))) =
        subst AllPlaced (sym is)
        (λ goes. subst (λ q. AreAtCommands p q.stack) (sym one.path) (placed.0 (ap (λ q. q.ending) (sym one.path) ∙ goes)), copies_placed cs rest placed.1 later)

    pub all_placed : (faults last all : List (Candidate S)) (fcs : List PureFaultCase) → AreCopied stands terms depends plain (map (faulted path here) fcs ++ last) all → AllPlaced last → AllPlaced all
    all_placed faults last all fcs copies placed = copies_placed (map (faulted path here) fcs ++ last) all (both_placed (map (faulted path here) fcs) last (faults_placed fcs) placed) copies

module _ {S : Type 0} (p : PureParts) (valid : IsValid p) (path : PurePath S) (here : Place) (c : PureNumberedCommand) (at : command_of_path p path ≡ Some c) (placed : AreAtCommands p path.stack) where
  abbrev All : List (Candidate S) → Type 0
  All = AllPlaced p path here

  next_placed : (bs : PureStore) → ends_body c.command ≡ false → AreAtCommands p (advanced bs path.stack)
  next_placed bs stays = advanced_there p valid path.stack bs c at stays placed

  pub assigns_placed : (x : List ℕ) (o : Option (PureGoodCase PureTerm)) (last : List (Candidate S)) → ends_body c.command ≡ false → IsResult (Assigns path x) o last → All last
  assigns_placed x None last stays is = subst All (sym is) tt
  assigns_placed x (Some g) last stays (d, ((bs, (bound, made)), is)) = subst All (sym is) (one_placed p path here (assigned path bs g) d made (next_placed bs stays))

  pub fails_placed : (o : Option (PureGoodCase PureTerm)) (last : List (Candidate S)) → IsResult (Fails path here) o last → All last
  fails_placed None last is = subst All (sym is) tt
  fails_placed (Some g) last (d, (made, is)) = subst All (sym is) (one_ended p path here (failing path here g) d (failed g.result here) made refl)

  returns_as : (fs : List PureFrame) → AreAtCommands p fs → (g : PureGoodCase PureTerm) (last : List (Candidate S)) → Returns path fs g last → All last
  returns_as [] there g last is = absurd is
  returns_as (f ∷ []) there g last is = subst All (sym is) (one_ended p path here (returning path g) (returning path g) (returned g.result) refl refl)
  returns_as (f ∷ caller ∷ callers) there g last (next, (resumes, is)) =
      subst All (sym is) (one_placed p path here (resuming path (next ∷ callers) g) (resuming path (next ∷ callers) g) refl (resumed_there p valid caller.waits g.result caller next resumes there.1.0, there.1.1))

  pub returns_placed : (o : Option (PureGoodCase PureTerm)) (last : List (Candidate S)) → AreResults (Returns path path.stack) o last → All last
  returns_placed None last is = subst All (sym is) tt
  returns_placed (Some g) last is = returns_as path.stack placed g last is

  throws_to : (fs : List PureFrame) → Each (IsAtCommand p) fs → (g : PureGoodCase PureTerm) (last : List (Candidate S)) → ThrowsTo path here fs g last → All last
  throws_to [] there g last is = subst All (sym is) (one_ended p path here (throwing path here g) (throwing path here g) (threw g.result here) refl refl)
  throws_to (f ∷ fs) there g last (nexts, (catches, is)) = subst All (sym is) (one_placed p path here (resuming path nexts g) (resuming path nexts g) refl (caught_there p valid (f ∷ fs) g.result nexts there catches))

  throws_as : (fs : List PureFrame) → AreAtCommands p fs → (g : PureGoodCase PureTerm) (last : List (Candidate S)) → Throws path here fs g last → All last
  throws_as [] there g last is = absurd is
  throws_as (f ∷ callers) there g last is = throws_to (handling callers) (handling_each (IsAtCommand p) callers there.1) g last is

  pub throws_placed : (o : Option (PureGoodCase PureTerm)) (last : List (Candidate S)) → AreResults (Throws path here path.stack) o last → All last
  throws_placed None last is = subst All (sym is) tt
  throws_placed (Some g) last is = throws_as path.stack placed g last is

  side_placed : (make : List PureAtom → Candidate S) → ((more : List PureAtom) → GoesOnAtCommands p (make more).path) → (o : Option (List PureAtom)) → All (for_side make o)
  side_placed make fine None = tt
  side_placed make fine (Some more) = (fine more, tt)

  pub turns_placed : (e : PureExpr) (label : ℤ) (o : Option (PureGoodCase PureTerm)) (last : List (Candidate S)) → c.command ≡ ifgoto e label → AreResults (Turns path label here) o last → All last
  turns_placed e label None last jumps is = subst All (sym is) tt
  turns_placed e label (Some g) last jumps (sides, (right, origin, is)) =
      let label_at : AreAtCommands p (at_label label path.stack) = labelled_there p valid path.stack label c e at jumps placed in
      let next_at : AreAtCommands p (advanced (running_store path.stack) path.stack) = next_placed (running_store path.stack) (ap ends_body jumps) in
      subst All (sym is)
      (both_placed p path here (for_side (turning path (at_label label path.stack) 1 g) sides.when_true)
      (for_side (turning path (advanced (running_store path.stack) path.stack) 0 g) sides.when_false ++ for_side (failing_with path here (codes "type") g) sides.when_no_boolean)
      (side_placed (turning path (at_label label path.stack) 1 g) (λ more goes. label_at) sides.when_true)
      (both_placed p path here (for_side (turning path (advanced (running_store path.stack) path.stack) 0 g) sides.when_false) (for_side (failing_with path here (codes "type") g) sides.when_no_boolean)
      (side_placed (turning path (advanced (running_store path.stack) path.stack) 0 g) (λ more goes. next_at) sides.when_false)
      (side_placed (failing_with path here (codes "type") g) (λ more goes. not_none (sym goes)) sides.when_no_boolean)))

  -- ---- calls

  module _ (x : List ℕ) (handler : Option ℤ) (g : PureGoodCase Called) (stays : ends_body c.command ≡ false) (same : (n : ℕ) → is_bad_jump n c.command ≡ is_bad_handler n handler) where
    fails_to : (why : List ℕ) (d : Candidate S) → d ≡ fails_to_call path x (handler_label handler) here why g → All (d ∷ [])
    fails_to why d is = one_ended p path here (fails_to_call path x (handler_label handler) here why g) d (failed (literal (Literal.Str why)) here) is refl

    enters : (b : Bool) (q : PureProc) (f : List ℕ) (d : Candidate S) → find_proc p.procs f ≡ Some q
        → MatchBool b ((bs : PureStore) × (IsFirstStore q.params g.result.args bs × (d ≡ entering path x (handler_label handler) here q bs g))) (d ≡ fails_to_call path x (handler_label handler) here (codes "arity") g) → All (d ∷ [])
    enters true q f d found (bs, (first, is)) = one_placed p path here (entering path x (handler_label handler) here q bs g) d is (waiting_there p valid path.stack x handler (called_frame q bs) c at stays same (record { command = first_there p valid f q found; handler = λ i none. not_none none }) placed)
    enters false q f d found is = fails_to (codes "arity") d is

    enters_found : (o : Option PureProc) (f : List ℕ) (d : Candidate S) → find_proc p.procs f ≡ o → EntersFound path x (handler_label handler) here o g d → All (d ∷ [])
    enters_found None f d found is = fails_to (codes "proc") d is
    enters_found (Some q) f d found is = enters (length g.result.args == length q.params) q f d found is

    calls_open : (b : Bool) (d : Candidate S) → MatchBool b (d ≡ needs_callee path x (handler_label handler) here g) (d ≡ fails_to_call path x (handler_label handler) here (codes "proc") g) → All (d ∷ [])
    calls_open true d is = one_placed p path here (needs_callee path x (handler_label handler) here g) d is placed
    calls_open false d is = fails_to (codes "proc") d is

    calls_term : (t : PureTerm) (d : Candidate S) → CallsTerm path x (handler_label handler) here p t g d → All (d ∷ [])
    calls_term (literal (Literal.Proc f)) d is = enters_found (find_proc p.procs f) f d refl is
    calls_term (literal (Literal.Int n)) d is = fails_to (codes "proc") d is
    calls_term (literal (Literal.Bool b)) d is = fails_to (codes "proc") d is
    calls_term (literal (Literal.Str cs)) d is = fails_to (codes "proc") d is
    calls_term (literal (Literal.Kind k)) d is = fails_to (codes "proc") d is
    calls_term (variable y) d is = calls_open (allows (known_kind (variable y)) Kind.Proc) d is
    calls_term (list_of ts) d is = calls_open (allows (known_kind (list_of ts)) Kind.Proc) d is
    calls_term (unary_of op t) d is = calls_open (allows (known_kind (unary_of op t)) Kind.Proc) d is
    calls_term (binary_of op s t) d is = calls_open (allows (known_kind (binary_of op s t)) Kind.Proc) d is

  pub calls_placed : (x : List ℕ) (handler : Option ℤ) (o : Option (PureGoodCase Called)) (last : List (Candidate S)) → ends_body c.command ≡ false → ((n : ℕ) → is_bad_jump n c.command ≡ is_bad_handler n handler) → AreResults (Calls path x (handler_label handler) here p) o last → All last
  calls_placed x handler None last stays same is = subst All (sym is) tt
  calls_placed x handler (Some g) last stays same (d, (term, is)) = subst All (sym is) (calls_term x handler g stays same g.result.callee d term)

  -- ---- actions

  module _ (x : List ℕ) (takes : Bool) (g : PureGoodCase (List PureTerm)) (stays : ends_body c.command ≡ false) where
    acts_to : (b : PureBranch S) (r : PureResult) (d : Candidate S) → ActsTo path x here takes g b r d → GoesOnAtCommands p d.path
    acts_to b (done t) d (bs, (bound, is)) = λ goes. subst (λ k. AreAtCommands p k.path.stack) (sym is) (next_placed bs stays)
    acts_to b (action_failed t) d is = λ goes. not_none (sym goes ∙ ap (λ k. k.path.ending) is)
    acts_to b (missed k) d is = λ goes. not_none (sym goes ∙ ap (λ k. k.path.ending) is)

    acts_each : (bs : List (PureBranch S)) (ds : List (Candidate S)) → ActsAsEach path x here takes g bs ds → All ds
    acts_each [] ds is = subst All (sym is) tt
    acts_each (b ∷ bs) ds (d, (rest, (is, to, later))) = subst All (sym is) (acts_to b b.result d to, acts_each bs rest later)

  pub acts_placed : (stands : S → List PureValue → Heap → Type 0) (terms : S → StateTerms) (m : Actions) (asked : List ℕ → List PureTerm → List PureTerm × List PureTerm) (x action : List ℕ) (o : Option (PureGoodCase (List PureTerm))) (last : List (Candidate S))
      → ends_body c.command ≡ false → AreResults (Acts stands terms m asked path x action here) o last → All last
  acts_placed stands terms m asked x action None last stays is = subst All (sym is) tt
  acts_placed stands terms m asked x action (Some g) last stays (bs, (law, each)) = acts_each x (m.takes_symbol action) g stays bs last each
