-- Explorations of contained specifications stay inside.
use Rattle.std.proofs.Common.{◌≡◌, ◌⊎◌, inl, inr, ℕ, ℤ, List, [], ◌∷◌, ◌++◌, Bool, true, false, Option, Some, None, IsSome, IsTrue, refl, sym, ap, subst, ◌∙◌, true≢false}
use Rattle.gil_values.specs.declared.places.Place.{Place}
use Rattle.gil_values.specs.Pure.{PureValue, procedure}
use Rattle.gil_syntax.specs.Programs.{find_proc, find_spec}
use Rattle.gil_syntax.specs.Pure.{PureParts, PureExpr, literal, name, logical, list_of, unary_of, binary_of, PureCommand, assign, call, act, usym, isym, ifgoto, return, fail, throw, vanish, fold_use, unfold_use, assert_that, loop_invariant, PureNumberedCommand, PureSpec}
use Rattle.gil_machine.specs.Step.{handler_label}
use Rattle.gil_machine.proofs.Placed.{found_name}
use Rattle.mem_model.specs.Actions.{Actions}
use Rattle.mem_model.specs.declared.keys.MemoryName.{MemoryName}
use Rattle.mem_model.specs.Heaps.{Heap}
use Rattle.plain_specs.specs.Contained.{HasCommand, CallsByName, MayCall, directly, through, MayRun, is_told_by_itself, IsContained}
use Rattle.pure_terms.specs.Pure.{PureTerm}
use Rattle.sym_beginning.specs.Beginning.{PureStart, PureBeginnings, IsBeginning, AreBeginnings}
use Rattle.sym_engine.specs.Placed.{AreAtCommands}
use Rattle.sym_evaluation.specs.Pure.{PureStore}
use Rattle.sym_model.specs.Lists.{Each}
use Rattle.sym_model.specs.Terms.{StateTerms}
use Rattle.sym_model.proofs.ListLaws.{not_none, each_append, each_left, each_right, each_to}
use Rattle.sym_paths.specs.Frames.{running_store, advanced, AreMoved, waiting, ResumesAt, Resumes, handling, from_handler, Catches}
use Rattle.sym_paths.specs.Meaning.{command_of_frames, command_of_path}
use Rattle.sym_paths.specs.Origins.{HandsOver, HandsBack, HandsUp, GoesOnFrom, Follows}
use Rattle.sym_paths.specs.Pure.{PureFrame, PurePath}
use Rattle.checked_paths.specs.Covering.{FollowsOn}
use Rattle.checked_paths.specs.Following.{OfGoing}
use Rattle.checked_paths.specs.Meaning.{EachWith}
use Rattle.checked_paths.specs.Pure.{PureEntry, PureChecking, PureNext, further, over, caused}
use Rattle.call_rows.specs.Calling.{IsCall, CallsUnspecified}
use Rattle.call_rows.proofs.Unspecified.{named_so}
use Rattle.spec_exploration.specs.Beginning.{IsStartOf, AreStartsOf}
use Rattle.spec_exploration.specs.Exploring.{PureExploration, furthers, AreTaken}
use Rattle.spec_exploration.specs.Inside.{IsInside, IsNextInside, StaysInside}

each_both : {A : Type 0} (P Q R : A → Type 0) (xs : List A) → ((x : A) → P x → Q x → R x) → Each P xs → Each Q xs → Each R xs
each_both P Q R [] f first second = tt
each_both P Q R (x ∷ xs) f first second = (f x first.0 second.0, each_both P Q R xs f first.1 second.1)

-- a path that may go on stands at a command
pub command_there : (p : PureParts) (fs : List PureFrame) → AreAtCommands p fs → (n : PureNumberedCommand) × (command_of_frames p fs ≡ Some n)
command_there p [] placed = absurd placed
command_there p (f ∷ fs) placed = by (command_of_frames p (f ∷ fs)) refl placed.0.command
  where
    by : (o : Option PureNumberedCommand) → command_of_frames p (f ∷ fs) ≡ o → IsSome o → (n : PureNumberedCommand) × (command_of_frames p (f ∷ fs) ≡ Some n)
    by (Some n) is some = (n, is)
    by None is some = absurd (true≢false (sym some))

module _ (p : PureParts) (s : PureSpec) where
  abbrev Runs : PureFrame → Type 0
  Runs f = MayRun p s.name f.procedure

  -- ---- frames

  advanced_inside : (bs : PureStore) (fs : List PureFrame) → Each Runs fs → Each Runs (advanced bs fs)
  advanced_inside bs [] inside = tt
  advanced_inside bs (f ∷ fs) inside = inside

  waiting_inside : (x : List ℕ) (handler : Option ℕ) (fs : List PureFrame) → Each Runs fs → Each Runs (waiting x handler fs)
  waiting_inside x handler [] inside = tt
  waiting_inside x handler (f ∷ fs) inside = inside

  moved_inside : (fs gs : List PureFrame) → AreMoved fs gs → Each Runs fs → Each Runs gs
  moved_inside [] [] moved inside = tt
  moved_inside [] (g ∷ gs) moved inside = absurd moved
  moved_inside (f ∷ fs) [] moved inside = absurd moved
  moved_inside (f ∷ fs) (g ∷ gs) (one, rest) inside = (subst Runs (sym one) inside.0, subst (Each Runs) (sym rest) inside.1)

  resumed_inside : (t : PureTerm) (f r : PureFrame) → Resumes t f r → Runs f → Runs r
  resumed_inside t f r resumes runs = by f.waits resumes
    where
      by : (o : Option (List ℕ)) → ResumesAt o t f r → Runs r
      by (Some x) (bs, (bound, is)) = subst Runs (sym is) runs
      by None is = subst Runs (sym is) runs

  handling_inside : (fs : List PureFrame) → Each Runs fs → Each Runs (handling fs)
  handling_inside [] inside = tt
  handling_inside (f ∷ fs) inside = by f.handler (handling_inside fs inside.1)
    where
      by : (o : Option ℕ) → Each Runs (handling fs) → Each Runs (from_handler o (f ∷ fs) (handling fs))
      by (Some label) rest = inside
      by None rest = rest

  caught_inside : (t : PureTerm) (fs gs : List PureFrame) → Catches t fs gs → Each Runs fs → Each Runs gs
  caught_inside t [] gs catches inside = absurd catches
  caught_inside t (f ∷ fs) gs (label, (there, (r, (resumes, is)))) inside = subst (Each Runs) (sym is) (resumed_inside t f r resumes inside.0, inside.1)

  -- ---- commands

  -- the procedure that runs has the command
  pub there : (fs : List PureFrame) (n : PureNumberedCommand) → command_of_frames p fs ≡ Some n → Each Runs fs → (f : List ℕ) × (MayRun p s.name f × HasCommand p f n.command)
  there [] n at inside = not_none at
  there (f ∷ fs) n at inside = (f.procedure, (inside.0, record { index = f.next; numbered = n; there = at; command = refl }))

  called_too : (f g : List ℕ) → MayRun p s.name f → CallsByName p f g → MayCall p s.name g
  called_too f g (inl same) calls = directly (subst (λ h. CallsByName p h g) same calls)
  called_too f g (inr may) calls = through may calls

  module _ (contained : IsContained p s) where
    pub told : {S : Type 0} (path : PurePath S) (n : PureNumberedCommand) → command_of_path p path ≡ Some n → IsInside p s path → IsTrue (is_told_by_itself n.command)
    told path n at inside = let (f, (may, has)) = there path.stack n at inside in contained.by_themselves f n.command may has

    -- a call is one by a literal, of a procedure without a specification
    pub call_unspecified : {S : Type 0} (path : PurePath S) (n : PureNumberedCommand) → command_of_path p path ≡ Some n → IsCall n.command → IsInside p s path → CallsUnspecified p path
    call_unspecified {S} path n at is inside =
        let (f, (may, has)) = there path.stack n at inside in
        by n.command refl is (contained.by_themselves f n.command may has) f may has
      where
        by_literal : (x : List ℕ) (e : PureExpr) (es : List PureExpr) (handler : Option ℤ) → n.command ≡ call x e es handler → IsTrue (is_told_by_itself (call x e es handler)) → (f : List ℕ) → MayRun p s.name f → HasCommand p f n.command
            → CallsUnspecified p path
        by_literal x (literal w) es handler same lit f may has = record {
          numbered = n;
          there = at;
          variable = x;
          value = w;
          args = es;
          handler = handler;
          command = same;
          unspecified = λ g is_g. contained.unspecified g
              (called_too f g may (x, (es, (handler, subst (λ v. HasCommand p f (call x (literal v) es handler)) is_g (subst (HasCommand p f) same has)))));
        }
        by_literal x (name y) es handler same lit f may has = absurd (true≢false (sym lit))
        by_literal x (logical y) es handler same lit f may has = absurd (true≢false (sym lit))
        by_literal x (list_of ds) es handler same lit f may has = absurd (true≢false (sym lit))
        by_literal x (unary_of op d) es handler same lit f may has = absurd (true≢false (sym lit))
        by_literal x (binary_of op c d) es handler same lit f may has = absurd (true≢false (sym lit))

        by : (k : PureCommand) → n.command ≡ k → IsCall k → IsTrue (is_told_by_itself k) → (f : List ℕ) → MayRun p s.name f → HasCommand p f n.command → CallsUnspecified p path
        by (call x e es handler) same is told f may has = by_literal x e es handler same told f may has
        by (assign x e) same is told f may has = absurd is
        by (act x a es) same is told f may has = absurd is
        by (usym x) same is told f may has = absurd is
        by (isym x k) same is told f may has = absurd is
        by (ifgoto e i) same is told f may has = absurd is
        by (return e) same is told f may has = absurd is
        by (fail e) same is told f may has = absurd is
        by (throw e) same is told f may has = absurd is
        by vanish same is told f may has = absurd is
        by (fold_use u) same is told f may has = absurd is
        by (unfold_use u) same is told f may has = absurd is
        by (assert_that items) same is told f may has = absurd is
        by (loop_invariant xs ps items) same is told f may has = absurd is

    module _ {S : Type 0} (m : Actions) (terms : S → StateTerms) (path next : PurePath S) (inside : IsInside p s path) where
      called_inside : (x : List ℕ) (e : PureExpr) (es : List PureExpr) (handler : Option ℤ) → IsTrue (is_told_by_itself (call x e es handler)) → (f : List ℕ) → MayRun p s.name f → HasCommand p f (call x e es handler)
          → HandsOver p m terms path next x e es handler → IsInside p s next
      called_inside x (literal w) es handler told f may has handed =
          let value = named_so (running_store path.stack) w handed.callee handed.named in
          let calls : CallsByName p f handed.callee = (x, (es, (handler, subst (λ v. HasCommand p f (call x (literal v) es handler)) value has))) in
          let runs : MayRun p s.name handed.procedure.name = inr (subst (MayCall p s.name) (sym (found_name p.procs handed.callee handed.procedure handed.found)) (called_too f handed.callee may calls)) in
          subst (Each Runs) (sym handed.stack) (runs, waiting_inside x (handler_label handler) path.stack inside)
      called_inside x (name y) es handler told f may has handed = absurd (true≢false (sym told))
      called_inside x (logical y) es handler told f may has handed = absurd (true≢false (sym told))
      called_inside x (list_of ds) es handler told f may has handed = absurd (true≢false (sym told))
      called_inside x (unary_of op d) es handler told f may has handed = absurd (true≢false (sym told))
      called_inside x (binary_of op c d) es handler told f may has handed = absurd (true≢false (sym told))

      returned_inside : (e : PureExpr) → HandsBack p m terms path next e → IsInside p s next
      returned_inside e back =
          let frames : Each Runs (back.frame ∷ back.caller ∷ back.callers) = subst (Each Runs) back.stack inside in
          subst (Each Runs) (sym back.next_stack) (resumed_inside back.term back.caller back.resumed back.resumes frames.1.0, frames.1.1)

      thrown_inside : (e : PureExpr) → HandsUp p m terms path next e → IsInside p s next
      thrown_inside e up =
          let frames : Each Runs (up.frame ∷ up.callers) = subst (Each Runs) up.stack inside in
          caught_inside up.term (handling up.callers) next.stack up.catches (handling_inside up.callers frames.1)

      now_inside : (bs : PureStore) → next.stack ≡ advanced bs path.stack → IsInside p s next
      now_inside bs is = subst (Each Runs) (sym is) (advanced_inside bs path.stack inside)

      goes_inside : (k : PureCommand) → IsTrue (is_told_by_itself k) → (f : List ℕ) → MayRun p s.name f → HasCommand p f k → GoesOnFrom p m terms path next k → IsInside p s next
      goes_inside (assign x e) told f may has (keeps, (t, (term, (bs, (bound, is))))) = now_inside bs is
      goes_inside (usym x) told f may has (keeps, (bs, (bound, is))) = now_inside bs is
      goes_inside (isym x k) told f may has (keeps, (sort, (drawn, (bs, (bound, is))))) = now_inside bs is
      goes_inside (act x a es) told f may has acted = let (bs, (bound, is)) = acted.has_now in now_inside bs is
      goes_inside (ifgoto e i) told f may has (keeps, moved) = moved_inside path.stack next.stack moved inside
      goes_inside (call x e es handler) told f may has (keeps, handed) = called_inside x e es handler told f may has handed
      goes_inside (return e) told f may has (keeps, back) = returned_inside e back
      goes_inside (throw e) told f may has (keeps, up) = thrown_inside e up
      goes_inside (fail e) told f may has goes = absurd goes
      goes_inside vanish told f may has goes = absurd goes
      goes_inside (fold_use u) told f may has goes = absurd (true≢false (sym told))
      goes_inside (unfold_use u) told f may has goes = absurd (true≢false (sym told))
      goes_inside (assert_that items) told f may has goes = absurd (true≢false (sym told))
      goes_inside (loop_invariant xs ps items) told f may has goes = absurd (true≢false (sym told))

      pub next_inside : (n : PureNumberedCommand) → command_of_path p path ≡ Some n → next.ending ≡ None → Follows p m terms path next → IsInside p s next
      next_inside n at ending follows =
          let (f, (may, has)) = there path.stack n at inside in
          goes_inside n.command (contained.by_themselves f n.command may has) f may has (follows.going n at ending)

    pub nexts_inside : {S : Type 0} (m : Actions) (terms : S → StateTerms) (e : PureEntry) (x : PureChecking S) (n : PureNumberedCommand) → command_of_path p x.path ≡ Some n → IsInside p s x.path
        → (ks : List (PureNext S)) → Each (FollowsOn p terms e x) ks → Each (OfGoing (Follows p m terms x.path)) ks → Each (IsNextInside p s) ks
    nexts_inside m terms e x n at inside ks = each_both (FollowsOn p terms e x) (OfGoing (Follows p m terms x.path)) (IsNextInside p s) ks by
      where
        by : (k : PureNext _) → FollowsOn p terms e x k → OfGoing (Follows p m terms x.path) k → IsNextInside p s k
        by (further y) on follows = next_inside m terms x.path y.path inside n at on.0.no_end follows
        by over on follows = tt
        by (caused cause) on follows = tt

  -- ---- explorations

  furthers_inside : {S : Type 0} (ns : List (PureNext S)) → Each (IsNextInside p s) ns → Each (λ y. IsInside p s y.path) (furthers ns)
  furthers_inside [] inside = tt
  furthers_inside (further y ∷ ns) inside = (inside.0, furthers_inside ns inside.1)
  furthers_inside (over ∷ ns) inside = furthers_inside ns inside.1
  furthers_inside (caused cause ∷ ns) inside = furthers_inside ns inside.1

  module _ {S : Type 0} where
    abbrev Inside : PureChecking S → Type 0
    Inside y = IsInside p s y.path

    pub taken_inside : (before after : PureExploration S) (ns : List (PureNext S)) → AreTaken before ns after → StaysInside p s before → Each (IsNextInside p s) ns → StaysInside p s after
    taken_inside before after ns taken inside nexts = record {
      left = subst (Each Inside) (sym taken.left) (each_append Inside before.left (furthers ns) inside.left (furthers_inside ns nexts));
      none_used = taken.uses ∙ inside.none_used;
    }

    -- the last path of those that are left
    pub apart_inside : (all : PureExploration S) (left : List (PureChecking S)) (x : PureChecking S) → all.left ≡ left ++ x ∷ [] → StaysInside p s all → StaysInside p s (record all { left = left }) × Inside x
    apart_inside all left x is inside =
        let each : Each Inside (left ++ x ∷ []) = subst (Each Inside) is inside.left in
        (record { left = each_left Inside left (x ∷ []) each; none_used = inside.none_used }, (each_right Inside left (x ∷ []) each).0)

-- ---- starts

start_inside : {S : Type 0} (p : PureParts) (s : PureSpec) (b : PureBeginnings S) (terms : S → StateTerms) (kept : S → Type 0) (are : AreBeginnings b p terms kept s) (start : PureStart S) → IsBeginning b are.proc terms kept start
    → IsInside p s start.path
start_inside p s b terms kept are start begins =
    subst (IsInside p s) (sym begins.begins.is) (inl (found_name p.procs s.name are.proc are.found), tt)

pub starts_inside : {S : Type 0} (p : PureParts) (s : PureSpec) (b : PureBeginnings S) (terms : S → StateTerms) (kept : S → Type 0) (are : AreBeginnings b p terms kept s) (here : Place) (ns : List (PureNext S))
    → AreStartsOf here b.starts ns → Each (IsNextInside p s) ns
starts_inside {S} p s b terms kept are here ns starts = across b.starts ns starts are.each
  where
    one : (start : PureStart S) (k : PureNext S) → IsStartOf here start k → IsBeginning b are.proc terms kept start → IsNextInside p s k
    one start (further y) taken begins = subst (λ (x : PureChecking S). IsInside p s x.path) (sym taken.is) (start_inside p s b terms kept are start begins)
    one start over taken begins = tt
    one start (caused cause) taken begins = tt

    across : (xs : List (PureStart S)) (ks : List (PureNext S)) → EachWith (IsStartOf here) xs ks → Each (IsBeginning b are.proc terms kept) xs → Each (IsNextInside p s) ks
    across [] [] pairs all = tt
    across [] (k ∷ ks) pairs all = absurd pairs
    across (x ∷ xs) [] pairs all = absurd pairs
    across (x ∷ xs) (k ∷ ks) pairs all = (one x k pairs.0 all.0, across xs ks pairs.1 all.1)
