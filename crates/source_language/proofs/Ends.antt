-- A program and its compiled program have the same ends, whatever the procedures of its functions are, where the machine finishes each as
-- its body says.
use Rattle.std.proofs.Common.{◌≡◌, ⊎_elim, ℕ, zero, suc, ◌+◌, ◌-◌, ◌≤◌, List, [], ◌∷◌, Bool, true, false, cond, Option, Some, None, length, map, is_some, refl, sym, ap, subst, ◌∙◌, true≢false, arith}
use Rattle.std.specs.Option.{option_map}
use Rattle.std.specs.List.{list_all}
use Rattle.std.specs.Str.{bytes_eq}
use Rattle.std.proofs.lemmas.Bool.{and_parts, cases_lt}
use Rattle.std.proofs.lemmas.Slice.Eq.{bytes_eq-Decides}
use Rattle.gil_values.specs.Pure.{PureValue}
use Rattle.gil_syntax.specs.Pure.{PureProc, PureParts}
use Rattle.gil_syntax.specs.Programs.{find_proc}
use Rattle.mem_model.specs.declared.keys.MemoryName.{MemoryName}
use Rattle.mem_model.specs.Heaps.{Heap}
use Rattle.mem_model.specs.Actions.{Actions}
use Rattle.gil_machine.specs.State.{Frame, State, End, ends, IsOver}
use Rattle.gil_machine.specs.Step.{bind_all, first_frame}
use Rattle.gil_machine.specs.Run.{run, params_of, start, run_of, IsProperStart as IsProperStartOfRun}
use Rattle.gil_machine.proofs.Runs.{stays_over}
use Rattle.source_language.specs.Calls.{Calls, Bodies, at_entry, calls_within, entered, source_end, IsProperStart}
use Rattle.source_language.specs.Completions.{Situation, Completion, normal, returns, throws, over, unfinished, after_body, returned_from_entry, thrown_from_entry, end_if_over}
use Rattle.source_language.specs.Pure.{PureFunction, PureSource, find_function}
use Rattle.source_language.specs.SameEnds.{AreSameEnds}
use Rattle.source_language.proofs.Following.{state_at, Leads, Finishes, entry_runs}

-- ---- functions by name

same_some : {X : Type 0} (x y : X) → Some x ≡ Some y → x ≡ y
same_some x y e = cc

module _ {B : Type 0} where
  named_choice : (b : Bool) (g h : PureFunction B) (f : List ℕ) (o : Option (PureFunction B)) → bytes_eq g.name f ≡ b
      → cond b (Some g) o ≡ Some h → (o ≡ Some h → h.name ≡ f) → h.name ≡ f
  named_choice true g h f o e is later = ap (λ x. x.name) (sym (same_some g h is)) ∙ (bytes_eq-Decides g.name f).0 e
  named_choice false g h f o e is later = later is

  found_name : (functions : List (PureFunction B)) (f : List ℕ) (h : PureFunction B) → find_function functions f ≡ Some h → h.name ≡ f
  found_name [] f h is = absurd (true≢false (sym (ap is_some is)))
  found_name (g ∷ gs) f h is = named_choice (bytes_eq g.name f) g h f _ refl is (found_name gs f h)

  passing_choice : (test : PureFunction B → Bool) (b : Bool) (g h : PureFunction B) (o : Option (PureFunction B)) → test g ≡ true
      → cond b (Some g) o ≡ Some h → (o ≡ Some h → test h ≡ true) → test h ≡ true
  passing_choice test true g h o here is later = subst (λ x. test x ≡ true) (same_some g h is) here
  passing_choice test false g h o here is later = later is

  -- what all functions pass, one that is found passes
  pub found_passes : (test : PureFunction B → Bool) (functions : List (PureFunction B)) (f : List ℕ) (h : PureFunction B)
      → list_all test functions ≡ true → find_function functions f ≡ Some h → test h ≡ true
  found_passes test [] f h pass is = absurd (true≢false (sym (ap is_some is)))
  found_passes test (g ∷ gs) f h pass is =
      let parts = and_parts (test g) (list_all test gs) pass in
      passing_choice test (bytes_eq g.name f) g h _ parts.0 is (found_passes test gs f h parts.1)

-- ---- runs that are over

one_end : (p : PureParts) (m : Actions) (inputs : List PureValue) (s : State) (j k : ℕ) → IsOver (run p m inputs j s).ending
    → IsOver (run p m inputs k s).ending → run p m inputs j s ≡ run p m inputs k s
one_end p m inputs s j k over_j over_k =
    ⊎_elim (λ lt. sym (stays_over p m inputs j k s (omega arith) over_j)) (λ le. stays_over p m inputs k j s le over_k) (cases_lt j k)

-- what the calls come to, from the first command of each procedure
abbrev pub CallsFollow : {B : Type 0} → PureParts → Actions → List PureValue → List (PureFunction B) → Calls B → ℕ → Type 0
CallsFollow {B} p m inputs functions calls least = (g : List ℕ) (h : PureFunction B) (args : List PureValue) (callers : List Frame) (s : Situation)
    → find_function functions g ≡ Some h
    → Finishes (run p m inputs) least callers (state_at h.name 0 callers (bind_all h.params args) s) (calls h args s)

-- the procedure of a function has its name and its parameters
pub record KeepsHead {B : Type 0} (procedure : PureFunction B → PureProc) : Type 0 where
  pub name : (f : PureFunction B) → (procedure f).name ≡ f.name
  pub params : (f : PureFunction B) → (procedure f).params ≡ f.params

module _ {B : Type 0} (procedure : PureFunction B → PureProc) (keeps : KeepsHead procedure) where
  found_choice : (b : Bool) (g : PureFunction B) (o : Option (PureFunction B))
      → cond b (Some (procedure g)) (option_map procedure o) ≡ option_map procedure (cond b (Some g) o)
  found_choice true g o = refl
  found_choice false g o = refl

  pub same_found : (functions : List (PureFunction B)) (f : List ℕ)
      → find_proc (map procedure functions) f ≡ option_map procedure (find_function functions f)
  same_found [] f = refl
  same_found (g ∷ gs) f = ap (λ o. cond (bytes_eq (procedure g).name f) (Some (procedure g)) o) (same_found gs f)
      ∙ ap (λ x. cond (bytes_eq x f) (Some (procedure g)) (option_map procedure (find_function gs f))) (keeps.name g)
      ∙ found_choice (bytes_eq g.name f) g (find_function gs f)

  some_compiled : (o : Option (PureFunction B)) (q : PureProc) (args : List PureValue) → option_map procedure o ≡ Some q
      → length q.params ≡ length args → (g : PureFunction B) × ((o ≡ Some g) × (length g.params ≡ length args))
  some_compiled None q args is same = absurd (cc)
  some_compiled (Some g) q args is same = let this : procedure g ≡ q = cc in
      (g, (refl, ap length (sym (keeps.params g)) ∙ ap (λ (r : PureProc). length r.params) this ∙ same))

  -- a program whose procedures are those of the functions
  module _ (source : PureSource (PureFunction B)) (p : PureParts)
      (same : (f : List ℕ) → find_proc p.procs f ≡ option_map procedure (find_function source.functions f)) where
    pub found_proc : (g : List ℕ) (h : PureFunction B) → find_function source.functions g ≡ Some h → find_proc p.procs h.name ≡ Some (procedure h)
    found_proc g h is =
        subst (λ f. find_proc p.procs f ≡ Some (procedure h)) (sym (found_name source.functions g h is))
        (same g ∙ ap (λ o. option_map procedure o) is)

    module _ (memory : MemoryName) (f : List ℕ) (args : List PureValue) (h : Heap) (counter : ℕ) where
      pub to_run : IsProperStart memory source f args h counter → IsProperStartOfRun p memory f args h counter
      to_run s = record {
        procedure = (procedure s.function.0, (same f ∙ ap (λ o. option_map procedure o) s.function.1.0, ap length (keeps.params s.function.0) ∙ s.function.1.1));
        heap = s.heap;
        arguments_below = s.arguments_below;
        heap_below = s.heap_below;
      }

      pub to_source : IsProperStartOfRun p memory f args h counter → IsProperStart memory source f args h counter
      to_source s = record {
        function = some_compiled (find_function source.functions f) s.procedure.0 args (sym (same f) ∙ s.procedure.1.0) s.procedure.1.1;
        heap = s.heap;
        arguments_below = s.arguments_below;
        heap_below = s.heap_below;
      }

  -- a program that has the procedures of the functions, and perhaps others
  module _ (p : PureParts) (m : Actions) (inputs : List PureValue) (source : PureSource (PureFunction B))
      (found : (g : List ℕ) (h : PureFunction B) → find_function source.functions g ≡ Some h → find_proc p.procs h.name ≡ Some (procedure h)) where
    -- from the first command of each procedure the machine finishes as its body says, where calls do
    abbrev pub BodiesFinish : Bodies B → Type 0
    BodiesFinish body = (loops least : ℕ) (calls : Calls B) → least ≤ loops → CallsFollow p m inputs source.functions calls (least - 1)
        → (g : List ℕ) (h : PureFunction B) → find_function source.functions g ≡ Some h
        → (args : List PureValue) (callers : List Frame) (s : Situation)
        → Finishes (run p m inputs) least callers (state_at h.name 0 callers (bind_all h.params args) s)
        (body loops calls h.name h.body (record s { store = bind_all h.params args }))

    module _ (body : Bodies B) (finish : BodiesFinish body) where
      -- calls that nest at most so deep
      calls_follow : (loops depth least : ℕ) → least ≤ loops → least ≤ depth
          → CallsFollow p m inputs source.functions (calls_within body loops depth) least
      calls_follow loops zero least le le' g h args callers s is = (0, le', refl)
      calls_follow loops (suc depth) least le le' g h args callers s is =
          finish loops least (calls_within body loops depth) le (calls_follow loops depth (least - 1) (omega arith) (omega arith)) g h is args callers s

      module _ (f : List ℕ) (args : List PureValue) (h : Heap) (counter : ℕ) (g : PureFunction B)
          (is : find_function source.functions f ≡ Some g) where
        there : find_proc p.procs f ≡ Some (procedure g)
        there = subst (λ x. find_proc p.procs x ≡ Some (procedure g)) (found_name source.functions f g is) (found f g is)

        began : start p f args h counter ≡ state_at g.name 0 [] (bind_all g.params args) (at_entry h counter)
        began =
            ap (λ o. record { current = first_frame f (params_of o) args; callers = []; heap = h; counter = counter; draws = 0 }) there
            ∙ ap (λ ps. state_at f 0 [] (bind_all ps args) (at_entry h counter)) (keeps.params g)
            ∙ ap (λ x. state_at x 0 [] (bind_all g.params args) (at_entry h counter)) (sym (found_name source.functions f g is))

        source_is : (n : ℕ) → source_end body source f args h counter n ≡ end_if_over
            (after_body (calls_within body n n g args (at_entry h counter)) returned_from_entry thrown_from_entry)
        source_is n = ap (λ o. end_if_over (entered body n o args (at_entry h counter))) is

        finishes_within : (n : ℕ) → Finishes (run p m inputs) n [] (start p f args h counter) (calls_within body n n g args (at_entry h counter))
        finishes_within n =
            subst (λ s. Finishes (run p m inputs) n [] s (calls_within body n n g args (at_entry h counter))) (sym began)
            (calls_follow n n n (omega arith) (omega arith) f g args [] (at_entry h counter) is)

        led : (n : ℕ) (e : End) → source_end body source f args h counter n ≡ Some e
            → Leads (run p m inputs) (start p f args h counter) (ends e) × IsOver e.ending
        led n e same = entry_runs (run p m inputs) n _ (calls_within body n n g args (at_entry h counter)) e (finishes_within n)
            (sym (source_is n) ∙ same)

        -- a run that is over is one whose source has an end with as many turns as steps
        has_end : (n : ℕ) (c : Completion) → IsOver (run p m inputs n (start p f args h counter)).ending
            → Finishes (run p m inputs) n [] (start p f args h counter) c → (e : End) × (end_if_over (after_body c returned_from_entry thrown_from_entry) ≡ Some e)
        has_end n (normal s) done r = (_, refl)
        has_end n (returns v s) done r = (_, refl)
        has_end n (throws v here s) done r = (_, refl)
        has_end n (over e) done r = (e, refl)
        has_end n unfinished done r =
            let same = stays_over p m inputs n r.0 (start p f args h counter) r.1 done in
            absurd (subst (λ e. IsOver e) (sym (ap (λ (e : End). e.ending) same) ∙ r.2) done)

        pub same_ends : AreSameEnds (source_end body source f args h counter) (run_of p m f args h counter inputs)
        same_ends = record {
          run_too = λ n e same. let l = led n e same in let a = l.0.by 0 in (a.0, a.2);
          source_too = λ n done.
              let e = has_end n _ done (finishes_within n) in
              let l = led n e.0 (source_is n ∙ e.1) in
              let a = l.0.by 0 in
              let over_there : IsOver (run p m inputs a.0 (start p f args h counter)).ending = subst (λ (x : End). IsOver x.ending) (sym a.2) l.1 in
              (n, source_is n ∙ e.1 ∙ ap Some (sym a.2 ∙ one_end p m inputs _ a.0 n over_there done));
          is_over = λ n e same. (led n e same).1;
        }
