-- The candidates of `throw` keep the laws.
use Rattle.std.proofs.Common.{◌≡◌, ℕ, List, [], ◌∷◌, ◌++◌, Option, Some, None, IsTrue, refl, sym, ap, subst, ◌∙◌}
use Rattle.gil_values.specs.declared.places.Place.{Place}
use Rattle.gil_values.specs.Pure.{PureValue}
use Rattle.gil_syntax.specs.Pure.{PureParts, PureExpr, PureNumberedCommand, throw}
use Rattle.gil_machine.specs.State.{Frame, State, Step, ends, end_at}
use Rattle.gil_machine.specs.State as machine
use Rattle.gil_machine.specs.Step.{resumed, caught, handled_or, throw_to}
use Rattle.gil_machine.specs.Step as machine_step
use Rattle.mem_model.specs.Actions.{Actions}
use Rattle.mem_model.specs.Heaps.{Heap}
use Rattle.pure_terms.specs.Meaning.{value, all_true, IsOver}
use Rattle.pure_terms.specs.Pure.{PureTerm}
use Rattle.sym_evaluation.specs.Pure.{PureGoodCase, PureCases}
use Rattle.sym_evaluation.specs.Questions.{IsTermOf}
use Rattle.sym_model.specs.Lists.{Each}
use Rattle.sym_model.specs.Terms.{StateTerms}
use Rattle.sym_paths.specs.Frames.{from_handler, handling, Catches, Resumes}
use Rattle.sym_paths.specs.Valued.{place_at, IsEvaluated}
use Rattle.sym_paths.specs.Meaning.{IsFrame, AreFrames, Stands, StandsForStep, OfEachName, IsOverTable, command_of_path}
use Rattle.sym_paths.specs.Moves.{running_store}
use Rattle.sym_paths.specs.Origins.{Follows}
use Rattle.sym_paths.specs.Pure.{PureFrame, threw, PurePath}
use Rattle.sym_paths.specs.Settling.{Candidate}
use Rattle.sym_paths.proofs.Origins.{follows_throwing, follows_going}
use Rattle.sym_paths.specs.Returns.{resuming}
use Rattle.sym_paths.specs.Throws.{throwing, ThrowsTo, Throws, ThrowsKeepTheLaws}
use Rattle.sym_paths.proofs.Following.{same_place}
use Rattle.sym_paths.proofs.Leaving.{Makes, there, ending_makes, going_makes, result_over, result_from, leaving_candidates}
use Rattle.sym_paths.proofs.Returning.{some_caller, callers_stand, resumed_frame, resumed_over}

-- ---- frames

-- what a throw finds in the calls of a state, where these frames may catch it: nothing, or the call of the first one
abbrev IsCaught : List PureValue → List PureFrame → List Frame → Type 0
IsCaught v [] gs = machine_step.handling gs ≡ None
IsCaught v (f ∷ fs) gs =
    (h : Frame) × ((hs : List Frame) × (IsFrame v f h × AreFrames v fs hs
    × ((label : ℕ) → f.handler ≡ Some label → machine_step.handling gs ≡ Some (record { label = label; frame = h; callers = hs }))))

-- a call without a handler catches nothing
passed_on : (v : List PureValue) (ks : List PureFrame) (g : Frame) (gs : List Frame) → machine_step.handling (g ∷ gs) ≡ machine_step.handling gs → IsCaught v ks gs → IsCaught v ks (g ∷ gs)
passed_on v [] g gs same caught = same ∙ caught
passed_on v (k ∷ ks) g gs same (h, (hs, (frame, rest, found))) = (h, (hs, (frame, rest, λ label is. same ∙ found label is)))

caught_at : (v : List PureValue) (f : PureFrame) (fs : List PureFrame) (g : Frame) (gs : List Frame) → IsFrame v f g → AreFrames v fs gs → IsCaught v (handling fs) gs
    → (o : Option ℕ) → f.handler ≡ o → IsCaught v (from_handler o (f ∷ fs) (handling fs)) (g ∷ gs)
caught_at v f fs g gs frame rest later (Some label) is =
    (g, (gs, (frame, rest, λ l there. ap (λ o. handled_or o g gs (machine_step.handling gs)) (sym frame.handler ∙ there))))
caught_at v f fs g gs frame rest later None is = passed_on v (handling fs) g gs (ap (λ o. handled_or o g gs (machine_step.handling gs)) (sym frame.handler ∙ is)) later

caught_by : (v : List PureValue) (fs : List PureFrame) (gs : List Frame) → AreFrames v fs gs → IsCaught v (handling fs) gs
caught_by v [] [] are = refl
caught_by v [] (g ∷ gs) are = absurd are
caught_by v (f ∷ fs) [] are = absurd are
caught_by v (f ∷ fs) (g ∷ gs) are = caught_at v f fs g gs are.0 are.1 (caught_by v fs gs are.1) f.handler refl

-- what holds of each store holds of those of the frames that are left
handling_at : (P : PureFrame → Type 0) (f : PureFrame) (fs : List PureFrame) (o : Option ℕ) → Each P (f ∷ fs) → Each P (handling fs) → Each P (from_handler o (f ∷ fs) (handling fs))
handling_at P f fs (Some label) all later = all
handling_at P f fs None all later = later

pub handling_each : (P : PureFrame → Type 0) (fs : List PureFrame) → Each P fs → Each P (handling fs)
handling_each P [] all = tt
handling_each P (f ∷ fs) all = handling_at P f fs f.handler all (handling_each P fs all.1)

-- ---- candidates

module _ {S : Type 0} (stands : S → List PureValue → Heap → Type 0) (terms : S → StateTerms) (p : PureParts) (m : Actions) (path : PurePath S) (c : PureNumberedCommand) (e : PureExpr) (cases : PureCases PureTerm)
    (over : IsOverTable terms path) (no_end : path.ending ≡ None) (at : command_of_path p path ≡ Some c) (command : c.command ≡ throw e) (evaluated : IsEvaluated (running_store path.stack) e cases) where
  abbrev MakesOne : PureGoodCase PureTerm → Candidate S → Type 0
  MakesOne = Makes stands terms p m path c e cases over no_end at (throw e) (λ place s a. throw_to (machine_step.handling s.callers) a place s) command (λ inputs place s. refl) (λ s. refl) evaluated (λ a is. is) (refl, refl)

  abbrev at_command : State → Place
  at_command = there stands terms p m path c e cases over no_end at (throw e) (λ place s a. throw_to (machine_step.handling s.callers) a place s) command (λ inputs place s. refl) (λ s. refl) evaluated (λ a is. is) (refl, refl)

  abbrev here : Place
  here = place_at path.stack c

  module _ (g : PureGoodCase PureTerm) (is_good : cases.good ≡ Some g) (f : PureFrame) (callers : List PureFrame) (stack : path.stack ≡ f ∷ callers) where
    over_result : IsOver path.vars g.result
    over_result = result_over stands terms p m path c e cases over no_end at (throw e) (λ place s a. throw_to (machine_step.handling s.callers) a place s) command (λ inputs place s. refl) (λ s. refl) evaluated (λ a is. is) (refl, refl) g is_good

    from_result : IsTermOf (running_store path.stack) e g.result
    from_result = result_from stands terms p m path c e cases over no_end at (throw e) (λ place s a. throw_to (machine_step.handling s.callers) a place s) command (λ inputs place s. refl) (λ s. refl) evaluated (λ a is. is) (refl, refl) g is_good

    caught_there : (v : List PureValue) (s : State) → Stands stands path v s → IsCaught v (handling callers) s.callers
    caught_there v s is = caught_by v callers s.callers (callers_stand v path.stack f callers s.current s.callers stack is.frames)

    handling_over : Each (λ k. OfEachName (IsOver path.vars) k.store) (handling callers)
    handling_over =
        let old : Each (λ k. OfEachName (IsOver path.vars) k.store) (f ∷ callers) = subst (Each (λ k. OfEachName (IsOver path.vars) k.store)) stack over.stores in
        handling_each (λ k. OfEachName (IsOver path.vars) k.store) callers old.1

    -- ---- nothing catches it

    module _ (none : handling callers ≡ []) where
      throws_there : (inputs v : List PureValue) (s : State) (a : PureValue) → Stands stands path v s → value v g.result ≡ Some a → IsTrue (all_true v (path.conds ++ g.conds))
          → StandsForStep p m stands (throwing path here g).path v s (Some (threw g.result here)) (throw_to (machine_step.handling s.callers) a (at_command s) s)
      throws_there inputs v s a is val met =
          let nothing : machine_step.handling s.callers ≡ None = subst (λ ks. IsCaught v ks s.callers) none (caught_there v s is) in
          subst (λ o. StandsForStep p m stands (throwing path here g).path v s (Some (threw g.result here)) (throw_to o a (at_command s) s)) (sym nothing)
          (record {
            proper = is.proper;
            meets = met;
            ending = (a, (val, ap (machine.threw a) (same_place stands terms p m path c over at v path.stack s is.frames)));
            memory = is.memory;
            symbols_below = is.symbols_below;
            draws = is.draws;
          })

      throwing_makes : MakesOne g (throwing path here g)
      throwing_makes =
          ending_makes stands terms p m path c e cases over no_end at (throw e) (λ place s a. throw_to (machine_step.handling s.callers) a place s) command (λ inputs place s. refl) (λ s. refl) evaluated (λ a is. is) (refl, refl) g is_good
          [] tt (threw g.result here) (λ unknown. unknown) (over_result, tt)
          (follows_throwing p m terms path (throwing path here g).path c at (throw e) command g.result here refl from_result) throws_there

    -- ---- a frame catches it

    module _ (k : PureFrame) (ks : List PureFrame) (first : handling callers ≡ k ∷ ks) (label : ℕ) (has : k.handler ≡ Some label) (r : PureFrame) (resumes : Resumes g.result k r) where
      abbrev cp : PurePath S
      cp = (resuming path (record r { next = label } ∷ ks) g).path

      caught_frame : (v : List PureValue) (a : PureValue) (h : Frame) → value v g.result ≡ Some a → IsFrame v k h → IsFrame v (record r { next = label }) (caught label a h)
      caught_frame v a h val frame =
          let same : IsFrame v r (resumed h.waits a h) = resumed_frame v g.result a k r h k.waits frame val frame.waits resumes in
          record { procedure = same.procedure; next = refl; store = same.store; waits = same.waits; handler = same.handler }

      catches_there : (inputs v : List PureValue) (s : State) (a : PureValue) → Stands stands path v s → value v g.result ≡ Some a → IsTrue (all_true v (path.conds ++ g.conds))
          → StandsForStep p m stands cp v s None (throw_to (machine_step.handling s.callers) a (at_command s) s)
      catches_there inputs v s a is val met =
          let (h, (hs, (frame, rest, found))) = subst (λ fs. IsCaught v fs s.callers) first (caught_there v s is) in
          subst (λ o. StandsForStep p m stands cp v s None (throw_to o a (at_command s) s)) (sym (found label has)) (record {
            proper = is.proper;
            meets = met;
            frames = (caught_frame v a h val frame, rest);
            memory = is.memory;
            symbols_below = is.symbols_below;
            draws = is.draws;
          })

      catching_over : Each (λ j. OfEachName (IsOver path.vars) j.store) (record r { next = label } ∷ ks)
      catching_over =
          let old : Each (λ j. OfEachName (IsOver path.vars) j.store) (k ∷ ks) = subst (Each (λ j. OfEachName (IsOver path.vars) j.store)) first handling_over in
          (resumed_over (IsOver path.vars) g.result k r k.waits over_result old.0 resumes, old.1)

      catching_follows : Follows p m terms path cp
      catching_follows = follows_going p m terms path cp c at (throw e) command no_end (
        refl,
        record {
          frame = f;
          callers = callers;
          stack = stack;
          term = g.result;
          from = from_result;
          catches = subst (λ fs. Catches g.result fs (record r { next = label } ∷ ks)) (sym first) (label, (has, (r, (resumes, refl))));
        },
      )

      catching_makes : MakesOne g (resuming path (record r { next = label } ∷ ks) g)
      catching_makes =
          going_makes stands terms p m path c e cases over no_end at (throw e) (λ place s a. throw_to (machine_step.handling s.callers) a place s) command (λ inputs place s. refl) (λ s. refl) evaluated (λ a is. is) (refl, refl) g is_good
          (record r { next = label } ∷ ks) catching_over catching_follows catches_there

    -- one candidate, whatever frames may catch it
    made_by : (fs : List PureFrame) → handling callers ≡ fs → (ds : List (Candidate S)) → ThrowsTo path here fs g ds → (d : Candidate S) × (MakesOne g d × (ds ≡ d ∷ []))
    made_by [] is ds one = (throwing path here g, (throwing_makes is, one))
    made_by (k ∷ ks) is ds (nexts, ((label, (has, (r, (resumes, made)))), one)) =
        (resuming path nexts g, (subst (λ fs. MakesOne g (resuming path fs g)) (sym made) (catching_makes k ks is label has r resumes), one))

  module _ (g : PureGoodCase PureTerm) (is_good : cases.good ≡ Some g) where
    made : (fs : List PureFrame) → path.stack ≡ fs → (ds : List (Candidate S)) → Throws path here fs g ds → (d : Candidate S) × (MakesOne g d × (ds ≡ d ∷ []))
    made [] is ds none = absurd none
    made (f ∷ callers) is ds throws = made_by g is_good f callers is (handling callers) refl ds throws

pub throws_keep_the_laws : {S : Type 0} (stands : S → List PureValue → Heap → Type 0) (terms : S → StateTerms) → ThrowsKeepTheLaws stands terms
throws_keep_the_laws stands terms p m path c e cases cs over no_end at command evaluated =
    leaving_candidates stands terms p m path c e cases over no_end at (throw e) (λ place s a. throw_to (machine_step.handling s.callers) a place s) command (λ inputs place s. refl) (λ s. refl) evaluated (λ a is. is) (refl, refl) (Throws path (place_at path.stack c) path.stack)
    (λ g is_good ds throws. made stands terms p m path c e cases over no_end at command evaluated g is_good path.stack refl ds throws) cs
