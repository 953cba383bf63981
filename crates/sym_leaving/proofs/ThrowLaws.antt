-- A call that throws a term.
use Rattle.std.proofs.Common.{◌≡◌, ℕ, List, [], ◌∷◌, Option, Some, None, refl, sym, ap, subst, ◌∙◌}
use Rattle.gil_values.specs.declared.places.Place.{Place}
use Rattle.gil_values.specs.Pure.{PureValue}
use Rattle.gil_machine.specs.State.{Frame, State}
use Rattle.gil_machine.specs.Step.{resumed, caught as caught_frame, handled_or, throw_to}
use Rattle.gil_machine.specs.Step as machine
use Rattle.mem_model.specs.Heaps.{Heap}
use Rattle.pure_terms.specs.Meaning.{value, IsOver}
use Rattle.pure_terms.specs.Pure.{PureTerm}
use Rattle.sym_paths.proofs.Returning.{callers_stand, resumed_frame, resumed_over}
use Rattle.sym_paths.proofs.Throwing.{handling_each}
use Rattle.sym_engine.specs.Placed.{IsAtCommand, AreAtCommands}
use Rattle.sym_engine.proofs.Placing.{caught_there}
use Rattle.sym_leaving.specs.Leaving.{StandsWhereGoesOn, IsCaught, IsUncaught}
use Rattle.sym_model.specs.Lists.{Each}
use Rattle.sym_model.specs.Terms.{StateTerms}
use Rattle.sym_paths.specs.Frames.{from_handler, handling, Catches, Resumes}
use Rattle.sym_paths.specs.Meaning.{IsFrame, AreFrames, Stands, OfEachName}
use Rattle.sym_paths.specs.Pure.{PureFrame, PurePath}

-- ---- where a throw finds its handler

-- what a throw finds in the calls of a state, where these frames may catch it: nothing, or the call of the first one
abbrev IsFound : List PureValue → List PureFrame → List Frame → Type 0
IsFound v [] gs = machine.handling gs ≡ None
IsFound v (f ∷ fs) gs =
    (h : Frame) × ((hs : List Frame) × (IsFrame v f h × AreFrames v fs hs
    × ((label : ℕ) → f.handler ≡ Some label → machine.handling gs ≡ Some (record { label = label; frame = h; callers = hs }))))

-- a call without a handler catches nothing
passed_on : (v : List PureValue) (ks : List PureFrame) (g : Frame) (gs : List Frame) → machine.handling (g ∷ gs) ≡ machine.handling gs → IsFound v ks gs → IsFound v ks (g ∷ gs)
passed_on v [] g gs same found = same ∙ found
passed_on v (k ∷ ks) g gs same (h, (hs, (frame, rest, found))) = (h, (hs, (frame, rest, λ label is. same ∙ found label is)))

found_at : (v : List PureValue) (f : PureFrame) (fs : List PureFrame) (g : Frame) (gs : List Frame) → IsFrame v f g → AreFrames v fs gs → IsFound v (handling fs) gs
    → (o : Option ℕ) → f.handler ≡ o → IsFound v (from_handler o (f ∷ fs) (handling fs)) (g ∷ gs)
found_at v f fs g gs frame rest later (Some label) is =
    (g, (gs, (frame, rest, λ l there. ap (λ o. handled_or o g gs (machine.handling gs)) (sym frame.handler ∙ there))))
found_at v f fs g gs frame rest later None is = passed_on v (handling fs) g gs (ap (λ o. handled_or o g gs (machine.handling gs)) (sym frame.handler ∙ is)) later

found_in : (v : List PureValue) (fs : List PureFrame) (gs : List Frame) → AreFrames v fs gs → IsFound v (handling fs) gs
found_in v [] [] are = refl
found_in v [] (g ∷ gs) are = absurd are
found_in v (f ∷ fs) [] are = absurd are
found_in v (f ∷ fs) (g ∷ gs) are = found_at v f fs g gs are.0 are.1 (found_in v fs gs are.1) f.handler refl

-- ---- paths

module _ {S : Type 0} (stands : S → List PureValue → Heap → Type 0) (terms : S → StateTerms) (path : PurePath S) (t : PureTerm) (f : PureFrame) (callers : List PureFrame) (stack : path.stack ≡ f ∷ callers) where
  found_there : (v : List PureValue) (s : State) → Stands stands path v s → IsFound v (handling callers) s.callers
  found_there v s is = found_in v callers s.callers (callers_stand v path.stack f callers s.current s.callers stack is.frames)

  module _ (k : PureFrame) (ks : List PureFrame) (first : handling callers ≡ k ∷ ks) (nexts : List PureFrame) (catches : Catches t (k ∷ ks) nexts) where
    abbrev next : PurePath S
    next = record path { stack = nexts }

    over_frames : Each (λ j. OfEachName (IsOver path.vars) j.store) path.stack → IsOver path.vars t → Each (λ j. OfEachName (IsOver path.vars) j.store) nexts
    over_frames stores new =
        let (label, (has, (r, (resumes, made)))) = catches in
        let all : Each (λ j. OfEachName (IsOver path.vars) j.store) (f ∷ callers) = subst (Each (λ j. OfEachName (IsOver path.vars) j.store)) stack stores in
        let old : Each (λ j. OfEachName (IsOver path.vars) j.store) (k ∷ ks) = subst (Each (λ j. OfEachName (IsOver path.vars) j.store)) first (handling_each (λ j. OfEachName (IsOver path.vars) j.store) callers all.1) in
        subst (Each (λ j. OfEachName (IsOver path.vars) j.store)) (sym made) (resumed_over (IsOver path.vars) t k r k.waits new old.0 resumes, old.1)

    frame_goes_on : (v : List PureValue) (w : PureValue) (h : Frame) (label : ℕ) (r : PureFrame) → value v t ≡ Some w → IsFrame v k h → Resumes t k r → IsFrame v (record r { next = label }) (caught_frame label w h)
    frame_goes_on v w h label r val frame resumes =
        let same : IsFrame v r (resumed h.waits w h) = resumed_frame v t w k r h k.waits frame val frame.waits resumes in
        record { procedure = same.procedure; next = refl; store = same.store; waits = same.waits; handler = same.handler }

    goes_on_there : (v : List PureValue) (s : State) (w : PureValue) (here : Place) → Stands stands path v s → value v t ≡ Some w → StandsWhereGoesOn stands next v (throw_to (machine.handling s.callers) w here s)
    goes_on_there v s w here is val =
        let (label, (has, (r, (resumes, made)))) = catches in
        let (h, (hs, (frame, rest, found))) = subst (λ fs. IsFound v fs s.callers) first (found_there v s is) in
        let frames : AreFrames v (record r { next = label } ∷ ks) (caught_frame label w h ∷ hs) = (frame_goes_on v w h label r val frame resumes, rest) in
        subst (λ o. StandsWhereGoesOn stands next v (throw_to o w here s)) (sym (found label has)) (record {
          proper = is.proper;
          meets = is.meets;
          frames = subst (λ fs. AreFrames v fs (caught_frame label w h ∷ hs)) (sym made) frames;
          memory = is.memory;
          symbols_below = is.symbols_below;
          draws = is.draws;
        })

    pub is_caught : IsCaught stands terms path t next
    is_caught = record {
      keeps = record {
        same_else = refl;
        over = λ over new. record {
          conds = over.conds;
          given = over.given;
          stores = over_frames over.stores new;
          memory = over.memory;
          drawn = over.drawn;
          ending = over.ending;
        };
        placed = λ p valid at.
            let all : AreAtCommands p (f ∷ callers) = subst (AreAtCommands p) stack at in
            let there : Each (IsAtCommand p) (k ∷ ks) = subst (Each (IsAtCommand p)) first (handling_each (IsAtCommand p) callers all.1) in
            caught_there p valid (k ∷ ks) t nexts there catches;
      };
      stands_for = goes_on_there;
    }

  module _ (none : handling callers ≡ []) (rest : List PureFrame) (no_frame : rest ≡ []) where
    pub is_uncaught : IsUncaught stands terms path t (record path { stack = rest })
    is_uncaught = record {
      no_frame = ap (λ fs. record path { stack = fs }) no_frame;
      ends_there = λ v s w here is.
          let nothing : machine.handling s.callers ≡ None = subst (λ ks. IsFound v ks s.callers) none (found_there v s is) in
          ap (λ o. throw_to o w here s) nothing;
    }
