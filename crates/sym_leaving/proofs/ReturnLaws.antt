-- A call that returns a term.
use Rattle.std.proofs.Common.{◌≡◌, List, [], ◌∷◌, refl, sym, subst}
use Rattle.gil_values.specs.Pure.{PureValue}
use Rattle.gil_machine.specs.Step.{leave, resumed}
use Rattle.mem_model.specs.Heaps.{Heap}
use Rattle.pure_terms.specs.Meaning.{IsOver}
use Rattle.pure_terms.specs.Pure.{PureTerm}
use Rattle.sym_paths.proofs.Returning.{some_caller, callers_stand, resumed_frame, resumed_over}
use Rattle.sym_engine.specs.Placed.{AreAtCommands}
use Rattle.sym_engine.proofs.Placing.{resumed_there}
use Rattle.sym_leaving.specs.Leaving.{HandsDown, StandsWhereGoesOn, IsLeft}
use Rattle.sym_model.specs.Lists.{Each}
use Rattle.sym_model.specs.Terms.{StateTerms}
use Rattle.sym_paths.specs.Frames.{Resumes}
use Rattle.sym_paths.specs.Meaning.{AreFrames, OfEachName}
use Rattle.sym_paths.specs.Pure.{PureFrame, PurePath}

module _ {S : Type 0} (stands : S → List PureValue → Heap → Type 0) (terms : S → StateTerms) (path : PurePath S) (t : PureTerm) (stack : List PureFrame) where
  abbrev next : PurePath S
  next = record path { stack = stack }

  left_to : (f caller r : PureFrame) (callers : List PureFrame) → path.stack ≡ f ∷ caller ∷ callers → Resumes t caller r → stack ≡ r ∷ callers → IsLeft stands terms path t next
  left_to f caller r callers is resumes made = record {
    keeps = record {
      same_else = refl;
      over = λ over new.
          let old : Each (λ k. OfEachName (IsOver path.vars) k.store) (f ∷ caller ∷ callers) = subst (Each (λ k. OfEachName (IsOver path.vars) k.store)) is over.stores in
          record {
            conds = over.conds;
            given = over.given;
            stores = subst (Each (λ k. OfEachName (IsOver path.vars) k.store)) (sym made) (resumed_over (IsOver path.vars) t caller r caller.waits new old.1.0 resumes, old.1.1);
            memory = over.memory;
            drawn = over.drawn;
            ending = over.ending;
          };
      placed = λ p valid at.
          let there : AreAtCommands p (f ∷ caller ∷ callers) = subst (AreAtCommands p) is at in
          subst (AreAtCommands p) (sym made) (resumed_there p valid caller.waits t caller r resumes there.1.0, there.1.1);
    };
    stands_for = λ v s w stand val.
        let (h, (hs, (same, frame, rest))) = some_caller v caller callers s.callers (callers_stand v path.stack f (caller ∷ callers) s.current s.callers is stand.frames) in
        let frames : AreFrames v (r ∷ callers) (resumed h.waits w h ∷ hs) = (resumed_frame v t w caller r h caller.waits frame val frame.waits resumes, rest) in
        subst (λ gs. StandsWhereGoesOn stands next v (leave gs w s)) (sym same) (record {
          proper = stand.proper;
          meets = stand.meets;
          frames = subst (λ fs. AreFrames v fs (resumed h.waits w h ∷ hs)) (sym made) frames;
          memory = stand.memory;
          symbols_below = stand.symbols_below;
          draws = stand.draws;
        });
  }

  left_by : (fs : List PureFrame) → path.stack ≡ fs → HandsDown t fs stack → IsLeft stands terms path t next
  left_by [] is none = absurd none
  left_by (f ∷ []) is none = absurd none
  left_by (f ∷ caller ∷ callers) is (r, (resumes, made)) = left_to f caller r callers is resumes made

  pub is_left : HandsDown t path.stack stack → IsLeft stands terms path t next
  is_left hands = left_by path.stack refl hands
