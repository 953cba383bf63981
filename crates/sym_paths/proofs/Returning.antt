-- The candidates of `return` keep the laws.
use Rattle.std.proofs.Common.{◌≡◌, ℕ, List, [], ◌∷◌, ◌++◌, Option, Some, None, IsTrue, refl, sym, subst}
use Rattle.gil_values.specs.Pure.{PureValue}
use Rattle.gil_syntax.specs.Evaluation.{bind}
use Rattle.gil_syntax.specs.Pure.{PureParts, PureExpr, PureNumberedCommand, return}
use Rattle.gil_machine.specs.State.{Frame, State}
use Rattle.gil_machine.specs.Step.{leave, resumed}
use Rattle.mem_model.specs.Actions.{Actions}
use Rattle.mem_model.specs.Heaps.{Heap}
use Rattle.pure_terms.specs.Meaning.{value, all_true, IsOver}
use Rattle.pure_terms.specs.Pure.{PureTerm}
use Rattle.sym_evaluation.specs.Pure.{PureGoodCase, PureCases}
use Rattle.sym_model.specs.Lists.{Each}
use Rattle.sym_model.specs.Terms.{StateTerms}
use Rattle.sym_paths.specs.Valued.{IsEvaluated}
use Rattle.sym_paths.specs.Meaning.{IsFrame, AreFrames, Stands, StandsForStep, OfEachName, IsOverTable, command_of_path}
use Rattle.sym_paths.specs.Moves.{running_store}
use Rattle.sym_paths.specs.Origins.{Follows}
use Rattle.sym_paths.specs.Pure.{PureFrame, returned, PurePath}
use Rattle.sym_paths.specs.Settling.{Candidate}
use Rattle.sym_paths.proofs.Binding.{agree_bound, each_bound}
use Rattle.sym_paths.proofs.Origins.{follows_ended, follows_going}
use Rattle.sym_paths.specs.Returns.{Resumes, ResumesAt, returning, resuming, Returns, ReturnsKeepTheLaws}
use Rattle.sym_paths.proofs.Leaving.{Makes, ending_makes, going_makes, result_over, result_from, leaving_candidates}

-- ---- frames

pub no_callers : (v : List PureValue) (gs : List Frame) → AreFrames v [] gs → gs ≡ []
no_callers v [] are = refl
no_callers v (g ∷ gs) are = absurd are

pub some_caller : (v : List PureValue) (f : PureFrame) (fs : List PureFrame) (gs : List Frame) → AreFrames v (f ∷ fs) gs → (h : Frame) × ((hs : List Frame) × ((gs ≡ h ∷ hs) × IsFrame v f h × AreFrames v fs hs))
some_caller v f fs [] are = absurd are
some_caller v f fs (h ∷ hs) are = (h, (hs, (refl, are.0, are.1)))

pub callers_stand : (v : List PureValue) (fs : List PureFrame) (f : PureFrame) (callers : List PureFrame) (g : Frame) (gs : List Frame) → fs ≡ f ∷ callers → AreFrames v fs (g ∷ gs) → AreFrames v callers gs
callers_stand v fs f callers g gs same are = let whole : AreFrames v (f ∷ callers) (g ∷ gs) = subst (λ hs. AreFrames v hs (g ∷ gs)) same are in whole.1

pub resumed_frame : (v : List PureValue) (t : PureTerm) (a : PureValue) (f next : PureFrame) (h : Frame) (o : Option (List ℕ)) → IsFrame v f h → value v t ≡ Some a → o ≡ h.waits → ResumesAt o t f next → IsFrame v next (resumed h.waits a h)
resumed_frame v t a f next h (Some x) is val waits (bs, (bound, made)) =
    subst (λ w. IsFrame v next (resumed w a h)) waits
    (subst (λ n. IsFrame v n (record h { store = bind x a h.store; waits = None; handler = None })) (sym made)
    (record {
      procedure = is.procedure;
      next = is.next;
      store = agree_bound v f.store bs h.store x t a bound val is.store;
      waits = refl;
      handler = refl;
    }))
resumed_frame v t a f next h None is val waits made =
    subst (λ w. IsFrame v next (resumed w a h)) waits (subst (λ n. IsFrame v n h) (sym made) is)

pub resumed_over : (P : PureTerm → Type 0) (t : PureTerm) (f next : PureFrame) (o : Option (List ℕ)) → P t → OfEachName P f.store → ResumesAt o t f next → OfEachName P next.store
resumed_over P t f next (Some x) new old (bs, (bound, made)) = subst (λ (n : PureFrame). OfEachName P n.store) (sym made) (each_bound P f.store bs x t bound new old)
resumed_over P t f next None new old made = subst (λ (n : PureFrame). OfEachName P n.store) (sym made) old

-- ---- candidates

module _ {S : Type 0} (stands : S → List PureValue → Heap → Type 0) (terms : S → StateTerms) (p : PureParts) (m : Actions) (path : PurePath S) (c : PureNumberedCommand) (e : PureExpr) (cases : PureCases PureTerm)
    (over : IsOverTable terms path) (no_end : path.ending ≡ None) (at : command_of_path p path ≡ Some c) (command : c.command ≡ return e) (evaluated : IsEvaluated (running_store path.stack) e cases) where
  abbrev MakesOne : PureGoodCase PureTerm → Candidate S → Type 0
  MakesOne = Makes stands terms p m path c e cases over no_end at (return e) (λ place s a. leave s.callers a s) command (λ inputs place s. refl) (λ s. refl) evaluated (λ a is. is) (refl, refl)

  module _ (g : PureGoodCase PureTerm) (is_good : cases.good ≡ Some g) where
    over_result : IsOver path.vars g.result
    over_result = result_over stands terms p m path c e cases over no_end at (return e) (λ place s a. leave s.callers a s) command (λ inputs place s. refl) (λ s. refl) evaluated (λ a is. is) (refl, refl) g is_good

    module _ (f : PureFrame) (only : path.stack ≡ f ∷ []) where
      returns_there : (inputs v : List PureValue) (s : State) (a : PureValue) → Stands stands path v s → value v g.result ≡ Some a → IsTrue (all_true v (path.conds ++ g.conds))
          → StandsForStep p m stands (returning path g).path v s (Some (returned g.result)) (leave s.callers a s)
      returns_there inputs v s a is val met =
          subst (λ gs. StandsForStep p m stands (returning path g).path v s (Some (returned g.result)) (leave gs a s)) (sym (no_callers v s.callers (callers_stand v path.stack f [] s.current s.callers only is.frames)))
          (record {
            proper = is.proper;
            meets = met;
            ending = (a, (val, refl));
            memory = is.memory;
            symbols_below = is.symbols_below;
            draws = is.draws;
          })

      returning_makes : MakesOne g (returning path g)
      returning_makes =
          ending_makes stands terms p m path c e cases over no_end at (return e) (λ place s a. leave s.callers a s) command (λ inputs place s. refl) (λ s. refl) evaluated (λ a is. is) (refl, refl) g is_good
          path.stack over.stores (returned g.result) (λ unknown. unknown) (over_result, tt) (follows_ended p m terms path (returning path g).path (returned g.result) refl refl refl) returns_there

    module _ (f caller next : PureFrame) (callers : List PureFrame) (stack : path.stack ≡ f ∷ caller ∷ callers) (resumes : Resumes g.result caller next) where
      abbrev rp : PurePath S
      rp = (resuming path (next ∷ callers) g).path

      resumes_there : (inputs v : List PureValue) (s : State) (a : PureValue) → Stands stands path v s → value v g.result ≡ Some a → IsTrue (all_true v (path.conds ++ g.conds))
          → StandsForStep p m stands rp v s None (leave s.callers a s)
      resumes_there inputs v s a is val met =
          let (h, (hs, (same, frame, rest))) = some_caller v caller callers s.callers (callers_stand v path.stack f (caller ∷ callers) s.current s.callers stack is.frames) in
          subst (λ gs. StandsForStep p m stands rp v s None (leave gs a s)) (sym same) (record {
            proper = is.proper;
            meets = met;
            frames = (resumed_frame v g.result a caller next h caller.waits frame val frame.waits resumes, rest);
            memory = is.memory;
            symbols_below = is.symbols_below;
            draws = is.draws;
          })

      resuming_over : Each (λ k. OfEachName (IsOver path.vars) k.store) (next ∷ callers)
      resuming_over =
          let old : Each (λ k. OfEachName (IsOver path.vars) k.store) (f ∷ caller ∷ callers) = subst (Each (λ k. OfEachName (IsOver path.vars) k.store)) stack over.stores in
          (resumed_over (IsOver path.vars) g.result caller next caller.waits over_result old.1.0 resumes, old.1.1)

      resuming_follows : Follows p m terms path rp
      resuming_follows = follows_going p m terms path rp c at (return e) command no_end (
        refl,
        record {
          frame = f;
          caller = caller;
          callers = callers;
          stack = stack;
          term = g.result;
          from = result_from stands terms p m path c e cases over no_end at (return e) (λ place s a. leave s.callers a s) command (λ inputs place s. refl) (λ s. refl) evaluated (λ a is. is) (refl, refl) g is_good;
          resumed = next;
          resumes = resumes;
          next_stack = refl;
        },
      )

      resuming_makes : MakesOne g (resuming path (next ∷ callers) g)
      resuming_makes =
          going_makes stands terms p m path c e cases over no_end at (return e) (λ place s a. leave s.callers a s) command (λ inputs place s. refl) (λ s. refl) evaluated (λ a is. is) (refl, refl) g is_good
          (next ∷ callers) resuming_over resuming_follows resumes_there

    -- one candidate, whatever frames there are
    made : (fs : List PureFrame) → path.stack ≡ fs → (ds : List (Candidate S)) → Returns path fs g ds → (d : Candidate S) × (MakesOne g d × (ds ≡ d ∷ []))
    made [] is ds none = absurd none
    made (f ∷ []) is ds one = (returning path g, (returning_makes f is, one))
    made (f ∷ caller ∷ callers) is ds (next, (resumes, one)) = (resuming path (next ∷ callers) g, (resuming_makes f caller next callers is resumes, one))

pub returns_keep_the_laws : {S : Type 0} (stands : S → List PureValue → Heap → Type 0) (terms : S → StateTerms) → ReturnsKeepTheLaws stands terms
returns_keep_the_laws stands terms p m path c e cases cs over no_end at command evaluated =
    leaving_candidates stands terms p m path c e cases over no_end at (return e) (λ place s a. leave s.callers a s) command (λ inputs place s. refl) (λ s. refl) evaluated (λ a is. is) (refl, refl) (Returns path path.stack)
    (λ g is_good ds returns. made stands terms p m path c e cases over no_end at command evaluated g is_good path.stack refl ds returns) cs
