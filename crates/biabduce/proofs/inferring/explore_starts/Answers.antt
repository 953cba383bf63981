use Rattle.std.proofs.Common.{◌≡◌, ⊎_elim, inl, inr, ◌+◌, [], ◌∷◌, ◌++◌, length, rules, sym, ap, subst, ◌∙◌, append-nil, arith}
use Rattle.std.specs.Vec.Iter.{into_iter_items}
use Rattle.std.proofs.lemmas.List.{map-append}
use Rattle.gil_syntax.specs.Program.{prog_view}
use Rattle.gil_syntax.specs.View.{proc_view}
use Rattle.sym_engine.proofs.Settled.{rest_more}
use Rattle.sym_model.specs.Lists.{Each}
use Rattle.sym_paths.specs.View.{path_view, paths_view}
use Rattle.sym_step.specs.Stepping.{MayStep}
use Rattle.bi_beginnings.specs.Beginnings.{IsOpening, BeginsExactly, BeginsBare}
use Rattle.bi_beginnings.specs.View.{beginning_view}
use Rattle.bi_specifications.proofs.Telling.{none_there}
use Rattle.biabduce.specs.Covering.{CoversStart}
use Rattle.biabduce.specs.Narrowly.{StartsNarrowly}
use Rattle.biabduce.specs.NarrowRuns.{CoversNarrowStart}
use Rattle.biabduce.specs.View.{inference_view}
use Rattle.biabduce.proofs.Keeping.{each_middle, each_pushed}
use Rattle.biabduce.proofs.Providing.{still_started}
use Rattle.biabduce.proofs.ProvidingNarrowly.{still_started_narrowly}
use Rattle.biabduce.proofs.inferring.explore_starts.Goals as goal

pub loop-start-init : goal.loop-start-init
loop-start-init g c = record { counted = search rules; rest = search rules; sound = c.requires.sound; keeps = λ r provided. provided; cover = tt; asked = λ before. before; other = λ keep entry from_narrow before. before; decided = λ decidable bare decided. decided; narrow = λ keep decidable left starts decided. decided; keeps_narrowly = λ keep entry r provided. provided; narrow_cover = λ keep entry left starts. tt }

pub explore_start-requires-clause-opening : goal.explore_start-requires-clause-opening
explore_start-requires-clause-opening g c =
    let P = IsOpening g.M.SymMemory.stands g.M.SymMemory.terms g.M.SymMemory.kept (proc_view c.args.proc.now) in
    let is = c.loop-start.invariant.rest ∙ ap (λ xs. c.loop-start.yielded ++ xs) c.in-Some.ensures.steps.0 in
    each_middle P (paths_view c.loop-start.yielded) (path_view c.in-Some.start) (paths_view (into_iter_items c.next.new.self))
    (subst (Each P) (ap paths_view is ∙ map-append path_view c.loop-start.yielded (c.in-Some.start ∷ into_iter_items c.next.new.self)) c.requires.opening)

pub explore_start-requires-clause-exact : goal.explore_start-requires-clause-exact
explore_start-requires-clause-exact g c =
    let P = BeginsExactly g.M.SymMemory.stands (beginning_view c.args.beginning.now) in
    let is = c.loop-start.invariant.rest ∙ ap (λ xs. c.loop-start.yielded ++ xs) c.in-Some.ensures.steps.0 in
    each_middle P (paths_view c.loop-start.yielded) (path_view c.in-Some.start) (paths_view (into_iter_items c.next.new.self))
    (subst (Each P) (ap paths_view is ∙ map-append path_view c.loop-start.yielded (c.in-Some.start ∷ into_iter_items c.next.new.self)) c.requires.exact)

pub explore_start-requires-clause-step : goal.explore_start-requires-clause-step
explore_start-requires-clause-step g c =
    let P = MayStep (prog_view c.args.prog.now) g.M.SymMemory.terms in
    let is = c.loop-start.invariant.rest ∙ ap (λ xs. c.loop-start.yielded ++ xs) c.in-Some.ensures.steps.0 in
    each_middle P (paths_view c.loop-start.yielded) (path_view c.in-Some.start) (paths_view (into_iter_items c.next.new.self))
    (subst (Each P) (ap paths_view is ∙ map-append path_view c.loop-start.yielded (c.in-Some.start ∷ into_iter_items c.next.new.self)) c.requires.step)

pub explore_start-requires-clause-sound : goal.explore_start-requires-clause-sound
explore_start-requires-clause-sound g c = c.loop-start.invariant.sound

pub loop-start-preserved : goal.loop-start-preserved
loop-start-preserved g c =
    let longer : length (into_iter_items c.loop-start.start-iterator) ≡ length (into_iter_items c.next.new.self) + 1 = ap length c.in-Some.ensures.steps.0 ∙ omega arith in
    record {
      counted = omega (arith, longer, c.in-Some.ensures.steps.1, c.loop-start.invariant.counted);
      rest = rest_more c.args.starts c.loop-start.yielded (into_iter_items c.loop-start.start-iterator) (into_iter_items c.next.new.self) c.in-Some.start c.loop-start.invariant.rest c.in-Some.ensures.steps.0;
      sound = c.in_ok-explore_start.ensures.sound;
      keeps = λ r provided. c.in_ok-explore_start.ensures.keeps r (c.loop-start.invariant.keeps r provided);
      cover =
          let p = prog_view c.args.prog.now in
          let q = proc_view c.args.proc.now in
          let b = beginning_view c.args.beginning.now in
          let i = inference_view c.loop-start.inference in
          let j = inference_view c.explore_start.new.inference in
          each_pushed (CoversStart p g.M.Local.LocalMemory.memory g.M.Local.LocalMemory.actions q c.args.bound g.M.SymMemory.stands b j) path_view c.loop-start.yielded c.in-Some.start
          (still_started p g.M.Local.LocalMemory.memory g.M.Local.LocalMemory.actions q c.args.bound g.M.SymMemory.stands b i j (paths_view c.loop-start.yielded) c.in_ok-explore_start.ensures.keeps c.loop-start.invariant.cover)
          c.in_ok-explore_start.ensures.cover;
      asked = λ before. c.in_ok-explore_start.ensures.asked (c.loop-start.invariant.asked before);
      other = λ keep entry from_narrow before.
          let P = StartsNarrowly g.M.SymMemory.terms (beginning_view c.args.beginning.now) in
          let is = c.loop-start.invariant.rest ∙ ap (λ xs. c.loop-start.yielded ++ xs) c.in-Some.ensures.steps.0 in
          c.in_ok-explore_start.ensures.other keep entry
          (⊎_elim
          (λ from_here. inl (
            from_here.0,
            each_middle P (paths_view c.loop-start.yielded) (path_view c.in-Some.start) (paths_view (into_iter_items c.next.new.self))
                (subst (Each P) (ap paths_view is ∙ map-append path_view c.loop-start.yielded (c.in-Some.start ∷ into_iter_items c.next.new.self)) from_here.1),
          ))
          inr from_narrow)
          (c.loop-start.invariant.other keep entry from_narrow before);
      decided = λ decidable bare decided.
          let P = BeginsBare g.M.SymMemory.stands g.M.SymMemory.plain in
          let is = c.loop-start.invariant.rest ∙ ap (λ xs. c.loop-start.yielded ++ xs) c.in-Some.ensures.steps.0 in
          c.in_ok-explore_start.ensures.decided decidable
          (each_middle P (paths_view c.loop-start.yielded) (path_view c.in-Some.start) (paths_view (into_iter_items c.next.new.self))
          (subst (Each P) (ap paths_view is ∙ map-append path_view c.loop-start.yielded (c.in-Some.start ∷ into_iter_items c.next.new.self)) bare))
          (c.loop-start.invariant.decided decidable bare decided);
      narrow = λ keep decidable left starts decided.
          let P = StartsNarrowly g.M.SymMemory.terms (beginning_view c.args.beginning.now) in
          let is = c.loop-start.invariant.rest ∙ ap (λ xs. c.loop-start.yielded ++ xs) c.in-Some.ensures.steps.0 in
          c.in_ok-explore_start.ensures.narrow keep decidable left
          (each_middle P (paths_view c.loop-start.yielded) (path_view c.in-Some.start) (paths_view (into_iter_items c.next.new.self))
          (subst (Each P) (ap paths_view is ∙ map-append path_view c.loop-start.yielded (c.in-Some.start ∷ into_iter_items c.next.new.self)) starts))
          (c.loop-start.invariant.narrow keep decidable left starts decided);
      keeps_narrowly = λ keep entry r provided. (c.in_ok-explore_start.ensures.narrow_cover keep entry).0 r (c.loop-start.invariant.keeps_narrowly keep entry r provided);
      narrow_cover = λ keep entry left starts.
          let p = prog_view c.args.prog.now in
          let q = proc_view c.args.proc.now in
          let b = beginning_view c.args.beginning.now in
          let i = inference_view c.loop-start.inference in
          let j = inference_view c.explore_start.new.inference in
          let P = StartsNarrowly g.M.SymMemory.terms b in
          let is = c.loop-start.invariant.rest ∙ ap (λ xs. c.loop-start.yielded ++ xs) c.in-Some.ensures.steps.0 in
          let (keeps, covers) = c.in_ok-explore_start.ensures.narrow_cover keep entry in
          each_pushed (CoversNarrowStart p g.M.Local.LocalMemory.memory g.M.Local.LocalMemory.actions q c.args.bound g.M.SymMemory.stands g.M.SymMemory.terms b j) path_view c.loop-start.yielded c.in-Some.start
          (still_started_narrowly p g.M.Local.LocalMemory.memory g.M.Local.LocalMemory.actions q c.args.bound g.M.SymMemory.stands g.M.SymMemory.terms b i j (paths_view c.loop-start.yielded) keeps (c.loop-start.invariant.narrow_cover keep entry left starts))
          (covers left
          (each_middle P (paths_view c.loop-start.yielded) (path_view c.in-Some.start) (paths_view (into_iter_items c.next.new.self))
          (subst (Each P) (ap paths_view is ∙ map-append path_view c.loop-start.yielded (c.in-Some.start ∷ into_iter_items c.next.new.self)) starts)));
    }

pub returns-clause-sound : goal.returns-clause-sound
returns-clause-sound g c = c.loop-start.invariant.sound

pub returns-clause-keeps : goal.returns-clause-keeps
returns-clause-keeps g c = c.loop-start.invariant.keeps

pub returns-clause-cover : goal.returns-clause-cover
returns-clause-cover g c =
    let left = into_iter_items c.loop-start.start-iterator in
    let none : left ≡ [] = none_there left (sym c.loop-start.invariant.counted ∙ c.in-None.ensures.steps.0) in
    let all : c.args.starts ≡ c.loop-start.yielded = c.loop-start.invariant.rest ∙ ap (λ xs. c.loop-start.yielded ++ xs) none ∙ append-nil c.loop-start.yielded in
    subst (λ xs. Each (CoversStart (prog_view c.args.prog.now) g.M.Local.LocalMemory.memory g.M.Local.LocalMemory.actions (proc_view c.args.proc.now) c.args.bound g.M.SymMemory.stands (beginning_view c.args.beginning.now) (inference_view c.loop-start.inference)) (paths_view xs)) (sym all)
    c.loop-start.invariant.cover

pub returns-clause-asked : goal.returns-clause-asked
returns-clause-asked g c = c.loop-start.invariant.asked

pub returns-clause-other : goal.returns-clause-other
returns-clause-other g c = c.loop-start.invariant.other

pub returns-clause-decided : goal.returns-clause-decided
returns-clause-decided g c = c.loop-start.invariant.decided

pub returns-clause-narrow : goal.returns-clause-narrow
returns-clause-narrow g c = c.loop-start.invariant.narrow

pub returns-clause-narrow_cover : goal.returns-clause-narrow_cover
returns-clause-narrow_cover g c = λ keep entry.
    let left = into_iter_items c.loop-start.start-iterator in
    let none : left ≡ [] = none_there left (sym c.loop-start.invariant.counted ∙ c.in-None.ensures.steps.0) in
    let all : c.args.starts ≡ c.loop-start.yielded = c.loop-start.invariant.rest ∙ ap (λ xs. c.loop-start.yielded ++ xs) none ∙ append-nil c.loop-start.yielded in (
      c.loop-start.invariant.keeps_narrowly keep entry,
      λ is_left starts.
          subst (λ xs. Each (CoversNarrowStart (prog_view c.args.prog.now) g.M.Local.LocalMemory.memory g.M.Local.LocalMemory.actions (proc_view c.args.proc.now) c.args.bound g.M.SymMemory.stands g.M.SymMemory.terms (beginning_view c.args.beginning.now) (inference_view c.loop-start.inference)) (paths_view xs)) (sym all)
          (c.loop-start.invariant.narrow_cover keep entry is_left starts),
    )
