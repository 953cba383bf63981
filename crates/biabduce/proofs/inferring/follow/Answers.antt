use Rattle.std.proofs.Common.{⊎_elim, inl, inr, length, IsSome}
use Rattle.std.proofs.lemmas.Result.{on_ok_weaker}
use Rattle.gil_syntax.specs.Program.{prog_view}
use Rattle.gil_syntax.specs.View.{proc_view}
use Rattle.sym_paths.specs.View.{paths_view}
use Rattle.bi_beginnings.specs.View.{beginning_view}
use Rattle.biabduce.specs.Narrowly.{numbers_at}
use Rattle.biabduce.specs.View.{inference_view}
use Rattle.biabduce.proofs.Asking.{begun_rightly}
use Rattle.biabduce.proofs.Others.{begun_others, undecided_none}
use Rattle.biabduce.proofs.Decided.{any_decided}
use Rattle.biabduce.proofs.Keeping.{after_any, on_ok_both}
use Rattle.biabduce.proofs.NarrowPaths.{begun_small, start_narrowly, any_narrowly}
use Rattle.biabduce.proofs.Providing.{keeps_any, any_left, begun_covers}
use Rattle.biabduce.proofs.ProvidingNarrowly.{any_keeps, begun_covers_narrowly}
use Rattle.biabduce.proofs.inferring.follow.Goals as goal

pub explore_starts-requires-clause-sound : goal.explore_starts-requires-clause-sound
explore_starts-requires-clause-sound g c =
    after_any (prog_view c.args.prog.now) g.M.Local.LocalMemory.memory g.M.Local.LocalMemory.actions (proc_view c.args.proc.now) c.args.bound (inference_view c.args.inference.now) (inference_view c.leave_any.new.self) c.in_ok-opened.opened.undecided c.leave_any.ensures c.requires.sound
    c.in_ok-opened.ensures.undecided

pub returns-clause-keeps : goal.returns-clause-keeps
returns-clause-keeps g c =
    on_ok_weaker c.explore_starts.result
    (λ keeps r provided. keeps r (keeps_any (prog_view c.args.prog.now) g.M.Local.LocalMemory.memory g.M.Local.LocalMemory.actions (proc_view c.args.proc.now) c.args.bound (inference_view c.args.inference.now) (inference_view c.leave_any.new.self) c.in_ok-opened.opened.undecided c.leave_any.ensures r provided))
    c.explore_starts.ensures.keeps

pub returns-clause-cover : goal.returns-clause-cover
returns-clause-cover g c =
    let p = prog_view c.args.prog.now in
    let q = proc_view c.args.proc.now in
    let b = beginning_view c.args.beginning.now in
    let i = inference_view c.args.inference.now in
    let after = inference_view c.leave_any.new.self in
    let j = inference_view c.explore_starts.new.inference in
    on_ok_both c.explore_starts.result
    (λ keeps covers. begun_covers p g.M.Local.LocalMemory.memory g.M.Local.LocalMemory.actions q c.args.bound g.M.SymMemory.stands b (IsSome c.in_ok-opened.opened.undecided) after j (paths_view c.in_ok-opened.opened.starts) c.in_ok-opened.ensures.cover
    (any_left p g.M.Local.LocalMemory.memory g.M.Local.LocalMemory.actions q c.args.bound i after c.in_ok-opened.opened.undecided c.leave_any.ensures) keeps covers)
    c.explore_starts.ensures.keeps c.explore_starts.ensures.cover

pub returns-clause-asked : goal.returns-clause-asked
returns-clause-asked g c =
    let b = beginning_view c.args.beginning.now in
    let i = inference_view c.args.inference.now in
    let after = inference_view c.leave_any.new.self in
    let opened = c.in_ok-opened in
    on_ok_weaker c.explore_starts.result
    (λ stays left before.
    stays
    (begun_rightly (prog_view c.args.prog.now) g.M.Local.LocalMemory.memory g.M.Local.LocalMemory.actions g.M.SymMemory.stands g.M.SymMemory.terms g.M.SymMemory.asked g.M.SymMemory.depends g.M.SymMemory.plain g.M.SymMemory.keeps_plain g.M.SymMemory.kept (proc_view c.args.proc.now) c.args.bound b c.requires.beginning left i after opened.opened.undecided opened.ensures.decided opened.ensures.asked c.leave_any.ensures before))
    c.explore_starts.ensures.asked

pub returns-clause-other : goal.returns-clause-other
returns-clause-other g c = λ keep.
    let q = proc_view c.args.proc.now in
    let b = beginning_view c.args.beginning.now in
    let i = inference_view c.args.inference.now in
    let after = inference_view c.leave_any.new.self in
    let opened = c.in_ok-opened in
    let starts = paths_view opened.opened.starts in
    on_ok_weaker c.explore_starts.result
    (λ stays entry left_or_other before.
    ⊎_elim
    (λ left.
    let opens = opened.ensures.narrow keep (numbers_at (length b.uses)) left.narrow (begun_small q c.args.bound b left c.requires.bounded) in
    stays entry (inl (left, start_narrowly g.M.SymMemory.stands g.M.SymMemory.terms b starts opened.ensures.exact opens.each_start))
    (undecided_none (prog_view c.args.prog.now) g.M.Local.LocalMemory.memory g.M.Local.LocalMemory.actions g.M.SymMemory.stands g.M.SymMemory.terms g.M.SymMemory.asked g.M.SymMemory.depends g.M.SymMemory.plain g.M.SymMemory.keeps_plain g.M.SymMemory.kept (proc_view c.args.proc.now) c.args.bound i after opened.opened.undecided opens.decided c.leave_any.ensures before))
    (λ other.
    stays entry (inr other)
    (begun_others (prog_view c.args.prog.now) g.M.Local.LocalMemory.memory g.M.Local.LocalMemory.actions g.M.SymMemory.stands g.M.SymMemory.terms g.M.SymMemory.asked g.M.SymMemory.depends g.M.SymMemory.plain g.M.SymMemory.keeps_plain g.M.SymMemory.kept (proc_view c.args.proc.now) c.args.bound b i after opened.opened.undecided other opened.ensures.asked c.leave_any.ensures before))
    left_or_other)
    (c.explore_starts.ensures.other keep)

pub returns-clause-decided : goal.returns-clause-decided
returns-clause-decided g c =
    let i = inference_view c.args.inference.now in
    let after = inference_view c.leave_any.new.self in
    on_ok_weaker c.explore_starts.result
    (λ stays decidable bare decided.
    let opens = c.in_ok-opened.ensures.bare bare in
    stays decidable opens.each_start (any_decided i after c.in_ok-opened.opened.undecided c.leave_any.ensures opens.decided decided))
    c.explore_starts.ensures.decided

pub returns-clause-narrow : goal.returns-clause-narrow
returns-clause-narrow g c = λ keep.
    let q = proc_view c.args.proc.now in
    let b = beginning_view c.args.beginning.now in
    let i = inference_view c.args.inference.now in
    let after = inference_view c.leave_any.new.self in
    let starts = paths_view c.in_ok-opened.opened.starts in
    on_ok_weaker c.explore_starts.result
    (λ stays decidable left decided.
    let opens = c.in_ok-opened.ensures.narrow keep (numbers_at (length b.uses)) left.narrow (begun_small q c.args.bound b left c.requires.bounded) in
    stays decidable left (start_narrowly g.M.SymMemory.stands g.M.SymMemory.terms b starts c.in_ok-opened.ensures.exact opens.each_start)
    (any_narrowly q c.args.bound i after c.in_ok-opened.opened.undecided c.leave_any.ensures opens.decided decided))
    (c.explore_starts.ensures.narrow keep)

pub returns-clause-narrow_cover : goal.returns-clause-narrow_cover
returns-clause-narrow_cover g c = λ keep.
    let p = prog_view c.args.prog.now in
    let memory = g.M.Local.LocalMemory.memory in
    let m = g.M.Local.LocalMemory.actions in
    let q = proc_view c.args.proc.now in
    let b = beginning_view c.args.beginning.now in
    let i = inference_view c.args.inference.now in
    let after = inference_view c.leave_any.new.self in
    let j = inference_view c.explore_starts.new.inference in
    let opened = c.in_ok-opened.opened in
    let starts = paths_view opened.starts in
    on_ok_weaker c.explore_starts.result
    (λ tells entry.
    let (keeps, covers) = tells entry in (
      λ r provided. keeps r (any_keeps p memory m q c.args.bound i after opened.undecided c.leave_any.ensures r provided),
      λ left.
          let opens = c.in_ok-opened.ensures.narrow keep (numbers_at (length b.uses)) left.narrow (begun_small q c.args.bound b left c.requires.bounded) in
          begun_covers_narrowly p memory m q c.args.bound g.M.SymMemory.stands g.M.SymMemory.terms b (IsSome opened.undecided) j starts c.in_ok-opened.ensures.cover opens.decided
          (covers left (start_narrowly g.M.SymMemory.stands g.M.SymMemory.terms b starts c.in_ok-opened.ensures.exact opens.each_start)),
    ))
    (c.explore_starts.ensures.narrow_cover keep)
