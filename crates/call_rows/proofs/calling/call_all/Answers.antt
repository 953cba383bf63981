use Rattle.std.proofs.Common.{rules, ◌≡◌, ◌+◌, [], ◌∷◌, ◌++◌, length, ap, sym, subst, ◌∙◌, arith}
use Rattle.std.specs.Vec.Iter.{into_iter_items}
use Rattle.std.proofs.lemmas.List.{append-nil, map-append, nil_from_length}
use Rattle.gil_syntax.specs.Program.{prog_view}
use Rattle.sym_engine.proofs.Settled.{rest_more, over_next}
use Rattle.sym_paths.specs.View.{path_view, paths_view}
use Rattle.sym_states.specs.View.{facts_view}
use Rattle.checked_paths.specs.View.{entry_view, nexts_view, passed_by_view}
use Rattle.call_rows.specs.Calling.{EachIsCalled, IsCalled, IsNextOver}
use Rattle.call_rows.proofs.GatheringLaws.{gathers_last}
use Rattle.call_rows.specs.Asked.{AddsToNext}
use Rattle.call_rows.specs.Gathering.{GathersNexts}
use Rattle.call_rows.proofs.calling.call_all.Goals as goal

pub loop-path-init : goal.loop-path-init
loop-path-init g c = record {
  counted = search rules;
  rest = search rules;
  answered = ap nexts_view c.new-nexts.ensures;
  asked = ap nexts_view c.new-nexts.ensures;
}

pub call_one-requires-clause-over : goal.call_one-requires-clause-over
call_one-requires-clause-over g c =
    over_next (IsNextOver g.M.SymMemory.terms (entry_view c.args.spec.now c.args.entered.now) (facts_view c.args.preds.now) (passed_by_view c.args.passed.now)) path_view c.args.paths c.loop-path.yielded (into_iter_items c.loop-path.path-iterator) (into_iter_items c.next.new.self)
    c.in-Some.path c.loop-path.invariant.rest c.in-Some.ensures.steps.0 c.requires.over

pub loop-path-preserved : goal.loop-path-preserved
loop-path-preserved g c =
    let R = IsCalled (prog_view c.args.prog.now) g.M.Local.LocalMemory.memory g.M.SymMemory.stands g.M.SymMemory.terms g.M.SymMemory.kept (entry_view c.args.spec.now c.args.entered.now) c.args.here.now (facts_view c.args.preds.now) (passed_by_view c.args.passed.now) in
    let T = AddsToNext (prog_view c.args.prog.now) (entry_view c.args.spec.now c.args.entered.now) in
    let longer : length (into_iter_items c.loop-path.path-iterator) ≡ length (into_iter_items c.next.new.self) + 1 = ap length c.in-Some.ensures.steps.0 ∙ omega arith in
    let seen = map-append path_view c.loop-path.yielded (c.in-Some.path ∷ []) in
    record {
      counted = omega (arith, longer, c.in-Some.ensures.steps.1, c.loop-path.invariant.counted);
      rest = rest_more c.args.paths c.loop-path.yielded (into_iter_items c.loop-path.path-iterator) (into_iter_items c.next.new.self) c.in-Some.path c.loop-path.invariant.rest c.in-Some.ensures.steps.0;
      answered = subst (λ ps. EachIsCalled (prog_view c.args.prog.now) g.M.Local.LocalMemory.memory g.M.SymMemory.stands g.M.SymMemory.terms g.M.SymMemory.kept (entry_view c.args.spec.now c.args.entered.now) c.args.here.now (facts_view c.args.preds.now) (passed_by_view c.args.passed.now) ps (nexts_view c.in_ok-nexts.nexts)) (sym seen)
          (subst (EachIsCalled (prog_view c.args.prog.now) g.M.Local.LocalMemory.memory g.M.SymMemory.stands g.M.SymMemory.terms g.M.SymMemory.kept (entry_view c.args.spec.now c.args.entered.now) c.args.here.now (facts_view c.args.preds.now) (passed_by_view c.args.passed.now) (paths_view c.loop-path.yielded ++ path_view c.in-Some.path ∷ []))
          (sym c.in_ok-nexts.ensures) (gathers_last R (paths_view c.loop-path.yielded) (path_view c.in-Some.path) (nexts_view c.loop-path.nexts) (nexts_view c.in_ok-more.more) c.loop-path.invariant.answered c.in_ok-more.ensures.answers));
      asked = subst (λ ps. GathersNexts T ps (nexts_view c.in_ok-nexts.nexts)) (sym seen)
          (subst (GathersNexts T (paths_view c.loop-path.yielded ++ path_view c.in-Some.path ∷ [])) (sym c.in_ok-nexts.ensures)
          (gathers_last T (paths_view c.loop-path.yielded) (path_view c.in-Some.path) (nexts_view c.loop-path.nexts) (nexts_view c.in_ok-more.more) c.loop-path.invariant.asked c.in_ok-more.ensures.asked));
    }

pub returns-clause-answers : goal.returns-clause-answers
returns-clause-answers g c =
    let none : into_iter_items c.loop-path.path-iterator ≡ [] = nil_from_length (into_iter_items c.loop-path.path-iterator) (sym c.loop-path.invariant.counted ∙ c.in-None.ensures.steps.0) in
    subst (λ ps. EachIsCalled (prog_view c.args.prog.now) g.M.Local.LocalMemory.memory g.M.SymMemory.stands g.M.SymMemory.terms g.M.SymMemory.kept (entry_view c.args.spec.now c.args.entered.now) c.args.here.now (facts_view c.args.preds.now) (passed_by_view c.args.passed.now) (paths_view ps) (nexts_view c.loop-path.nexts))
    (sym (c.loop-path.invariant.rest ∙ ap (λ xs. c.loop-path.yielded ++ xs) none ∙ append-nil c.loop-path.yielded)) c.loop-path.invariant.answered

pub returns-clause-asked : goal.returns-clause-asked
returns-clause-asked g c =
    let T = AddsToNext (prog_view c.args.prog.now) (entry_view c.args.spec.now c.args.entered.now) in
    let none : into_iter_items c.loop-path.path-iterator ≡ [] = nil_from_length (into_iter_items c.loop-path.path-iterator) (sym c.loop-path.invariant.counted ∙ c.in-None.ensures.steps.0) in
    subst (λ ps. GathersNexts T (paths_view ps) (nexts_view c.loop-path.nexts)) (sym (c.loop-path.invariant.rest ∙ ap (λ xs. c.loop-path.yielded ++ xs) none ∙ append-nil c.loop-path.yielded)) c.loop-path.invariant.asked
