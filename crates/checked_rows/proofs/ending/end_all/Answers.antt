use Rattle.std.proofs.Common.{rules, ◌≡◌, ◌+◌, [], ◌∷◌, ◌++◌, length, ap, sym, subst, ◌∙◌, arith}
use Rattle.std.specs.Vec.Iter.{into_iter_items}
use Rattle.std.proofs.lemmas.List.{append-nil, map-append, nil_from_length}
use Rattle.gil_syntax.specs.Program.{prog_view}
use Rattle.sym_engine.proofs.Settled.{rest_more, over_next}
use Rattle.sym_paths.specs.View.{path_view, paths_view}
use Rattle.sym_states.specs.View.{facts_view, state_view}
use Rattle.footprint.specs.Plainly.{IsPlainMemory}
use Rattle.checked_paths.proofs.Lists.{with_last}
use Rattle.checked_paths.specs.View.{entry_view, next_view, nexts_view, passed_by_view}
use Rattle.checked_rows.specs.Ending.{EachIsEnded, EachIsExactlyEnded, IsEnded, IsExactlyEnded, MayEnd}
use Rattle.checked_rows.specs.Plainly.{EachEndsSurely, EndsSurely}
use Rattle.checked_rows.specs.Asked.{EachEndAsks, EndAsks}
use Rattle.checked_rows.proofs.ending.end_all.Goals as goal

pub loop-path-init : goal.loop-path-init
loop-path-init g c = record {
  counted = search rules;
  rest = search rules;
  ended = subst (EachIsEnded (prog_view c.args.prog.now) g.M.SymMemory.stands g.M.SymMemory.terms (entry_view c.args.spec.now c.args.entered.now) (state_view c.args.state.now) (facts_view c.args.preds.now) (passed_by_view c.args.passed.now) []) (sym (ap nexts_view c.new-nexts.ensures)) tt;
  exactly = subst (EachIsExactlyEnded (prog_view c.args.prog.now) g.M.SymMemory.stands g.M.SymMemory.terms (entry_view c.args.spec.now c.args.entered.now) (state_view c.args.state.now) (facts_view c.args.preds.now) (passed_by_view c.args.passed.now) c.args.here.now [])
      (sym (ap nexts_view c.new-nexts.ensures)) tt;
  surely = subst (EachEndsSurely g.M.SymMemory.plain (IsPlainMemory g.M.Local.LocalMemory.memory g.M.SymMemory.keeps_plain g.M.SymMemory.terms) (state_view c.args.state.now) (entry_view c.args.spec.now c.args.entered.now) []) (sym (ap nexts_view c.new-nexts.ensures)) tt;
  asked = subst (EachEndAsks (prog_view c.args.prog.now) (entry_view c.args.spec.now c.args.entered.now) []) (sym (ap nexts_view c.new-nexts.ensures)) tt;
}

pub end_one-requires-clause-end : goal.end_one-requires-clause-end
end_one-requires-clause-end g c =
    over_next (MayEnd g.M.SymMemory.terms (entry_view c.args.spec.now c.args.entered.now) (state_view c.args.state.now)) path_view c.args.paths c.loop-path.yielded (into_iter_items c.loop-path.path-iterator) (into_iter_items c.next.new.self)
    c.in-Some.path c.loop-path.invariant.rest c.in-Some.ensures.steps.0 c.requires.end

pub loop-path-preserved : goal.loop-path-preserved
loop-path-preserved g c =
    let stands = g.M.SymMemory.stands in
    let terms = g.M.SymMemory.terms in
    let p = prog_view c.args.prog.now in
    let e = entry_view c.args.spec.now c.args.entered.now in
    let s = state_view c.args.state.now in
    let facts = facts_view c.args.preds.now in
    let passed = passed_by_view c.args.passed.now in
    let here = c.args.here.now in
    let n = c.in_ok-end_one.field-0 in
    let longer : length (into_iter_items c.loop-path.path-iterator) ≡ length (into_iter_items c.next.new.self) + 1 = ap length c.in-Some.ensures.steps.0 ∙ omega arith in
    let seen = map-append path_view c.loop-path.yielded (c.in-Some.path ∷ []) in
    let pushed = ap nexts_view c.in_ok-push.ensures.ok ∙ map-append next_view c.loop-path.nexts (n ∷ []) in
    record {
      counted = omega (arith, longer, c.in-Some.ensures.steps.1, c.loop-path.invariant.counted);
      rest = rest_more c.args.paths c.loop-path.yielded (into_iter_items c.loop-path.path-iterator) (into_iter_items c.next.new.self) c.in-Some.path c.loop-path.invariant.rest c.in-Some.ensures.steps.0;
      ended = subst (λ ps. EachIsEnded p stands terms e s facts passed ps (nexts_view c.push.new.self)) (sym seen)
          (subst (EachIsEnded p stands terms e s facts passed (paths_view c.loop-path.yielded ++ path_view c.in-Some.path ∷ [])) (sym pushed)
          (with_last (IsEnded p stands terms e s facts passed) (paths_view c.loop-path.yielded) (path_view c.in-Some.path) (nexts_view c.loop-path.nexts) (next_view n) c.loop-path.invariant.ended c.in_ok-end_one.ensures.next));
      exactly = subst (λ ps. EachIsExactlyEnded p stands terms e s facts passed here ps (nexts_view c.push.new.self)) (sym seen)
          (subst (EachIsExactlyEnded p stands terms e s facts passed here (paths_view c.loop-path.yielded ++ path_view c.in-Some.path ∷ [])) (sym pushed)
          (with_last (IsExactlyEnded p stands terms e s facts passed here) (paths_view c.loop-path.yielded) (path_view c.in-Some.path) (nexts_view c.loop-path.nexts) (next_view n) c.loop-path.invariant.exactly c.in_ok-end_one.ensures.exact));
      surely = subst (λ ps. EachEndsSurely g.M.SymMemory.plain (IsPlainMemory g.M.Local.LocalMemory.memory g.M.SymMemory.keeps_plain g.M.SymMemory.terms) (state_view c.args.state.now) e ps (nexts_view c.push.new.self)) (sym seen)
          (subst (EachEndsSurely g.M.SymMemory.plain (IsPlainMemory g.M.Local.LocalMemory.memory g.M.SymMemory.keeps_plain g.M.SymMemory.terms) (state_view c.args.state.now) e (paths_view c.loop-path.yielded ++ path_view c.in-Some.path ∷ [])) (sym pushed)
          (with_last (EndsSurely g.M.SymMemory.plain (IsPlainMemory g.M.Local.LocalMemory.memory g.M.SymMemory.keeps_plain g.M.SymMemory.terms) (state_view c.args.state.now) e) (paths_view c.loop-path.yielded) (path_view c.in-Some.path) (nexts_view c.loop-path.nexts) (next_view n) c.loop-path.invariant.surely c.in_ok-end_one.ensures.plain));
      asked = subst (λ ps. EachEndAsks p e ps (nexts_view c.push.new.self)) (sym seen)
          (subst (EachEndAsks p e (paths_view c.loop-path.yielded ++ path_view c.in-Some.path ∷ [])) (sym pushed)
          (with_last (EndAsks p e) (paths_view c.loop-path.yielded) (path_view c.in-Some.path) (nexts_view c.loop-path.nexts) (next_view n) c.loop-path.invariant.asked c.in_ok-end_one.ensures.asked));
    }

pub returns-clause-next : goal.returns-clause-next
returns-clause-next g c =
    let none : into_iter_items c.loop-path.path-iterator ≡ [] = nil_from_length (into_iter_items c.loop-path.path-iterator) (sym c.loop-path.invariant.counted ∙ c.in-None.ensures.steps.0) in
    subst (λ ps. EachIsEnded (prog_view c.args.prog.now) g.M.SymMemory.stands g.M.SymMemory.terms (entry_view c.args.spec.now c.args.entered.now) (state_view c.args.state.now) (facts_view c.args.preds.now) (passed_by_view c.args.passed.now) (paths_view ps) (nexts_view c.loop-path.nexts))
    (sym (c.loop-path.invariant.rest ∙ ap (λ xs. c.loop-path.yielded ++ xs) none ∙ append-nil c.loop-path.yielded)) c.loop-path.invariant.ended

pub returns-clause-exact : goal.returns-clause-exact
returns-clause-exact g c =
    let none : into_iter_items c.loop-path.path-iterator ≡ [] = nil_from_length (into_iter_items c.loop-path.path-iterator) (sym c.loop-path.invariant.counted ∙ c.in-None.ensures.steps.0) in
    subst (λ ps. EachIsExactlyEnded (prog_view c.args.prog.now) g.M.SymMemory.stands g.M.SymMemory.terms (entry_view c.args.spec.now c.args.entered.now) (state_view c.args.state.now) (facts_view c.args.preds.now) (passed_by_view c.args.passed.now) c.args.here.now (paths_view ps) (nexts_view c.loop-path.nexts))
    (sym (c.loop-path.invariant.rest ∙ ap (λ xs. c.loop-path.yielded ++ xs) none ∙ append-nil c.loop-path.yielded)) c.loop-path.invariant.exactly

pub returns-clause-plain : goal.returns-clause-plain
returns-clause-plain g c =
    let none : into_iter_items c.loop-path.path-iterator ≡ [] = nil_from_length (into_iter_items c.loop-path.path-iterator) (sym c.loop-path.invariant.counted ∙ c.in-None.ensures.steps.0) in
    subst (λ ps. EachEndsSurely g.M.SymMemory.plain (IsPlainMemory g.M.Local.LocalMemory.memory g.M.SymMemory.keeps_plain g.M.SymMemory.terms) (state_view c.args.state.now) (entry_view c.args.spec.now c.args.entered.now) (paths_view ps) (nexts_view c.loop-path.nexts))
    (sym (c.loop-path.invariant.rest ∙ ap (λ xs. c.loop-path.yielded ++ xs) none ∙ append-nil c.loop-path.yielded)) c.loop-path.invariant.surely

pub returns-clause-asked : goal.returns-clause-asked
returns-clause-asked g c =
    let none : into_iter_items c.loop-path.path-iterator ≡ [] = nil_from_length (into_iter_items c.loop-path.path-iterator) (sym c.loop-path.invariant.counted ∙ c.in-None.ensures.steps.0) in
    subst (λ ps. EachEndAsks (prog_view c.args.prog.now) (entry_view c.args.spec.now c.args.entered.now) (paths_view ps) (nexts_view c.loop-path.nexts))
    (sym (c.loop-path.invariant.rest ∙ ap (λ xs. c.loop-path.yielded ++ xs) none ∙ append-nil c.loop-path.yielded)) c.loop-path.invariant.asked
