use Rattle.std.proofs.Common.{rules, ◌≡◌, ◌+◌, [], ◌∷◌, ◌++◌, length, ap, sym, subst, ◌∙◌, arith}
use Rattle.std.specs.Vec.Iter.{into_iter_items}
use Rattle.std.proofs.lemmas.List.{append-nil, map-append, nil_from_length}
use Rattle.gil_syntax.specs.Program.{prog_view}
use Rattle.gil_syntax.specs.View.{spec_view}
use Rattle.footprint.specs.View.{match_view, matches_view}
use Rattle.sym_engine.proofs.Settled.{rest_more, over_next}
use Rattle.checked_paths.specs.View.{checking_view, entry_view, nexts_view}
use Rattle.call_rows.specs.Gathering.{GathersNexts}
use Rattle.call_rows.specs.Matches.{AnswersMatch, MatchOver}
use Rattle.call_rows.proofs.GatheringLaws.{gathers_last}
use Rattle.call_rows.specs.Asked.{AddsToMatch}
use Rattle.call_rows.proofs.matches.matches_nexts.Goals as goal

pub loop-found-init : goal.loop-found-init
loop-found-init g c = record {
  counted = search rules;
  rest = search rules;
  answered = ap nexts_view c.new-nexts.ensures;
  asked = ap nexts_view c.new-nexts.ensures;
}

pub match_nexts-requires-clause-over : goal.match_nexts-requires-clause-over
match_nexts-requires-clause-over g c =
    over_next (MatchOver g.M.SymMemory.terms (entry_view c.args.spec.now c.args.entered.now) (checking_view c.args.checking.now).path.given) match_view c.args.matches c.loop-found.yielded (into_iter_items c.loop-found.found-iterator) (into_iter_items c.next.new.self)
    c.in-Some.found c.loop-found.invariant.rest c.in-Some.ensures.steps.0 c.requires.over

pub loop-found-preserved : goal.loop-found-preserved
loop-found-preserved g c =
    let R = AnswersMatch (prog_view c.args.prog.now) g.M.Local.LocalMemory.memory g.M.SymMemory.stands g.M.SymMemory.terms g.M.SymMemory.kept (entry_view c.args.spec.now c.args.entered.now) (spec_view c.args.used.now) (checking_view c.args.checking.now) c.args.here.now in
    let T = AddsToMatch (prog_view c.args.prog.now) (entry_view c.args.spec.now c.args.entered.now) (spec_view c.args.used.now) in
    let longer : length (into_iter_items c.loop-found.found-iterator) ≡ length (into_iter_items c.next.new.self) + 1 = ap length c.in-Some.ensures.steps.0 ∙ omega arith in
    let seen = map-append match_view c.loop-found.yielded (c.in-Some.found ∷ []) in
    record {
      counted = omega (arith, longer, c.in-Some.ensures.steps.1, c.loop-found.invariant.counted);
      rest = rest_more c.args.matches c.loop-found.yielded (into_iter_items c.loop-found.found-iterator) (into_iter_items c.next.new.self) c.in-Some.found c.loop-found.invariant.rest c.in-Some.ensures.steps.0;
      answered = subst (λ qs. GathersNexts R qs (nexts_view c.in_ok-nexts.nexts)) (sym seen)
          (subst (GathersNexts R (matches_view c.loop-found.yielded ++ match_view c.in-Some.found ∷ [])) (sym c.in_ok-nexts.ensures)
          (gathers_last R (matches_view c.loop-found.yielded) (match_view c.in-Some.found) (nexts_view c.loop-found.nexts) (nexts_view c.in_ok-more.more) c.loop-found.invariant.answered c.in_ok-more.ensures.answers));
      asked = subst (λ qs. GathersNexts T qs (nexts_view c.in_ok-nexts.nexts)) (sym seen)
          (subst (GathersNexts T (matches_view c.loop-found.yielded ++ match_view c.in-Some.found ∷ [])) (sym c.in_ok-nexts.ensures)
          (gathers_last T (matches_view c.loop-found.yielded) (match_view c.in-Some.found) (nexts_view c.loop-found.nexts) (nexts_view c.in_ok-more.more) c.loop-found.invariant.asked c.in_ok-more.ensures.asked));
    }

pub returns-clause-answers : goal.returns-clause-answers
returns-clause-answers g c =
    let R = AnswersMatch (prog_view c.args.prog.now) g.M.Local.LocalMemory.memory g.M.SymMemory.stands g.M.SymMemory.terms g.M.SymMemory.kept (entry_view c.args.spec.now c.args.entered.now) (spec_view c.args.used.now) (checking_view c.args.checking.now) c.args.here.now in
    let none : into_iter_items c.loop-found.found-iterator ≡ [] = nil_from_length (into_iter_items c.loop-found.found-iterator) (sym c.loop-found.invariant.counted ∙ c.in-None.ensures.steps.0) in
    subst (λ qs. GathersNexts R (matches_view qs) (nexts_view c.loop-found.nexts))
    (sym (c.loop-found.invariant.rest ∙ ap (λ xs. c.loop-found.yielded ++ xs) none ∙ append-nil c.loop-found.yielded)) c.loop-found.invariant.answered

pub returns-clause-asked : goal.returns-clause-asked
returns-clause-asked g c =
    let T = AddsToMatch (prog_view c.args.prog.now) (entry_view c.args.spec.now c.args.entered.now) (spec_view c.args.used.now) in
    let none : into_iter_items c.loop-found.found-iterator ≡ [] = nil_from_length (into_iter_items c.loop-found.found-iterator) (sym c.loop-found.invariant.counted ∙ c.in-None.ensures.steps.0) in
    subst (λ qs. GathersNexts T (matches_view qs) (nexts_view c.loop-found.nexts))
    (sym (c.loop-found.invariant.rest ∙ ap (λ xs. c.loop-found.yielded ++ xs) none ∙ append-nil c.loop-found.yielded)) c.loop-found.invariant.asked
