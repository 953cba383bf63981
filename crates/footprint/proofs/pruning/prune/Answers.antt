use Rattle.std.proofs.Common.{◌≡◌, ◌+◌, [], ◌∷◌, ◌++◌, length, sym, ap, subst, ◌∙◌, arith}
use Rattle.std.proofs.lemmas.List.{map-append}
use Rattle.std.specs.Vec.Iter.{into_iter_items}
use Rattle.pure_terms.specs.Meaning.{AreOver}
use Rattle.sym_states.proofs.Values.{ok_to}
use Rattle.footprint.specs.Assertions.{PrunesMatch, Prunes}
use Rattle.footprint.specs.Spreading.{joined, Gathers}
use Rattle.footprint.specs.View.{match_view, matches_view, leaves_view}
use Rattle.footprint.proofs.Loops.{taken_more, taken_all, taken_has}
use Rattle.footprint.proofs.Parts.{gathers_more}
use Rattle.footprint.proofs.pruning.prune.Goals as goal

pub prune_if-requires : goal.prune_if-requires
prune_if-requires g c =
    taken_has (λ m. AreOver m.state.vars m.state.conds) match_view c.args.leaves.matched c.loop-found.yielded (into_iter_items c.loop-found.found-iterator) (into_iter_items c.next.new.self) c.in-Some.found c.loop-found.invariant.rest c.in-Some.ensures.steps.0 c.requires

pub loop-found-preserved : goal.loop-found-preserved
loop-found-preserved g c =
    let P = PrunesMatch g.M.SymMemory.stands g.M.SymMemory.terms g.M.SymMemory.kept in
    let before = matches_view c.loop-found.yielded in
    let m = match_view c.in-Some.found in
    let longer : length (into_iter_items c.loop-found.found-iterator) ≡ length (into_iter_items c.next.new.self) + 1 = ap length c.in-Some.ensures.steps.0 ∙ omega arith in
    record {
      counted = omega (arith, longer, c.in-Some.ensures.steps.1, c.loop-found.invariant.counted);
      rest = taken_more c.args.leaves.matched c.loop-found.yielded (into_iter_items c.loop-found.found-iterator) (into_iter_items c.next.new.self) c.in-Some.found c.loop-found.invariant.rest c.in-Some.ensures.steps.0;
      gathers = subst (λ ms. Gathers P ms (leaves_view c.in_ok-kept.kept)) (sym (map-append match_view c.loop-found.yielded (c.in-Some.found ∷ [])))
          (subst (Gathers P (before ++ m ∷ [])) (sym c.in_ok-kept.ensures)
          (gathers_more P before m (leaves_view c.loop-found.kept) (leaves_view c.in_ok-more.more) c.loop-found.invariant.gathers c.in_ok-more.ensures));
    }

pub returns : goal.returns
returns g c =
    let P = PrunesMatch g.M.SymMemory.stands g.M.SymMemory.terms g.M.SymMemory.kept in
    let kept = leaves_view c.loop-found.kept in
    let all : c.args.leaves.matched ≡ c.loop-found.yielded = taken_all c.args.leaves.matched c.loop-found.yielded (into_iter_items c.loop-found.found-iterator) c.loop-found.invariant.rest (sym c.loop-found.invariant.counted ∙ c.in-None.ensures.steps.0) in
    ok_to c.joined_with-2.result _ (λ r. Prunes g.M.SymMemory.stands g.M.SymMemory.terms g.M.SymMemory.kept (leaves_view c.args.leaves) (leaves_view r))
    (λ r is. (
      kept,
      (
        subst (λ ms. Gathers P (matches_view ms) kept) (sym all) c.loop-found.invariant.gathers,
        is ∙ ap (λ ms. joined (record { matched = matches_view ms; stopped = (leaves_view c.args.leaves).stopped; undecided = (leaves_view c.args.leaves).undecided }) kept) c.new.ensures,
      ),
    )) c.joined_with-2.ensures
