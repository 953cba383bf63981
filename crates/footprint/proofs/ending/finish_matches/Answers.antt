use Rattle.std.proofs.Common.{[], ◌∷◌, ◌++◌, sym, subst}
use Rattle.std.proofs.lemmas.List.{map-append}
use Rattle.gil_syntax.specs.View.{exprs_view}
use Rattle.sym_evaluation.specs.View.{store_view}
use Rattle.footprint.specs.Cases.{FinishesMatch}
use Rattle.footprint.specs.Spreading.{Gathers}
use Rattle.footprint.specs.View.{match_view, matches_view, leaves_view}
use Rattle.footprint.proofs.Parts.{gathers_more}
use Rattle.footprint.proofs.ending.finish_matches.Goals as goal

pub loop-found-preserved : goal.loop-found-preserved
loop-found-preserved g c =
    let P = FinishesMatch c.args.number c.args.scope.now (exprs_view c.args.outs.now) (store_view c.args.store.now) c.args.pred.now.outs in
    let m = match_view c.in-Some.found in
    subst (λ xs. Gathers P xs (leaves_view c.in_ok-leaves.leaves)) (sym (map-append match_view c.loop-found.yielded (c.in-Some.found ∷ [])))
    (subst (Gathers P (matches_view c.loop-found.yielded ++ m ∷ [])) (sym c.in_ok-leaves.ensures)
    (gathers_more P (matches_view c.loop-found.yielded) m (leaves_view c.loop-found.leaves) (leaves_view c.in_ok-more.more) c.loop-found.invariant c.in_ok-more.ensures))
