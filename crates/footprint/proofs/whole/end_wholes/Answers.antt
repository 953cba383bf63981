use Rattle.std.proofs.Common.{[], ◌∷◌, ◌++◌, sym, subst}
use Rattle.std.proofs.lemmas.List.{map-append}
use Rattle.footprint.specs.Spreading.{Gathers}
use Rattle.footprint.specs.View.{match_view, matches_view, leaves_view}
use Rattle.footprint.specs.Whole.{EndsWhole}
use Rattle.footprint.proofs.Parts.{gathers_more}
use Rattle.footprint.proofs.whole.end_wholes.Goals as goal

pub loop-found-preserved : goal.loop-found-preserved
loop-found-preserved g c =
    let P = EndsWhole g.M.SymMemory.stands in
    let m = match_view c.in-Some.found in
    subst (λ xs. Gathers P xs (leaves_view c.in_ok-leaves.leaves)) (sym (map-append match_view c.loop-found.yielded (c.in-Some.found ∷ [])))
    (subst (Gathers P (matches_view c.loop-found.yielded ++ m ∷ [])) (sym c.in_ok-leaves.ensures)
    (gathers_more P (matches_view c.loop-found.yielded) m (leaves_view c.loop-found.leaves) (leaves_view c.in_ok-more.more) c.loop-found.invariant c.in_ok-more.ensures))
