use Rattle.std.proofs.Common.{◌≡◌, ◌+◌, [], ◌∷◌, ◌++◌, take, sym, ap, subst, ◌∙◌}
use Rattle.std.proofs.lemmas.List.{take_more, map-append}
use Rattle.pure_terms.specs.View.{atoms_view}
use Rattle.sym_model.specs.Alternatives.{alternatives_view}
use Rattle.sym_states.specs.View.{state_view, states_view}
use Rattle.footprint.specs.Uses.{AreCopiesUnder}
use Rattle.footprint.proofs.UseLaws.{copies_more}
use Rattle.footprint.proofs.uses.copies_under.Goals as goal

pub loop-conds-preserved : goal.loop-conds-preserved
loop-conds-preserved g c =
    let xs = c.as_slice-conds-items.result.now in
    let i = c.loop-conds.conds-index in
    let more = c.conds-item.result in
    let s = state_view c.args.state.now in
    let Copies = AreCopiesUnder g.M.SymMemory.stands g.M.SymMemory.terms g.M.SymMemory.kept s in
    let seen : alternatives_view (take (i + 1) xs) ≡ alternatives_view (take i xs) ++ atoms_view more ∷ [] = ap alternatives_view (take_more xs i more c.loop-conds-test.true ∙ ap (λ y. take i xs ++ y ∷ []) (sym c.conds-item.is)) ∙ map-append atoms_view (take i xs) (more ∷ []) in
    subst (λ rs. Copies (alternatives_view (take (i + 1) xs)) rs) (sym (ap states_view c.in_ok-push.ensures.ok ∙ map-append state_view c.loop-conds.copies (c.in_ok-copy.copy ∷ [])))
    (subst (λ alts. Copies alts (states_view c.loop-conds.copies ++ state_view c.in_ok-copy.copy ∷ [])) (sym seen)
    (copies_more g.M.SymMemory.stands g.M.SymMemory.terms g.M.SymMemory.kept s (alternatives_view (take i xs)) (states_view c.loop-conds.copies) (atoms_view more) (state_view c.in_ok-copy.copy) c.loop-conds.invariant c.in_ok-copy.ensures))
