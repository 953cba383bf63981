use Rattle.std.proofs.Common.{[], ◌∷◌, ◌++◌, sym, subst}
use Rattle.std.proofs.lemmas.List.{map-append}
use Rattle.gil_syntax.specs.View.{item_view}
use Rattle.sym_evaluation.specs.View.{store_view}
use Rattle.sym_states.specs.Producing.{AddsToEach}
use Rattle.sym_states.specs.View.{state_view, states_view, production_view}
use Rattle.sym_states.proofs.Joining.{adds_to_none, adds_to_both}
use Rattle.sym_states.proofs.producing.add_to_each.Goals as goal

pub loop-state-init : goal.loop-state-init
loop-state-init g c =
    let bs = store_view c.args.store.now in
    let item = item_view c.args.item.now in
    subst (AddsToEach g.M.Local.LocalMemory.memory g.M.SymMemory.stands g.M.SymMemory.terms g.M.SymMemory.kept g.M.SymMemory.keeps_plain g.M.SymMemory.keeps_narrow bs item []) (sym c.new-production.ensures) (adds_to_none g.M.Local.LocalMemory.memory g.M.SymMemory.stands g.M.SymMemory.terms g.M.SymMemory.kept g.M.SymMemory.keeps_plain g.M.SymMemory.keeps_narrow bs item)

pub loop-state-preserved : goal.loop-state-preserved
loop-state-preserved g c =
    let bs = store_view c.args.store.now in
    let item = item_view c.args.item.now in
    let before = states_view c.loop-state.yielded in
    let s = state_view c.in-Some.state in
    let first = production_view c.loop-state.production in
    let second = production_view c.in_ok-added.added in
    subst (λ ss. AddsToEach g.M.Local.LocalMemory.memory g.M.SymMemory.stands g.M.SymMemory.terms g.M.SymMemory.kept g.M.SymMemory.keeps_plain g.M.SymMemory.keeps_narrow bs item ss (production_view c.in_ok-production.production)) (sym (map-append state_view c.loop-state.yielded (c.in-Some.state ∷ [])))
    (subst (AddsToEach g.M.Local.LocalMemory.memory g.M.SymMemory.stands g.M.SymMemory.terms g.M.SymMemory.kept g.M.SymMemory.keeps_plain g.M.SymMemory.keeps_narrow bs item (before ++ s ∷ [])) (sym c.in_ok-production.ensures)
    (adds_to_both g.M.Local.LocalMemory.memory g.M.SymMemory.stands g.M.SymMemory.terms g.M.SymMemory.kept g.M.SymMemory.keeps_plain g.M.SymMemory.keeps_narrow bs item before (s ∷ []) first second c.loop-state.invariant c.in_ok-added.ensures))
