use Rattle.std.proofs.Common.{◌<◌, length, sym, ap, ◌∙◌, arith}
use Rattle.sym_evaluation.specs.declared.store.Binding.{Binding}
use Rattle.sym_evaluation.specs.Pure.{term_at}
use Rattle.sym_evaluation.specs.View.{bindings_view}
use Rattle.sym_evaluation.proofs.Placed.{set_here, set_new, place_below}
use Rattle.sym_evaluation.proofs.store.SymStore.set.Goals as goal

pub index_mut-requires : goal.index_mut-requires
index_mut-requires c =
    let below : c.in-Some.place < length c.args.self.now.bindings.items
    = place_below c.args.self.now.bindings.items c.args.name c.in-Some.place (sym c.place_of.ensures ∙ c.in-Some.is) in
    omega (arith, below, c.args.self.now.bindings.ok)

pub returns-in-Some-clause-ok : goal.returns-in-Some-clause-ok
returns-in-Some-clause-ok c x =
    let new : Binding = record { name = c.args.name; term = c.args.term } in
    set_here c.args.self.now.bindings.items c.in-Some.place new x (sym c.place_of.ensures ∙ c.in-Some.is)

pub returns-in_ok-push-in-None-clause-ok : goal.returns-in_ok-push-in-None-clause-ok
returns-in_ok-push-in-None-clause-ok c x =
    let new : Binding = record { name = c.args.name; term = c.args.term } in
    ap (λ bs. term_at (bindings_view bs) x) c.in_ok-push-in-None.ensures.items
    ∙ set_new c.args.self.now.bindings.items new x (sym c.place_of.ensures ∙ c.in-None.is)
