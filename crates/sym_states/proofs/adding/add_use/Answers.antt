use Rattle.std.proofs.Common.{[], ◌∷◌, refl, sym, subst}
use Rattle.std.specs.Option.{option_map}
use Rattle.gil_syntax.specs.Pure.{uses}
use Rattle.gil_syntax.specs.View.{pred_use_view}
use Rattle.mem_model.specs.CoreNames.{core_of}
use Rattle.sym_evaluation.specs.View.{store_view}
use Rattle.sym_states.specs.Producing.{AreArguments, AreArgumentsIfAny, HaveNoValues, AddsToEach}
use Rattle.sym_states.specs.View.{state_view, arguments_view, production_view}
use Rattle.sym_states.proofs.ArgumentLaws.{takes_both}
use Rattle.sym_states.proofs.FactItems.{never_valued}
use Rattle.sym_states.proofs.UseItems.{adds_use}
use Rattle.sym_states.proofs.Values.{ok_to}
use Rattle.sym_states.proofs.adding.add_use.Goals as goal

pub add_predicate-requires : goal.add_predicate-requires
add_predicate-requires g c core named =
    let bs = store_view c.args.store.now in
    let u = pred_use_view c.args.used.now in
    let are : AreArguments bs u (arguments_view c.in-Some.arguments) = subst (λ o. AreArgumentsIfAny bs u (option_map arguments_view o)) c.in-Some.is c.in_ok-arguments.ensures in
    takes_both g.M.Local.LocalMemory.memory bs u core (arguments_view c.in-Some.arguments) named c.requires.1 are

pub returns-in-Some : goal.returns-in-Some
returns-in-Some g c =
    let bs = store_view c.args.store.now in
    let u = pred_use_view c.args.used.now in
    let s = state_view c.args.state in
    let a = arguments_view c.in-Some.arguments in
    let are : AreArguments bs u a = subst (λ o. AreArgumentsIfAny bs u (option_map arguments_view o)) c.in-Some.is c.in_ok-arguments.ensures in
    ok_to c.add_predicate.result _ (λ p. AddsToEach g.M.Local.LocalMemory.memory g.M.SymMemory.stands g.M.SymMemory.terms g.M.SymMemory.kept g.M.SymMemory.keeps_plain g.M.SymMemory.keeps_narrow bs (uses u) (s ∷ []) (production_view p))
    (λ p is. adds_use g.M.Local.LocalMemory.memory g.M.SymMemory.stands g.M.SymMemory.terms g.M.SymMemory.kept g.M.SymMemory.keeps_plain g.M.SymMemory.keeps_narrow bs u s a are (production_view p) (core_of u.pred) refl is) c.add_predicate.ensures

pub returns-in-None : goal.returns-in-None
returns-in-None g c =
    let bs = store_view c.args.store.now in
    let u = pred_use_view c.args.used.now in
    let s = state_view c.args.state in
    let none : HaveNoValues bs u = subst (λ o. AreArgumentsIfAny bs u (option_map arguments_view o)) c.in-None.is c.in_ok-arguments.ensures in
    subst (AddsToEach g.M.Local.LocalMemory.memory g.M.SymMemory.stands g.M.SymMemory.terms g.M.SymMemory.kept g.M.SymMemory.keeps_plain g.M.SymMemory.keeps_narrow bs (uses u) (s ∷ [])) (sym c.new.ensures) (never_valued g.M.Local.LocalMemory.memory g.M.SymMemory.stands g.M.SymMemory.terms g.M.SymMemory.kept g.M.SymMemory.keeps_plain g.M.SymMemory.keeps_narrow bs u s none)
