use Rattle.std.proofs.Common.{IfOk, sym, subst, ◌∙◌}
use Rattle.sym_states.specs.Producing.{AddsByName}
use Rattle.sym_states.specs.View.{state_view, arguments_view, production_view}
use Rattle.sym_states.proofs.adding.add_predicate.Goals as goal

pub add_core-requires : goal.add_core-requires
add_core-requires g c = c.requires _ (sym c.from_name.ensures ∙ c.in-Some.is)

pub returns-in-Some : goal.returns-in-Some
returns-in-Some g c =
    subst (λ o. IfOk c.add_core.result (λ p. AddsByName g.M.Local.LocalMemory.memory g.M.SymMemory.stands g.M.SymMemory.terms g.M.SymMemory.kept g.M.SymMemory.keeps_plain g.M.SymMemory.keeps_narrow o c.args.pred.now (state_view c.args.state) (arguments_view c.args.arguments) (production_view p)))
    (sym c.in-Some.is ∙ c.from_name.ensures) c.add_core.ensures

pub returns-in-None : goal.returns-in-None
returns-in-None g c =
    subst (λ o. IfOk c.add_fact.result (λ p. AddsByName g.M.Local.LocalMemory.memory g.M.SymMemory.stands g.M.SymMemory.terms g.M.SymMemory.kept g.M.SymMemory.keeps_plain g.M.SymMemory.keeps_narrow o c.args.pred.now (state_view c.args.state) (arguments_view c.args.arguments) (production_view p)))
    (sym c.in-None.is ∙ c.from_name.ensures) c.add_fact.ensures
