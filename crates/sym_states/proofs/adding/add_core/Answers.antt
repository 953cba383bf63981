use Rattle.sym_model.specs.View.{branches_view}
use Rattle.sym_states.specs.Producing.{AddsKey}
use Rattle.sym_states.specs.View.{state_view, arguments_view, production_view}
use Rattle.sym_states.proofs.Plainness.{produces_plain}
use Rattle.sym_states.proofs.Values.{ok_to}
use Rattle.sym_states.proofs.adding.add_core.Goals as goal

pub returns : goal.returns
returns g c =
    ok_to c.divide.result _ (λ p. AddsKey g.M.Local.LocalMemory.memory g.M.SymMemory.stands g.M.SymMemory.terms g.M.SymMemory.kept g.M.SymMemory.keeps_plain g.M.SymMemory.keeps_narrow c.args.core.now (state_view c.args.state) (arguments_view c.args.arguments) (production_view p))
    (λ p is. record {
      branches = branches_view c.in_ok-branches.branches;
      are = is;
      laws = c.in_ok-branches.ensures.laws;
      forms = c.in_ok-branches.ensures.forms;
      still_kept = c.in_ok-branches.ensures.kept;
      still_plain = λ keeps. produces_plain g.M.Local.LocalMemory.memory g.M.SymMemory.terms g.M.SymMemory.plain g.met.M.SymMemory.plain_is_said c.args.core.now (arguments_view c.args.arguments) c.args.state.memory (branches_view c.in_ok-branches.branches) (c.in_ok-branches.ensures.plain keeps);
      still_narrow = c.in_ok-branches.ensures.narrow;
    })
    c.divide.ensures
