use Rattle.gil_syntax.specs.View.{pred_use_view}
use Rattle.pure_terms.specs.View.{terms_view}
use Rattle.sym_evaluation.specs.View.{store_view}
use Rattle.sym_model.specs.View.{branches_view}
use Rattle.sym_states.specs.View.{state_view}
use Rattle.sym_states.proofs.Values.{ok_to}
use Rattle.footprint.specs.Coming.{CoreComesFrom}
use Rattle.footprint.specs.Items.{AsksIns, CoreGives, CoreStops}
use Rattle.footprint.specs.Leaves.{AreLeaves}
use Rattle.footprint.specs.Plainly.{IsPlainMemory, CoreStaysPlain}
use Rattle.footprint.specs.View.{leaves_view}
use Rattle.footprint.proofs.CoreItems.{core_leaves}
use Rattle.footprint.proofs.CoreOrigins.{core_from}
use Rattle.footprint.proofs.PlainUses.{core_plain}
use Rattle.footprint.proofs.items.match_core.Goals as goal

pub returns-clause-says : goal.returns-clause-says
returns-clause-says g c =
    let s = state_view c.args.state.now in
    let bs = store_view c.args.store.now in
    let u = pred_use_view c.args.used.now in
    let ins = terms_view c.args.ins.now in
    ok_to c.match_branches.result _ (λ r. AreLeaves g.M.SymMemory.stands g.M.SymMemory.terms g.M.SymMemory.kept s (AsksIns g.M.SymMemory.stands g.M.SymMemory.terms s bs ins) (CoreGives c.args.scope.now u ins) (CoreStops c.args.number c.args.scope.now u ins) (leaves_view r)
    × CoreStaysPlain (IsPlainMemory g.M.Local.LocalMemory.memory g.M.SymMemory.keeps_plain g.M.SymMemory.terms) u ins bs s (leaves_view r))
    (λ r gathers. (
      core_leaves g.M.Local.LocalMemory.memory g.M.SymMemory.stands g.M.SymMemory.terms g.M.SymMemory.kept c.args.number c.args.scope.now u s bs ins c.requires.takes c.requires.over c.requires.store_over c.requires.ins_over
          (branches_view c.in_ok-branches.branches) (leaves_view r) c.in_ok-branches.ensures.laws c.in_ok-branches.ensures.kept gathers,
      core_plain g.M.Local.LocalMemory.memory g.M.SymMemory.keeps_plain g.M.SymMemory.terms c.args.number c.args.scope.now u s bs c.requires.store_over g.M.SymMemory.plain g.met.M.SymMemory.plain_is_said c.requires.over ins c.requires.ins_over
          (branches_view c.in_ok-branches.branches) (leaves_view r) c.in_ok-branches.ensures.plain c.in_ok-branches.ensures.laws.variables gathers,
    )) c.match_branches.ensures

pub returns-clause-origin : goal.returns-clause-origin
returns-clause-origin g c =
    let s = state_view c.args.state.now in
    let bs = store_view c.args.store.now in
    let u = pred_use_view c.args.used.now in
    let ins = terms_view c.args.ins.now in
    ok_to c.match_branches.result _ (λ r. CoreComesFrom g.M.SymMemory.terms c.args.scope.now u ins bs s (leaves_view r))
    (λ r gathers. core_from g.M.SymMemory.terms c.args.scope.now c.args.number u bs s ins (branches_view c.in_ok-branches.branches) (leaves_view r) c.in_ok-branches.ensures.laws.own c.in_ok-branches.ensures.laws.made gathers) c.match_branches.ensures
