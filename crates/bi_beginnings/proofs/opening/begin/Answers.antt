use Rattle.std.proofs.Common.{IfSome, IsSome}
use Rattle.gil_syntax.specs.Program.{prog_view}
use Rattle.gil_syntax.specs.View.{proc_view}
use Rattle.pure_terms.specs.declared.queries.Query.{Query}
use Rattle.pure_terms.specs.Fragment.{InFragment}
use Rattle.pure_terms.specs.View.{atoms_view}
use Rattle.sym_model.specs.Lists.{Each, OneOf}
use Rattle.sym_paths.specs.View.{paths_view}
use Rattle.sym_states.proofs.Values.{ok_to}
use Rattle.sym_step.specs.Stepping.{MayStep}
use Rattle.sym_states.specs.View.{states_view}
use Rattle.bi_beginnings.specs.Beginnings.{CoversBeginning}
use Rattle.bi_beginnings.specs.Narrowly.{begun_bound}
use Rattle.bi_beginnings.specs.Opening.{IsAskedThere, IsQueryOf}
use Rattle.bi_beginnings.specs.View.{beginning_view}
use Rattle.bi_beginnings.proofs.Covering.{all_opened}
use Rattle.bi_beginnings.proofs.Openings.{may_step_each, if_some_to, asked_there, ok_to_both, nothing_undecided}
use Rattle.bi_beginnings.proofs.Params.{params_once, params_named}
use Rattle.bi_beginnings.proofs.opening.begin.Goals as goal

pub returns-clause-step : goal.returns-clause-step
returns-clause-step g c =
    let p = prog_view c.args.prog.now in
    ok_to c.enter_each.result _ (λ o. Each (MayStep p g.M.SymMemory.terms) (paths_view o.starts))
    (λ o starts. may_step_each g.M.SymMemory.stands g.M.SymMemory.terms g.M.SymMemory.kept (proc_view c.args.proc.now) p c.args.prog.now.valid c.requires.found (paths_view o.starts) starts)
    c.enter_each.ensures.starts

pub returns-clause-cover : goal.returns-clause-cover
returns-clause-cover g c =
    let p = prog_view c.args.prog.now in
    let q = proc_view c.args.proc.now in
    let b = beginning_view c.args.beginning.now in
    let stands = g.M.SymMemory.stands in
    let ss = states_view c.in_ok-states.states in
    let entered = c.in_ok-states.ensures.cover (params_named p q.name q c.args.prog.now.well_made c.requires.found) (params_once p q.name q c.args.prog.now.valid c.requires.found) in
    ok_to c.enter_each.result _ (λ o. CoversBeginning g.M.Local.LocalMemory.memory stands b (IsSome o.undecided) (paths_view o.starts))
    (λ o opened. all_opened stands g.M.Local.LocalMemory.memory b ss (IsSome o.undecided) (paths_view o.starts) entered opened)
    c.enter_each.ensures.cover

pub returns-clause-exact : goal.returns-clause-exact
returns-clause-exact g c =
    let p = prog_view c.args.prog.now in
    let q = proc_view c.args.proc.now in
    c.enter_each.ensures.exact (beginning_view c.args.beginning.now)
    (c.in_ok-states.ensures.exact (params_named p q.name q c.args.prog.now.well_made c.requires.found) (params_once p q.name q c.args.prog.now.valid c.requires.found))

pub returns-clause-bare : goal.returns-clause-bare
returns-clause-bare g c = λ bare. c.enter_each.ensures.bare (c.in_ok-states.ensures.bare bare)

pub returns-clause-narrow : goal.returns-clause-narrow
returns-clause-narrow g c = λ keep n is within.
    let b = beginning_view c.args.beginning.now in
    c.enter_each.ensures.narrow (begun_bound n b) within (c.in_ok-states.ensures.narrow keep n is)

pub returns-clause-asked : goal.returns-clause-asked
returns-clause-asked g c =
    let p = prog_view c.args.prog.now in
    let q = proc_view c.args.proc.now in
    let b = beginning_view c.args.beginning.now in
    let stands = g.M.SymMemory.stands in
    let terms = g.M.SymMemory.terms in
    let kept = g.M.SymMemory.kept in
    let ss = states_view c.in_ok-states.states in
    let entered = c.in_ok-states.ensures.origin (params_named p q.name q c.args.prog.now.well_made c.requires.found) (params_once p q.name q c.args.prog.now.valid c.requires.found) in
    let Asked = λ (x : Query). IsAskedThere stands terms kept q.params b x.place x.path x.vars (atoms_view x.given) (atoms_view x.query) in
    ok_to c.enter_each.result _ (λ o. IfSome o.undecided Asked)
    (λ o asked. if_some_to (λ x. OneOf (λ s. IsQueryOf b s x) ss) Asked o.undecided
    (λ x one. asked_there stands terms kept q.params b ss x c.in_ok-states.ensures.table entered one) asked)
    c.enter_each.ensures.asked

pub returns-clause-decided : goal.returns-clause-decided
returns-clause-decided g c = λ no_use no_condition.
    let p = prog_view c.args.prog.now in
    let q = proc_view c.args.proc.now in
    let b = beginning_view c.args.beginning.now in
    let stands = g.M.SymMemory.stands in
    let terms = g.M.SymMemory.terms in
    let kept = g.M.SymMemory.kept in
    let ss = states_view c.in_ok-states.states in
    let entered = c.in_ok-states.ensures.origin (params_named p q.name q c.args.prog.now.well_made c.requires.found) (params_once p q.name q c.args.prog.now.valid c.requires.found) in
    ok_to_both c.enter_each.result (λ o. IfSome o.undecided (λ x. OneOf (λ s. IsQueryOf b s x) ss)) (λ o. IfSome o.undecided (λ x. ¬ InFragment (atoms_view x.query))) (λ o. ¬ IsSome o.undecided)
    (λ o asked outside. nothing_undecided stands terms kept q.params b no_use no_condition ss o.undecided c.in_ok-states.ensures.table entered asked outside)
    c.enter_each.ensures.asked c.enter_each.ensures.undecided
