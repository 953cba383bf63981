use Rattle.std.proofs.Common.{◌<◌, ◌≤◌, ◌++◌, arith, sym, subst}
use Rattle.std.proofs.lemmas.Result.{IfOk-weaker}
use Rattle.gil_syntax.specs.Program.{prog_view}
use Rattle.gil_syntax.specs.View.{spec_view}
use Rattle.checked_paths.specs.View.{checking_view, entry_view, nexts_view}
use Rattle.spec_exploration.specs.Exploring.{AreTaken, exploration_view}
use Rattle.spec_exploration.specs.Inside.{StaysInside}
use Rattle.spec_exploration.specs.Plain.{StaysPlain}
use Rattle.spec_exploration.proofs.Inside.{taken_inside}
use Rattle.spec_exploration.proofs.Plainness.{cut_plain, taken_plain}
use Rattle.spec_exploration.proofs.Reaching.{cut_reached, step_reached}
use Rattle.spec_exploration.proofs.Taking.{cut_settled, cut_placed, step_settled, step_placed}
use Rattle.spec_exploration.proofs.exploration.advance.Goals as goal

pub returns-then-checking-bound-clause-settled :
    goal.returns-then-checking-bound-clause-settled
returns-then-checking-bound-clause-settled g c =
    let M = g.M.SymMemory in
    let L = g.M.Local.LocalMemory in
    IfOk-weaker c.take_one.result _ _
    (λ after taken. cut_settled (prog_view c.args.prog.now) L.memory L.actions M.stands M.terms (entry_view c.args.spec.now c.args.entered.now) c.args.bound (exploration_view c.args.exploration) (exploration_view after) (checking_view c.args.checking) _ taken)
    c.take_one.ensures

pub returns-then-checking-bound-clause-placed :
    goal.returns-then-checking-bound-clause-placed
returns-then-checking-bound-clause-placed g c =
    let M = g.M.SymMemory in
    let L = g.M.Local.LocalMemory in
    IfOk-weaker c.take_one.result _ _
    (λ after taken. cut_placed (prog_view c.args.prog.now) L.memory L.actions M.stands M.terms (entry_view c.args.spec.now c.args.entered.now) c.args.bound (exploration_view c.args.exploration) (exploration_view after) _ taken c.requires.placed)
    c.take_one.ensures

pub returns-then-checking-bound-clause-all_reached :
    goal.returns-then-checking-bound-clause-all_reached
returns-then-checking-bound-clause-all_reached g c =
    let M = g.M.SymMemory in
    let L = g.M.Local.LocalMemory in
    let x = checking_view c.args.checking in
    let late : c.args.bound ≤ x.path.steps = omega (arith, c.if-checking-bound.true) in
    IfOk-weaker c.take_one.result _ _
    (λ after taken. cut_reached (prog_view c.args.prog.now) L.memory L.actions M.stands M.terms (entry_view c.args.spec.now c.args.entered.now) c.args.bound g.met.M.SymMemory.meaning x c.requires.reached c.requires.may
    (exploration_view c.args.exploration) (exploration_view after) c.in_ok-cause.cause late c.in_ok-cause.ensures taken c.requires.all_reached)
    c.take_one.ensures

pub returns-clause-settled : goal.returns-clause-settled
returns-clause-settled g c =
    let M = g.M.SymMemory in
    let L = g.M.Local.LocalMemory in
    let x = checking_view c.args.checking in
    let ns = nexts_view c.in_ok-stepped.stepped.nexts in
    let early : x.path.steps < c.args.bound = omega (arith, c.if-checking-bound.false) in
    IfOk-weaker c.take.result _ _
    (λ after taken. step_settled (prog_view c.args.prog.now) L.memory L.actions M.stands M.terms (entry_view c.args.spec.now c.args.entered.now) c.args.bound (exploration_view c.args.exploration) (exploration_view after) x c.in_ok-stepped.stepped.uses ns c.in_ok-stepped.ensures.next
    (subst (λ a. AreTaken a ns (exploration_view after)) c.in_ok-exploration.ensures taken) early)
    c.take.ensures

pub returns-clause-placed : goal.returns-clause-placed
returns-clause-placed g c =
    let M = g.M.SymMemory in
    let L = g.M.Local.LocalMemory in
    let x = checking_view c.args.checking in
    let ns = nexts_view c.in_ok-stepped.stepped.nexts in
    IfOk-weaker c.take.result _ _
    (λ after taken. step_placed (prog_view c.args.prog.now) L.memory L.actions M.stands M.terms (entry_view c.args.spec.now c.args.entered.now) c.args.bound (exploration_view c.args.exploration) (exploration_view after) x c.in_ok-stepped.stepped.uses ns c.in_ok-stepped.ensures.next
    (subst (λ a. AreTaken a ns (exploration_view after)) c.in_ok-exploration.ensures taken) c.requires.placed)
    c.take.ensures

pub returns-clause-all_reached : goal.returns-clause-all_reached
returns-clause-all_reached g c =
    let M = g.M.SymMemory in
    let L = g.M.Local.LocalMemory in
    let x = checking_view c.args.checking in
    let ns = nexts_view c.in_ok-stepped.stepped.nexts in
    let early : x.path.steps < c.args.bound = omega (arith, c.if-checking-bound.false) in
    IfOk-weaker c.take.result _ _
    (λ after taken. step_reached (prog_view c.args.prog.now) L.memory L.actions M.stands M.terms (entry_view c.args.spec.now c.args.entered.now) c.args.bound g.met.M.SymMemory.meaning x c.requires.reached c.requires.may
    (exploration_view c.args.exploration) (exploration_view after) c.in_ok-stepped.stepped.uses ns early c.in_ok-stepped.ensures.next c.in_ok-stepped.ensures.exact c.in_ok-stepped.ensures.asked c.in_ok-stepped.ensures.used
    (subst (λ a. AreTaken a ns (exploration_view after)) c.in_ok-exploration.ensures taken) c.requires.all_reached)
    c.take.ensures

pub returns-then-checking-bound-clause-inside :
    goal.returns-then-checking-bound-clause-inside
returns-then-checking-bound-clause-inside g c contained inside here =
    IfOk-weaker c.take_one.result _ _
    (λ after taken. taken_inside (prog_view c.args.prog.now) (spec_view c.args.spec.now) (exploration_view c.args.exploration) (exploration_view after) _ taken inside (tt, tt)) c.take_one.ensures

pub returns-clause-inside : goal.returns-clause-inside
returns-clause-inside g c contained inside here =
    let p = prog_view c.args.prog.now in
    let s = spec_view c.args.spec.now in
    let stepped = c.in_ok-stepped.ensures.inside contained here in
    let before : StaysInside p s (exploration_view c.in_ok-exploration.exploration) =
    subst (StaysInside p s) (sym c.in_ok-exploration.ensures) (record { left = inside.left; none_used = λ i. inside.none_used i ++ stepped.0 i }) in
    IfOk-weaker c.take.result _ _
    (λ after taken. taken_inside p s (exploration_view c.in_ok-exploration.exploration) (exploration_view after) (nexts_view c.in_ok-stepped.stepped.nexts) taken before stepped.1) c.take.ensures

pub returns-then-checking-bound-clause-plain :
    goal.returns-then-checking-bound-clause-plain
returns-then-checking-bound-clause-plain g c keeps plain terms stays inside from =
    let p = prog_view c.args.prog.now in
    let s = spec_view c.args.spec.now in
    let x = checking_view c.args.checking in
    let within : x.path.steps ≤ 10000 = let first : x.path.steps ≤ c.args.bound = c.requires.reached.within in let second : c.args.bound ≤ 10000 = c.requires.bounded in omega (arith, first, second) in
    let sure = cut_plain p s plain g.M.SymMemory.plain g.M.SymMemory.terms (entry_view c.args.spec.now c.args.entered.now) x c.in_ok-cause.cause c.requires.may within from c.in_ok-cause.ensures in
    IfOk-weaker c.take_one.result _ _
    (λ after taken. taken_plain p s plain g.M.SymMemory.plain (exploration_view c.args.exploration) (exploration_view after) _ taken stays (sure, tt)) c.take_one.ensures

pub returns-clause-plain : goal.returns-clause-plain
returns-clause-plain g c keeps plain terms stays inside from =
    let p = prog_view c.args.prog.now in
    let s = spec_view c.args.spec.now in
    let before : StaysPlain g.M.SymMemory.plain s (exploration_view c.in_ok-exploration.exploration) =
    subst (StaysPlain g.M.SymMemory.plain s) (sym c.in_ok-exploration.ensures) (record { left = stays.left; cause = stays.cause }) in
    IfOk-weaker c.take.result _ _
    (λ after taken. taken_plain p s plain g.M.SymMemory.plain (exploration_view c.in_ok-exploration.exploration) (exploration_view after) (nexts_view c.in_ok-stepped.stepped.nexts) taken before
    (c.in_ok-stepped.ensures.plain keeps plain terms inside from)) c.take.ensures
