use Rattle.std.proofs.Common.{ap}
use Rattle.pure_terms.specs.View.{terms_view, atoms_view}
use Rattle.least_memory.proofs.Failing.{laws_of, plainly_of}
use Rattle.least_memory.proofs.noted.NotedSymMemory.act.Goals as goal

pub returns-clause-laws : goal.returns-clause-laws
returns-clause-laws c =
    laws_of c.args._action.now c.args._fresh (terms_view c.args._args.now) c.args.self.now _ c.push.new.self _ c.new-branches.ensures c.in_ok-push.ensures.ok
    (record { conds = ap atoms_view c.new.ensures; same = c.in_ok-alike.ensures; result = c.in_ok-failed_with.ensures })

pub returns-clause-plain : goal.returns-clause-plain
returns-clause-plain c = λ kept.
    plainly_of c.args._action.now c.args._fresh (terms_view c.args._args.now) c.args.self.now _ c.push.new.self _ c.new-branches.ensures c.in_ok-push.ensures.ok
    (record { conds = ap atoms_view c.new.ensures; same = c.in_ok-alike.ensures; result = c.in_ok-failed_with.ensures })
