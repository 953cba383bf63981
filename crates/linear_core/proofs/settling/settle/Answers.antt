use Rattle.std.proofs.Common.{sym, subst}
use Rattle.linear_core.specs.Nodes.{AreNarrow}
use Rattle.linear_core.proofs.settling.settle.Goals as goal

pub pass-requires-clause-narrow : goal.pass-requires-clause-narrow
pass-requires-clause-narrow c = subst (λ n. AreNarrow n c.args.differences.now) (sym c.turns.invariant.same_length) c.requires.narrow
