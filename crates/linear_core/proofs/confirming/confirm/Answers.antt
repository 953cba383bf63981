use Rattle.std.proofs.Common.{sym, ◌∙◌, subst}
use Rattle.linear_core.specs.Nodes.{AreNarrow}
use Rattle.linear_core.proofs.confirming.confirm.Goals as goal

pub numbers_by-requires : goal.numbers_by-requires
numbers_by-requires c = subst (λ n. AreNarrow n c.args.differences.now) (sym (sym c.len.ensures ∙ c.if-len-count.false)) c.requires

pub cycle_by-requires : goal.cycle_by-requires
cycle_by-requires c = subst (λ n. AreNarrow n c.args.differences.now) (sym (sym c.len-in-Cycle.ensures ∙ c.if-len-count-2.false)) c.requires
