use Rattle.std.proofs.Common.{pos, false, length, sym, ◌∙◌, subst}
use Rattle.std.proofs.lemmas.Bool.{false≢true}
use Rattle.linear_core.specs.declared.relaxing.Relaxed.TheVariants.{Stays}
use Rattle.linear_core.specs.Nodes.{AreNarrow}
use Rattle.linear_core.specs.Walks.{AreReached, IsRelaxed}
use Rattle.linear_core.proofs.Following.{met_both_ways}
use Rattle.linear_core.proofs.relaxing.follow.Goals as goal

pub relax-requires-then-differences-row-clause-narrow : goal.relax-requires-then-differences-row-clause-narrow
relax-requires-then-differences-row-clause-narrow c =
    let stays : IsRelaxed c.args.differences.now c.args.reaches.now c.relax.new.reaches c.args.row false Stays = subst (IsRelaxed c.args.differences.now c.args.reaches.now c.relax.new.reaches c.args.row false) c.in-Stays.is c.in_ok-moved.ensures in
    subst (λ rs. AreNarrow (length rs) c.args.differences.now) (sym stays.0) c.requires.narrow

pub relax-requires-then-differences-row-clause-reached : goal.relax-requires-then-differences-row-clause-reached
relax-requires-then-differences-row-clause-reached c =
    let stays : IsRelaxed c.args.differences.now c.args.reaches.now c.relax.new.reaches c.args.row false Stays = subst (IsRelaxed c.args.differences.now c.args.reaches.now c.relax.new.reaches c.args.row false) c.in-Stays.is c.in_ok-moved.ensures in
    subst (AreReached c.args.differences.now) (sym stays.0) c.requires.reached

pub returns : goal.returns
returns c =
    let stays : IsRelaxed c.args.differences.now c.args.reaches.now c.relax.new.reaches c.args.row false Stays = subst (IsRelaxed c.args.differences.now c.args.reaches.now c.relax.new.reaches c.args.row false) c.in-Stays.is c.in_ok-moved.ensures in
    (stays.0, met_both_ways c.args.differences.now c.relax.new.reaches c.args.row (record { plus = 0; minus = 0; constant = pos 0; is_equal = false }) stays.1 (λ equal. absurd (false≢true (sym c.if-differences-row.false ∙ equal))))
