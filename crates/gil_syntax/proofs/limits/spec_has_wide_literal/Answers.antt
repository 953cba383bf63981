use Rattle.std.proofs.Common.{◌∙◌}
use Rattle.gil_syntax.specs.Subexpressions.{assertions_of}
use Rattle.gil_syntax.specs.View.{spec_view}
use Rattle.gil_syntax.proofs.PieceLemmas.{wide_assertions}
use Rattle.gil_syntax.proofs.limits.spec_has_wide_literal.Goals as goal

pub returns : goal.returns
returns c p =
    let sp = spec_view c.args.spec.now in
    c.in_spec.ensures ∙ wide_assertions sp.logicals (assertions_of sp)
