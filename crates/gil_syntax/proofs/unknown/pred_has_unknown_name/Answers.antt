use Rattle.std.proofs.Common.{map, ap, ◌∙◌}
use Rattle.gil_syntax.specs.Valid.{is_among}
use Rattle.gil_syntax.specs.View.{assertion_view}
use Rattle.gil_syntax.specs.ByName.{parts_of}
use Rattle.gil_syntax.specs.Names.{has_name}
use Rattle.gil_syntax.proofs.UnknownLemmas.{or_none, assertions_unknown}
use Rattle.gil_syntax.proofs.unknown.pred_has_unknown_name.Goals as goal

pub returns : goal.returns
returns c =
    let declared = or_none (has_name c.in_ok-declared.declared) c.new-none.result c.new-none.ensures.empty ∙ c.in_ok-declared.ensures ∙ ap (λ ps. is_among (map (λ p. p.name) ps)) c.as_slice.ensures in
    c.in_assertions.ensures ∙ assertions_unknown (parts_of c.args.program.now) _ c.args.pred.now.logicals declared (map assertion_view c.args.pred.now.cases)
