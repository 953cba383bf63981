use Rattle.std.proofs.Common.{sym, ap, ◌∙◌}
use Rattle.std.specs.Str.{bytes_eq}
use Rattle.gil_values.proofs.Lists.{slice_get-read}
use Rattle.gil_syntax.specs.Valid.{param_names}
use Rattle.gil_syntax.proofs.ExpressionLemmas.{list_any-element}
use Rattle.assert_logic.proofs.scopes.is_param.Goals as goal

pub returns-then-eq : goal.returns-then-eq
returns-then-eq c =
    sym (list_any-element (bytes_eq c.args.name.now) (param_names c.args.params.now) c.loop-param.param-index c.param-item.result.name
    (slice_get-read (λ q. q.name) c.args.params.now c.loop-param.param-index c.param-item.result c.loop-param-test.true c.param-item.is)
    (ap (bytes_eq c.args.name.now) (sym c.as_str.ensures.characters) ∙ sym c.eq.ensures ∙ c.if-eq.true))
