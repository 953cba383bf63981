use Rattle.std.proofs.Common.{sym, ap, ◌∙◌}
use Rattle.std.specs.Str.{bytes_eq}
use Rattle.gil_syntax.specs.Valid.{param_names}
use Rattle.gil_syntax.proofs.ExpressionLemmas.{list_any-element}
use Rattle.sym_matching.proofs.Reading.{seen_at}
use Rattle.sym_matching.proofs.values.is_declared.Goals as goal

pub returns-then-eq : goal.returns-then-eq
returns-then-eq c =
    sym (list_any-element (bytes_eq c.args.name.now) (param_names c.args.scope.now) c.loop-param.param-index c.param-item.result.name
    (seen_at (λ q. q.name) c.as_slice-param-items.result.now (param_names c.args.scope.now) (ap param_names c.as_slice-param-items.ensures) c.loop-param.param-index c.param-item.result c.loop-param-test.true c.param-item.is)
    (sym c.eq.ensures ∙ c.if-eq.true))
