use Rattle.std.proofs.Common.{rules, ◌∙◌}
use Rattle.source_statements.specs.View.{block_view}
use Rattle.source_statements.proofs.Functions.{none_too_long, one_too_long, there_is_one}
use Rattle.source_statements.proofs.programs.too_long_at.Goals as goal

pub returns-in_err-first_long : goal.returns-in_err-first_long
returns-in_err-first_long g c =
    c.from_residual.ensures
    ∙ none_too_long (block_view g.L.Language.expression_view g.L.Language.simple_view) g.L.Language.codes c.args.procs.now c.args.functions.now c.requires
    c.in_err-first_long.ensures

pub returns-in_err-function : goal.returns-in_err-function
returns-in_err-function g c =
    absurd (there_is_one (block_view g.L.Language.expression_view g.L.Language.simple_view) g.L.Language.codes c.args.procs.now c.args.functions.now
    c.requires c.in_ok-first_long.field-0 c.in_ok-first_long.ensures c.in_err-function.ensures.lookup.0)

pub returns : goal.returns
returns g c =
    one_too_long (block_view g.L.Language.expression_view g.L.Language.simple_view) g.L.Language.codes c.args.procs.now c.args.functions.now
    c.requires c.in_ok-first_long.field-0 c.in_ok-first_long.ensures c.in_ok-function.function.now (search rules) (search rules)
