use Rattle.std.proofs.Common.{rules, ◌∙◌}
use Rattle.while_compiler.proofs.Functions.{none_too_long, one_too_long, there_is_one}
use Rattle.while_compiler.proofs.programs.too_long_at.Goals as goal

pub returns-in_err-first_long : goal.returns-in_err-first_long
returns-in_err-first_long c =
    c.from_residual.ensures ∙ none_too_long c.args.procs.now c.args.functions.now c.requires c.in_err-first_long.ensures

pub returns-in_err-function : goal.returns-in_err-function
returns-in_err-function c =
    absurd (there_is_one c.args.procs.now c.args.functions.now c.requires c.in_ok-first_long.field-0 c.in_ok-first_long.ensures
    c.in_err-function.ensures.lookup.0)

pub returns : goal.returns
returns c =
    one_too_long c.args.procs.now c.args.functions.now c.requires c.in_ok-first_long.field-0 c.in_ok-first_long.ensures
    c.in_ok-function.function.now (search rules) (search rules)
