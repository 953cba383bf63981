use Rattle.std.proofs.Common.{arith}
use Rattle.gil_lexer.proofs.WithinLemmas.{found_within}
use Rattle.gil_lexer.proofs.lexing.token_from.Goals as goal

pub overflow_add-result : goal.overflow_add-result
overflow_add-result c =
    let found = found_within c.args.takes_minus c.args.text.now _ c.in-Ok.ensures in
    omega (arith, found.0, found.1)

pub returns-in-Ok-clause-forward : goal.returns-in-Ok-clause-forward
returns-in-Ok-clause-forward c =
    let found = found_within c.args.takes_minus c.args.text.now _ c.in-Ok.ensures in
    omega (arith, found.0, found.1)

pub returns-in-Ok-clause-within : goal.returns-in-Ok-clause-within
returns-in-Ok-clause-within c =
    let found = found_within c.args.takes_minus c.args.text.now _ c.in-Ok.ensures in
    omega (arith, found.0, found.1)
