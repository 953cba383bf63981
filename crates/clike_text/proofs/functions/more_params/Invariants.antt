use Rattle.std.proofs.Common.{◌≡◌, length, ◌-◌}
use Rattle.gil_lexer.specs.declared.signs.Sign.TheVariants as signs
use Rattle.gil_lexemes.specs.Lists.{more_at, with_front}
use Rattle.clike_grammar.specs.Functions.{param_at}
use Rattle.clike_text.proofs.functions.more_params.Given as goal

abbrev pub invariant-loop : goal.invariant-loop
invariant-loop l =
    with_front l.list (more_at param_at (l.most - l.counter) signs.Comma l.rest)
    ≡ with_front l.fn.list (more_at param_at (length l.fn.cursor) signs.Comma l.fn.cursor)
