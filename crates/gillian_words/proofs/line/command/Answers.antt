-- The command is built argument by argument, as the line is.
use Rattle.std.proofs.Common.{◌∙◌, ap₂}
use Rattle.clap.specs.Words.{with_rule}
use Rattle.gillian_words.proofs.line.command.Goals as goal

pub returns : goal.returns
returns c =
    c.in_ok-whole.ensures.shape c.flag_of.ensures.local
    ∙ ap₂ with_rule (c.in_ok-given.ensures.shape c.option_of-3.ensures.local
    ∙ ap₂ with_rule (c.in_ok-entered.ensures.shape c.option_of-2.ensures.local
    ∙ ap₂ with_rule (c.in_ok-bounded.ensures.shape c.option_of.ensures.local
    ∙ ap₂ with_rule c.in_ok-words.ensures c.option_of.ensures.rule) c.option_of-2.ensures.rule) c.option_of-3.ensures.rule) c.flag_of.ensures.rule
