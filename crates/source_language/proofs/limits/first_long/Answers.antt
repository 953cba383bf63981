use Rattle.source_language.proofs.TooLong.{long_read, short_read}
use Rattle.source_language.proofs.limits.first_long.Goals as goal

pub returns-then-code_len-gt-MOST_COMMANDS : goal.returns-then-code_len-gt-MOST_COMMANDS
returns-then-code_len-gt-MOST_COMMANDS c =
    long_read c.args.procs.now c.loop-number.number c.index-procs-number.result c.loop-number-test.true c.index-procs-number.is
    c.code_len.result c.code_len.ensures c.loop-number.invariant c.if-code_len-gt-MOST_COMMANDS.true

pub loop-number-preserved : goal.loop-number-preserved
loop-number-preserved c =
    short_read c.args.procs.now c.loop-number.number c.index-procs-number.result c.loop-number-test.true c.index-procs-number.is
    c.code_len.result c.code_len.ensures c.loop-number.invariant c.if-code_len-gt-MOST_COMMANDS.false
