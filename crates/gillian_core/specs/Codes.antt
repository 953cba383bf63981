-- The exit codes of the statuses.
use Rattle.std.specs.Prelude.{ℕ}
use Rattle.gillian_core.specs.declared.status.Status.{Status}
use Rattle.gillian_core.specs.declared.status.Status.TheVariants.{Good, Found, Words, Text, ReadFault, WriteFault, Memory, TooLarge}

abbrev pub exit_code : Status → ℕ
exit_code Good = 0
exit_code Found = 1
exit_code Words = 2
exit_code Text = 3
exit_code ReadFault = 4
exit_code WriteFault = 5
exit_code Memory = 6
exit_code TooLarge = 7
