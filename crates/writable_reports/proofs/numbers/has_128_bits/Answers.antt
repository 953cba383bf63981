use Rattle.std.proofs.Common.{sym}
use Rattle.writable_reports.proofs.Decided.{bits_128}
use Rattle.writable_reports.proofs.numbers.has_128_bits.Goals as goal

pub returns : goal.returns
returns c = sym ((bits_128 c.args._number).1 c.ranges._number)
