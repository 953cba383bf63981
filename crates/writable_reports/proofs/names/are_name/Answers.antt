use Rattle.std.proofs.lemmas.Bool.Decides.{same_from_decides}
use Rattle.writable_reports.specs.Tests.{is_name}
use Rattle.writable_reports.proofs.Decided.{name_decided}
use Rattle.writable_reports.proofs.names.are_name.Goals as goal

pub returns : goal.returns
returns c = same_from_decides c.is_name.result (is_name c.args.bytes.now) c.is_name.ensures (name_decided c.args.bytes.now)
