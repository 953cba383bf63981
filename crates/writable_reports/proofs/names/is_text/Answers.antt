use Rattle.std.proofs.Common.{sym}
use Rattle.writable_reports.proofs.Decided.{text_decided}
use Rattle.writable_reports.proofs.names.is_text.Goals as goal

pub returns : goal.returns
returns c = sym ((text_decided c.args.text.now).1 c.as_str-characters.ensures.text)
