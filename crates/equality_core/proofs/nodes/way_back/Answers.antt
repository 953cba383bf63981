use Rattle.std.proofs.Common.{rules}
use Rattle.equality_core.proofs.Sharing.{goes_back}
use Rattle.equality_core.proofs.nodes.way_back.Goals as goal

pub returns : goal.returns
returns c = goes_back c.args.along.now c.args.back.now c.extend_from_slice-2.new.self.items c.shared_end-shared.result c.shared_end-shared.ensures (search rules)
