use Rattle.std.proofs.Common.{rules}
use Rattle.sweep_text.specs.Made.{made_text}
use Rattle.sweep_text.proofs.text.sweep_text.Goals as goal

pub returns : goal.returns
unfolding made_text
returns c = search rules
