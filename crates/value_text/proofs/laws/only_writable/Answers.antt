use Rattle.value_text.proofs.Says.{only_writable}
use Rattle.value_text.proofs.laws.only_writable.Goals as goal

pub returns : goal.returns
returns c = only_writable
