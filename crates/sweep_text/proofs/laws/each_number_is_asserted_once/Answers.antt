use Rattle.sweep_text.proofs.Counted.{each_once}
use Rattle.sweep_text.proofs.laws.each_number_is_asserted_once.Goals as goal

pub returns : goal.returns
returns c = each_once
