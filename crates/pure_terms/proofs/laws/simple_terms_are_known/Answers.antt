use Rattle.pure_terms.proofs.SimpleLaws.{simple_terms_have_kinds, simple_terms_have_values}
use Rattle.pure_terms.proofs.laws.simple_terms_are_known.Goals as goal

pub returns : goal.returns
returns c = record { values = simple_terms_have_values; kinds = simple_terms_have_kinds }
