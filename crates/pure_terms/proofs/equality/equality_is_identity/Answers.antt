use Rattle.pure_terms.specs.EqualityLaws.{same_term-Decides}
use Rattle.pure_terms.proofs.equality.equality_is_identity.Goals as goal

pub returns : goal.returns
returns c = same_term-Decides
