use Rattle.std.proofs.Common.{ap}
use Rattle.std.proofs.lemmas.List.{map-id}
use Rattle.list_text.proofs.Same.{gives_same}
use Rattle.specification_text.proofs.params.params_at.Goals as goal

pub returns : goal.returns
returns c = gives_same _ _ (λ x. ap (λ xs. (xs, x.1.now)) (map-id x.0)) c.elements_until.result _ c.elements_until.ensures
