use Rattle.std.proofs.Common.{ap, ◌∙◌}
use Rattle.std.proofs.lemmas.Bool.Decides.{Decides-eqb}
use Rattle.std.proofs.lemmas.Slice.Eq.{strip_prefix_is}
use Rattle.value_text.specs.Reading as spec
use Rattle.value_text.proofs.WordLaws.{behind_cases}
use Rattle.value_text.proofs.words.behind.Goals as goal

pub returns : goal.returns
returns c =
    behind_cases c.as_bytes.result.now c.args.bytes.now c.strip_prefix.result
    (strip_prefix_is Decides-eqb c.args.bytes.now c.as_bytes.result.now c.strip_prefix.result c.strip_prefix.ensures.cases)
    ∙ ap (λ word. spec.behind word c.args.bytes.now) c.as_bytes.ensures.value
