use Rattle.std.proofs.Common.{◌≡◌, ◌++◌, length, [], ◌∷◌, ap, ◌∙◌}
use Rattle.assertion_terms.specs.Named.{numbered}
use Rattle.assertion_terms.proofs.Numbers.{one_more}
use Rattle.assertion_terms.proofs.naming.names_of_table.Goals as goal

pub loop-other-preserved : goal.loop-other-preserved
loop-other-preserved c =
    let name_is : c.in_ok-name.name ≡ numbered (length c.loop-other.names) = c.in_ok-name.ensures ∙ ap numbered c.len.ensures in
    c.in_ok-push-2.ensures.ok ∙ ap (λ x. c.loop-other.names ++ x ∷ []) name_is ∙ one_more c.args.params.now c.loop-other.names c.loop-other._other c.loop-other.invariant
