use Rattle.std.proofs.Common.{◌++◌, [], ◌∷◌, sym, ap, ◌∙◌}
use Rattle.source_language.specs.Names.{temporaries_from}
use Rattle.source_language.proofs.NumberedNames.{one_more}
use Rattle.source_language.proofs.temporaries.first_temporaries.Goals as goal

pub loop-number-preserved : goal.loop-number-preserved
loop-number-preserved c =
    c.in_ok-push.ensures.ok
    ∙ ap (λ xs. xs ++ c.in_ok-temporary.field-0 ∷ []) c.loop-number.invariant
    ∙ ap (λ t. temporaries_from 0 c.loop-number.number ++ t ∷ []) c.in_ok-temporary.ensures
    ∙ sym (one_more c.loop-number.number)
