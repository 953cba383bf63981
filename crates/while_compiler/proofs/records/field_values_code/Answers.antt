use Rattle.std.proofs.Common.{◌++◌, [], ◌∷◌, sym, ◌∙◌}
use Rattle.gil_syntax.specs.Pure.{assign}
use Rattle.source_language.specs.Procedures.{placed}
use Rattle.while_compiler.proofs.FieldCodes.{field_values-next}
use Rattle.while_compiler.proofs.records.field_values_code.Goals as goal

pub loop-number-preserved : goal.loop-number-preserved
loop-number-preserved c =
    c.in_ok-put.ensures
    ∙ (λ k. c.loop-number.invariant k ++ placed c.args.at (assign (c.in_ok-temporary.ensures k) (c.in_ok-value.ensures k)) ∷ [])
    ∙ sym (field_values-next c.args.fields.now c.loop-number.number c.index-fields-number.result c.loop-number-test.true
    c.index-fields-number.is c.args.at)
