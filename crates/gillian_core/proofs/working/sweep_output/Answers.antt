use Rattle.std.proofs.Common.{refl}
use Rattle.std.proofs.lemmas.Result.{err_from_is_err_and}
use Rattle.gillian_words.specs.Tasks.{sweep}
use Rattle.gillian_core.proofs.Cases.{if_ok_known}
use Rattle.gillian_core.proofs.Refusing.{no_output_for_memory}
use Rattle.gillian_core.proofs.working.sweep_output.Goals as goal

pub returns-in_err-answers-clause-none : goal.returns-in_err-answers-clause-none
returns-in_err-answers-clause-none g c = λ bytes.
    let p = err_from_is_err_and c.from_residual.result c.from_residual.ensures.1 in
    rw (p.1, p.2) (no_output_for_memory (sweep c.args.size.assertions) bytes c.in_err-answers.field-0.0 c.in_err-answers.ensures.err)

pub returns-clause-output : goal.returns-clause-output
returns-clause-output g c =
    let known = if_ok_known c.swept.result c.in_ok-answers.answers _ c.in_ok-answers.ensures.ok c.swept.ensures in
    (refl, known)
