use Rattle.std.proofs.lemmas.Result.{err_from_is_err_and}
use Rattle.gillian_words.specs.Tasks.{solve}
use Rattle.gillian_core.proofs.Refusing.{memory_alone}
use Rattle.gillian_core.proofs.Solutions.{atoms_unread, solution_known}
use Rattle.gillian_core.proofs.solving.solution.Goals as goal

pub returns-in_err-text-clause-none : goal.returns-in_err-text-clause-none
returns-in_err-text-clause-none g c =
    let p = err_from_is_err_and c.from_residual.result c.from_residual.ensures.1 in
    rw (p.1, p.2) (atoms_unread c.args.bytes.now c.in_err-text.field-0.0 c.in_err-text.ensures.only c.in_err-text.ensures.refused)

pub returns-clause-answer : goal.returns-clause-answer
returns-clause-answer g c =
    solution_known c.args.bytes.now _ c.in_ok-text.ensures.ok c.solution_of.result c.or_memory.result c.or_memory.ensures.ok c.solution_of.ensures

pub returns-clause-none : goal.returns-clause-none
returns-clause-none g c = memory_alone solve c.args.bytes.now c.or_memory.result c.or_memory.ensures.err
