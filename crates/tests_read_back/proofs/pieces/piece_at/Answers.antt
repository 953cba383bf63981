use Rattle.std.proofs.lemmas.Result.{err_from_is_err_and}
use Rattle.tests_read_back.proofs.PieceLaws.{is_piece, number_fails, line_feed_fails, is_split, are_enough}
use Rattle.tests_read_back.proofs.pieces.piece_at.Goals as goal

pub returns-in_err-size-clause-again : goal.returns-in_err-size-clause-again
returns-in_err-size-clause-again c = λ piece rest fits is.
    let p = err_from_is_err_and c.from_residual.result c.from_residual.ensures.1 in
    rw (p.1, p.2) (number_fails c.in_err-size.field-0.0 c.args.bytes.now piece rest fits is c.in_err-size.ensures)

pub returns-in_err-rest-clause-again : goal.returns-in_err-rest-clause-again
returns-in_err-rest-clause-again c = λ piece rest fits is.
    let p = err_from_is_err_and c.from_residual-in_err-rest.result c.from_residual-in_err-rest.ensures.1 in
    rw (p.1, p.2) (line_feed_fails c.in_err-rest.field-0.0 c.args.bytes.now piece rest c.in_ok-size.rest.now c.in_ok-size.size fits is
    c.in_ok-size.ensures c.in_err-rest.ensures)

pub returns-in-Some-clause-split : goal.returns-in-Some-clause-split
returns-in-Some-clause-split c =
    is_piece c.args.bytes.now c.in_ok-size.rest.now c.in_ok-rest.rest.now c.in-Some.parts.0.now c.in-Some.parts.1.now c.in_ok-size.size
    c.in_ok-size.ensures c.in_ok-rest.ensures c.in-Some.ensures.cases

pub returns-in-Some-clause-again : goal.returns-in-Some-clause-again
returns-in-Some-clause-again c = λ piece rest fits is.
    is_split c.args.bytes.now piece rest c.in_ok-size.rest.now c.in_ok-rest.rest.now c.in_ok-size.size fits is c.in_ok-size.ensures
    c.in_ok-rest.ensures c.in-Some.parts.0.now c.in-Some.parts.1.now c.in-Some.ensures.cases

pub returns-in-None-clause-again : goal.returns-in-None-clause-again
returns-in-None-clause-again c = λ piece rest fits is.
    absurd (are_enough c.args.bytes.now piece rest c.in_ok-size.rest.now c.in_ok-rest.rest.now c.in_ok-size.size fits is c.in_ok-size.ensures
    c.in_ok-rest.ensures c.in-None.ensures.cases)
