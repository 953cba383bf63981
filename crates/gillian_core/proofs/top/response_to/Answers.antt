use Rattle.gillian_words.specs.View.{request_view}
use Rattle.gillian_core.specs.Answers.{output_view}
use Rattle.gillian_core.proofs.Responding.{response_of_output, response_of_refusal}
use Rattle.gillian_core.proofs.top.response_to.Goals as goal

pub returns-in-Ok : goal.returns-in-Ok
returns-in-Ok g c =
    response_of_output (request_view c.args.request) c.args.bytes.now (output_view c.in-Ok.output) c.output_response.result c.in-Ok.ensures.output
    c.output_response.ensures.writable c.output_response.ensures.status c.output_response.ensures.text

pub returns-in-Err : goal.returns-in-Err
returns-in-Err g c =
    response_of_refusal (request_view c.args.request) c.args.bytes.now c.in-Err.refused c.refusal_response.result c.in-Err.ensures.none
    c.refusal_response.ensures.status c.refusal_response.ensures.text c.refusal_response.ensures.refusal
