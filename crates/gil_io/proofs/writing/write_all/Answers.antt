use Rattle.std.proofs.Common.{◌<◌, length, ◌∙◌, arith}
use Rattle.std.proofs.lemmas.Bool.Decides.{nat_tests}
use Rattle.gil_io.proofs.Known.{given_more, given_part, on_err}
use Rattle.gil_io.proofs.writing.write_all.Goals as goal

pub returns-in_err-count-clause-part : goal.returns-in_err-count-clause-part
returns-in_err-count-clause-part g c =
    let more : 0 < length c.loop-rest.rest.now = grind (arith, nat_tests) in
    on_err c.from_residual.result (given_part _ _ _ _ _ c.loop-rest.invariant.0 c.in_err-count.ensures.nothing_taken more)

pub loop-rest-preserved : goal.loop-rest-preserved
loop-rest-preserved g c = (
  given_more _ _ _ _ _ c.in_ok-count.count _ c.loop-rest.invariant.0 c.in_ok-count.ensures.bytes (omega arith),
  c.in_ok-count.ensures.no_fault ∙ c.loop-rest.invariant.1,
  c.in_ok-count.ensures.room_stays ∙ c.loop-rest.invariant.2,
)
