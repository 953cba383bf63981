use Rattle.std.proofs.Common.{◌++◌, take, refl, arith}
use Rattle.std.proofs.lemmas.Result.{err_from_is_err_and}
use Rattle.gil_io.proofs.Known.{taken_more, length-front}
use Rattle.gil_io.proofs.reading.read_all.Goals as goal

pub returns-then-count-limit-clause-taken : goal.returns-then-count-limit-clause-taken
returns-then-count-limit-clause-taken g c =
    let bytes = c.loop-bytes.bytes.items in
    let count = c.in_ok-count.count in
    let size = length-front bytes c.read.new.buf count c.in_ok-count.ensures.bound in (
      bytes ++ take count c.read.new.buf,
      taken_more _ _ _ _ _ c.loop-bytes.invariant.0 c.in_ok-count.ensures.bytes,
      ((λ _. omega arith), (λ _. refl)),
    )

pub returns-in_err-extend_from_slice-clause-taken : goal.returns-in_err-extend_from_slice-clause-taken
returns-in_err-extend_from_slice-clause-taken g c =
    let bytes = c.loop-bytes.bytes.items in
    let count = c.in_ok-count.count in
    let size = length-front bytes c.read.new.buf count c.in_ok-count.ensures.bound in
    let answer = err_from_is_err_and c.from_residual-in_err-extend_from_slice.result c.from_residual-in_err-extend_from_slice.ensures.1 in (
      bytes ++ take count c.read.new.buf,
      taken_more _ _ _ _ _ c.loop-bytes.invariant.0 c.in_ok-count.ensures.bytes,
      ((λ too_large. absurd (cc)), (λ more. absurd (omega arith))),
    )
