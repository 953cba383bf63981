use Rattle.std.proofs.Common.{subst}
use Rattle.std.specs.Int.{IsGcd}
use Rattle.solver_proof.proofs.SumLaws.{joined_divisor}
use Rattle.solver_proof.proofs.sums.+common_divisor.Goals as goal

pub returns-in-len1-up : goal.returns-in-len1-up
returns-in-len1-up t c =
    joined_divisor c.args.factors.now _ c.common_divisor.result c.greatest_common_divisor.result c.in-len1-up.len_at_least c.common_divisor.ensures
    (subst (λ n. IsGcd n c.common_divisor.result c.greatest_common_divisor.result) c.size.ensures c.greatest_common_divisor.ensures)
