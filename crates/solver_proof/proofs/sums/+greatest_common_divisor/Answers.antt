use Rattle.std.proofs.lemmas.Nat.Gcd.{IsGcd-from_mod}
use Rattle.solver_proof.proofs.sums.+greatest_common_divisor.Goals as goal

pub returns : goal.returns
returns t c = IsGcd-from_mod c.args.m c.args.n c.greatest_common_divisor.result c.greatest_common_divisor.ensures
