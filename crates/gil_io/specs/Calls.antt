-- Calls that are numbered.
use Rattle.std.specs.Prelude.{ℕ, List}

-- the numbers of the calls that fail, the number of the last call, and the count of faults
pub record CallState : Type 0 where
  pub fail : List ℕ
  pub calls : ℕ
  pub faults : ℕ
