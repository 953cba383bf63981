-- A sink whose calls fail as they are told.
use Rattle.std.specs.Prelude.{ℕ, List}

-- the bytes that were taken, the room in all, the most bytes of a call, the numbers of the calls that fail, the number of
-- the last call, and the count of faults
pub record MemSinkState : Type 0 where
  pub taken : List ℕ
  pub room : ℕ
  pub most : ℕ
  pub fail : List ℕ
  pub calls : ℕ
  pub faults : ℕ
