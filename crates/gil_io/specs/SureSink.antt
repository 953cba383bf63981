-- A sink with room for so many bytes.
use Rattle.std.specs.Prelude.{ℕ, List}

-- the bytes that it has taken, how many it has room for in all, and how often a write failed
pub record SureSinkState : Type 0 where
  pub taken : List ℕ
  pub room : ℕ
  pub faults : ℕ
