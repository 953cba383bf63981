-- Bytes in reserved memory.
use Rattle.std.specs.Prelude.{ℕ, List}

-- the bytes that came so far, and how many may come in all
pub record Kept : Type 0 where
  pub taken : List ℕ
  pub room : ℕ
