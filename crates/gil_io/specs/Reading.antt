-- What reads took from a source.
use Rattle.std.specs.Prelude.{◌≡◌, ◌≤◌, ℕ, List, ◌++◌, Option, length, take, drop}
use Rattle.std.specs.Io.KnownBytes.{Consumes}

-- The source lost these bytes from the front of what was left, and no other, where it tells them; P holds of them.
abbrev pub Takes : Option (List ℕ) → Option (List ℕ) → (List ℕ → Type 0) → Type 0
Takes old new P = (taken : List ℕ) × Consumes old new taken × P taken

-- The next bytes stand at the front of the buffer, and are no longer left.
pub record MovesFront (left_old left_new buf_old buf_new : List ℕ) (count : ℕ) : Type 0 where
  pub within : count ≤ length left_old
  pub room : count ≤ length buf_old
  pub buffer : buf_new ≡ take count left_old ++ drop count buf_old
  pub left : left_new ≡ drop count left_old
