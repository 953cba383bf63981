-- A block is read as its braces and what stands within them, where one may stand there at all.
use Rattle.std.proofs.Common.{◌≡◌, ℕ, zero, suc, ◌-◌, ◌≤◌, List, None, refl, ap, arith}
use Rattle.gil_lexemes.specs.declared.standing.Lexeme.{Lexeme}
use Rattle.statement_text.specs.Reading.{Readers, statement_at, block_by, block_at}

module _ {E S : Type 0} (r : Readers E S) (place : ℕ → ℕ) where
  pub no_block : (most : ℕ) (ls : List Lexeme) → most ≡ 0 → block_at r place most ls ≡ None
  unfolding block_at
  no_block zero ls e = refl
  no_block (suc n) ls e = absurd (omega (arith, e))

  pub block_opens : (most : ℕ) (ls : List Lexeme) → 1 ≤ most → block_at r place most ls ≡ block_by r place (statement_at r (block_at r place (most - 1))) ls
  unfolding block_at
  block_opens zero ls le = absurd (omega (arith, le))
  block_opens (suc n) ls le = ap (λ k. block_by r place (statement_at r (block_at r place k)) ls) (omega arith)
