-- Where a value of a list of inputs ends: at the first comma that isn't between quotes.
use Rattle.std.specs.Prelude.{ℕ, suc, ◌==◌, List, [], ◌∷◌, Option, Some, None, if◌then◌else◌}
use Rattle.gil_lexer.specs.Bytes.{quote, backslash}
use Rattle.gillian_words.specs.declared.scan.Scan.{Scan}
use Rattle.gillian_words.specs.declared.scan.Scan.TheVariants.{Outside, Inside, Escaped}
use Rattle.gillian_words.specs.Inputs.{comma}

-- where a scan is behind a byte; it ends at a comma outside quotes
abbrev pub next : Scan → ℕ → Option Scan
next Outside b = if b == comma then None else (if b == quote then Some Inside else Some Outside)
next Inside b = if b == quote then Some Outside else (if b == backslash then Some Escaped else Some Inside)
next Escaped b = Some Inside

-- one byte and those behind it, where the scan goes on
abbrev pub one_and : Option Scan → (Scan → ℕ) → ℕ
one_and None behind = 0
one_and (Some scan) behind = suc (behind scan)

-- how many bytes a scan goes over
abbrev pub piece_len : Scan → List ℕ → ℕ
piece_len scan [] = 0
piece_len scan (b ∷ bs) = one_and (next scan b) (λ after. piece_len after bs)
