use Rattle.std.proofs.Common.{◌≡◌, ◌+◌, drop}
use Rattle.gillian_words.specs.declared.scan.Scan.TheVariants.{Outside}
use Rattle.gillian_words.specs.Pieces.{piece_len}
use Rattle.gillian_words.proofs.inputs.piece_len.Given as goal

abbrev pub invariant-bytes : goal.invariant-bytes
invariant-bytes l = l.i + piece_len l.scan (drop l.i l.text) ≡ piece_len Outside l.text
