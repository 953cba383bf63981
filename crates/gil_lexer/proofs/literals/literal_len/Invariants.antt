use Rattle.std.proofs.Common.{◌≡◌, false, drop}
use Rattle.gil_lexer.specs.Reading as spec
use Rattle.gil_lexer.proofs.LiteralLemmas.{more}
use Rattle.gil_lexer.proofs.literals.literal_len.Given as goal

abbrev pub invariant-bytes : goal.invariant-bytes
invariant-bytes l = more l.i (spec.literal_len l.escaped (drop l.i l.text)) ≡ spec.literal_len false l.text
