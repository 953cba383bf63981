use Rattle.std.proofs.Common.{◌≡◌, false, drop}
use Rattle.std.specs.String.{string_bytes}
use Rattle.gil_lexer.specs.Reading as spec
use Rattle.gil_lexer.proofs.LiteralLemmas.{behind}
use Rattle.gil_lexer.proofs.literals.unescaped.Given as goal

abbrev pub invariant-bytes : goal.invariant-bytes
invariant-bytes l = behind (string_bytes l.text) (spec.unescaped l.escaped (drop l.byte-index l.body)) ≡ spec.unescaped false l.body
