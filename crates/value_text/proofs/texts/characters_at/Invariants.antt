use Rattle.std.proofs.Common.{◌≡◌, ◌-◌, string_bytes}
use Rattle.value_text.specs.Reading as spec
use Rattle.value_text.specs.Reading.{with_front, many_at}
use Rattle.value_text.proofs.texts.characters_at.Given as goal

abbrev pub invariant-loop : goal.invariant-loop
invariant-loop l =
    with_front (string_bytes l.characters) (many_at spec.before_quote spec.character_at (l.most - l.counter) l.rest) ≡ spec.characters_at l.bytes
