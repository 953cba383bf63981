use Rattle.std.proofs.Common.{◌≡◌, ◌++◌, ◌∷◌, [], get_or, sym, refl}
use Rattle.std.specs.String.{string_bytes}
use Rattle.std.proofs.lemmas.Bool.{ne_eqb}
use Rattle.gil_lexer.specs.Reading.{escaped_character}
use Rattle.gil_lexer.proofs.LiteralLemmas.{unescaped_escaped_turn, unescaped_backslash_turn, unescaped_plain_turn}
use Rattle.gil_lexer.proofs.literals.unescaped.Goals as goal
use Rattle.gil_lexer.proofs.literals.unescaped.Goals.{then-escaped+else-not-is_escape+in_ok-push_ascii, else-escaped+then-byte-eq92, else-escaped+else-byte-eq92+then-is_plain+in_ok-push_ascii-2}

pub bytes-preserved : goal.bytes-preserved
bytes-preserved c =
    let kept = c.bytes.invariant in
    let lt = c.bytes-test.true in
    let body = c.args.body.now in
    let i = c.bytes.byte-index in
    elim c.if-escaped.branch [
      | then-escaped+else-not-is_escape+in_ok-push_ascii w ↦
          let turn = unescaped_escaped_turn body (string_bytes c.bytes.text) i _ lt (rw w.if-escaped.true at kept) (sym w.if-not-is_escape.ensures) in
          let grown : string_bytes c.if-escaped.text ≡ string_bytes c.bytes.text ++ escaped_character (get_or body i 0) ∷ [] = rw (w.text-is, w.in_ok-push_ascii.ensures, w.escaped_character.ensures) refl in
          rw (w.escaped-is, grown) turn
      | else-escaped+then-byte-eq92 w ↦
          rw (w.text-is, w.escaped-is) (unescaped_backslash_turn _ _ _ _ lt (rw w.if-escaped.false at kept) w.if-byte-eq92.true)
      | else-escaped+else-byte-eq92+then-is_plain+in_ok-push_ascii-2 w ↦
          let turn = unescaped_plain_turn body (string_bytes c.bytes.text) i _ lt (rw w.if-escaped.false at kept) (ne_eqb _ _ w.if-byte-eq92.false) (sym w.if-is_plain.ensures) in
          let grown : string_bytes c.if-escaped.text ≡ string_bytes c.bytes.text ++ get_or body i 0 ∷ [] = rw (w.text-is, w.in_ok-push_ascii-2.ensures) refl in
          rw (w.escaped-is, w.if-escaped.false, grown) turn
    ]
