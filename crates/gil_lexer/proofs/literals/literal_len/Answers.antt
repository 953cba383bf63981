use Rattle.std.proofs.Common.{sym}
use Rattle.std.proofs.lemmas.Bool.{ne_eqb}
use Rattle.gil_lexer.proofs.LiteralLemmas.{escaped_turn, backslash_turn, plain_turn}
use Rattle.gil_lexer.proofs.literals.literal_len.Goals as goal
use Rattle.gil_lexer.proofs.literals.literal_len.Goals.{then-escaped+else-not-is_escape, else-escaped+else-byte-eq34+then-byte-eq92, else-escaped+else-byte-eq34+else-byte-eq92+else-not-is_printable}

pub bytes-preserved : goal.bytes-preserved
bytes-preserved c =
    let kept = c.bytes.invariant in
    let lt = c.bytes-test.true in
    elim c.if-escaped.branch [
      | then-escaped+else-not-is_escape w ↦
          rw w.escaped-is (escaped_turn _ _ _ lt (rw w.if-escaped.true at kept) (sym w.if-not-is_escape.ensures))
      | else-escaped+else-byte-eq34+then-byte-eq92 w ↦
          rw w.escaped-is (backslash_turn _ _ _ lt (rw w.if-escaped.false at kept) w.if-byte-eq92.true)
      | else-escaped+else-byte-eq34+else-byte-eq92+else-not-is_printable w ↦
          rw (w.escaped-is, w.if-escaped.false) (plain_turn _ _ _ lt (rw w.if-escaped.false at kept) (ne_eqb _ _ w.if-byte-eq34.false) (ne_eqb _ _ w.if-byte-eq92.false) (sym w.if-not-is_printable.ensures))
    ]
