use Rattle.std.proofs.Common.{◌∙◌, ap, subst, sym}
use Rattle.std.specs.Prelude.{take}
use Rattle.gil_values.specs.Characters.{IsText}
use Rattle.gil_lexer.specs.Bytes.{is_name_byte}
use Rattle.gil_lexer.proofs.RunLemmas.{run_passes}
use Rattle.gil_lexemes.proofs.Names.{name_bytes_are_text}
use Rattle.value_text.proofs.names.name_at.Goals as goal

pub text_from_bytes-requires : goal.text_from_bytes-requires
text_from_bytes-requires c =
    subst (λ n. IsText (take n c.args.bytes.now)) (sym c.name_len-len.ensures.len) (name_bytes_are_text _ (run_passes is_name_byte c.args.bytes.now))
