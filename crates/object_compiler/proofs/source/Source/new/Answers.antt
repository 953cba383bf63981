use Rattle.std.proofs.Common.{subst}
use Rattle.gil_syntax.specs.Uncounted.{IsValidButLength}
use Rattle.source_language.proofs.Validity.{source_is_valid}
use Rattle.object_lang.specs.View.{source_parts_view}
use Rattle.object_compiler.specs.Compiled.{compiled}
use Rattle.object_compiler.proofs.source.Source.new.Goals as goal

pub invariant_of-result : goal.invariant_of-result
invariant_of-result c = record {
  named = c.requires.named;
  well_made = c.requires.well_made;
  valid = source_is_valid (compiled (source_parts_view c.args.parts)) (subst IsValidButLength c.in_ok-program.ensures c.in_ok-check_but_length.ensures.valid);
}
