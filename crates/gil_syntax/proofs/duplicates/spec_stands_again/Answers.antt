use Rattle.std.proofs.Common.{sym, ◌∙◌}
use Rattle.std.proofs.Math.Bool.{or-false}
use Rattle.gil_syntax.specs.View.{spec_view}
use Rattle.gil_syntax.specs.ByName.{parts_of}
use Rattle.gil_syntax.proofs.DuplicateLemmas.{specs_before, told}
use Rattle.gil_syntax.proofs.duplicates.spec_stands_again.Goals as goal

pub returns : goal.returns
returns c =
    c.stands_before.ensures
    ∙ told _ _ c.args.spec.now.name c.as_str.result.now c.args.place c.requires.specs c.as_str.ensures.characters
    ∙ specs_before (parts_of c.args.program.now) (spec_view c.args.spec.now) c.args.place
    ∙ sym (or-false _)
