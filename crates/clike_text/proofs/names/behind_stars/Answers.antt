use Rattle.std.proofs.Common.{sym, ◌∙◌, ap}
use Rattle.clike_grammar.specs.Reading.{behind_stars}
use Rattle.clike_text.proofs.Stars.{star_passed, no_star}
use Rattle.clike_text.proofs.names.behind_stars.Goals as goal

pub loop-rest-preserved : goal.loop-rest-preserved
loop-rest-preserved c =
    ap behind_stars c.behind-rest.ensures ∙ sym (star_passed c.loop-rest.rest (sym c.is_at.ensures ∙ c.loop-rest-test.true)) ∙ c.loop-rest.invariant

pub returns : goal.returns
returns c = sym (no_star c.loop-rest.rest (sym c.is_at.ensures ∙ c.loop-rest-test.false)) ∙ c.loop-rest.invariant
