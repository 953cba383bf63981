use Rattle.std.proofs.Common.{◌∙◌, below_more}
use Rattle.gil_syntax.specs.View.{spec_view}
use Rattle.assert_logic.specs.Modes.{spec_fault}
use Rattle.assert_logic.proofs.LoopLemmas.{at_place, past_all}
use Rattle.assert_logic.proofs.checking.first_in_specs.Goals as goal

pub returns-in-Some : goal.returns-in-Some
returns-in-Some c =
    (at_place spec_view (spec_fault c.args.memory) c.args.specs.now c.loop-place.place c.index-specs-place.result c.spec_fault.result c.loop-place-test.true c.index-specs-place.is c.spec_fault.ensures ∙ c.in-Some.is, c.loop-place.invariant)

pub loop-place-preserved : goal.loop-place-preserved
loop-place-preserved c = below_more _ _ c.loop-place.invariant
    (at_place spec_view (spec_fault c.args.memory) c.args.specs.now c.loop-place.place c.index-specs-place.result c.spec_fault.result c.loop-place-test.true c.index-specs-place.is c.spec_fault.ensures ∙ c.in_default.is)

pub returns : goal.returns
returns c = past_all spec_view (spec_fault c.args.memory) c.args.specs.now c.loop-place.place c.loop-place-test.false c.loop-place.invariant
