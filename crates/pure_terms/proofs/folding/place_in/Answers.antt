use Rattle.std.proofs.Common.{arith}
use Rattle.std.proofs.lemmas.Int.{to_z-of_z, ints}
use Rattle.std.specs.Int.{w128}
use Rattle.pure_terms.specs.View.{terms_view}
use Rattle.pure_terms.proofs.Folded.{element_at, element_past, element_below}
use Rattle.pure_terms.proofs.folding.place_in.Goals as goal

pub returns-then-place-lt0-clause-element : goal.returns-then-place-lt0-clause-element
returns-then-place-lt0-clause-element c =
    let same = to_z-of_z w128 c.args.place c.ranges.place in
    element_below (terms_view c.args.terms.now) c.args.place (omega (arith, ints, same))

pub returns-then-place-len-clause-element : goal.returns-then-place-len-clause-element
returns-then-place-len-clause-element c =
    let same = to_z-of_z w128 c.args.place c.ranges.place in
    element_past (terms_view c.args.terms.now) c.args.place (omega (arith, ints, same))

pub returns-clause-element : goal.returns-clause-element
returns-clause-element c =
    let same = to_z-of_z w128 c.args.place c.ranges.place in
    rw same (element_at (terms_view c.args.terms.now) c.args.place (omega (arith, ints, same)))
