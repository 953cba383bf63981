use Rattle.std.proofs.Common.{◌∙◌, arith}
use Rattle.std.proofs.lemmas.Int.{to_z-of_z, ints}
use Rattle.std.specs.Int.{w128}
use Rattle.pure_terms.specs.View.{terms_view}
use Rattle.pure_terms.proofs.Folded.{element_at, element_past, element_below}
use Rattle.rewrite_book.proofs.lists.find_element.Goals as goal

pub returns-then-place-lt0 : goal.returns-then-place-lt0
returns-then-place-lt0 c =
    let same = to_z-of_z w128 c.args.place c.ranges.place in
    element_below (terms_view c.args.terms.now) c.args.place (omega (arith, ints, same))

pub returns-then-place-len : goal.returns-then-place-len
returns-then-place-len c =
    let same = to_z-of_z w128 c.args.place c.ranges.place in
    element_past (terms_view c.args.terms.now) c.args.place (omega (arith, ints, same))

pub returns : goal.returns
returns c =
    let same = to_z-of_z w128 c.args.place c.ranges.place in
    c.get.ensures ∙ rw same (element_at (terms_view c.args.terms.now) c.args.place (omega (arith, ints, same)))
