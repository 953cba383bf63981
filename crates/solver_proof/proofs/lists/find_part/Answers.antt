use Rattle.std.proofs.Common.{◌≡◌, Some, slice_get, sym, arith}
use Rattle.pure_terms.specs.View.{term_view, terms_view}
use Rattle.solver_proof.proofs.Growing.{equality_found, past_left, past_right}
use Rattle.solver_proof.proofs.lists.find_part.Goals as goal

pub returns-in-Some-get : goal.returns-in-Some-get
returns-in-Some-get c =
    let left : slice_get (terms_view c.args.left.now) c.args.place ≡ Some (term_view c.in-Some.s.now) = sym c.in-Some.ensures in
    let right : slice_get (terms_view c.args.right.now) c.args.place ≡ Some (term_view c.in-Some-get.t.now) = sym c.in-Some-get.ensures in
    equality_found (terms_view c.args.left.now) (terms_view c.args.right.now) c.args.place _ _ left right

pub returns-in-None-get : goal.returns-in-None-get
returns-in-None-get c = omega (arith, past_right (terms_view c.args.left.now) (terms_view c.args.right.now) c.args.place (sym c.in-None-get.ensures))

pub returns-in-None : goal.returns-in-None
returns-in-None c = omega (arith, past_left (terms_view c.args.left.now) (terms_view c.args.right.now) c.args.place (sym c.in-None.ensures))
