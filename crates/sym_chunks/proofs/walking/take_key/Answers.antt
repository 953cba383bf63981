use Rattle.std.proofs.Common.{ap, sym, ◌∙◌, arith}
use Rattle.pure_terms.specs.View.{term_view}
use Rattle.sym_chunks.specs.Walking.{sure_place}
use Rattle.sym_model.specs.View.{frag_view, sub_view}
use Rattle.sym_chunks.proofs.Loops.{sure_below}
use Rattle.sym_chunks.proofs.walking.take_key.Goals as goal

pub remove-requires : goal.remove-requires
remove-requires c =
    let below = sure_below (term_view c.args.l.now) (sub_view c.args.s.now) 0 c.in-Some.index (frag_view c.args.way.left)
    (ap (sure_place (term_view c.args.l.now) (sub_view c.args.s.now) 0) (sym c.as_slice.ensures) ∙ sym c.in_ok-place.ensures ∙ c.in-Some.is) in omega (arith, below)
