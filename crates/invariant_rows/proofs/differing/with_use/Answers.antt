use Rattle.std.proofs.Common.{Some, sym, subst}
use Rattle.pure_terms.specs.View.{term_view}
use Rattle.sym_model.specs.Alternatives.{alternatives_view}
use Rattle.sym_model.specs.View.{use_view}
use Rattle.invariant_rows.specs.Asked.{AreComparisons}
use Rattle.invariant_rows.proofs.AskedLaws.{joined_comparisons}
use Rattle.invariant_rows.specs.Differing.{TellsNext}
use Rattle.invariant_rows.specs.View.{difference_view}
use Rattle.invariant_rows.proofs.DifferenceLaws.{next_same, next_key, next_unclear}
use Rattle.invariant_rows.proofs.differing.with_use.Goals as goal

pub returns-then-is_same_use-clause-tells : goal.returns-then-is_same_use-clause-tells
returns-then-is_same_use-clause-tells c = next_same (use_view c.args.left.now) (use_view c.args.right.now) (difference_view c.args.later) (c.is_same_use.ensures c.if-is_same_use.true)

pub returns-then-have_same_key-clause-tells : goal.returns-then-have_same_key-clause-tells
returns-then-have_same_key-clause-tells c =
    let u = use_view c.args.left.now in
    let t = use_view c.args.right.now in
    let d = difference_view c.args.later in
    subst (λ x. TellsNext u t d (record { alternatives = x; unclear = d.unclear })) (sym c.in_ok-alternatives.ensures)
    (next_key u t d (alternatives_view c.in_ok-here.here) (c.have_same_key.ensures c.if-have_same_key.true) c.in_ok-here.ensures.tells)

pub returns-clause-tells : goal.returns-clause-tells
returns-clause-tells c =
    let u = use_view c.args.left.now in
    let t = use_view c.args.right.now in
    let d = difference_view c.args.later in
    let k = term_view c.in_ok-term.term in
    subst (λ x. TellsNext u t d (record { alternatives = x; unclear = Some k })) (sym c.never.ensures) (next_unclear u t d k c.in_ok-term.ensures)

pub returns-then-is_same_use-clause-asked : goal.returns-then-is_same_use-clause-asked
returns-then-is_same_use-clause-asked c = λ all. all

pub returns-then-have_same_key-clause-asked : goal.returns-then-have_same_key-clause-asked
returns-then-have_same_key-clause-asked c = λ all.
    let d = difference_view c.args.later in
    subst AreComparisons (sym c.in_ok-alternatives.ensures) (joined_comparisons d.alternatives (alternatives_view c.in_ok-here.here) all c.in_ok-here.ensures.asked)

pub returns-clause-asked : goal.returns-clause-asked
returns-clause-asked c = λ all. subst AreComparisons (sym c.never.ensures) tt
