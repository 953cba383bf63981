use Rattle.std.proofs.Common.{◌≡◌, Some, sym, ap, ◌∙◌}
use Rattle.pure_terms.specs.Pure.{PureTerm, negative}
use Rattle.pure_terms.specs.View.{term_view, terms_view}
use Rattle.solver_proof.specs.Chains.{equals}
use Rattle.solver_proof.proofs.Growing.{disequality_found}
use Rattle.path_solver.proofs.branches.difference_at.Goals as goal

pub returns : goal.returns
returns c =
    let first : term_view c.in_ok-copy-in-Some-get.field-0 ≡ term_view c.in-Some.s.now = c.in_ok-copy-in-Some-get.ensures in
    let second : term_view c.in_ok-copy-in-Some-get-2.field-0 ≡ term_view c.in-Some-get.t.now = c.in_ok-copy-in-Some-get-2.ensures in
    let all : term_view c.in_ok-difference-in-Some-get.difference ≡ equals (term_view c.in-Some.s.now) (term_view c.in-Some-get.t.now) = c.in_ok-difference-in-Some-get.ensures ∙ (λ i. equals (first i) (second i)) in
    disequality_found (terms_view c.args.left.now) (terms_view c.args.right.now) c.args.place (term_view c.in-Some.s.now) (term_view c.in-Some-get.t.now) (sym c.in-Some.ensures) (sym c.in-Some-get.ensures)
    ∙ ap (λ (t : PureTerm). Some (negative t)) (sym all)
