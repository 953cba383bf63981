use Rattle.std.proofs.Common.{sym, ap, ◌∙◌, ◌≡◌, ℕ, List, ◌∷◌, [], ◌++◌, length, Some, rules}
use Rattle.std.proofs.lemmas.Result.{err_from_is_err_and}
use Rattle.gil_report.specs.View.{named_proof_view, named_proofs_view}
use Rattle.value_text.specs.Reading.{before_no_comma, behind_comma}
use Rattle.value_text.proofs.Many.{goes_on, fails, ends, is_done}
use Rattle.gil_report.specs.declared.proofs.NamedProof
use Rattle.gil_report.specs.declared.proofs.NamedProof.{the_lemmas as named_lemmas}
use Rattle.gil_report.specs.Pure as pure
use Rattle.gil_report.specs.Pure.{PureNamedProof}
use Rattle.proof_text.specs.Reading.{from_elements_at, proof_at}
use Rattle.proof_text.proofs.proofs.+proof.Goals as goal

pub more_at-returns-then-ends_elements : goal.more_at-returns-then-ends_elements
more_at-returns-then-ends_elements t c =
    ends before_no_comma (behind_comma (proof_at c.args.inner)) (named_proofs_view c.loop.items) (length c.args.bytes.now) c.loop.counter c.loop.rest.now _
    c.loop-test.true (sym c.ends_elements.ensures ∙ c.if-ends_elements.true) c.loop.invariant

pub more_at-returns-in_err-item : goal.more_at-returns-in_err-item
more_at-returns-in_err-item t c =
    let p = err_from_is_err_and c.from_residual.result c.from_residual.ensures.1 in
    rw (p.1, p.2) (fails before_no_comma (behind_comma (proof_at c.args.inner)) (named_proofs_view c.loop.items) (length c.args.bytes.now) c.loop.counter c.loop.rest.now _
    c.in_err-item.field-0.0 c.loop-test.true (sym c.ends_elements.ensures ∙ c.if-ends_elements.false) c.in_err-item.ensures c.loop.invariant)

pub more_at-loop-preserved : goal.more_at-loop-preserved
more_at-loop-preserved t c =
    let e : named_proofs_view c.push.new.self ≡ named_proofs_view c.loop.items ++ named_proof_view c.in_ok-item.item ∷ [] = c.in_ok-push.ensures.ok in
    rw e (goes_on before_no_comma (behind_comma (proof_at c.args.inner)) (named_proofs_view c.loop.items) (length c.args.bytes.now) c.loop.counter c.loop.rest.now _
    (named_proof_view c.in_ok-item.item) c.in_ok-item.behind.now c.loop-test.true (sym c.ends_elements.ensures ∙ c.if-ends_elements.false)
    c.in_ok-item.ensures c.loop.invariant)

pub more_at-returns : goal.more_at-returns
more_at-returns t c =
    is_done before_no_comma (behind_comma (proof_at c.args.inner)) (named_proofs_view c.loop.items) (length c.args.bytes.now) c.loop.counter c.loop.rest.now _ c.loop-test.false c.loop.invariant

from_elements : (inner atom : ℕ) (bytes rest : List ℕ) (p seen : PureNamedProof) → proof_at inner bytes ≡ Some (p, rest) → seen ≡ pure.parts_at atom p
    → from_elements_at (proof_at inner) atom bytes ≡ Some (seen, rest)
unfolding from_elements_at
from_elements inner atom bytes rest p seen read is = rw read (ap (λ q. Some (q, rest)) (sym is))

pub from_elements_at-returns : goal.from_elements_at-returns
from_elements_at-returns t c =
    let atom = c.args.atom in
    let boxed = c.in_ok-new.field-0 in
    let shown : named_proof_view (NamedProof.Parts atom (Some boxed)) ≡ pure.parts_at atom (named_proof_view boxed.value) = search (rules, named_lemmas) in
    from_elements c.args.inner atom c.args.bytes.now c.in_ok-proof.rest.now (named_proof_view c.in_ok-proof.proof) _ c.in_ok-proof.ensures
    (shown ∙ ap (λ p. pure.parts_at atom (named_proof_view p)) c.in_ok-new.ensures.ok)
