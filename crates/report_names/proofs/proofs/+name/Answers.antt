use Rattle.std.proofs.Common.{◌≡◌, ◌++◌, ◌∷◌, [], Some, slice_get, sym, ap, ap₂, ◌∙◌, arith, rules}
use Rattle.pure_terms.specs.View.{term_view}
use Rattle.solver_proof.specs.declared.proofs.Proof.{the_lemmas}
use Rattle.solver_proof.specs.Pure.{cases_of, values_at, parts_at, differ_at, from_list}
use Rattle.solver_proof.specs.View.{proof_view, proofs_view}
use Rattle.solver_proof.proofs.Sizes.{size-element}
use Rattle.gil_syntax.specs.View.{expr_view}
use Rattle.gil_report.specs.declared.proofs.NamedProof
use Rattle.gil_report.specs.declared.proofs.NamedProof.{the_lemmas as named_lemmas}
use Rattle.gil_report.specs.Pure as named
use Rattle.gil_report.specs.View.{named_proof_view, named_proofs_view}
use Rattle.report_names.specs.Named.{expression_of, proof_of}
use Rattle.report_names.proofs.Listed.{proofs-from_list, named_more}
use Rattle.report_names.proofs.proofs.+name.Goals as goal

pub named_proof-returns-in_ok-proofs-in-Cases : goal.named_proof-returns-in_ok-proofs-in-Cases
named_proof-returns-in_ok-proofs-in-Cases t c =
    let names = c.args.names.now in
    let term = term_view c.in-Cases.term in
    let proofs = proofs_view c.in-Cases.proofs in
    let e = c.in_ok-expression-in-Cases.expression in
    let ps = c.in_ok-proofs-in-Cases.proofs in
    let seen : proof_view c.args.proof.now ≡ cases_of term (from_list proofs) = ap proof_view c.in-Cases.is ∙ search (rules, the_lemmas) in
    let shown : named_proof_view (NamedProof.Cases e ps) ≡ named.cases_of (expr_view e) (named.from_list (named_proofs_view ps)) = search (rules, named_lemmas) in
    shown ∙ ap₂ (λ x xs. named.cases_of x (named.from_list xs)) c.in_ok-expression-in-Cases.ensures c.in_ok-proofs-in-Cases.ensures
    ∙ sym (ap (proof_of names) seen ∙ ap (named.cases_of (expression_of names term)) (proofs-from_list names proofs))

pub named_proof-returns-in_ok-proofs-in-Values : goal.named_proof-returns-in_ok-proofs-in-Values
named_proof-returns-in_ok-proofs-in-Values t c =
    let names = c.args.names.now in
    let atom = c.in-Values.atom in
    let proofs = proofs_view c.in-Values.proofs in
    let ps = c.in_ok-proofs-in-Values.proofs in
    let seen : proof_view c.args.proof.now ≡ values_at atom (from_list proofs) = ap proof_view c.in-Values.is ∙ search (rules, the_lemmas) in
    let shown : named_proof_view (NamedProof.Values atom ps) ≡ named.values_at atom (named.from_list (named_proofs_view ps)) = search (rules, named_lemmas) in
    shown ∙ ap (λ xs. named.values_at atom (named.from_list xs)) c.in_ok-proofs-in-Values.ensures
    ∙ sym (ap (proof_of names) seen ∙ ap (named.values_at atom) (proofs-from_list names proofs))

pub named_proof-returns-in_ok-new-in-Parts-default-Some : goal.named_proof-returns-in_ok-new-in-Parts-default-Some
named_proof-returns-in_ok-new-in-Parts-default-Some t c =
    let names = c.args.names.now in
    let atom = c.in-Parts-default-Some.atom in
    let boxed = c.in_ok-new-in-Parts-default-Some.field-0 in
    let seen : proof_view c.args.proof.now ≡ parts_at atom (proof_view c.deref.result.now) = search (rules, the_lemmas) in
    let shown : named_proof_view (NamedProof.Parts atom (Some boxed)) ≡ named.parts_at atom (named_proof_view boxed.value) = search (rules, named_lemmas) in
    shown
    ∙ ap (λ p. named.parts_at atom (named_proof_view p)) c.in_ok-new-in-Parts-default-Some.ensures.ok
    ∙ ap (named.parts_at atom) c.in_ok-rest-in-Parts-default-Some.ensures
    ∙ sym (ap (proof_of names) seen)

pub named_proof-returns-in_ok-proofs-in-Differ : goal.named_proof-returns-in_ok-proofs-in-Differ
named_proof-returns-in_ok-proofs-in-Differ t c =
    let names = c.args.names.now in
    let atom = c.in-Differ.atom in
    let proofs = proofs_view c.in-Differ.proofs in
    let ps = c.in_ok-proofs-in-Differ.proofs in
    let seen : proof_view c.args.proof.now ≡ differ_at atom (from_list proofs) = ap proof_view c.in-Differ.is ∙ search (rules, the_lemmas) in
    let shown : named_proof_view (NamedProof.Differ atom ps) ≡ named.differ_at atom (named.from_list (named_proofs_view ps)) = search (rules, named_lemmas) in
    shown ∙ ap (λ xs. named.differ_at atom (named.from_list xs)) c.in_ok-proofs-in-Differ.ensures
    ∙ sym (ap (proof_of names) seen ∙ ap (named.differ_at atom) (proofs-from_list names proofs))

pub named_proofs-named_proof-requires : goal.named_proofs-named_proof-requires
named_proofs-named_proof-requires t c =
    let element : slice_get (proofs_view c.args.proofs.now) c.loop-index.index ≡ Some (proof_view c.in-Some.proof.now) = sym c.in-Some.ensures in
    let smaller = size-element _ c.loop-index.index _ element in
    (omega (arith, smaller), tt)

pub named_proofs-loop-index-preserved : goal.named_proofs-loop-index-preserved
named_proofs-loop-index-preserved t c =
    let element : slice_get (proofs_view c.args.proofs.now) c.loop-index.index ≡ Some (proof_view c.in-Some.proof.now) = sym c.in-Some.ensures in
    c.in_ok-push.ensures.ok ∙ ap₂ (λ xs x. xs ++ x ∷ []) c.loop-index.invariant c.in_ok-named_proof.ensures
    ∙ sym (named_more c.args.names.now (proofs_view c.args.proofs.now) c.loop-index.index _ element)
