use Rattle.std.proofs.Common.{◌≡◌, true, ap, sym, subst, ◌∙◌, rules}
use Rattle.pure_terms.specs.declared.terms.Term
use Rattle.pure_terms.specs.declared.terms.Term.{the_lemmas}
use Rattle.pure_terms.specs.Pure.{unary_of, binary_of}
use Rattle.pure_terms.specs.Rewriting.{Replaces}
use Rattle.pure_terms.specs.View.{term_view}
use Rattle.sym_engine.proofs.Leaving.{if_ok_three}
use Rattle.sym_engine.proofs.guarded.+simpler.Goals as goal
use Rattle.sym_evaluation.specs.Questions.{stands_as_it_is, MayStandForPart, MayStandForGuard}
use Rattle.sym_evaluation.proofs.GuardTerms.{part_stands, negation_stands, connective_stands, binary_stands}

pub returns-in_ok-new-in-Op1 : goal.returns-in_ok-new-in-Op1
returns-in_ok-new-in-Op1 g t c =
    let operand : MayStandForGuard (term_view c.in-Op1.operand.value) (term_view c.in_ok-operand-in-Op1.operand) = rw (sym c.deref.ensures) c.in_ok-operand-in-Op1.ensures in
    let from : term_view c.args.term.now ≡ unary_of c.in-Op1.op (term_view c.in-Op1.operand.value) = ap term_view c.in-Op1.is ∙ search (rules, the_lemmas) in
    let to : term_view (Term.Op1 c.in-Op1.op c.in_ok-new-in-Op1.field-0) ≡ unary_of c.in-Op1.op (term_view c.in_ok-operand-in-Op1.operand) = search (rules, the_lemmas, c.in_ok-new-in-Op1.ensures) in
    rw (from, to) (negation_stands c.in-Op1.op (term_view c.in-Op1.operand.value) (term_view c.in_ok-operand-in-Op1.operand) (sym c.is_negation.ensures ∙ c.if-not-is_negation.false) operand)

pub returns-in_ok-new-in-Op2-2 : goal.returns-in_ok-new-in-Op2-2
returns-in_ok-new-in-Op2-2 g t c =
    let left : MayStandForGuard (term_view c.in-Op2.left.value) (term_view c.in_ok-left-in-Op2.left) = rw (sym c.deref-in-Op2.ensures) c.in_ok-left-in-Op2.ensures in
    let right : MayStandForGuard (term_view c.in-Op2.right.value) (term_view c.in_ok-right-in-Op2.right) = rw (sym c.deref-in-Op2-2.ensures) c.in_ok-right-in-Op2.ensures in
    let from : term_view c.args.term.now ≡ binary_of c.in-Op2.op (term_view c.in-Op2.left.value) (term_view c.in-Op2.right.value) = ap term_view c.in-Op2.is ∙ search (rules, the_lemmas) in
    let to : term_view (Term.Op2 c.in-Op2.op c.in_ok-new-in-Op2.field-0 c.in_ok-new-in-Op2-2.field-0) ≡ binary_of c.in-Op2.op (term_view c.in_ok-left-in-Op2.left) (term_view c.in_ok-right-in-Op2.right) =
    search (rules, the_lemmas, c.in_ok-new-in-Op2.ensures, c.in_ok-new-in-Op2-2.ensures) in
    rw (from, to) (connective_stands c.in-Op2.op (term_view c.in-Op2.left.value) (term_view c.in-Op2.right.value) (term_view c.in_ok-left-in-Op2.left) (term_view c.in_ok-right-in-Op2.right) (sym c.is_connective.ensures ∙ c.if-not-is_connective.false) left right)

pub returns-then-not-is_connective : goal.returns-then-not-is_connective
returns-then-not-is_connective g t c =
    let term = term_view c.args.term.now in
    let whole = binary_of c.in-Op2.op (term_view c.in-Op2.left.value) (term_view c.in-Op2.right.value) in
    let from : term ≡ whole = ap term_view c.in-Op2.is ∙ search (rules, the_lemmas) in
    if_ok_three (λ u. Replaces term (term_view u)) (λ u. stands_as_it_is term ≡ true → term_view u ≡ term) (λ u. stands_as_it_is term ≡ true → term_view u ≡ term) (λ u. MayStandForGuard term (term_view u)) c.simpler_part-then-not-is_connective.result
    (λ u replaces same again.
    subst (λ w. MayStandForGuard w (term_view u)) (sym from)
    (binary_stands c.in-Op2.op (term_view c.in-Op2.left.value) (term_view c.in-Op2.right.value) (term_view u) (sym c.is_connective.ensures ∙ c.if-not-is_connective.true)
    (subst (λ w. MayStandForPart w (term_view u)) from (part_stands term (term_view u) replaces same))))
    c.simpler_part-then-not-is_connective.ensures.replaces c.simpler_part-then-not-is_connective.ensures.same c.simpler_part-then-not-is_connective.ensures.same
