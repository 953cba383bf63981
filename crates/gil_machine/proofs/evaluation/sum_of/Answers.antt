-- The operands have their numbers, and the operator gives the value of those.
use Rattle.std.proofs.Common.{◌≡◌, Option, Some, None, Ok, sym, ap, ◌∙◌, rules}
use Rattle.std.specs.Option.{IfSome}
use Rattle.gil_values.specs.Operators.{binary}
use Rattle.gil_values.specs.Pure.{integer}
use Rattle.gil_syntax.specs.Pure.{binary_of}
use Rattle.gil_machine.specs.declared.resolved.Resolved.{the_lemmas}
use Rattle.gil_machine.specs.Held.{after_held, evaluate_held, held}
use Rattle.gil_machine.specs.ResolvedView.{resolved_view}
use Rattle.gil_machine.proofs.evaluation.sum_of.Goals as goal

if_some : {X : Type 0} (P Q : X → Type 0) → ((x : X) → P x → Q x) → (o : Option X) → IfSome o P → IfSome o Q
if_some P Q weaker (Some x) has = weaker x has
if_some P Q weaker None has = tt

pub returns-in_ok-n-in-Op2 : goal.returns-in_ok-n-in-Op2
returns-in_ok-n-in-Op2 c = if_some _ _ (λ v is. λ names s keeps.
    let seen : resolved_view names c.args.expression.now ≡ binary_of c.in-Op2.op (resolved_view names c.in-Op2.left.value) (resolved_view names c.in-Op2.right.value) = ap (resolved_view names) c.in-Op2.is ∙ search (rules, the_lemmas) in
    let left : evaluate_held (resolved_view names c.in-Op2.left.value) s ≡ Ok (integer c.in_ok-m-in-Op2.m.now) = rw (sym c.deref.ensures) (c.in_ok-m-in-Op2.ensures names s keeps) in
    let right : evaluate_held (resolved_view names c.in-Op2.right.value) s ≡ Ok (integer c.in_ok-n-in-Op2.n.now) = rw (sym c.deref-in-Op2.ensures) (c.in_ok-n-in-Op2.ensures names s keeps) in
    ap (λ e. evaluate_held e s) seen
    ∙ ap (λ h. after_held h (λ a. after_held (evaluate_held (resolved_view names c.in-Op2.right.value) s) (λ b. held (binary c.in-Op2.op a b)))) left
    ∙ ap (λ h. after_held h (λ b. held (binary c.in-Op2.op (integer c.in_ok-m-in-Op2.m.now) b))) right
    ∙ is) c.add_or_subtract.result c.add_or_subtract.ensures
