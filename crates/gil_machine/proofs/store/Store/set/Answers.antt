use Rattle.std.proofs.Common.{◌≡◌, eqb, cond, length, Some, sym, ap, subst, ◌∙◌, arith}
use Rattle.gil_values.specs.View.{value_view}
use Rattle.gil_machine.specs.Kept.{kept_value}
use Rattle.gil_machine.proofs.KeptValues.{seen, kept-set, kept-push}
use Rattle.gil_machine.proofs.store.Store.set.Goals as goal

pub returns-then-slot-len-clause-sets : goal.returns-then-slot-len-clause-sets
returns-then-slot-len-clause-sets c = λ j. kept-set c.args.self.now.values.items c.args.slot c.args.value (omega (arith, c.if-slot-len.true)) j

pub returns-in_ok-push-clause-sets : goal.returns-in_ok-push-clause-sets
returns-in_ok-push-clause-sets c = λ j.
    let middle = c.lengthen.new.self.values.items in
    subst (λ vs. kept_value (seen vs) j ≡ cond (eqb (length middle) j) (Some (value_view c.args.value)) (kept_value (seen middle) j)) (sym c.in_ok-push.ensures.items) (kept-push middle c.args.value j)
    ∙ ap (λ n. cond (eqb n j) (Some (value_view c.args.value)) (kept_value (seen middle) j)) c.in_ok-lengthen.ensures.count
    ∙ ap (cond (eqb c.args.slot j) (Some (value_view c.args.value))) (c.in_ok-lengthen.ensures.same j)
