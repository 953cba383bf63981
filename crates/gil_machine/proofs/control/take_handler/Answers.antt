-- The callers that are left find the same handler.
use Rattle.std.proofs.Common.{◌≡◌, ◌-◌, [], ◌∷◌, ◌++◌, take, None, reverse, refl, sym, ap, subst, ◌∙◌}
use Rattle.std.proofs.lemmas.List.{reverse-append}
use Rattle.gil_machine.specs.Standing.{HandlingStands}
use Rattle.gil_machine.specs.Step.{handling}
use Rattle.gil_machine.proofs.Standings.{SameHandling, none_handles, first_handles, first_passes}
use Rattle.gil_machine.proofs.control.take_handler.Goals as goal

pub loop-caller-init : goal.loop-caller-init
loop-caller-init c = λ p frames stand. (frames, (stand, refl))

pub returns-in-Some-handler : goal.returns-in-Some-handler
returns-in-Some-handler c = λ p frames stand.
    let left : reverse c.loop-caller.callers.items ≡ c.in-Some.caller ∷ reverse c.pop.new.self.items = ap reverse c.in-Some.ensures.items ∙ reverse-append c.pop.new.self.items (c.in-Some.caller ∷ _) in
    first_handles p c.in-Some.caller (reverse c.pop.new.self.items) frames c.in-Some-handler.label c.in-Some-handler.is
    (subst (λ fs. SameHandling p fs frames) left (c.loop-caller.invariant p frames stand))

pub loop-caller-preserved : goal.loop-caller-preserved
loop-caller-preserved c = λ p frames stand.
    let left : reverse c.loop-caller.callers.items ≡ c.in-Some.caller ∷ reverse c.pop.new.self.items = ap reverse c.in-Some.ensures.items ∙ reverse-append c.pop.new.self.items (c.in-Some.caller ∷ _) in
    first_passes p c.in-Some.caller (reverse c.pop.new.self.items) frames c.in_default-handler.is
    (subst (λ fs. SameHandling p fs frames) left (c.loop-caller.invariant p frames stand))

pub returns : goal.returns
returns c = λ p frames stand.
    let after : c.pop.new.self.items ≡ [] = c.in_default.ensures.rest ∙ ap (λ n. take (n - 1) c.loop-caller.callers.items) c.in_default.ensures.cases.0 in
    let before : c.loop-caller.callers.items ≡ [] = c.in_default.ensures.items ∙ ap (λ fs. fs ++ []) after in
    subst (λ fs. HandlingStands p None (reverse fs) (handling frames)) (sym after)
    (none_handles p frames (subst (λ fs. SameHandling p (reverse fs) frames) before (c.loop-caller.invariant p frames stand)))
