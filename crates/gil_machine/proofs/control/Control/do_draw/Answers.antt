-- The input is found, and the draw counted.
use Rattle.std.proofs.Common.{◌≡◌, ◌+◌, Some, None, slice_get, sym, ap, subst, arith}
use Rattle.std.proofs.lemmas.Result.{IfOk-weaker}
use Rattle.gil_values.proofs.Lists.{slice_get-read}
use Rattle.gil_values.specs.View.{value_view, values_view}
use Rattle.gil_machine.specs.SlotNames.{name_at}
use Rattle.gil_machine.specs.Standing.{Comes, slots_of}
use Rattle.gil_machine.specs.Step.{draw}
use Rattle.gil_machine.proofs.control.Control.do_draw.Goals as goal

pub returns-in-Some-clause-does : goal.returns-in-Some-clause-does
returns-in-Some-clause-does c = IfOk-weaker c.draw.result _ _ (λ end goes. λ p m here h s stands heap.
    let there : slice_get (values_view c.args.inputs.now) s.draws ≡ Some (value_view c.in-Some.input.now) =
    subst (λ n. slice_get (values_view c.args.inputs.now) n ≡ Some (value_view c.in-Some.input.now)) (sym stands.draws)
    (subst (λ vs. slice_get vs c.args.self.now.draws ≡ Some (value_view c.in-Some.input.now)) c.as_slice.ensures
    (slice_get-read value_view c.as_slice.result.now c.args.self.now.draws c.in-Some.input.now (omega (arith, c.in-Some.ensures.lookup)) c.in-Some.ensures.lookup.1)) in
    subst (λ o. Comes p None (draw o (name_at (slots_of c.args.self.now) c.args.slot) c.args.kind (record s { draws = s.draws + 1 })) end c.draw.new.self h) (sym there)
    (subst (Comes p None (draw (Some (value_view c.in-Some.input.now)) (name_at (slots_of c.args.self.now) c.args.slot) c.args.kind (record s { draws = s.draws + 1 })) end c.draw.new.self) heap
    (goes p (record s { draws = s.draws + 1 })
    (record { current = stands.current; callers = stands.callers; counter = stands.counter; draws = ap (λ n. n + 1) stands.draws })))) c.draw.ensures.does
