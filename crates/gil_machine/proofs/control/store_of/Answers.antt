-- The parameters from the last, each with its value.
use Rattle.std.proofs.Common.{◌≡◌, ℕ, ◌+◌, ◌-◌, ◌<◌, Some, slice_get, get_or, length, drop, map, sym, ap, subst, ◌∙◌, arith}
use Rattle.std.specs.List.{All}
use Rattle.std.proofs.lemmas.List.{get_or_default, length-map}
use Rattle.gil_values.proofs.Lists.{slice_get-read}
use Rattle.gil_values.specs.View.{value_view, values_view}
use Rattle.gil_machine.specs.Kept.{Keeps}
use Rattle.gil_machine.specs.ResolvedWhole.{proc_slots}
use Rattle.gil_machine.specs.SlotNames.{name_at}
use Rattle.gil_machine.specs.Step.{bind_all}
use Rattle.gil_machine.specs.StoreView.{store_view}
use Rattle.gil_machine.proofs.Standings.{sets_keeps, bind_one}
use Rattle.gil_machine.proofs.control.store_of.Goals as goal

pub loop-i-preserved : goal.loop-i-preserved
loop-i-preserved c =
    let names = proc_slots c.args.proc.now in
    let params = c.args.proc.now.proc.now.params in
    let slots = c.as_slice-params.result.now in
    let slot : ℕ = get_or slots (c.loop-i.i - 1) 0 in
    let next : c.loop-i.i - 1 + 1 ≡ c.loop-i.i = omega (arith, c.loop-i-test.true) in
    let seen : map (name_at names) slots ≡ params = subst (λ xs. map (name_at names) xs ≡ params) (sym c.as_slice-params.ensures.value) c.requires.resolved.params_seen in
    let long : length c.as_slice-values.result.now ≡ length (values_view c.args.args.now) = sym (length-map c.as_slice-values.result.now value_view) ∙ ap length c.as_slice-values.ensures in
    let wide : length slots ≡ length params = sym (length-map slots (name_at names)) ∙ ap length seen in
    let below : c.loop-i.i - 1 < length slots = omega (arith, long, wide) in
    let placed : slot < length names = subst (All (λ i. i < length names)) (sym c.as_slice-params.ensures.value) c.requires.resolved.params_placed (c.loop-i.i - 1) 0 below in
    let name : slice_get params (c.loop-i.i - 1) ≡ Some (name_at names slot)
    = subst (λ xs. slice_get xs (c.loop-i.i - 1) ≡ Some (name_at names slot)) seen (slice_get-read (name_at names) slots (c.loop-i.i - 1) slot below (get_or_default slots (c.loop-i.i - 1) 0 slot below)) in
    let value : slice_get (values_view c.args.args.now) (c.loop-i.i - 1) ≡ Some (value_view c.in_ok-value.value)
    = subst (λ vs. slice_get vs (c.loop-i.i - 1) ≡ Some (value_view c.in_ok-value.value)) c.as_slice-values.ensures
    (slice_get-read value_view c.as_slice-values.result.now (c.loop-i.i - 1) c.index-values-i.result (omega arith) c.index-values-i.is ∙ ap Some (sym c.in_ok-value.ensures)) in
    let one = bind_one params (values_view c.args.args.now) (c.loop-i.i - 1) (name_at names slot) (value_view c.in_ok-value.value) name value in
    subst (Keeps names (store_view c.set.new.self)) (sym one)
    (sets_keeps names (store_view c.loop-i.store) (store_view c.set.new.self) _ slot (value_view c.in_ok-value.value) c.requires.resolved.table placed c.in_ok-set.ensures.sets
    (subst (λ n. Keeps names (store_view c.loop-i.store) (bind_all (drop n params) (drop n (values_view c.args.args.now)))) (sym next) c.loop-i.invariant))
