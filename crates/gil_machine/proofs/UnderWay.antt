-- A step of a run under way.
use Rattle.std.proofs.Common.{◌≡◌, ℕ, zero, suc, true, List, Option, Some, None, refl, sym, ap₂, subst, ◌∙◌}
use Rattle.gil_values.specs.declared.places.Place.{Place}
use Rattle.gil_values.specs.Pure.{PureValue}
use Rattle.gil_syntax.specs.Pure.{PureParts}
use Rattle.gil_syntax.specs.WellMade.{is_well_made}
use Rattle.mem_model.specs.declared.keys.MemoryName.{MemoryName}
use Rattle.mem_model.specs.Heaps.{Heap}
use Rattle.mem_model.specs.Actions.{Actions, IsMemory}
use Rattle.gil_machine.specs.declared.control.Control.{Control}
use Rattle.gil_machine.specs.declared.endings.Ending.{Ending as KeptEnding}
use Rattle.gil_machine.specs.declared.endings.Ending.TheVariants as kept
use Rattle.gil_machine.specs.declared.running.End.{End as KeptEnd}
use Rattle.gil_machine.specs.declared.running.End.TheVariants.{Cut}
use Rattle.gil_machine.specs.Held.{HeldEnd, number, number_at, number_or, after_held_step, held_run}
use Rattle.gil_machine.specs.Proper.{IsProperStep}
use Rattle.gil_machine.specs.Run.{IsProperStart, start}
use Rattle.gil_machine.specs.Standing.{Stands, Comes, IsAtNumber, IsUnderWay, EndedAs, IsEndOf, HasMemory}
use Rattle.gil_machine.specs.State.{State, Step, goes_on, ends, cut}
use Rattle.gil_machine.specs.Step.{step}
use Rattle.gil_machine.proofs.Proper.{stays_proper, starts_proper}

module _ (p : PureParts) (memory : MemoryName) (m : Actions) (inputs : List PureValue) where
  goes_by : (n : ℕ) (o : Option Place) (r : Step) (s : State) (e : HeldEnd) (new : Control) (after : Heap)
      → Comes p o r None new after → IsProperStep memory r → number_or o s (after_held_step r (held_run p m inputs n)) ≡ e
      → IsUnderWay p memory m inputs new after n e
  goes_by n (Some place) r s e new after comes proper is = absurd comes
  goes_by n None (goes_on t) s e new after comes proper is = record { standing = record { state = t; stands = comes.0; heap = comes.1; proper = proper }; rest = is }
  goes_by n None (ends d) s e new after comes proper is = absurd comes

  -- a step leads on
  pub goes : (n : ℕ) (e : HeldEnd) (old new : Control) (before after : Heap)
      → is_well_made p ≡ true → IsMemory memory m
      → IsUnderWay p memory m inputs old before (suc n) e
      → ((s : State) → Stands p old s → s.heap ≡ before → Comes p (number_at p s) (step p m inputs s) None new after)
      → IsUnderWay p memory m inputs new after n e
  goes n e old new before after made laws way does =
      let s = way.standing.state in
      goes_by n (number_at p s) (step p m inputs s) s e new after (does s way.standing.stands way.standing.heap) (stays_proper p memory m inputs s made laws way.standing.proper) way.rest

  number_ends : {M : Type 0} (heap : M → Heap) (mem : M) (answer : KeptEnd M) (place other : Place) (s : State) (e : HeldEnd) (before after : Heap)
      → other ≡ place → after ≡ before → s.heap ≡ before → number place s.heap ≡ e → HasMemory heap (kept.Number other) mem answer → heap mem ≡ after → IsEndOf heap answer e
  number_ends heap mem answer place other s e before after same stays heap_is is answers has =
      subst (IsEndOf heap answer) (ap₂ number same (has ∙ stays ∙ sym heap_is) ∙ is) answers

  ends_by : {M : Type 0} (heap : M → Heap) (mem : M) (answer : KeptEnd M) (n : ℕ) (o : Option Place) (r : Step) (s : State) (e : HeldEnd) (ending : KeptEnding) (new : Control) (before after : Heap)
      → Comes p o r (Some ending) new after → (IsAtNumber (Some ending) → after ≡ before) → s.heap ≡ before
      → number_or o s (after_held_step r (held_run p m inputs n)) ≡ e → HasMemory heap ending mem answer → heap mem ≡ after → IsEndOf heap answer e
  ends_by heap mem answer n (Some place) r s e (kept.Number other) new before after comes stays heap_is is answers has = number_ends heap mem answer place other s e before after comes (stays tt) heap_is is answers has
  ends_by heap mem answer n (Some place) r s e (kept.Returned v) new before after comes stays heap_is is answers has = absurd comes
  ends_by heap mem answer n (Some place) r s e (kept.Threw v at) new before after comes stays heap_is is answers has = absurd comes
  ends_by heap mem answer n (Some place) r s e (kept.Failed v at) new before after comes stays heap_is is answers has = absurd comes
  ends_by heap mem answer n (Some place) r s e kept.Vanished new before after comes stays heap_is is answers has = absurd comes
  ends_by heap mem answer n (Some place) r s e (kept.NoInput k) new before after comes stays heap_is is answers has = absurd comes
  ends_by heap mem answer n (Some place) r s e (kept.BadInput k) new before after comes stays heap_is is answers has = absurd comes
  ends_by heap mem answer n None (goes_on t) s e ending new before after comes stays heap_is is answers has = absurd comes
  ends_by heap mem answer n None (ends d) s e (kept.Number other) new before after comes stays heap_is is answers has = absurd comes.0
  ends_by heap mem answer n None (ends d) s e (kept.Returned v) new before after comes stays heap_is is answers has = subst (IsEndOf heap answer) is (answers d comes.0 (comes.1 ∙ sym has))
  ends_by heap mem answer n None (ends d) s e (kept.Threw v at) new before after comes stays heap_is is answers has = subst (IsEndOf heap answer) is (answers d comes.0 (comes.1 ∙ sym has))
  ends_by heap mem answer n None (ends d) s e (kept.Failed v at) new before after comes stays heap_is is answers has = subst (IsEndOf heap answer) is (answers d comes.0 (comes.1 ∙ sym has))
  ends_by heap mem answer n None (ends d) s e kept.Vanished new before after comes stays heap_is is answers has = subst (IsEndOf heap answer) is (answers d comes.0 (comes.1 ∙ sym has))
  ends_by heap mem answer n None (ends d) s e (kept.NoInput k) new before after comes stays heap_is is answers has = subst (IsEndOf heap answer) is (answers d comes.0 (comes.1 ∙ sym has))
  ends_by heap mem answer n None (ends d) s e (kept.BadInput k) new before after comes stays heap_is is answers has = subst (IsEndOf heap answer) is (answers d comes.0 (comes.1 ∙ sym has))

  -- a step ends the run
  pub stops : {M : Type 0} (heap : M → Heap) (mem : M) (answer : KeptEnd M) (n : ℕ) (e : HeldEnd) (ending : KeptEnding) (old new : Control) (before : Heap)
      → IsUnderWay p memory m inputs old before (suc n) e
      → ((s : State) → Stands p old s → s.heap ≡ before → Comes p (number_at p s) (step p m inputs s) (Some ending) new (heap mem))
      → (IsAtNumber (Some ending) → heap mem ≡ before)
      → HasMemory heap ending mem answer → IsEndOf heap answer e
  stops heap mem answer n e ending old new before way does stays answers =
      let s = way.standing.state in
      ends_by heap mem answer n (number_at p s) (step p m inputs s) s e ending new before (heap mem) (does s way.standing.stands way.standing.heap) stays way.standing.heap way.rest answers refl

  -- no step is left
  pub is_cut : {M : Type 0} (heap : M → Heap) (mem : M) (e : HeldEnd) (c : Control) → IsUnderWay p memory m inputs c (heap mem) zero e → IsEndOf heap (Cut mem) e
  is_cut heap mem e c way = subst (EndedAs cut (heap mem)) way.rest (refl, way.standing.heap)

  -- the run begins
  pub begins : (f : List ℕ) (args : List PureValue) (h : Heap) (counter : ℕ) (bound : ℕ) (c : Control)
      → IsProperStart p memory f args h counter → Stands p c (start p f args h counter)
      → IsUnderWay p memory m inputs c h bound (held_run p m inputs bound (start p f args h counter))
  begins f args h counter bound c is stands = record {
    standing = record { state = start p f args h counter; stands = stands; heap = refl; proper = starts_proper p memory f args h counter is };
    rest = refl;
  }
