-- Runs without a frame tell of those beside any frame.
use Rattle.std.proofs.Common.{◌≡◌, ◌⊎◌, ⊎_elim, inl, inr, ℕ, ◌≤◌, List, true, refl, sym, ap, subst, ◌∙◌, arith}
use Rattle.std.specs.FinMap.{empty}
use Rattle.std.proofs.lemmas.Bool.{cases_lt}
use Rattle.gil_values.specs.Pure.{PureValue}
use Rattle.gil_syntax.specs.Evaluation.{Store}
use Rattle.gil_syntax.specs.Pure.{PureSpec, PureItem, PureParts}
use Rattle.gil_syntax.specs.WellMade.{is_well_made}
use Rattle.mem_model.specs.declared.keys.MemoryName.{MemoryName}
use Rattle.mem_model.specs.Actions.{Actions, IsMemory}
use Rattle.mem_model.specs.Heaps.{Heap, Holds, IsDisjoint, IsWellFormed, joined}
use Rattle.mem_model.proofs.Compatible.{first_part}
use Rattle.gil_machine.specs.Beside.{end_beside}
use Rattle.gil_machine.specs.Proper.{IsProperState}
use Rattle.gil_machine.specs.Run.{run_of, start}
use Rattle.gil_machine.specs.State.{Ending, returned, threw, failed, vanished, no_input, bad_input, cut, End, IsFailed, IsOver}
use Rattle.gil_machine.proofs.Proper.{starts_proper}
use Rattle.gil_machine.proofs.Runs.{stays_over}
use Rattle.runs_beside.specs.Laws.{StandsBeside, EndsBeside}
use Rattle.runs_beside.proofs.Runs.{runs_without_a_failure_are_local}
use Rattle.assert_logic.proofs.UnionLaws.{union_commutes, union_with_none, only_second, union_at}
use Rattle.checked_runs.specs.Specifications.{Leaves, EndsAsTold, SpecHolds}
use Rattle.checked_runs.proofs.Parts.{union_parts}
use Rattle.inferred_specs.specs.Inferred.{IsFinish, Finishes, IsCutOff, StartsIn, StartsAlone, EachRun}
use Rattle.inferred_specs.specs.Laws.{EachRunAlone, FinishesAsTold, RunsAloneTell}

-- ---- endings

finish_sound : (e : Ending) → IsFinish e → ¬ IsFailed e
finish_sound (returned v) finish fails = fails
finish_sound (threw v place) finish fails = fails
finish_sound (failed v place) finish fails = finish
finish_sound vanished finish fails = finish
finish_sound (no_input k) finish fails = finish
finish_sound (bad_input k) finish fails = finish
finish_sound cut finish fails = finish

finish_over : (e : Ending) → IsFinish e → IsOver e
finish_over (returned v) finish = tt
finish_over (threw v place) finish = tt
finish_over (failed v place) finish = tt
finish_over vanished finish = tt
finish_over (no_input k) finish = tt
finish_over (bad_input k) finish = tt
finish_over cut finish = finish

over_or_cut : (e : Ending) → IsOver e ⊎ (e ≡ cut)
over_or_cut (returned v) = inl tt
over_or_cut (threw v place) = inl tt
over_or_cut (failed v place) = inl tt
over_or_cut vanished = inl tt
over_or_cut (no_input k) = inl tt
over_or_cut (bad_input k) = inl tt
over_or_cut cut = inr refl

module _ (p : PureParts) (memory : MemoryName) (m : Actions) (s : PureSpec) where
  -- ---- starts

  start_alone : (args : List PureValue) (variables : Store) (own frame whole : Heap) (counter : ℕ) → StartsIn p memory m s args variables own frame whole counter → StartsAlone p memory m s args variables own counter
  start_alone args variables own frame whole counter starts = record {
    entered = starts.entered;
    meets = starts.meets;
    union = union_with_none own;
    proper = record {
      procedure = starts.proper.procedure;
      heap = (union_parts memory whole own frame starts.union starts.proper.heap).0;
      arguments_below = starts.proper.arguments_below;
      heap_below = λ k v is. starts.proper.heap_below k v (subst (λ h. Holds h k v) (sym starts.union.union) (first_part own frame starts.union.disjoint k v is));
    };
    variables_below = starts.variables_below;
  }

  stands_beside : (args : List PureValue) (variables : Store) (own frame whole : Heap) (counter : ℕ) → StartsIn p memory m s args variables own frame whole counter → StandsBeside memory (start p s.name args own counter) frame
  stands_beside args variables own frame whole counter starts =
      let parts = union_parts memory whole own frame starts.union starts.proper.heap in
      record {
        heap = parts.0;
        rest_heap = parts.1;
        compatible = record { disjoint = starts.union.disjoint; union_well_formed = subst IsWellFormed starts.union.union starts.proper.heap.well_formed };
        proper = subst (λ h. IsProperState memory (start p s.name args h counter)) starts.union.union (starts_proper p memory s.name args whole counter starts.proper);
      }

  -- ---- runs

  module _ (made : is_well_made p ≡ true) (is_memory : IsMemory memory m) (n : ℕ) where
    -- a run that doesn't fail has the same end beside the frame
    record RunsAlike (args : List PureValue) (own frame whole : Heap) (counter : ℕ) (inputs : List PureValue) : Type 0 where
      same : run_of p m s.name args whole counter inputs n ≡ end_beside frame (run_of p m s.name args own counter inputs n)
      disjoint : IsDisjoint (run_of p m s.name args own counter inputs n).heap frame

    runs_alike : (args : List PureValue) (variables : Store) (own frame whole : Heap) (counter : ℕ) (inputs : List PureValue) → StartsIn p memory m s args variables own frame whole counter → ¬ IsFailed (run_of p m s.name args own counter inputs n).ending
        → RunsAlike args own frame whole counter inputs
    runs_alike args variables own frame whole counter inputs starts sound =
        let ends : EndsBeside p m inputs n (start p s.name args own counter) frame = runs_without_a_failure_are_local p memory m inputs (start p s.name args own counter) frame made is_memory (stands_beside args variables own frame whole counter starts) n sound in
        record { same = ap (λ h. run_of p m s.name args h counter inputs n) starts.union.union ∙ ends.same; disjoint = ends.compatible.disjoint }

    finishes_beside : (frame : Heap) (e : End) → Finishes e → Finishes (end_beside frame e)
    finishes_beside frame e finishes = record { finish = finishes.finish; no_draw = finishes.no_draw }

    cut_beside : (frame : Heap) (e : End) → IsCutOff e → IsCutOff (end_beside frame e)
    cut_beside frame e off = record { is_cut = off.is_cut; no_draw = off.no_draw }

    all_finish : EachRunAlone p memory m s n (λ args variables e. Finishes e) → EachRun p memory m s n Finishes
    all_finish alone args variables own frame whole counter inputs starts =
        let e = run_of p m s.name args own counter inputs n in
        let finishes : Finishes e = alone args variables own counter inputs (start_alone args variables own frame whole counter starts) in
        let alike = runs_alike args variables own frame whole counter inputs starts (finish_sound e.ending finishes.finish) in
        subst Finishes (sym alike.same) (finishes_beside frame e finishes)

    all_cut : EachRunAlone p memory m s n (λ args variables e. IsCutOff e) → EachRun p memory m s n IsCutOff
    all_cut alone args variables own frame whole counter inputs starts =
        let e = run_of p m s.name args own counter inputs n in
        let off : IsCutOff e = alone args variables own counter inputs (start_alone args variables own frame whole counter starts) in
        let alike = runs_alike args variables own frame whole counter inputs starts (λ fails. subst IsFailed off.is_cut fails) in
        subst IsCutOff (sym alike.same) (cut_beside frame e off)

    -- ---- what is left

    module _ (args : List PureValue) (variables : Store) (frame : Heap) where
      leaves_beside : (v : PureValue) (posts : List (List PureItem)) (h : Heap) → IsDisjoint h frame → Leaves p s args variables empty v posts h → Leaves p s args variables frame v posts (joined h frame)
      leaves_beside v posts h disjoint (own, (union, meets)) =
          let same : h ≡ own = only_second h empty own (union_commutes h own empty union) refl in
          (own, (union_at (joined h frame) h frame own frame (record { disjoint = disjoint; union = refl }) same refl, meets))

      told_beside : (e : Ending) (h : Heap) → IsDisjoint h frame → EndsAsTold p s args variables empty e h → EndsAsTold p s args variables frame e (joined h frame)
      told_beside (returned v) h disjoint told = leaves_beside v s.posts h disjoint told
      told_beside (threw v place) h disjoint told = leaves_beside v s.errors h disjoint told
      told_beside (failed v place) h disjoint told = told
      told_beside vanished h disjoint told = tt
      told_beside (no_input k) h disjoint told = tt
      told_beside (bad_input k) h disjoint told = tt
      told_beside cut h disjoint told = tt

      -- the same run with any bound
      at_any_bound : (whole : Heap) (counter : ℕ) (inputs : List PureValue) (k : ℕ) → IsOver (run_of p m s.name args whole counter inputs n).ending
          → EndsAsTold p s args variables frame (run_of p m s.name args whole counter inputs n).ending (run_of p m s.name args whole counter inputs n).heap
          → EndsAsTold p s args variables frame (run_of p m s.name args whole counter inputs k).ending (run_of p m s.name args whole counter inputs k).heap
      at_any_bound whole counter inputs k over told = ⊎_elim (λ shorter. shorter_run (omega (arith, shorter)) (over_or_cut (run_of p m s.name args whole counter inputs k).ending)) (λ longer. longer_run longer) (cases_lt k n)
        where
          longer_run : n ≤ k → EndsAsTold p s args variables frame (run_of p m s.name args whole counter inputs k).ending (run_of p m s.name args whole counter inputs k).heap
          longer_run le = subst (λ e. EndsAsTold p s args variables frame e.ending e.heap) (sym (stays_over p m inputs n k (start p s.name args whole counter) le over)) told

          shorter_run : k ≤ n → IsOver (run_of p m s.name args whole counter inputs k).ending ⊎ ((run_of p m s.name args whole counter inputs k).ending ≡ cut) → EndsAsTold p s args variables frame (run_of p m s.name args whole counter inputs k).ending (run_of p m s.name args whole counter inputs k).heap
          shorter_run le (inl short) = subst (λ e. EndsAsTold p s args variables frame e.ending e.heap) (stays_over p m inputs k n (start p s.name args whole counter) le short) told
          shorter_run le (inr is_cut) = subst (λ e. EndsAsTold p s args variables frame e (run_of p m s.name args whole counter inputs k).heap) (sym is_cut) tt

    holds : EachRunAlone p memory m s n (FinishesAsTold p memory m s) → SpecHolds p memory m s
    holds alone args variables own frame whole counter inputs k entered meets union proper variables_below =
        let starts : StartsIn p memory m s args variables own frame whole counter = record { entered = entered; meets = meets; union = union; proper = proper; variables_below = variables_below } in
        let e = run_of p m s.name args own counter inputs n in
        let told : FinishesAsTold p memory m s args variables e = alone args variables own counter inputs (start_alone args variables own frame whole counter starts) in
        let alike = runs_alike args variables own frame whole counter inputs starts (finish_sound e.ending told.finishes.finish) in
        at_any_bound args variables frame whole counter inputs k
        (subst (λ f. IsOver f.ending) (sym alike.same) (finish_over e.ending told.finishes.finish))
        (subst (λ f. EndsAsTold p s args variables frame f.ending f.heap) (sym alike.same) (told_beside args variables frame e.ending e.heap alike.disjoint told.as_told))

pub runs_alone_tell : RunsAloneTell
runs_alone_tell = record {
  hold = λ p memory m s n made is_memory alone. holds p memory m s made is_memory n alone;
  finish = λ p memory m s n made is_memory alone. all_finish p memory m s made is_memory n alone;
  cut_off = λ p memory m s n made is_memory alone. all_cut p memory m s made is_memory n alone;
}
