-- What trails keep, and what they say in the words of the laws.
use Rattle.std.proofs.Common.{◌≡◌, ◌⊎◌, ⊎_elim, inl, inr, ℕ, ◌+◌, List, [], ◌∷◌, length, None, sym, subst, arith}
use Rattle.gil_values.specs.Pure.{PureValue}
use Rattle.gil_syntax.specs.Pure.{PureParts}
use Rattle.mem_model.specs.Actions.{Actions}
use Rattle.mem_model.specs.Heaps.{Heap}
use Rattle.pure_terms.specs.Meaning.{Satisfies}
use Rattle.pure_terms.specs.Pure.{PureTerm, PureAtom}
use Rattle.sym_engine.specs.Lawful.{IsOwnAt, IsAskedByMemoryAt}
use Rattle.sym_step.specs.ExplorationLaws.{EndsAreOfRuns, IsTraced, TrailsReplay, TrailsHoldAlong, TrailsMayEndBefore, TrailsKeep}
use Rattle.sym_step.specs.Trails.{IsNextPath, IsTrail, IsAssumedOn}
use Rattle.sym_step.proofs.RunSteps.{ends_are_of_runs, ends_stay}
use Rattle.sym_step.proofs.Trails.{trail_over, replay, replay_choices, never_cut, along, back}
use Rattle.sym_model.specs.Lists.{Each, OneOf, IsAmong}
use Rattle.sym_model.specs.Terms.{StateTerms}
use Rattle.sym_model.proofs.ListLaws.{each_append, each_to, each_is_among, one_left}
use Rattle.sym_paths.specs.Frames.{running_store}
use Rattle.sym_paths.specs.Pure.{PurePath}
use Rattle.sym_paths.specs.Steps.{IsUnknown, MayAssume}

pub ends_of_runs : EndsAreOfRuns
ends_of_runs p m inputs s0 s n e after = (ends_are_of_runs p m inputs s0 s n e after, ends_stay p m inputs s0 s n e after)

module _ {S : Type 0} (p : PureParts) (m : Actions) (stands : S → List PureValue → Heap → Type 0) (terms : S → StateTerms)
    (asked : List ℕ → List PureTerm → List PureTerm × List PureTerm) where
  abbrev IsTrailOf : PurePath S → List (PurePath S) → PurePath S → Type 0
  IsTrailOf = IsTrail p m stands terms asked

  steps_counted : (start path : PurePath S) (earlier : List (PurePath S)) → IsTrailOf start earlier path → path.steps ≡ start.steps + length earlier
  steps_counted start path [] trail = subst (λ (q : PurePath S). q.steps ≡ start.steps + 0) (sym trail) (omega arith)
  steps_counted start path (before ∷ earlier) (next, trail) =
      let so_far : before.steps ≡ start.steps + length earlier = steps_counted start before earlier trail in
      let more : path.steps ≡ before.steps + 1 = next.growth.steps in
      omega (arith, so_far, more)

  abbrev Traced : PurePath S → List (PurePath S) → PureAtom → Type 0
  Traced = IsTraced p m stands terms asked

  traced_later : (start before : PurePath S) (earlier : List (PurePath S)) (a : PureAtom) → Traced start earlier a → Traced start (before ∷ earlier) a
  traced_later start before earlier a is = ⊎_elim inl (λ own. inr (inr own)) is

  traced_new : (start before : PurePath S) (earlier : List (PurePath S)) (a : PureAtom) → IsOwnAt stands terms asked m p before a → Traced start (before ∷ earlier) a
  traced_new start before earlier a own = inr (inl own)

  all_traced : (start path : PurePath S) (earlier : List (PurePath S)) → IsTrailOf start earlier path → Each (Traced start earlier) path.conds
  all_traced start path [] trail =
      subst (λ (q : PurePath S). Each (Traced start []) q.conds) (sym trail) (each_to (λ a. IsAmong a start.conds) (Traced start []) start.conds (λ a is. inl is) (each_is_among start.conds))
  all_traced start path (before ∷ earlier) (next, trail) =
      let own = next.own_conditions in
      subst (Each (Traced start (before ∷ earlier))) (sym own.conds)
      (each_append (Traced start (before ∷ earlier)) before.conds own.added
      (each_to (Traced start earlier) (Traced start (before ∷ earlier)) before.conds (traced_later start before earlier) (all_traced start before earlier trail))
      (each_to (IsOwnAt stands terms asked m p before) (Traced start (before ∷ earlier)) own.added (traced_new start before earlier) own.each))

  abbrev Assumes : PurePath S → Type 0
  Assumes path = Each (λ a. IsAmong a path.conds) path.given

  among_more : (before path : PurePath S) → IsNextPath p m stands terms asked before path → (a : PureAtom) → IsAmong a before.conds → IsAmong a path.conds
  among_more before path next a is = subst (IsAmong a) (sym next.growth.conds) (one_left (λ b. b ≡ a) before.conds next.growth.new_conds is)

  all_assumed : (start path : PurePath S) (earlier : List (PurePath S)) → IsTrailOf start earlier path → Assumes start → Assumes path
  all_assumed start path [] trail had = subst Assumes (sym trail) had
  all_assumed start path (before ∷ earlier) (next, trail) had =
      subst (Each (λ a. IsAmong a path.conds)) (sym next.growth.given)
      (each_append (λ a. IsAmong a path.conds) before.given next.growth.new_given
      (each_to (λ a. IsAmong a before.conds) (λ a. IsAmong a path.conds) before.given (among_more before path next) (all_assumed start before earlier trail had)) next.growth.assumed)

  -- what the start had, and before a path that goes on what memories ask in actions
  abbrev InActions : PurePath S → List (PurePath S) → PureAtom → Type 0
  InActions start earlier a = IsAmong a start.given ⊎ OneOf (λ before. IsAskedByMemoryAt stands terms asked m p before a) earlier

  in_later_actions : (start before : PurePath S) (earlier : List (PurePath S)) (a : PureAtom) → InActions start earlier a → InActions start (before ∷ earlier) a
  in_later_actions start before earlier a is = ⊎_elim inl (λ later. inr (inr later)) is

  all_in_actions : (start path : PurePath S) (earlier : List (PurePath S)) → IsTrailOf start earlier path → path.ending ≡ None → Each (InActions start earlier) path.given
  all_in_actions start path [] trail going =
      subst (λ (q : PurePath S). Each (InActions start []) q.given) (sym trail) (each_to (λ a. IsAmong a start.given) (InActions start []) start.given (λ a is. inl is) (each_is_among start.given))
  all_in_actions start path (before ∷ earlier) (next, trail) going =
      let new = next.assumes in
      subst (Each (InActions start (before ∷ earlier))) (sym new.given)
      (each_append (InActions start (before ∷ earlier)) before.given new.added
      (each_to (InActions start earlier) (InActions start (before ∷ earlier)) before.given (in_later_actions start before earlier) (all_in_actions start before earlier trail next.going))
      (each_to (IsAskedByMemoryAt stands terms asked m p before) (InActions start (before ∷ earlier)) new.added (λ a here. inr (inl here)) (new.kept (inl going))))

  abbrev On : PurePath S → List (PurePath S) → PureAtom → Type 0
  On start earlier a = IsAmong a start.given ⊎ IsAssumedOn p m stands terms asked earlier a

  all_assumed_on : (start path : PurePath S) (earlier : List (PurePath S)) → IsTrailOf start earlier path → Each (On start earlier) path.given
  all_assumed_on start path [] trail =
      subst (λ (q : PurePath S). Each (On start []) q.given) (sym trail) (each_to (λ a. IsAmong a start.given) (On start []) start.given (λ a is. inl is) (each_is_among start.given))
  all_assumed_on start path (before ∷ earlier) (next, trail) =
      let (c, at) = next.at_command in
      let new = next.assumes in
      subst (Each (On start (before ∷ earlier))) (sym new.given)
      (each_append (On start (before ∷ earlier)) before.given new.added
      (each_to (InActions start earlier) (On start (before ∷ earlier)) before.given (λ a is. ⊎_elim inl (λ later. inr (inr later)) is) (all_in_actions start before earlier trail next.going))
      (each_to (MayAssume (IsOwnAt stands terms asked m p before) (running_store before.stack) c.command) (On start (before ∷ earlier)) new.added (λ a may. inr (inl (c, (at, may)))) (new.each c at)))

  abbrev IsMet : PurePath S → Type 0
  IsMet path = (w : List PureValue) × Satisfies path.vars w path.conds

  all_met : (start path : PurePath S) (earlier : List (PurePath S)) (v : List PureValue) → IsTrailOf start earlier path → Satisfies start.vars v start.conds → ¬ IsUnknown path.ending → IsMet path
  all_met start path [] v trail meets known = subst IsMet (sym trail) (v, meets)
  all_met start path (before ∷ earlier) v (next, trail) meets known =
      let (w, met) = all_met start before earlier v trail meets (λ unknown. subst IsUnknown next.going unknown) in
      next.satisfiable w met known

  pub trails_keep : TrailsKeep p m stands terms asked
  trails_keep = record {
    steps = steps_counted;
    over = λ start path earlier trail over. trail_over p m stands terms asked start earlier path trail over;
    traced = all_traced;
    assumed = all_assumed;
    assumed_on = all_assumed_on;
    satisfiable = all_met;
  }

  pub trails_replay : TrailsReplay p m stands terms asked
  trails_replay = record {
    stands_after = λ inputs v0 v s0 start earlier path beside meets known.
        replay p m stands terms asked inputs v0 s0 start beside.stands_for.proper.one_each earlier path beside.going beside.over beside.stands_for beside.trail v beside.follows meets known;
    chooses = λ inputs v0 v s0 start earlier path beside meets known.
        replay_choices p m stands terms asked inputs v0 s0 start beside.stands_for.proper.one_each earlier path v beside.going beside.over beside.stands_for beside.trail beside.follows meets known;
    never_cut = λ inputs v0 v s0 start earlier path beside meets.
        never_cut p m stands terms asked inputs v0 s0 start beside.stands_for.proper.one_each earlier path v beside.going beside.over beside.stands_for beside.trail beside.follows meets;
  }

  pub trails_hold_along : TrailsHoldAlong p m stands terms asked
  trails_hold_along inputs v0 v s0 start earlier path beside given made comes =
      along p m stands terms asked inputs v0 s0 start beside.stands_for.proper.one_each earlier path v beside.over beside.stands_for beside.trail beside.follows given (made, comes)

  pub trails_may_end_before : TrailsMayEndBefore p m stands terms asked
  trails_may_end_before inputs v0 v s0 start before path earlier beside meets =
      let b = back p m stands terms asked inputs v0 s0 start beside.stands_for.proper.one_each earlier before path v beside.over beside.trail.0 beside.trail.1 beside.follows in
      (b.valuation, (record { trail = beside.trail.1; going = beside.going; over = beside.over; stands_for = beside.stands_for; follows = b.extends }, b.conds meets))
