-- A run from a start of a path's specification goes along the path, and ends as it does.
use Rattle.std.proofs.Common.{◌≡◌, ◌⊎◌, ⊎_elim, inl, inr, ℕ, ◌+◌, ◌≤◌, ℤ, List, [], ◌++◌, length, drop, Some, None, refl, sym, ap, subst, ◌∙◌, false, true, arith}
use Rattle.std.specs.List.{list_all}
use Rattle.gil_values.specs.Pure.{PureValue}
use Rattle.gil_syntax.specs.Evaluation.{Store}
use Rattle.gil_syntax.specs.Pure.{PureItem, PureProc, PureParts}
use Rattle.gil_syntax.specs.Valid.{has_twice}
use Rattle.gil_syntax.specs.WellMade.{is_program_name}
use Rattle.gil_machine.specs.Run.{run, run_of, start as start_state}
use Rattle.gil_machine.specs.State.{State, Ending, End, end_at, IsOver as HasEnded}
use Rattle.gil_machine.specs.State as machine
use Rattle.mem_model.specs.declared.keys.MemoryName.{MemoryName}
use Rattle.mem_model.specs.Actions.{Actions}
use Rattle.mem_model.specs.Heaps.{Heap}
use Rattle.fresh_atoms.specs.Laws.{is_any_or_list}
use Rattle.fresh_atoms.proofs.Atoms.{fresh_atoms_are_constant}
use Rattle.inferred_specs.specs.Inferred.{StartsAlone}
use Rattle.pure_terms.specs.declared.variables.Sort.{Sort}
use Rattle.pure_terms.specs.Fragment.{has_fragment_form, names_sort}
use Rattle.pure_terms.specs.Meaning.{all_true, IsProper, IsOver, Satisfies}
use Rattle.pure_terms.specs.Pure.{PureTerm, term_of}
use Rattle.sym_step.specs.Exploring.{IsFrom, cut_off, IsEndedFrom}
use Rattle.sym_step.specs.ExplorationLaws.{IsBeside, TrailsKeep, TrailsReplay}
use Rattle.sym_step.specs.Runs.{StandsAfter}
use Rattle.sym_step.proofs.Kept.{trails_keep, trails_replay, ends_of_runs}
use Rattle.sym_model.specs.Lists.{Each}
use Rattle.sym_model.specs.Terms.{StateTerms}
use Rattle.sym_paths.specs.Meaning.{Stands, IsEnding}
use Rattle.sym_paths.specs.Pure.{PureEnd, returned, failed, threw, missed, vanished, cut, unknown, PurePath}
use Rattle.sym_paths.specs.Steps.{IsUnknown}
use Rattle.sym_paths.proofs.Beginning.{beginnings_stand}
use Rattle.bi_beginnings.specs.Beginnings.{any_for_each, variables_from}
use Rattle.bi_beginnings.proofs.Params.{params_once, params_named}
use Rattle.bi_specifications.specs.Shape.{late_conds, spec_of, MayBeTold}
use Rattle.bi_specifications.specs.Specified.{PureEntry, IsTold, IsExplored}
use Rattle.bi_specifications.proofs.Entering.{entry_given, Entered, entered}
use Rattle.bi_specifications.proofs.Grown.{IsGrown, ended_grown, table_split}
use Rattle.bi_specifications.proofs.RunsAlong.{symbols_from, IsEndAs, EndsAlong, RunsAlong, EachRunsAlong}
use Rattle.bi_specifications.proofs.Valuing.{symbols_are_next, symbols_proper, all_conds_true}

not_unknown : (how : PureEnd) → IsTold how → ¬ IsUnknown (Some how)
not_unknown (returned t) told is = is
not_unknown (threw t place) told is = is
not_unknown cut told is = is
not_unknown (failed t place) told is = is
not_unknown (missed k place) told is = is
not_unknown vanished told is = is
not_unknown (unknown place reason) told is = told

-- a step ends a run so, which is over, or by no cut
so_ends : (p : PureParts) (m : Actions) (v : List PureValue) (s : State) (how : PureEnd) (e : Ending) → IsTold how → ¬ (how ≡ cut) → IsEnding p m v s how e → IsEndAs v how e × HasEnded e
so_ends p m v s (returned t) e told other (w, (value, is)) = ((w, (value, is)), subst HasEnded (sym is) tt)
so_ends p m v s (threw t place) e told other (w, (value, is)) = ((w, (value, is)), subst HasEnded (sym is) tt)
so_ends p m v s cut e told other is = absurd (other refl)
so_ends p m v s (failed t place) e told other is = absurd told
so_ends p m v s (missed k place) e told other is = absurd told
so_ends p m v s vanished e told other is = absurd told
so_ends p m v s (unknown place reason) e told other is = absurd told

is_cut : (how : PureEnd) → (how ≡ cut) ⊎ ¬ (how ≡ cut)
is_cut cut = inl refl
is_cut (returned t) = inr (λ is. absurd (cc))
is_cut (threw t place) = inr (λ is. absurd (cc))
is_cut (failed t place) = inr (λ is. absurd (cc))
is_cut (missed k place) = inr (λ is. absurd (cc))
is_cut vanished = inr (λ is. absurd (cc))
is_cut (unknown place reason) = inr (λ is. absurd (cc))

same_end : (how other : PureEnd) → Some how ≡ Some other → how ≡ other
same_end how other is = cc

module _ {S : Type 0} (p : PureParts) (memory : MemoryName) (m : Actions) (stands : S → List PureValue → Heap → Type 0) (terms : S → StateTerms)
    (asked : List ℕ → List PureTerm → List PureTerm × List PureTerm) where
  module _ (depends : S → List ℕ → List PureTerm → List PureValue → Heap → PureTerm → Type 0) (plain : S → ℤ → ℤ → Type 0) (keeps_plain : Type 0) (kept : S → Type 0) (q : PureProc) (e : PureEntry)
      (path : PurePath S) (n : ℕ) (explored : IsExplored memory m stands terms asked depends plain keeps_plain kept q e path p n) (may : MayBeTold q e path) (how : PureEnd) (ends : path.ending ≡ Some how)
      (told : IsTold how) (posts errors : List (List PureItem)) where
    abbrev start : PurePath S
    start = explored.start

    keep : TrailsKeep p m stands terms asked
    keep = trails_keep p m stands terms asked

    replay : TrailsReplay p m stands terms asked
    replay = trails_replay p m stands terms asked

    abbrev new : List Sort
    new = drop e.count path.vars

    no_steps : start.steps ≡ 0
    no_steps = ap (λ (r : PurePath S). r.steps) explored.opening.begins.is

    going : start.ending ≡ None
    going = ap (λ (r : PurePath S). r.ending) explored.opening.begins.is

    pub grown : IsGrown terms start path
    grown = ended_grown p m stands terms asked start depends plain keeps_plain n path explored.opening.over explored.opening.is_met (subst (λ o. ¬ IsUnknown o) (sym ends) (not_unknown how told)) explored.ended

    pub split : path.vars ≡ start.vars ++ new
    split = table_split path.vars start.vars grown.more e.count grown.vars explored.entry.count

    given : list_all is_any_or_list start.vars ≡ true
    given = ap (list_all is_any_or_list) explored.opening.table.table ∙ entry_given q.params explored.opening.table.others explored.opening.table.sorts

    pub programs : list_all is_program_name q.params ≡ true
    programs = params_named p q.name q explored.well_made explored.found

    pub once : has_twice q.params ≡ false
    once = params_once p q.name q explored.valid explored.found

    -- the path along which the run goes, whose end is this one's, or which isn't cut yet
    record IsBehind (r : PurePath S) : Type 0 where
      from : IsFrom p m stands terms asked depends plain keeps_plain n start r
      vars : path.vars ≡ r.vars
      conds : path.conds ≡ r.conds
      known : ¬ IsUnknown r.ending

    module _ (args : List PureValue) (variables : Store) (own : Heap) (counter : ℕ) (starts : StartsAlone p memory m (spec_of q e path posts errors) args variables own counter) where
      enter : Entered p memory m stands terms kept q e start path may explored.opening explored.entry split grown.over programs once grown.later grown.conds posts errors args variables own counter starts
      enter = entered p memory m stands terms kept q e start path may explored.opening explored.entry split grown.over programs once grown.later grown.conds posts errors args variables own counter starts

      abbrev symbols : List PureValue
      symbols = symbols_from counter (length new)

      abbrev v : List PureValue
      v = enter.values ++ symbols

      both_proper : IsProper (start.vars ++ new) v
      both_proper = symbols_proper start.vars enter.values counter new may.new_symbols enter.proper enter.below

      proper : IsProper path.vars v
      proper = subst (λ xs. IsProper xs v) (sym split) both_proper

      meets : all_true v path.conds ≡ true
      meets =
          all_conds_true fresh_atoms_are_constant start.vars new enter.values symbols grown.met.0 given may.new_symbols enter.proper.one_each both_proper
          (subst (λ xs. IsProper xs grown.met.0) split grown.met.1.proper) path.conds
          (subst (λ vars. Each (λ a. IsOver vars (term_of a)) path.conds) split grown.over.conds) enter.early_true grown.met.1.true_there
          (subst (λ k. Each (λ a. (has_fragment_form a ≡ true) × (names_sort Sort.Fresh (term_of a) ≡ true)) (late_conds k path.conds)) explored.entry.count may.late_forms)

      abbrev first : State
      first = start_state p q.name args own counter

      stands_first : Stands stands start enter.values first
      stands_first =
          (beginnings_stand stands terms plain).starts p q (variables_from 0 (any_for_each q.params)) start.vars start.conds start.memory start explored.opening.begins explored.found enter.values args own counter
          enter.have enter.proper enter.start_true enter.own_is enter.below

      along : ((inputs : List PureValue) → EndsAlong p memory m stands q e start path how n posts errors v (run_of p m q.name args own counter inputs n)) → RunsAlong p memory m stands q e start path how n posts errors args variables own counter
      along each = record { early = enter.values; named = enter.named; proper = proper; meets = meets; own_is = enter.own_is; each_run = each }

      module _ (r : PurePath S) (b : IsBehind r) where
        steps_are : length b.from.earlier ≡ r.steps
        steps_are = let all : r.steps ≡ start.steps + length b.from.earlier = keep.steps start r b.from.earlier b.from.trail in let none : start.steps ≡ 0 = no_steps in omega (arith, all, none)

        beside : (inputs : List PureValue) → IsBeside p m stands terms asked inputs enter.values v first start b.from.earlier r
        beside inputs = record {
          trail = b.from.trail;
          going = going;
          over = explored.opening.over;
          stands_for = stands_first;
          follows = record { new_vars = new; new_values = symbols; vars = sym b.vars ∙ split; values = refl; in_turn = symbols_are_next inputs counter 0 new may.new_symbols };
        }

        satisfies : Satisfies r.vars v r.conds
        satisfies = record { proper = subst (λ xs. IsProper xs v) b.vars proper; true_there = ap (all_true v) (sym b.conds) ∙ meets }

        comes_after : (inputs : List PureValue) → StandsAfter p m stands inputs first start r v (length b.from.earlier) r.ending
        comes_after inputs = replay.stands_after inputs enter.values v first start b.from.earlier r (beside inputs) satisfies b.known

    -- ---- a path that returned or threw

    itself : IsFrom p m stands terms asked depends plain keeps_plain n start path → IsBehind path
    itself from = record { from = from; vars = refl; conds = refl; known = subst (λ o. ¬ IsUnknown o) (sym ends) (not_unknown how told) }

    ended_runs : IsFrom p m stands terms asked depends plain keeps_plain n start path → ¬ (how ≡ cut) → EachRunsAlong p memory m stands q e start path how n posts errors
    unfolding itself
    ended_runs from other args variables own counter starts = along args variables own counter starts one
      where
        one : (inputs : List PureValue) → EndsAlong p memory m stands q e start path how n posts errors (v args variables own counter starts) (run_of p m q.name args own counter inputs n)
        one inputs =
            let after : StandsAfter p m stands inputs (start_state p q.name args own counter) start path (v args variables own counter starts) (length from.earlier) (Some how) =
            subst (StandsAfter p m stands inputs (start_state p q.name args own counter) start path (v args variables own counter starts) (length from.earlier)) ends (comes_after args variables own counter starts path (itself from) inputs)
            in
            let (s, (r, (comes, is))) = after in
            let (so, over) = so_ends p m (v args variables own counter starts) s how r.ending told other is.ending in
            let few : length from.earlier ≤ n = let steps : length from.earlier ≡ path.steps = steps_are args variables own counter starts path (itself from) in let within : path.steps ≤ n = from.within in omega (arith, steps, within) in
            let same : run_of p m q.name args own counter inputs n ≡ r = (ends_of_runs p m inputs (start_state p q.name args own counter) s (length from.earlier) r comes).1 n few over in
            record {
              ends = subst (λ (x : End). IsEndAs (v args variables own counter starts) how x.ending) (sym same) so;
              heap = subst (λ (x : End). stands path.memory (v args variables own counter starts) x.heap) (sym same) is.memory;
              no_draw = ap (λ (x : End). x.draws) same ∙ is.draws ∙ ap (λ (ts : List PureTerm). length ts) may.no_draw;
            }

    -- no step ends a run by a cut
    no_cut_step : IsFrom p m stands terms asked depends plain keeps_plain n start path → how ≡ cut → EachRunsAlong p memory m stands q e start path how n posts errors
    unfolding itself
    no_cut_step from by_cut args variables own counter starts =
        absurd (replay.never_cut [] (enter args variables own counter starts).values (v args variables own counter starts) (start_state p q.name args own counter) start from.earlier path
        (beside args variables own counter starts path (itself from) []) (satisfies args variables own counter starts path (itself from)) (ends ∙ ap Some by_cut))

    -- ---- a path that is cut

    module _ (last : PurePath S) (from : IsFrom p m stands terms asked depends plain keeps_plain n start last) (goes : last.ending ≡ None) (all_steps : last.steps ≡ n) (is : path ≡ cut_off last) where
      behind : IsBehind last
      behind = record {
        from = from;
        vars = ap (λ (r : PurePath S). r.vars) is;
        conds = ap (λ (r : PurePath S). r.conds) is;
        known = subst (λ o. ¬ IsUnknown o) (sym goes) (λ no. no);
      }

      by_cut : how ≡ cut
      by_cut = same_end how cut (sym ends ∙ ap (λ (r : PurePath S). r.ending) is)

      cut_runs : EachRunsAlong p memory m stands q e start path how n posts errors
      unfolding behind
      cut_runs args variables own counter starts = along args variables own counter starts one
        where
          one : (inputs : List PureValue) → EndsAlong p memory m stands q e start path how n posts errors (v args variables own counter starts) (run_of p m q.name args own counter inputs n)
          one inputs =
              let after : StandsAfter p m stands inputs (start_state p q.name args own counter) start last (v args variables own counter starts) (length from.earlier) None =
              subst (StandsAfter p m stands inputs (start_state p q.name args own counter) start last (v args variables own counter starts) (length from.earlier)) goes (comes_after args variables own counter starts last behind inputs)
              in
              let (s, at) = after in
              let same : run_of p m q.name args own counter inputs n ≡ end_at s machine.cut =
              subst (λ k. run p m inputs k (start_state p q.name args own counter) ≡ end_at s machine.cut) (steps_are args variables own counter starts last behind ∙ all_steps)
              (ends_of_runs p m inputs (start_state p q.name args own counter) s (length from.earlier) (end_at s machine.cut) (inr (at.comes_to, refl))).0
              in
              record {
                ends = subst (λ (x : End). IsEndAs (v args variables own counter starts) how x.ending) (sym same) (subst (λ h. IsEndAs (v args variables own counter starts) h machine.cut) (sym by_cut) refl);
                heap = subst (λ (x : End). stands path.memory (v args variables own counter starts) x.heap) (sym same) (subst (λ (r : PurePath S). stands r.memory (v args variables own counter starts) s.heap) (sym is) at.stands_for.memory);
                no_draw = ap (λ (x : End). x.draws) same ∙ at.stands_for.draws ∙ ap (λ (ts : List PureTerm). length ts) (sym (ap (λ (r : PurePath S). r.drawn) is) ∙ may.no_draw);
              }

    pub each_runs_along : EachRunsAlong p memory m stands q e start path how n posts errors
    each_runs_along = by explored.ended
      where
        by : IsEndedFrom p m stands terms asked depends plain keeps_plain n start path → EachRunsAlong p memory m stands q e start path how n posts errors
        by (inl (from, some)) = ⊎_elim (no_cut_step from) (ended_runs from) (is_cut how)
        by (inr (last, (from, goes, steps, is))) = cut_runs last from goes steps is
