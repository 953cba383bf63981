-- What a trail from the start of a test says of a path, and of the runs along it.
use Rattle.std.proofs.Common.{◌≡◌, ℤ, ◌⊎◌, ⊎_elim, inl, ℕ, suc, ◌+◌, List, [], ◌∷◌, ◌++◌, length, false, Option, Some, None, is_some, IsSome, IsTrue, true≢false, refl, sym, ap, subst, ◌∙◌, arith}
use Rattle.std.proofs.lemmas.List.{length-append}
use Rattle.std.proofs.lemmas.List.Elements.{Contains-append_cases}
use Rattle.gil_values.specs.declared.places.Place.{Place}
use Rattle.gil_values.specs.Pure.{PureValue}
use Rattle.gil_values.proofs.OperatorSymbols.{none_contained}
use Rattle.gil_syntax.specs.Pure.{PureParts, PureNumberedCommand}
use Rattle.gil_machine.specs.Choices.{choices, with_choice}
use Rattle.gil_machine.specs.Run.{reached}
use Rattle.gil_machine.specs.State.{State}
use Rattle.gil_machine.specs.Step.{command_at}
use Rattle.mem_model.specs.Actions.{Actions}
use Rattle.mem_model.specs.Heaps.{Heap}
use Rattle.pure_terms.specs.declared.variables.Sort.{Sort}
use Rattle.pure_terms.specs.Meaning.{all_true, IsOver, AreOver, Satisfies}
use Rattle.pure_terms.specs.Pure.{PureTerm, PureAtom, term_of, variables, variables_of_atoms}
use Rattle.sym_step.specs.ExplorationLaws.{EndsAreOfRuns, IsBeside, TrailsKeep, TrailsReplay, TrailsHoldAlong, TrailsMayEndBefore}
use Rattle.sym_step.specs.Runs.{ComesTo, MakesChoices, StandsAfter, draw_count}
use Rattle.sym_step.specs.Trails.{IsNextPath, IsTrail}
use Rattle.sym_model.specs.Lists.{Each}
use Rattle.sym_model.specs.Meaning.{has_open}
use Rattle.sym_model.specs.Terms.{StateTerms}
use Rattle.sym_model.proofs.ListLaws.{each_append}
use Rattle.sym_paths.specs.Meaning.{Stands, IsOverTable}
use Rattle.sym_paths.specs.Pure.{PureEnd, PurePath}
use Rattle.sym_paths.specs.Steps.{IsUnknown, IsNewSort, drawn_from, drawn_and, draws_after, draws_past}
use Rattle.sym_paths.proofs.Silent.{stands_at}
use Rattle.sym_test.specs.Canonical.{HaveValuation, draws_among, IsCanonical}
use Rattle.sym_test.specs.Judged.{Begins}
use Rattle.sym_test.specs.Undecided.{first_state, ComesAlong, IsAlong}
use Rattle.sym_test.proofs.Canonicals.{as_many_draws, some_canonical}

is_some_of : {X : Type 0} (o : Option X) (x : X) → o ≡ Some x → IsSome o
is_some_of o x is = ap is_some is

some_state : {X : Type 0} (o : Option X) → IsSome o → (x : X) × (o ≡ Some x)
some_state (Some x) is = (x, refl)
some_state None is = absurd (true≢false (sym is))

-- each term over the table: so are the atoms
pub all_over : (vars : List Sort) (atoms : List PureAtom) → Each (λ a. IsOver vars (term_of a)) atoms → AreOver vars atoms
all_over vars [] over x has = absurd (none_contained x has)
all_over vars (a ∷ atoms) over x has = ⊎_elim (over.0 x) (all_over vars atoms over.1 x) (Contains-append_cases (variables (term_of a)) (variables_of_atoms atoms) x has)

-- what is known of trails
pub record TrailLaws {S : Type 0} (p : PureParts) (m : Actions) (stands : S → List PureValue → Heap → Type 0) (terms : S → StateTerms) (asked : List ℕ → List PureTerm → List PureTerm × List PureTerm) : Type 0 where
  pub keep : TrailsKeep p m stands terms asked
  pub replay : TrailsReplay p m stands terms asked
  pub hold_along : TrailsHoldAlong p m stands terms asked
  pub end_before : TrailsMayEndBefore p m stands terms asked
  pub ends : EndsAreOfRuns

later_draws : (sort : Sort) (n : ℕ) → draws_after sort n ≡ draws_after sort 0 + n
later_draws Sort.Fresh n = omega arith
later_draws Sort.Int n = omega arith
later_draws Sort.Bool n = omega arith
later_draws Sort.Str n = omega arith
later_draws Sort.Sym n = omega arith
later_draws Sort.List n = omega arith
later_draws Sort.Any n = omega arith

draws_past_is : (sorts : List Sort) (n : ℕ) → draws_past sorts n ≡ draw_count sorts + n
draws_past_is [] n = omega arith
draws_past_is (sort ∷ sorts) n =
    let one : draws_after sort n ≡ draws_after sort 0 + n = later_draws sort n in
    let rest : draws_past sorts (draws_after sort n) ≡ draw_count sorts + draws_after sort n = draws_past_is sorts (draws_after sort n) in
    let rest_0 : draws_past sorts (draws_after sort 0) ≡ draw_count sorts + draws_after sort 0 = draws_past_is sorts (draws_after sort 0) in
    omega (arith, one, rest, rest_0)

draw_append : (xs ys : List Sort) → draw_count (xs ++ ys) ≡ draw_count xs + draw_count ys
draw_append [] ys = omega arith
draw_append (sort ∷ xs) ys =
    let whole : draws_past (xs ++ ys) (draws_after sort 0) ≡ draw_count (xs ++ ys) + draws_after sort 0 = draws_past_is (xs ++ ys) (draws_after sort 0) in
    let first : draws_past xs (draws_after sort 0) ≡ draw_count xs + draws_after sort 0 = draws_past_is xs (draws_after sort 0) in
    let rest : draw_count (xs ++ ys) ≡ draw_count xs + draw_count ys = draw_append xs ys in
    omega (arith, whole, first, rest)

drawn_more : (k : ℕ) (sort : Sort) (later : List PureTerm) → length (drawn_and k sort later) ≡ draws_after sort (length later)
drawn_more k Sort.Fresh later = refl
drawn_more k Sort.Int later = refl
drawn_more k Sort.Bool later = refl
drawn_more k Sort.Str later = refl
drawn_more k Sort.Sym later = refl
drawn_more k Sort.List later = refl
drawn_more k Sort.Any later = refl

drawn_length : (k : ℕ) (xs : List Sort) → length (drawn_from k xs) ≡ draw_count xs
drawn_length k [] = refl
drawn_length k (sort ∷ xs) =
    let one : length (drawn_and k sort (drawn_from (suc k) xs)) ≡ draws_after sort (length (drawn_from (suc k) xs)) = drawn_more k sort (drawn_from (suc k) xs) in
    let rest : length (drawn_from (suc k) xs) ≡ draw_count xs = drawn_length (suc k) xs in
    let past : draws_past xs (draws_after sort 0) ≡ draw_count xs + draws_after sort 0 = draws_past_is xs (draws_after sort 0) in
    let later : draws_after sort (length (drawn_from (suc k) xs)) ≡ draws_after sort 0 + length (drawn_from (suc k) xs) = later_draws sort (length (drawn_from (suc k) xs)) in
    omega (arith, one, rest, past, later)

module _ {S : Type 0} (p : PureParts) (m : Actions) (stands : S → List PureValue → Heap → Type 0) (terms : S → StateTerms) (asked : List ℕ → List PureTerm → List PureTerm × List PureTerm)
    (plain : S → ℤ → ℤ → Type 0) (laws : TrailLaws p m stands terms asked) (f : List ℕ) (start : PurePath S) (begins : Begins p stands terms plain f start) where
  abbrev IsTrailOf : List (PurePath S) → PurePath S → Type 0
  IsTrailOf = IsTrail p m stands terms asked start

  -- ---- what holds by the trail alone

  pub new_sorts : (earlier : List (PurePath S)) (path : PurePath S) → IsTrailOf earlier path → Each IsNewSort path.vars
  new_sorts [] path trail = subst (λ (q : PurePath S). Each IsNewSort q.vars) (sym trail) (subst (Each IsNewSort) (sym begins.first.vars) tt)
  new_sorts (before ∷ earlier) path (next, trail) =
      subst (Each IsNewSort) (sym next.growth.vars) (each_append IsNewSort before.vars next.growth.new_vars (new_sorts earlier before trail) next.growth.sorts)

  draws_counted : (earlier : List (PurePath S)) (path : PurePath S) → IsTrailOf earlier path → length path.drawn ≡ draw_count path.vars
  draws_counted [] path trail = subst (λ (q : PurePath S). length q.drawn ≡ draw_count q.vars) (sym trail) (ap length begins.first.drawn ∙ ap draw_count (sym begins.first.vars))
  draws_counted (before ∷ earlier) path (next, trail) =
      let had : length before.drawn ≡ draw_count before.vars = draws_counted earlier before trail in
      let drawn : length path.drawn ≡ length before.drawn + length (drawn_from (length before.vars) next.growth.new_vars) =
      ap length next.growth.drawn ∙ length-append before.drawn (drawn_from (length before.vars) next.growth.new_vars) in
      let new : length (drawn_from (length before.vars) next.growth.new_vars) ≡ draw_count next.growth.new_vars = drawn_length (length before.vars) next.growth.new_vars in
      let all : draw_count path.vars ≡ draw_count before.vars + draw_count next.growth.new_vars = ap draw_count next.growth.vars ∙ draw_append before.vars next.growth.new_vars in
      omega (arith, had, drawn, new, all)

  -- as many inputs as draws are listed
  pub inputs_counted : (earlier : List (PurePath S)) (path : PurePath S) (v : List PureValue) → IsTrailOf earlier path → length v ≡ length path.vars → length path.drawn ≡ length (draws_among path.vars v)
  inputs_counted earlier path v trail same = draws_counted earlier path trail ∙ sym (drawn_length 0 path.vars) ∙ sym (as_many_draws 0 path.vars v same)

  pub steps_counted : (earlier : List (PurePath S)) (path : PurePath S) → IsTrailOf earlier path → path.steps ≡ length earlier
  steps_counted earlier path trail = laws.keep.steps start path earlier trail ∙ ap (λ n. n + length earlier) begins.first.steps ∙ zero-plus (length earlier) where
    zero-plus : (n : ℕ) → 0 + n ≡ n
    zero-plus n = omega arith

  pub is_over : (earlier : List (PurePath S)) (path : PurePath S) → IsTrailOf earlier path → IsOverTable terms path
  is_over earlier path trail = laws.keep.over start path earlier trail begins.over

  pub conds_over : (earlier : List (PurePath S)) (path : PurePath S) → IsTrailOf earlier path → AreOver path.vars path.conds
  conds_over earlier path trail = all_over path.vars path.conds (is_over earlier path trail).conds

  start_met : Satisfies start.vars [] start.conds
  start_met = record { proper = begins.stands_for.proper; true_there = begins.stands_for.meets }

  pub is_met : (earlier : List (PurePath S)) (path : PurePath S) → IsTrailOf earlier path → ¬ IsUnknown path.ending → (v : List PureValue) × Satisfies path.vars v path.conds
  is_met earlier path trail known = laws.keep.satisfiable start path earlier [] trail start_met known

  pub has_canonical : (earlier : List (PurePath S)) (path : PurePath S) → IsTrailOf earlier path → ¬ IsUnknown path.ending → (v : List PureValue) × IsCanonical path.vars path.conds v
  has_canonical earlier path trail known =
      let (v, sat) = is_met earlier path trail known in
      some_canonical path.vars path.conds v (new_sorts earlier path trail) (conds_over earlier path trail) sat

  -- ---- runs beside the trail

  pub beside : (inputs : List PureValue) (earlier : List (PurePath S)) (path : PurePath S) (v : List PureValue) → IsTrailOf earlier path → HaveValuation path.vars inputs v
      → IsBeside p m stands terms asked inputs [] v (first_state p f) start earlier path
  beside inputs earlier path v trail has = record {
    trail = trail;
    going = begins.first.going;
    over = begins.over;
    stands_for = begins.stands_for;
    follows = record {
      new_vars = path.vars;
      new_values = v;
      vars = ap (λ xs. xs ++ path.vars) (sym begins.first.vars);
      values = refl;
      in_turn = has.in_turn;
    };
  }

  pub replayed : (inputs : List PureValue) (earlier : List (PurePath S)) (path : PurePath S) (v : List PureValue) → IsTrailOf earlier path → HaveValuation path.vars inputs v → IsTrue (all_true v path.conds) → ¬ IsUnknown path.ending
      → StandsAfter p m stands inputs (first_state p f) start path v (length earlier) path.ending
  replayed inputs earlier path v trail has meets known =
      laws.replay.stands_after inputs [] v (first_state p f) start earlier path (beside inputs earlier path v trail has) (record { proper = has.proper; true_there = meets }) known

  -- its choices are those that the run makes
  chosen_of : (inputs : List PureValue) (n : ℕ) (path : PurePath S) → MakesChoices p m inputs (first_state p f) start n path → path.choices ≡ choices p m inputs n (first_state p f)
  chosen_of inputs n path made = made ∙ ap (λ xs. xs ++ choices p m inputs n (first_state p f)) begins.first.choices

  -- ---- the last step of a path that has an end

  module _ (before : PurePath S) (rest : List (PurePath S)) (path : PurePath S) (next : IsNextPath p m stands terms asked before path) (trail : IsTrailOf rest before) (how : PureEnd) (ending : path.ending ≡ Some how) where
    abbrev k : ℕ
    k = length rest

    -- what leads to the command, whatever valuation meets the conditions of the path before
    pub come_by : (inputs v : List PureValue) (place : Place) → IsBeside p m stands terms asked inputs [] v (first_state p f) start rest before → Satisfies before.vars v before.conds
        → ((s : State) (c : PureNumberedCommand) → Stands stands before v s → reached p m inputs k (first_state p f) ≡ Some s → command_at p s.current ≡ Some c → place ≡ record { proc = s.current.procedure; at = c.at })
        → ComesAlong p m f inputs k place path.choices
    come_by inputs v place along sat placed =
        let known : ¬ IsUnknown before.ending = λ unknown. subst IsUnknown next.going unknown in
        let (s, at) = subst (StandsAfter p m stands inputs (first_state p f) start before v k) next.going (laws.replay.stands_after inputs [] v (first_state p f) start rest before along sat known) in
        let made = (laws.replay.chooses inputs [] v (first_state p f) start rest before along sat (inl known)).0 in
        let (c, at_c) = next.at_command in
        let (last, (chosen, may, goes)) = next.recorded.choice c at_c in
        let stands_there : command_at p s.current ≡ Some c = sym (stands_at p v before.stack s at.stands_for.frames) ∙ at_c in
        record {
          state = s;
          command = c;
          stands = record { comes = at.comes_to; at = stands_there };
          at_place = placed s c at.stands_for at.comes_to stands_there;
          last = last;
          may = may;
          chosen = chosen ∙ ap (λ xs. xs ++ with_choice last []) (chosen_of inputs k before made);
        }

    comes_to_last : (inputs : List PureValue) (s : State) → reached p m inputs k (first_state p f) ≡ Some s → ComesTo p m inputs (first_state p f) (suc k) path.ending
    comes_to_last inputs s comes = subst (ComesTo p m inputs (first_state p f) (suc k)) (sym ending) (k, (refl, is_some_of (reached p m inputs k (first_state p f)) s comes))

    pub given_meets : (inputs v : List PureValue) → HaveValuation path.vars inputs v → IsAlong p m f inputs k path.choices → IsTrue (all_true v path.given) → IsTrue (all_true v path.conds)
    given_meets inputs v has along given =
        laws.hold_along inputs [] v (first_state p f) start (before ∷ rest) path (beside inputs (before ∷ rest) path v (next, trail) has) (record { proper = has.proper; true_there = given })
        (sym along.chosen ∙ ap (λ xs. xs ++ choices p m inputs (suc k) (first_state p f)) (sym begins.first.choices)) (comes_to_last inputs along.state along.comes)

    pub leads_along : (inputs v : List PureValue) → HaveValuation path.vars inputs v → IsTrue (all_true v path.conds) → (¬ IsUnknown path.ending) ⊎ (has_open path.conds ≡ false) → IsAlong p m f inputs k path.choices
    leads_along inputs v has meets either =
        let (made, comes) = laws.replay.chooses inputs [] v (first_state p f) start (before ∷ rest) path (beside inputs (before ∷ rest) path v (next, trail) has) (record { proper = has.proper; true_there = meets }) either in
        let (j, (same, some)) = subst (ComesTo p m inputs (first_state p f) (suc k)) ending comes in
        let at_k : k ≡ j = omega (arith, same) in
        let (s, is) = some_state (reached p m inputs k (first_state p f)) (subst (λ n. IsSome (reached p m inputs n (first_state p f))) (sym at_k) some) in
        record { state = s; comes = is; chosen = sym (chosen_of inputs (suc k) path made) }
