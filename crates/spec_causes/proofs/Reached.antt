-- Paths that runs reach: starts of a specification are reached, and what follows a reached path is, as are its causes.
use Rattle.std.proofs.Common.{◌≡◌, inl, inr, ℕ, suc, ◌+◌, ◌<◌, ◌≤◌, List, [], ◌++◌, length, Option, Some, None, refl, sym, ap, subst, ◌∙◌, arith, append-nil}
use Rattle.std.proofs.lemmas.List.{append_cancel_left, append_assoc}
use Rattle.gil_values.specs.declared.places.Place.{Place}
use Rattle.gil_values.specs.Pure.{PureValue}
use Rattle.gil_syntax.specs.Pure.{PureParts}
use Rattle.gil_machine.specs.Choices.{with_choice}
use Rattle.mem_model.specs.declared.keys.MemoryName.{MemoryName}
use Rattle.mem_model.specs.Actions.{Actions}
use Rattle.mem_model.specs.Heaps.{Heap}
use Rattle.checked_runs.specs.Checked.{Checked, Outcome, Entry}
use Rattle.pure_terms.specs.declared.deciders.Reason.{Reason}
use Rattle.pure_terms.specs.declared.variables.Sort.{Sort}
use Rattle.pure_terms.specs.Fragment.{InFragment}
use Rattle.pure_terms.specs.Meaning.{Satisfies}
use Rattle.pure_terms.specs.Pure.{PureAtom}
use Rattle.sym_beginning.specs.Origins.{ComeOf}
use Rattle.sym_model.specs.Laws.{IsMeaning}
use Rattle.sym_model.specs.Terms.{StateTerms}
use Rattle.sym_model.proofs.ListLaws.{not_none}
use Rattle.sym_paths.specs.Steps.{IsPlaceOf}
use Rattle.checked_paths.specs.Causes.{PureShown, PureCause, failure, fault, bound, undecided, shown_in, shown_of}
use Rattle.checked_paths.specs.Exactness.{AreNewValues, IsContinued, HaveMore, CanBeMet, AreChoices, IsUnder, IsFollowed, IsSurely, IsUndecided, IsRightCause}
use Rattle.checked_paths.specs.Meaning.{StandsForChecked, IsEntered, MayGoOn}
use Rattle.checked_paths.specs.Pure.{PureEntry, PureChecking}
use Rattle.checked_paths.proofs.Above.{stands_above}
use Rattle.checked_paths.proofs.Growing.{entered_more}
use Rattle.checked_paths.specs.Trails.{Runs, RunsInto, IsTrail, IsFollowedBy}
use Rattle.checked_paths.proofs.TrailSteps.{as_many, InTwo, in_two, Parts, parts_of, meets_before, more_again, place_there, trail_vars, trail_conds, runs_follow_on, surely_reached, met_along}
use Rattle.spec_causes.specs.Asking.{RunsAsking}
use Rattle.spec_causes.specs.Causes.{MeetsAbove, MayBeMet, StartsUnder, RunsWherever, ComesTo, ComesSurely, ComesToBound, IsReachable, IsOnTheWay, IsOpen}
use Rattle.spec_causes.specs.Reaching.{AddsAsked, IsStartUnder, IsRealStart, IsAskingTrail, IsReached, IsFoundCause}
use Rattle.spec_causes.proofs.Asked.{plain_trail, each_asks, IsFollowedAsking, follows_asking}
use Rattle.spec_causes.proofs.Prefixes.{first_inside}

pub more_met : (vars later : List Sort) (conds all : List PureAtom) → HaveMore conds all → ((v : List PureValue) → Satisfies vars v conds → (w : List PureValue) × Satisfies later w all) → MayBeMet vars conds → MayBeMet later all
more_met vars later conds all (more, is) can (inl (v, meets)) = inl (can v meets)
more_met vars later conds all (more, is) can (inr outside) = inr (λ within. outside (first_inside conds more (subst InFragment is within)))

same_list : {A : Type 0} (xs : List A) → HaveMore xs xs
same_list xs = ([], sym (append-nil xs))

module _ {S : Type 0} (memory : MemoryName) (m : Actions) (stands : S → List PureValue → Heap → Type 0) (terms : S → StateTerms) (meaning : IsMeaning memory stands terms) (p : PureParts) (e : PureEntry) where
  abbrev Reached : PureChecking S → Type 0
  Reached = IsReached p memory m stands terms e

  pub start_reached : (x : PureChecking S) → IsRealStart p memory m stands terms e x → ComeOf e.spec x.path.vars e.args e.variables e.spec.pre x.path.conds → MayBeMet x.path.vars x.path.conds → Reached x
  start_reached x real come may_be = record { start = x; real = real; come = come; may_be_met = may_be; trail = subst (λ n. IsAskingTrail p memory m stands terms e x n x) (sym real.no_steps) refl }

  module _ (x : PureChecking S) (reached : Reached x) (may : MayGoOn p terms e x) where
    pub next_reached : (y : PureChecking S) → IsFollowed p memory m stands e x y → AddsAsked p e x y.path.conds → y.path.steps ≡ x.path.steps + 1 → Reached y
    next_reached y followed asks steps =
        let one_more : suc x.path.steps ≡ y.path.steps = omega (arith, steps) in
        record {
          start = reached.start;
          real = reached.real;
          come = reached.come;
          may_be_met = reached.may_be_met;
          trail = subst (λ n. IsAskingTrail p memory m stands terms e reached.start n y) one_more (x, (reached.trail, record { may = may; followed = followed }, asks));
        }

    -- ---- the start of a run under a later valuation

    abbrev Vars0 : List Sort
    Vars0 = reached.start.path.vars

    trail : IsTrail p memory m stands terms e reached.start x.path.steps x
    trail = plain_trail memory m stands terms meaning p e reached.start x.path.steps x reached.trail

    vars_before : HaveMore Vars0 x.path.vars
    vars_before = trail_vars memory m stands terms meaning p e reached.start x.path.steps x trail

    conds_before : HaveMore reached.start.path.conds x.path.conds
    conds_before = trail_conds memory m stands terms meaning p e reached.start x.path.steps x trail

    can_be_met : CanBeMet reached.start x.path.vars x.path.conds
    can_be_met = met_along memory m stands terms meaning p e reached.start x.path.steps x trail

    may_meet : MayBeMet x.path.vars x.path.conds
    may_meet = more_met Vars0 x.path.vars reached.start.path.conds x.path.conds conds_before can_be_met reached.may_be_met

    -- a run starts there, and the valuation goes on from the one under which the start stands for it
    pub record IsBegun (vars : List Sort) (counter : ℕ) (w : List PureValue) : Type 0 where
      pub entry : Entry
      pub first : Checked
      pub under : StartsUnder p memory m e counter vars w entry first
      pub v0 : List PureValue
      pub standing : StandsForChecked stands e reached.start v0 entry first
      pub continued : IsContinued first.machine.counter reached.start.path.vars vars v0 w

    begun_there : (vars rest : List Sort) (conds : List PureAtom) (counter : ℕ) (w : List PureValue) → vars ≡ Vars0 ++ rest → HaveMore reached.start.path.conds conds → MeetsAbove counter vars conds w
        → (two : InTwo counter Vars0 rest w) → length two.first ≡ length Vars0
        → (entry : Entry) × ((first : Checked) × IsStartUnder p memory m stands terms e reached.start counter two.first entry first)
        → IsBegun vars counter w
    begun_there vars rest conds counter w table longer above two one_each (entry, (first, under)) = record {
      entry = entry;
      first = first;
      under = record {
        entered = subst (λ u. IsEntered u e entry) (sym two.both) (entered_more Vars0 two.first two.second one_each e entry reached.real.entry_over under.standing.entered);
        is_start = under.is_start;
        first_vars = Vars0;
        table = (rest, table);
        counted = under.counted;
      };
      v0 = two.first;
      standing = under.standing;
      continued = record {
        new_vars = rest;
        new_values = two.second;
        table = table;
        values = two.both;
        in_turn = subst (λ n. AreNewValues n rest two.second) (sym under.counted) two.second_new;
      };
    }

    pub begun : (vars : List Sort) (conds : List PureAtom) (counter : ℕ) (w : List PureValue) → HaveMore x.path.vars vars → HaveMore x.path.conds conds → MeetsAbove counter vars conds w → IsBegun vars counter w
    begun vars conds counter w more_vars more_conds above =
        by (more_again Vars0 x.path.vars vars vars_before more_vars) (more_again reached.start.path.conds x.path.conds conds conds_before more_conds)
      where
        by : HaveMore Vars0 vars → HaveMore reached.start.path.conds conds → IsBegun vars counter w
        by (rest, table) longer =
            let two : InTwo counter Vars0 rest w = in_two counter Vars0 rest w (subst (λ xs. AreNewValues counter xs w) table above.in_turn) in
            let one_each : length two.first ≡ length Vars0 = as_many counter Vars0 two.first two.first_new in
            let first_meets : Satisfies Vars0 two.first reached.start.path.conds =
            meets_before Vars0 vars two.first w rest two.second reached.start.path.conds conds table two.both one_each longer reached.real.conds_over above.meets in
            begun_there vars rest conds counter w table longer above two one_each (reached.real.stands_there counter two.first (record { in_turn = two.first_new; meets = first_meets }))

    -- ---- causes

    surely_runs : (Is : List PureValue → Outcome → Type 0) (shown : PureShown) → IsSurely p memory m stands e x Is shown
        → RunsWherever p memory m e shown.vars shown.conds (λ w entry first. RunsInto p memory m entry first x.path.steps shown.choices shown.place (Is w))
    surely_runs Is shown surely counter w above =
        let b : IsBegun shown.vars counter w = begun shown.vars shown.conds counter w surely.at.table surely.at.longer above in
        let (choices, (into, are)) = surely_reached memory m stands terms meaning p e b.entry reached.start b.v0 b.first b.standing x.path.steps x w trail may shown Is surely b.continued above.meets in (
          b.entry,
          (
            b.first,
            (b.under, subst (λ cs. RunsInto p memory m b.entry b.first x.path.steps cs shown.place (Is w)) (sym (are ∙ ap (λ cs. cs ++ choices) reached.real.no_choices)) into),
          ),
        )

    -- ---- what runs ask on the way

    -- a run begins, and comes to a state for which the path stands
    record IsComing (vars : List Sort) (conds : List PureAtom) (counter : ℕ) (w : List PureValue) : Type 0 where
      begins : IsBegun vars counter w
      part : List PureValue
      values : List PureValue
      both : w ≡ part ++ values
      state : Checked
      choices : List ℕ
      asked : List PureAtom
      runs : RunsAsking p memory m begins.entry w begins.first x.path.steps choices asked state
      choices_are : x.path.choices ≡ choices
      asked_are : x.path.conds ≡ reached.start.path.conds ++ asked
      under : IsUnder stands e x vars conds part w begins.entry state

    coming : (vars : List Sort) (conds : List PureAtom) (counter : ℕ) (w : List PureValue) → HaveMore x.path.vars vars → HaveMore x.path.conds conds → MeetsAbove counter vars conds w → IsComing vars conds counter w
    coming vars conds counter w more_vars more_conds above =
        let b : IsBegun vars counter w = begun vars conds counter w more_vars more_conds above in
        let parts : Parts b.first.machine.counter Vars0 x.path.vars vars b.v0 w = parts_of b.first.machine.counter Vars0 x.path.vars vars b.v0 w b.standing.path.proper.one_each vars_before more_vars b.continued in
        let meets : Satisfies x.path.vars parts.part x.path.conds =
        meets_before x.path.vars vars parts.part w parts.more parts.values x.path.conds conds parts.table parts.both parts.one_each more_conds may.over.path.conds above.meets in
        let by : IsFollowedAsking memory m stands terms meaning p e b.entry reached.start b.v0 b.first b.standing x.path.steps x parts.part parts.first.new_vars =
        follows_asking memory m stands terms meaning p e b.entry reached.start b.v0 b.first b.standing x.path.steps x parts.part reached.trail parts.first meets in
        record {
          begins = b;
          part = parts.part;
          values = parts.values;
          both = parts.both;
          state = by.state;
          choices = by.choices;
          asked = by.asked;
          runs = subst (λ u. RunsAsking p memory m b.entry u b.first x.path.steps by.choices by.asked by.state) (sym parts.both) (by.runs parts.values);
          choices_are = by.choices_are ∙ ap (λ cs. cs ++ by.choices) reached.real.no_choices;
          asked_are = by.conds_are;
          under = record {
            standing = by.stands_for;
            above = stands_above memory stands terms meaning e x parts.part b.entry by.state by.stands_for;
            continued = parts.second by.state.machine.counter by.counted;
            meets = above.meets;
          };
        }

    -- the conditions that the path has more than its start
    abbrev added : List PureAtom
    added = conds_before.0

    module _ (most : ℕ) (early : x.path.steps ≤ most) (shown : PureShown) (vars : List Sort) (conds : List PureAtom) (more_vars : HaveMore x.path.vars vars) (more_conds : HaveMore x.path.conds conds) (table : HaveMore vars shown.vars)
        (longer : HaveMore conds shown.conds) (met : CanBeMet x vars conds) (place : IsPlaceOf p x.path.stack shown.place) (asks : AddsAsked p e x shown.conds)
        (chooses : (v w : List PureValue) (entry : Entry) (c : Checked) → IsUnder stands e x vars conds v w entry c → (chosen : Option ℕ) × AreChoices x shown.choices chosen) where
      way_reachable : IsReachable p memory m e vars conds
      way_reachable = record {
        first_vars = Vars0;
        first = reached.start.path.conds;
        come = reached.come;
        may_be_met = reached.may_be_met;
        table = more_again Vars0 x.path.vars vars vars_before more_vars;
        longer = more_again reached.start.path.conds x.path.conds conds conds_before more_conds;
        can = λ v meets. let (w, met_there) = can_be_met v meets in met w met_there;
      }

      way_comes : RunsWherever p memory m e vars conds (ComesTo p memory m e x.path.steps shown.choices shown.place (added ++ asks.0))
      way_comes counter w above =
          let k : IsComing vars conds counter w = coming vars conds counter w more_vars more_conds above in
          let (chosen, are) = chooses k.part w k.begins.entry k.state k.under in
          let same : k.asked ≡ added = append_cancel_left reached.start.path.conds k.asked added (sym k.asked_are ∙ conds_before.1) in (
            k.begins.entry,
            (
              k.begins.first,
              (
                k.begins.under,
                record {
                  state = k.state;
                  there = place_there p k.part x.path.stack k.state.machine shown.place k.under.standing.path.frames place;
                  earlier = k.choices;
                  asked_before = k.asked;
                  runs = k.runs;
                  chosen = chosen;
                  choices_are = are ∙ ap (λ cs. cs ++ with_choice chosen []) k.choices_are;
                  more = asks.0;
                  asks = each_asks memory m stands terms meaning p e x may k.part k.values w k.both k.begins.entry k.state k.under.standing asks.0 asks.1.1;
                  asked_are = ap (λ cs. cs ++ asks.0) (sym same);
                },
              ),
            ),
          )

      way_found : IsOnTheWay p memory m e most shown
      unfolding way_reachable
      way_found = record {
        vars = vars;
        conds = conds;
        reachable = way_reachable;
        table = table;
        longer = longer;
        asked = added ++ asks.0;
        are_asked = asks.1.0 ∙ ap (λ cs. cs ++ asks.0) conds_before.1 ∙ append_assoc reached.start.path.conds added asks.0;
        steps = x.path.steps;
        within = early;
        runs = way_comes;
      }

    module _ (most : ℕ) (early : x.path.steps < most) where
      within_most : x.path.steps ≤ most
      within_most = omega (arith, early)

      surely_found : (Is : List PureValue → Outcome → Type 0) (shown : PureShown) → IsSurely p memory m stands e x Is shown → ComesSurely p memory m e most Is shown
      surely_found Is shown surely = record { steps = x.path.steps; within = early; runs = surely_runs Is shown surely }

      surely_may : (Is : List PureValue → Outcome → Type 0) (shown : PureShown) → IsSurely p memory m stands e x Is shown → MayBeMet shown.vars shown.conds
      surely_may Is shown surely = more_met x.path.vars shown.vars x.path.conds shown.conds surely.at.longer surely.met may_meet

      surely_way : (Is : List PureValue → Outcome → Type 0) (shown : PureShown) → IsSurely p memory m stands e x Is shown → AddsAsked p e x shown.conds → IsOnTheWay p memory m e most shown
      surely_way Is shown surely asks =
          way_found most within_most shown shown.vars shown.conds surely.at.table surely.at.longer (same_list shown.vars) (same_list shown.conds) surely.met surely.at.place asks
          (λ v w entry c under. let leads = surely.exact v w entry c under in (leads.chosen, leads.choices))

      never_bound : (shown : PureShown) → IsSurely p memory m stands e x (λ w out. ⊥) shown → ComesToBound p memory m e most shown
      never_bound shown surely counter w above = let (entry, (first, (under, into))) = surely_runs (λ w out. ⊥) shown surely counter w above in absurd into.is

      open_found : (reason : Reason) (shown : PureShown) → IsUndecided x p reason shown → AddsAsked p e x shown.conds → IsOpen p memory m e most reason shown
      open_found reason shown is asks = record {
        outside = is.outside;
        first = is.first;
        way = inr (way_found most within_most shown x.path.vars x.path.conds (same_list x.path.vars) (same_list x.path.conds) is.at.table is.at.longer (λ v meets. (v, meets)) is.at.place asks (λ v w entry c under. (is.chosen, is.choices)));
      }

      -- a right cause of the path is one of the specification
      pub cause_found : (cause : PureCause) → IsRightCause p memory m stands e x cause → AddsAsked p e x (shown_in cause).conds → IsFoundCause p memory m e most cause
      cause_found (failure t shown) right asks = record { runs = surely_found _ shown right; may_be_met = surely_may _ shown right; way = surely_way _ shown right asks; known = right.at.known }
      cause_found (fault kind shown) right asks = record { runs = surely_found _ shown right; may_be_met = surely_may _ shown right; way = surely_way _ shown right asks; known = right.at.known }
      cause_found (bound shown) right asks = record { runs = never_bound shown right; may_be_met = surely_may _ shown right; way = surely_way _ shown right asks; known = right.at.known }
      cause_found (undecided reason shown) right asks = record { runs = open_found reason shown right asks; may_be_met = tt; way = tt; known = right.at.known }

    -- ---- the bound

    cut_runs : (here : Place) → IsPlaceOf p x.path.stack here → ComesToBound p memory m e x.path.steps (shown_of here x.path)
    cut_runs here place counter w above =
        let b : IsBegun x.path.vars counter w = begun x.path.vars x.path.conds counter w (same_list x.path.vars) (same_list x.path.conds) above in
        let by : IsFollowedBy p memory m stands terms e reached.start x.path.steps x w b.entry b.first =
        runs_follow_on memory m stands terms meaning p e b.entry reached.start b.v0 b.first b.standing x.path.steps x w trail b.continued above.meets in (
          b.entry,
          (
            b.first,
            (
              b.under,
              (
                by.state,
                (
                  subst (λ cs. Runs p memory m b.entry b.first x.path.steps cs by.state) (sym (by.choices_are ∙ ap (λ cs. cs ++ by.choices) reached.real.no_choices)) by.runs,
                  place_there p w x.path.stack by.state.machine here by.stands_for.path.frames place,
                ),
              ),
            ),
          ),
        )

    pub cut_found : (most : ℕ) (here : Place) (shown : PureShown) → x.path.steps ≡ most → IsPlaceOf p x.path.stack here → shown ≡ shown_of here x.path → IsFoundCause p memory m e most (bound shown)
    cut_found most here shown steps place is = subst (λ s. IsFoundCause p memory m e most (bound s)) (sym is) (record {
      runs = subst (λ n. ComesToBound p memory m e n (shown_of here x.path)) steps (cut_runs here place);
      may_be_met = may_meet;
      way = way_found most (omega (arith, steps)) (shown_of here x.path) x.path.vars x.path.conds (same_list x.path.vars) (same_list x.path.conds) (same_list x.path.vars) (same_list x.path.conds) (λ v meets. (v, meets)) place
          ([], (sym (append-nil x.path.conds), tt)) (λ v w entry c under. (None, sym (append-nil x.path.choices)));
      known = λ u none. absurd (nothing_known u none);
    })
      where
        nothing_known : (u : List PureValue) → None ≡ Some u → ⊥
        nothing_known u is = not_none is
