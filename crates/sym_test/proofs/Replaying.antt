-- What is said of an ended path is right: bugs replay, and what is left undecided is.
use Rattle.std.proofs.Common.{◌≡◌, ℤ, ◌⊎◌, inl, inr, ℕ, suc, ◌≤◌, List, [], ◌∷◌, ◌++◌, length, Bool, true, false, ◌||◌, Some, IsTrue, refl, sym, ap, subst, ◌∙◌, arith, codes}
use Rattle.std.proofs.lemmas.List.Folds.{list_any-append}
use Rattle.gil_values.specs.declared.places.Place.{Place}
use Rattle.gil_values.specs.Pure.{PureValue, text}
use Rattle.gil_syntax.specs.Pure.{PureParts, PureNumberedCommand}
use Rattle.gil_machine.specs.Run.{reached, run, IsEntry, IsBug}
use Rattle.gil_machine.specs.State.{State, End, IsOver, cut, failed, told}
use Rattle.gil_machine.specs.Step.{command_at, step}
use Rattle.mem_model.specs.Actions.{Actions}
use Rattle.mem_model.specs.Heaps.{Heap}
use Rattle.pure_terms.specs.Meaning.{value, all_true, Satisfies}
use Rattle.pure_terms.specs.Pure.{PureTerm, PureAtom}
use Rattle.sym_engine.specs.Lawful.{IsOwnAt}
use Rattle.sym_step.specs.ExplorationLaws.{IsTraced}
use Rattle.sym_step.specs.Plain.{EachStep, IsAtSimple}
use Rattle.sym_step.specs.Runs.{EndsAfter, StandsAfter}
use Rattle.sym_step.specs.Trails.{IsNextPath, IsTrail, IsAssumedOn}
use Rattle.sym_model.specs.Lists.{Each, OneOf, IsAmong}
use Rattle.sym_model.specs.Meaning.{is_open, has_open}
use Rattle.sym_model.specs.Pure.{PureKey}
use Rattle.sym_model.specs.Terms.{StateTerms}
use Rattle.sym_model.proofs.ListLaws.{same_some, each_to}
use Rattle.sym_paths.specs.Forms.{NeedsWhatMatters}
use Rattle.sym_paths.specs.Meaning.{AreFrames, frames_of, EndsAt, StandsForEnd}
use Rattle.sym_paths.specs.Pure.{PureFrame, PureEnd, PurePath}
use Rattle.sym_paths.specs.Pure as path_end
use Rattle.sym_paths.specs.Steps.{IsUnknown, IsPlaceOf}
use Rattle.sym_paths.proofs.Silent.{stands_at}
use Rattle.sym_paths.proofs.Following.{both_true, first_true}
use Rattle.sym_test.specs.Canonical.{HaveValuation, draws_among, IsCanonical}
use Rattle.sym_test.specs.Judged.{Begins}
use Rattle.sym_test.specs.Undecided.{first_state, ComesAlong, MeetsOther, IsWay, AsksAlong, IsOutsideAt, IsUndecided}
use Rattle.sym_test.specs.View.{PureQuery}
use Rattle.sym_test.proofs.Failing.{fails_here}
use Rattle.sym_test.proofs.Plainly.{simple_or_other}
use Rattle.sym_test.proofs.Trailing.{TrailLaws, inputs_counted, steps_counted, has_canonical, beside, replayed, come_by, given_meets, leads_along}
use Rattle.sym_test.specs.Bugs.{failure}
use Rattle.sym_test.proofs.Failures.{failure_known, failure_ends, over_where_failed}

first_false : (a b : Bool) → (a || b) ≡ false → a ≡ false
first_false true b none = none
first_false false b none = refl

-- the place of the command at which the frames stand is that of the state's command
place_there : (p : PureParts) (v : List PureValue) (fs : List PureFrame) (s : State) (c : PureNumberedCommand) (place : Place) → AreFrames v fs (frames_of s) → command_at p s.current ≡ Some c → IsPlaceOf p fs place
    → place ≡ record { proc = s.current.procedure; at = c.at }
place_there p v [] s c place are at of_place = absurd of_place
place_there p v (f ∷ fs) s c place are at (d, (at_d, is)) =
    let same : d ≡ c = same_some (sym at_d ∙ stands_at p v (f ∷ fs) s are ∙ at) in
    is ∙ (λ j. record { proc = are.0.procedure j; at = (same j).at })

-- the last step of a run that fails does so at its command
last_fails : (p : PureParts) (m : Actions) (inputs : List PureValue) (s0 : State) (k : ℕ) (s t : State) (c : PureNumberedCommand) (e : End) (w : PureValue) (place : Place) → reached p m inputs k s0 ≡ Some s → command_at p s.current ≡ Some c
    → EndsAfter p m inputs s0 (suc k) t e → told e.ending ≡ failed w place → place ≡ record { proc = s.current.procedure; at = c.at }
last_fails p m inputs s0 k s t c e w place reach at (inl (j, (same, comes, leads))) is =
    let at_k : k ≡ j = omega (arith, same) in
    let there : t ≡ s = same_some (sym comes ∙ ap (λ i. reached p m inputs i s0) (sym at_k) ∙ reach) in
    fails_here p m inputs s c e w place at (ap (step p m inputs) (sym there) ∙ leads) is
last_fails p m inputs s0 k s t c e w place reach at (inr (comes, ends_cut)) is = not_cut w place (sym (ap (λ (r : End). told r.ending) ends_cut) ∙ is) where
  not_cut : (w : PureValue) (place : Place) → cut ≡ failed w place → place ≡ record { proc = s.current.procedure; at = c.at }
  not_cut w place unlike = cc

module _ {S : Type 0} (p : PureParts) (m : Actions) (stands : S → List PureValue → Heap → Type 0) (terms : S → StateTerms) (asked : List ℕ → List PureTerm → List PureTerm × List PureTerm)
    (plain : S → ℤ → ℤ → Type 0) (laws : TrailLaws p m stands terms asked) (f : List ℕ) (start : PurePath S) (begins : Begins p stands terms plain f start) where
  abbrev IsTrailOf : List (PurePath S) → PurePath S → Type 0
  IsTrailOf = IsTrail p m stands terms asked start

  abbrev s0 : State
  s0 = first_state p f

  -- ---- bugs

  -- the end to which a run with the own inputs of a canonical valuation comes
  module _ (n : ℕ) (entry : IsEntry p f) (earlier : List (PurePath S)) (path : PurePath S) (trail : IsTrailOf earlier path) (within : path.steps ≤ n) (v : List PureValue) (canonical : IsCanonical path.vars path.conds v)
      (how : PureEnd) (ending : path.ending ≡ Some how) (known : ¬ IsUnknown (Some how)) where
    abbrev inputs : List PureValue
    inputs = draws_among path.vars v

    ended : (s : State) × ((e : End) × (EndsAfter p m inputs s0 (length earlier) s e × StandsForEnd p m stands path v s how e))
    ended = subst (StandsAfter p m stands inputs s0 start path v (length earlier)) ending
        (replayed p m stands terms asked plain laws f start begins inputs earlier path v trail canonical.own canonical.meets (λ unknown. known (subst IsUnknown ending unknown)))

    is_the_run : (s : State) (e : End) → EndsAfter p m inputs s0 (length earlier) s e → IsOver e.ending → run p m inputs n s0 ≡ e
    is_the_run s e after over =
        let counted : path.steps ≡ length earlier = steps_counted p m stands terms asked plain laws f start begins earlier path trail in
        (laws.ends p m inputs s0 s (length earlier) e after).1 n (omega (arith, counted, within)) over

    is_bug : (s : State) (e : End) (w : PureValue) (place : Place) → EndsAfter p m inputs s0 (length earlier) s e → StandsForEnd p m stands path v s how e → told e.ending ≡ failed w place → IsBug p m f n inputs w place
    is_bug s e w place after stood is =
        let same : run p m inputs n s0 ≡ e = is_the_run s e after (over_where_failed e.ending w place is) in
        record {
          entry = entry;
          fails = ap (λ (r : End). told r.ending) same ∙ is;
          draws_each = ap (λ (r : End). r.draws) same ∙ stood.draws ∙ inputs_counted p m stands terms asked plain laws f start begins earlier path v trail canonical.own.proper.one_each;
        }

  pub failure_is_bug : (n : ℕ) → IsEntry p f → (earlier : List (PurePath S)) (path : PurePath S) → IsTrailOf earlier path → path.steps ≤ n → (v : List PureValue) → IsCanonical path.vars path.conds v
      → (thrown : Bool) (t : PureTerm) (place : Place) (w : PureValue) → path.ending ≡ Some (failure thrown t place) → value v t ≡ Some w → IsBug p m f n (draws_among path.vars v) w place
  failure_is_bug n entry earlier path trail within v canonical thrown t place w ending has =
      let known = failure_known thrown t place in
      let (s, (e, (after, stood))) = ended n entry earlier path trail within v canonical (failure thrown t place) ending known in
      let (u, (val, is)) = failure_ends thrown p m v s t place e.ending stood.ending in
      is_bug n entry earlier path trail within v canonical (failure thrown t place) ending known s e w place after stood (is ∙ ap (λ x. failed x place) (same_some (sym val ∙ has)))

  pub failure_has_value : (n : ℕ) → IsEntry p f → (earlier : List (PurePath S)) (path : PurePath S) → IsTrailOf earlier path → path.steps ≤ n → (v : List PureValue) → IsCanonical path.vars path.conds v
      → (thrown : Bool) (t : PureTerm) (place : Place) → path.ending ≡ Some (failure thrown t place) → (w : PureValue) × (value v t ≡ Some w)
  failure_has_value n entry earlier path trail within v canonical thrown t place ending =
      let (s, (e, (after, stood))) = ended n entry earlier path trail within v canonical (failure thrown t place) ending (failure_known thrown t place) in
      let (u, (val, is)) = failure_ends thrown p m v s t place e.ending stood.ending in
      (u, val)

  pub miss_is_bug : (n : ℕ) → IsEntry p f → (earlier : List (PurePath S)) (path : PurePath S) → IsTrailOf earlier path → path.steps ≤ n → (v : List PureValue) → IsCanonical path.vars path.conds v
      → (key : PureKey) (place : Place) → path.ending ≡ Some (path_end.missed key place) → IsBug p m f n (draws_among path.vars v) (text (codes "missing")) place
  miss_is_bug n entry earlier path trail within v canonical key place ending =
      let (s, (e, (after, stood))) = ended n entry earlier path trail within v canonical (path_end.missed key place) ending (λ no. no) in
      let (q, (is_key, misses, is)) = stood.ending in
      is_bug n entry earlier path trail within v canonical (path_end.missed key place) ending (λ no. no) s e (text (codes "missing")) place after stood (ap told is)

  -- ---- undecided

  closed_first : (a b : List PureAtom) → has_open (a ++ b) ≡ false → has_open a ≡ false
  closed_first a b none = first_false (has_open a) (has_open b) (sym (list_any-append is_open a b) ∙ none)

  module _ (n : ℕ) (entry : IsEntry p f) (before : PurePath S) (rest : List (PurePath S)) (path : PurePath S) (next : IsNextPath p m stands terms asked before path) (trail : IsTrailOf rest before) (how : PureEnd) (ending : path.ending ≡ Some how)
      (within : path.steps ≤ n) where
    steps_are : path.steps ≡ suc (length rest)
    steps_are = steps_counted p m stands terms asked plain laws f start begins (before ∷ rest) path (next, trail)

    abbrev query_of : Place → List PureAtom → ℕ → PureQuery
    query_of place atoms i = record { place = place; path = path.choices; vars = path.vars; given = path.given; query = atoms; outside = i }

    abbrev pub way_of : (depends : S → List ℕ → List PureTerm → List PureValue → Heap → PureTerm → Type 0) → EachStep (NeedsWhatMatters p stands depends) (before ∷ rest) path → (place : Place) → EndsAt place how → (atoms : List PureAtom) (i : ℕ)
        → IsWay p m stands terms asked depends f (query_of place atoms i) (length rest)
    way_of depends forms place there atoms i = record {
      start = start;
      first = begins.first;
      earlier = rest;
      last = before;
      trail = trail;
      steps = refl;
      next = path;
      leads = next;
      how = how;
      ending = ending;
      ends_there = there;
      vars = refl;
      choices = refl;
      given = refl;
      forms = forms;
    }

    -- nothing is assumed at the start
    assumed_there : (a : PureAtom) → IsAmong a start.given ⊎ IsAssumedOn p m stands terms asked (before ∷ rest) a → IsAssumedOn p m stands terms asked (before ∷ rest) a
    assumed_there a (inl first) = absurd (subst (IsAmong a) begins.first.given first)
    assumed_there a (inr on) = on

    -- the start has no condition, so each one is own to a command
    traced_there : (a : PureAtom) → IsTraced p m stands terms asked start (before ∷ rest) a → OneOf (λ part. IsOwnAt stands terms asked m p part a) (before ∷ rest)
    traced_there a (inl first) = absurd (subst (IsAmong a) begins.first.conds first)
    traced_there a (inr own) = own

    module _ (depends : S → List ℕ → List PureTerm → List PureValue → Heap → PureTerm → Type 0) (forms : EachStep (NeedsWhatMatters p stands depends) (before ∷ rest) path) (place : Place) (there : EndsAt place how) (more : List PureAtom) (i : ℕ) (inputs : List PureValue) (come : ComesAlong p m f inputs (length rest) place path.choices)
        (more_holds : (us v : List PureValue) → HaveValuation path.vars us v → IsTrue (all_true v path.conds) → IsTrue (all_true v more))
        (asks : AsksAlong p m stands terms asked depends f (query_of place (path.conds ++ more) i) (length rest) (way_of depends forms place there (path.conds ++ more) i)) (outside : IsOutsideAt (path.conds ++ more) i) where
      abbrev q : PureQuery
      q = query_of place (path.conds ++ more) i

      pub is_undecided : (keeps_plain : Type 0) → (keeps_plain → MeetsOther p m f inputs (length rest)) → IsUndecided p m stands terms asked depends keeps_plain f n q
      is_undecided keeps_plain others = record {
        entry = entry;
        k = length rest;
        within = (let counted : path.steps ≡ suc (length rest) = steps_are in omega (arith, counted, within));
        inputs = inputs;
        come = come;
        not_simple = others;
        given_suffices = λ us v has along given.
            let meets : IsTrue (all_true v path.conds) = given_meets p m stands terms asked plain laws f start begins before rest path next trail how ending us v has along given in
            both_true v path.conds more meets (more_holds us v has meets);
        leads = λ closed us v has given whole.
            leads_along p m stands terms asked plain laws f start begins before rest path next trail how ending us v has (first_true v path.conds more whole) (inr (closed_first path.conds more closed));
        way = way_of depends forms place there (path.conds ++ more) i;
        asks = asks;
        conds_traced = each_to (IsTraced p m stands terms asked start (before ∷ rest)) (λ a. OneOf (λ part. IsOwnAt stands terms asked m p part a) (before ∷ rest)) path.conds traced_there
            (laws.keep.traced start path (before ∷ rest) (next, trail));
        given_allowed = each_to (λ a. IsAmong a start.given ⊎ IsAssumedOn p m stands terms asked (before ∷ rest) a) (IsAssumedOn p m stands terms asked (before ∷ rest)) path.given assumed_there
            (laws.keep.assumed_on start path (before ∷ rest) (next, trail));
        outside = outside;
      }

    -- ---- how some run comes there

    abbrev pub ComesSimply : List PureValue → Place → Type 0
    ComesSimply us place = ComesAlong p m f us (length rest) place path.choices × (Each (IsAtSimple p) (before ∷ rest) ⊎ MeetsOther p m f us (length rest))

    pub come_unknown : (place : Place) → IsPlaceOf p before.stack place → (us : List PureValue) × ComesSimply us place
    come_unknown place at =
        let known : ¬ IsUnknown before.ending = λ unknown. subst IsUnknown next.going unknown in
        let (v, canonical) = has_canonical p m stands terms asked plain laws f start begins rest before trail known in
        let us : List PureValue = draws_among before.vars v in
        let along = beside p m stands terms asked plain laws f start begins us rest before v trail canonical.own in
        let sat : Satisfies before.vars v before.conds = record { proper = canonical.own.proper; true_there = canonical.meets } in (
          us,
          (
            come_by p m stands terms asked plain laws f start begins before rest path next trail how ending us v place along sat (λ s c stood reach at_c. place_there p v before.stack s c place stood.frames at_c at),
            simple_or_other p m stands terms asked laws f start us rest before v trail next.going next.at_command along sat,
          ),
        )

    module _ (v : List PureValue) (canonical : IsCanonical path.vars path.conds v) (known : ¬ IsUnknown (Some how)) (place : Place)
        (fails_there : (e : End) (s : State) → StandsForEnd p m stands path v s how e → (w : PureValue) × (told e.ending ≡ failed w place)) where
      abbrev us : List PureValue
      us = draws_among path.vars v

      placed : (s : State) (c : PureNumberedCommand) → reached p m us (length rest) s0 ≡ Some s → command_at p s.current ≡ Some c → place ≡ record { proc = s.current.procedure; at = c.at }
      placed s c reach at =
          let (t, (e, (after, stood))) = ended n entry (before ∷ rest) path (next, trail) within v canonical how ending known in
          let (w, is) = fails_there e t stood in
          last_fails p m us s0 (length rest) s t c e w place reach at after is

      pub come_failing : ComesSimply us place
      come_failing =
          let sat : Satisfies path.vars v path.conds = record { proper = canonical.own.proper; true_there = canonical.meets } in
          let (w, (along, sat_before)) = laws.end_before us [] v s0 start before path rest (beside p m stands terms asked plain laws f start begins us (before ∷ rest) path v (next, trail) canonical.own) sat in (
            come_by p m stands terms asked plain laws f start begins before rest path next trail how ending us w place along sat_before (λ s c stood reach at. placed s c reach at),
            simple_or_other p m stands terms asked laws f start us rest before w trail next.going next.at_command along sat_before,
          )
