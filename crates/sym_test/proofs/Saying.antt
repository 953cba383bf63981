-- What is said of an ended path is right.
use Rattle.std.proofs.Common.{◌≡◌, ℤ, pos, neg_ℤ, ◌⊎◌, ⊎_elim, inl, inr, ℕ, zero, suc, ◌<◌, ◌≤◌, ◌^◌, List, [], ◌∷◌, ◌++◌, length, Bool, true, false, ◌&&◌, Option, Some, None, is_some, IsTrue, true≢false, refl, sym, ap, subst, ◌∙◌, arith, slice_get, codes}
use Rattle.std.specs.List.{list_all}
use Rattle.std.proofs.lemmas.Bool.{and_parts}
use Rattle.std.proofs.lemmas.List.{append-nil}
use Rattle.std.proofs.lemmas.List.Folds.{list_all-append}
use Rattle.gil_values.specs.declared.places.Place.{Place}
use Rattle.gil_values.specs.Pure.{PureValue, text}
use Rattle.gil_syntax.specs.Pure.{PureParts}
use Rattle.gil_machine.specs.Run.{reached, run, test_run, IsEntry, IsBug}
use Rattle.gil_machine.specs.State.{State, Ending, End, IsOver, IsFailed, ends, told}
use Rattle.gil_machine.specs.State as machine
use Rattle.gil_machine.specs.Step.{step}
use Rattle.mem_model.specs.Actions.{Actions}
use Rattle.mem_model.specs.Heaps.{Heap}
use Rattle.pure_terms.specs.declared.deciders.Reason.{Reason}
use Rattle.pure_terms.specs.Fragment.{has_fragment_form, InFragment}
use Rattle.pure_terms.specs.Meaning.{value, truth, all_true, IsOver as IsOverVars, Satisfies}
use Rattle.pure_terms.specs.Pure.{PureTerm, PureAtom, opening}
use Rattle.pure_terms.specs.Wide.{has_wide_part}
use Rattle.pure_terms.proofs.FragmentLaws.{fragment_atom_by_atom}
use Rattle.sym_step.specs.Exploring.{IsFrom, IsEndedFrom}
use Rattle.sym_step.specs.ExplorationLaws.{IsBeside}
use Rattle.sym_step.specs.Plain.{EachStep, IsAtSimple, TrailsStayPlain, grown}
use Rattle.sym_step.specs.Runs.{EndsAfter, StandsAfter, AccountsFor}
use Rattle.sym_step.specs.Trails.{IsNextPath, IsTrail}
use Rattle.sym_model.specs.Laws.{IsPlainWithin, IsDecidedWithin}
use Rattle.sym_model.specs.Lists.{Each}
use Rattle.sym_model.specs.Terms.{StateTerms, AreEachOver}
use Rattle.sym_model.proofs.ListLaws.{same_some, not_none, each_at}
use Rattle.sym_paths.specs.Forms.{NeedsWhatMatters}
use Rattle.sym_paths.specs.Meaning.{EndsAt, StandsForEnd, end_terms}
use Rattle.sym_paths.specs.Origins.{IsText}
use Rattle.sym_paths.specs.Pure.{PureEnd, returned, failed, threw, missed, vanished, cut, unknown, PurePath}
use Rattle.sym_paths.specs.Steps.{Extends, IsUnknown, IsRightlyUnknown, place_of, IsPlainPath}
use Rattle.sym_test.specs.Bugs.{IsFound, failure}
use Rattle.sym_test.specs.Canonical.{HaveValuation, draws_among}
use Rattle.sym_test.specs.Judged.{Begins, PureJudgement, harmless, fails, undecided, IsAbout, IsListOutside, IsWide, IsFoundBug, lists_of, IsFailureJudged, IsUnknownJudged, IsJudgedEnd, AccountsForNoFailure, IsRightlyJudged}
use Rattle.sym_test.specs.Undecided.{first_state, ComesAlong, MeetsOther, FailsSimply, is_narrow_term, IsOutsideAt, IsUndecided, IsFailingBy}
use Rattle.sym_test.specs.View.{PureQuery}
use Rattle.sym_test.proofs.Canonicals.{at_length}
use Rattle.sym_test.proofs.Holding.{narrow_is_held}
use Rattle.sym_test.proofs.Plainly.{atom_passes, term_is_narrow, simple_or_other}
use Rattle.sym_test.proofs.Replaying.{failure_is_bug, miss_is_bug, is_undecided, come_unknown, come_failing}
use Rattle.sym_test.proofs.Trailing.{TrailLaws, steps_counted, is_over, has_canonical, replayed}
use Rattle.sym_test.proofs.Failures.{is_cut, failure_no_cut, failure_known, failure_there, failure_terms, failure_value, failure_ends}

not_cut : {X : Type 0} (how : PureEnd) → Some how ≡ Some cut → (how ≡ cut → ⊥) → X
not_cut how is other = absurd (other (same_some is))

not_harmless : (q : PureQuery) → undecided q ≡ harmless → ⊥
not_harmless q unlike = cc

element_before : {X : Type 0} (xs ys : List X) (i : ℕ) (x : X) → i < length xs → slice_get (xs ++ ys) i ≡ Some x → slice_get xs i ≡ Some x
element_before [] ys i x within at = absurd (omega (arith, within))
element_before (z ∷ xs) ys zero x within at = at
element_before (z ∷ xs) ys (suc i) x within at = element_before xs ys i x (omega (arith, within)) at

-- an `Open` at the end of a list of the fragment is the first atom outside
open_is_outside : (atoms : List PureAtom) (t : PureTerm) → InFragment atoms → IsOutsideAt (atoms ++ opening t ∷ []) (length atoms)
open_is_outside atoms t inside = (
  λ whole.
      let forms : (list_all has_fragment_form atoms && false) ≡ true = sym (list_all-append has_fragment_form atoms (opening t ∷ [])) ∙ whole.forms in
      true≢false (sym (and_parts (list_all has_fragment_form atoms) false forms).1),
  (
    Reason.Atom (length atoms),
    (
      record {
        named = (opening t, (at_length atoms (opening t) [], refl));
        those_before = λ i a less at. ((fragment_atom_by_atom atoms).0 inside).0 i a (element_before atoms (opening t ∷ []) i a less at);
      },
      refl,
    ),
  ),
)

module _ {S : Type 0} (p : PureParts) (m : Actions) (stands : S → List PureValue → Heap → Type 0) (terms : S → StateTerms) (asked : List ℕ → List PureTerm → List PureTerm × List PureTerm)
    (plain : S → ℤ → ℤ → Type 0) (laws : TrailLaws p m stands terms asked) (f : List ℕ) (start : PurePath S) (begins : Begins p stands terms plain f start) (n : ℕ) (entry : IsEntry p f) (few : n ≤ 10000) (keeps_plain : Type 0) (stays : TrailsStayPlain p m stands terms asked plain)
    (depends : S → List ℕ → List PureTerm → List PureValue → Heap → PureTerm → Type 0) where
  abbrev s0 : State
  s0 = first_state p f

  abbrev From : PurePath S → Type 0
  From path = IsFrom p m stands terms asked depends plain keeps_plain n start path

  abbrev Ended : PurePath S → Type 0
  Ended path = IsEndedFrom p m stands terms asked depends plain keeps_plain n start path

  -- an end that is no cut is that of a trail
  from_of : (path : PurePath S) (how : PureEnd) → Ended path → path.ending ≡ Some how → is_cut how ≡ false → From path
  from_of path how (inl (from, some)) ending other = from
  from_of path how (inr (last, (from, going, steps, is))) ending other =
      let same : how ≡ cut = same_some (sym ending ∙ ap (λ (q : PurePath S). q.ending) is) in
      absurd (true≢false (sym (ap is_cut same) ∙ other))

  steps_within : (path : PurePath S) → Ended path → path.steps ≤ n
  steps_within path (inl (from, some)) = from.within
  steps_within path (inr (last, (from, going, steps, is))) = let same : path.steps ≡ last.steps = ap (λ (q : PurePath S). q.steps) is in omega (arith, same, steps)

  -- ---- no failure

  over_is_no_failure : (inputs : List PureValue) (k : ℕ) (s : State) (e : End) (r : Ending) → EndsAfter p m inputs s0 k s e → k ≤ n → e.ending ≡ r → IsOver r → (IsFailed (told r) → ⊥) → IsFailed (test_run p m f inputs n).ending → ⊥
  over_is_no_failure inputs k s e r after within is over no_failure fails_there =
      let same : run p m inputs n s0 ≡ e = (laws.ends p m inputs s0 s k e after).1 n within (subst IsOver (sym is) over) in
      no_failure (subst (λ q. IsFailed (told q)) (ap (λ (x : End). x.ending) same ∙ is) fails_there)

  cut_is_no_failure : (path : PurePath S) → Ended path → path.ending ≡ Some cut → (inputs v : List PureValue) (s : State) (e : End) → AccountsFor p m stands inputs s0 start [] path → EndsAfter p m inputs s0 path.steps s e → e.ending ≡ machine.cut
      → StandsForEnd p m stands path v s cut e → IsFailed (test_run p m f inputs n).ending → ⊥
  cut_is_no_failure path (inl (from, some)) ending inputs v s e (u, (ext, what)) after is stood fails_there =
      no_cut_there what where
        no_cut_there : StandsAfter p m stands inputs s0 start path u path.steps path.ending ⊎ (IsUnknown path.ending × Satisfies path.vars u path.conds) → ⊥
        no_cut_there (inr (holds, sat)) = subst IsUnknown ending holds
        no_cut_there (inl stands_after) =
            let (t, (d, (ends_there, stood_there))) = subst (StandsAfter p m stands inputs s0 start path u path.steps) ending stands_after in
            laws.replay.never_cut inputs [] u s0 start from.earlier path
            (record { trail = from.trail; going = begins.first.going; over = begins.over; stands_for = begins.stands_for; follows = ext })
            (record { proper = stood_there.proper; true_there = stood_there.meets }) ending
  cut_is_no_failure path (inr (last, (from, going, steps, same))) ending inputs v s e accounts after is stood fails_there =
      let at_bound : path.steps ≡ n = ap (λ (q : PurePath S). q.steps) same ∙ steps in
      let whole : run p m inputs n s0 ≡ e = subst (λ k. run p m inputs k s0 ≡ e) at_bound (laws.ends p m inputs s0 s path.steps e after).0 in
      subst (λ q. IsFailed (told q)) (ap (λ (x : End). x.ending) whole ∙ is) fails_there

  abbrev NoFailure : PurePath S → Type 0
  NoFailure path = AccountsForNoFailure p m stands f n start path

  at_end : (path : PurePath S) (how : PureEnd) → path.ending ≡ Some how → (IsUnknown (Some how) → ⊥) → (inputs : List PureValue) → AccountsFor p m stands inputs s0 start [] path
      → (v : List PureValue) × ((s : State) × ((e : End) × (EndsAfter p m inputs s0 path.steps s e × StandsForEnd p m stands path v s how e)))
  at_end path how ending known inputs (v, (ext, inl after)) = (v, subst (StandsAfter p m stands inputs s0 start path v path.steps) ending after)
  at_end path how ending known inputs (v, (ext, inr (holds, sat))) = absurd (known (subst IsUnknown ending holds))

  returned_is_harmless : (path : PurePath S) (t : PureTerm) → Ended path → path.ending ≡ Some (returned t) → NoFailure path
  returned_is_harmless path t from ending inputs fails_there accounts =
      let (v, (s, (e, (after, stood)))) = at_end path (returned t) ending (λ holds. holds) inputs accounts in
      let (w, (val, is)) = stood.ending in
      over_is_no_failure inputs path.steps s e (machine.returned w) after (steps_within path from) is tt (λ holds. holds) fails_there

  vanished_is_harmless : (path : PurePath S) → Ended path → path.ending ≡ Some vanished → NoFailure path
  vanished_is_harmless path from ending inputs fails_there accounts =
      let (v, (s, (e, (after, stood)))) = at_end path vanished ending (λ holds. holds) inputs accounts in
      over_is_no_failure inputs path.steps s e machine.vanished after (steps_within path from) stood.ending tt (λ holds. holds) fails_there

  cut_is_harmless : (path : PurePath S) → Ended path → path.ending ≡ Some cut → NoFailure path
  cut_is_harmless path from ending inputs fails_there accounts =
      let (v, (s, (e, (after, stood)))) = at_end path cut ending (λ holds. holds) inputs accounts in
      cut_is_no_failure path from ending inputs v s e accounts after stood.ending stood fails_there

  not_open : (path : PurePath S) → Ended path → path.ending ≡ None → ⊥
  not_open path (inl (from, some)) ending = true≢false (sym some ∙ ap is_some ending)
  not_open path (inr (last, (from, going, steps, is))) ending = not_none (sym ending ∙ ap (λ (q : PurePath S). q.ending) is)

  -- ---- bugs

  found_failure : (path : PurePath S) (thrown : Bool) (t : PureTerm) (place here : Place) (w : PureValue) (inputs : List PureValue) → Ended path → path.ending ≡ Some (failure thrown t place) → here ≡ place → IsFoundBug (lists_of path) (failure thrown t place) w inputs
      → IsBug p m f n inputs w here
  found_failure path thrown t place here w inputs ended ending same bug =
      let from = from_of path (failure thrown t place) ended ending (failure_no_cut thrown t place) in
      subst (λ us. IsBug p m f n us w here) (sym bug.draws) (subst (IsBug p m f n (draws_among path.vars bug.valuation) w) (sym same)
      (failure_is_bug p m stands terms asked plain laws f start begins n entry from.earlier path from.trail from.within bug.valuation bug.canonical thrown t place w ending (failure_value thrown bug.valuation t place w bug.value_is)))

  found_miss : (path : PurePath S) (key : _) (place here : Place) (w : PureValue) (inputs : List PureValue) → Ended path → path.ending ≡ Some (missed key place) → here ≡ place → IsFoundBug (lists_of path) (missed key place) w inputs → IsBug p m f n inputs w here
  found_miss path key place here w inputs ended ending same bug =
      let from = from_of path (missed key place) ended ending refl in
      subst (λ us. IsBug p m f n us w here) (sym bug.draws) (subst (IsBug p m f n (draws_among path.vars bug.valuation) w) (sym same)
      (subst (λ u. IsBug p m f n (draws_among path.vars bug.valuation) u place) (sym bug.value_is)
      (miss_is_bug p m stands terms asked plain laws f start begins n entry from.earlier path from.trail from.within bug.valuation bug.canonical key place ending)))

  -- where a bug comes from
  found_along : (path : PurePath S) (how : PureEnd) (place here : Place) (w : PureValue) (inputs : List PureValue) → Ended path → path.ending ≡ Some how → is_cut how ≡ false → EndsAt place how → here ≡ place → IsFoundBug (lists_of path) how w inputs
      → IsFound p m stands terms asked depends f n here w inputs
  found_along path how place here w inputs ended ending other at same bug =
      let from = from_of path how ended ending other in
      let counted : path.steps ≡ length from.earlier = steps_counted p m stands terms asked plain laws f start begins from.earlier path from.trail in
      let within : path.steps ≤ n = from.within in
      record {
        start = start;
        first = begins.first;
        earlier = from.earlier;
        path = path;
        trail = from.trail;
        within = omega (arith, counted, within);
        forms = from.forms;
        how = how;
        ending = ending;
        ends_there = subst (λ q. EndsAt q how) (sym same) at;
        valuation = bug.valuation;
        canonical = bug.canonical;
        draws = bug.draws;
        value_is = bug.value_is;
      }

  -- ---- undecided

  abbrev Undecided : PureQuery → Type 0
  Undecided q = IsUndecided p m stands terms asked depends keeps_plain f n q

  abbrev about : PurePath S → Place → List PureAtom → ℕ → PureQuery
  about path place atoms i = record { place = place; path = path.choices; vars = path.vars; given = path.given; query = atoms; outside = i }

  is_about : (path : PurePath S) (place : Place) (q : PureQuery) (atoms : List PureAtom) (i : ℕ) → IsAbout (lists_of path) place q → q.query ≡ atoms → q.outside ≡ i → Undecided (about path place atoms i) → Undecided q
  is_about path place q atoms i is query outside so =
      subst Undecided (sym (λ j. record { place = is.place_is j; path = is.choices j; vars = is.vars j; given = is.given j; query = query j; outside = outside j })) so

  -- a path with an end comes after another one
  record LastStep (path : PurePath S) (earlier : List (PurePath S)) : Type 0 where
    before : PurePath S
    rest : List (PurePath S)
    is : earlier ≡ before ∷ rest
    next : IsNextPath p m stands terms asked before path
    trail : IsTrail p m stands terms asked start rest before

  last_step : (path : PurePath S) (how : PureEnd) (earlier : List (PurePath S)) → IsTrail p m stands terms asked start earlier path → path.ending ≡ Some how → LastStep path earlier
  last_step path how [] same ending = not_none (sym begins.first.going ∙ ap (λ (q : PurePath S). q.ending) (sym same) ∙ ending)
  last_step path how (before ∷ rest) (next, trail) ending = record { before = before; rest = rest; is = refl; next = next; trail = trail }

  -- ---- where every command on the way has a simple form

  narrow_there : (path : PurePath S) (from : From path) → grown (length from.earlier) 0 ≤ 2 ^ 80
  narrow_there path from =
      let counted : path.steps ≡ length from.earlier = steps_counted p m stands terms asked plain laws f start begins from.earlier path from.trail in
      let within : path.steps ≤ n = from.within in
      stays.narrow (length from.earlier) (omega (arith, counted, within, few))

  plain_there : (path : PurePath S) (from : From path) → keeps_plain → Each (IsAtSimple p) from.earlier → IsPlainPath plain (grown (length from.earlier) 0) path
  plain_there path from keeps simple = stays.plain_path start path from.earlier 0 from.trail (from.simple keeps) simple (narrow_there path from) begins.starts_plain

  -- no path is unknown, no condition is outside, and no failing term has another form
  refutes_unknown : (path : PurePath S) (from : From path) → keeps_plain → Each (IsAtSimple p) from.earlier → IsUnknown path.ending → ⊥
  refutes_unknown path from keeps simple =
      stays.known start path from.earlier 0 from.trail (from.simple keeps) simple (narrow_there path from) begins.starts_plain (λ holds. subst IsUnknown begins.first.going holds)

  refutes_list : (path : PurePath S) (from : From path) → keeps_plain → Each (IsAtSimple p) from.earlier → (q : PureQuery) → IsListOutside (lists_of path) q → ⊥
  refutes_list path from keeps simple q list =
      let (a, (at, out)) = list.keeps in
      let b : ℕ = grown (length from.earlier) 0 in
      true≢false (sym out ∙ atom_passes b a (narrow_there path from) (each_at (IsDecidedWithin (neg_ℤ (pos b)) (pos b)) path.conds q.outside a (plain_there path from keeps simple).conds at))

  refutes_term : (path : PurePath S) (from : From path) → keeps_plain → Each (IsAtSimple p) from.earlier → (thrown : Bool) (t : PureTerm) (place : Place) → path.ending ≡ Some (failure thrown t place) → is_narrow_term t ≡ true
  refutes_term path from keeps simple thrown t place ending =
      let b : ℕ = grown (length from.earlier) 0 in
      term_is_narrow b t (narrow_there path from) (subst (Each (IsPlainWithin (neg_ℤ (pos b)) (pos b))) (ap end_terms ending ∙ failure_terms thrown t place) (plain_there path from keeps simple).ending).0

  -- the actions on the way need only literal forms that matter to them
  forms_of : (path : PurePath S) (from : From path) (last : LastStep path from.earlier) → EachStep (NeedsWhatMatters p stands depends) (last.before ∷ last.rest) path
  forms_of path from last = subst (λ before. EachStep (NeedsWhatMatters p stands depends) before path) last.is from.forms

  -- ---- the path's own list

  own_list : (path : PurePath S) (how : PureEnd) → (from : From path) → path.ending ≡ Some how → (last : LastStep path from.earlier) → (place : Place) → EndsAt place how → (i : ℕ) (us : List PureValue) → ComesAlong p m f us (length last.rest) place path.choices
      → (keeps_plain → MeetsOther p m f us (length last.rest)) → IsOutsideAt path.conds i → Undecided (about path place path.conds i)
  own_list path how from ending last place there i us come others outside =
      subst (λ atoms. Undecided (about path place atoms i)) (append-nil path.conds)
      (is_undecided p m stands terms asked plain laws f start begins n entry last.before last.rest path last.next last.trail how ending from.within depends (forms_of path from last) place there [] i us come (λ vs v has meets. refl) (inl (append-nil path.conds))
      (subst (λ atoms. IsOutsideAt atoms i) (sym (append-nil path.conds)) outside) keeps_plain others)

  -- a run meets a command of another form, where simple commands alone are impossible
  others_of : (path : PurePath S) (from : From path) (last : LastStep path from.earlier) (us : List PureValue) → Each (IsAtSimple p) (last.before ∷ last.rest) ⊎ MeetsOther p m f us (length last.rest)
      → (keeps_plain → Each (IsAtSimple p) from.earlier → ⊥) → keeps_plain → MeetsOther p m f us (length last.rest)
  others_of path from last us (inl simple) impossible keeps = absurd (impossible keeps (subst (Each (IsAtSimple p)) (sym last.is) simple))
  others_of path from last us (inr other) impossible keeps = other

  unknown_is_undecided : (path : PurePath S) (place : Place) (reason : Reason) (q : PureQuery) → Ended path → path.ending ≡ Some (unknown place reason) → IsAbout (lists_of path) place q → q.query ≡ path.conds → q.outside ≡ place_of reason → Undecided q
  unknown_is_undecided path place reason q ended ending is query outside =
      let from = from_of path (unknown place reason) ended ending refl in
      let last = last_step path (unknown place reason) from.earlier from.trail ending in
      let rightly : IsRightlyUnknown p last.before path (Some (unknown place reason)) = subst (IsRightlyUnknown p last.before path) ending last.next.unknown_rightly in
      let (not_inside, first, here, more) = rightly in
      let (us, (come, either)) = come_unknown p m stands terms asked plain laws f start begins n entry last.before last.rest path last.next last.trail (unknown place reason) ending from.within place here in
      is_about path place q path.conds (place_of reason) is query outside
      (own_list path (unknown place reason) from ending last place refl (place_of reason) us come
      (others_of path from last us either (λ keeps simple. refutes_unknown path from keeps simple (subst IsUnknown (sym ending) tt)))
      (not_inside, (reason, (first, refl))))

  -- how a run comes to the last command of a failing path
  module _ (path : PurePath S) (how : PureEnd) (from : From path) (ending : path.ending ≡ Some how) (known : IsUnknown (Some how) → ⊥) (last : LastStep path from.earlier) (place : Place)
      (fails_there : (v : List PureValue) (e : End) (s : State) → StandsForEnd p m stands path v s how e → (w : PureValue) × (told e.ending ≡ machine.failed w place)) where
    comes_failing : (us : List PureValue) × (ComesAlong p m f us (length last.rest) place path.choices × (Each (IsAtSimple p) (last.before ∷ last.rest) ⊎ MeetsOther p m f us (length last.rest)))
    comes_failing =
        let (v, canonical) = has_canonical p m stands terms asked plain laws f start begins (last.before ∷ last.rest) path (last.next, last.trail) (λ holds. known (subst IsUnknown ending holds)) in
        (draws_among path.vars v, come_failing p m stands terms asked plain laws f start begins n entry last.before last.rest path last.next last.trail how ending from.within v canonical known place (fails_there v))

    outside_is_undecided : EndsAt place how → (q : PureQuery) → IsAbout (lists_of path) place q → IsListOutside (lists_of path) q → Undecided q
    outside_is_undecided there q is list =
        let (us, (come, either)) = comes_failing in
        is_about path place q path.conds q.outside is list.query refl
        (own_list path how from ending last place there q.outside us come (others_of path from last us either (λ keeps simple. refutes_list path from keeps simple q list)) list.outside)

  failing_end : (path : PurePath S) (thrown : Bool) (t : PureTerm) (place : Place) (v : List PureValue) (e : End) (s : State) → StandsForEnd p m stands path v s (failure thrown t place) e → (w : PureValue) × (told e.ending ≡ machine.failed w place)
  failing_end path thrown t place v e s stood = let (w, (val, is)) = failure_ends thrown p m v s t place e.ending stood.ending in (w, is)

  missing_end : (path : PurePath S) (key : _) (place : Place) (v : List PureValue) (e : End) (s : State) → StandsForEnd p m stands path v s (missed key place) e → (w : PureValue) × (told e.ending ≡ machine.failed w place)
  missing_end path key place v e s stood = let (k, (val, miss, is)) = stood.ending in (text (codes "missing"), ap told is)

  -- ---- a failing value that leaves 128 bits

  module _ (path : PurePath S) (thrown : Bool) (t : PureTerm) (place : Place) (from : From path) (ending : path.ending ≡ Some (failure thrown t place)) (last : LastStep path from.earlier) where
    known : IsUnknown path.ending → ⊥
    known holds = failure_known thrown t place (subst IsUnknown ending holds)

    trail : IsTrail p m stands terms asked start (last.before ∷ last.rest) path
    trail = (last.next, last.trail)

    -- the end of a run whose valuation meets the conditions
    fails_with : (us v : List PureValue) → HaveValuation path.vars us v → IsTrue (all_true v path.conds)
        → (s : State) × ((e : End) × ((w : PureValue) × (EndsAfter p m us s0 (suc (length last.rest)) s e × (value v t ≡ Some w) × (told e.ending ≡ machine.failed w place))))
    fails_with us v has meets =
        let (s, (e, (after, stood))) = subst (StandsAfter p m stands us s0 start path v (suc (length last.rest))) ending (replayed p m stands terms asked plain laws f start begins us (last.before ∷ last.rest) path v trail has meets known) in
        let (w, (val, is)) = failure_ends thrown p m v s t place e.ending stood.ending in
        (s, (e, (w, (after, val, is))))

    -- a text is narrow
    not_text : is_narrow_term t ≡ false → {X : Type 0} → IsText t ⊎ X → X
    not_text wide_one (inl (why, is)) = absurd (true≢false (sym (ap is_narrow_term is) ∙ wide_one))
    not_text wide_one (inr from) = from

    has_value : (us v : List PureValue) → HaveValuation path.vars us v → IsTrue (all_true v path.conds) → IsTrue (all_true v (opening t ∷ []))
    has_value us v has meets =
        let (s, (e, (w, (after, val, is)))) = fails_with us v has meets in
        ap (λ o. is_some o && true) val

    at_last : (us : List PureValue) (s r : State) (e : End) (w : PureValue) → reached p m us (length last.rest) s0 ≡ Some s → EndsAfter p m us s0 (suc (length last.rest)) r e → told e.ending ≡ machine.failed w place → step p m us s ≡ ends e
    at_last us s r e w reach (inl (j, (same, comes, leads))) is =
        let at_k : length last.rest ≡ j = omega (arith, same) in
        let there : r ≡ s = same_some (sym comes ∙ ap (λ i. reached p m us i s0) (sym at_k) ∙ reach) in
        ap (step p m us) (sym there) ∙ leads
    at_last us s r e w reach (inr (comes, ends_cut)) is = absurd (cut_fails w place (sym (ap (λ (x : End). told x.ending) ends_cut) ∙ is)) where
      cut_fails : (w : PureValue) (place : Place) → machine.cut ≡ machine.failed w place → ⊥
      cut_fails w place unlike = cc

    term_over : IsOverVars path.vars t
    term_over = (subst (AreEachOver path.vars) (ap end_terms ending ∙ failure_terms thrown t place) (is_over p m stands terms asked plain laws f start begins (last.before ∷ last.rest) path trail).ending).0

    -- the term is from the last command
    left_by : (b : Bool) → path.ending ≡ Some (failure b t place) → is_narrow_term t ≡ false → IsFailingBy b m terms last.before last.next.at_command.0.command t
    left_by false is wide_one = not_text wide_one (last.next.origin.failing last.next.at_command.0 t place last.next.at_command.1 is)
    left_by true is wide_one = last.next.origin.throwing last.next.at_command.0 t place last.next.at_command.1 is

    wide_is_undecided : (q : PureQuery) → IsAbout (lists_of path) place q → IsWide (lists_of path) t q → Undecided q
    wide_is_undecided q is wide =
        let atoms : List PureAtom = path.conds ++ opening t ∷ [] in
        let (us, (come, either)) = comes_failing path (failure thrown t place) from ending (failure_known thrown t place) last place (failing_end path thrown t place) in
        let not_narrow : is_narrow_term t ≡ false = not_narrow_by (is_narrow_term t) refl wide.leaves.wide in
        is_about path place q atoms (length path.conds) is wide.query wide.outside
        (is_undecided p m stands terms asked plain laws f start begins n entry last.before last.rest path last.next last.trail (failure thrown t place) ending from.within depends (forms_of path from last) place (failure_there thrown t place) (opening t ∷ []) (length path.conds) us come
        has_value
        (inr (
          opening t,
          (
            refl,
            record {
              term = t;
              asks = refl;
              thrown = thrown;
              ending = ending;
              command = last.next.at_command.0;
              at = last.next.at_command.1;
              from = left_by thrown ending not_narrow;
              fails = λ us v s has whole reach.
                  let meets : IsTrue (all_true v path.conds) = (and_parts (all_true v path.conds) (all_true v (opening t ∷ [])) (sym (list_all-append (truth v) path.conds (opening t ∷ [])) ∙ whole)).0 in
                  let (r, (e, (w, (after, val, fails_so)))) = fails_with us v has meets in
                  (w, (e, (val, at_last us s r e w reach after fails_so, fails_so)));
              not_narrow = not_narrow;
              inside = wide.inside;
              met = wide.leaves.valuation;
              canonical = wide.leaves.canonical;
              moderate = wide.leaves.moderate wide.inside;
              wide = wide.leaves.wide;
            },
          ),
        ))
        (open_is_outside path.conds t wide.inside) keeps_plain
        (others_of path from last us either (λ keeps simple. true≢false (sym (refutes_term path from keeps simple thrown t place ending) ∙ not_narrow)))) where
          not_narrow_by : (b : Bool) → is_narrow_term t ≡ b → IsTrue (has_wide_part wide.leaves.valuation t) → is_narrow_term t ≡ false
          not_narrow_by false holds there = holds
          not_narrow_by true narrow there =
              absurd (true≢false (sym there ∙ narrow_is_held path.vars wide.leaves.valuation t wide.leaves.canonical.own.proper term_over (wide.leaves.moderate wide.inside) narrow))

  -- ---- all of it

  failure_right : (path : PurePath S) (thrown : Bool) (t : PureTerm) (place : Place) (j : PureJudgement) → Ended path → path.ending ≡ Some (failure thrown t place) → IsFailureJudged (lists_of path) (failure thrown t place) place (IsWide (lists_of path) t) j
      → IsRightlyJudged p m stands terms asked depends keeps_plain f n start path j
  failure_right path thrown t place harmless ended ending judged = absurd judged
  failure_right path thrown t place (fails here w inputs) ended ending judged = (
    found_failure path thrown t place here w inputs ended ending judged.0 judged.1,
    found_along path (failure thrown t place) place here w inputs ended ending (failure_no_cut thrown t place) (failure_there thrown t place) judged.0 judged.1,
  )
  failure_right path thrown t place (undecided q) ended ending (is, either) =
      let from = from_of path (failure thrown t place) ended ending (failure_no_cut thrown t place) in
      let last = last_step path (failure thrown t place) from.earlier from.trail ending in
      ⊎_elim
      (λ list. outside_is_undecided path (failure thrown t place) from ending (failure_known thrown t place) last place (failing_end path thrown t place) (failure_there thrown t place) q is list)
      (λ wide. wide_is_undecided path thrown t place from ending last q is wide)
      either

  miss_right : (path : PurePath S) (key : _) (place : Place) (j : PureJudgement) → Ended path → path.ending ≡ Some (missed key place) → IsFailureJudged (lists_of path) (missed key place) place (λ q. ⊥) j
      → IsRightlyJudged p m stands terms asked depends keeps_plain f n start path j
  miss_right path key place harmless ended ending judged = absurd judged
  miss_right path key place (fails here w inputs) ended ending judged =
      (found_miss path key place here w inputs ended ending judged.0 judged.1, found_along path (missed key place) place here w inputs ended ending refl refl judged.0 judged.1)
  miss_right path key place (undecided q) ended ending (is, either) =
      let from = from_of path (missed key place) ended ending refl in
      let last = last_step path (missed key place) from.earlier from.trail ending in
      ⊎_elim
      (λ list. outside_is_undecided path (missed key place) from ending (λ holds. holds) last place (missing_end path key place) refl q is list)
      (λ none. absurd none)
      either

  unknown_right : (path : PurePath S) (place : Place) (reason : Reason) (j : PureJudgement) → Ended path → path.ending ≡ Some (unknown place reason) → IsUnknownJudged (lists_of path) place (place_of reason) j
      → IsRightlyJudged p m stands terms asked depends keeps_plain f n start path j
  unknown_right path place reason harmless ended ending judged = absurd judged
  unknown_right path place reason (fails here w inputs) ended ending judged = absurd judged
  unknown_right path place reason (undecided q) ended ending (is, query, outside) = unknown_is_undecided path place reason q ended ending is query outside

  harmless_right : (path : PurePath S) (j : PureJudgement) → j ≡ harmless → NoFailure path → IsRightlyJudged p m stands terms asked depends keeps_plain f n start path j
  harmless_right path j is so = subst (IsRightlyJudged p m stands terms asked depends keeps_plain f n start path) (sym is) so

  right_at : (path : PurePath S) (o : Option PureEnd) (j : PureJudgement) → Ended path → path.ending ≡ o → IsJudgedEnd path o j → IsRightlyJudged p m stands terms asked depends keeps_plain f n start path j
  right_at path None j ended ending judged = absurd (not_open path ended ending)
  right_at path (Some (returned t)) j ended ending judged = harmless_right path j judged (returned_is_harmless path t ended ending)
  right_at path (Some (failed t place)) j ended ending judged = failure_right path false t place j ended ending judged
  right_at path (Some (threw t place)) j ended ending judged = failure_right path true t place j ended ending judged
  right_at path (Some (missed key place)) j ended ending judged = miss_right path key place j ended ending judged
  right_at path (Some vanished) j ended ending judged = harmless_right path j judged (vanished_is_harmless path ended ending)
  right_at path (Some cut) j ended ending judged = harmless_right path j judged (cut_is_harmless path ended ending)
  right_at path (Some (unknown place reason)) j ended ending judged = unknown_right path place reason j ended ending judged

  pub judged_right : (path : PurePath S) (j : PureJudgement) → Ended path → IsJudgedEnd path path.ending j → IsRightlyJudged p m stands terms asked depends keeps_plain f n start path j
  judged_right path j ended judged = right_at path path.ending j ended refl judged

  -- ---- runs that fail by simple commands alone

  -- under some valuation that follows the run the path's conditions are met
  met_by : (path : PurePath S) (how : PureEnd) → path.ending ≡ Some how → (inputs : List PureValue) → AccountsFor p m stands inputs s0 start [] path
      → (v : List PureValue) × (Extends inputs s0 start path [] v × Satisfies path.vars v path.conds)
  met_by path how ending inputs (v, (ext, inl after)) =
      let (s, (e, (ends_so, stood))) = subst (StandsAfter p m stands inputs s0 start path v path.steps) ending after in
      (v, (ext, record { proper = stood.proper; true_there = stood.meets }))
  met_by path how ending inputs (v, (ext, inr (holds, sat))) = (v, (ext, sat))

  -- the commands on its way are simple
  simple_on_the_way : (path : PurePath S) (how : PureEnd) (from : From path) → path.ending ≡ Some how → (inputs : List PureValue) → FailsSimply p m f inputs n → AccountsFor p m stands inputs s0 start [] path → Each (IsAtSimple p) from.earlier
  simple_on_the_way path how from ending inputs fails_so accounts =
      let (v, (ext, sat)) = met_by path how ending inputs accounts in
      let last = last_step path how from.earlier from.trail ending in
      let along : IsBeside p m stands terms asked inputs [] v s0 start (last.before ∷ last.rest) path =
      record { trail = (last.next, last.trail); going = begins.first.going; over = begins.over; stands_for = begins.stands_for; follows = ext } in
      let (w, (along_before, sat_before)) = laws.end_before inputs [] v s0 start last.before path last.rest along sat in
      ⊎_elim
      (λ simple. subst (Each (IsAtSimple p)) (sym last.is) simple)
      (λ other. absurd (true≢false (sym (fails_so.simple other.steps other.state other.command other.stands) ∙ other.other)))
      (simple_or_other p m stands terms asked laws f start inputs last.rest last.before w last.trail last.next.going last.next.at_command along_before sat_before)

  refutes_failure : (path : PurePath S) (thrown : Bool) (t : PureTerm) (place : Place) (q : PureQuery) → Ended path → path.ending ≡ Some (failure thrown t place) → IsAbout (lists_of path) place q × (IsListOutside (lists_of path) q ⊎ IsWide (lists_of path) t q) → keeps_plain
      → (inputs : List PureValue) → FailsSimply p m f inputs n → AccountsFor p m stands inputs s0 start [] path → ⊥
  refutes_failure path thrown t place q ended ending (is, either) keeps inputs fails_so accounts =
      let from = from_of path (failure thrown t place) ended ending (failure_no_cut thrown t place) in
      let simple = simple_on_the_way path (failure thrown t place) from ending inputs fails_so accounts in
      ⊎_elim
      (λ list. refutes_list path from keeps simple q list)
      (λ wide. true≢false (sym wide.leaves.wide
      ∙ narrow_is_held path.vars wide.leaves.valuation t wide.leaves.canonical.own.proper
      (subst (AreEachOver path.vars) (ap end_terms ending ∙ failure_terms thrown t place) (is_over p m stands terms asked plain laws f start begins from.earlier path from.trail).ending).0
      (wide.leaves.moderate wide.inside) (refutes_term path from keeps simple thrown t place ending)))
      either

  refutes_at : (path : PurePath S) (o : Option PureEnd) (q : PureQuery) → Ended path → path.ending ≡ o → IsJudgedEnd path o (undecided q) → keeps_plain → (inputs : List PureValue) → FailsSimply p m f inputs n
      → AccountsFor p m stands inputs s0 start [] path → ⊥
  refutes_at path None q ended ending judged keeps inputs fails_so accounts = not_open path ended ending
  refutes_at path (Some (returned t)) q ended ending judged keeps inputs fails_so accounts = not_harmless q judged
  refutes_at path (Some vanished) q ended ending judged keeps inputs fails_so accounts = not_harmless q judged
  refutes_at path (Some cut) q ended ending judged keeps inputs fails_so accounts = not_harmless q judged
  refutes_at path (Some (failed t place)) q ended ending judged keeps inputs fails_so accounts = refutes_failure path false t place q ended ending judged keeps inputs fails_so accounts
  refutes_at path (Some (threw t place)) q ended ending judged keeps inputs fails_so accounts = refutes_failure path true t place q ended ending judged keeps inputs fails_so accounts
  refutes_at path (Some (missed key place)) q ended ending (is, either) keeps inputs fails_so accounts =
      let from = from_of path (missed key place) ended ending refl in
      let simple = simple_on_the_way path (missed key place) from ending inputs fails_so accounts in
      ⊎_elim (λ list. refutes_list path from keeps simple q list) (λ none. absurd none) either
  refutes_at path (Some (unknown place reason)) q ended ending judged keeps inputs fails_so accounts =
      let from = from_of path (unknown place reason) ended ending refl in
      refutes_unknown path from keeps (simple_on_the_way path (unknown place reason) from ending inputs fails_so accounts) (subst IsUnknown (sym ending) tt)

  -- no such run is one for which an undecided path accounts
  pub simple_is_decided : (path : PurePath S) (q : PureQuery) → Ended path → IsJudgedEnd path path.ending (undecided q) → keeps_plain → (inputs : List PureValue) → FailsSimply p m f inputs n → AccountsFor p m stands inputs s0 start [] path → ⊥
  simple_is_decided path q ended judged keeps inputs fails_so accounts = refutes_at path path.ending q ended refl judged keeps inputs fails_so accounts
