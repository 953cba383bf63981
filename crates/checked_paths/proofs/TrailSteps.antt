-- Checked runs follow trails, by one step after another.
use Rattle.std.proofs.Common.{◌≡◌, ℕ, zero, suc, ◌+◌, List, [], ◌∷◌, ◌++◌, length, Some, refl, sym, ap, subst, ◌∙◌, arith, append-nil, append_assoc}
use Rattle.std.proofs.lemmas.List.{append_cancel_left, length-append}
use Rattle.gil_values.specs.declared.places.Place.{Place}
use Rattle.gil_values.specs.Pure.{PureValue}
use Rattle.gil_syntax.specs.Pure.{PureNumberedCommand, PureParts}
use Rattle.gil_machine.specs.Choices.{with_choice}
use Rattle.gil_machine.specs.State.{State}
use Rattle.gil_machine.specs.Step.{command_at}
use Rattle.mem_model.specs.declared.keys.MemoryName.{MemoryName}
use Rattle.mem_model.specs.Actions.{Actions}
use Rattle.mem_model.specs.Heaps.{Heap}
use Rattle.checked_runs.specs.Checked.{Checked, Outcome, Entry}
use Rattle.pure_terms.specs.declared.variables.Sort.{Sort}
use Rattle.pure_terms.specs.Meaning.{Satisfies, IsOver}
use Rattle.pure_terms.specs.Pure.{PureAtom, term_of}
use Rattle.sym_step.proofs.ExplorationSteps.{meets_part}
use Rattle.sym_model.specs.Laws.{IsMeaning}
use Rattle.sym_model.specs.Lists.{Each}
use Rattle.sym_model.specs.Terms.{StateTerms}
use Rattle.sym_paths.specs.Meaning.{AreFrames, frames_of}
use Rattle.sym_paths.specs.Pure.{PureFrame}
use Rattle.sym_paths.specs.Steps.{counter_after, counter_past, fresh_count, IsPlaceOf}
use Rattle.sym_paths.proofs.Recording.{past_is, fresh_append}
use Rattle.sym_paths.proofs.Silent.{stands_at}
use Rattle.checked_paths.specs.Causes.{PureShown, PureCause, failure, fault, bound, undecided, shown_in}
use Rattle.checked_paths.specs.Exactness.{AreNewValues, IsContinued, HaveMore, CanBeMet, IsUnder, LeadsOn, IsRightCause, IsSurely, LeadsTo}
use Rattle.checked_paths.specs.Meaning.{StandsForChecked, MayGoOn}
use Rattle.checked_paths.specs.Pure.{PureEntry, PureChecking}
use Rattle.checked_paths.proofs.Above.{stands_above}
use Rattle.checked_paths.specs.Trails.{RunsInto, IsTrail, IsTrailStep, IsFollowedBy, IsOutcomeOf, IsDecided}

-- ---- values of new variables

pub as_many : (n : ℕ) (sorts : List Sort) (ws : List PureValue) → AreNewValues n sorts ws → length ws ≡ length sorts
as_many n [] [] are = refl
as_many n (sort ∷ sorts) (w ∷ ws) are = ap suc (as_many (counter_after sort n) sorts ws are.1)
as_many n [] (w ∷ ws) are = absurd are
as_many n (sort ∷ sorts) [] are = absurd are

not_nil : (x : Sort) (xs : List Sort) → x ∷ xs ≡ [] → ⊥
not_nil x xs is = let none : suc (length xs) ≡ 0 = ap length is in omega (arith, none)

-- those of the first new variables, and those of the others
pub record InTwo (n : ℕ) (xs ys : List Sort) (ws : List PureValue) : Type 0 where
  pub first : List PureValue
  pub second : List PureValue
  pub both : ws ≡ first ++ second
  pub first_new : AreNewValues n xs first
  pub second_new : AreNewValues (counter_past xs n) ys second

pub in_two : (n : ℕ) (xs ys : List Sort) (ws : List PureValue) → AreNewValues n (xs ++ ys) ws → InTwo n xs ys ws
in_two n [] ys ws are = record { first = []; second = ws; both = refl; first_new = tt; second_new = are }
in_two n (x ∷ xs) ys (w ∷ ws) are =
    let later = in_two (counter_after x n) xs ys ws are.1 in
    record { first = w ∷ later.first; second = later.second; both = ap (λ us. w ∷ us) later.both; first_new = (are.0, later.first_new); second_new = later.second_new }
in_two n (x ∷ xs) ys [] are = absurd are

-- A valuation that goes on to a later table, in two parts: one that goes on to a table between, and one that goes on from there.
pub record Parts (counter : ℕ) (vars between later : List Sort) (v w : List PureValue) : Type 0 where
  pub part : List PureValue
  pub first : IsContinued counter vars between v part
  pub one_each : length part ≡ length between
  pub second : (n : ℕ) → n ≡ counter_past first.new_vars counter → IsContinued n between later part w
  pub more : List Sort
  pub table : later ≡ between ++ more
  pub values : List PureValue
  pub both : w ≡ part ++ values

pub parts_of : (counter : ℕ) (vars between later : List Sort) (v w : List PureValue) → length v ≡ length vars → HaveMore vars between → HaveMore between later → IsContinued counter vars later v w
    → Parts counter vars between later v w
parts_of counter vars between later v w same (xs, is_between) (ys, is_later) continued =
    let sorts : continued.new_vars ≡ xs ++ ys = append_cancel_left vars continued.new_vars (xs ++ ys) (sym continued.table ∙ is_later ∙ ap (λ us. us ++ ys) is_between ∙ append_assoc vars xs ys) in
    let two : InTwo counter xs ys continued.new_values = in_two counter xs ys continued.new_values (subst (λ us. AreNewValues counter us continued.new_values) sorts continued.in_turn) in
    let values : w ≡ (v ++ two.first) ++ two.second = continued.values ∙ ap (λ us. v ++ us) two.both ∙ sym (append_assoc v two.first two.second) in
    let left : length (v ++ two.first) ≡ length v + length two.first = length-append v two.first in
    let right : length between ≡ length vars + length xs = ap length is_between ∙ length-append vars xs in
    let many : length two.first ≡ length xs = as_many counter xs two.first two.first_new in
    record {
      part = v ++ two.first;
      first = record { new_vars = xs; new_values = two.first; table = is_between; values = refl; in_turn = two.first_new };
      one_each = omega (arith, left, right, many, same);
      second = λ n is. record { new_vars = ys; new_values = two.second; table = is_later; values = values; in_turn = subst (λ k. AreNewValues k ys two.second) (sym is) two.second_new };
      more = ys;
      table = is_later;
      values = two.second;
      both = values;
    }

-- what meets the later conditions meets the earlier ones
pub meets_before : (between later : List Sort) (part w : List PureValue) (more : List Sort) (values : List PureValue) (conds all : List PureAtom) → later ≡ between ++ more → w ≡ part ++ values → length part ≡ length between
    → HaveMore conds all → Each (λ a. IsOver between (term_of a)) conds → Satisfies later w all → Satisfies between part conds
meets_before between later part w more values conds all table both one_each (others, is) over meets =
    meets_part between more part values conds others one_each over
    (subst (Satisfies (between ++ more) (part ++ values)) is (subst (λ u. Satisfies (between ++ more) u all) both (subst (λ xs. Satisfies xs w all) table meets)))

pub more_again : {A : Type 0} (xs ys zs : List A) → HaveMore xs ys → HaveMore ys zs → HaveMore xs zs
more_again xs ys zs (us, first) (vs, second) = (us ++ vs, second ∙ ap (λ k. k ++ vs) first ∙ append_assoc xs us vs)

-- a state stands where the path does
pub place_there : (p : PureParts) (v : List PureValue) (fs : List PureFrame) (s : State) (place : Place) → AreFrames v fs (frames_of s) → IsPlaceOf p fs place
    → (n : PureNumberedCommand) × ((command_at p s.current ≡ Some n) × (place ≡ record { proc = s.current.procedure; at = n.at }))
place_there p v [] s place are is = absurd is
place_there p v (f ∷ fs) s place are (n, (at, is)) = (n, (sym (stands_at p v (f ∷ fs) s are) ∙ at, is ∙ ap (λ q. record { proc = q; at = n.at }) are.0.procedure))

module _ {S : Type 0} (memory : MemoryName) (m : Actions) (stands : S → List PureValue → Heap → Type 0) (terms : S → StateTerms) (meaning : IsMeaning memory stands terms) (p : PureParts) (e : PureEntry) where
  pub trail_vars : (start : PureChecking S) (n : ℕ) (x : PureChecking S) → IsTrail p memory m stands terms e start n x → HaveMore start.path.vars x.path.vars
  trail_vars start zero x trail = ([], ap (λ (y : PureChecking S). y.path.vars) trail ∙ sym (append-nil start.path.vars))
  trail_vars start (suc n) x (before, (trail, step)) = more_again start.path.vars before.path.vars x.path.vars (trail_vars start n before trail) step.followed.table

  pub trail_conds : (start : PureChecking S) (n : ℕ) (x : PureChecking S) → IsTrail p memory m stands terms e start n x → HaveMore start.path.conds x.path.conds
  trail_conds start zero x trail = ([], ap (λ (y : PureChecking S). y.path.conds) trail ∙ sym (append-nil start.path.conds))
  trail_conds start (suc n) x (before, (trail, step)) = more_again start.path.conds before.path.conds x.path.conds (trail_conds start n before trail) step.followed.longer

  module _ (entry : Entry) (start : PureChecking S) (v0 : List PureValue) (c0 : Checked) (standing : StandsForChecked stands e start v0 entry c0) where
    -- the run, and its counter, which counts the new fresh variables
    record IsReached (n : ℕ) (x : PureChecking S) (w : List PureValue) (new_vars : List Sort) : Type 0 where
      pub followed : IsFollowedBy p memory m stands terms e start n x w entry c0
      pub counted : followed.state.machine.counter ≡ counter_past new_vars c0.machine.counter

    nothing_new : (xs : List Sort) (ws : List PureValue) → AreNewValues c0.machine.counter xs ws → xs ≡ [] → (v0 ++ ws ≡ v0) × (counter_past xs c0.machine.counter ≡ c0.machine.counter)
    nothing_new [] [] are none = (append-nil v0, refl)
    nothing_new [] (w ∷ ws) are none = absurd are
    nothing_new (x ∷ xs) ws are none = absurd (not_nil x xs none)

    reached_start : (x : PureChecking S) (w : List PureValue) → x ≡ start → (continued : IsContinued c0.machine.counter start.path.vars x.path.vars v0 w) → IsReached zero x w continued.new_vars
    reached_start x w is continued =
        let none : continued.new_vars ≡ [] = append_cancel_left start.path.vars continued.new_vars [] (sym continued.table ∙ ap (λ (y : PureChecking S). y.path.vars) is ∙ sym (append-nil start.path.vars)) in
        let (same, counter) = nothing_new continued.new_vars continued.new_values continued.in_turn none in
        record {
          followed = record {
            state = c0;
            choices = [];
            runs = (refl, refl);
            choices_are = ap (λ (y : PureChecking S). y.path.choices) is ∙ sym (append-nil start.path.choices);
            stands_for = subst (λ y. StandsForChecked stands e y w entry c0) (sym is) (subst (λ u. StandsForChecked stands e start u entry c0) (sym (continued.values ∙ same)) standing);
          };
          counted = sym counter;
        }

    -- one step more
    reached_next : (n : ℕ) (before x : PureChecking S) (w : List PureValue) (step : IsTrailStep p memory m stands terms e before x) (continued : IsContinued c0.machine.counter start.path.vars x.path.vars v0 w)
        (parts : Parts c0.machine.counter start.path.vars before.path.vars x.path.vars v0 w) → Satisfies x.path.vars w x.path.conds → IsReached n before parts.part parts.first.new_vars → IsReached (suc n) x w continued.new_vars
    reached_next n before x w step continued parts meets reached =
        let c : Checked = reached.followed.state in
        let under : IsUnder stands e before x.path.vars x.path.conds parts.part w entry c = record {
          standing = reached.followed.stands_for;
          above = stands_above memory stands terms meaning e before parts.part entry c reached.followed.stands_for;
          continued = parts.second c.machine.counter reached.counted;
          meets = meets;
        } in
        let on : LeadsOn p memory m stands e before x w entry c under.continued.new_vars = step.followed.exact parts.part w entry c under in
        let sorts : continued.new_vars ≡ parts.first.new_vars ++ under.continued.new_vars =
        append_cancel_left start.path.vars continued.new_vars (parts.first.new_vars ++ under.continued.new_vars)
        (sym continued.table ∙ under.continued.table ∙ ap (λ us. us ++ under.continued.new_vars) parts.first.table ∙ append_assoc start.path.vars parts.first.new_vars under.continued.new_vars) in
        let all : counter_past continued.new_vars c0.machine.counter ≡ c0.machine.counter + fresh_count continued.new_vars = past_is continued.new_vars c0.machine.counter in
        let earlier : counter_past parts.first.new_vars c0.machine.counter ≡ c0.machine.counter + fresh_count parts.first.new_vars = past_is parts.first.new_vars c0.machine.counter in
        let later : counter_past under.continued.new_vars c.machine.counter ≡ c.machine.counter + fresh_count under.continued.new_vars = past_is under.continued.new_vars c.machine.counter in
        let sum : fresh_count continued.new_vars ≡ fresh_count parts.first.new_vars + fresh_count under.continued.new_vars = ap fresh_count sorts ∙ fresh_append parts.first.new_vars under.continued.new_vars in
        record {
          followed = record {
            state = on.state;
            choices = reached.followed.choices ++ with_choice on.chosen [];
            runs = (c, (reached.followed.choices, (on.chosen, (reached.followed.runs, on.leads, refl))));
            choices_are = on.choices ∙ ap (λ k. k ++ with_choice on.chosen []) reached.followed.choices_are ∙ append_assoc start.path.choices reached.followed.choices (with_choice on.chosen []);
            stands_for = on.stands_for;
          };
          counted = omega (arith, on.counted, all, earlier, later, sum, reached.counted);
        }

    reached : (n : ℕ) (x : PureChecking S) (w : List PureValue) → IsTrail p memory m stands terms e start n x → (continued : IsContinued c0.machine.counter start.path.vars x.path.vars v0 w) → Satisfies x.path.vars w x.path.conds
        → IsReached n x w continued.new_vars
    reached zero x w trail continued meets = reached_start x w trail continued
    reached (suc n) x w (before, (trail, step)) continued meets =
        let parts : Parts c0.machine.counter start.path.vars before.path.vars x.path.vars v0 w =
        parts_of c0.machine.counter start.path.vars before.path.vars x.path.vars v0 w standing.path.proper.one_each (trail_vars start n before trail) step.followed.table continued in
        reached_next n before x w step continued parts meets
        (reached n before parts.part trail parts.first
        (meets_before before.path.vars x.path.vars parts.part w parts.more parts.values before.path.conds x.path.conds parts.table parts.both parts.one_each step.followed.longer step.may.over.path.conds meets))

    pub runs_follow_on : (n : ℕ) (x : PureChecking S) (w : List PureValue) → IsTrail p memory m stands terms e start n x → IsContinued c0.machine.counter start.path.vars x.path.vars v0 w → Satisfies x.path.vars w x.path.conds
        → IsFollowedBy p memory m stands terms e start n x w entry c0
    runs_follow_on n x w trail continued meets = (reached n x w trail continued meets).followed

    -- ---- causes

    pub surely_reached : (n : ℕ) (x : PureChecking S) (w : List PureValue) → IsTrail p memory m stands terms e start n x → MayGoOn p terms e x → (shown : PureShown) (Is : List PureValue → Outcome → Type 0)
        → IsSurely p memory m stands e x Is shown → IsContinued c0.machine.counter start.path.vars shown.vars v0 w → Satisfies shown.vars w shown.conds
        → (choices : List ℕ) × (RunsInto p memory m entry c0 n choices shown.place (Is w) × (shown.choices ≡ start.path.choices ++ choices))
    surely_reached n x w trail may shown Is surely continued meets =
        let parts : Parts c0.machine.counter start.path.vars x.path.vars shown.vars v0 w =
        parts_of c0.machine.counter start.path.vars x.path.vars shown.vars v0 w standing.path.proper.one_each (trail_vars start n x trail) surely.at.table continued in
        let there : IsReached n x parts.part parts.first.new_vars =
        reached n x parts.part trail parts.first
        (meets_before x.path.vars shown.vars parts.part w parts.more parts.values x.path.conds shown.conds parts.table parts.both parts.one_each surely.at.longer may.over.path.conds meets) in
        let c : Checked = there.followed.state in
        let leads : LeadsTo p memory m stands e x (Is w) shown entry c = surely.exact parts.part w entry c (record {
          standing = there.followed.stands_for;
          above = stands_above memory stands terms meaning e x parts.part entry c there.followed.stands_for;
          continued = parts.second c.machine.counter there.counted;
          meets = meets;
        }) in (
          there.followed.choices ++ with_choice leads.chosen [],
          (
            record {
              state = c;
              there = place_there p parts.part x.path.stack c.machine shown.place there.followed.stands_for.path.frames surely.at.place;
              earlier = there.followed.choices;
              runs = there.followed.runs;
              chosen = leads.chosen;
              outcome = leads.outcome;
              leads = leads.leads;
              choices_are = refl;
              is = leads.is;
            },
            leads.choices ∙ ap (λ k. k ++ with_choice leads.chosen []) there.followed.choices_are ∙ append_assoc start.path.choices there.followed.choices (with_choice leads.chosen []),
          ),
        )

    pub cause_reached : (n : ℕ) (x : PureChecking S) (w : List PureValue) → IsTrail p memory m stands terms e start n x → MayGoOn p terms e x → (cause : PureCause) → IsRightCause p memory m stands e x cause → IsDecided cause
        → IsContinued c0.machine.counter start.path.vars (shown_in cause).vars v0 w → Satisfies (shown_in cause).vars w (shown_in cause).conds
        → (choices : List ℕ) × (RunsInto p memory m entry c0 n choices (shown_in cause).place (IsOutcomeOf cause w) × ((shown_in cause).choices ≡ start.path.choices ++ choices))
    cause_reached n x w trail may (failure t shown) right decided continued meets = surely_reached n x w trail may shown _ right continued meets
    cause_reached n x w trail may (fault kind shown) right decided continued meets = surely_reached n x w trail may shown _ right continued meets
    cause_reached n x w trail may (bound shown) right decided continued meets = surely_reached n x w trail may shown _ right continued meets
    cause_reached n x w trail may (undecided reason shown) right decided continued meets = absurd decided

  -- ---- what can be met

  pub met_along : (start : PureChecking S) (n : ℕ) (x : PureChecking S) → IsTrail p memory m stands terms e start n x → CanBeMet start x.path.vars x.path.conds
  met_along start zero x trail v meets = subst (λ (y : PureChecking S). (w : List PureValue) × Satisfies y.path.vars w y.path.conds) (sym trail) (v, meets)
  met_along start (suc n) x (before, (trail, step)) v meets = let (w, met) = met_along start n before trail v meets in step.followed.met w met

  pub met_at : (start : PureChecking S) (n : ℕ) (x : PureChecking S) (cause : PureCause) → IsTrail p memory m stands terms e start n x → IsRightCause p memory m stands e x cause → IsDecided cause
      → CanBeMet start (shown_in cause).vars (shown_in cause).conds
  met_at start n x (failure t shown) trail right decided v meets = let (w, met) = met_along start n x trail v meets in right.met w met
  met_at start n x (fault kind shown) trail right decided v meets = let (w, met) = met_along start n x trail v meets in right.met w met
  met_at start n x (bound shown) trail right decided v meets = let (w, met) = met_along start n x trail v meets in right.met w met
  met_at start n x (undecided reason shown) trail right decided v meets = absurd decided
