-- What splits say as they are put together.
use Rattle.std.proofs.Common.{◌≡◌, ◌⊎◌, ⊎_elim, inl, inr, List, ◌++◌, Bool, if◌then◌else◌, Option, Some, None, IsTrue, refl, sym, ap, subst, ◌∙◌}
use Rattle.std.specs.Option.{option_map, option_and_then}
use Rattle.gil_values.specs.Pure.{PureValue}
use Rattle.pure_terms.specs.declared.variables.Sort.{Sort}
use Rattle.pure_terms.specs.Meaning.{all_true}
use Rattle.pure_terms.specs.Pure.{PureAtom}
use Rattle.pure_terms.specs.View.{atoms_view}
use Rattle.sym_model.specs.Alternatives.{Alternatives, Hold, always, alternatives_view}
use Rattle.sym_evaluation.specs.declared.cases.GoodCase.{GoodCase}
use Rattle.sym_evaluation.specs.Pure.{PureGoodCase}
use Rattle.sym_evaluation.specs.View.{good_view}
use Rattle.sym_model.specs.Lists.{Each}
use Rattle.sym_model.proofs.ListLaws.{each_append, one_left, one_right, one_parts}
use Rattle.sym_states.proofs.Conditions.{met_parts, met_both}
use Rattle.sym_matching.specs.declared.splits.Split.{Split}
use Rattle.sym_matching.specs.Meaning.{AreMet, SaysTest, IsReached, Gives, SaysSplit, IsCondition, AreConditions, AreConditionsIfAny, IsTestOver, IsFoundOver, IsSplitOver}
use Rattle.sym_matching.specs.Parts.{Continues}
use Rattle.sym_matching.specs.Pure.{PureTest, PureSplit}
use Rattle.sym_matching.specs.Splitting.{behind_conds, sure, nothing, case_behind, behind, with_result, where_met}
use Rattle.sym_matching.specs.View.{split_by}
use Rattle.sym_matching.proofs.Conditions.{behind_holds, behind_parts, behind_over}

module _ (v : List PureValue) where
  abbrev AllTrue : List PureAtom → Type 0
  AllTrue conds = IsTrue (all_true v conds)

  module _ {X A : Type 0} (Is : X → A → Type 0) where
    case_reached : (conds : List PureAtom) (o : Option (PureGoodCase X)) → AllTrue conds → IsReached v o → IsReached v (option_map (case_behind conds) o)
    case_reached conds None first second = absurd second
    case_reached conds (Some g) first second = met_both v conds g.conds first second

    case_parts : (conds : List PureAtom) (o : Option (PureGoodCase X)) → IsReached v (option_map (case_behind conds) o) → AllTrue conds × IsReached v o
    case_parts conds None reached = absurd reached
    case_parts conds (Some g) reached = met_parts v conds g.conds reached

    case_gives : (conds : List PureAtom) (o : Option (PureGoodCase X)) (p : Option A) → Gives Is o p → Gives Is (option_map (case_behind conds) o) p
    case_gives conds None p gives = absurd gives
    case_gives conds (Some g) p gives = gives

    pub behind_says : (conds : List PureAtom) (none : Alternatives) (next : PureSplit X) (o : Option A) → AllTrue conds ⊎ Hold v none → (AllTrue conds → SaysSplit v Is next o) → (Hold v none → o ≡ None)
        → SaysSplit v Is (behind conds none next) o
    behind_says conds none next o cover found nothing_there = record {
      cover = ⊎_elim
          (λ met. ⊎_elim (λ reached. inl (case_reached conds next.found met reached)) (λ holds. inr (one_right AllTrue none (behind_conds conds next.none) (behind_holds v conds next.none met holds))) (found met).cover)
          (λ holds. inr (one_left AllTrue none (behind_conds conds next.none) holds)) cover;
      found = λ reached. let parts = case_parts conds next.found reached in case_gives conds next.found o ((found parts.0).found parts.1);
      none = λ holds. ⊎_elim nothing_there (λ later. let parts = behind_parts v conds next.none later in (found parts.0).none parts.1) (one_parts AllTrue none (behind_conds conds next.none) holds);
    }

    pub nothing_says : (none : Alternatives) (o : Option A) → Hold v none → (Hold v none → o ≡ None) → SaysSplit v Is (nothing none) o
    nothing_says none o holds is = record { cover = inr holds; found = λ reached. absurd reached; none = is }

    pub never_says : SaysSplit v Is (nothing always) None
    never_says = nothing_says always None (inl refl) (λ holds. refl)

    pub sure_says : (x : X) (a : A) → Is x a → SaysSplit v Is (sure x) (Some a)
    sure_says x a is = record { cover = inl refl; found = λ reached. (a, (refl, is)); none = λ holds. absurd holds }

    met_reached : (x : X) (o : Option (List PureAtom)) → AreMet v o → IsReached v (option_map (with_result x) o)
    met_reached x None met = absurd met
    met_reached x (Some conds) met = met

    reached_met : (x : X) (o : Option (List PureAtom)) → IsReached v (option_map (with_result x) o) → AreMet v o
    reached_met x None reached = absurd reached
    reached_met x (Some conds) reached = reached

    met_gives : (x : X) (a : A) (o : Option (List PureAtom)) (p : Option A) → AreMet v o → p ≡ Some a → Is x a → Gives Is (option_map (with_result x) o) p
    met_gives x a None p met is has = absurd met
    met_gives x a (Some conds) p met is has = (a, (is, has))

    pub met_says : (test : PureTest) (b : Bool) (x : X) (a : A) → SaysTest v test b → Is x a → SaysSplit v Is (where_met test x) (if b then Some a else None)
    met_says test b x a says is = record {
      cover = ⊎_elim (λ met. inl (met_reached x test.when met)) inr says.cover;
      found = λ reached. let met = reached_met x test.when reached in met_gives x a test.when (if b then Some a else None) met (ap (λ c. if c then Some a else None) (says.when met)) is;
      none = λ holds. ap (λ c. if c then Some a else None) (says.otherwise holds);
    }

  -- ---- what comes after

  module _ {X Y A B : Type 0} (Is : X → A → Type 0) (Will : Y → B → Type 0) (Cont : X → PureSplit Y → Type 0) (p : Option A) (f : A → Option B) where
    abbrev Step : Option (PureGoodCase X) → Type 0
    Step o = (g : PureGoodCase X) (next : PureSplit Y) (a : A) → o ≡ Some g → Cont g.result next → Is g.result a → SaysSplit v Will next (f a)

    continues_by : (o : Option (PureGoodCase X)) (none : Alternatives) (whole : PureSplit Y) → IsReached v o ⊎ Hold v none → (IsReached v o → Gives Is o p) → (Hold v none → p ≡ None)
        → Continues Cont o none whole → Step o → SaysSplit v Will whole (option_and_then f p)
    continues_by None none whole cover found is_none is step =
        subst (λ w. SaysSplit v Will w (option_and_then f p)) (sym is)
        (nothing_says Will none (option_and_then f p) (⊎_elim (λ reached. absurd reached) (λ holds. holds) cover) (λ holds. ap (option_and_then f) (is_none holds)))
    continues_by (Some g) none whole cover found is_none (next, (cont, is)) step =
        subst (λ w. SaysSplit v Will w (option_and_then f p)) (sym is)
        (behind_says Will g.conds none next (option_and_then f p) cover
        (λ met. let (a, (is_p, has)) = found met in subst (λ (q : Option A). SaysSplit v Will next (option_and_then f q)) (sym is_p) (step g next a refl cont has))
        (λ holds. ap (option_and_then f) (is_none holds)))

    pub continues_says : (first : PureSplit X) (whole : PureSplit Y) → SaysSplit v Is first p → Continues Cont first.found first.none whole → Step first.found → SaysSplit v Will whole (option_and_then f p)
    continues_says first whole says is step = continues_by first.found first.none whole says.cover says.found says.none is step

-- ---- what they name

module _ (vars : List Sort) {X : Type 0} (Over : X → Type 0) where
  case_over : (conds : List PureAtom) (o : Option (PureGoodCase X)) → AreConditions vars conds → IsFoundOver Over vars o → IsFoundOver Over vars (option_map (case_behind conds) o)
  case_over conds None first second = tt
  case_over conds (Some g) first second = (each_append (IsCondition vars) conds g.conds first second.0, second.1)

  pub behind_splits_over : (conds : List PureAtom) (none : Alternatives) (next : PureSplit X) → AreConditions vars conds → Each (AreConditions vars) none → IsSplitOver Over vars next
      → IsSplitOver Over vars (behind conds none next)
  behind_splits_over conds none next first others over = record {
    found = case_over conds next.found first over.found;
    none = each_append (AreConditions vars) none (behind_conds conds next.none) others (behind_over vars conds next.none first over.none);
  }

  pub never_over : IsSplitOver Over vars (nothing always)
  never_over = record { found = tt; none = (tt, tt) }

  pub sure_over : (x : X) → Over x → IsSplitOver Over vars (sure x)
  sure_over x over = record { found = (tt, over); none = tt }

  met_over_by : (x : X) (o : Option (List PureAtom)) → AreConditionsIfAny vars o → Over x → IsFoundOver Over vars (option_map (with_result x) o)
  met_over_by x None conds over = tt
  met_over_by x (Some conds) first over = (first, over)

  pub met_over : (test : PureTest) (x : X) → IsTestOver vars test → Over x → IsSplitOver Over vars (where_met test x)
  met_over test x of_test over = record { found = met_over_by x test.when of_test.when over; none = of_test.otherwise }

module _ (vars : List Sort) {X Y : Type 0} (Over : X → Type 0) (Will : Y → Type 0) (Cont : X → PureSplit Y → Type 0) where
  abbrev StepOver : Option (PureGoodCase X) → Type 0
  StepOver o = (g : PureGoodCase X) (next : PureSplit Y) → o ≡ Some g → Cont g.result next → Over g.result → IsSplitOver Will vars next

  continues_over_by : (o : Option (PureGoodCase X)) (none : Alternatives) (whole : PureSplit Y) → IsFoundOver Over vars o → Each (AreConditions vars) none → Continues Cont o none whole → StepOver o
      → IsSplitOver Will vars whole
  continues_over_by None none whole over others is step = subst (IsSplitOver Will vars) (sym is) (record { found = tt; none = others })
  continues_over_by (Some g) none whole over others (next, (cont, is)) step =
      subst (IsSplitOver Will vars) (sym is) (behind_splits_over vars Will g.conds none next over.0 others (step g next refl cont over.1))

  pub continues_over : (first : PureSplit X) (whole : PureSplit Y) → IsSplitOver Over vars first → Continues Cont first.found first.none whole → StepOver first.found → IsSplitOver Will vars whole
  continues_over first whole over is step = continues_over_by first.found first.none whole over.found over.none is step

-- ---- results seen as pure data

module _ {T X : Type 0} (seen : T → X) where
  abbrev case_seen : PureGoodCase T → PureGoodCase X
  case_seen g = record { conds = g.conds; result = seen g.result }

  abbrev split_seen : PureSplit T → PureSplit X
  split_seen x = record { found = option_map case_seen x.found; none = x.none }

  seen_twice : (x : Split T) → split_by seen x ≡ split_seen (split_by (λ t. t) x)
  seen_twice x = ap (λ o. record { found = o; none = (split_by seen x).none }) (by x.found)
    where
      by : (o : Option (GoodCase T)) → option_map (good_view seen) o ≡ option_map case_seen (option_map (good_view (λ t. t)) o)
      by None = refl
      by (Some g) = refl

  seen_behind : (conds : List PureAtom) (none : Alternatives) (next : PureSplit T) → split_seen (behind conds none next) ≡ behind conds none (split_seen next)
  seen_behind conds none next = ap (λ o. record { found = o; none = none ++ behind_conds conds next.none }) (by next.found)
    where
      by : (o : Option (PureGoodCase T)) → option_map case_seen (option_map (case_behind conds) o) ≡ option_map (case_behind conds) (option_map case_seen o)
      by None = refl
      by (Some g) = refl

  pub behind_seen : (conds : List PureAtom) (none : Alternatives) (next x : Split T) → split_by (λ t. t) x ≡ behind conds none (split_by (λ t. t) next)
      → split_by seen x ≡ behind conds none (split_by seen next)
  behind_seen conds none next x is =
      seen_twice x ∙ ap split_seen is ∙ seen_behind conds none (split_by (λ t. t) next) ∙ ap (behind conds none) (sym (seen_twice next))

-- ---- what comes after a result, as the code has it

module _ {T U X Y : Type 0} (seen : T → X) (seen_next : U → Y) (Cont : X → PureSplit Y → Type 0) (first : Split T) where
  pub found_continues : (g : GoodCase T) (next whole : Split U) → first.found ≡ Some g → Cont (seen g.result) (split_by seen_next next)
      → split_by (λ t. t) whole ≡ behind (atoms_view g.conds) (alternatives_view first.none) (split_by (λ t. t) next)
      → Continues Cont (split_by seen first).found (split_by seen first).none (split_by seen_next whole)
  found_continues g next whole is cont made =
      subst (λ (o : Option (GoodCase T)). Continues Cont (option_map (good_view seen) o) (alternatives_view first.none) (split_by seen_next whole)) (sym is)
      (split_by seen_next next, (cont, behind_seen seen_next (atoms_view g.conds) (alternatives_view first.none) next whole made))

  pub none_continues : (whole : Split U) → first.found ≡ None → split_by seen_next whole ≡ nothing (alternatives_view first.none)
      → Continues Cont (split_by seen first).found (split_by seen first).none (split_by seen_next whole)
  none_continues whole is made =
      subst (λ (o : Option (GoodCase T)). Continues Cont (option_map (good_view seen) o) (alternatives_view first.none) (split_by seen_next whole)) (sym is) made
